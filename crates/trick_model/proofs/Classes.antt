-- Jobs of all classes, each at its moment; a freeze by an event, and out of it by a client.
use Rattle.std.proofs.Common.{refl}
use Rattle.std.specs.Fmt.{digits}
use Rattle.std.specs.Int.{int_wrap, int_rem_euclid}
use Rattle.std.specs.Ordering.{int_eq}
use Rattle.std.specs.Prelude.{◌≡◌, ℕ, ℤ, Bool, pos, ◌+ℤ◌, ◌*ℤ◌, ◌-ℤ◌, neg_ℤ, int_le, not, ◌&&◌, List, [], ◌∷◌, ◌++◌, codes, Some}
use Rattle.trick_lang.specs.Numbers.{number_of}
use Rattle.trick_lang.specs.Wrap.{wrap}
use Rattle.trick_lang.specs.declared.class.Class.TheVariants as class
use Rattle.trick_lang.specs.declared.scalar.Scalar.TheVariants as scalar
use Rattle.trick_model.proofs.Samples.{Effect, Ends, all_on, effects, job, one_of, plan_of_cells, plus, scheduled, stores}
use Rattle.trick_model.specs.Files.{session_text}
use Rattle.trick_model.specs.Journal.{Noted}
use Rattle.trick_model.specs.Plan.{Plan, Event}
use Rattle.trick_model.specs.Run.{lists_of, start}
use Rattle.trick_model.specs.State.{number_at}
use Rattle.trick_model.specs.declared.deed.Deed.TheVariants as deed
use Rattle.trick_model.specs.declared.entry.Entry.TheVariants.{Join, Said}
use Rattle.trick_model.specs.declared.mode.Mode.TheVariants as mode
use Rattle.trick_text.specs.Pieces as pieces

-- a cell gets a digit more, to a base
abbrev pub digit : ℕ → ℤ → ℤ → Effect
digit cell base n = stores ((cell, λ m. (number_at m cell *ℤ base) +ℤ n) ∷ [])

-- whether a is even
abbrev pub is_even : List ℤ → Bool
is_even m = int_eq (int_rem_euclid (number_at m 0) (pos 2)) (pos 0)

-- One job of each class; c is a `char`. The one of class scheduled is due at each second tic from 1 on.
abbrev pub all_effects : List Effect
all_effects =
    digit 0 (pos 10) (pos 1) ∷ digit 0 (pos 10) (pos 2) ∷ digit 1 (pos 3) (pos 1) ∷ digit 1 (pos 3) (pos 2)
    ∷ stores ((2, λ m. wrap scalar.Char (number_at m 2 +ℤ pos 100)) ∷ [])
    ∷ stores ((2, λ m. wrap scalar.Char (number_at m 2 -ℤ pos 7)) ∷ [])
    ∷ stores ((0, plus 0 (pos 1000)) ∷ [])
    ∷ stores ((0, λ m. pos 0) ∷ [])
    ∷ stores ((0, λ m. neg_ℤ (number_at m 0)) ∷ [])
    ∷ one_of is_even (stores ((0, plus 0 (pos 1)) ∷ []))
    (stores ((0, plus 0 (pos 1)) ∷ (1, λ m. number_at m 1 -ℤ number_at m 2) ∷ []))
    ∷ []

-- it fires where a is 15 at least and s is not 0, sets both, and asks for Freeze
abbrev pub freezing : Event
freezing = record {
  name = codes "e";
  cycle = 1;
  condition = Some (λ m. number_of (int_le (pos 15) (number_at m 0) && not (int_eq (number_at m 1) (pos 0))));
  reads = [];
  actions =
      (0, deed.SetCell (record { 0 = 0 }) (pos 16) ∷ [])
      ∷ (1, deed.Freeze ∷ deed.SetCell (record { 0 = 1 }) (pos 100) ∷ []) ∷ [];
}

abbrev pub classes : Plan
classes = record (plan_of_cells (codes "o.a" ∷ codes "o.s" ∷ codes "o.c" ∷ [])) {
  scalars = scalar.Long ∷ scalar.Long ∷ scalar.Char ∷ [];
  frame = 3;
  limit = 12;
  jobs =
      job class.DefaultData 0 ∷ job class.Initialization 1 ∷ job class.TopOfFrame 2 ∷ job class.EndOfFrame 3
      ∷ job class.Freeze 4 ∷ job class.Unfreeze 5 ∷ job class.Checkpoint 6 ∷ job class.Restart 7
      ∷ job class.Shutdown 8 ∷ record (scheduled 0 2 9) { start = 1 } ∷ [];
  job_names =
      codes "o.d" ∷ codes "o.i" ∷ codes "o.top" ∷ codes "o.bot" ∷ codes "o.fr" ∷ codes "o.un" ∷ codes "o.ck"
      ∷ codes "o.re" ∷ codes "o.sh" ∷ codes "o.sc" ∷ [];
  effect = effects all_effects;
  events = freezing ∷ [];
  jobs_on = all_on 10;
  events_on = all_on 1;
}

-- a client that asks for a checkpoint, leaves Freeze, asks for it again, and leaves it once more
abbrev pub client : List Noted
client =
    (1, Join 3) ∷ (1, Said 3 (codes "trick.var_add(\"o.c\")")) ∷ (2, Said 3 (codes "trick.checkpoint()"))
    ∷ (3, Said 3 (codes "trick.exec_run()")) ∷ (3, Said 3 (codes "trick.activate_event(\"e\")"))
    ∷ (3, Said 3 (codes "trick.exec_freeze()")) ∷ (3, Said 3 (codes "trick.var_send()"))
    ∷ (4, Said 3 (codes "trick.exec_set_job_onoff(\"o.top\", 1, 0)")) ∷ (4, Said 3 (codes "o.c = 300"))
    ∷ (4, Said 3 (codes "trick.exec_run()")) ∷ (4, Said 3 (codes "trick.deactivate_event(\"e\")")) ∷ []

pub classes_end : Ends classes (start classes) (lists_of client 5 0 mode.Run) (
    (codes "chkpnt_3.chk", codes "checkpoint = 1;\nturn = 3;\ntic = 9;\nlimit = 12;\nmode = Freeze;\no.a = 1017;\no.s = 302;\no.c = 100;\n" ++ codes "job[0] = 1;\njob[1] = 1;\njob[2] = 1;\njob[3] = 1;\njob[4] = 1;\njob[5] = 1;\njob[6] = 1;\njob[7] = 1;\n" ++ codes "job[8] = 1;\njob[9] = 1;\nevent[0] = 0;\nfaults = 0;\nend;\n")
    ∷ (codes "final.chk", codes "checkpoint = 1;\nturn = 5;\ntic = 12;\nlimit = 12;\nmode = Shutdown;\no.a = -1019;\no.s = 1118;\no.c = -70;\n" ++ codes "job[0] = 1;\njob[1] = 1;\njob[2] = 0;\njob[3] = 1;\njob[4] = 1;\njob[5] = 1;\njob[6] = 1;\njob[7] = 1;\n" ++ codes "job[8] = 1;\njob[9] = 1;\nevent[0] = 0;\nfaults = 0;\nend;\n")
    ∷ [])
unfolding int_wrap digits pieces.front pieces.name_front pieces.number_front pieces.mark_len pieces.text_front
classes_end = record { goes = refl; over = refl; files = refl }

-- A number that is no `char` is a bad command.
pub client_is_told : session_text classes (start classes) (lists_of client 5 0 mode.Run) 3 ≡ (codes "0\t-63\n" ∷ codes "4\tbad command\n" ∷ [])
unfolding int_wrap digits pieces.front pieces.name_front pieces.number_front pieces.mark_len pieces.text_front
client_is_told = refl
