-- A job that counts at every second tic: whole runs, and runs that stop or freeze on the way.
use Rattle.std.proofs.Common.{refl}
use Rattle.std.specs.Fmt.{digits}
use Rattle.std.specs.Int.{int_wrap}
use Rattle.std.specs.Prelude.{ℤ, pos, int_le, true, false, List, [], ◌∷◌, ◌++◌, codes, Some, None}
use Rattle.trick_lang.specs.Numbers.{number_of}
use Rattle.trick_model.proofs.Samples.{Ends, all_on, cells, effects, plan_of_cells, plus, read, scheduled, stores, turns}
use Rattle.trick_model.specs.Plan.{Plan, Event}
use Rattle.trick_model.specs.Run.{start}
use Rattle.trick_model.specs.State.{number_at}
use Rattle.trick_model.specs.declared.deed.Deed.{Deed}
use Rattle.trick_model.specs.declared.deed.Deed.TheVariants as deed

-- `counter.n` is counted up at tics 0, 2, 4 and 6
abbrev pub counter : Plan
counter = record (plan_of_cells (codes "counter.n" ∷ [])) {
  jobs = scheduled 0 2 0 ∷ [];
  job_names = codes "counter.step" ∷ [];
  effect = effects (stores ((0, plus 0 (pos 1)) ∷ []) ∷ []);
  reads = cells ((0 ∷ []) ∷ []);
  writes = cells ((0 ∷ []) ∷ []);
  jobs_on = all_on 1;
}

pub counter_ends : Ends counter (start counter) (turns 4) (
    (codes "faults.txt", codes "total 0\n")
    ∷ (codes "final.chk", codes "checkpoint = 1;\nturn = 4;\ntic = 7;\nlimit = 7;\nmode = Shutdown;\n" ++ codes "counter.n = 4;\njob[0] = 1;\nfaults = 0;\nend;\n")
    ∷ (codes "journal.txt", codes "tricks journal 1\nfrom 0\nend 4\n")
    ∷ [])
unfolding int_wrap digits
counter_ends = record { goes = refl; over = refl; files = refl }

-- nothing but a stop after tic 0
abbrev pub nothing : Plan
nothing = record (plan_of_cells []) { limit = 1 }

pub nothing_ends : Ends nothing (start nothing) (turns 1) (
    (codes "faults.txt", codes "total 0\n")
    ∷ (codes "final.chk", codes "checkpoint = 1;\nturn = 1;\ntic = 1;\nlimit = 1;\nmode = Shutdown;\nfaults = 0;\nend;\n")
    ∷ (codes "journal.txt", codes "tricks journal 1\nfrom 0\nend 1\n")
    ∷ [])
unfolding int_wrap digits
nothing_ends = record { goes = refl; over = refl; files = refl }

-- ---- events

-- an event with a cycle that does something where the count is at least so much
abbrev pub at_count : ℤ → List Deed → Event
at_count count deeds = record {
  name = codes "e";
  cycle = 1;
  condition = Some (λ m. number_of (int_le count (number_at m 0)));
  reads = record { first = record { 0 = 0 }; last = record { 0 = 0 } } ∷ [];
  actions = (0, deeds) ∷ [];
}

abbrev pub with_event : ℤ → List Deed → Plan
with_event count deeds =
    record counter { limit = 21; events = at_count count deeds ∷ []; events_on = all_on 1 }

-- The event fires before the jobs of tic 4 and freezes the run at the end of that turn; no line comes.
pub frozen_by_event : Ends (with_event (pos 2) (deed.Freeze ∷ [])) (start (with_event (pos 2) (deed.Freeze ∷ []))) (turns 2) (
    (codes "final.chk", codes "checkpoint = 1;\nturn = 2;\ntic = 4;\nlimit = 21;\nmode = Shutdown;\n" ++ codes "counter.n = 2;\njob[0] = 1;\nevent[0] = 0;\nfaults = 0;\nend;\n")
    ∷ (codes "journal.txt", codes "tricks journal 1\nfrom 0\nend 2\n")
    ∷ [])
unfolding int_wrap digits
frozen_by_event = record { goes = refl; over = refl; files = refl }

-- After its actions the event is inactive, even if one of them activates it.
pub fires_once : Ends (with_event (pos 2) (deed.SetCell (record { 0 = 0 }) (pos 0) ∷ deed.SetEvent 0 true ∷ []))
    (start (with_event (pos 2) (deed.SetCell (record { 0 = 0 }) (pos 0) ∷ deed.SetEvent 0 true ∷ []))) (turns 11) (
    (codes "final.chk", codes "checkpoint = 1;\nturn = 11;\ntic = 21;\nlimit = 21;\nmode = Shutdown;\n" ++ codes "counter.n = 9;\njob[0] = 1;\nevent[0] = 0;\nfaults = 0;\nend;\n") ∷ [])
unfolding int_wrap digits
fires_once = record { goes = refl; over = refl; files = refl }

-- a stop within a frame of four tics, at tic 5: this tic still runs, and no later one
abbrev pub stopped_early : Plan
stopped_early = record (with_event (pos 3) (deed.Stop None ∷ [])) {
  frame = 4;
  groups = record { name = codes "g"; cycle = 1; changes = false; cells = record { 0 = 0 } ∷ [] } ∷ [];
  groups_on = all_on 1;
}

pub stopped_by_event : Ends stopped_early (start stopped_early) (turns 2) (
    (codes "final.chk", codes "checkpoint = 1;\nturn = 2;\ntic = 6;\nlimit = 6;\nmode = Shutdown;\n" ++ codes "counter.n = 3;\njob[0] = 1;\nevent[0] = 0;\ngroup[0] = 1;\nfaults = 0;\nend;\n")
    ∷ (codes "journal.txt", codes "tricks journal 1\nfrom 0\nend 2\n")
    ∷ (codes "log_g.csv", codes "tic,counter.n\n0,1\n1,1\n2,2\n3,2\n4,3\n5,3\n")
    ∷ [])
unfolding int_wrap digits
stopped_by_event = record { goes = refl; over = refl; files = refl }

-- A read lowers the limit within a frame, and a later one may raise it again.
abbrev pub stopped_by_read : Plan
stopped_by_read = record counter { frame = 8; read_ats = read 1 (deed.Stop (Some 3) ∷ []) ∷ read 3 (deed.Stop (Some 5) ∷ []) ∷ [] }

pub limit_moves : Ends stopped_by_read (start stopped_by_read) (turns 1) (
    (codes "final.chk", codes "checkpoint = 1;\nturn = 1;\ntic = 6;\nlimit = 6;\nmode = Shutdown;\n" ++ codes "counter.n = 3;\njob[0] = 1;\nfaults = 0;\nend;\n")
    ∷ [])
unfolding int_wrap digits
limit_moves = record { goes = refl; over = refl; files = refl }
