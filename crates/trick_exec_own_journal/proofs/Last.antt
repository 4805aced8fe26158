-- A run from the last state of a run.
use Rattle.std.proofs.Common.{◌≡◌, ◌∙◌, ℕ, ◌-◌, ◌≤◌, List, [], ◌++◌, Bool, true, false, not, ◌&&◌, ap, arith, refl, subst, sym}
use Rattle.std.specs.Prelude.{◌||◌, Option, codes, nat_le}
use Rattle.trick_base.proofs.ContentLemmas.{content-append}
use Rattle.trick_base.specs.Content.{content}
use Rattle.trick_exec_own_journal.specs.Last.{LastGoesNoFurther}
use Rattle.trick_lang.specs.declared.class.Class.TheVariants as class
use Rattle.trick_model.specs.Files.{end_writes, file, start_writes, turns_writes}
use Rattle.trick_model.specs.Journal.{Noted, lists_from, live_before, with_joins}
use Rattle.trick_model.specs.Plan.{Plan}
use Rattle.trick_model.specs.Run.{Fits, after_turns, final, has_session_entry, is_over, is_shut, lists_of, opened, shut}
use Rattle.trick_model.specs.Running.{run_class}
use Rattle.trick_model.specs.State.{State}
use Rattle.trick_model.specs.Turn.{is_frozen}
use Rattle.trick_model.specs.declared.entry.Entry.{Entry}
use Rattle.trick_model.specs.declared.mode.Mode.TheVariants as mode
use Rattle.trick_model.specs.declared.mode.Mode.{Mode}
use Rattle.trick_model_remainder.proofs.Ends.{end_faults, end_final}

-- the last state is shut
is_shut_then : (p : Plan) (s : State) → is_shut (shut p s).mode ≡ true
is_shut_then p s = by (is_shut s.mode) refl
  where
    by : (b : Bool) → is_shut s.mode ≡ b
        → (let t : State = elim b [ true ↦ s | false ↦ run_class p class.Shutdown (record s { mode = mode.Shutdown }) ] in is_shut t.mode ≡ true)
    by true e = e
    by false e = refl

-- what is shut is over, and stays as it is
shut_over : (s : State) → is_shut s.mode ≡ true → is_over s [] ≡ true
shut_over s e = ap (λ (b : Bool). b || (nat_le s.limit s.tic || (is_frozen s.mode && not (has_session_entry [])))) e

shut_again : (p : Plan) (s : State) → is_shut s.mode ≡ true → shut p s ≡ s
shut_again p s e =
    ap (λ (b : Bool). let t : State = elim b [ true ↦ s | false ↦ run_class p class.Shutdown (record s { mode = mode.Shutdown }) ] in t) e

-- no turn is left
no_turn_left : (entries : List Noted) (end start : ℕ) (begun : Mode) → end ≤ start → lists_of entries end start begun ≡ []
no_turn_left entries end start begun most =
    ap (λ (count : ℕ). let lists : List (List Entry) = elim (is_frozen begun && not (has_session_entry (lists_from start count entries))) [
      | true ↦ lists_from start count entries
      | false ↦ with_joins (live_before start entries []) (lists_from start count entries)
    ] in lists) (none_left end start most)
    ∙ by (is_frozen begun && true)
  where
    none_left : (a b : ℕ) → a ≤ b → a - b ≡ 0
    none_left a b most = omega (arith, most)

    by : (b : Bool) → (let lists : List (List Entry) = elim b [ true ↦ [] | false ↦ [] ] in lists) ≡ []
    by true = refl
    by false = refl

-- the last files of a run are those of its last state
last_file : (p : Plan) (s : State) (lists : List (List Entry)) (name : List ℕ) (before : Option (List ℕ))
    → file name p s lists before
    ≡ content name (end_writes p (final p s lists)) (content name (start_writes p s.turn ++ turns_writes p (opened s) lists) before)
last_file p s lists name before = content-append name (start_writes p s.turn ++ turns_writes p (opened s) lists) (end_writes p (final p s lists)) before

pub no_further : LastGoesNoFurther
no_further p s lists entries end most =
    let last = final p s lists in
    let none : lists_of entries end last.turn last.mode ≡ [] = no_turn_left entries end last.turn last.mode most in
    let over : is_shut last.mode ≡ true = is_shut_then p (after_turns p (opened s) lists).state in
    let ends : final p last [] ≡ last = shut_again p last over in
    let fits : Fits p last [] = record { goes = refl; over = shut_over last over } in
    let same : final p last (lists_of entries end last.turn last.mode) ≡ last = ap (λ (ls : List (List Entry)). final p last ls) none ∙ ends in
    let more = lists_of entries end last.turn last.mode in
    record {
      fits = subst (λ (ls : List (List Entry)). Fits p last ls) (sym none) fits;
      ends = same;
      last = λ before later.
          last_file p s lists (codes "final.chk") before
          ∙ end_final p last (content (codes "final.chk") (start_writes p s.turn ++ turns_writes p (opened s) lists) before)
          (content (codes "final.chk") (start_writes p last.turn ++ turns_writes p (opened last) more) later)
          ∙ ap (λ (t : State). content (codes "final.chk") (end_writes p t) (content (codes "final.chk") (start_writes p last.turn ++ turns_writes p (opened last) more) later)) (sym same)
          ∙ sym (last_file p last more (codes "final.chk") later);
      faults = λ before later.
          last_file p s lists (codes "faults.txt") before
          ∙ end_faults p last (content (codes "faults.txt") (start_writes p s.turn ++ turns_writes p (opened s) lists) before)
          (content (codes "faults.txt") (start_writes p last.turn ++ turns_writes p (opened last) more) later)
          ∙ ap (λ (t : State). content (codes "faults.txt") (end_writes p t) (content (codes "faults.txt") (start_writes p last.turn ++ turns_writes p (opened last) more) later)) (sym same)
          ∙ sym (last_file p last more (codes "faults.txt") later);
    }
