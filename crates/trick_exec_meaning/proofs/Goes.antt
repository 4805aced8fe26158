-- A run goes on by one turn more, and is that of a journal that is told.
use Rattle.std.proofs.Common.{◌≡◌, ◌∙◌, ℕ, ◌<◌, List, [], ◌∷◌, ◌++◌, Bool, true, false, not, ◌&&◌, ap, arith, refl, subst, sym}
use Rattle.std.proofs.lemmas.Bool.{and_from}
use Rattle.std.proofs.lemmas.Bool.Decides.{nat_tests}
use Rattle.std.proofs.lemmas.List.Folds.{list_any-append}
use Rattle.std.specs.Prelude.{◌||◌, cond, filter, nat_le, IsTrue}
use Rattle.trick_base.proofs.Truths.{first_holds, second_holds}
use Rattle.trick_model.specs.Journal.{is_of_session}
use Rattle.trick_model.specs.Plan.{Plan}
use Rattle.trick_model.specs.Run.{Lasts, after_turns, goes_on, has_session_entry, is_over, is_shut, next_of, on, over, rest_of}
use Rattle.trick_model.specs.State.{State, World}
use Rattle.trick_model.specs.Turn.{is_frozen, turn}
use Rattle.trick_model.specs.declared.entry.Entry.{Entry}
use Rattle.trick_model.specs.declared.mode.Mode.{Mode}
use Rattle.trick_model.specs.declared.mode.Mode.TheVariants as mode
use Rattle.trick_exec_meaning.specs.Answers.{given}
use Rattle.trick_exec_meaning.specs.Follows.{Follows}
use Rattle.trick_exec_meaning.specs.Goes.{Waits, goes_owing, is_over_owing, left_of}
use Rattle.trick_exec_sources.specs.Turns.{Told, behind, has_line, owes_after}

-- ---- lines

has_more : (b : Bool) (more rest : Bool) → b ≡ true → more ≡ rest → (b || more) ≡ (true || rest)
has_more b more rest is same = ap (λ (x : Bool). x || more) is

line_given : (b : Bool) (entry : Entry) (entries : List Entry) → is_of_session entry ≡ b
    → has_line (filter is_of_session entries) ≡ has_line entries
    → has_line (cond b (entry ∷ filter is_of_session entries) (filter is_of_session entries)) ≡ (b || has_line entries)
line_given true entry entries is more = ap (λ (b : Bool). b || has_line (filter is_of_session entries)) is
line_given false entry entries is more = more

lines_given : (entries : List Entry) → has_line (filter is_of_session entries) ≡ has_line entries
lines_given [] = refl
lines_given (entry ∷ entries) = line_given (is_of_session entry) entry entries refl (lines_given entries)

-- what a source gave has a line where the turn's entries have one
pub given_lines : (decides : Bool) (entries : List Entry) → has_line (given decides entries) ≡ has_line entries
given_lines true entries = refl
given_lines false entries = lines_given entries

has_join : (early late : List (List Entry)) → has_session_entry (early ++ late) ≡ (has_session_entry early || has_session_entry late)
has_join early late = list_any-append has_line early late

pub has_one : (lists : List (List Entry)) (entries : List Entry) → has_session_entry (lists ++ entries ∷ []) ≡ (has_session_entry lists || (has_line entries || false))
has_one lists entries = has_join lists (entries ∷ [])

-- ---- one turn more

-- before this turn the run was not over, and so it is with another turn after
still : (shut out frozen owed had now has : Bool) → not (shut || (out || (frozen && not (owed || had)))) ≡ true
    → ((owed || had) ≡ true → (now || has) ≡ true) → not (shut || (out || (frozen && not (now || has)))) ≡ true
still true out frozen owed had now has e more = cc e
still false true frozen owed had now has e more = cc e
still false false false owed had now has e more = refl
still false false true true had now has e more = ap (λ (b : Bool). not (not b)) (more refl)
still false false true false true now has e more = ap (λ (b : Bool). not (not b)) (more refl)
still false false true false false now has e more = cc e

-- what an earlier turn needs is there, or still owed
owed_still : (owed had line frozen : Bool) → (owed || had) ≡ true → (cond line false (cond frozen true owed) || (had || (line || false))) ≡ true
owed_still true had true frozen e = line_there had
  where
    line_there : (b : Bool) → (b || true) ≡ true
    line_there true = refl
    line_there false = refl
owed_still true had false true e = refl
owed_still true had false false e = refl
owed_still false true true frozen e = refl
owed_still false true false true e = refl
owed_still false true false false e = refl
owed_still false false line frozen e = cc e

-- a list in Freeze has a line, or one is owed from then on
first_owed : (shut out frozen owed line : Bool) → shut ≡ false → out ≡ false
    → not (shut || (out || (frozen && not (cond line false (cond frozen true owed) || (line || false))))) ≡ true
first_owed true out frozen owed line s o = cc s
first_owed false true frozen owed line s o = cc o
first_owed false false false owed line s o = refl
first_owed false false true owed true s o = refl
first_owed false false true owed false s o = refl

pub goes_one : (p : Plan) (w : World) (lists : List (List Entry)) (entries : List Entry) (owed : Bool) → IsTrue (goes_owing owed p w lists)
    → is_shut (after_turns p w lists).state.mode ≡ false → nat_le (after_turns p w lists).state.limit (after_turns p w lists).state.tic ≡ false
    → IsTrue (goes_owing (owes_after (after_turns p w lists).state.mode entries owed) p w (lists ++ entries ∷ []))
goes_one p w [] entries owed goes alive below =
    and_from (not (is_over_owing (owes_after w.state.mode entries owed) w.state (entries ∷ []))) true
    (first_owed (is_shut w.state.mode) (nat_le w.state.limit w.state.tic) (is_frozen w.state.mode) owed (has_line entries) alive below) refl
goes_one p w (first ∷ lists) entries owed goes alive below =
    let s = w.state in
    let next = (turn p w first).world in
    let end = (after_turns p next lists).state in
    let now = owes_after end.mode entries owed in
    let had = has_session_entry (first ∷ lists) in
    let here : not (is_over_owing owed s (first ∷ lists)) ≡ true = first_holds (not (is_over_owing owed s (first ∷ lists))) (goes_owing owed p next lists) goes in
    let rest : goes_owing owed p next lists ≡ true = second_holds (not (is_over_owing owed s (first ∷ lists))) (goes_owing owed p next lists) goes in
    let grows : has_session_entry ((first ∷ lists) ++ entries ∷ []) ≡ (had || (has_line entries || false)) = has_one (first ∷ lists) entries in
    and_from (not (is_over_owing now s ((first ∷ lists) ++ entries ∷ []))) (goes_owing now p next (lists ++ entries ∷ []))
    (still (is_shut s.mode) (nat_le s.limit s.tic) (is_frozen s.mode) owed had now (has_session_entry ((first ∷ lists) ++ entries ∷ [])) here
    (λ e. ap (λ (b : Bool). now || b) grows ∙ owed_still owed had (has_line entries) (is_frozen end.mode) e))
    (goes_one p next lists entries owed rest alive below)

-- the same where a list with the same lines was given
owes_same : (s : State) (entries list : List Entry) (owed : Bool) → has_line list ≡ has_line entries → owes_after s.mode list owed ≡ owes_after s.mode entries owed
owes_same s entries list owed same = ap (λ (b : Bool). cond b false (cond (is_frozen s.mode) true owed)) same

pub goes_given : (p : Plan) (w now : World) (lists : List (List Entry)) (entries list : List Entry) (owed after : Bool) → now ≡ after_turns p w lists
    → IsTrue (goes_owing owed p w lists) → is_shut now.state.mode ≡ false → nat_le now.state.limit now.state.tic ≡ false
    → has_line list ≡ has_line entries → after ≡ owes_after now.state.mode list owed → IsTrue (goes_owing after p w (lists ++ entries ∷ []))
goes_given p w now lists entries list owed after is goes alive below same e =
    subst (λ (b : Bool). IsTrue (goes_owing b p w (lists ++ entries ∷ [])))
    (sym (e ∙ owes_same now.state entries list owed same ∙ ap (λ (v : World). owes_after v.state.mode entries owed) is))
    (goes_one p w lists entries owed goes (sym (ap (λ (v : World). is_shut v.state.mode) is) ∙ alive)
    (sym (ap (λ (v : World). nat_le v.state.limit v.state.tic) is) ∙ below))

-- ---- where nothing is owed

pub goes_paid : (p : Plan) (w : World) (lists : List (List Entry)) → goes_owing false p w lists ≡ goes_on p w lists
goes_paid p w [] = refl
goes_paid p w (entries ∷ lists) =
    ap (λ (b : Bool). not (is_over w.state (entries ∷ lists)) && b) (goes_paid p (turn p w entries).world lists)

pub paid_over : (owed : Bool) (s : State) → Waits owed s → (is_shut s.mode || nat_le s.limit s.tic) ≡ true → owed ≡ false
paid_over false s waits e = refl
paid_over true s waits e = absurd (by s.mode s.limit s.tic (waits refl).0 (waits refl).1 e)
  where
    reached : (limit tic : ℕ) → tic < limit → nat_le limit tic ≡ true → ⊥
    reached limit tic less e = grind (arith, nat_tests)

    by : (m : Mode) (limit tic : ℕ) → IsTrue (is_frozen m) → tic < limit → (is_shut m || nat_le limit tic) ≡ true → ⊥
    by mode.Run limit tic frozen less e = cc frozen
    by mode.Freeze limit tic frozen less e = reached limit tic less e
    by mode.Shutdown limit tic frozen less e = cc frozen

-- ---- a journal that is told

-- a run that is not over without asking is not over under a journal, where that has a line left in Freeze
pub goes_yet : (shut out frozen has : Bool) → shut ≡ false → out ≡ false → (frozen ≡ true → has ≡ true)
    → not (shut || (out || (frozen && not has))) ≡ true
goes_yet true out frozen has alive below more = cc alive
goes_yet false true frozen has alive below more = cc below
goes_yet false false false has alive below more = refl
goes_yet false false true true alive below more = refl
goes_yet false false true false alive below more = cc (more refl)

-- turns that follow a journal until the run is over are its run
pub follows_lasts : (p : Plan) (w : World) (told : Told) (lists : List (List Entry)) → Follows p w told lists
    → IsTrue (is_over (after_turns p w lists).state (left_of lists told.lists)) → Lasts p w told.lists lists (after_turns p w lists)
follows_lasts p w told [] follows done = over done
follows_lasts p w told (entries ∷ lists) follows done =
    let later = follows_lasts p (turn p w entries).world (behind told) lists follows.3 done in
    subst (λ (e : List Entry). Lasts p w told.lists (e ∷ lists) (after_turns p w (e ∷ lists))) (sym follows.0)
    (on follows.2 (subst (λ (e : List Entry). Lasts p (turn p w e).world (rest_of told.lists) lists (after_turns p (turn p w e).world lists)) follows.0 later))

pub follows_more : (p : Plan) (w : World) (told : Told) (lists : List (List Entry)) (entries : List Entry) → Follows p w told lists
    → entries ≡ next_of (left_of lists told.lists) → (after_turns p w lists).state.turn < told.end
    → IsTrue (not (is_over (after_turns p w lists).state (left_of lists told.lists))) → Follows p w told (lists ++ entries ∷ [])
follows_more p w told [] entries follows is below yet = (is, below, yet, tt)
follows_more p w told (list ∷ lists) entries follows is below yet = (
  follows.0,
  follows.1,
  follows.2,
  follows_more p (turn p w list).world (behind told) lists entries follows.3 is below yet,
)

pub left_more : (lists journal : List (List Entry)) (entries : List Entry) → left_of (lists ++ entries ∷ []) journal ≡ rest_of (left_of lists journal)
left_more [] journal entries = refl
left_more (list ∷ lists) journal entries = left_more lists (rest_of journal) entries
