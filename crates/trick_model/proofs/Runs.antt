-- Runs, cut in two, and under a journal.
use Rattle.std.proofs.Common.{◌≡◌, ℕ, ◌-◌, List, [], ◌∷◌, ◌++◌, Bool, true, false, not, ◌&&◌, ◌||◌, IsTrue, refl, sym, ap, ◌∙◌, append_assoc}
use Rattle.trick_base.proofs.Truths.{first_holds, second_holds}
use native.Mathlib.Omega.{arith}
use Rattle.trick_model.specs.Files.{turn_writes, turns_said, turns_writes}
use Rattle.std.specs.Prelude.{nat_le}
use Rattle.trick_model.specs.Journal.{lists_from, live_before, with_joins}
use Rattle.trick_model.specs.Laws.{FittingLasts, JournalEnds, OneRun, RunsJoin}
use Rattle.trick_model.specs.Plan.{Plan}
use Rattle.trick_model.specs.Run.{Lasts, after_turns, goes_on, has_session_entry, is_over, is_shut, next_of, on, opened, over}
use Rattle.trick_model.specs.State.{World}
use Rattle.trick_model.specs.Turn.{is_frozen, turn}
use Rattle.trick_model.specs.declared.entry.Entry.{Entry}

writes_join : (p : Plan) (w : World) (early late : List (List Entry))
    → turns_writes p w (early ++ late) ≡ turns_writes p w early ++ turns_writes p (after_turns p w early) late
writes_join p w [] late = refl
writes_join p w (entries ∷ early) late =
    ap (λ more. turn_writes w.state.turn (turn p w entries) ++ more) (writes_join p (turn p w entries).world early late)
    ∙ sym (append_assoc (turn_writes w.state.turn (turn p w entries)) _ _)

said_join : (p : Plan) (w : World) (early late : List (List Entry))
    → turns_said p w (early ++ late) ≡ turns_said p w early ++ turns_said p (after_turns p w early) late
said_join p w [] late = refl
said_join p w (entries ∷ early) late =
    ap (λ more. (turn p w entries).said ++ more) (said_join p (turn p w entries).world early late)
    ∙ sym (append_assoc (turn p w entries).said _ _)

worlds_join : (p : Plan) (w : World) (early late : List (List Entry))
    → after_turns p w (early ++ late) ≡ after_turns p (after_turns p w early) late
worlds_join p w [] late = refl
worlds_join p w (entries ∷ early) late = worlds_join p (turn p w entries).world early late

pub runs_join : RunsJoin
runs_join = record { writes = writes_join; said = said_join; worlds = worlds_join }

pub not_both : (b : Bool) → IsTrue b → IsTrue (not b) → ⊥
not_both true holds fails = grind (arith, fails)
not_both false holds fails = grind (arith, holds)

pub one_run : OneRun
one_run p w end other left lists more (over h) (over g) = (refl, refl)
one_run p w end other left lists more (over h) (on g rest) = absurd (not_both (is_over w.state left) h g)
one_run p w end other left lists more (on h rest) (over g) = absurd (not_both (is_over w.state left) g h)
one_run p w end other left lists more (on h rest) (on g others) =
    let same = one_run p _ end other _ _ _ rest others in (ap (λ (ls : List (List Entry)). next_of left ∷ ls) same.0, same.1)

lasts : (p : Plan) (w : World) (lists : List (List Entry)) → IsTrue (goes_on p w lists)
    → IsTrue (is_over (after_turns p w lists).state []) → Lasts p w lists lists (after_turns p w lists)
lasts p w [] goes done = over done
lasts p w (entries ∷ lists) goes done =
    on (first_holds (not (is_over w.state (entries ∷ lists))) _ goes)
    (lasts p (turn p w entries).world lists (second_holds (not (is_over w.state (entries ∷ lists))) _ goes) done)

pub fitting_lasts : FittingLasts
fitting_lasts p s lists fits = lasts p (opened s) lists fits.goes fits.over

-- ---- the end by the journal

-- joins in front of lists in which a line is left
joins_with_line : (live : List ℕ) (lists : List (List Entry)) → has_session_entry lists ≡ true → has_session_entry (with_joins live lists) ≡ true
joins_with_line live [] line = line
joins_with_line [] (entries ∷ lists) line = line
joins_with_line (session ∷ live) (entries ∷ lists) line = refl

-- in Freeze or not, with a line left or not, the joins make no difference
pub line_is_left : (live : List ℕ) (lists : List (List Entry)) (frozen some : Bool) → has_session_entry lists ≡ some
    → (frozen && not (has_session_entry (elim (frozen && not some) [ true ↦ lists | false ↦ with_joins live lists ])))
    ≡ (frozen && not (has_session_entry lists))
line_is_left live lists false some is = refl
line_is_left live lists true true is = ap not (joins_with_line live lists is ∙ sym is)
line_is_left live lists true false is = refl

pub journal_ends : JournalEnds
journal_ends s entries end start =
    let lists = lists_from start (end - start) entries in
    ap (λ (b : Bool). is_shut s.mode || (nat_le s.limit s.tic || b))
    (line_is_left (live_before start entries []) lists (is_frozen s.mode) (has_session_entry lists) refl)
