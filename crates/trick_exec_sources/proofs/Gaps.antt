-- Turns in Freeze that are given no entry.
use Rattle.std.proofs.Common.{◌≡◌, ℕ, zero, suc, ◌+◌, ◌-◌, ◌<◌, ◌≤◌, Bool, true, List, [], ◌∷◌, Some, refl, sym, ap, subst, ◌∙◌, arith}
use Rattle.std.proofs.Math.Nat.{min-le_left}
use Rattle.std.specs.List.{list_any}
use Rattle.std.specs.Prelude.{min, Option}
use Rattle.trick_exec_sources.proofs.Coming.{within_of}
use Rattle.trick_exec_sources.proofs.Replaying.{Stands, lines_left, list_next, made, rest_is, sessions_step, stands_next, told_same}
use Rattle.trick_exec_sources.proofs.TurnEntries.{before_late, late_first, since_all, within_head}
use Rattle.trick_exec_sources.specs.Due.{before, is_line, may_go_on, sessions_so_far}
use Rattle.trick_exec_sources.specs.Replay.{AreTold, IsLater, sessions_of, told_of}
use Rattle.trick_exec_sources.specs.declared.journal_turns.JournalTurns.{JournalTurns}
use Rattle.trick_model.specs.Journal.{Noted, lists_from}
use Rattle.trick_model.specs.State.{State}
use Rattle.trick_model.specs.Time.{last_turn}
use Rattle.trick_model.specs.Turn.{counted, is_frozen}
use Rattle.trick_model.specs.declared.entry.Entry.{Entry}
use Rattle.trick_model.specs.declared.session.Session.{Session}
use Rattle.trick_exec_sources.specs.Gap as gap
use Rattle.trick_exec_sources.specs.Gap.{Gap, GivesNone}
use Rattle.trick_exec_sources.specs.Turns.{Sessions, Told, after_entries, behind, empty_answers, in_next}

-- ---- entries

-- where none stands before a turn, none does before an earlier one
pub before_down : (low high : ℕ) → low ≤ high → (es : List Noted) → before high es ≡ [] → before low es ≡ []
before_down low high up [] none = refl
before_down low high up (e ∷ es) none =
    let late = late_first high e es none in
    let less : low ≤ e.0 = omega (arith, up, late) in
    before_late low e es less

-- a turn before which no entry stands is below the end
pub gap_below : (at end turn : ℕ) (s : Sessions) (due : List Noted) → may_go_on at end s due ≡ true → list_any is_line due ≡ true
    → before turn due ≡ [] → turn < end
gap_below at end turn s [] rules line none = cc
gap_below at end turn s (e ∷ es) rules line none =
    let late = late_first turn e es none in
    let ends = (within_head at end e es (within_of at end s (e ∷ es) rules)).1 in
    omega (arith, late, ends)

-- ---- what is known of a replay after such turns

pub stands_one : (over : Bool) (start at end : ℕ) (whole due : List Noted) → Stands over start at end whole due → at < end → before (at + 1) due ≡ []
    → Stands over start (at + 1) end whole due
stands_one over start at end whole due s up none = stands_next over start at end whole due due s up (sym (since_all (at + 1) due none))

pub stands_later : (turns : ℕ) (over : Bool) (start at end : ℕ) (whole due : List Noted) → Stands over start at end whole due → list_any is_line due ≡ true
    → before (at + turns) due ≡ [] → Stands over start (at + turns) end whole due
stands_later zero over start at end whole due s line none =
    let same : at ≡ at + 0 = omega arith in subst (λ (n : ℕ). Stands over start n end whole due) same s
stands_later (suc turns) over start at end whole due s line none =
    let less : at + turns ≤ at + suc turns = omega arith in
    let early = before_down (at + turns) (at + suc turns) less due none in
    let so = stands_later turns over start at end whole due s line early in
    let up = gap_below at end (at + turns) (sessions_so_far over start at whole) due s.rules line early in
    let same : (at + turns) + 1 ≡ at + suc turns = omega arith in
    subst (λ (n : ℕ). Stands over start n end whole due) same
    (stands_one over start (at + turns) end whole due so up (subst (λ (n : ℕ). before n due ≡ []) (sym same) none))

stands : (j : JournalTurns) → Stands j.over j.start j.at j.end j.whole.value j.due
stands j = record { forward = j.forward; left = j.left; rules = j.rules; behind_end = j.behind_end }

-- the same one turn later
next_of_gap : (j : JournalTurns) → j.at < j.end → before (j.at + 1) j.due ≡ [] → list_any is_line j.due ≡ true → JournalTurns
next_of_gap j up none line =
    let so = stands_one j.over j.start j.at j.end j.whole.value j.due (stands j) up none in
    record {
      due = j.due;
      whole = j.whole;
      start = j.start;
      at = j.at + 1;
      end = j.end;
      over = j.over;
      owes = true;
      forward = so.forward;
      end_right = j.end_right;
      left = so.left;
      rules = so.rules;
      behind_end = so.behind_end;
      owes_one = line;
    }

-- ---- what is told

-- A journal gave so many turns no entry.
abbrev pub GivesEach : List Session → State → JournalTurns → JournalTurns → Type 0
GivesEach live = GivesNone (λ old answers messages new. AreTold (told_of old) answers (told_of new)) (λ turns. turns.owes)
    (λ turns. Some (told_of turns)) (λ turns. true) (λ turns. sessions_of turns) live

told_later : (old new : JournalTurns) → IsLater 1 old new → old.at < old.end → before (old.at + 1) old.due ≡ [] → told_of new ≡ behind (told_of old)
told_later old new later up none =
    (λ i. made (lists_from (later.at i) (later.end i - later.at i) (later.due i)) (later.end i))
    ∙ told_same old.end _ _
    (ap (lists_from (old.at + 1) (old.end - (old.at + 1))) (sym (since_all (old.at + 1) old.due none)) ∙ rest_is old.at old.end old.due up)

sessions_later : (old new : JournalTurns) → IsLater 1 old new → old.at < old.end → before (old.at + 1) old.due ≡ []
    → sessions_of new ≡ in_next (sessions_of old)
sessions_later old new later up none =
    (λ i. sessions_so_far (later.over i) (later.start i) (later.at i) (later.whole i))
    ∙ sessions_step old.over old.start old.at old.end old.whole.value old.due (stands old) up
    ∙ ap (λ (list : List Entry). after_entries list (in_next (sessions_of old))) none

gives_one : (live : List Session) (s : State) (old new : JournalTurns) → is_frozen s.mode ≡ true → s.turn < old.end → list_any is_line old.due ≡ true
    → before (old.at + 1) old.due ≡ [] → IsLater 1 old new → GivesEach live s old new
gives_one live s old new frozen below line none later =
    let now = sessions_so_far old.over old.start old.at old.whole.value in
    let up : old.at < old.end =
    let next = gap_below old.at old.end (old.at + 1) now old.due old.rules line none in omega (arith, next) in
    let list = list_next old.over old.start old.at old.end old.whole.value old.due (stands old) up in
    let told = told_later old new later up none in
    record {
      frozen = frozen;
      step = ((sym none ∙ list, below), told);
      owed = later.owes;
      told = (sym list ∙ none, below, lines_left old.at old.end now old.due old.rules ∙ line, ap (λ (t : Told). let some : Option Told = Some t in some) told);
      decides = refl;
      there = sessions_later old new later up none;
    }

turn_rises : (turn turns end : ℕ) → turn + suc turns ≤ end → min (turn + 1) last_turn + turns ≤ end
turn_rises turn turns end below = let less = min-le_left (turn + 1) last_turn in omega (arith, less, below)

-- So many turns are told one by one.
pub gap_told : (turns : ℕ) (live : List Session) (s : State) (old new : JournalTurns) → is_frozen s.mode ≡ true → s.turn + suc turns ≤ old.end
    → list_any is_line old.due ≡ true → before (old.at + suc turns) old.due ≡ [] → IsLater (suc turns) old new
    → Gap (GivesEach live) s (suc turns) old new
unfolding next_of_gap
gap_told zero live s old new frozen below line none later =
    let less : s.turn < old.end = omega (arith, below) in
    gap.last s old new (gives_one live s old new frozen less line none later)
gap_told (suc turns) live s old new frozen below line none later =
    let now = sessions_so_far old.over old.start old.at old.whole.value in
    let less : s.turn < old.end = omega (arith, below) in
    let early : old.at + 1 ≤ old.at + suc (suc turns) = omega arith in
    let first = before_down (old.at + 1) (old.at + suc (suc turns)) early old.due none in
    let up : old.at < old.end =
    let next = gap_below old.at old.end (old.at + 1) now old.due old.rules line first in omega (arith, next) in
    let mid = next_of_gap old up first line in
    let same : old.at + suc (suc turns) ≡ (old.at + 1) + suc turns = omega arith in
    gap.more s (suc turns) old mid new
    (gives_one live s old mid frozen less line first
    (record { at = refl; due = refl; whole = refl; start = refl; end = refl; over = refl; owes = refl }))
    (gap_told turns live (counted s) mid new frozen (turn_rises s.turn (suc turns) old.end below) line
    (subst (λ (n : ℕ). before n old.due ≡ []) same none)
    (record {
      at = later.at ∙ same;
      due = later.due;
      whole = later.whole;
      start = later.start;
      end = later.end;
      over = later.over;
      owes = later.owes;
    }))

pub gap_of : (turns : ℕ) (live : List Session) (s : State) (old new : JournalTurns) → 0 < turns → is_frozen s.mode ≡ true → s.turn + turns ≤ old.end
    → list_any is_line old.due ≡ true → before (old.at + turns) old.due ≡ [] → IsLater turns old new → Gap (GivesEach live) s turns old new
gap_of zero live s old new some = absurd (omega (arith, some))
gap_of (suc turns) live s old new some = gap_told turns live s old new

-- What is answered in them is what the journal says.
pub answers_told : (live : List Session) (s : State) (turns : ℕ) (old new : JournalTurns) → Gap (GivesEach live) s turns old new
    → AreTold (told_of old) (empty_answers turns s live) (told_of new)
answers_told live _ _ _ _ (gap.last s old new gives) = gives.step
answers_told live _ _ _ _ (gap.more s turns old mid new gives rest) = (
  gives.step.0,
  subst (λ (told : Told). AreTold told (empty_answers turns (counted s) live) (told_of new)) gives.step.1
      (answers_told live (counted s) turns mid new rest),
)

-- ---- the first entry

-- turns that end at the first entry, or before it
pub none_before : (at first most turns : ℕ) (due : List Noted) → before first due ≡ [] → turns ≡ min (first - at) most → 0 < turns
    → before (at + turns) due ≡ []
none_before at first most turns due none is some =
    let least = min-le_left (first - at) most in
    let less : at + turns ≤ first = omega (arith, is, some, least) in
    before_down (at + turns) first less due none
