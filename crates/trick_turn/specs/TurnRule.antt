-- The rule that the table of a lock keeps between any two steps. It has five parts, in this order below, which
-- `TurnRule`
-- puts together. The table has one word, the turn: 0 where it is free, else the number of the seat that has it. It
-- has one
-- slot, the value's home.
use Rattle.std.specs.Prelude.{◌≡◌, ◌≢◌, ℕ, ◌<◌, ◌≤◌, ◌==◌, true, false, List, length, filter, All, Option, Some, slice_index}
use mathlib.Core.Option.{some}
use lib.ListN.{get_elem?}
use mathlib.Core.List.{IsPrefix}
use Rattle.atomic_table.specs.Table.{State}
use Rattle.trick_turn.specs.declared.view.View.{View}

module _ {E : Type 0} where
  abbrev pub EachView : List (View E) → (View E → Type 0) → Type 0
  EachView views P = (i : ℕ) (v : View E) → get_elem? views i ≡ some v → P v

  abbrev pub SomeView : List (View E) → (View E → Type 0) → Type 0
  SomeView views P = (i : ℕ) × (v : View E) × (get_elem? views i ≡ some v) × P v

  -- the seats whose numbers are not 0 have different numbers; a seat that was joined to another has 0
  abbrev pub HaveDifferentNumbers : List (View E) → Type 0
  HaveDifferentNumbers views = (i j : ℕ) (v w : View E) → get_elem? views i ≡ some v → get_elem? views j ≡ some w
      → 0 < v.number → v.number ≡ w.number → i ≡ j

  -- No number is given twice. The first seat's view counts the numbers that were given, and no view and no entry has a
  -- later one.
  pub record AreNumbered (seat : E → ℕ) (views : List (View E)) (count : ℕ) (history : List E) : Type 0 where
    pub different : HaveDifferentNumbers views
    pub first : SomeView views (λ v. (v.number ≡ 1) × (v.made ≡ count))
    pub below : EachView views (λ v. v.number ≤ count)
    pub named : All (λ e. seat e ≤ count) history

  -- What each seat has seen is a prefix of the longest of these, which is called the history. What a view notes
  -- beside that,
  -- at a join, is a prefix of what it has seen.
  pub record AreSeen (views : List (View E)) (history : List E) : Type 0 where
    pub prefixes : EachView views (λ v. IsPrefix v.seen history)
    pub longest : SomeView views (λ v. v.seen ≡ history)
    pub beside : EachView views (λ v. IsPrefix v.beside v.seen)

module _ {B E : Type 0} where
  abbrev pub turn_of : State (Option B) (View E) → ℕ
  turn_of s = slice_index s.words 0

  -- Where the turn is free, no seat holds it, and the value is at home and stands for the history.
  pub record IsFree (stands : B → List E → Type 0) (s : State (Option B) (View E)) (history : List E) : Type 0 where
    pub nobody : EachView s.views (λ v. v.holding ≡ false)
    pub home : (value : B) × (get_elem? s.homes 0 ≡ some (some (Some value))) × stands value history

  -- Where the word is a seat's number, that seat alone holds the turn, and it has seen the history, as it had at its
  -- claim.
  pub record IsHeld (s : State (Option B) (View E)) (history : List E) : Type 0 where
    pub index : ℕ
    pub holder : View E
    pub there : get_elem? s.views index ≡ some holder
    pub named : holder.number ≡ turn_of s
    pub holds : holder.holding ≡ true
    pub seen : holder.seen ≡ history
    pub alone : (i : ℕ) (v : View E) → get_elem? s.views i ≡ some v → i ≢ index → v.holding ≡ false

module _ {E : Type 0} (seat : E → ℕ) where
  -- the entries that name this seat
  abbrev pub entries_of : ℕ → List E → List E
  entries_of number log = filter (λ e. seat e == number) log

  -- An entry names the seat that added it: of the history, a view keeps the entries with its seat's name as its own. A
  -- seat that was joined to another is excepted.
  abbrev pub HaveOwnEntries : List (View E) → List E → Type 0
  HaveOwnEntries views history = EachView views (λ v. 0 < v.number → entries_of v.number history ≡ v.own)

module _ {B E : Type 0} where
  pub record TurnRule (stands : B → List E → Type 0) (seat : E → ℕ) (s : State (Option B) (View E)) : Type 0 where
    pub history : List E
    pub count : ℕ
    pub one_word : length s.words ≡ 1
    pub one_slot : length s.homes ≡ 1
    pub numbered : AreNumbered seat s.views count history
    pub seen : AreSeen s.views history
    pub free : turn_of s ≡ 0 → IsFree stands s history
    pub held : turn_of s ≢ 0 → IsHeld s history
    pub own : HaveOwnEntries seat s.views history
