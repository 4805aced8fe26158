-- What clauses say of a pass: p is the pass before a call, and q is the same pass after it.
use Rattle.std.specs.Prelude.{◌≡◌, ◌≢◌, ℕ, ◌+◌, ◌<◌, ◌≤◌, length, slice_get, true, false, List, [], ◌∷◌, ◌++◌, Option, Some, None}
use mathlib.Core.List.{IsPrefix}
use Rattle.trick_turn.specs.Views.{fresh_view, after_claim, after_miss, after_release, after_join, entries_told}
use Rattle.trick_turn.specs.TurnRule.{entries_of}
use Rattle.trick_turn.specs.declared.view.View.{View}
use Rattle.trick_turn.specs.declared.pass.Pass.{Pass}
use Rattle.trick_turn.specs.declared.lock.TurnLock.{TurnLock}

module _ {B E : Type 0} where
  abbrev pub view : Pass B E → View E
  view p = p.seat.inner.me.0

  -- its number, from 1
  abbrev pub number_of : Pass B E → ℕ
  number_of p = p.seat.inner.me.0.number

  -- the prefix of the history that it has seen
  abbrev pub seen : Pass B E → List E
  seen p = p.seat.inner.me.0.seen

  -- the entries of the history that its own turns added
  abbrev pub own : Pass B E → List E
  own p = p.seat.inner.me.0.own

  -- how often it found the turn held
  abbrev pub missed : Pass B E → ℕ
  missed p = p.seat.inner.me.0.misses

  -- the number that its last miss found
  abbrev pub last_found : Pass B E → ℕ
  last_found p = p.seat.inner.me.0.found

  -- at the first pass: how many passes were made
  abbrev pub made : Pass B E → ℕ
  made p = p.seat.inner.me.0.made

  -- `new` of this lock gave the pass
  abbrev pub IsPassOf : TurnLock B E → Pass B E → Type 0
  IsPassOf l p = p.seat.inner.table_id ≡ l.table.shared.table_id

  -- it does not have the turn
  abbrev pub Rests : Pass B E → Type 0
  Rests p = (p.seat.inner.me.0.holding ≡ false) × (p.seat.inner.me.1 ≡ [])

  -- it has the turn, and the value was taken out
  abbrev pub Holds : Pass B E → Type 0
  Holds p = (p.seat.inner.me.0.holding ≡ true) × (p.seat.inner.me.1 ≡ (0, None) ∷ [])

  abbrev pub IsSamePass : Pass B E → Pass B E → Type 0
  IsSamePass p q = (q.seat.inner.table_id ≡ p.seat.inner.table_id) × (q.seat.inner.id ≡ p.seat.inner.id)

  -- the pass has the turn, and the value stands for the history, which the pass has now seen
  pub record Claims (stands : B → List E → Type 0) (seat : E → ℕ) (p q : Pass B E) (value : B) : Type 0 where
    pub same : IsSamePass p q
    pub holds : Holds q
    pub view : view q ≡ after_claim (view p) (seen q)
    pub history : IsPrefix (seen p) (seen q)
    pub entries : entries_of seat (number_of p) (seen q) ≡ own p
    pub state : stands value (seen q)

  -- the pass has the turn, after some misses
  pub record Waits (stands : B → List E → Type 0) (seat : E → ℕ) (p q : Pass B E) (value : B) : Type 0 where
    pub same : IsSamePass p q
    pub holds : Holds q
    pub number : number_of q ≡ number_of p
    pub added : own q ≡ own p
    pub counted : made q ≡ made p
    pub misses : missed p ≤ missed q
    pub history : IsPrefix (seen p) (seen q)
    pub entries : entries_of seat (number_of p) (seen q) ≡ own p
    pub state : stands value (seen q)

  -- one more miss, which found this number
  pub record Misses (p q : Pass B E) (found : ℕ) : Type 0 where
    pub same : IsSamePass p q
    pub rests : Rests q
    pub busy : found ≢ 0
    pub view : view q ≡ after_miss (view p) found

  -- the value is in its slot, which the pass still has
  abbrev pub IsInSlot : Pass B E → B → Type 0
  IsInSlot p value = p.seat.inner.me.1 ≡ (0, Some value) ∷ []

  -- the value is in its slot again
  pub record PutsBack (p q : Pass B E) (value : B) : Type 0 where
    pub same : IsSamePass p q
    pub view : view q ≡ view p
    pub slot : IsInSlot q value

  -- the pass has the turn, and the value in the slot stands for the history and what this turn tells
  abbrev pub IsReady : (B → List E → Type 0) → Option E → Pass B E → Type 0
  IsReady stands e p = (p.seat.inner.me.0.holding ≡ true) × (value : B) × IsInSlot p value
      × stands value (seen p ++ entries_told e)

  -- the turn is over, and what it told is at the end of the history
  pub record Releases (e : Option E) (p q : Pass B E) : Type 0 where
    pub same : IsSamePass p q
    pub rests : Rests q
    pub view : view q ≡ after_release (view p) e

  -- a pass of this lock that has neither seen nor done anything
  abbrev pub IsDealt : TurnLock B E → ℕ → ℕ → Pass B E → Type 0
  IsDealt l number made p = IsPassOf l p × Rests p × (view p ≡ fresh_view number made [])

  -- the passes of this lock, numbered from 1; the first counts them
  pub record AreDealt (l : TurnLock B E) (seats : ℕ) (ps : List (Pass B E)) : Type 0 where
    pub count : length ps ≡ seats
    pub first : (p : Pass B E) → slice_get ps 0 ≡ Some p → IsDealt l 1 seats p
    pub others : (i : ℕ) (p : Pass B E) → 0 < i → slice_get ps i ≡ Some p → IsDealt l (i + 1) 0 p

  -- the pass p, which has become q, took in what the pass `other` had seen
  pub record Joins (p other q : Pass B E) : Type 0 where
    pub same : IsSamePass p q
    pub rests : Rests q
    pub view : view q ≡ after_join (view p) (view other)

  -- the pass has not changed, and what is noted beside what it has seen is a prefix of that
  pub record Looks (p q : Pass B E) : Type 0 where
    pub same : IsSamePass p q
    pub view : view q ≡ view p
    pub taken : q.seat.inner.me.1 ≡ p.seat.inner.me.1
    pub beside : IsPrefix p.seat.inner.me.0.beside (seen p)
