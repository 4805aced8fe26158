-- What a call adds to the history: p is its pass before the call, and q after it.
use Rattle.std.specs.Prelude.{◌≡◌, List, ◌++◌, Option, Some}
use mathlib.Core.List.{IsPrefix}
use Rattle.trick_hall_kept.specs.declared.entry.Entry.{Entry}
use Rattle.trick_turn.specs.Passes.{number_of, own, seen}
use Rattle.trick_turn.specs.Views.{entries_told}
use Rattle.trick_turn.specs.declared.pass.Pass.{Pass}

module _ {B : Type 0} where
  -- The call found this history, and added this entry to it, or none.
  pub record HasTold (found : List Entry) (told : Option Entry) (p q : Pass B Entry) : Type 0 where
    pub history : IsPrefix (seen p) found
    pub number_is : number_of q ≡ number_of p
    pub seen_is : seen q ≡ found ++ entries_told told
    pub own_is : own q ≡ own p ++ entries_told told

  -- the call added this entry
  abbrev pub HasAdded : Pass B Entry → Pass B Entry → Entry → Type 0
  HasAdded p q e = (found : List Entry) × HasTold found (Some e) p q

  -- The call only looked.
  pub record HasLooked (p q : Pass B Entry) : Type 0 where
    pub history : IsPrefix (seen p) (seen q)
    pub number_is : number_of q ≡ number_of p
    pub own_is : own q ≡ own p
