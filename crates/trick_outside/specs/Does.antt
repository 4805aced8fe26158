-- What was done to a shelf: one word for a single call, and for all that stands above.
use Rattle.std.specs.Prelude.{◌≡◌, ◌⊎◌, ℕ, List, [], ◌∷◌, true, Result, IsOk, IsErrOf}
use Rattle.trick_base.specs.Files.{Append, Create}
use Rattle.trick_outside.specs.Calls.{Call, Calls, Done, EndAtFault, Stopped, fails, wanted_by}
use Rattle.trick_outside.specs.declared.shelf.Shelf.{Ghosts}
use Rattle.trick_outside.specs.declared.stop.Stop.TheVariants.{Shelf}
use Rattle.trick_outside.specs.declared.stop.Stop.{Stop}

-- From old to new just these calls were made. The first argument is the bound's record, as `F.Shelf`
-- under `F: Shelf`.
pub record Went {S : Type 0} (shelf : Ghosts S) (old new : S) (calls : List Call) : Type 0 where
  pub told : shelf.called old calls new
  pub went : Calls (shelf.holds old) (shelf.holds new) (shelf.failures old) (shelf.failures new) calls

-- Steps are calls that are wanted, with the answers that they are to have. A part of them is the
-- first of them, and then maybe the next one that stopped.
abbrev pub IsPartOf : List Call → List Call → Type 0
IsPartOf [] whole = Unit {0}
IsPartOf (call ∷ part) [] = ⊥
IsPartOf (call ∷ part) (first ∷ whole) =
    ((call ≡ first) × IsPartOf part whole)
    ⊎ ((why : Stop) × (call ≡ Stopped (wanted_by first) why) × (part ≡ []))

-- The step that makes an empty file of this name.
abbrev pub created : List ℕ → Call
created name = Done (Create name)

-- The step that adds these bytes to the file of this name.
abbrev pub added : List ℕ → List ℕ → Call
added name bytes = Done (Append name bytes)

-- From old to new these steps were taken: all of them at `Ok`, and else a part of them. It is
-- `Stop::Shelf` exactly where a call failed, and that call was the last.
pub record Does {S T : Type 0} (shelf : Ghosts S) (old new : S) (result : Result T Stop)
    (steps : List Call) : Type 0 where
  pub calls : List Call
  pub went : Went shelf old new calls
  pub part : IsPartOf calls steps
  pub whole : IsOk result → calls ≡ steps
  pub failed : IsErrOf result Shelf → fails calls ≡ true
  pub fault : fails calls ≡ true → IsErrOf result Shelf
  pub ends : EndAtFault calls
