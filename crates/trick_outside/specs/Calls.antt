-- The calls of a shelf, each with its answer, and what they leave of the files that it holds.
use Rattle.std.specs.FinMap.{get}
use Rattle.std.specs.Prelude.{◌≡◌, ℕ, List, [], ◌∷◌, Bool, true, false, ◌||◌, Option, Some, None}
use Rattle.trick_base.specs.Files.{Files, Write, written, all_written}
use Rattle.trick_base.specs.Fronts.{IsFrontOf}
use Rattle.trick_outside.specs.Causes.{HasCause}
use Rattle.trick_outside.specs.declared.shelf.Got.TheVariants as got
use Rattle.trick_outside.specs.declared.shelf.Got.{Got}
use Rattle.trick_outside.specs.declared.shelf.Wrote.TheVariants as wrote
use Rattle.trick_outside.specs.declared.shelf.Wrote.{Wrote}
use Rattle.trick_outside.specs.declared.stop.Stop.TheVariants.{Shelf, Memory}
use Rattle.trick_outside.specs.declared.stop.Stop.{Stop}

-- What a call asks for: the bytes of a file, or a write.
pub data Wanted : Type 0 where
  Get : (name : List ℕ) → Wanted
  Put : (write : Write) → Wanted

-- A call with its answer: the bytes of a file, or that there is none; a write that is done; or a
-- call that stopped.
pub data Call : Type 0 where
  Read : (name : List ℕ) → (bytes : Option (List ℕ)) → Call
  Done : (write : Write) → Call
  Stopped : (wanted : Wanted) → (why : Stop) → Call

-- A `get` of this name, with this answer.
abbrev pub get_call : List ℕ → Got → Call
get_call name (got.Found bytes) = Read name (Some bytes.items)
get_call name got.Missing = Read name None
get_call name got.Failed = Stopped (Get name) Shelf
get_call name got.OutOfMemory = Stopped (Get name) Memory

-- A `create` or an `append`, with this answer.
abbrev pub write_call : Write → Wrote → Call
write_call write wrote.Done = Done write
write_call write wrote.Failed = Stopped (Put write) Shelf
write_call write wrote.OutOfMemory = Stopped (Put write) Memory

-- What a call asked for.
abbrev pub wanted_by : Call → Wanted
wanted_by (Read name bytes) = Get name
wanted_by (Done write) = Put write
wanted_by (Stopped wanted why) = wanted

-- Whether the shelf failed in this call.
abbrev pub is_fault : Call → Bool
is_fault (Read name bytes) = false
is_fault (Done write) = false
is_fault (Stopped wanted Shelf) = true
is_fault (Stopped wanted Memory) = false

-- Whether the shelf failed in one of these calls.
abbrev pub fails : List Call → Bool
fails [] = false
fails (call ∷ calls) = is_fault call || fails calls

-- After a call that failed there is no other.
abbrev pub EndAtFault : List Call → Type 0
EndAtFault [] = Unit {0}
EndAtFault (call ∷ calls) = (is_fault call ≡ true → calls ≡ []) × EndAtFault calls

-- What one call leaves of the files. An answer is of what is held at that moment. A write that
-- stopped leaves nothing of it, or all, or an append of a prefix.
abbrev pub Leaves : Call → Files → Files → Type 0
Leaves (Read name bytes) files now = (get files name ≡ bytes) × (now ≡ files)
Leaves (Done write) files now = now ≡ written write files
Leaves (Stopped (Get name) why) files now = now ≡ files
Leaves (Stopped (Put write) why) files now =
    (front : List Write) × IsFrontOf front (write ∷ []) × (now ≡ all_written front files)

-- What these calls leave of the files, each call of what the one before it left.
abbrev pub AllLeave : List Call → Files → Files → Type 0
AllLeave [] files now = now ≡ files
AllLeave (call ∷ calls) files now = (mid : Files) × Leaves call files mid × AllLeave calls mid now

-- What these calls made of a shelf: the count of its faults has not fallen, and it rose where a call
-- failed; and what it holds is what the calls leave, where it tells.
pub record Calls (old new : Option Files) (before now : ℕ) (calls : List Call) : Type 0 where
  pub cause : HasCause before now (fails calls ≡ true)
  pub left : (files : Files) → old ≡ Some files → (held : Files) × (new ≡ Some held) × AllLeave calls files held
