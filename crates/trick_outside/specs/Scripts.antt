-- What the forms in memory of links and doors answer and keep.
use Rattle.std.specs.Prelude.{◌≡◌, ℕ, min}
use Rattle.trick_outside.specs.declared.link_in.Read1.TheVariants.{Count, End, Failed}
use Rattle.trick_outside.specs.declared.link_in.Read1.{Read1}
use Rattle.trick_outside.specs.declared.script_door.Returned.{Returned}

-- Where it gives, it gives all that is left, or as much as it gives at most, or as there is room for.
abbrev pub GivesMost : Read1 → (left most room : ℕ) → Type 0
GivesMost (Count count) left most room = count ≡ min (min left most) room
GivesMost End left most room = left ≡ 0
GivesMost Failed left most room = Unit {0}

-- What is kept of a client that was given back.
abbrev pub returned_as : {I O : Type 0} → ℕ → I → O → Returned I O
returned_as number input output = record { number = number; input = input; output = output }
