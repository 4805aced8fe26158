use Rattle.std.proofs.Common.{◌≡◌, [], drop}
use Rattle.trick_check_bodies.proofs.method.numbers.Given as goal
use Rattle.trick_check_bodies.specs.Methods.{with_numbers}
use Rattle.trick_lang.specs.Syntax.{class_parts_of}

-- the rest brings what is made to all
abbrev pub invariant-loop-part : goal.invariant-loop-part
invariant-loop-part l =
    with_numbers l.next (class_parts_of (drop l.part-index l.parts)) l.numbers ≡ with_numbers l.first (class_parts_of l.parts) []
