use Rattle.std.proofs.Common.{◌≡◌, ◌++◌, drop}
use Rattle.trick_check_bodies.proofs.method.add_methods.Given as goal
use Rattle.trick_check_bodies.specs.Methods.{class_methods}
use Rattle.trick_lang.specs.Syntax.{class_parts_of}

-- what is left adds to what is there what all add
abbrev pub invariant-loop-part : goal.invariant-loop-part
invariant-loop-part l =
    l.methods ++ class_methods l.class l.blocks (class_parts_of (drop l.part-index l.parts))
    ≡ l.fn.methods ++ class_methods l.class l.blocks (class_parts_of l.parts)
