use Rattle.std.proofs.Common.{◌≡◌, ◌++◌, drop}
use Rattle.trick_lang.specs.Syntax.{class_parts_of}
use Rattle.trick_check_names.proofs.calls.calls_of_class.Given as goal
use Rattle.trick_check_names.specs.Calls.{class_calls}

-- what is left adds to what is there what all add
abbrev pub invariant-loop-part : goal.invariant-loop-part
invariant-loop-part l = l.calls.items ++ class_calls (class_parts_of (drop l.part-index l.parts)) l.own ≡ class_calls (class_parts_of l.parts) l.own
