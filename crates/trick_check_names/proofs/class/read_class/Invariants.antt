use Rattle.std.proofs.Common.{◌≡◌, drop}
use Rattle.trick_lang.specs.Syntax.{class_parts_of}
use Rattle.trick_check_names.proofs.class.read_class.Given as goal
use Rattle.trick_check_names.specs.Tables.{behind_parts, nothing_inside}

-- what is left declares from here what all declare from the start
abbrev pub invariant-loop-number : goal.invariant-loop-number
invariant-loop-number l =
    behind_parts (class_parts_of (drop l.number l.parts)) l.number l.names l.inside ≡ behind_parts (class_parts_of l.parts) 0 l.names nothing_inside
