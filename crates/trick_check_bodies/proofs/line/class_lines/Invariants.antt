use Rattle.std.proofs.Common.{◌≡◌, drop}
use Rattle.trick_check_bodies.proofs.line.class_lines.Given as goal
use Rattle.trick_check_bodies.specs.Jobs.{class_lines}
use Rattle.trick_lang.specs.Syntax.{class_parts_of}

-- none so far is a constructor
abbrev pub invariant-loop-part : goal.invariant-loop-part
invariant-loop-part l = class_lines (class_parts_of (drop l.part-index l.parts)) ≡ class_lines (class_parts_of l.parts)
