use Rattle.std.proofs.Common.{◌≡◌, drop}
use Rattle.trick_lang.specs.Syntax.{class_parts_of}
use Rattle.trick_check_names.proofs.class.look_parts.Given as goal
use Rattle.trick_check_names.specs.FileMistakes.{class_mistakes}
use Rattle.trick_check_names.specs.Mistakes.{noted}

-- what is left finds from here what all find from the start
abbrev pub invariant-loop-number : goal.invariant-loop-number
invariant-loop-number l =
    noted (class_mistakes (class_parts_of (drop l.number l.parts)) l.number l.class l.inside l.scope) l.found
    ≡ noted (class_mistakes (class_parts_of l.parts) 0 l.class l.fn.inside l.scope) l.fn.found
