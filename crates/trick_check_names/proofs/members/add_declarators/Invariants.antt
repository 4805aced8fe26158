use Rattle.std.proofs.Common.{◌≡◌, drop}
use Rattle.trick_lang.specs.Syntax.{declarators_of}
use Rattle.trick_check_names.proofs.members.add_declarators.Given as goal
use Rattle.trick_check_names.specs.FileMistakes.{declarator_mistakes}
use Rattle.trick_check_names.specs.Mistakes.{noted}
use Rattle.trick_check_names.specs.Tables.{with_declarators}

-- what is left adds and finds from here what all add and find from the start
abbrev pub invariant-loop-declarator : goal.invariant-loop-declarator
invariant-loop-declarator l =
    let rest = declarators_of (drop l.declarator-index l.declarators) in
    record {
      members : with_declarators rest l.base l.members ≡ with_declarators (declarators_of l.declarators) l.base l.fn.members;
      told : noted (declarator_mistakes rest l.base l.members) l.found ≡ noted (declarator_mistakes (declarators_of l.declarators) l.base l.fn.members) l.fn.found;
    }
