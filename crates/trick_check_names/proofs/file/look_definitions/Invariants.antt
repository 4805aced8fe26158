use Rattle.std.proofs.Common.{◌≡◌, drop}
use Rattle.trick_lang.specs.Syntax.{definitions_of}
use Rattle.trick_check_names.proofs.file.look_definitions.Given as goal
use Rattle.trick_check_names.specs.FileMistakes.{definitions_mistakes}
use Rattle.trick_check_names.specs.Mistakes.{noted}

-- what is left finds from here what all find from the start
abbrev pub invariant-loop-definition : goal.invariant-loop-definition
invariant-loop-definition l = record {
  number : l.scope.own ≡ l.definition-index;
  tables : l.scope.tables ≡ l.fn.scope.tables;
  told : noted (definitions_mistakes (definitions_of (drop l.definition-index l.definitions)) l.scope) l.found ≡ noted (definitions_mistakes (definitions_of l.definitions) l.fn.scope) l.fn.found;
}
