use Rattle.std.proofs.Common.{◌≡◌, drop}
use Rattle.trick_lang.specs.Syntax.{definitions_of}
use Rattle.trick_check_names.proofs.file.read_tables.Given as goal
use Rattle.trick_check_names.specs.Tables.{behind_definitions, tables_of}

-- what is left declares from here what all declare from the start
abbrev pub invariant-loop-definition : goal.invariant-loop-definition
invariant-loop-definition l = behind_definitions (definitions_of (drop l.definition-index l.definitions)) l.tables ≡ tables_of (definitions_of l.definitions)
