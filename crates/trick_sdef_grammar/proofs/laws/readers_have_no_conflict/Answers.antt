use Rattle.trick_body_statements.proofs.ExpressionTests.{expression_test}
use Rattle.trick_body_statements.proofs.MethodTests.{method_test}
use Rattle.trick_body_symbols.specs.Methods.{condition, method}
use Rattle.trick_body_symbols.specs.Symbols.{number_of}
use Rattle.trick_sdef_grammar.proofs.Conflicts.{no_conflict}
use Rattle.trick_sdef_grammar.proofs.laws.readers_have_no_conflict.Goals as goal
use Rattle.trick_sdef_classes.proofs.Files.{file_test}
use Rattle.trick_sdef_classes.specs.Files.{file}

pub returns : goal.returns
returns c = record {
  conditions = λ text limit depth. no_conflict number_of (condition text limit depth) (expression_test text limit depth);
  methods = λ text limit depth. no_conflict number_of (method text limit depth) (method_test text limit depth);
  files = λ text limit depth. no_conflict number_of (file text limit depth) (file_test text limit depth);
}
