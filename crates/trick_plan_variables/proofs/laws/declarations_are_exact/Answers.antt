use Rattle.std.proofs.Common.{refl}
use Rattle.trick_body_symbols.specs.Symbols.{number_of, spelled}
use Rattle.trick_plan_variables.proofs.Declared.{predictive}
use Rattle.trick_plan_variables.proofs.laws.declarations_are_exact.Goals as goal
use Rattle.trick_plan_variables.specs.Grammar.{declaration}
use Rattle.trick_grammar.proofs.Exact.{exact}
use Rattle.trick_grammar.specs.Gives.{class_of}

pub returns : goal.returns
returns c text = exact number_of class_of spelled (λ symbol. refl) (declaration text) (predictive text) refl
