use Rattle.std.proofs.Common.{◌≡◌, ◌∙◌, List, Some, ap, sym}
use Rattle.trick_body_symbols.specs.Symbols.{Token, number_of}
use Rattle.trick_plan_variables.proofs.Declared.{declared_spelled}
use Rattle.trick_plan_variables.proofs.declaration.declaration_of.Goals as goal
use Rattle.trick_plan_variables.specs.Grammar.{declaration, declaration_of, read_or_none}
use Rattle.trick_grammar.specs.Gives.{class_of}
use Rattle.trick_grammar.specs.Text.{read_all}
use Rattle.trick_text.specs.declared.token.Style.TheVariants.{Command}

pub lexemes-requires : goal.lexemes-requires
lexemes-requires c = c.all_are_tokens.ensures Command c.args.text.now c.args.tokens.now c.requires

pub invariant_of-result : goal.invariant_of-result
invariant_of-result c =
    let text = c.args.text.now in
    let found : Some c.in-Some.declaration ≡ declaration_of text c.args.tokens.now =
    sym c.in-Some.is
    ∙ (c.in_ok-declaration.ensures
    ∙ ap (λ (ts : List Token). read_or_none (read_all number_of class_of (declaration text) ts))
    (c.deref.ensures.value ∙ c.in_ok-found.ensures)) in
    record { spelled = declared_spelled text c.args.tokens.now c.in-Some.declaration c.requires found }
