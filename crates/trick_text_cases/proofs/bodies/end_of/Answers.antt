use Rattle.std.proofs.Common.{All, List, subst, sym}
use Rattle.trick_text_cases.proofs.bodies.end_of.Goals as goal
use Rattle.trick_text.specs.Tokens.{ReadsAsToken}
use Rattle.trick_text.specs.declared.token.Style.TheVariants.{SDefine}
use Rattle.trick_text.specs.declared.token.Token.{Token}

pub read_body-requires-clause-tokens : goal.read_body-requires-clause-tokens
read_body-requires-clause-tokens c =
    let tokens = c.all_are_tokens.ensures SDefine c.args.text.now c.in_ok-found.found.items c.in_ok-found.ensures.found in
    subst (λ (ts : List Token). All (ReadsAsToken c.args.text.now) ts) (sym c.deref.ensures.value) tokens
