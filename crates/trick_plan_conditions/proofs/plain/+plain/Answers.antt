use Rattle.std.proofs.Common.{rules, ◌≡◌, ◌&&◌, not, true, false, ap, sym, ◌∙◌, arith, List}
use Rattle.trick_check_blocks.proofs.Build.{choices_heavy}
use Rattle.trick_check_blocks.proofs.Weights.{expression_weight}
use Rattle.trick_plan_conditions.proofs.plain.+plain.Goals as goal
use Rattle.trick_plan_conditions.specs.Conditions.{are_plain_choices, are_plain_links, is_plain}
use Rattle.trick_plan_conditions.specs.Places.{has_computed}
use Rattle.trick_lang.proofs.SyntaxLists.{chain_is, choose_is, named_is}
use Rattle.trick_lang.specs.Syntax.{choices_of_list, expression_of, links_of_list, parts_of_list}
use Rattle.trick_lang.specs.declared.syntax.expression.Choice.{Choice}
use Rattle.trick_lang.specs.declared.syntax.expression.Expr.{Expr}
use Rattle.trick_lang.specs.declared.syntax.expression.Link.{Link}
use Rattle.trick_lang.specs.declared.syntax.expression.Part.{Part}

pub is_plain-are_plain_links-requires : goal.is_plain-are_plain_links-requires
is_plain-are_plain_links-requires t c =
    let heavy = ap expression_weight (ap expression_of c.in-Chain.is ∙ chain_is c.in-Chain.first c.in-Chain.links) in
    (rw c.deref-then-is_plain.ensures.value (omega (arith, c.decreases, heavy)), tt)

pub is_plain-are_plain_choices-requires : goal.is_plain-are_plain_choices-requires
is_plain-are_plain_choices-requires t c =
    let heavy = ap expression_weight (ap expression_of c.in-Choose.is ∙ choose_is c.in-Choose.choices c.in-Choose.last) in
    let cells = choices_heavy c.in-Choose.choices.items (expression_of c.in-Choose.last.value) in
    (rw c.deref-in-Choose.ensures.value (omega (arith, c.decreases, heavy, cells)), tt)

pub is_plain-is_plain-requires-then-are_plain_choices : goal.is_plain-is_plain-requires-then-are_plain_choices
is_plain-is_plain-requires-then-are_plain_choices t c =
    let heavy = ap expression_weight (ap expression_of c.in-Choose.is ∙ choose_is c.in-Choose.choices c.in-Choose.last) in
    let cells = choices_heavy c.in-Choose.choices.items (expression_of c.in-Choose.last.value) in
    (rw c.deref-then-are_plain_choices.ensures (omega (arith, c.decreases, heavy, cells)), tt)

pub is_plain-returns-in-Named : goal.is_plain-returns-in-Named
is_plain-returns-in-Named t c =
    let is = ap expression_of c.in-Named.is ∙ named_is c.in-Named.path in
    ap not (c.has_computed.ensures ∙ ap (λ (ps : List Part). has_computed (parts_of_list ps)) c.as_slice.ensures.value) ∙ ap is_plain (sym is)

pub is_plain-returns-then-is_plain : goal.is_plain-returns-then-is_plain
is_plain-returns-then-is_plain t c =
    let is = ap expression_of c.in-Chain.is ∙ chain_is c.in-Chain.first c.in-Chain.links in
    let links = links_of_list c.in-Chain.links.items in
    let first : true ≡ is_plain (expression_of c.in-Chain.first.value) = sym c.if-is_plain.true ∙ (c.is_plain-in-Chain.ensures ∙ ap (λ (e : Expr). is_plain (expression_of e)) c.deref-in-Chain.ensures) in
    c.are_plain_links.ensures ∙ (ap (λ (ls : List Link). are_plain_links (links_of_list ls)) c.deref-then-is_plain.ensures.value
    ∙ (ap (λ b. b && are_plain_links links) first ∙ ap is_plain (sym is)))

pub is_plain-returns-then-are_plain_choices : goal.is_plain-returns-then-are_plain_choices
is_plain-returns-then-are_plain_choices t c =
    let is = ap expression_of c.in-Choose.is ∙ choose_is c.in-Choose.choices c.in-Choose.last in
    let last = expression_of c.in-Choose.last.value in
    let all = c.are_plain_choices.ensures last ∙ ap (λ b. b && is_plain last) c.if-are_plain_choices.true in
    c.is_plain-then-are_plain_choices.ensures ∙ (ap (λ (e : Expr). is_plain (expression_of e)) c.deref-then-are_plain_choices.ensures
    ∙ (sym all ∙ (ap (λ (cs : List Choice). are_plain_choices (choices_of_list cs last)) c.deref-in-Choose.ensures.value ∙ ap is_plain (sym is))))

pub is_plain-returns-else-are_plain_choices : goal.is_plain-returns-else-are_plain_choices
is_plain-returns-else-are_plain_choices t c =
    let is = ap expression_of c.in-Choose.is ∙ choose_is c.in-Choose.choices c.in-Choose.last in
    let last = expression_of c.in-Choose.last.value in
    let all = c.are_plain_choices.ensures last ∙ ap (λ b. b && is_plain last) c.if-are_plain_choices.false in
    c.if-are_plain_choices.false ∙ (sym all ∙ (ap (λ (cs : List Choice). are_plain_choices (choices_of_list cs last)) c.deref-in-Choose.ensures.value ∙ ap is_plain (sym is)))
