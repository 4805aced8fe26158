use Rattle.std.proofs.Common.{List, ℕ, Option, Ok, Err, option_map, subst, sym}
use Rattle.trick_base.proofs.Results.{if_ok}
use Rattle.trick_body.specs.Answers.{IsCondition}
use Rattle.trick_lang.specs.Syntax.{expression_of}
use Rattle.trick_lang.specs.declared.syntax.expression.Expr.{Expr}
use Rattle.trick_plan_lines.proofs.Conditions.{reads, reads_none}
use Rattle.trick_plan_lines.proofs.texts.condition_of.Goals as goal
use Rattle.trick_plan_lines.specs.Texts.{IsConditionOf}

pub returns-in-Err : goal.returns-in-Err
returns-in-Err c =
    let text = c.args.text.now in
    let is = subst (λ (t : List ℕ). IsCondition t (Err c.in-Err.fault)) c.as_slice.ensures c.in-Err.ensures in
    if_ok c.no_condition.result
    (λ condition h. subst (λ (o : Option Expr). IsConditionOf text (option_map expression_of o)) (sym h.0)
    (reads_none c.conditions_are_exact.ensures c.one_cut.ensures text c.in-Err.fault h.1 is)) c.no_condition.ensures

pub returns-in-Ok : goal.returns-in-Ok
returns-in-Ok c =
    reads c.conditions_are_exact.ensures c.one_cut.ensures c.args.text.now c.in-Ok.condition
    (subst (λ (t : List ℕ). IsCondition t (Ok c.in-Ok.condition)) c.as_slice.ensures c.in-Ok.ensures)
