use Rattle.std.proofs.Common.{List, ℕ, sym, subst, ◌∙◌}
use Rattle.std.proofs.lemmas.Result.{err_from_is_err_and}
use Rattle.trick_journal.proofs.reader.read.Goals as goal
use Rattle.trick_journal.specs.Refusals.{IsRefused, Reads}
use Rattle.trick_model.specs.PlanOf.{plan_of}

pub returns-in_err-rest : goal.returns-in_err-rest
returns-in_err-rest c =
    let q = err_from_is_err_and c.from_residual.result c.from_residual.ensures.1 in
    rw (q.1, q.2) (c.in_err-rest.ensures (plan_of c.args.plan.now) c.args.start)

pub returns-in_err-from : goal.returns-in_err-from
returns-in_err-from c =
    let p = plan_of c.args.plan.now in
    let q = err_from_is_err_and c.from_residual-in_err-from.result c.from_residual-in_err-from.ensures.1 in
    rw (q.1, q.2)
    (subst (λ (ts : List ℕ). IsRefused p c.args.start ts c.in_err-from.field-0.0) (sym (c.in_ok-rest.ensures p c.args.start)) (c.in_err-from.ensures p))

pub returns : goal.returns
returns c =
    let p = plan_of c.args.plan.now in
    let begun = c.in_ok-from.ensures p in
    subst (λ (ts : List ℕ). Reads p c.args.start ts c.read_rows.result) (sym (c.in_ok-rest.ensures p c.args.start ∙ begun.2))
    (c.read_rows.ensures c.args.start begun.0 begun.1)
