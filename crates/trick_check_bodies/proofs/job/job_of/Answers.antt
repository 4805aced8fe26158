use Rattle.std.proofs.Common.{◌≡◌, ◌+◌, ap, sym, ◌∙◌, arith, length, unwrap_or}
use Rattle.trick_check_bodies.proofs.Rows.{job_is, jobs_length}
use Rattle.trick_check_bodies.specs.Jobs.{calls_in, method_number}
use Rattle.trick_lang.specs.Syntax.{jobs_of}
use Rattle.trick_check_bodies.proofs.job.job_of.Goals as goal

pub returns : goal.returns
returns c =
    let before = c.args.before.now in
    let line = c.args.line.now in
    let method : c.unwrap_or-method.result ≡ method_number c.args.numbers.now line.method = c.unwrap_or-method.ensures ∙ ap (λ o. unwrap_or o 0) c.meaning.ensures in
    let instance : c.in_ok-instance.instance ≡ calls_in line.method (jobs_of before) + 1 = omega (arith, c.in_ok-instance.ensures, c.in_ok-calls.ensures, c.calls_in.ensures) in
    let number : c.in_ok-number.number ≡ length (jobs_of before) = c.in_ok-number.ensures ∙ sym (jobs_length before) in
    job_is c.args.object c.args.numbers.now before line _ _ _ method instance number
