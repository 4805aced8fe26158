use Rattle.std.proofs.Common.{◌+◌, ◌*◌, arith}
use Rattle.std.specs.Str.Parse.{AllDigits}
use Rattle.trick_text.proofs.Amounts.{many_seconds, digits-take, digits-drop, decimal_amount, few_cases}
use Rattle.trick_text.proofs.time.decimal.Goals as goal

pub returns-in_err-seconds : goal.returns-in_err-seconds
returns-in_err-seconds c = rw c.from_residual.ensures (many_seconds c.args.digits.now c.args.fraction.now c.in_err-seconds.ensures.value)

pub millionths-requires-clause-digits : goal.millionths-requires-clause-digits
millionths-requires-clause-digits c = rw c.split_at.ensures.front (digits-take c.min.result c.args.fraction.now c.requires)

pub returns : goal.returns
returns c =
    let front = c.split_at.result.0.now in
    let rest = c.split_at.result.1.now in
    let fraction = c.args.fraction.now in
    let cut = c.split_at.ensures in
    let all : AllDigits 10 rest = rw cut.back (digits-drop c.min.result fraction c.requires) in
    let few = few_cases front rest fraction c.min.result cut.front_len cut.back_len (omega arith) in
    let seconds = c.in_ok-seconds.ensures.value in
    let behind = c.millionths.ensures.value in
    decimal_amount c.args.digits.now front rest fraction _ cut.by_index.0 all few (λ i. seconds i * 1000000 + behind i) c.are_zeros.ensures
