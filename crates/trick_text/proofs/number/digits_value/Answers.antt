use Rattle.std.proofs.Common.{◌+◌, ◌*◌, get_or, drop, arith, ap}
use Rattle.std.proofs.lemmas.List.{drop_more}
use Rattle.std.specs.Char.{digit_value}
use Rattle.std.specs.Str.Parse.{digits_value_after}
use Rattle.trick_text.proofs.Digits.{value_grows}
use Rattle.trick_text.proofs.number.digits_value.Goals as goal

pub returns-then-value-limit_wide-clause-value : goal.returns-then-value-limit_wide-clause-value
returns-then-value-limit_wide-clause-value c =
    let ds = c.args.digits.now in
    let i = c.loop-digit.digit-index in
    let n = c.loop-digit.value * c.args.base + digit_value (get_or ds i 0) in
    let next = ap (digits_value_after c.args.base c.loop-digit.value) (drop_more ds i 0 (omega arith)) in
    omega (arith, value_grows c.args.base n (drop (i + 1) ds) c.requires.base, next, c.loop-digit.invariant.so_far, c.digit_value.ensures.value, ap (λ b. c.loop-digit.value * b) c.from.ensures)
