use Rattle.std.proofs.Common.{◌≡◌, length, arith, rules}
use Rattle.std.proofs.lemmas.Bool.{some_since}
use Rattle.std.proofs.lemmas.Int.Digits.{digits_value-lt}
use Rattle.std.specs.Str.Parse.{digits_value}
use Rattle.trick_text.proofs.Amounts.{few_digits_are_small, small_product}
use Rattle.trick_text.proofs.time.millionths.Goals as goal

pub unwrap-value-requires : goal.unwrap-value-requires
unwrap-value-requires c =
    let small = few_digits_are_small c.args.digits.now c.requires.digits c.requires.few in
    some_since _ _ _ c.digits_value.ensures.value (λ large. omega (arith, small, large))

pub returns-clause-small : goal.returns-clause-small
returns-clause-small c =
    let ds = c.args.digits.now in
    let value : c.unwrap-value.result ≡ digits_value 10 ds = search rules in
    rw (value, c.pow.ensures) (small_product (length ds) (digits_value 10 ds) c.requires.few (digits_value-lt 10 ds c.requires.digits))
