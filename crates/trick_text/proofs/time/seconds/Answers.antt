use Rattle.std.proofs.Common.{◌-◌, Ok, drop, refl, sym, ap, subst}
use Rattle.std.specs.List.{after_first}
use Rattle.std.specs.Str.Parse.{AllDigits}
use Rattle.trick_text.specs.Amounts.{IsAmount}
use Rattle.trick_text.specs.Seconds.{is_point, numerator, places}
use Rattle.trick_text.proofs.Fronts.{fraction_is_digits}
use Rattle.trick_text.proofs.Amounts.{inexact_has_none, is_above, is_not_above, only_tics}
use Rattle.trick_text.proofs.Times.{answer_exact, answer_inexact, answer_large, none_above}
use Rattle.trick_text.proofs.time.seconds.Goals as goal

pub amount_of-requires : goal.amount_of-requires
amount_of-requires c =
    let t = c.args.token.now in
    subst (λ bytes. AllDigits 10 (after_first is_point bytes)) (sym c.spelling.ensures)
    (fraction_is_digits c.requires.token.0 (drop t.start c.args.text.now) t.kind (t.end - t.start) c.requires.number c.requires.token.1.longest)

pub returns-then-not-amount-clause-found : goal.returns-then-not-amount-clause-found
returns-then-not-amount-clause-found c n most tics =
    let is = subst (λ bytes. IsAmount (numerator bytes) (places bytes) c.in-Some.amount) c.spelling.ensures c.in-Some.ensures in
    absurd (inexact_has_none _ _ _ is c.if-not-amount.true n tics)

pub returns-then-not-amount-clause-inexact : goal.returns-then-not-amount-clause-inexact
returns-then-not-amount-clause-inexact c =
    let is = subst (λ bytes. IsAmount (numerator bytes) (places bytes) c.in-Some.amount) c.spelling.ensures c.in-Some.ensures in
    (λ _. (is_not_above _ _ _ is (sym c.if-is_above.ensures), inexact_has_none _ _ _ is c.if-not-amount.true), λ _. refl)

pub returns-else-not-amount-clause-found : goal.returns-else-not-amount-clause-found
returns-else-not-amount-clause-found c n most tics =
    let is = subst (λ bytes. IsAmount (numerator bytes) (places bytes) c.in-Some.amount) c.spelling.ensures c.in-Some.ensures in
    ap (λ k. Ok k) (sym (only_tics _ _ _ is n tics))

pub returns-then-is_above-clause-value : goal.returns-then-is_above-clause-value
returns-then-is_above-clause-value c =
    let is = subst (λ bytes. IsAmount (numerator bytes) (places bytes) c.in-Some.amount) c.spelling.ensures c.in-Some.ensures in
    sym (answer_large _ _ _ (is_above _ _ _ is (sym c.if-is_above.ensures)))

pub returns-then-is_above-clause-found : goal.returns-then-is_above-clause-found
returns-then-is_above-clause-found c n most tics =
    let is = subst (λ bytes. IsAmount (numerator bytes) (places bytes) c.in-Some.amount) c.spelling.ensures c.in-Some.ensures in
    absurd (none_above _ _ n most tics (is_above _ _ _ is (sym c.if-is_above.ensures)))

pub returns-then-not-amount-clause-value : goal.returns-then-not-amount-clause-value
returns-then-not-amount-clause-value c =
    let is = subst (λ bytes. IsAmount (numerator bytes) (places bytes) c.in-Some.amount) c.spelling.ensures c.in-Some.ensures in
    answer_inexact _ _ _ _ is (sym c.if-is_above.ensures) c.if-not-amount.true

pub returns-else-not-amount-clause-value : goal.returns-else-not-amount-clause-value
returns-else-not-amount-clause-value c =
    let is = subst (λ bytes. IsAmount (numerator bytes) (places bytes) c.in-Some.amount) c.spelling.ensures c.in-Some.ensures in
    answer_exact _ _ _ _ is (sym c.if-is_above.ensures) c.if-not-amount.false
