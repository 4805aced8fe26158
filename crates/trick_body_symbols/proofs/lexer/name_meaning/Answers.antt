use Rattle.std.proofs.Common.{◌≡◌, ℕ, ◌-◌, Option, Some, None, unwrap_or, length, drop, length-drop, refl, ap, ◌∙◌, arith}
use Rattle.std.proofs.lemmas.List.{take_all}
use Rattle.trick_text.specs.Numbers.{plain_number}
use Rattle.trick_text.specs.Values.{number_or_0}
use Rattle.trick_body_symbols.proofs.lexer.name_meaning.Goals as goal

or_zero : (number : Option ℕ) → unwrap_or number 0 ≡ number_or_0 number
or_zero None = refl
or_zero (Some n) = refl

pub returns-clause-number : goal.returns-clause-number
returns-clause-number c =
    let bytes = c.args.bytes.now in
    let behind = take_all (length bytes - 1) (drop 1 bytes) (omega (arith, length-drop 1 bytes)) in
    c.unwrap_or.ensures ∙ (or_zero c.plain_number-number.result
    ∙ ap number_or_0 (c.plain_number-number.ensures.value ∙ ap plain_number behind))
