use Rattle.std.proofs.Common.{◌≡◌, ℕ, ◌*◌, ◌/◌, ◌%◌, ◌^◌, Bool, true, false, List, Result, Ok, Err, refl, ap, ◌∙◌, if◌then◌else◌, nat_lt}
use Rattle.std.specs.Prelude.{◌==◌}
use Rattle.std.specs.Result.{result_unwrap_or}
use Rattle.trick_base.specs.Time.{tic_limit}
use Rattle.trick_body_symbols.specs.Symbols.{decimal_of}
use Rattle.trick_text.specs.Seconds.{numerator, places, seconds_of}
use Rattle.trick_text.specs.Tokens.{spelling}
use Rattle.trick_text.specs.Values.{tics_or_0}
use Rattle.trick_text.specs.declared.fault.TimeFault.{TimeFault}
use Rattle.trick_text.specs.declared.fault.TimeFault.TheVariants.{InexactTime, TimeTooLarge}
use Rattle.trick_body_symbols.proofs.lexer.decimal_meaning.Goals as goal

-- what hangs on no fault's line is the same on each line
same : {A : Type 0} (f : Result ℕ TimeFault → A) → ((a b : TimeFault) → f (Err a) ≡ f (Err b))
    → (line : ℕ) (bytes : List ℕ) → f (seconds_of line bytes) ≡ f (seconds_of 0 bytes)
same f alike line bytes = by (numerator bytes * 10 ^ 6) (10 ^ places bytes)
    (nat_lt (tic_limit * 10 ^ places bytes) (numerator bytes * 10 ^ 6)) (numerator bytes * 10 ^ 6 % 10 ^ places bytes == 0)
  where
    by : (parts unit : ℕ) (b c : Bool)
        → f (if b then Err (TimeTooLarge line) else if c then Ok (parts / unit) else Err (InexactTime line))
        ≡ f (if b then Err (TimeTooLarge 0) else if c then Ok (parts / unit) else Err (InexactTime 0))
    by parts unit true c = alike (TimeTooLarge line) (TimeTooLarge 0)
    by parts unit false true = refl
    by parts unit false false = alike (InexactTime line) (InexactTime 0)

or_zero : (r : Result ℕ TimeFault) → result_unwrap_or r 0 ≡ tics_or_0 r
or_zero (Ok n) = refl
or_zero (Err fault) = refl

pub returns-clause-symbol : goal.returns-clause-symbol
returns-clause-symbol c =
    let bytes = spelling c.args.text.now c.args.token.now in
    c.decimal_of.ensures ∙ (ap decimal_of c.seconds-tics.ensures.value
    ∙ same decimal_of (λ a b. refl) c.args.token.now.line bytes)

pub returns-clause-number : goal.returns-clause-number
returns-clause-number c =
    let bytes = spelling c.args.text.now c.args.token.now in
    c.unwrap_or.ensures ∙ (or_zero c.seconds-tics.result ∙ (ap tics_or_0 c.seconds-tics.ensures.value
    ∙ same tics_or_0 (λ a b. refl) c.args.token.now.line bytes))
