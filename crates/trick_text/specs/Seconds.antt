-- The tics of a number of seconds: a million tics are a second.
use Rattle.std.specs.List.{after_first, before_first, list_any}
use Rattle.std.specs.Prelude.{◌≡◌, ℕ, ◌*◌, ◌/◌, ◌%◌, ◌^◌, ◌<◌, nat_lt, Bool, true, false, List, ◌++◌, length, ◌==◌, Result, Ok, Err, if◌then◌else◌}
use Rattle.std.specs.Str.Parse.{digits_value}
use Rattle.trick_base.specs.Time.{tic_limit}
use Rattle.trick_text.specs.Numbers.{whole_value}
use Rattle.trick_text.specs.declared.fault.TimeFault.{TimeFault}
use Rattle.trick_text.specs.declared.fault.TimeFault.TheVariants.{InexactTime, TimeTooLarge}
use Rattle.trick_text.specs.declared.token.TokenKind.{TokenKind}
use Rattle.trick_text.specs.declared.token.TokenKind.TheVariants.{Name, Whole, Decimal, Text, Mark}

-- the kinds of token that are numbers
abbrev pub is_number : TokenKind → Bool
is_number Name = false
is_number Whole = true
is_number Decimal = true
is_number Text = false
is_number Mark = false

abbrev pub is_point : ℕ → Bool
is_point b = b == 46

-- how many digits stand after the point; none where there is no point
abbrev pub places : List ℕ → ℕ
places bytes = length (after_first is_point bytes)

-- the digits before the point and those after it, as one number; the whole number where there is
-- no point
abbrev pub numerator : List ℕ → ℕ
numerator bytes =
    if list_any is_point bytes then digits_value 10 (before_first is_point bytes ++ after_first is_point bytes)
    else whole_value bytes

-- The value of a number is its numerator divided by ten to the power of its places. So that no
-- fraction is left, both sides of a fact are given times that power.

-- the value times one million is exactly n
abbrev pub IsTics : List ℕ → ℕ → Type 0
IsTics bytes n = n * 10 ^ places bytes ≡ numerator bytes * 10 ^ 6

-- the value times one million is above the limit of tics
abbrev pub IsTooLarge : List ℕ → Type 0
IsTooLarge bytes = tic_limit * 10 ^ places bytes < numerator bytes * 10 ^ 6

-- The same as a computation, from tics and from how many parts a tic is cut into: too many tics on
-- this line come first, and then tics with a rest.
abbrev pub time_answer : ℕ → ℕ → ℕ → Result ℕ TimeFault
time_answer line parts unit =
    if nat_lt (tic_limit * unit) parts then Err (TimeTooLarge line)
    else if parts % unit == 0 then Ok (parts / unit)
    else Err (InexactTime line)

-- the tics of a number of seconds with these bytes, or the fault of its token on this line
abbrev pub seconds_of : ℕ → List ℕ → Result ℕ TimeFault
seconds_of line bytes = time_answer line (numerator bytes * 10 ^ 6) (10 ^ places bytes)
