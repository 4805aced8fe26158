-- The number that a token stands for, by its kind and its bytes, where readers of several languages
-- want one.
use Rattle.std.specs.Prelude.{ℕ, List, drop, Option, Some, None, Result, Ok, Err}
use Rattle.trick_text.specs.Numbers.{plain_number, whole_value}
use Rattle.trick_text.specs.Seconds.{seconds_of}
use Rattle.trick_text.specs.declared.fault.TimeFault.{TimeFault}
use Rattle.trick_text.specs.declared.token.TokenKind.{TokenKind}
use Rattle.trick_text.specs.declared.token.TokenKind.TheVariants.{Name, Whole, Decimal, Text, Mark}

abbrev pub number_or_0 : Option ℕ → ℕ
number_or_0 None = 0
number_or_0 (Some n) = n

abbrev pub tics_or_0 : Result ℕ TimeFault → ℕ
tics_or_0 (Err fault) = 0
tics_or_0 (Ok tics) = tics

-- of a name the plain number after its first letter, as 12 of `C12`; a whole number; the tics of a
-- decimal number of seconds; and 0 where there is none
abbrev pub number_of : TokenKind → List ℕ → ℕ
number_of Name bytes = number_or_0 (plain_number (drop 1 bytes))
number_of Whole bytes = whole_value bytes
number_of Decimal bytes = tics_or_0 (seconds_of 0 bytes)
number_of Text bytes = 0
number_of Mark bytes = 0
