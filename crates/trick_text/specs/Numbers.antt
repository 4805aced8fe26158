-- The number that a token's bytes stand for.
use Rattle.std.specs.Char.{is_ascii_digit}
use Rattle.std.specs.List.{list_all, starts_with}
use Rattle.std.specs.Prelude.{ℕ, Bool, ◌&&◌, ◌||◌, not, List, length, drop, nat_eq, nat_le, nat_lt, ◌==◌, codes, Option, Some, None, if◌then◌else◌}
use Rattle.std.specs.Str.Parse.{digits_value}

-- `0x` stands first
abbrev pub is_hexadecimal : List ℕ → Bool
is_hexadecimal bytes = starts_with nat_eq bytes (codes "0x")

-- hexadecimal after `0x`, with digits of either case, and else decimal, with any zeros in front
abbrev pub whole_value : List ℕ → ℕ
whole_value bytes = if is_hexadecimal bytes then digits_value 16 (drop 2 bytes) else digits_value 10 bytes

-- the largest whole number that a text may hold, two to the power of 63
abbrev pub whole_limit : ℕ
whole_limit = 9223372036854775808

-- decimal digits, one at least, with a zero in front only where it stands alone
abbrev pub is_plain_number : List ℕ → Bool
is_plain_number bytes = list_all is_ascii_digit bytes
    && (not (starts_with nat_eq bytes (codes "0")) || (length bytes == 1)) && nat_lt 0 (length bytes)

-- the number of plain digits, where it is no larger than a whole number may be
abbrev pub plain_number : List ℕ → Option ℕ
plain_number bytes = if is_plain_number bytes && nat_le (digits_value 10 bytes) whole_limit
    then Some (digits_value 10 bytes) else None
