-- The usual lines: a name, ` = `, a value with `;` after it, and a line feed.
use Rattle.std.specs.Fmt.{decimal, signed_decimal}
use Rattle.std.specs.Prelude.{ℕ, ℤ, pos, Bool, true, false, List, [], ◌∷◌, ◌++◌, Option, Some, None, codes}
use Rattle.trick_codes.specs.Code.{Code, literal, number, integer, one_of, sequence, read_as, nothing, choice, Either, left, right}
use Rattle.trick_codes.specs.Forms.{kind_of}
use Rattle.trick_codes.specs.Lines.{Lines, line, split_first}
use Rattle.trick_codes.specs.declared.range.Range.{Range}

-- a name and ` = `
abbrev pub title : List ℕ → List ℕ
title name = name ++ codes " = "

-- a title, and a value
abbrev pub named : {A : Type 0} → List ℕ → Code A → Code A
named name c = read_as (λ v. v.1) (λ x. (tt, x)) (sequence (literal (title name)) (λ u. c))

-- the text of a line, of its name and its value
abbrev pub line_text : List ℕ → List ℕ → List ℕ
line_text name value = (title name ++ (value ++ codes ";")) ++ codes "\n"

-- a name with an index, as `job[3]`
abbrev pub indexed : List ℕ → ℕ → List ℕ
indexed stem k = stem ++ (codes "[" ++ (decimal k ++ codes "]"))

-- the line of a number from the least to the most
abbrev pub number_line : List ℕ → (least most : ℕ) → Lines ℕ
number_line name least most = line (kind_of name 1) (named name (number least most 59))

-- the line of a number of a range
abbrev pub integer_line : List ℕ → Range → Lines ℤ
integer_line name range = line (kind_of name 1) (named name (integer range.below range.above 59))

-- the line of one of these words, each with its `;`
abbrev pub word_line : List ℕ → List (List ℕ) → Lines ℕ
word_line name ws = line (kind_of name 0) (named name (one_of ws))

-- the last line
abbrev pub end_line : Lines (Unit {0})
end_line = line (kind_of [] 0) (literal (codes "end;"))

-- ---- rows of numbers

-- for each key, which is followed by others, the code that the function says, one after the other
abbrev pub each_code : {K A : Type 0} → A → (K → List K → Code A) → List K → Code (List A)
each_code d c [] = nothing []
each_code d c (k ∷ ks) = read_as (λ p. p.0 ∷ p.1) (split_first d) (sequence (c k ks) (λ x. each_code d c ks))

-- what stands after a number that is followed by these
abbrev pub mark_before : List Range → ℕ
mark_before [] = 59
mark_before (r ∷ rs) = 44

abbrev pub row_number : Range → List Range → Code ℤ
row_number r rs = integer r.below r.above (mark_before rs)

-- a number of each range, with `,` between and `;` at the end
abbrev pub row : List Range → Code (List ℤ)
row [] = read_as (λ u. []) (λ ns. tt) (literal (codes ";"))
row (r ∷ rs) = each_code (pos 0) row_number (r ∷ rs)

-- ---- a value, or none

abbrev pub option_of : {A : Type 0} → Either (Unit {0}) A → Option A
option_of (left u) = None
option_of (right x) = Some x

abbrev pub either_of : {A : Type 0} → Option A → Either (Unit {0}) A
either_of None = left tt
either_of (Some x) = right x

-- `none;`, or a value, whose text does not begin with an `n`
abbrev pub none_or : {A : Type 0} → Code A → Code (Option A)
none_or c = read_as option_of either_of (choice 110 (literal (codes "none;")) c)

-- ---- as they are printed

-- the numbers after the first of a row, and the end of the row
abbrev pub others_text : List ℤ → List ℕ
others_text [] = codes ";"
others_text (n ∷ ns) = codes "," ++ (signed_decimal n ++ others_text ns)

-- a row of numbers
abbrev pub row_text : List ℤ → List ℕ
row_text [] = codes ";"
row_text (n ∷ ns) = signed_decimal n ++ others_text ns

-- the row that was read, where one was
abbrev pub row_where : Bool → List ℤ → Option (List ℤ)
row_where true ns = Some ns
row_where false ns = None
