-- Worked values, which the prover computes.
use Rattle.std.proofs.Common.{◌≡◌, true, false, [], ◌∷◌, Ok, Err, refl}
use Rattle.std.specs.Fmt.{digits}
use Rattle.std.specs.Prelude.{codes, pos, negsuc}
use Rattle.trick_codes.specs.Code.{read, number, integer, free, one_of, all_apart}
use Rattle.trick_codes.specs.Forms.{kind_of}
use Rattle.trick_codes.specs.Lines.{read_lines, text, cut, wrong}
use Rattle.trick_codes.specs.Loads.{line_behind}
use Rattle.trick_codes.specs.Named.{number_line, end_line, indexed, row_text}
use Rattle.trick_codes.specs.declared.kind.Kind.TheVariants.{BadLine, WrongPlan, OutOfRange}
use Rattle.trick_codes.specs.declared.miss.Miss.TheVariants.{Ends, Differs}

-- ---- what is wrong with a line in the place of `turn`
no_plus : kind_of (codes "turn") 1 (codes "turn = +6;\n") ≡ BadLine
no_plus = refl

no_leading_zero : kind_of (codes "turn") 1 (codes "turn = 06;\n") ≡ BadLine
no_leading_zero = refl

no_minus_zero : kind_of (codes "turn") 1 (codes "turn = -0;\n") ≡ BadLine
no_minus_zero = refl

below_zero : kind_of (codes "turn") 1 (codes "turn = -5;\n") ≡ OutOfRange
below_zero = refl

two_numbers : kind_of (codes "turn") 1 (codes "turn = 1,2;\n") ≡ BadLine
two_numbers = refl

another_name : kind_of (codes "turn") 1 (codes "tic = 6;\n") ≡ WrongPlan
another_name = refl

-- the value of a line of the form may be anything, as may its name be
any_value : kind_of (codes "turn") 1 (codes "x y = z;\n") ≡ WrongPlan
any_value = refl

no_name : kind_of (codes "turn") 1 (codes " = 6;\n") ≡ BadLine
no_name = refl

no_semicolon : kind_of (codes "turn") 1 (codes "turn = 6\n") ≡ BadLine
no_semicolon = refl

no_form : kind_of (codes "turn") 1 (codes "end;\n") ≡ BadLine
no_form = refl

-- where `end;` is due, each line of the form is of another plan
where_end_is_due : kind_of [] 0 (codes "x y = z;\n") ≡ WrongPlan
where_end_is_due = refl

-- a row of two is due
row_of_three : kind_of (codes "last[0]") 2 (codes "last[0] = 1,2,3;\n") ≡ BadLine
row_of_three = refl

row_of_two : kind_of (codes "last[0]") 2 (codes "last[0] = 1,900;\n") ≡ OutOfRange
row_of_two = refl

-- the first ` = ` is the one that counts
first_equals : kind_of (codes "a = b") 1 (codes "a = b = 6;\n") ≡ WrongPlan
first_equals = refl

-- ---- codes
a_number : read (number 0 12 59) (codes "12;x") ≡ Ok (12, codes "x")
a_number = refl

too_large : read (number 0 12 59) (codes "13;") ≡ Err Differs
too_large = refl

not_whole : read (number 0 12 59) (codes "1") ≡ Err Ends
not_whole = refl

no_zero : read (number 1 12 59) (codes "0;") ≡ Err Differs
no_zero = refl

negative : read (integer 5 10 59) (codes "-5;") ≡ Ok (negsuc 4, [])
negative = refl

too_low : read (integer 5 10 59) (codes "-6;") ≡ Err Differs
too_low = refl

no_minus_at_all : read (integer 0 10 59) (codes "-") ≡ Err Differs
no_minus_at_all = refl

minus_alone : read (integer 5 10 59) (codes "-") ≡ Err Ends
minus_alone = refl

free_bytes : read (free 3 10) (codes "abc\nd") ≡ Ok (codes "abc", codes "d")
free_bytes = refl

too_long : read (free 3 10) (codes "abcd\n") ≡ Err Differs
too_long = refl

a_word : read (one_of (codes "Run;" ∷ codes "Freeze;" ∷ [])) (codes "Freeze;\n") ≡ Ok (1, codes "\n")
a_word = refl

part_of_a_word : read (one_of (codes "Run;" ∷ codes "Freeze;" ∷ [])) (codes "Fre") ≡ Err Ends
part_of_a_word = refl

no_such_word : read (one_of (codes "Run;" ∷ codes "Freeze;" ∷ [])) (codes "Fro") ≡ Err Differs
no_such_word = refl

apart : all_apart (codes "Run;" ∷ codes "Freeze;" ∷ []) ≡ true
apart = refl

not_apart : all_apart (codes "held" ∷ codes "none" ∷ codes "hel" ∷ []) ≡ false
not_apart = refl

-- ---- lines
a_line : text (number_line (codes "turn") 0 9) 7 ≡ codes "turn = 7;\n"
unfolding digits
a_line = refl

line_without_feed : read_lines (number_line (codes "turn") 0 9) (codes "turn = 7;") ≡ Err cut
line_without_feed = refl

line_out_of_range : read_lines (number_line (codes "turn") 0 9) (codes "turn = 10;\nend;\n") ≡ Err (wrong OutOfRange (codes "turn = 10;\nend;\n"))
line_out_of_range = refl

-- a last line that begins no line that is due is wrong, and not cut off
part_of_another : read_lines end_line (codes "turn") ≡ Err (wrong BadLine (codes "turn"))
part_of_another = refl

third_line : line_behind (codes "a\nb\n") ≡ 3
third_line = refl

an_index : indexed (codes "job") 10 ≡ codes "job[10]"
unfolding digits
an_index = refl

a_row : row_text (pos 1 ∷ negsuc 1 ∷ pos 0 ∷ []) ≡ codes "1,-2,0;"
unfolding digits
a_row = refl

no_row : row_text [] ≡ codes ";"
no_row = refl
