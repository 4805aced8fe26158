-- What is known of a name, a whole number and a time that stand at the front of a text.
use Rattle.std.proofs.Common.{◌≡◌, ℕ, zero, suc, ◌+◌, ◌*◌, ◌/◌, ◌%◌, ◌^◌, ◌≤◌, Bool, true, false, ◌&&◌, cond, List, [], ◌∷◌, length, Option, Some, None, take, drop, Result, Ok, Err, refl, sym, subst, arith, if◌then◌else◌, nat_le, nat_lt}
use Rattle.std.proofs.Math.Nat.{div-le_of_le-mul, mul_comm}
use Rattle.std.proofs.lemmas.Bool.{ltb-false}
use Rattle.std.proofs.lemmas.Bool.Decides.{nat_tests}
use Rattle.std.proofs.lemmas.List.Folds.{length-prefix_len}
use Rattle.std.specs.Char.{is_ascii_digit}
use Rattle.std.specs.List.{list_all, prefix_len}
use Rattle.std.specs.Prelude.{codes, ◌==◌}
use Rattle.trick_lang.specs.Names.{is_spelled}
use Rattle.trick_text.specs.Pieces.{begins, is_white, is_in_line, begins_line_comment, begins_block_comment, block_comment, before_close, begins_name, is_in_name, name_front, begins_number, number_front, is_quote, is_in_text, text_front, begins_mark, front, whole_front, decimal_front, hexadecimal_digits, mark_len}
use Rattle.trick_base.specs.Time.{tic_limit}
use Rattle.trick_text.specs.Seconds.{seconds_of, time_answer, numerator, places}
use Rattle.trick_text.specs.declared.fault.TimeFault.{TimeFault}
use Rattle.trick_text.specs.declared.fault.TimeFault.TheVariants.{InexactTime, TimeTooLarge}
use Rattle.trick_text.specs.declared.piece.Piece.{Piece}
use Rattle.trick_text.specs.declared.piece.Piece.TheVariants.{Blank, Token, BadByte, LongNumber}
use Rattle.trick_text.specs.declared.token.Style.{Style}
use Rattle.trick_text.specs.declared.token.TokenKind.TheVariants.{Name, Whole, Decimal, Text, Mark}

-- ---- names

-- a piece that is no name
IsNoName : Piece → Type 0
IsNoName p = (n : ℕ) → p ≡ Token Name n → ⊥

-- the first branch, where the second is no name
then_name : (b : Bool) (x y : Piece) (n : ℕ) → (if b then x else y) ≡ Token Name n → IsNoName y
    → (b ≡ true) × (x ≡ Token Name n)
unfolding IsNoName
then_name true x y n e none = (refl, e)
then_name false x y n e none = absurd (none n e)

-- the second branch, where the first is no name
else_name : (b : Bool) (x y : Piece) (n : ℕ) → (if b then x else y) ≡ Token Name n → IsNoName x → y ≡ Token Name n
unfolding IsNoName
else_name true x y n e none = absurd (none n e)
else_name false x y n e none = e

either_none : (b : Bool) (x y : Piece) → IsNoName x → IsNoName y → IsNoName (if b then x else y)
either_none true x y p q = p
either_none false x y p q = q

blank_none : (m : ℕ) → IsNoName (Blank m)
unfolding IsNoName
blank_none m n e = cc

bad_none : (m : ℕ) → IsNoName (BadByte m)
unfolding IsNoName
bad_none m n e = cc

comment_none : (o : Option ℕ) → IsNoName (block_comment o)
unfolding IsNoName
comment_none None n e = cc
comment_none (Some m) n e = cc

long_none : IsNoName LongNumber
unfolding IsNoName
long_none n e = cc

whole_token_none : (m : ℕ) → IsNoName (Token Whole m)
unfolding IsNoName
whole_token_none m n e = cc

decimal_token_none : (m : ℕ) → IsNoName (Token Decimal m)
unfolding IsNoName
decimal_token_none m n e = cc

text_token_none : (m : ℕ) → IsNoName (Token Text m)
unfolding IsNoName
text_token_none m n e = cc

whole_none : (m : ℕ) (text : List ℕ) → IsNoName (whole_front m text)
whole_none m text = either_none (nat_le _ _) _ _ (whole_token_none m) long_none

decimal_none : (m : ℕ) → IsNoName (decimal_front m)
decimal_none m = either_none (nat_le m 40) _ _ (decimal_token_none m) long_none

number_none : (text : List ℕ) → IsNoName (number_front text)
unfolding number_front
number_none text =
    let digits = prefix_len is_ascii_digit text in
    either_none (nat_lt 0 (hexadecimal_digits text)) _ _ (whole_none (2 + hexadecimal_digits text) text)
    (either_none (begins (codes ".") (drop digits text)) _ _
    (decimal_none (digits + 1 + prefix_len is_ascii_digit (drop (digits + 1) text))) (whole_none digits text))

text_none : (quote : ℕ) (text : List ℕ) → IsNoName (text_front quote text)
unfolding text_front
text_none quote text =
    let n = prefix_len (is_in_text quote) text in
    either_none (begins (quote ∷ []) (drop n text)) _ _ (text_token_none (n + 2)) (bad_none 0)

mark_none : (m : ℕ) → IsNoName (Token Mark m)
unfolding IsNoName
mark_none m n e = cc

-- only the rule of names makes one
name_here : (style : Style) (b : ℕ) (bs : List ℕ) (n : ℕ) → front style (b ∷ bs) ≡ Token Name n
    → (begins_name b ≡ true) × (name_front (b ∷ bs) ≡ Token Name n)
unfolding front
name_here style b bs n e =
    let past_white = else_name (is_white b) _ _ n e (blank_none (prefix_len is_white (b ∷ bs))) in
    let past_line = else_name (begins_line_comment style (b ∷ bs)) _ _ n past_white
    (blank_none (prefix_len is_in_line (b ∷ bs))) in
    let past_block = else_name (begins_block_comment style (b ∷ bs)) _ _ n past_line
    (comment_none (before_close (drop 2 (b ∷ bs)))) in
    then_name (begins_name b) _ _ n past_block
    (either_none (begins_number (b ∷ bs)) _ _ (number_none (b ∷ bs))
    (either_none (is_quote style b) _ _ (text_none b bs)
    (either_none (begins_mark b) _ _ (mark_none (mark_len (b ∷ bs))) (bad_none 0))))

same_len : (m n : ℕ) → Token Name m ≡ Token Name n → m ≡ n
same_len m n e = cc

-- a name has at most 64 bytes, which are all that could belong to it
name_len : (text : List ℕ) (n : ℕ) → name_front text ≡ Token Name n → (n ≤ 64) × (n ≡ prefix_len is_in_name text)
unfolding name_front
name_len text n e = by (nat_lt 64 (prefix_len is_in_name text)) refl e
  where
    by : (b : Bool) → nat_lt 64 (prefix_len is_in_name text) ≡ b
        → (if b then BadByte 64 else Token Name (prefix_len is_in_name text)) ≡ Token Name n
        → (n ≤ 64) × (n ≡ prefix_len is_in_name text)
    by true t e = absurd cc
    by false t e = let same = same_len _ n e in (grind (arith, nat_tests), sym same)

all_in_front : (p : ℕ → Bool) (xs : List ℕ) → list_all p (take (prefix_len p xs) xs) ≡ true
all_in_front p [] = refl
all_in_front p (x ∷ xs) = by (p x) refl (all_in_front p xs)
  where
    by : (b : Bool) → p x ≡ b → list_all p (take (prefix_len p xs) xs) ≡ true
        → list_all p (take (cond b (1 + prefix_len p xs) 0) (x ∷ xs)) ≡ true
    by true e rest =
        let next : suc (prefix_len p xs) ≡ 1 + prefix_len p xs = omega arith in
        subst (λ k. list_all p (take k (x ∷ xs)) ≡ true) next (rw e rest)
    by false e rest = refl

-- a name begins with a letter or `_`, and has at most 64 bytes, of letters, digits and `_`
pub record IsWord (name : List ℕ) : Type 0 where
  pub some : 1 ≤ length name
  pub short : length name ≤ 64
  pub begins : (b : ℕ) (bs : List ℕ) → name ≡ b ∷ bs → begins_name b ≡ true
  pub inside : list_all is_in_name name ≡ true

pub name_is_word : (style : Style) (text : List ℕ) (n : ℕ) → 1 ≤ n → front style text ≡ Token Name n
    → IsWord (take n text)
unfolding front IsNoName
name_is_word style [] n some e = absurd (bad_none 0 n e)
name_is_word style (b ∷ bs) zero some e = absurd (omega arith)
name_is_word style (b ∷ bs) (suc n) some e =
    let here = name_here style b bs (suc n) e in
    let size = name_len (b ∷ bs) (suc n) here.1 in
    let taken = length-prefix_len is_in_name (b ∷ bs) in
    let all : list_all is_in_name (take (suc n) (b ∷ bs)) ≡ true =
    subst (λ k. list_all is_in_name (take k (b ∷ bs)) ≡ true) (sym size.1) (all_in_front is_in_name (b ∷ bs)) in
    let len : length (take (suc n) (b ∷ bs)) ≡ suc n =
    subst (λ k. length (take k (b ∷ bs)) ≡ k) (sym size.1) taken in
    let small = size.0 in
    record {
      some = omega (arith, len);
      short = omega (arith, len, small);
      begins = λ c cs is. subst (λ x. begins_name x ≡ true) (first_is b c _ cs is) here.0;
      inside = all;
    }
  where
    first_is : (b c : ℕ) (bs cs : List ℕ) → b ∷ bs ≡ c ∷ cs → b ≡ c
    first_is b c bs cs is = cc

-- so the name of a text is spelled
pub word_is_spelled : (name : List ℕ) → IsWord name → is_spelled name ≡ true
word_is_spelled [] word = let some = word.some in absurd (omega (arith, some))
word_is_spelled (b ∷ bs) word = rw (word.begins b bs refl, behind (is_in_name b) _ word.inside) refl
  where
    behind : (a c : Bool) → (a && c) ≡ true → c ≡ true
    behind true c h = h
    behind false c h = absurd cc

-- ---- times

abbrev given : ℕ → Result ℕ TimeFault
given n = Ok n

same_tics : (m n : ℕ) → given m ≡ given n → m ≡ n
same_tics m n h = cc

few : (line parts unit tics : ℕ) → time_answer line parts unit ≡ Ok tics → tics ≤ tic_limit
few line parts unit tics e = by (nat_lt (tic_limit * unit) parts) refl (parts % unit == 0) e
  where
    by : (b : Bool) → nat_lt (tic_limit * unit) parts ≡ b → (c : Bool)
        → (if b then Err (TimeTooLarge line) else if c then Ok (parts / unit) else Err (InexactTime line)) ≡ Ok tics
        → tics ≤ tic_limit
    by true t c h = absurd cc
    by false t true h =
        let below : parts ≤ tic_limit * unit = ltb-false (tic_limit * unit) parts t in
        let turned = mul_comm tic_limit unit in
        let within : parts / unit ≤ tic_limit = div-le_of_le-mul unit (subst (λ k. parts ≤ k) turned below) in
        subst (λ k. k ≤ tic_limit) (same_tics (parts / unit) tics h) within
    by false t false h = absurd cc

-- a time has at most 10^15 tics
pub tics_are_few : (line : ℕ) (bytes : List ℕ) (tics : ℕ) → seconds_of line bytes ≡ Ok tics → tics ≤ tic_limit
tics_are_few line bytes tics e = few line (numerator bytes * 10 ^ 6) (10 ^ places bytes) tics e
