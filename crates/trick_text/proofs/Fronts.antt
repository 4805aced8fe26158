-- What is known of a number that stands at the front of a text.
use Rattle.std.proofs.Common.{◌≡◌, ℕ, suc, ◌+◌, ◌<◌, ◌≤◌, Bool, true, false, cond, List, [], ◌∷◌, Option, Some, None, take, drop, arith, refl, sym, ap, ◌∙◌, subst, if◌then◌else◌}
use Rattle.std.proofs.lemmas.Bool.{and_parts, leb-true, eqb-true}
use Rattle.std.proofs.lemmas.Bool.Decides.{nat_tests}
use Rattle.std.specs.Char.{digit_value, is_ascii_digit, is_ascii_hexdigit}
use Rattle.std.specs.List.{after_first, position_or_len, prefix_len}
use Rattle.std.specs.Prelude.{codes, nat_lt, nat_le, ◌==◌}
use Rattle.std.specs.Str.Parse.{AllDigits}
use Rattle.trick_text.specs.declared.piece.Piece.{Piece}
use Rattle.trick_text.specs.declared.piece.Piece.TheVariants.{Blank, Token, BadByte, OpenComment, LongNumber}
use Rattle.trick_text.specs.declared.token.Style.{Style}
use Rattle.trick_text.specs.declared.token.TokenKind.{TokenKind}
use Rattle.trick_text.specs.declared.token.TokenKind.TheVariants.{Name, Whole, Decimal, Text, Mark}
use Rattle.trick_text.specs.Numbers.{whole_value, whole_limit}
use Rattle.trick_text.specs.Pieces.{begins, is_white, begins_line_comment, begins_block_comment, block_comment, before_close, begins_name, name_front, begins_number, number_front, is_quote, text_front, begins_mark, front, whole_front, decimal_front, hexadecimal_digits}
use Rattle.trick_text.specs.Seconds.{is_number, is_point}

-- the first branch or the second, where the other cannot be
else_branch : (b : Bool) (x y z : Piece) → (if b then x else y) ≡ z → (x ≡ z → ⊥) → y ≡ z
else_branch true x y z e other = absurd (other e)
else_branch false x y z e other = e

then_branch : (b : Bool) (x y z : Piece) → (if b then x else y) ≡ z → (y ≡ z → ⊥) → x ≡ z
then_branch true x y z e other = e
then_branch false x y z e other = absurd (other e)

same_kind : (a b : TokenKind) (m n : ℕ) → Token a m ≡ Token b n → a ≡ b
same_kind a b m n e = cc

same_len : (a b : TokenKind) (m n : ℕ) → Token a m ≡ Token b n → m ≡ n
same_len a b m n e = cc

no_blank : (k : TokenKind) (m n : ℕ) → Blank m ≡ Token k n → ⊥
no_blank k m n e = cc

no_bad : (k : TokenKind) (m n : ℕ) → BadByte m ≡ Token k n → ⊥
no_bad k m n e = cc

no_open : (k : TokenKind) (n : ℕ) → OpenComment ≡ Token k n → ⊥
no_open k n e = cc

no_long : (k : TokenKind) (n : ℕ) → LongNumber ≡ Token k n → ⊥
no_long k n e = cc

module _ (kind : TokenKind) (n : ℕ) (number : is_number kind ≡ true) where
  -- a token of a kind that is no number
  other_kind : (a : TokenKind) (m : ℕ) → is_number a ≡ false → Token a m ≡ Token kind n → ⊥
  other_kind a m none e =
      let same = ap is_number (same_kind a kind m n e) in
      differ (sym none ∙ same ∙ number)
    where
      differ : false ≡ true → ⊥
      differ h = cc

  no_comment : (o : Option ℕ) → block_comment o ≡ Token kind n → ⊥
  no_comment None e = no_open kind n e
  no_comment (Some m) e = no_blank kind (m + 4) n e

  no_name : (text : List ℕ) → name_front text ≡ Token kind n → ⊥
  unfolding name_front
  no_name text e = other_kind Name _ refl (else_branch (nat_lt 64 _) _ _ _ e (no_bad kind 64 n))

  no_text : (quote : ℕ) (text : List ℕ) → text_front quote text ≡ Token kind n → ⊥
  unfolding text_front
  no_text quote text e = no_bad kind 0 n (else_branch (begins (quote ∷ []) _) _ _ _ e (other_kind Text _ refl))

  -- only the rule of numbers makes one
  pub number_here : (style : Style) (text : List ℕ) → front style text ≡ Token kind n → number_front text ≡ Token kind n
  unfolding front
  number_here style [] e = absurd (no_bad kind 0 n e)
  number_here style (b ∷ bs) e =
      let past_white = else_branch (is_white b) _ _ _ e (no_blank kind _ n) in
      let past_line = else_branch (begins_line_comment style (b ∷ bs)) _ _ _ past_white (no_blank kind _ n) in
      let past_block = else_branch (begins_block_comment style (b ∷ bs)) _ _ _ past_line (no_comment (before_close (drop 2 (b ∷ bs)))) in
      let past_name = else_branch (begins_name b) _ _ _ past_block (no_name (b ∷ bs)) in
      then_branch (begins_number (b ∷ bs)) _ _ _ past_name (λ f.
      let past_text = else_branch (is_quote style b) _ _ _ f (no_text b bs) in
      no_bad kind 0 n (else_branch (begins_mark b) _ _ _ past_text (other_kind Mark _ refl)))

whole_small : (m n : ℕ) (text : List ℕ) → whole_front m text ≡ Token Whole n → whole_value (take n text) ≤ whole_limit
whole_small m n text e = by (nat_le (whole_value (take m text)) whole_limit) refl e
  where
    by : (b : Bool) → nat_le (whole_value (take m text)) whole_limit ≡ b → (if b then Token Whole m else LongNumber) ≡ Token Whole n → whole_value (take n text) ≤ whole_limit
    by true t e = subst (λ k. whole_value (take k text) ≤ whole_limit) (same_len Whole Whole m n e) (leb-true _ _ t)
    by false t e = absurd (no_long Whole n e)

decimal_is_not_whole : (m n : ℕ) → Token Decimal m ≡ Token Whole n → ⊥
decimal_is_not_whole m n e = cc

no_decimal : (m n : ℕ) → decimal_front m ≡ Token Whole n → ⊥
no_decimal m n e = no_long Whole n (else_branch (nat_le m 40) _ _ _ e (decimal_is_not_whole m n))

-- a whole number is not above the limit
pub whole_is_small : (style : Style) (text : List ℕ) (n : ℕ) → front style text ≡ Token Whole n → whole_value (take n text) ≤ whole_limit
unfolding number_front
whole_is_small style text n e = by (nat_lt 0 (hexadecimal_digits text)) _ (number_here Whole n refl style text e)
  where
    by : (b c : Bool) → (if b then whole_front (2 + hexadecimal_digits text) text else if c then decimal_front (prefix_len is_ascii_digit text + 1 + prefix_len is_ascii_digit (drop (prefix_len is_ascii_digit text + 1) text)) else whole_front (prefix_len is_ascii_digit text) text) ≡ Token Whole n → whole_value (take n text) ≤ whole_limit
    by true c e = whole_small _ n text e
    by false true e = absurd (no_decimal _ n e)
    by false false e = whole_small _ n text e

whole_len : (kind : TokenKind) (m n : ℕ) (text : List ℕ) → whole_front m text ≡ Token kind n → m ≡ n
whole_len kind m n text e = same_len Whole kind m n (then_branch (nat_le (whole_value (take m text)) whole_limit) _ _ _ e (no_long kind n))

decimal_len : (kind : TokenKind) (m n : ℕ) → decimal_front m ≡ Token kind n → m ≡ n
decimal_len kind m n e = same_len Decimal kind m n (then_branch (nat_le m 40) _ _ _ e (no_long kind n))

-- the digits after the point of these bytes are digits
abbrev HasDigits : List ℕ → Type 0
HasDigits bytes = AllDigits 10 (after_first is_point bytes)

after_skip : (x : ℕ) (ys : List ℕ) → is_point x ≡ false → after_first is_point (x ∷ ys) ≡ after_first is_point ys
after_skip x ys h =
    let next : 1 + position_or_len is_point ys + 1 ≡ suc (position_or_len is_point ys + 1) = omega arith in
    rw h (ap (λ k. drop k (x ∷ ys)) next)

skip : (x : ℕ) (ys : List ℕ) → is_point x ≡ false → HasDigits ys → HasDigits (x ∷ ys)
skip x ys h digits = subst (AllDigits 10) (sym (after_skip x ys h)) digits

at_point : (x : ℕ) (ys : List ℕ) → is_point x ≡ true → AllDigits 10 ys → HasDigits (x ∷ ys)
at_point x ys h digits = rw h digits

-- bytes of a class without the point
no_point : (p : ℕ → Bool) → ((b : ℕ) → p b ≡ true → is_point b ≡ false) → (xs : List ℕ) → HasDigits (take (prefix_len p xs) xs)
no_point p excludes [] = tt
no_point p excludes (x ∷ xs) = by (p x) refl (no_point p excludes xs)
  where
    by : (b : Bool) → p x ≡ b → HasDigits (take (prefix_len p xs) xs) → HasDigits (take (cond b (1 + prefix_len p xs) 0) (x ∷ xs))
    by true e rest =
        let next : suc (prefix_len p xs) ≡ 1 + prefix_len p xs = omega arith in
        subst (λ k. HasDigits (take k (x ∷ xs))) next (skip x (take (prefix_len p xs) xs) (excludes x e) rest)
    by false e rest = tt

digits_exclude : (b : ℕ) → is_ascii_digit b ≡ true → is_point b ≡ false
digits_exclude b h = grind (arith, nat_tests)

hexadecimals_exclude : (b : ℕ) → is_ascii_hexdigit b ≡ true → is_point b ≡ false
hexadecimals_exclude b h = grind (arith, nat_tests)

digit_is_small : (b : ℕ) → is_ascii_digit b ≡ true → digit_value b < 10
digit_is_small b h = grind (arith, nat_tests)

all_digits : (xs : List ℕ) → AllDigits 10 (take (prefix_len is_ascii_digit xs) xs)
all_digits [] = tt
all_digits (x ∷ xs) = by (is_ascii_digit x) refl (all_digits xs)
  where
    by : (b : Bool) → is_ascii_digit x ≡ b → AllDigits 10 (take (prefix_len is_ascii_digit xs) xs) → AllDigits 10 (take (cond b (1 + prefix_len is_ascii_digit xs) 0) (x ∷ xs))
    by true e rest =
        let next : suc (prefix_len is_ascii_digit xs) ≡ 1 + prefix_len is_ascii_digit xs = omega arith in
        subst (λ k. AllDigits 10 (take k (x ∷ xs))) next (digit_is_small x e, rest)
    by false e rest = tt

hexadecimal_case : (text : List ℕ) → begins (codes "0x") text ≡ true → HasDigits (take (2 + prefix_len is_ascii_hexdigit (drop 2 text)) text)
hexadecimal_case [] h = absurd (cc)
hexadecimal_case (a ∷ []) h = let second = (and_parts (48 == a) false h).1 in absurd (cc)
hexadecimal_case (a ∷ b ∷ cs) h =
    let parts = and_parts (48 == a) _ h in
    let first : 48 ≡ a = eqb-true 48 a parts.0 in
    let second : 120 ≡ b = eqb-true 120 b (and_parts (120 == b) _ parts.1).0 in
    let next : suc (suc (prefix_len is_ascii_hexdigit cs)) ≡ 2 + prefix_len is_ascii_hexdigit cs = omega arith in
    let bytes = no_point is_ascii_hexdigit hexadecimals_exclude cs in
    subst (λ k. HasDigits (take k (a ∷ b ∷ cs))) next
    (skip a (b ∷ take (prefix_len is_ascii_hexdigit cs) cs) (ap is_point (sym first)) (skip b (take (prefix_len is_ascii_hexdigit cs) cs) (ap is_point (sym second)) bytes))

abbrev decimal_bytes : ℕ → List ℕ → ℕ
decimal_bytes digits text = digits + 1 + prefix_len is_ascii_digit (drop (digits + 1) text)

decimal_case : (text : List ℕ) → begins (codes ".") (drop (prefix_len is_ascii_digit text) text) ≡ true → HasDigits (take (decimal_bytes (prefix_len is_ascii_digit text) text) text)
decimal_case [] h = absurd (cc)
decimal_case (x ∷ xs) h = by (is_ascii_digit x) refl (decimal_case xs) h
  where
    by : (b : Bool) → is_ascii_digit x ≡ b → (begins (codes ".") (drop (prefix_len is_ascii_digit xs) xs) ≡ true → HasDigits (take (decimal_bytes (prefix_len is_ascii_digit xs) xs) xs)) → begins (codes ".") (drop (cond b (1 + prefix_len is_ascii_digit xs) 0) (x ∷ xs)) ≡ true → HasDigits (take (decimal_bytes (cond b (1 + prefix_len is_ascii_digit xs) 0) (x ∷ xs)) (x ∷ xs))
    by true e rest h =
        let m = prefix_len is_ascii_digit xs in
        let next : 1 + m ≡ suc m = omega arith in
        let behind : 1 + m + 1 ≡ suc (m + 1) = omega arith in
        let count : suc (decimal_bytes m xs) ≡ decimal_bytes (1 + m) (x ∷ xs) = omega (arith, ap (λ k. prefix_len is_ascii_digit (drop k (x ∷ xs))) behind) in
        let here = subst (λ k. begins (codes ".") (drop k (x ∷ xs)) ≡ true) next h in
        subst (λ k. HasDigits (take k (x ∷ xs))) count (skip x (take (decimal_bytes m xs) xs) (digits_exclude x e) (rest here))
    by false e rest h =
        let m = prefix_len is_ascii_digit xs in
        let point : 46 ≡ x = eqb-true 46 x (and_parts (46 == x) _ h).0 in
        let count : suc m ≡ 0 + 1 + m = omega arith in
        subst (λ k. HasDigits (take k (x ∷ xs))) count (at_point x (take m xs) (ap is_point (sym point)) (all_digits xs))

hexadecimal_digits_case : (text : List ℕ) → nat_lt 0 (hexadecimal_digits text) ≡ true → HasDigits (take (2 + hexadecimal_digits text) text)
hexadecimal_digits_case text h = by (begins (codes "0x") text) refl h
  where
    by : (b : Bool) → begins (codes "0x") text ≡ b → nat_lt 0 (if b then prefix_len is_ascii_hexdigit (drop 2 text) else 0) ≡ true → HasDigits (take (2 + (if b then prefix_len is_ascii_hexdigit (drop 2 text) else 0)) text)
    by true e h = hexadecimal_case text e
    by false e h = absurd (cc)

-- the digits after the point of a number are digits
pub fraction_is_digits : (style : Style) (text : List ℕ) (kind : TokenKind) (n : ℕ) → is_number kind ≡ true → front style text ≡ Token kind n → HasDigits (take n text)
unfolding number_front
fraction_is_digits style text kind n number e = by (nat_lt 0 (hexadecimal_digits text)) refl (begins (codes ".") (drop (prefix_len is_ascii_digit text) text)) refl (number_here kind n number style text e)
  where
    by : (b : Bool) → nat_lt 0 (hexadecimal_digits text) ≡ b → (c : Bool) → begins (codes ".") (drop (prefix_len is_ascii_digit text) text) ≡ c → (if b then whole_front (2 + hexadecimal_digits text) text else if c then decimal_front (decimal_bytes (prefix_len is_ascii_digit text) text) else whole_front (prefix_len is_ascii_digit text) text) ≡ Token kind n → HasDigits (take n text)
    by true p c q e = subst (λ k. HasDigits (take k text)) (whole_len kind _ n text e) (hexadecimal_digits_case text p)
    by false p true q e = subst (λ k. HasDigits (take k text)) (decimal_len kind _ n e) (decimal_case text q)
    by false p false q e = subst (λ k. HasDigits (take k text)) (whole_len kind _ n text e) (no_point is_ascii_digit digits_exclude text)
