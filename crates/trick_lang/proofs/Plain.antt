-- Names that are plain: spelled ones, numbers, and what is joined of such.
use Rattle.std.proofs.Common.{◌≡◌, ℕ, zero, suc, ◌+◌, ◌/◌, ◌%◌, Bool, true, false, not, ◌&&◌, ◌==◌, List, [], ◌∷◌, ◌++◌, ◌∙◌, arith, if◌then◌else◌, nat_lt, refl, subst, sym}
use Rattle.std.proofs.lemmas.Bool.{and_from, and_parts, eqb-true, false_from_ne_true, not_from_false}
use Rattle.std.proofs.lemmas.List.Folds.{list_all-append}
use Rattle.std.specs.Fmt.{decimal, digit_glyph, digits, digits_onto}
use Rattle.std.specs.List.{list_all}
use Rattle.trick_lang.specs.Names.{is_letter, is_letter_or_digit, is_plain, is_plain_byte, is_spelled}
use Rattle.trick_lang.specs.SyntaxTree.{Name}

-- a byte that a test takes is none that it does not
other_byte : (test : ℕ → Bool) (b k : ℕ) → test k ≡ false → test b ≡ true → not (b == k) ≡ true
other_byte test b k outside inside = not_from_false _ (false_from_ne_true _ (λ e. by (eqb-true b k e)))
  where
    by : b ≡ k → ⊥
    by same = let here = subst (λ (j : ℕ). test j ≡ true) same inside in cc (sym outside ∙ here)

plain_by : (test : ℕ → Bool) → test 32 ≡ false → test 10 ≡ false → (b : ℕ) → test b ≡ true → is_plain_byte b ≡ true
plain_by test space feed b inside = and_from _ _ (other_byte test b 32 space inside) (other_byte test b 10 feed inside)

all_plain : (bs : Name) → list_all is_letter_or_digit bs ≡ true → is_plain bs ≡ true
all_plain [] h = refl
all_plain (b ∷ bs) h =
    let both = and_parts (is_letter_or_digit b) _ h in
    and_from _ _ (plain_by is_letter_or_digit refl refl b both.0) (all_plain bs both.1)

-- a name as the language spells it
pub spelled_plain : (name : Name) → is_spelled name ≡ true → is_plain name ≡ true
spelled_plain [] h = refl
spelled_plain (b ∷ bs) h =
    let both = and_parts (is_letter b) _ h in
    and_from _ _ (plain_by is_letter refl refl b both.0) (all_plain bs both.1)

-- ---- the digits of a number

glyph_plain : (d : ℕ) → is_plain_byte (digit_glyph false d) ≡ true
glyph_plain d = by (nat_lt d 10)
  where
    apart : (n k : ℕ) → (n ≡ k → ⊥) → not (n == k) ≡ true
    apart n k differ = not_from_false _ (false_from_ne_true _ (λ e. differ (eqb-true n k e)))

    above : (n : ℕ) (m : ℕ) → n ≡ 48 + m → is_plain_byte n ≡ true
    above n m is = and_from _ _ (apart n 32 (λ same. omega (arith, is, same))) (apart n 10 (λ same. omega (arith, is, same)))

    later : (d : ℕ) → 87 + d ≡ 48 + (39 + d)
    later d = omega arith

    by : (b : Bool) → is_plain_byte (if b then 48 + d else 87 + d) ≡ true
    by true = above (48 + d) d refl
    by false = above (87 + d) (39 + d) (later d)

onto_plain : (k n : ℕ) (acc : List ℕ) → is_plain acc ≡ true → is_plain (digits_onto k 10 false n acc) ≡ true
onto_plain zero n acc h = h
onto_plain (suc k) n acc h =
    by (n / 10 == 0) (onto_plain k (n / 10) (digit_glyph false (n % 10) ∷ acc) (and_from _ _ (glyph_plain (n % 10)) h))
  where
    by : (b : Bool) → is_plain (digits_onto k 10 false (n / 10) (digit_glyph false (n % 10) ∷ acc)) ≡ true
        → is_plain (if b then digit_glyph false (n % 10) ∷ acc else digits_onto k 10 false (n / 10) (digit_glyph false (n % 10) ∷ acc)) ≡ true
    by true more = and_from _ _ (glyph_plain (n % 10)) h
    by false more = more

pub decimal_plain : (n : ℕ) → is_plain (decimal n) ≡ true
unfolding digits
decimal_plain n = onto_plain 64 n [] refl

-- a list of texts joined to one
pub joined_plain : (xs ys : Name) → is_plain xs ≡ true → is_plain ys ≡ true → is_plain (xs ++ ys) ≡ true
joined_plain xs ys h k = list_all-append is_plain_byte xs ys ∙ and_from _ _ h k
