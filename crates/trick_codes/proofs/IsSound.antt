-- The usual lines are sound, so that each file of them is.
use Rattle.std.proofs.Common.{◌≡◌, ◌⊎◌, inl, inr, ℕ, zero, suc, ◌+◌, ◌≤◌, ◌<◌, true, false, not, List, [], ◌∷◌, ◌++◌, length, get_or, Option, Some, None, refl, sym, ap, ◌∙◌, append_assoc, arith}
use Rattle.std.proofs.lemmas.Bool.{eqb-true, cases_Bool, and_parts, and_from}
use Rattle.std.specs.Char.{is_ascii_digit}
use Rattle.std.specs.Fmt.{decimal, signed_decimal}
use Rattle.std.specs.Prelude.{codes, nat_eq, ℤ, pos, negsuc}
use Rattle.trick_codes.proofs.Numbers.{digits_of, all_digits, decimal_digits, digit_is_from}
use Rattle.trick_codes.specs.Code.{Code, Sound, Fits, spell, literal, number, integer, one_of, choice, IsWithin, ArePrefixFree, largest, Either, left, right}
use Rattle.trick_codes.specs.Lines.{Lines, SoundLines, Holds, is_one_line, each, numbered}
use Rattle.trick_codes.specs.Named.{title, named, number_line, integer_line, word_line, end_line, indexed, each_code, row_number, mark_before, row, none_or, option_of, either_of, row_text}
use Rattle.trick_codes.specs.declared.range.Range.{Range}

-- ---- texts of one line
pub one_line-append : (us vs : List ℕ) → is_one_line us ≡ true → is_one_line vs ≡ true → is_one_line (us ++ vs) ≡ true
one_line-append [] vs h k = k
one_line-append (u ∷ us) vs h k = let p = and_parts _ _ h in and_from _ _ p.0 (one_line-append us vs p.1 k)

digit_no_feed : (d : ℕ) → is_ascii_digit d ≡ true → not (nat_eq d 10) ≡ true
digit_no_feed d p = go (cases_Bool (nat_eq d 10))
  where
    go : (nat_eq d 10 ≡ true) ⊎ (nat_eq d 10 ≡ false) → not (nat_eq d 10) ≡ true
    go (inl e) = absurd (omega (arith, digit_is_from d p, eqb-true d 10 e))
    go (inr e) = rw e refl

digits_one_line : (ds : List ℕ) → all_digits ds ≡ true → is_one_line ds ≡ true
digits_one_line [] h = refl
digits_one_line (d ∷ ds) h = let p = and_parts _ _ h in and_from _ _ (digit_no_feed d p.0) (digits_one_line ds p.1)

pub decimal_one_line : (n : ℕ) → n ≤ largest → is_one_line (decimal n) ≡ true
decimal_one_line n le = digits_one_line (decimal n) (decimal_digits n (omega arith))

pub number_one_line : (n end : ℕ) → n ≤ largest → not (nat_eq end 10) ≡ true → is_one_line (decimal n ++ end ∷ []) ≡ true
number_one_line n end le e = one_line-append (decimal n) (end ∷ []) (decimal_one_line n le) (and_from _ _ e refl)

pub integer_one_line : (below above end : ℕ) (n : ℤ) → below ≤ largest → above ≤ largest → IsWithin below above n → not (nat_eq end 10) ≡ true → is_one_line (signed_decimal n ++ end ∷ []) ≡ true
integer_one_line below above end (pos n) b a h e = number_one_line n end (omega (arith, h)) e
integer_one_line below above end (negsuc n) b a h e = number_one_line (suc n) end (omega (arith, h)) e

pub title_one_line : (name : List ℕ) → is_one_line name ≡ true → is_one_line (title name) ≡ true
title_one_line name h = one_line-append name (codes " = ") h refl

pub indexed_one_line : (stem : List ℕ) (k : ℕ) → is_one_line stem ≡ true → k ≤ largest → is_one_line (indexed stem k) ≡ true
indexed_one_line stem k h le =
    one_line-append stem (91 ∷ (decimal k ++ 93 ∷ [])) h (one_line-append (91 ∷ []) (decimal k ++ 93 ∷ []) refl (number_one_line k 93 le refl))

-- ---- codes
pub named_sound : {A : Type 0} (name : List ℕ) (c : Code A) → Sound c → Sound (named name c)
named_sound name c s = ((tt, λ u h. s), λ v h. refl)

-- a name and a value within one line
pub named_one_line : {A : Type 0} (name : List ℕ) (c : Code A) → is_one_line name ≡ true → ((x : A) → Fits c x → is_one_line (spell c x) ≡ true) → (x : A) → Fits (named name c) x → is_one_line (spell (named name c) x) ≡ true
named_one_line name c h one x f = one_line-append (title name) (spell c x) (title_one_line name h) (one x f.0.1)

-- the range of a number of 64 bits
below_small : (r : Range) → r.below ≤ largest
below_small r = omega (arith, r.lowest)

above_small : (r : Range) → r.above ≤ largest
above_small r = omega (arith, r.highest)

-- ---- lines
pub number_line_sound : (name : List ℕ) (least most : ℕ) → is_one_line name ≡ true → least ≤ 1 → least ≤ most → most ≤ largest → SoundLines (number_line name least most)
number_line_sound name least most h low some small = (
  named_sound name (number least most 59) (low, some, small, refl),
  named_one_line name (number least most 59) h (λ n k. number_one_line n 59 (omega (arith, k.1)) refl),
)

pub integer_line_sound : (name : List ℕ) (r : Range) → is_one_line name ≡ true → SoundLines (integer_line name r)
integer_line_sound name r h = (
  named_sound name (integer r.below r.above 59) (below_small r, above_small r, refl, refl),
  named_one_line name (integer r.below r.above 59) h (λ n k. integer_one_line r.below r.above 59 n (below_small r) (above_small r) k refl),
)

-- each word is of one line
abbrev pub AreOneLine : List (List ℕ) → Type 0
AreOneLine [] = Unit {0}
AreOneLine (w ∷ ws) = (is_one_line w ≡ true) × AreOneLine ws

pub one_of_lines : (ws : List (List ℕ)) → AreOneLine ws → (i : ℕ) → is_one_line (get_or ws i []) ≡ true
one_of_lines [] h i = refl
one_of_lines (w ∷ ws) h zero = h.0
one_of_lines (w ∷ ws) h (suc i) = one_of_lines ws h.1 i

pub word_line_sound : (name : List ℕ) (ws : List (List ℕ)) → is_one_line name ≡ true → 0 < length ws → ArePrefixFree ws → AreOneLine ws → SoundLines (word_line name ws)
word_line_sound name ws h some apart one =
    (named_sound name (one_of ws) (some, apart), named_one_line name (one_of ws) h (λ i k. one_of_lines ws one i))

pub end_line_sound : SoundLines end_line
end_line_sound = (tt, λ x h. refl)

pub each_sound : {K A : Type 0} (d : A) (c : K → Lines A) (ks : List K) → ((k : K) → SoundLines (c k)) → SoundLines (each d c ks)
each_sound d c [] s = tt
each_sound d c (k ∷ ks) s = ((s k, λ x h. each_sound d c ks s), λ p h. refl)

pub numbered_sound : {A : Type 0} (d : A) (c : ℕ → Lines A) (from count : ℕ) → ((k : ℕ) → k < from + count → SoundLines (c k)) → SoundLines (numbered d c from count)
numbered_sound d c from zero s = tt
numbered_sound d c from (suc count) s = ((s from (omega arith), λ x h. numbered_sound d c (from + 1) count (λ k lt. s k (omega (arith, lt)))), λ p h. refl)

-- how many items the value of numbered lines, and of lines for keys, has
pub length-numbered : {A : Type 0} (d : A) (c : ℕ → Lines A) (from count : ℕ) (xs : List A) → Holds (numbered d c from count) xs → length xs ≡ count
length-numbered d c from zero xs h = ap length h
length-numbered d c from (suc count) [] h = let e = h.1 in absurd cc
length-numbered d c from (suc count) (x ∷ xs) h = ap suc (length-numbered d c (from + 1) count xs h.0.1)

pub length-each : {K A : Type 0} (d : A) (c : K → Lines A) (ks : List K) (xs : List A) → Holds (each d c ks) xs → length xs ≡ length ks
length-each d c [] xs h = ap length h
length-each d c (k ∷ ks) [] h = let e = h.1 in absurd cc
length-each d c (k ∷ ks) (x ∷ xs) h = ap suc (length-each d c ks xs h.0.1)

-- ---- rows
mark_no_digit : (rs : List Range) → (is_ascii_digit (mark_before rs) ≡ false) × (nat_eq (mark_before rs) 45 ≡ false) × (not (nat_eq (mark_before rs) 10) ≡ true)
mark_no_digit [] = (refl, refl, refl)
mark_no_digit (r ∷ rs) = (refl, refl, refl)

numbers_sound : (rs : List Range) → Sound (each_code (pos 0) row_number rs)
numbers_sound [] = tt
numbers_sound (r ∷ rs) = (((below_small r, above_small r, (mark_no_digit rs).0, (mark_no_digit rs).1), λ x h. numbers_sound rs), λ p h. refl)

pub row_sound : (rs : List Range) → Sound (row rs)
row_sound [] = (tt, λ x h. refl)
row_sound (r ∷ rs) = numbers_sound (r ∷ rs)

length-each_code : {K A : Type 0} (d : A) (c : K → List K → Code A) (ks : List K) (xs : List A) → Fits (each_code d c ks) xs → length xs ≡ length ks
length-each_code d c [] xs h = ap length h
length-each_code d c (k ∷ ks) [] h = let e = h.1 in absurd cc
length-each_code d c (k ∷ ks) (x ∷ xs) h = ap suc (length-each_code d c ks xs h.0.1)

pub length-row : (rs : List Range) (ns : List ℤ) → Fits (row rs) ns → length ns ≡ length rs
length-row [] ns h = ap length (sym h.1)
length-row (r ∷ rs) ns h = length-each_code (pos 0) row_number (r ∷ rs) ns h

numbers_one_line : (rs : List Range) (ns : List ℤ) → Fits (each_code (pos 0) row_number rs) ns → is_one_line (spell (each_code (pos 0) row_number rs) ns) ≡ true
numbers_one_line [] ns h = refl
numbers_one_line (r ∷ rs) [] h =
    one_line-append (signed_decimal (pos 0) ++ mark_before rs ∷ []) (spell (each_code (pos 0) row_number rs) []) (integer_one_line r.below r.above (mark_before rs) (pos 0) (below_small r) (above_small r) h.0.0 (mark_no_digit rs).2) (numbers_one_line rs [] h.0.1)
numbers_one_line (r ∷ rs) (n ∷ ns) h =
    one_line-append (signed_decimal n ++ mark_before rs ∷ []) (spell (each_code (pos 0) row_number rs) ns) (integer_one_line r.below r.above (mark_before rs) n (below_small r) (above_small r) h.0.0 (mark_no_digit rs).2) (numbers_one_line rs ns h.0.1)

pub row_one_line : (rs : List Range) (ns : List ℤ) → Fits (row rs) ns → is_one_line (spell (row rs) ns) ≡ true
row_one_line [] ns h = refl
row_one_line (r ∷ rs) ns h = numbers_one_line (r ∷ rs) ns h

-- a row is printed as it is spelled
numbers_text : (r : Range) (rs : List Range) (n : ℤ) (ns : List ℤ) → length ns ≡ length rs → spell (each_code (pos 0) row_number (r ∷ rs)) (n ∷ ns) ≡ row_text (n ∷ ns)
numbers_text r [] n [] e = append_assoc (signed_decimal n) (59 ∷ []) [] ∙ refl
numbers_text r [] n (m ∷ ns) e = absurd (omega arith)
numbers_text r (q ∷ rs) n [] e = absurd (omega arith)
numbers_text r (q ∷ rs) n (m ∷ ns) e =
    append_assoc (signed_decimal n) (44 ∷ []) (spell (each_code (pos 0) row_number (q ∷ rs)) (m ∷ ns))
    ∙ ap (λ (us : List ℕ). signed_decimal n ++ 44 ∷ us) (numbers_text q rs m ns (omega arith))

pub row_spelled : (rs : List Range) (ns : List ℤ) → length ns ≡ length rs → spell (row rs) ns ≡ row_text ns
row_spelled [] [] e = refl
row_spelled [] (n ∷ ns) e = absurd (omega arith)
row_spelled (r ∷ rs) [] e = absurd (omega arith)
row_spelled (r ∷ rs) (n ∷ ns) e = numbers_text r rs n ns (omega arith)

-- ---- a value, or none
pub none_or_sound : {A : Type 0} (c : Code A) → Sound c → ((x : A) → Fits c x → (t : ℕ) × (more : List ℕ) × (spell c x ≡ t ∷ more) × (nat_eq t 110 ≡ false)) → Sound (none_or c)
none_or_sound {A} c s other = ((tt, s, (λ x h. (codes "one;", refl)), other), back_again)
  where
    back_again : (e : Either (Unit {0}) A) → Fits (choice 110 (literal (codes "none;")) c) e → either_of (option_of e) ≡ e
    back_again (left u) h = refl
    back_again (right x) h = refl

pub none_or_one_line : {A : Type 0} (c : Code A) → ((x : A) → Fits c x → is_one_line (spell c x) ≡ true) → (x : Option A) → Fits (none_or c) x → is_one_line (spell (none_or c) x) ≡ true
none_or_one_line c one None h = refl
none_or_one_line c one (Some x) h = one x h.0

integer_start : (n : ℤ) (below above : ℕ) → below ≤ largest → above ≤ largest → IsWithin below above n → (rest : List ℕ) → (t : ℕ) × (more : List ℕ) × (signed_decimal n ++ rest ≡ t ∷ more) × (nat_eq t 110 ≡ false)
integer_start (pos n) below above b a h rest =
    let d = digits_of n (omega (arith, h)) in
    (d.head, d.tail ++ rest, ap (λ (us : List ℕ). us ++ rest) d.text, no_letter d.head d.head_digit)
  where
    no_letter : (t : ℕ) → is_ascii_digit t ≡ true → nat_eq t 110 ≡ false
    no_letter t p = go (cases_Bool (nat_eq t 110))
      where
        go : (nat_eq t 110 ≡ true) ⊎ (nat_eq t 110 ≡ false) → nat_eq t 110 ≡ false
        go (inl e) = let same = sym p ∙ ap is_ascii_digit (eqb-true t 110 e) in absurd cc
        go (inr e) = e
integer_start (negsuc n) below above b a h rest = (45, decimal (suc n) ++ rest, refl, refl)

first_number : (r : Range) (rs : List Range) (n : ℤ) (ns : List ℤ) → IsWithin r.below r.above n → (t : ℕ) × (more : List ℕ) × ((signed_decimal n ++ mark_before rs ∷ []) ++ spell (each_code (pos 0) row_number rs) ns ≡ t ∷ more) × (nat_eq t 110 ≡ false)
first_number r rs n ns w =
    let s = integer_start n r.below r.above (below_small r) (above_small r) w (mark_before rs ∷ spell (each_code (pos 0) row_number rs) ns) in
    (s.0, s.1, append_assoc (signed_decimal n) (mark_before rs ∷ []) (spell (each_code (pos 0) row_number rs) ns) ∙ s.2, s.3)

-- no row begins with an `n`
pub row_start : (rs : List Range) (ns : List ℤ) → Fits (row rs) ns → (t : ℕ) × (more : List ℕ) × (spell (row rs) ns ≡ t ∷ more) × (nat_eq t 110 ≡ false)
row_start [] ns h = (59, [], refl, refl)
row_start (r ∷ rs) [] h = first_number r rs (pos 0) [] h.0.0
row_start (r ∷ rs) (n ∷ ns) h = first_number r rs n ns h.0.0
