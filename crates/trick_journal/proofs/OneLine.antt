-- The line of a row is one line, and it is that of one row.
use Rattle.std.proofs.Common.{◌≡◌, ◌⊎◌, ℕ, ◌≤◌, Bool, true, false, cond, not, List, [], ◌∷◌, ◌++◌, inl, inr, refl, sym, ap, ◌∙◌, append_assoc, arith, length}
use Rattle.std.proofs.lemmas.Bool.{and_from, and_parts, cases_Bool, eqb-true}
use Rattle.std.proofs.lemmas.Bool.Decides.{nat_tests}
use Rattle.std.proofs.lemmas.List.{append-nil}
use Rattle.std.specs.Char.{is_ascii_digit}
use Rattle.std.specs.List.{list_any}
use Rattle.std.specs.Prelude.{codes, decimal, nat_eq, nat_le, ◌&&◌, ◌||◌, ◌==◌}
use Rattle.trick_codes.proofs.Base.{good_is}
use Rattle.trick_codes.proofs.Codes.{back}
use Rattle.trick_codes.proofs.Numbers.{all_digits, digits_of}
use Rattle.trick_codes.specs.Code.{Either, Fits, is_free, left, read, right}
use Rattle.trick_codes.specs.Lines.{first_line}
use Rattle.trick_codes.specs.declared.miss.Miss.{Miss}
use Rattle.trick_journal.proofs.IsSound.{row_sound}
use Rattle.trick_journal.proofs.Texts.{end_fits, note_fits, row_line, row_spelled}
use Rattle.trick_journal.specs.Codes.{row_code}
use Rattle.trick_journal.specs.Rows.{Row, begin, finish, is_row, note, row_text, title}
use Rattle.trick_model.specs.Journal.{Noted, cause_text, entry_text, is_entry, is_line, is_session}
use Rattle.trick_model.specs.Time.{last_turn}
use Rattle.trick_model.specs.declared.entry.Cause.TheVariants as cause
use Rattle.trick_model.specs.declared.entry.Cause.{Cause}
use Rattle.trick_model.specs.declared.entry.Entry.TheVariants.{Join, Said, Leave, Publish}
use Rattle.trick_model.specs.declared.entry.Entry.{Entry}

-- ---- bytes without a line feed

free_append : (us vs : List ℕ) → is_free 10 us ≡ true → is_free 10 vs ≡ true → is_free 10 (us ++ vs) ≡ true
free_append [] vs u v = v
free_append (b ∷ us) vs u v = go (nat_eq b 10) u (λ h. free_append us vs h v)
  where
    go : (k : Bool) → cond k false (is_free 10 us) ≡ true → (is_free 10 us ≡ true → is_free 10 (us ++ vs) ≡ true) → cond k false (is_free 10 (us ++ vs)) ≡ true
    go true h more = absurd cc
    go false h more = more h

no_feed : (d : ℕ) → is_ascii_digit d ≡ true → nat_eq d 10 ≡ false
no_feed d p = go (cases_Bool (nat_eq d 10))
  where
    go : (nat_eq d 10 ≡ true) ⊎ (nat_eq d 10 ≡ false) → nat_eq d 10 ≡ false
    go (inl e) = let same = sym p ∙ ap is_ascii_digit (eqb-true d 10 e) in absurd cc
    go (inr e) = e

free_digits : (ds : List ℕ) → all_digits ds ≡ true → is_free 10 ds ≡ true
free_digits [] p = refl
free_digits (d ∷ ds) p =
    let parts = and_parts (is_ascii_digit d) (all_digits ds) p in
    ap (λ (k : Bool). cond k false (is_free 10 ds)) (no_feed d parts.0) ∙ free_digits ds parts.1

free_decimal : (n : ℕ) → n ≤ last_turn → is_free 10 (decimal n) ≡ true
free_decimal n le =
    let d = digits_of n (omega arith) in
    let all : all_digits (d.head ∷ d.tail) ≡ true = and_from (is_ascii_digit d.head) (all_digits d.tail) d.head_digit d.tail_digits in
    ap (is_free 10) d.text ∙ free_digits (d.head ∷ d.tail) all

free_line : (line : List ℕ) → not (list_any (λ byte. byte == 10) line) ≡ true → is_free 10 line ≡ true
free_line [] h = refl
free_line (b ∷ line) h = go (nat_eq b 10) h (λ others. free_line line others)
  where
    go : (k : Bool) → not (k || list_any (λ byte. byte == 10) line) ≡ true → (not (list_any (λ byte. byte == 10) line) ≡ true → is_free 10 line ≡ true)
        → cond k false (is_free 10 line) ≡ true
    go true h more = absurd cc
    go false h more = more h

free_cause : (c : Cause) → is_free 10 (cause_text c) ≡ true
free_cause cause.Exit = refl
free_cause cause.HungUp = refl
free_cause cause.LinkFault = refl
free_cause cause.LongLine = refl
free_cause cause.Slow = refl
free_cause cause.NoThread = refl
free_cause cause.OutOfMemory = refl

-- a session's or a thread's number is below the largest turn
small_session : (n : ℕ) → is_session n ≡ true → n ≤ last_turn
small_session n h = let under : n ≤ 4294967295 = grind (arith, nat_tests) in omega arith

small_thread : (n : ℕ) → (nat_le 1 n && nat_le n 15) ≡ true → n ≤ last_turn
small_thread n h = let under : n ≤ 15 = grind (arith, nat_tests) in omega arith

-- a number, with a space after it
free_number : (n : ℕ) → n ≤ last_turn → is_free 10 (decimal n ++ codes " ") ≡ true
free_number n le = free_append (decimal n) (codes " ") (free_decimal n le) refl

free_entry : (e : Entry) → is_entry e ≡ true → is_free 10 (entry_text e) ≡ true
free_entry (Join session) h = free_decimal session (small_session session h)
free_entry (Said session line) h =
    let parts = and_parts (is_session session) (is_line line) h in
    let short = and_parts (nat_le (length line) 4096) (not (list_any (λ byte. byte == 10) line)) parts.1 in
    free_append (decimal session ++ codes " ") line (free_number session (small_session session parts.0)) (free_line line short.1)
free_entry (Leave session why) h =
    free_append (decimal session ++ codes " ") (cause_text why) (free_number session (small_session session h)) (free_cause why)
free_entry (Publish thread) h = free_decimal thread (small_thread thread h)

-- ---- lines

first_in : (body us : List ℕ) → is_free 10 body ≡ true → first_line (body ++ 10 ∷ us) ≡ body ++ 10 ∷ []
first_in [] us free = refl
first_in (b ∷ body) us free = go (nat_eq b 10) free (λ h. first_in body us h)
  where
    go : (k : Bool) → cond k false (is_free 10 body) ≡ true → (is_free 10 body ≡ true → first_line (body ++ 10 ∷ us) ≡ body ++ 10 ∷ [])
        → cond k (b ∷ []) (b ∷ first_line (body ++ 10 ∷ us)) ≡ b ∷ (body ++ 10 ∷ [])
    go true h more = absurd cc
    go false h more = ap (λ (ts : List ℕ). b ∷ ts) (more h)

line_of : (body us : List ℕ) → is_free 10 body ≡ true → first_line ((body ++ 10 ∷ []) ++ us) ≡ body ++ 10 ∷ []
line_of body us free = ap first_line (append_assoc body (10 ∷ []) us) ∙ first_in body us free

below : (turn : ℕ) → nat_le turn last_turn ≡ true → turn ≤ last_turn
below turn h = grind (arith, nat_tests)

-- the line of a row is the first one of a text that it begins
pub one_line : (row : Row) (us : List ℕ) → is_row row ≡ true → first_line (row_text row ++ us) ≡ row_text row
one_line title us h = refl
one_line (begin turn) us h = line_of (codes "from " ++ decimal turn) us (free_decimal turn (below turn h))
one_line (note e) us h =
    let parts = and_parts (nat_le e.0 last_turn) (is_entry e.1) h in
    line_of ((decimal e.0 ++ codes " ") ++ entry_text e.1) us
    (free_append (decimal e.0 ++ codes " ") (entry_text e.1) (free_number e.0 (below e.0 parts.0)) (free_entry e.1 parts.1))
one_line (finish turn) us h = line_of (codes "end " ++ decimal turn) us (free_decimal turn (below turn h))

-- ---- one row

-- two rows at the front of one text are the same
pub same_row : (x y : Either ℕ Noted) (us vs : List ℕ) → Fits row_code x → Fits row_code y → row_line x ++ us ≡ row_line y ++ vs → (x ≡ y) × (us ≡ vs)
same_row x y us vs h k e =
    good_is {E = Miss} x y us vs
    (sym (back row_code x us row_sound h)
    ∙ ap (read row_code) (ap (λ (w : List ℕ). w ++ us) (row_spelled x) ∙ e ∙ ap (λ (w : List ℕ). w ++ vs) (sym (row_spelled y)))
    ∙ back row_code y vs row_sound k)

abbrev pub note_row : Noted → Either ℕ Noted
note_row e = right e

abbrev pub end_row : ℕ → Either ℕ Noted
end_row turn = left turn

pub right_is : (d e : Noted) → note_row d ≡ note_row e → d ≡ e
right_is d e h = cc

pub left_is : (m n : ℕ) → end_row m ≡ end_row n → m ≡ n
left_is m n h = cc

same_line : (x y : Either ℕ Noted) → Fits row_code x → Fits row_code y → row_line x ≡ row_line y → x ≡ y
same_line x y h k e = (same_row x y [] [] h k (append-nil (row_line x) ∙ e ∙ sym (append-nil (row_line y)))).0

-- two rows that are entries or ends, with one text
pub same_text : (r q : Row) → (r ≡ title → ⊥) → ((turn : ℕ) → r ≡ begin turn → ⊥) → (q ≡ title → ⊥) → ((turn : ℕ) → q ≡ begin turn → ⊥)
    → is_row r ≡ true → is_row q ≡ true → row_text r ≡ row_text q → r ≡ q
same_text title q a b c d h k e = absurd (a refl)
same_text (begin turn) q a b c d h k e = absurd (b turn refl)
same_text (note x) title a b c d h k e = absurd (c refl)
same_text (note x) (begin turn) a b c d h k e = absurd (d turn refl)
same_text (note x) (note y) a b c d h k e = ap note (right_is x y (same_line (note_row x) (note_row y) (note_fits x h) (note_fits y k) e))
same_text (note x) (finish turn) a b c d h k e =
    let same = same_line (note_row x) (end_row turn) (note_fits x h) (end_fits turn (below turn k)) e in
    absurd cc
same_text (finish turn) title a b c d h k e = absurd (c refl)
same_text (finish turn) (begin other) a b c d h k e = absurd (d other refl)
same_text (finish turn) (note y) a b c d h k e =
    let same = same_line (end_row turn) (note_row y) (end_fits turn (below turn h)) (note_fits y k) e in
    absurd cc
same_text (finish m) (finish n) a b c d h k e =
    ap finish (left_is m n (same_line (end_row m) (end_row n) (end_fits m (below m h)) (end_fits n (below n k)) e))
