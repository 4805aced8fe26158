-- No journal is a proper prefix of another.
use Rattle.std.proofs.Common.{◌≡◌, ℕ, ◌≤◌, true, List, [], ◌∷◌, ◌++◌, Ok, refl, sym, ap, ◌∙◌, append_assoc, arith}
use Rattle.std.proofs.lemmas.Bool.{and_from, and_parts}
use Rattle.std.proofs.lemmas.Bool.Decides.{nat_tests}
use Rattle.std.proofs.lemmas.List.{append-nil}
use Rattle.std.specs.Prelude.{codes, decimal, nat_le, ◌&&◌}
use Rattle.trick_codes.proofs.Base.{good_is}
use Rattle.trick_codes.proofs.Codes.{back}
use Rattle.trick_codes.specs.Code.{Either, Fits, left, read, right, spell}
use Rattle.trick_codes.specs.declared.miss.Miss.{Miss}
use Rattle.trick_journal.proofs.IsSound.{row_sound, turn_sound}
use Rattle.trick_journal.proofs.Texts.{end_fits, note_fits, row_line, row_spelled}
use Rattle.trick_journal.specs.Codes.{row_code, turn_code}
use Rattle.trick_journal.specs.Laws.{NoPrefix}
use Rattle.trick_model.specs.Journal.{Noted, are_in_range, first_lines, is_entry, journal_text, last_line, noted_lines}
use Rattle.trick_model.specs.Time.{last_turn}
use Rattle.trick_model.specs.declared.journal.Journal.{Journal}

-- two rows at the front of one text are the same
same_row : (x y : Either ℕ Noted) (us vs : List ℕ) → Fits row_code x → Fits row_code y → row_line x ++ us ≡ row_line y ++ vs → (x ≡ y) × (us ≡ vs)
same_row x y us vs h k e =
    good_is {E = Miss} x y us vs
    (sym (back row_code x us row_sound h)
    ∙ ap (read row_code) (ap (λ (w : List ℕ). w ++ us) (row_spelled x) ∙ e ∙ ap (λ (w : List ℕ). w ++ vs) (sym (row_spelled y)))
    ∙ back row_code y vs row_sound k)

abbrev note_row : Noted → Either ℕ Noted
note_row e = right e

abbrev end_row : ℕ → Either ℕ Noted
end_row turn = left turn

right_is : (d e : Noted) → note_row d ≡ note_row e → d ≡ e
right_is d e h = cc

left_is : (m n : ℕ) → end_row m ≡ end_row n → m ≡ n
left_is m n h = cc

range_first : (e : Noted) (es : List Noted) → are_in_range (e ∷ es) ≡ true → (nat_le e.0 last_turn && is_entry e.1) ≡ true
range_first e es h =
    let low = nat_le e.0 last_turn in
    let rest = is_entry e.1 && are_in_range es in
    and_from low (is_entry e.1) (and_parts low rest h).0 (and_parts (is_entry e.1) (are_in_range es) (and_parts low rest h).1).0

range_others : (e : Noted) (es : List Noted) → are_in_range (e ∷ es) ≡ true → are_in_range es ≡ true
range_others e es h =
    (and_parts (is_entry e.1) (are_in_range es) (and_parts (nat_le e.0 last_turn) (is_entry e.1 && are_in_range es) h).1).1

behind_first : (e : Noted) (es : List Noted) (end more : List ℕ)
    → (noted_lines (e ∷ es) ++ end) ++ more ≡ row_line (right e) ++ ((noted_lines es ++ end) ++ more)
behind_first e es end more =
    ap (λ (us : List ℕ). us ++ more) (append_assoc (row_line (right e)) (noted_lines es) end)
    ∙ append_assoc (row_line (right e)) (noted_lines es ++ end) more

-- the entries and the end after the first two lines
same_rows : (es fs : List Noted) (m n : ℕ) (more : List ℕ) → are_in_range es ≡ true → are_in_range fs ≡ true → m ≤ last_turn → n ≤ last_turn
    → (noted_lines es ++ last_line m) ++ more ≡ noted_lines fs ++ last_line n → (es ≡ fs) × (m ≡ n) × (more ≡ [])
same_rows [] [] m n more a b low lim e =
    let same = same_row (end_row m) (end_row n) more [] (end_fits m low) (end_fits n lim) (e ∙ sym (append-nil (last_line n))) in
    (refl, left_is m n same.0, same.1)
same_rows [] (f ∷ fs) m n more a b low lim e =
    let fits = note_fits f (range_first f fs b) in
    let same = same_row (end_row m) (note_row f) more (noted_lines fs ++ last_line n) (end_fits m low) fits (e ∙ append_assoc (row_line (right f)) (noted_lines fs) (last_line n)) in
    let g = same.0 in absurd cc
same_rows (d ∷ es) [] m n more a b low lim e =
    let fits = note_fits d (range_first d es a) in
    let same = same_row (note_row d) (end_row n) ((noted_lines es ++ last_line m) ++ more) [] fits (end_fits n lim)
    (sym (behind_first d es (last_line m) more) ∙ e ∙ sym (append-nil (last_line n))) in
    let g = same.0 in absurd cc
same_rows (d ∷ es) (f ∷ fs) m n more a b low lim e =
    let same = same_row (note_row d) (note_row f) ((noted_lines es ++ last_line m) ++ more) (noted_lines fs ++ last_line n)
    (note_fits d (range_first d es a)) (note_fits f (range_first f fs b))
    (sym (behind_first d es (last_line m) more) ∙ e ∙ append_assoc (row_line (right f)) (noted_lines fs) (last_line n)) in
    let rest = same_rows es fs m n more (range_others d es a) (range_others f fs b) low lim same.1 in
    (ap (λ (x : Noted). x ∷ es) (right_is d f same.0) ∙ ap (λ (xs : List Noted). f ∷ xs) rest.0, rest.1, rest.2)

-- the turn at which a journal begins, and what stands after its line
same_begin : (m n : ℕ) (us vs : List ℕ) → m ≤ last_turn → n ≤ last_turn → first_lines m ++ us ≡ first_lines n ++ vs → (m ≡ n) × (us ≡ vs)
same_begin m n us vs low lim e =
    let word = codes "tricks journal 1\nfrom " in
    good_is {E = Miss} m n us vs
    (sym (back (turn_code word) m us (turn_sound word) ((tt, (omega arith, low)), refl))
    ∙ ap (read (turn_code word)) e
    ∙ back (turn_code word) n vs (turn_sound word) ((tt, (omega arith, lim)), refl))

pub no_prefix : NoPrefix
no_prefix p start journal other bytes more j o =
    let rows = noted_lines journal.entries ++ last_line journal.end in
    let low : journal.from ≤ last_turn = omega (arith, journal.forward, journal.end_right) in
    let lim : other.from ≤ last_turn = omega (arith, other.forward, other.end_right) in
    let text : first_lines journal.from ++ (rows ++ more) ≡ first_lines other.from ++ (noted_lines other.entries ++ last_line other.end) =
    sym (append_assoc (first_lines journal.from) rows more)
    ∙ ap (λ (us : List ℕ). us ++ more) (sym (append_assoc (first_lines journal.from) (noted_lines journal.entries) (last_line journal.end)) ∙ sym j.text)
    ∙ o.text ∙ append_assoc (first_lines other.from) (noted_lines other.entries) (last_line other.end) in
    let begins = same_begin journal.from other.from (rows ++ more) (noted_lines other.entries ++ last_line other.end) low lim text in
    let rest = same_rows journal.entries other.entries journal.end other.end more journal.in_range other.in_range journal.end_right other.end_right begins.1 in
    (begins.0, rest.0, rest.1, rest.2)
