-- A line is spelled as it is printed, and a row has a line where it is in range.
use Rattle.std.proofs.Common.{◌≡◌, ℕ, zero, suc, ◌≤◌, Bool, true, false, cond, not, List, [], ◌∷◌, ◌++◌, length, get_or, refl, sym, ap, ◌∙◌, append_assoc, arith}
use Rattle.std.proofs.lemmas.Bool.{and_from, and_parts}
use Rattle.std.proofs.lemmas.Bool.Decides.{nat_tests}
use Rattle.std.specs.List.{list_any}
use Rattle.std.specs.Prelude.{codes, decimal, nat_eq, nat_le, ◌&&◌, ◌||◌, ◌==◌}
use Rattle.trick_codes.specs.Code.{Either, Fits, is_free, left, right, spell}
use Rattle.trick_journal.specs.Codes.{cause_at, cause_place, cause_words, entry_code, join_code, leave_code, noted_code, publish_code, row_code, said_code, turn_code}
use Rattle.trick_model.specs.Journal.{Noted, cause_text, entry_line, entry_text, first_lines, is_entry, is_line, is_session, last_line}
use Rattle.trick_model.specs.Time.{last_turn}
use Rattle.trick_model.specs.declared.entry.Cause.{Cause}
use Rattle.trick_model.specs.declared.entry.Cause.TheVariants as cause
use Rattle.trick_model.specs.declared.entry.Entry.{Entry}
use Rattle.trick_model.specs.declared.entry.Entry.TheVariants.{Join, Said, Leave, Publish}

-- ---- as they are spelled

cause_spelled : (c : Cause) → get_or cause_words (cause_place c) [] ≡ cause_text c ++ codes "\n"
cause_spelled cause.Exit = refl
cause_spelled cause.HungUp = refl
cause_spelled cause.LinkFault = refl
cause_spelled cause.LongLine = refl
cause_spelled cause.Slow = refl
cause_spelled cause.NoThread = refl
cause_spelled cause.OutOfMemory = refl

regrouped : (d us : List ℕ) → (d ++ 32 ∷ []) ++ (us ++ 10 ∷ []) ≡ ((d ++ 32 ∷ []) ++ us) ++ 10 ∷ []
regrouped d us = sym (append_assoc (d ++ 32 ∷ []) us (10 ∷ []))

entry_spelled : (e : Entry) → spell entry_code e ≡ entry_text e ++ codes "\n"
unfolding entry_code join_code said_code leave_code publish_code
entry_spelled (Join session) = refl
entry_spelled (Said session line) = ap (λ (us : List ℕ). codes "cmd " ++ us) (regrouped (decimal session) line)
entry_spelled (Leave session cause) =
    ap (λ (us : List ℕ). codes "leave " ++ ((decimal session ++ 32 ∷ []) ++ us)) (cause_spelled cause)
    ∙ ap (λ (us : List ℕ). codes "leave " ++ us) (regrouped (decimal session) (cause_text cause))
entry_spelled (Publish thread) = refl

note_spelled : (e : Noted) → spell noted_code e ≡ entry_line e.0 e.1
unfolding noted_code
note_spelled e =
    ap (λ (us : List ℕ). (decimal e.0 ++ 32 ∷ []) ++ us) (entry_spelled e.1) ∙ regrouped (decimal e.0) (entry_text e.1)

-- the line of the end, or of an entry
abbrev pub row_line : Either ℕ Noted → List ℕ
row_line (left turn) = last_line turn
row_line (right e) = entry_line e.0 e.1

pub row_spelled : (x : Either ℕ Noted) → spell row_code x ≡ row_line x
unfolding row_code
row_spelled (left turn) = refl
row_spelled (right e) = note_spelled e

-- ---- ranges

free_is : (line : List ℕ) → is_free 10 line ≡ not (list_any (λ byte. byte == 10) line)
free_is [] = refl
free_is (b ∷ line) = go (nat_eq b 10) (free_is line)
  where
    go : (k : Bool) → is_free 10 line ≡ not (list_any (λ byte. byte == 10) line)
        → cond k false (is_free 10 line) ≡ not (k || list_any (λ byte. byte == 10) line)
    go true h = refl
    go false h = h

low_high : (low n high : ℕ) → (nat_le low n && nat_le n high) ≡ true → (low ≤ n) × (n ≤ high)
low_high low n high h = (grind (arith, nat_tests), grind (arith, nat_tests))

in_between : (low n high : ℕ) → low ≤ n → n ≤ high → (nat_le low n && nat_le n high) ≡ true
in_between low n high l h = grind (arith, nat_tests)

line_fits : (line : List ℕ) → is_line line ≡ true → (length line ≤ 4096) × (is_free 10 line ≡ true)
line_fits line h = (grind (arith, nat_tests), free_is line ∙ (and_parts (nat_le (length line) 4096) (not (list_any (λ byte. byte == 10) line)) h).1)

line_ranged : (line : List ℕ) → length line ≤ 4096 → is_free 10 line ≡ true → is_line line ≡ true
line_ranged line le h = let short : nat_le (length line) 4096 ≡ true = grind (arith, nat_tests) in and_from (nat_le (length line) 4096) (not (list_any (λ byte. byte == 10) line)) short (sym (free_is line) ∙ h)

entry_fits : (e : Entry) → is_entry e ≡ true → Fits entry_code e
unfolding entry_code join_code said_code leave_code publish_code
entry_fits (Join session) h = ((omega arith, (low_high 1 session 4294967295 h, refl)), refl)
entry_fits (Said session line) h =
    let parts = and_parts (is_session session) (is_line line) h in
    ((omega arith, ((low_high 1 session 4294967295 parts.0, line_fits line parts.1), refl)), refl)
entry_fits (Leave session why) h = ((omega arith, ((low_high 1 session 4294967295 h, cause_there why), cause_again why)), refl)
  where
    cause_there : (c : Cause) → suc (cause_place c) ≤ 7
    cause_there cause.Exit = omega arith
    cause_there cause.HungUp = omega arith
    cause_there cause.LinkFault = omega arith
    cause_there cause.LongLine = omega arith
    cause_there cause.Slow = omega arith
    cause_there cause.NoThread = omega arith
    cause_there cause.OutOfMemory = omega arith

    cause_again : (c : Cause) → Leave session (cause_at (cause_place c)) ≡ Leave session c
    cause_again cause.Exit = refl
    cause_again cause.HungUp = refl
    cause_again cause.LinkFault = refl
    cause_again cause.LongLine = refl
    cause_again cause.Slow = refl
    cause_again cause.NoThread = refl
    cause_again cause.OutOfMemory = refl
entry_fits (Publish thread) h = ((omega arith, (low_high 1 thread 15 h, refl)), refl)

entry_ranged : (e : Entry) → Fits entry_code e → is_entry e ≡ true
unfolding entry_code join_code said_code leave_code publish_code
entry_ranged (Join session) h = let r = h.0.1.0 in in_between 1 session 4294967295 r.0 r.1
entry_ranged (Said session line) h =
    let r = h.0.1.0 in
    and_from (is_session session) (is_line line) (in_between 1 session 4294967295 r.0.0 r.0.1) (line_ranged line r.1.0 r.1.1)
entry_ranged (Leave session cause) h = let r = h.0.1.0 in in_between 1 session 4294967295 r.0.0 r.0.1
entry_ranged (Publish thread) h = let r = h.0.1.0 in in_between 1 thread 15 r.0 r.1

pub note_fits : (e : Noted) → (nat_le e.0 last_turn && is_entry e.1) ≡ true → Fits row_code (right e)
unfolding row_code noted_code
note_fits e h = let low : e.0 ≤ last_turn = grind (arith, nat_tests) in ((omega arith, low), entry_fits e.1 (and_parts (nat_le e.0 last_turn) (is_entry e.1) h).1)

pub note_ranged : (e : Noted) → Fits row_code (right e) → (nat_le e.0 last_turn && is_entry e.1) ≡ true
unfolding row_code noted_code
note_ranged e h = let low : nat_le e.0 last_turn ≡ true = grind (arith, nat_tests, h.0.1) in and_from (nat_le e.0 last_turn) (is_entry e.1) low (entry_ranged e.1 h.1)

pub end_fits : (turn : ℕ) → turn ≤ last_turn → Fits row_code (left turn)
unfolding row_code
end_fits turn le = ((tt, (omega arith, le)), refl)

pub end_ranged : (turn : ℕ) → Fits row_code (left turn) → turn ≤ last_turn
unfolding row_code
end_ranged turn h = h.0.1.1
