-- The codes of a journal's lines are sound.
use Rattle.std.proofs.Common.{◌≡◌, ℕ, zero, suc, ◌≤◌, ◌<◌, true, false, List, [], ◌∷◌, ◌++◌, refl, sym, ap, ◌∙◌, arith}
use Rattle.std.proofs.lemmas.Bool.{cases_Bool, eqb-true}
use Rattle.std.proofs.Common.{◌⊎◌, inl, inr, Bool}
use Rattle.std.specs.Char.{is_ascii_digit}
use Rattle.std.specs.Prelude.{codes, decimal, nat_eq}
use Rattle.trick_codes.proofs.Numbers.{digits_of}
use Rattle.trick_codes.proofs.Words.{prefix_free}
use Rattle.trick_codes.specs.Code.{Fits, Sound, one_of, sequence, spell}
use Rattle.trick_journal.specs.Codes.{cause_at, cause_place, cause_words, detail_code, entry_code, entry_place, entry_words, join_code, leave_code, noted_code, publish_code, row_code, said_code, session_code, turn_code}
use Rattle.trick_model.specs.Journal.{Noted}
use Rattle.trick_model.specs.Time.{last_turn}
use Rattle.trick_model.specs.declared.entry.Entry.{Entry}
use Rattle.trick_model.specs.declared.entry.Entry.TheVariants.{Join, Said, Leave, Publish}

session_sound : (end : ℕ) → is_ascii_digit end ≡ false → Sound (session_code end)
session_sound end h = (omega arith, omega arith, omega arith, h)

join_sound : Sound join_code
unfolding join_code
join_sound = (session_sound 10 refl, λ session h. refl)

said_sound : Sound said_code
unfolding said_code
said_sound = ((session_sound 32 refl, λ session h. tt), λ v h. refl)

cause_back : (k : ℕ) → k < 7 → cause_place (cause_at k) ≡ k
cause_back zero lt = refl
cause_back (suc zero) lt = refl
cause_back (suc (suc zero)) lt = refl
cause_back (suc (suc (suc zero))) lt = refl
cause_back (suc (suc (suc (suc zero)))) lt = refl
cause_back (suc (suc (suc (suc (suc zero))))) lt = refl
cause_back (suc (suc (suc (suc (suc (suc k)))))) lt = omega arith

leave_sound : Sound leave_code
unfolding leave_code
leave_sound = (
  (session_sound 32 refl, λ session h. (omega arith, prefix_free cause_words refl)),
  λ v h. ap (λ (k : ℕ). (v.0, k)) (cause_back v.1 h.1),
)

publish_sound : Sound publish_code
unfolding publish_code
publish_sound = ((omega arith, omega arith, omega arith, refl), λ thread h. refl)

detail_sound : (k : ℕ) → Sound (detail_code k)
detail_sound zero = join_sound
detail_sound (suc zero) = said_sound
detail_sound (suc (suc zero)) = leave_sound
detail_sound (suc (suc (suc k))) = publish_sound

-- the word of an entry that was read after it
place_is : (k : ℕ) (e : Entry) → k < 4 → Fits (detail_code k) e → entry_place e ≡ k
unfolding join_code said_code leave_code publish_code
place_is zero (Join session) lt h = refl
place_is zero (Said session line) lt h = let e = h.1 in absurd cc
place_is zero (Leave session cause) lt h = let e = h.1 in absurd cc
place_is zero (Publish thread) lt h = let e = h.1 in absurd cc
place_is (suc zero) (Join session) lt h = let e = h.1 in absurd cc
place_is (suc zero) (Said session line) lt h = refl
place_is (suc zero) (Leave session cause) lt h = let e = h.1 in absurd cc
place_is (suc zero) (Publish thread) lt h = let e = h.1 in absurd cc
place_is (suc (suc zero)) (Join session) lt h = let e = h.1 in absurd cc
place_is (suc (suc zero)) (Said session line) lt h = let e = h.1 in absurd cc
place_is (suc (suc zero)) (Leave session cause) lt h = refl
place_is (suc (suc zero)) (Publish thread) lt h = let e = h.1 in absurd cc
place_is (suc (suc (suc zero))) (Join session) lt h = let e = h.1 in absurd cc
place_is (suc (suc (suc zero))) (Said session line) lt h = let e = h.1 in absurd cc
place_is (suc (suc (suc zero))) (Leave session cause) lt h = let e = h.1 in absurd cc
place_is (suc (suc (suc zero))) (Publish thread) lt h = refl
place_is (suc (suc (suc (suc k)))) e lt h = absurd (omega arith)

entry_sound : Sound entry_code
unfolding entry_code
entry_sound = (
  ((omega arith, prefix_free entry_words refl), λ k h. detail_sound k),
  λ v h. ap (λ (k : ℕ). (k, v.1)) (place_is v.0 v.1 h.0 h.1),
)

noted_sound : Sound noted_code
unfolding noted_code
noted_sound = ((omega arith, omega arith, omega arith, refl), λ turn h. entry_sound)

pub turn_sound : (word : List ℕ) → Sound (turn_code word)
turn_sound word = ((tt, λ u h. (omega arith, omega arith, omega arith, refl)), λ v h. refl)

-- no entry begins with an `e`
digit_first : (n : ℕ) (rest : List ℕ) → n ≤ last_turn
    → (t : ℕ) × (more : List ℕ) × (decimal n ++ rest ≡ t ∷ more) × (nat_eq t 101 ≡ false)
digit_first n rest le =
    let d = digits_of n (omega arith) in
    (d.head, d.tail ++ rest, ap (λ (us : List ℕ). us ++ rest) d.text, no_letter d.head d.head_digit)
  where
    no_letter : (t : ℕ) → is_ascii_digit t ≡ true → nat_eq t 101 ≡ false
    no_letter t p = go (cases_Bool (nat_eq t 101))
      where
        go : (nat_eq t 101 ≡ true) ⊎ (nat_eq t 101 ≡ false) → nat_eq t 101 ≡ false
        go (inl e) = let same = sym p ∙ ap is_ascii_digit (eqb-true t 101 e) in absurd cc
        go (inr e) = e

noted_first : (e : Noted) → Fits noted_code e
    → (t : ℕ) × (more : List ℕ) × (spell noted_code e ≡ t ∷ more) × (nat_eq t 101 ≡ false)
unfolding noted_code
noted_first e h =
    let first = digit_first e.0 (32 ∷ []) h.0.1 in
    (first.0, first.1 ++ spell entry_code e.1, ap (λ (us : List ℕ). us ++ spell entry_code e.1) first.2, first.3)

pub row_sound : Sound row_code
unfolding row_code
row_sound = (
  turn_sound (codes "end "),
  noted_sound,
  (λ turn h. (codes "nd " ++ (decimal turn ++ 10 ∷ []), refl)),
  noted_first,
)
