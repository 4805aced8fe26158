-- What a line says is what is read of it, where nothing is left.
use Rattle.std.proofs.Common.{Bor, ◌≡◌, ℕ, ◌≤◌, true, List, [], ◌∷◌, ◌++◌, Option, Some, None, Result, Ok, Err, refl, sym, ap, ◌∙◌, subst, arith}
use Rattle.std.proofs.lemmas.Bool.Decides.{nat_tests}
use Rattle.std.proofs.lemmas.List.{append-nil}
use Rattle.std.specs.Prelude.{codes, decimal, nat_le}
use Rattle.trick_codes.proofs.Base.{good_bad, good_is}
use Rattle.trick_codes.proofs.Codes.{back, tells}
use Rattle.trick_codes.specs.Code.{Code, Either, Fits, Sound, left, read, right, spell}
use Rattle.trick_codes.specs.Exact.{Tells}
use Rattle.trick_codes.specs.Gives.{Reads, beside}
use Rattle.trick_codes.specs.declared.miss.Miss.{Miss}
use Rattle.trick_journal.proofs.IsSound.{row_sound, turn_sound}
use Rattle.trick_journal.proofs.Texts.{end_fits, end_ranged, note_fits, note_ranged, row_spelled}
use Rattle.trick_journal.specs.Codes.{row_code, turn_code}
use Rattle.trick_journal.specs.Rows.{Says, finish, note}
use Rattle.trick_journal.specs.Told.{SaidBy, SaysNone, TurnSaid, row_in, row_said, row_seen, where_all, whole_of}
use Rattle.trick_journal.specs.declared.row.Row.{Row}
use Rattle.trick_journal.specs.declared.row.Row.TheVariants as row
use Rattle.trick_model.specs.Journal.{Noted}
use Rattle.trick_model.specs.Time.{last_turn}

module _ {A : Type 0} (c : Code A) (sound : Sound c) (line : List ℕ) where
  -- a line that is a value's text is read as that value
  all_read : (x : A) → Fits c x → line ≡ spell c x → read c line ≡ Ok (x, [])
  all_read x h e = ap (read c) (e ∙ sym (append-nil (spell c x))) ∙ back c x [] sound h

  -- and what is read to the end is a value's text
  all_told : (x : A) → read c line ≡ Ok (x, []) → (line ≡ spell c x) × Fits c x
  all_told x e =
      let t = subst (Tells c line) e (tells c line sound) in
      (t.0 ∙ append-nil (spell c x), t.1)

  not_more : (x y : A) (b : ℕ) (bs : List ℕ) → read c line ≡ Ok (x, b ∷ bs) → read c line ≡ Ok (y, []) → ⊥
  not_more x y b bs e f = let same = good_is {E = Miss} x y (b ∷ bs) [] (sym e ∙ f) in let g = same.1 in absurd cc

  not_missed : (m : Miss) (y : A) → read c line ≡ Err m → read c line ≡ Ok (y, []) → ⊥
  not_missed m y e f = good_bad y [] m (sym f ∙ e)

module _ (line : List ℕ) where
  none_said : ((x : Either ℕ Noted) → read row_code line ≡ Ok (x, []) → ⊥) → SaysNone line
  none_said never = record {
    note = λ e s. never (right e) (all_read row_code row_sound line (right e) (note_fits e s.in_range) (s.text ∙ sym (row_spelled (right e))));
    finish = λ turn s. let low : turn ≤ last_turn = grind (arith, nat_tests, s.in_range) in
        never (left turn) (all_read row_code row_sound line (left turn) (end_fits turn low) (s.text ∙ sym (row_spelled (left turn))));
  }

  said : (r : Row) → read row_code line ≡ Ok (row_in r, []) → Says line (row_said r)
  said (row.End turn) e =
      let t = all_told row_code row_sound line (left turn) e in
      let low : turn ≤ last_turn = end_ranged turn t.1 in
      let test : nat_le turn last_turn ≡ true = grind (arith, nat_tests) in
      record { in_range = test; text = t.0 ∙ row_spelled (left turn) }
  said (row.Note turn entry) e =
      let t = all_told row_code row_sound line (row_in (row.Note turn entry)) e in
      record { in_range = note_ranged _ t.1; text = t.0 ∙ row_spelled (row_in (row.Note turn entry)) }

  by_rest : (r : Row) (rest : List ℕ) (answer : Option Row) → read row_code line ≡ Ok (row_in r, rest) → answer ≡ where_all r rest → SaidBy line answer
  by_rest r [] answer e a = subst (SaidBy line) (sym a) (said r e)
  by_rest r (b ∷ bs) answer e a = subst (SaidBy line) (sym a) (none_said (λ x f. not_more row_code row_sound line (row_in r) x b bs e f))

  pub said_by : (q : Result (Row × Bor (List ℕ)) Miss) (answer : Option Row) → Reads row_seen q (read row_code line) → answer ≡ whole_of q → SaidBy line answer
  said_by (Ok p) answer r a = by_rest p.0 (p.1.now) answer r a
  said_by (Err m) answer r a = subst (SaidBy line) (sym a) (none_said (λ x f. not_missed row_code row_sound line m x r f))

module _ (word line : List ℕ) where
  no_turn : ((x : ℕ) → read (turn_code word) line ≡ Ok (x, []) → ⊥) → TurnSaid word line None
  no_turn never = λ turn low e. never turn (all_read (turn_code word) (turn_sound word) line turn ((tt, (omega arith, low)), refl) e)

  turn_told : (turn : ℕ) → read (turn_code word) line ≡ Ok (turn, []) → TurnSaid word line (Some turn)
  turn_told turn e = let t = all_told (turn_code word) (turn_sound word) line turn e in (t.1.0.1.1, t.0)

  turn_by_rest : (turn : ℕ) (rest : List ℕ) (answer : Option ℕ) → read (turn_code word) line ≡ Ok (turn, rest) → answer ≡ where_all turn rest → TurnSaid word line answer
  turn_by_rest turn [] answer e a = subst (TurnSaid word line) (sym a) (turn_told turn e)
  turn_by_rest turn (b ∷ bs) answer e a = subst (TurnSaid word line) (sym a) (no_turn (λ x f. not_more (turn_code word) (turn_sound word) line turn x b bs e f))

  -- a line says one turn
  pub turn_once : (m n : ℕ) → m ≤ last_turn → n ≤ last_turn → line ≡ word ++ (decimal m ++ codes "\n") → line ≡ word ++ (decimal n ++ codes "\n") → m ≡ n
  turn_once m n low lim d e =
      (good_is {E = Miss} m n [] [] (sym (all_read (turn_code word) (turn_sound word) line m ((tt, (omega arith, low)), refl) d)
      ∙ all_read (turn_code word) (turn_sound word) line n ((tt, (omega arith, lim)), refl) e)).0

  pub turn_by : (q : Result (ℕ × Bor (List ℕ)) Miss) (answer : Option ℕ) → Reads beside q (read (turn_code word) line) → answer ≡ whole_of q → TurnSaid word line answer
  turn_by (Ok p) answer r a = turn_by_rest p.0 (p.1.now) answer r a
  turn_by (Err m) answer r a = subst (TurnSaid word line) (sym a) (no_turn (λ x f. not_missed (turn_code word) (turn_sound word) line m x r f))
