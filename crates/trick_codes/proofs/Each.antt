-- Reading codes and lines one after the other, as a loop does, and writing them.
use Rattle.std.proofs.Common.{◌≡◌, ℕ, zero, suc, ◌+◌, ◌-◌, ◌≤◌, ◌<◌, List, [], ◌∷◌, ◌++◌, length, drop, get_or, Result, Ok, Err, refl, sym, ap, ◌∙◌, append_assoc, arith}
use Rattle.std.proofs.lemmas.List.{append-nil, at_drop_more}
use Rattle.std.specs.Prelude.{map}
use Rattle.trick_codes.specs.Code.{Code, Told, spell, read, ◌>>=◌}
use Rattle.trick_codes.specs.Gives.{Stops}
use Rattle.trick_codes.specs.Lines.{Lines, text, Seen, read_lines, each, numbered}
use Rattle.trick_codes.specs.Named.{each_code}
use Rattle.trick_codes.specs.declared.miss.Miss.{Miss}
use Rattle.trick_codes.specs.declared.stop.LineStop.{LineStop}
use Rattle.trick_codes.specs.declared.stop.LineStop.TheVariants.{Memory, Cut, Wrong}

module _ {A E : Type 0} where
  -- a list that is told, with some items before it
  abbrev pub with_items : List A → Result (List A × List ℕ) E → Result (List A × List ℕ) E
  with_items found q = q >>= λ xs. Ok (found ++ xs.0, xs.1)

  pub regrouped : (found : List A) (x : A) (q : Result (List A × List ℕ) E) → with_items found (q >>= λ xs. Ok (x ∷ xs.0, xs.1)) ≡ with_items (found ++ x ∷ []) q
  regrouped found x (Ok p) = ap (λ (ys : List A). Ok (ys, p.1)) (sym (append_assoc found (x ∷ []) p.0))
  regrouped found x (Err e) = refl

  pub with_none : (q : Result (List A × List ℕ) E) → with_items [] q ≡ q
  with_none (Ok p) = refl
  with_none (Err e) = refl

pub drop_all : {K : Type 0} (i : ℕ) (us : List K) → length us ≤ i → drop i us ≡ []
drop_all zero [] le = refl
drop_all (suc i) [] le = refl
drop_all zero (u ∷ us) le = absurd (omega arith)
drop_all (suc i) (u ∷ us) le = drop_all i us (omega arith)

module _ {K A : Type 0} (d : A) (c : K → Lines A) where
  -- what is read in all, where some were found already
  abbrev pub lines_left : List K → List A → List ℕ → Seen (List A)
  lines_left ks found rest = with_items found (read_lines (each d c ks) rest)

  abbrev paired_lines : A → Seen (List A) → Seen (A × List A)
  paired_lines x q = q >>= λ y. Ok ((x, y.0), y.1)

  built : (x : A) (q : Seen (List A)) → (paired_lines x q >>= λ p. Ok (p.0.0 ∷ p.0.1, p.1)) ≡ (q >>= λ xs. Ok (x ∷ xs.0, xs.1))
  built x (Ok p) = refl
  built x (Err e) = refl

  one_more : (k : K) (ks : List K) (found : List A) (x : A) (rest after : List ℕ) → read_lines (c k) rest ≡ Ok (x, after) → lines_left (k ∷ ks) found rest ≡ lines_left ks (found ++ x ∷ []) after
  one_more k ks found x rest after e = rw e (ap (with_items found) (built x (read_lines (each d c ks) after)) ∙ regrouped found x (read_lines (each d c ks) after))

  pub lines_go_on : (ks : List K) (i : ℕ) (none : K) (found grown : List A) (x : A) (rest after : List ℕ) (total : Seen (List A)) → i < length ks → read_lines (c (get_or ks i none)) rest ≡ Ok (x, after) → grown ≡ found ++ x ∷ [] → lines_left (drop i ks) found rest ≡ total → lines_left (drop (i + 1) ks) grown after ≡ total
  lines_go_on ks i none found grown x rest after total lt e g so_far =
      ap (λ f. lines_left (drop (i + 1) ks) f after) g
      ∙ sym (one_more (get_or ks i none) (drop (i + 1) ks) found x rest after e)
      ∙ sym (at_drop_more (λ us. lines_left us found rest) ks i none lt) ∙ so_far

  pub lines_fail : (s : LineStop) (ks : List K) (i : ℕ) (none : K) (found : List A) (rest : List ℕ) (total : Seen (List A)) → i < length ks → Stops s (read_lines (c (get_or ks i none)) rest) → lines_left (drop i ks) found rest ≡ total → Stops s total
  lines_fail Memory ks i none found rest total lt e so_far = tt
  lines_fail Cut ks i none found rest total lt e so_far =
      sym so_far ∙ at_drop_more (λ us. lines_left us found rest) ks i none lt ∙ rw e refl
  lines_fail (Wrong kind more) ks i none found rest total lt e so_far =
      sym so_far ∙ at_drop_more (λ us. lines_left us found rest) ks i none lt ∙ rw e refl

  pub lines_start : (ks : List K) (found : List A) (rest : List ℕ) → found ≡ [] → lines_left ks found rest ≡ read_lines (each d c ks) rest
  lines_start ks found rest e = ap (λ f. lines_left ks f rest) e ∙ with_none (read_lines (each d c ks) rest)

  pub lines_end : (ks : List K) (i : ℕ) (found : List A) (rest : List ℕ) (total : Seen (List A)) → length ks ≤ i → lines_left (drop i ks) found rest ≡ total → total ≡ Ok (found, rest)
  lines_end ks i found rest total le so_far =
      sym so_far ∙ ap (λ us. lines_left us found rest) (drop_all i ks le) ∙ ap (λ (ys : List A). Ok (ys, rest)) (append-nil found)

  -- writing them one after the other, as a loop does
  pub lines_text : (ks : List K) (xs : List A) (i : ℕ) (none : K) (old new total : List ℕ) → i < length ks → i < length xs → new ≡ old ++ text (c (get_or ks i none)) (get_or xs i d)
      → old ++ text (each d c (drop i ks)) (drop i xs) ≡ total → new ++ text (each d c (drop (i + 1) ks)) (drop (i + 1) xs) ≡ total
  lines_text ks xs i none old new total lt le e so_far =
      let here = text (c (get_or ks i none)) (get_or xs i d) in
      let others = text (each d c (drop (i + 1) ks)) (drop (i + 1) xs) in
      ap (λ (us : List ℕ). us ++ others) e
      ∙ append_assoc old here others
      ∙ sym (at_drop_more (λ (ys : List A). old ++ text (each d c (get_or ks i none ∷ drop (i + 1) ks)) ys) xs i d le)
      ∙ sym (at_drop_more (λ (us : List K). old ++ text (each d c us) (drop i xs)) ks i none lt)
      ∙ so_far

module _ {K A : Type 0} (d : A) (c : K → List K → Code A) where
  -- what is told in all, where some were found already
  abbrev pub codes_left : List K → List A → List ℕ → Told (List A)
  codes_left ks found rest = with_items found (read (each_code d c ks) rest)

  abbrev paired_codes : A → Told (List A) → Told (A × List A)
  paired_codes x q = q >>= λ y. Ok ((x, y.0), y.1)

  built_code : (x : A) (q : Told (List A)) → (paired_codes x q >>= λ p. Ok (p.0.0 ∷ p.0.1, p.1)) ≡ (q >>= λ xs. Ok (x ∷ xs.0, xs.1))
  built_code x (Ok p) = refl
  built_code x (Err e) = refl

  one_more_code : (k : K) (ks : List K) (found : List A) (x : A) (rest after : List ℕ) → read (c k ks) rest ≡ Ok (x, after) → codes_left (k ∷ ks) found rest ≡ codes_left ks (found ++ x ∷ []) after
  one_more_code k ks found x rest after e = rw e (ap (with_items found) (built_code x (read (each_code d c ks) after)) ∙ regrouped found x (read (each_code d c ks) after))

  pub codes_go_on : (ks : List K) (i : ℕ) (none : K) (found grown : List A) (x : A) (rest after : List ℕ) (total : Told (List A)) → i < length ks → read (c (get_or ks i none) (drop (i + 1) ks)) rest ≡ Ok (x, after) → grown ≡ found ++ x ∷ [] → codes_left (drop i ks) found rest ≡ total → codes_left (drop (i + 1) ks) grown after ≡ total
  codes_go_on ks i none found grown x rest after total lt e g so_far =
      ap (λ f. codes_left (drop (i + 1) ks) f after) g
      ∙ sym (one_more_code (get_or ks i none) (drop (i + 1) ks) found x rest after e)
      ∙ sym (at_drop_more (λ us. codes_left us found rest) ks i none lt) ∙ so_far

  pub codes_fail : (m : Miss) (ks : List K) (i : ℕ) (none : K) (found : List A) (rest : List ℕ) (total : Told (List A)) → i < length ks → read (c (get_or ks i none) (drop (i + 1) ks)) rest ≡ Err m → codes_left (drop i ks) found rest ≡ total → total ≡ Err m
  codes_fail m ks i none found rest total lt e so_far =
      sym so_far ∙ at_drop_more (λ us. codes_left us found rest) ks i none lt ∙ rw e refl

  pub codes_start : (ks : List K) (found : List A) (rest : List ℕ) → found ≡ [] → codes_left ks found rest ≡ read (each_code d c ks) rest
  codes_start ks found rest e = ap (λ f. codes_left ks f rest) e ∙ with_none (read (each_code d c ks) rest)

  pub codes_end : (ks : List K) (i : ℕ) (found : List A) (rest : List ℕ) (total : Told (List A)) → length ks ≤ i → codes_left (drop i ks) found rest ≡ total → total ≡ Ok (found, rest)
  codes_end ks i found rest total le so_far =
      sym so_far ∙ ap (λ us. codes_left us found rest) (drop_all i ks le) ∙ ap (λ (ys : List A). Ok (ys, rest)) (append-nil found)

  pub codes_text : (ks : List K) (xs : List A) (i : ℕ) (none : K) (old new total : List ℕ) → i < length ks → i < length xs → new ≡ old ++ spell (c (get_or ks i none) (drop (i + 1) ks)) (get_or xs i d)
      → old ++ spell (each_code d c (drop i ks)) (drop i xs) ≡ total → new ++ spell (each_code d c (drop (i + 1) ks)) (drop (i + 1) xs) ≡ total
  codes_text ks xs i none old new total lt le e so_far =
      let here = spell (c (get_or ks i none) (drop (i + 1) ks)) (get_or xs i d) in
      let others = spell (each_code d c (drop (i + 1) ks)) (drop (i + 1) xs) in
      ap (λ (us : List ℕ). us ++ others) e
      ∙ append_assoc old here others
      ∙ sym (at_drop_more (λ (ys : List A). old ++ spell (each_code d c (get_or ks i none ∷ drop (i + 1) ks)) ys) xs i d le)
      ∙ sym (at_drop_more (λ (us : List K). old ++ spell (each_code d c us) (drop i xs)) ks i none lt)
      ∙ so_far

-- what is left of a count
pub one_left : (count i : ℕ) → i < count → count - i ≡ suc (count - (i + 1))
one_left count i lt = omega arith

pub none_left : (count i : ℕ) → count ≤ i → count - i ≡ 0
none_left count i le = omega arith

-- what is left of a count, one turn on and at its end
pub ruleset left = (one_left, none_left)

module _ {A : Type 0} (d : A) (c : ℕ → Lines A) where
  -- what is read in all of numbered lines, where some were found already
  abbrev pub numbered_left : (from count : ℕ) → List A → List ℕ → Seen (List A)
  numbered_left from count found rest = with_items found (read_lines (numbered d c from count) rest)

  abbrev paired_numbered : A → Seen (List A) → Seen (A × List A)
  paired_numbered x q = q >>= λ y. Ok ((x, y.0), y.1)

  built_numbered : (x : A) (q : Seen (List A)) → (paired_numbered x q >>= λ p. Ok (p.0.0 ∷ p.0.1, p.1)) ≡ (q >>= λ xs. Ok (x ∷ xs.0, xs.1))
  built_numbered x (Ok p) = refl
  built_numbered x (Err e) = refl

  -- the next of them
  one_numbered : (i count : ℕ) (found : List A) (rest : List ℕ) → i < count → numbered_left i (count - i) found rest ≡ numbered_left i (suc (count - (i + 1))) found rest
  one_numbered i count found rest lt = ap (λ n. numbered_left i n found rest) (one_left count i lt)

  pub numbered_go_on : (i count : ℕ) (found grown : List A) (x : A) (rest after : List ℕ) (total : Seen (List A)) → i < count → read_lines (c i) rest ≡ Ok (x, after) → grown ≡ found ++ x ∷ [] → numbered_left i (count - i) found rest ≡ total → numbered_left (i + 1) (count - (i + 1)) grown after ≡ total
  numbered_go_on i count found grown x rest after total lt e g so_far =
      let others = read_lines (numbered d c (i + 1) (count - (i + 1))) after in
      let step : numbered_left i (suc (count - (i + 1))) found rest ≡ numbered_left (i + 1) (count - (i + 1)) (found ++ x ∷ []) after =
      rw e (ap (with_items found) (built_numbered x others) ∙ regrouped found x others) in
      ap (λ f. numbered_left (i + 1) (count - (i + 1)) f after) g ∙ sym step ∙ sym (one_numbered i count found rest lt) ∙ so_far

  pub numbered_fail : (s : LineStop) (i count : ℕ) (found : List A) (rest : List ℕ) (total : Seen (List A)) → i < count → Stops s (read_lines (c i) rest) → numbered_left i (count - i) found rest ≡ total → Stops s total
  numbered_fail Memory i count found rest total lt e so_far = tt
  numbered_fail Cut i count found rest total lt e so_far = sym so_far ∙ one_numbered i count found rest lt ∙ rw e refl
  numbered_fail (Wrong kind more) i count found rest total lt e so_far = sym so_far ∙ one_numbered i count found rest lt ∙ rw e refl

  pub numbered_end : (i count : ℕ) (found : List A) (rest : List ℕ) (total : Seen (List A)) → count ≤ i → numbered_left i (count - i) found rest ≡ total → total ≡ Ok (found, rest)
  numbered_end i count found rest total le so_far =
      sym so_far ∙ ap (λ n. numbered_left i n found rest) (none_left count i le) ∙ ap (λ (ys : List A). Ok (ys, rest)) (append-nil found)

  -- writing them, as a loop does
  pub numbered_text : (xs : List A) (i count : ℕ) (old new total : List ℕ) → i < count → i < length xs → new ≡ old ++ text (c i) (get_or xs i d)
      → old ++ text (numbered d c i (count - i)) (drop i xs) ≡ total → new ++ text (numbered d c (i + 1) (count - (i + 1))) (drop (i + 1) xs) ≡ total
  numbered_text xs i count old new total lt le e so_far =
      let here = text (c i) (get_or xs i d) in
      let others = text (numbered d c (i + 1) (count - (i + 1))) (drop (i + 1) xs) in
      ap (λ (us : List ℕ). us ++ others) e
      ∙ append_assoc old here others
      ∙ sym (at_drop_more (λ (ys : List A). old ++ text (numbered d c i (suc (count - (i + 1)))) ys) xs i d le)
      ∙ sym (ap (λ n. old ++ text (numbered d c i n) (drop i xs)) (one_left count i lt))
      ∙ so_far

pub grown_by : {X Y : Type 0} (f : X → Y) (xs ys : List X) (x : X) → ys ≡ xs ++ x ∷ [] → map f ys ≡ map f xs ++ f x ∷ []
grown_by {X} {Y} f xs ys x e = ap (map f) e ∙ go xs
  where
    go : (xs : List X) → map f (xs ++ x ∷ []) ≡ map f xs ++ f x ∷ []
    go [] = refl
    go (y ∷ us) = ap (λ (w : List Y). f y ∷ w) (go us)
