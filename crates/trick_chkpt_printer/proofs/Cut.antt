-- Lists side by side end with the shortest of them, and so do their lines.
use Rattle.std.proofs.Common.{◌≡◌, ℕ, zero, suc, ◌≤◌, min, List, [], ◌∷◌, ◌++◌, length, drop, map, refl, sym, ap, ◌∙◌, arith}
use Rattle.std.proofs.lemmas.List.{append-nil}
use Rattle.std.specs.Prelude.{ℤ, Bool, Option}
use Rattle.trick_model.specs.Checkpoint.{all_taken_lines, cell_lines, flag_lines, group_lines}
use Rattle.trick_model.specs.Plan.{Plan}
use Rattle.trick_model.specs.declared.group.Group.{Group}
use Rattle.trick_model.specs.declared.taken.Taken.{Taken}
use Rattle.trick_model.specs.declared.thread.Thread.{Thread}

no_numbers : (front : List ℕ) (names : List (List ℕ)) → cell_lines front names [] ≡ []
no_numbers front [] = refl
no_numbers front (name ∷ names) = refl

no_flags : (name : List ℕ) (ks : List ℕ) → flag_lines name ks [] ≡ []
no_flags name [] = refl
no_flags name (k ∷ ks) = refl

no_group_flags : (k : ℕ) (gs : List Group) (rows : List (Option (List ℤ))) → group_lines k gs [] rows ≡ []
no_group_flags k [] rows = refl
no_group_flags k (g ∷ gs) rows = refl

no_rows : (k : ℕ) (gs : List Group) (flags : List Bool) → group_lines k gs flags [] ≡ []
no_rows k [] flags = refl
no_rows k (g ∷ gs) [] = refl
no_rows k (g ∷ gs) (f ∷ flags) = refl

no_records : (p : Plan) (threads : List Thread) → all_taken_lines p threads [] ≡ []
no_records p [] = refl
no_records p (t ∷ threads) = refl

module _ {X : Type 0} (f : X → List ℕ) (front : List ℕ) where
  cells_cut : (xs : List X) (ns : List ℤ) (i : ℕ) → min (length xs) (length ns) ≤ i
      → cell_lines front (map f (drop i xs)) (drop i ns) ≡ []
  cells_cut [] [] zero le = refl
  cells_cut [] [] (suc i) le = refl
  cells_cut [] (n ∷ ns) zero le = refl
  cells_cut [] (n ∷ ns) (suc i) le = refl
  cells_cut (x ∷ xs) [] zero le = refl
  cells_cut (x ∷ xs) [] (suc i) le = no_numbers front (map f (drop i xs))
  cells_cut (x ∷ xs) (n ∷ ns) zero le = absurd (omega arith)
  cells_cut (x ∷ xs) (n ∷ ns) (suc i) le = cells_cut xs ns i (omega arith)

  -- no line of a cell is left
  pub cells_end : (xs : List X) (ns : List ℤ) (i : ℕ) (text total : List ℕ) → min (length xs) (length ns) ≤ i
      → text ++ cell_lines front (map f (drop i xs)) (drop i ns) ≡ total → text ≡ total
  cells_end xs ns i text total le e = sym (append-nil text)
      ∙ ap (λ (us : List ℕ). text ++ us) (sym (cells_cut xs ns i le)) ∙ e

module _ {X : Type 0} (f : X → ℕ) (name : List ℕ) where
  flags_cut : (xs : List X) (flags : List Bool) (i : ℕ) → min (length xs) (length flags) ≤ i
      → flag_lines name (map f (drop i xs)) (drop i flags) ≡ []
  flags_cut [] [] zero le = refl
  flags_cut [] [] (suc i) le = refl
  flags_cut [] (n ∷ ns) zero le = refl
  flags_cut [] (n ∷ ns) (suc i) le = refl
  flags_cut (x ∷ xs) [] zero le = refl
  flags_cut (x ∷ xs) [] (suc i) le = no_flags name (map f (drop i xs))
  flags_cut (x ∷ xs) (n ∷ ns) zero le = absurd (omega arith)
  flags_cut (x ∷ xs) (n ∷ ns) (suc i) le = flags_cut xs ns i (omega arith)

  -- no line of a flag is left
  pub flags_end : (xs : List X) (flags : List Bool) (i : ℕ) (text total : List ℕ) → min (length xs) (length flags) ≤ i
      → text ++ flag_lines name (map f (drop i xs)) (drop i flags) ≡ total → text ≡ total
  flags_end xs flags i text total le e = sym (append-nil text)
      ∙ ap (λ (us : List ℕ). text ++ us) (sym (flags_cut xs flags i le)) ∙ e

groups_cut : (k : ℕ) (gs : List Group) (flags : List Bool) (rows : List (Option (List ℤ))) (i : ℕ)
    → min (min (length gs) (length flags)) (length rows) ≤ i
    → group_lines k (drop i gs) (drop i flags) (drop i rows) ≡ []
groups_cut k [] flags rows zero le = refl
groups_cut k [] flags rows (suc i) le = refl
groups_cut k (g ∷ gs) [] rows zero le = refl
groups_cut k (g ∷ gs) [] rows (suc i) le = no_group_flags k (drop i gs) (drop (suc i) rows)
groups_cut k (g ∷ gs) (f ∷ flags) [] zero le = refl
groups_cut k (g ∷ gs) (f ∷ flags) [] (suc i) le = no_rows k (drop i gs) (drop i flags)
groups_cut k (g ∷ gs) (f ∷ flags) (r ∷ rows) zero le = absurd (omega arith)
groups_cut k (g ∷ gs) (f ∷ flags) (r ∷ rows) (suc i) le = groups_cut k gs flags rows i (omega arith)

-- no line of a group is left
pub groups_end : (gs : List Group) (flags : List Bool) (rows : List (Option (List ℤ))) (i : ℕ) (text total : List ℕ)
    → min (min (length gs) (length flags)) (length rows) ≤ i
    → text ++ group_lines i (drop i gs) (drop i flags) (drop i rows) ≡ total → text ≡ total
groups_end gs flags rows i text total le e =
    sym (append-nil text) ∙ ap (λ (us : List ℕ). text ++ us) (sym (groups_cut i gs flags rows i le)) ∙ e

records_cut : (p : Plan) (threads : List Thread) (records : List Taken) (i : ℕ)
    → min (length threads) (length records) ≤ i
    → all_taken_lines p (drop i threads) (drop i records) ≡ []
records_cut p [] records zero le = refl
records_cut p [] records (suc i) le = refl
records_cut p (t ∷ threads) [] zero le = refl
records_cut p (t ∷ threads) [] (suc i) le = no_records p (drop i threads)
records_cut p (t ∷ threads) (r ∷ records) zero le = absurd (omega arith)
records_cut p (t ∷ threads) (r ∷ records) (suc i) le = records_cut p threads records i (omega arith)

-- no record is left
pub records_end : (p : Plan) (threads : List Thread) (records : List Taken) (i : ℕ) (text total : List ℕ)
    → min (length threads) (length records) ≤ i
    → text ++ all_taken_lines p (drop i threads) (drop i records) ≡ total → text ≡ total
records_end p threads records i text total le e =
    sym (append-nil text) ∙ ap (λ (us : List ℕ). text ++ us) (sym (records_cut p threads records i le)) ∙ e
