-- What calls that write make of one file.
use Rattle.std.proofs.Common.{◌≡◌, ℕ, List, [], ◌∷◌, ◌++◌, refl, sym, ◌∙◌, ap, Bool, true, false, cond, Some, inl, inr, unwrap_or, append_assoc, append-nil, subst}
use Rattle.std.specs.Cmp.Lexicographic.{nat_list_cmp_total}
use Rattle.std.specs.FinMap.{get, insert, get-insert}
use Rattle.std.specs.Prelude.{Option}
use Rattle.trick_base.proofs.FileLemmas.{names_equal}
use Rattle.trick_base.specs.Content.{content, same_name, IsKept, IsTidy, IsPartly}
use Rattle.trick_base.specs.Files.{Files, Write, Create, Append, all_written, bytes_at}
use Rattle.trick_base.specs.Fronts.{IsFrontOf}

-- an append adds to the bytes under its own name, which is this name where the test of names says so
appended : (name other bytes : List ℕ) (files : Files) (t : Bool) → (t ≡ true → name ≡ other)
    → cond t (Some (bytes_at files other ++ bytes)) (get files name) ≡ cond t (Some (unwrap_or (get files name) [] ++ bytes)) (get files name)
appended name other bytes files true is = ap (λ n. Some (bytes_at files n ++ bytes)) (sym (is refl))
appended name other bytes files false is = refl

-- one file after calls that are done
pub get-all_written : (name : List ℕ) (writes : List Write) (files : Files) → get (all_written writes files) name ≡ content name writes (get files name)
get-all_written name [] files = refl
get-all_written name (Create other ∷ writes) files =
    get-all_written name writes (insert files other [])
    ∙ ap (content name writes) (get-insert nat_list_cmp_total files other [] name)
get-all_written name (Append other bytes ∷ writes) files =
    get-all_written name writes (insert files other (bytes_at files other ++ bytes))
    ∙ ap (content name writes)
    (get-insert nat_list_cmp_total files other (bytes_at files other ++ bytes) name
    ∙ appended name other bytes files (same_name name other) (names_equal name other))

pub content-append : (name : List ℕ) (early late : List Write) (before : Option (List ℕ)) → content name (early ++ late) before ≡ content name late (content name early before)
content-append name [] late before = refl
content-append name (Create other ∷ early) late before = content-append name early late (cond (same_name name other) (Some []) before)
content-append name (Append other bytes ∷ early) late before =
    content-append name early late (cond (same_name name other) (Some (unwrap_or before [] ++ bytes)) before)

-- a file that is there: what a part of the calls added to it, and what the rest of them adds
pub record Grown (name : List ℕ) (part whole : List Write) (held : List ℕ) : Type 0 where
  pub added : List ℕ
  pub rest : List ℕ
  pub now : content name part (Some held) ≡ Some (held ++ added)
  pub all : content name whole (Some held) ≡ Some (held ++ (added ++ rest))

-- a call of another name
skipped : {A : Type 0} (t : Bool) (a b : A) → t ≡ false → cond t a b ≡ b
skipped t a b e = ap (λ c. cond c a b) e

-- one append adds its bytes, or nothing where it has another name
one_step : (t : Bool) (held bytes : List ℕ) → (added : List ℕ) × (cond t (Some (held ++ bytes)) (Some held) ≡ Some (held ++ added))
one_step true held bytes = (bytes, refl)
one_step false held bytes = ([], ap Some (sym (append-nil held)))

-- all of the calls add to a file that they do not make anew
grown_all : (name : List ℕ) (whole : List Write) (held : List ℕ) → IsKept name whole → (added : List ℕ) × (content name whole (Some held) ≡ Some (held ++ added))
grown_all name [] held kept = ([], ap Some (sym (append-nil held)))
grown_all name (Create other ∷ whole) held kept =
    let later = grown_all name whole held kept.1 in
    (later.0, ap (content name whole) (skipped (same_name name other) (Some []) (Some held) kept.0) ∙ later.1)
grown_all name (Append other bytes ∷ whole) held kept =
    let step = one_step (same_name name other) held bytes in
    let later = grown_all name whole (held ++ step.0) kept in
    (step.0 ++ later.0, ap (content name whole) step.1 ∙ later.1 ∙ ap Some (append_assoc held step.0 later.0))

-- a cut append adds a prefix of what the whole one adds
cut_step : (t : Bool) (held bytes part rest : List ℕ) → bytes ≡ part ++ rest
    → (added : List ℕ) × (more : List ℕ) × (cond t (Some (held ++ part)) (Some held) ≡ Some (held ++ added))
    × (cond t (Some (held ++ bytes)) (Some held) ≡ Some (held ++ (added ++ more)))
cut_step true held bytes part rest is = (part, rest, refl, ap (λ y. Some (held ++ y)) is)
cut_step false held bytes part rest is = ([], [], ap Some (sym (append-nil held)), ap Some (sym (append-nil held)))

pub grown : (name : List ℕ) (part whole : List Write) (held : List ℕ) → IsKept name whole → IsFrontOf part whole → Grown name part whole held
grown name [] whole held kept is =
    let later = grown_all name whole held kept in
    record { added = []; rest = later.0; now = ap Some (sym (append-nil held)); all = later.1 }
grown name (write ∷ part) [] held kept is = absurd is
grown name (write ∷ part) (Create other ∷ whole) held kept (inl is) =
    let later = grown name part whole held kept.1 is.1 in
    let same = skipped (same_name name other) (Some []) (Some held) kept.0 in
    record {
      added = later.added;
      rest = later.rest;
      now = ap (λ w. content name (w ∷ part) (Some held)) is.0 ∙ ap (content name part) same ∙ later.now;
      all = ap (content name whole) same ∙ later.all;
    }
grown name (write ∷ part) (Append other bytes ∷ whole) held kept (inl is) =
    let step = one_step (same_name name other) held bytes in
    let later = grown name part whole (held ++ step.0) kept is.1 in
    record {
      added = step.0 ++ later.added;
      rest = later.rest;
      now = ap (λ w. content name (w ∷ part) (Some held)) is.0 ∙ ap (content name part) step.1 ∙ later.now
          ∙ ap Some (append_assoc held step.0 later.added);
      all = ap (content name whole) step.1 ∙ later.all ∙ ap Some (append_assoc held step.0 (later.added ++ later.rest))
          ∙ ap (λ y. Some (held ++ y)) (sym (append_assoc step.0 later.added later.rest));
    }
grown name (Create mine ∷ part) (Create other ∷ whole) held kept (inr is) = absurd is.0
grown name (Append mine cut ∷ part) (Create other ∷ whole) held kept (inr is) = absurd is.0
grown name (Create mine ∷ part) (Append other bytes ∷ whole) held kept (inr is) = absurd is.0
grown name (Append mine cut ∷ part) (Append other bytes ∷ whole) held kept (inr is) =
    let step = cut_step (same_name name other) held bytes cut is.0.1.0 is.0.1.1 in
    let later = grown_all name whole (held ++ (step.0 ++ step.1)) kept in
    record {
      added = step.0;
      rest = step.1 ++ later.0;
      now = ap (λ p. content name (Append mine cut ∷ p) (Some held)) is.1
          ∙ ap (λ n. cond (same_name name n) (Some (held ++ cut)) (Some held)) is.0.0 ∙ step.2;
      all = ap (content name whole) step.3 ∙ later.1 ∙ ap Some (append_assoc held (step.0 ++ step.1) later.0)
          ∙ ap (λ y. Some (held ++ y)) (append_assoc step.0 step.1 later.0);
    }

-- the file was made, and grew from empty
made_partly : (name : List ℕ) (part whole : List Write) (before : Option (List ℕ)) → Grown name part whole []
    → IsPartly before (content name part (Some [])) (content name whole (Some []))
made_partly name part whole before made = inr (made.added, made.added ++ made.rest, made.now, made.all, (made.rest, refl))

-- a file that is made at most once, after a part of the calls: as it was, or a prefix of what all of
-- them make
pub partly : (name : List ℕ) (part whole : List Write) (before : Option (List ℕ)) → IsTidy name whole → IsFrontOf part whole
    → IsPartly before (content name part before) (content name whole before)
partly name [] whole before tidy is = inl refl
partly name (write ∷ part) [] before tidy is = absurd is
partly name (write ∷ part) (Create other ∷ whole) before tidy (inl is) =
    let P : Write → Type 0 = λ w. IsPartly before (content name (w ∷ part) before) (content name (Create other ∷ whole) before) in
    let Q : Bool → Type 0 = λ t. same_name name other ≡ t → IsPartly before (content name part (cond t (Some []) before)) (content name whole (cond t (Some []) before)) in
    let both : Q (same_name name other) = elim (same_name name other) as Q [
      | true ↦ λ e. made_partly name part whole before (grown name part whole [] (tidy.0 e) is.1)
      | false ↦ λ e. partly name part whole before (tidy.1 e) is.1
    ] in
    subst P (sym is.0) (both refl)
partly name (write ∷ part) (Append other bytes ∷ whole) before tidy (inl is) =
    let after : Bool → Option (List ℕ) = λ t. cond t (Some (unwrap_or before [] ++ bytes)) before in
    let P : Write → Type 0 = λ w. IsPartly before (content name (w ∷ part) before) (content name (Append other bytes ∷ whole) before) in
    let Q : Bool → Type 0 = λ t. IsPartly before (content name part (after t)) (content name whole (after t)) in
    subst P (sym is.0) (subst Q (sym tidy.0) (partly name part whole before tidy.1 is.1))
partly name (Create mine ∷ part) (Create other ∷ whole) before tidy (inr is) = absurd is.0
partly name (Append mine cut ∷ part) (Create other ∷ whole) before tidy (inr is) = absurd is.0
partly name (Create mine ∷ part) (Append other bytes ∷ whole) before tidy (inr is) = absurd is.0
partly name (Append mine cut ∷ part) (Append other bytes ∷ whole) before tidy (inr is) =
    inl (ap (λ p. content name (Append mine cut ∷ p) before) is.1
    ∙ ap (λ n. cond (same_name name n) (Some (unwrap_or before [] ++ cut)) before) is.0.0
    ∙ skipped (same_name name other) _ before tidy.0)

-- the same, of the files
pub partly_written : (name : List ℕ) (part whole : List Write) (files : Files) → IsTidy name whole → IsFrontOf part whole
    → IsPartly (get files name) (get (all_written part files) name) (get (all_written whole files) name)
partly_written name part whole files tidy is =
    let P : Option (List ℕ) → Type 0 = λ now. IsPartly (get files name) now (get (all_written whole files) name) in
    let Q : Option (List ℕ) → Type 0 = λ all. IsPartly (get files name) (content name part (get files name)) all in
    subst P (sym (get-all_written name part files)) (subst Q (sym (get-all_written name whole files)) (partly name part whole (get files name) tidy is))
