-- Files that are read one after another.
use Rattle.std.proofs.Common.{◌≡◌, ℕ, List, [], ◌∷◌, ◌++◌, Some, None, refl, sym, ◌∙◌, ap, subst, false, inl, inr, map, Contains, arith}
use Rattle.std.proofs.lemmas.List.Elements.{Contains-append_cases, Contains-append_right, Contains-push_cases}
use Rattle.std.proofs.lemmas.List.{map-append}
use Rattle.std.specs.FinMap.{get}
use Rattle.std.specs.Prelude.{Option}
use Rattle.trick_base.specs.Files.{Files, Write, all_written, written}
use Rattle.trick_outside.specs.Calls.{AllLeave, Call, Read, fails}
use Rattle.trick_exec_tic.specs.Steps.{steps_of}
use Rattle.trick_top_alone.specs.Found.{Found, names, reads, texts}

pub names-append : (early late : List Found) → names (early ++ late) ≡ names early ++ names late
names-append [] late = refl
names-append (file ∷ early) late = ap (λ n. file.name ∷ n) (names-append early late)

pub texts-append : (early late : List Found) → texts (early ++ late) ≡ texts early ++ texts late
texts-append [] late = refl
texts-append (file ∷ early) late = ap (λ t. file.text ∷ t) (texts-append early late)

pub reads-append : (early late : List Found) → reads (early ++ late) ≡ reads early ++ reads late
reads-append [] late = refl
reads-append (file ∷ early) late = ap (λ c. Read file.name (Some file.text) ∷ c) (reads-append early late)

-- no call of these failed
pub reads_quiet : (files : List Found) → fails (reads files) ≡ false
reads_quiet [] = refl
reads_quiet (file ∷ files) = reads_quiet files

-- the texts are those that are held, and nothing that is held has changed
pub leave_reads : (files : List Found) (calls : List Call) (held now : Files) → AllLeave (reads files ++ calls) held now
    → (map (get held) (names files) ≡ map Some (texts files)) × AllLeave calls held now
leave_reads [] calls held now left = (refl, left)
leave_reads (file ∷ files) calls held now (mid, (is, same), left) =
    let later = leave_reads files calls held now (subst (λ f. AllLeave (reads files ++ calls) f now) same left) in
    (ap (λ t. t ∷ map (get held) (names files)) is ∙ ap (λ t. Some file.text ∷ t) later.0, later.1)

-- what is held after writes that are all done
pub leave_steps : (writes : List Write) (calls : List Call) (held now : Files) → AllLeave (steps_of writes ++ calls) held now → AllLeave calls (all_written writes held) now
leave_steps [] calls held now left = left
leave_steps (write ∷ writes) calls held now (mid, is, left) = leave_steps writes calls (written write held) now (subst (λ f. AllLeave (steps_of writes ++ calls) f now) is left)

-- a list of texts that are all there lacks none
pub lacks_none : (given : List (List ℕ)) → Contains (map Some given) None → ⊥
lacks_none [] (k, less, at) = absurd (omega (arith, less))
lacks_none (text ∷ given) is = elim (Contains-append_cases (Some text ∷ []) (map Some given) None is) [
  | inl one ↦ elim (Contains-push_cases [] (Some text) None one) [
    | inl (k, less, at) ↦ absurd (omega (arith, less))
    | inr same ↦ cc
  ]
  | inr later ↦ lacks_none given later
]

-- one that is in the midst of a list is of it
pub in_the_midst : (f : List ℕ → Option (List ℕ)) (front : List (List ℕ)) (name : List ℕ) (others : List (List ℕ)) → f name ≡ None → Contains (map f (front ++ name ∷ others)) None
in_the_midst f front name others none =
    subst (λ all. Contains all None) (sym (map-append f front (name ∷ others)))
    (Contains-append_right (map f front) (f name ∷ map f others) None
    (subst (λ o. Contains (o ∷ map f others) None) (sym none) (0, omega arith, refl)))

pub same_texts : (one two : List (List ℕ)) → map Some one ≡ map Some two → one ≡ two
same_texts [] [] is = refl
same_texts [] (text ∷ two) is = cc
same_texts (text ∷ one) [] is = cc
same_texts (text ∷ one) (other ∷ two) is =
    let first : text ≡ other = cc in
    let later : map Some one ≡ map Some two = cc in
    ap (λ t. t ∷ one) first ∙ ap (λ t. other ∷ t) (same_texts one two later)
