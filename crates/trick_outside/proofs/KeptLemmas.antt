-- The files of a shelf in memory: a file's place, and what a change there means.
use Rattle.std.proofs.Common.{◌≡◌, ◌≢◌, ◌<◌, ℕ, zero, suc, List, [], ◌∷◌, ◌++◌, refl, sym, ◌∙◌, ap, subst, Some, None, IfSome, IsSomeAnd, slice_get, slice_index_or, set, arith, unwrap_or, Bool, true, false, cond, inl, inr, map, Contains, IsSome}
use Rattle.std.proofs.lemmas.List.Elements.{Contains-append_left, Contains-append_right, Contains-append_cases, Contains-push, Contains-push_cases}
use Rattle.std.proofs.lemmas.Option.{get_or_from_slice_get}
use Rattle.std.specs.Cmp.Lexicographic.{slice_cmp, nat_list_cmp_total}
use Rattle.std.specs.FinMap.{get, insert, get-empty, get-insert}
use Rattle.std.specs.Ordering.{nat_cmp}
use Rattle.std.specs.Prelude.{Option, is_some, ◌↔◌}
use Rattle.trick_base.proofs.FileLemmas.{names_equal, insert-held, insert-insert, insert-commutes, get-insert_same, get-insert_other}
use Rattle.trick_base.specs.Content.{same_name}
use Rattle.trick_base.specs.Files.{bytes_at}
use Rattle.trick_outside.specs.Kept.{kept}
use Rattle.trick_outside.specs.declared.memory_shelf.File.{File}

-- no file below this place has the name
abbrev pub NoneBelow : List File → List ℕ → ℕ → Type 0
NoneBelow files name n = (k : ℕ) → k < n → IfSome (slice_get files k) (λ file. file.name ≢ name)

-- no file has the name
abbrev pub NoneAt : List File → List ℕ → Type 0
NoneAt files name = (k : ℕ) → IfSome (slice_get files k) (λ file. file.name ≢ name)

-- nor below it in the rest of the list
later_below : (file : File) (files : List File) (name : List ℕ) (n : ℕ) → NoneBelow (file ∷ files) name (suc n) → NoneBelow files name n
later_below file files name n below k less = below (suc k) (omega arith)

-- the first file of a name is another of that name
pub kept-set : (files : List File) (i : ℕ) (file new : File) → slice_get files i ≡ Some file → new.name ≡ file.name
    → NoneBelow files file.name i → kept (set files i new) ≡ insert (kept files) file.name new.bytes.items
kept-set [] i file new at same below = cc
kept-set (first ∷ files) zero file new at same below =
    let is : first ≡ file = cc in
    ap (λ n. insert (kept files) n new.bytes.items) same
    ∙ sym (insert-insert (kept files) file.name first.bytes.items new.bytes.items)
    ∙ ap (λ n. insert (insert (kept files) n first.bytes.items) file.name new.bytes.items) (sym (ap (λ f. f.name) is))
kept-set (first ∷ files) (suc i) file new at same below =
    ap (λ m. insert m first.name first.bytes.items) (kept-set files i file new at same (later_below first files file.name i below))
    ∙ sym (insert-commutes (kept files) first.name first.bytes.items file.name new.bytes.items (below 0 (omega arith)))

-- a file of a new name at the end
pub kept-push : (files : List File) (new : File) → NoneAt files new.name → kept (files ++ new ∷ []) ≡ insert (kept files) new.name new.bytes.items
kept-push [] new none = refl
kept-push (first ∷ files) new none =
    ap (λ m. insert m first.name first.bytes.items) (kept-push files new (λ k. none (suc k)))
    ∙ sym (insert-commutes (kept files) first.name first.bytes.items new.name new.bytes.items (none 0))

-- the first file of a name counts
pub get-kept : (files : List File) (i : ℕ) (file : File) → slice_get files i ≡ Some file → NoneBelow files file.name i → get (kept files) file.name ≡ Some file.bytes.items
get-kept [] i file at below = cc
get-kept (first ∷ files) zero file at below =
    let is : first ≡ file = cc in
    ap (λ n. get (insert (kept files) first.name first.bytes.items) n) (sym (ap (λ f. f.name) is))
    ∙ get-insert_same (kept files) first.name first.bytes.items
    ∙ ap (λ f. Some f.bytes.items) is
get-kept (first ∷ files) (suc i) file at below =
    get-insert_other (kept files) first.name first.bytes.items file.name (λ e. below 0 (omega arith) (sym e))
    ∙ get-kept files i file at (later_below first files file.name i below)

-- a name of no file
pub get-kept_none : (files : List File) (name : List ℕ) → NoneAt files name → get (kept files) name ≡ None
get-kept_none [] name none = get-empty (slice_cmp nat_cmp) name
get-kept_none (first ∷ files) name none =
    get-insert_other (kept files) first.name first.bytes.items name (λ e. none 0 (sym e))
    ∙ get-kept_none files name (λ k. none (suc k))

-- a file was pushed whose name is new
pub kept-pushed : (old new : List File) (file : File) (name bytes : List ℕ) → new ≡ old ++ file ∷ [] → file.name ≡ name → file.bytes.items ≡ bytes
    → NoneAt old name → kept new ≡ insert (kept old) name bytes
kept-pushed old new file name bytes is named holds none =
    let e : NoneAt old file.name = λ k. subst (λ n. IfSome (slice_get old k) (λ f. f.name ≢ n)) (sym named) (none k) in
    ap kept is ∙ kept-push old file e ∙ ap (λ n. insert (kept old) n file.bytes.items) named ∙ ap (insert (kept old) name) holds

-- the file at a place has other bytes
pub kept-changed : (files : List File) (i : ℕ) (new : File) (name bytes : List ℕ) → IsSomeAnd (slice_get files i) (λ file. file.name ≡ name) → new.name ≡ name
    → new.bytes.items ≡ bytes → NoneBelow files name i → kept (set files i new) ≡ insert (kept files) name bytes
kept-changed files i new name bytes at named holds below =
    elim (slice_get files i) as (λ o. slice_get files i ≡ o → IsSomeAnd o (λ file. file.name ≡ name) → kept (set files i new) ≡ insert (kept files) name bytes) [
      | None ↦ λ e h. absurd h
      | Some file ↦ λ e h.
          let b : NoneBelow files file.name i = λ k less. subst (λ n. IfSome (slice_get files k) (λ f. f.name ≢ n)) (sym h) (below k less) in
          kept-set files i file new e (named ∙ sym h) b
          ∙ ap (λ n. insert (kept files) n new.bytes.items) h ∙ ap (insert (kept files) name) holds
    ] refl at

-- what a place has
pub get-kept_at : (files : List File) (i : ℕ) (name : List ℕ) (d : File) → IsSomeAnd (slice_get files i) (λ file. file.name ≡ name) → NoneBelow files name i
    → get (kept files) name ≡ Some (slice_index_or files i d).bytes.items
get-kept_at files i name d at below =
    elim (slice_get files i) as (λ o. slice_get files i ≡ o → IsSomeAnd o (λ file. file.name ≡ name) → get (kept files) name ≡ Some (slice_index_or files i d).bytes.items) [
      | None ↦ λ e h. absurd h
      | Some file ↦ λ e h.
          let b : NoneBelow files file.name i = λ k less. subst (λ n. IfSome (slice_get files k) (λ f. f.name ≢ n)) (sym h) (below k less) in
          ap (get (kept files)) (sym h) ∙ get-kept files i file e b ∙ (let g : File → Option (List ℕ) = λ f. Some f.bytes.items in ap g (sym (get_or_from_slice_get files i file d e)))
    ] refl at

-- the file at a place has the bytes that it had
pub kept_unchanged : (files : List File) (i : ℕ) (new d : File) (name : List ℕ) → IsSomeAnd (slice_get files i) (λ file. file.name ≡ name) → new.name ≡ name
    → new.bytes.items ≡ (slice_index_or files i d).bytes.items → NoneBelow files name i → kept (set files i new) ≡ kept files
kept_unchanged files i new d name at named holds below =
    kept-changed files i new name (slice_index_or files i d).bytes.items at named holds below
    ∙ insert-held (kept files) name (slice_index_or files i d).bytes.items (get-kept_at files i name d at below)

-- the file that was read at a place is the one that is there
pub named_at : (files : List File) (i : ℕ) (file : File) (name : List ℕ) → IsSomeAnd (slice_get files i) (λ f. f.name ≡ name) → file ≡ slice_index_or files i file → file.name ≡ name
named_at files i file name at is =
    elim (slice_get files i) as (λ o. slice_get files i ≡ o → IsSomeAnd o (λ f. f.name ≡ name) → file.name ≡ name) [
      | None ↦ λ e h. absurd h
      | Some there ↦ λ e h. ap (λ (f : File). f.name) (is ∙ get_or_from_slice_get files i there file e) ∙ h
    ] refl at

-- the bytes under the name of the file at a place
pub bytes_there : (files : List File) (i : ℕ) (file : File) (name : List ℕ) → IsSomeAnd (slice_get files i) (λ f. f.name ≡ name) → file ≡ slice_index_or files i file
    → NoneBelow files name i → bytes_at (kept files) name ≡ file.bytes.items
bytes_there files i file name at is below =
    let g : Option (List ℕ) → List ℕ = λ o. unwrap_or o [] in
    let h : File → List ℕ = λ f. f.bytes.items in
    ap g (get-kept_at files i name file at below) ∙ sym (ap h is)

-- no bytes under a name of no file
pub bytes_missing : (files : List File) (name : List ℕ) → NoneAt files name → bytes_at (kept files) name ≡ []
bytes_missing files name none = let g : Option (List ℕ) → List ℕ = λ o. unwrap_or o [] in ap g (get-kept_none files name none)

-- the names of a list of files
abbrev pub names_of : List File → List (List ℕ)
names_of files = map (λ file. file.name) files

-- the entry that was put in, or the one that was there
some_either : (t : Bool) (bytes : List ℕ) (other : Option (List ℕ)) → IsSome other → IsSome (cond t (Some bytes) other)
some_either true bytes other is = refl
some_either false bytes other is = is

-- a name of the list has a file
name_held : (files : List File) (name : List ℕ) → Contains (names_of files) name → IsSome (get (kept files) name)
name_held [] name (k, less, at) = absurd (omega (arith, less))
name_held (first ∷ files) name is =
    let held = get-insert nat_list_cmp_total (kept files) first.name first.bytes.items name in
    elim (Contains-append_cases (first.name ∷ []) (names_of files) name is) [
      | inl one ↦ elim (Contains-push_cases [] first.name name one) [
        | inl (k, less, at) ↦ absurd (omega (arith, less))
        | inr same ↦ subst (λ n. IsSome (get (kept (first ∷ files)) n)) same (ap is_some (get-insert_same (kept files) first.name first.bytes.items))
      ]
      | inr later ↦ ap is_some held ∙ some_either (same_name name first.name) first.bytes.items _ (name_held files name later)
    ]

-- a file has a name of the list
held_name : (files : List File) (name : List ℕ) → IsSome (get (kept files) name) → Contains (names_of files) name
held_name [] name is = let none : is_some (get (kept []) name) ≡ false = ap is_some (get-empty (slice_cmp nat_cmp) name) in cc
held_name (first ∷ files) name is =
    elim (same_name name first.name) as (λ t. same_name name first.name ≡ t → IsSome (cond t (Some first.bytes.items) (get (kept files) name)) → Contains (names_of (first ∷ files)) name) [
      | true ↦ λ e some. subst (λ n. Contains (names_of (first ∷ files)) n) (sym (names_equal name first.name e))
          (Contains-append_left (first.name ∷ []) (names_of files) first.name (Contains-push [] first.name))
      | false ↦ λ e some. Contains-append_right (first.name ∷ []) (names_of files) name (held_name files name some)
    ] refl (sym (ap is_some (get-insert nat_list_cmp_total (kept files) first.name first.bytes.items name)) ∙ is)

-- the names of the list are those under which a file is held
pub names_listed : (files : List File) (names : List (List ℕ)) → names ≡ names_of files → (name : List ℕ) → Contains names name ↔ IsSome (get (kept files) name)
names_listed files names is name =
    subst (λ list. Contains list name ↔ IsSome (get (kept files) name)) (sym is) (name_held files name, held_name files name)
