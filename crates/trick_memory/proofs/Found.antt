-- Names and their places.
use Rattle.std.proofs.Common.{◌≡◌, ◌∙◌, ◌+◌, ◌<◌, ◌++◌, ◌∷◌, [], ℕ, zero, suc, List, Bool, true, false, cond, not, Option, Some, None, map, length, position, nat_eq, nat_lt, ◌||◌, if◌then◌else◌, IsTrue, refl, sym, ap, subst, arith, Vec, Global, slice_index_or, option_map, take, drop}
use Rattle.std.proofs.lemmas.Bool.{and_parts}
use Rattle.std.proofs.lemmas.List.{drop_more, take-append-drop}
use Rattle.std.proofs.lemmas.Slice.Eq.{bytes_eq-Decides}
use Rattle.std.specs.Cmp.Lexicographic.{pointwise}
use Rattle.std.specs.List.{list_all, list_any, position_or_len}
use Rattle.std.specs.Str.{bytes_eq}
use Rattle.indexmap.specs.IndexSet.{insert_key}
use Rattle.trick_lang.specs.Names.{are_apart, of_one_name}
use Rattle.trick_lang.specs.declared.cells.Cell.{Cell}
use Rattle.trick_lang.specs.declared.variable.Variable.{Variable}
use Rattle.trick_memory.specs.Stored.{cell_of}
use Rattle.trick_model.specs.NameAt.{cell_name}
use Rattle.trick_model.specs.Names.{find_name, one_more}
use Rattle.trick_model.specs.Valid.{cell_names}

-- the names that keys of a set hold
abbrev pub shown : List (Vec ℕ Global) → List (List ℕ)
shown = map (λ key. key.items)

-- ---- a name at the front, and one after it

pub find_here : (name other : List ℕ) (others : List (List ℕ)) → bytes_eq name other ≡ true → find_name name (other ∷ others) ≡ Some 0
find_here name other others h =
    let from : Bool → Option ℕ = λ b. elim b [ true ↦ Some 0 | false ↦ one_more (find_name name others) ] in
    ap from h

pub find_behind : (name other : List ℕ) (others : List (List ℕ)) → bytes_eq name other ≡ false
    → find_name name (other ∷ others) ≡ one_more (find_name name others)
find_behind name other others h =
    let from : Bool → Option ℕ = λ b. elim b [ true ↦ Some 0 | false ↦ one_more (find_name name others) ] in
    ap from h

none_more : (o : Option ℕ) → one_more o ≡ None → o ≡ None
none_more None h = refl
none_more (Some k) h = cc h

never : (o : Option ℕ) → one_more o ≡ Some 0 → ⊥
never None h = cc h
never (Some k) h = cc h

less : (o : Option ℕ) (k : ℕ) → one_more o ≡ Some (suc k) → o ≡ Some k
less None k h = cc h
less (Some n) k h = cc h

-- ---- keys

below : (n l : ℕ) (b : Bool) → nat_lt n l ≡ b → nat_lt (1 + n) (suc l) ≡ b
below n l b h = grind (arith, h)

-- the place of a key is that of its name
one_place_on : (n l : ℕ) → cond (nat_lt (1 + n) (suc l)) (Some (1 + n)) None ≡ one_more (cond (nat_lt n l) (Some n) None)
one_place_on n l = by (nat_lt n l) refl
  where
    by : (b : Bool) → nat_lt n l ≡ b → cond (nat_lt (1 + n) (suc l)) (Some (1 + n)) None ≡ one_more (cond (nat_lt n l) (Some n) None)
    by true h = rw (below n l true h, h) (ap (λ (k : ℕ). Some k) (omega arith))
    by false h = rw (below n l false h, h) refl

pub position_is : (name : List ℕ) (keys : List (Vec ℕ Global))
    → position (λ (key : Vec ℕ Global). pointwise nat_eq name key.items) keys ≡ find_name name (shown keys)
position_is name [] = refl
position_is name (key ∷ keys) = by (bytes_eq name key.items) refl (position_is name keys)
  where
    by : (b : Bool) → bytes_eq name key.items ≡ b
        → position (λ (k : Vec ℕ Global). pointwise nat_eq name k.items) keys ≡ find_name name (shown keys)
        → position (λ (k : Vec ℕ Global). pointwise nat_eq name k.items) (key ∷ keys) ≡ find_name name (shown (key ∷ keys))
    by true h rest =
        let n = position_or_len (λ (k : Vec ℕ Global). pointwise nat_eq name k.items) keys in
        let at : Bool → Option ℕ = λ t. cond (nat_lt (cond (not t) (1 + n) 0) (suc (length keys))) (Some (cond (not t) (1 + n) 0)) None in
        let first : nat_lt 0 (suc (length keys)) ≡ true = grind arith in
        let front : at true ≡ Some 0 = ap (λ (t : Bool). let none : Option ℕ = None in cond t (Some 0) none) first in
        ap at h ∙ (front ∙ sym (find_here name key.items (shown keys) h))
    by false h rest =
        let n = position_or_len (λ (k : Vec ℕ Global). pointwise nat_eq name k.items) keys in
        let at : Bool → Option ℕ = λ t. cond (nat_lt (cond (not t) (1 + n) 0) (suc (length keys))) (Some (cond (not t) (1 + n) 0)) None in
        ap at h ∙ (one_place_on n (length keys) ∙ (ap one_more rest ∙ sym (find_behind name key.items (shown keys) h)))

-- a name that is not there is no key
absent : (key : Vec ℕ Global) (keys : List (Vec ℕ Global)) → find_name key.items (shown keys) ≡ None
    → list_any (λ (other : Vec ℕ Global). pointwise nat_eq key.items other.items) keys ≡ false
absent key [] h = refl
absent key (other ∷ others) h = by (bytes_eq key.items other.items) refl (absent key others)
  where
    by : (b : Bool) → bytes_eq key.items other.items ≡ b
        → (find_name key.items (shown others) ≡ None → list_any (λ (k : Vec ℕ Global). pointwise nat_eq key.items k.items) others ≡ false)
        → list_any (λ (k : Vec ℕ Global). pointwise nat_eq key.items k.items) (other ∷ others) ≡ false
    by true s rest = let no = sym (find_here key.items other.items (shown others) s) ∙ h in cc no
    by false s rest =
        ap (λ (b : Bool). b || list_any (λ (k : Vec ℕ Global). pointwise nat_eq key.items k.items) others) s
        ∙ rest (none_more (find_name key.items (shown others)) (sym (find_behind key.items other.items (shown others) s) ∙ h))

shown_append : (keys : List (Vec ℕ Global)) (key : Vec ℕ Global) → shown (keys ++ key ∷ []) ≡ shown keys ++ key.items ∷ []
shown_append [] key = refl
shown_append (other ∷ others) key = ap (λ (names : List (List ℕ)). other.items ∷ names) (shown_append others key)

-- a name that is not there goes last
pub goes_last : (keys : List (Vec ℕ Global)) (key : Vec ℕ Global) → find_name key.items (shown keys) ≡ None
    → shown (insert_key (λ (a b : Vec ℕ Global). pointwise nat_eq a.items b.items) keys key) ≡ shown keys ++ key.items ∷ []
goes_last keys key h =
    ap (λ (b : Bool). shown (if b then keys else keys ++ key ∷ [])) (absent key keys h) ∙ shown_append keys key

-- ---- names among names

-- a name that is found stands at its place
pub found_there : (name : List ℕ) (names : List (List ℕ)) (k : ℕ) → find_name name names ≡ Some k → k < length names
found_there name [] k h = cc h
found_there name (other ∷ others) zero h = omega arith
found_there name (other ∷ others) (suc k) h = by (bytes_eq name other) refl (found_there name others k)
  where
    by : (b : Bool) → bytes_eq name other ≡ b → (find_name name others ≡ Some k → k < length others) → suc k < length (other ∷ others)
    by true s rest = let no = sym (find_here name other others s) ∙ h in cc no
    by false s rest = let there = rest (less (find_name name others) k (sym (find_behind name other others s) ∙ h)) in omega (arith, there)

pub found_is : (name : List ℕ) (names : List (List ℕ)) (k : ℕ) → find_name name names ≡ Some k → slice_index_or names k [] ≡ name
found_is name [] k h = cc h
found_is name (other ∷ others) zero h = by (bytes_eq name other) refl
  where
    by : (b : Bool) → bytes_eq name other ≡ b → other ≡ name
    by true s = sym ((bytes_eq-Decides name other).0 s)
    by false s = absurd (never (find_name name others) (sym (find_behind name other others s) ∙ h))
found_is name (other ∷ others) (suc k) h = by (bytes_eq name other) refl (found_is name others k)
  where
    by : (b : Bool) → bytes_eq name other ≡ b → (find_name name others ≡ Some k → slice_index_or others k [] ≡ name) → slice_index_or others k [] ≡ name
    by true s rest = let no = sym (find_here name other others s) ∙ h in cc no
    by false s rest = rest (less (find_name name others) k (sym (find_behind name other others s) ∙ h))

-- ---- cells of different names

differs : (a b : List ℕ) → not (bytes_eq a b) ≡ true → bytes_eq b a ≡ false
differs a b h = by (bytes_eq b a) refl
  where
    by : (t : Bool) → bytes_eq b a ≡ t → bytes_eq b a ≡ false
    by false s = s
    by true s = let same = (bytes_eq-Decides a b).1 (sym ((bytes_eq-Decides b a).0 s)) in cc (rw same at h)

-- the name of a cell after others is none of theirs
other_name : (first v : Variable) (between behind : List Variable) → list_all (λ o. not (of_one_name first o)) (between ++ v ∷ behind) ≡ true
    → not (bytes_eq first.name v.name) ≡ true
other_name first v [] behind h = (and_parts (not (of_one_name first v)) (list_all (λ o. not (of_one_name first o)) behind) h).0
other_name first v (x ∷ between) behind h =
    other_name first v between behind (and_parts (not (of_one_name first x)) (list_all (λ o. not (of_one_name first o)) (between ++ v ∷ behind)) h).1

pub new_name : (before : List Variable) (v : Variable) (behind : List Variable)
    → IsTrue (are_apart of_one_name (before ++ v ∷ behind)) → find_name v.name (cell_names before) ≡ None
new_name [] v behind h = refl
new_name (first ∷ before) v behind h =
    let parts = and_parts (list_all (λ other. not (of_one_name first other)) (before ++ v ∷ behind)) (are_apart of_one_name (before ++ v ∷ behind)) h in
    find_behind v.name first.name (cell_names before) (differs first.name v.name (other_name first v before behind parts.0))
    ∙ ap one_more (new_name before v behind parts.1)

other_at : (v : Variable) (xs : List Variable) (j : ℕ) → list_all (λ o. not (of_one_name v o)) xs ≡ true → j < length xs
    → not (bytes_eq v.name (slice_index_or (cell_names xs) j [])) ≡ true
other_at v [] j h fits = absurd (omega (arith, fits))
other_at v (x ∷ xs) zero h fits = (and_parts (not (of_one_name v x)) (list_all (λ o. not (of_one_name v o)) xs) h).0
other_at v (x ∷ xs) (suc j) h fits =
    other_at v xs j (and_parts (not (of_one_name v x)) (list_all (λ o. not (of_one_name v o)) xs) h).1 (omega (arith, fits))

-- the cell of the name of a cell is the cell
pub name_finds : (cells : List Variable) (k : ℕ) → IsTrue (are_apart of_one_name cells) → k < length cells
    → find_name (slice_index_or (cell_names cells) k []) (cell_names cells) ≡ Some k
name_finds [] k apart there = absurd (omega (arith, there))
name_finds (v ∷ vs) zero apart there = find_here v.name v.name (cell_names vs) ((bytes_eq-Decides v.name v.name).1 refl)
name_finds (v ∷ vs) (suc k) apart there =
    let parts = and_parts (list_all (λ other. not (of_one_name v other)) vs) (are_apart of_one_name vs) apart in
    let fits : k < length vs = omega (arith, there) in
    find_behind (slice_index_or (cell_names vs) k []) v.name (cell_names vs) (differs v.name (slice_index_or (cell_names vs) k []) (other_at v vs k parts.0 fits))
    ∙ ap one_more (name_finds vs k parts.1 fits)

-- ---- cells

pub of_found : (o : Option ℕ) (cell : Cell) → option_map (λ k. let c : Cell = record { 0 = k } in c) o ≡ Some cell → o ≡ Some cell.0
of_found None cell h = cc h
of_found (Some n) cell h =
    let number : Option Cell → ℕ = λ (o : Option Cell). elim o [ None ↦ 0 | Some c ↦ c.0 ] in
    ap (λ (k : ℕ). Some k) (ap number h)

pub cells_found : (cells : List Variable) (cell : Cell) → IsTrue (are_apart of_one_name cells) → cell.0 < length cells
    → cell_of (cell_name cells cell.0) (cell_names cells) ≡ Some cell
cells_found cells cell apart there =
    ap (λ (o : Option ℕ). option_map (λ k. let c : Cell = record { 0 = k } in c) o) (name_finds cells cell.0 apart there)

pub names_found : (cells : List Variable) (name : List ℕ) (cell : Cell) → cell_of name (cell_names cells) ≡ Some cell → cell_name cells cell.0 ≡ name
names_found cells name cell h = found_is name (cell_names cells) cell.0 (of_found (find_name name (cell_names cells)) cell h)

-- the name of a cell is none of those before it
pub new_at : (cells : List Variable) (i : ℕ) (v : Variable) → i < length cells → slice_index_or cells i v ≡ v
    → IsTrue (are_apart of_one_name cells) → find_name v.name (cell_names (take i cells)) ≡ None
new_at cells i v there is apart =
    let whole : cells ≡ take i cells ++ v ∷ drop (i + 1) cells =
    sym (take-append-drop i cells) ∙ ap (λ (rest : List Variable). take i cells ++ rest) (drop_more cells i v there ∙ ap (λ (x : Variable). x ∷ drop (i + 1) cells) is) in
    new_name (take i cells) v (drop (i + 1) cells) (subst (λ (vs : List Variable). IsTrue (are_apart of_one_name vs)) whole apart)
