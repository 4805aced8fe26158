-- The names of the cells of a declaration differ, and are new where its name is free.
use Rattle.std.proofs.Common.{◌≡◌, ◌∙◌, ◌*◌, ◌^◌, ◌<◌, ◌≤◌, ◌++◌, ◌∷◌, [], ℕ, zero, suc, List, Bool, true, false, not, ◌||◌, ◌==◌, codes, decimal, drop, refl, sym, ap, subst, arith, append_assoc, append-nil, if◌then◌else◌}
use Rattle.std.proofs.Math.Nat.{le-mul_of_pos_right, mul_comm}
use Rattle.std.proofs.lemmas.Bool.{and_from, or_parts}
use Rattle.std.proofs.lemmas.Fmt.{decimal_injective, decimal_is_IsNumeral}
use Rattle.std.proofs.lemmas.List.{append_cancel_left, map-append}
use Rattle.std.proofs.lemmas.Slice.Eq.{bytes_eq-Decides}
use Rattle.std.specs.Char.{digit_value}
use Rattle.std.specs.List.{list_all, list_any}
use Rattle.std.specs.Str.{bytes_eq}
use Rattle.std.specs.Str.Parse.{AllDigits}
use Rattle.trick_base.proofs.ListLemmas.{same_first}
use Rattle.trick_plan_variables.proofs.Apart.{all_and_last, all_of_both, apart_and_last}
use Rattle.trick_plan_variables.specs.Cells.{begins_with, cells_named, cells_of, count_of, element, elements, first_name, full_names, row_elements}
use Rattle.trick_plan_variables.specs.declared.declaration.Declaration.{Declaration}
use Rattle.trick_lang.specs.Names.{are_apart, of_one_name}
use Rattle.trick_lang.specs.declared.scalar.Scalar.{Scalar}
use Rattle.trick_lang.specs.declared.variable.Variable.{Variable}

-- ---- indexes

tail : (x y : ℕ) (xs ys : List ℕ) → x ∷ xs ≡ y ∷ ys → xs ≡ ys
tail x y xs ys h = ap (λ (ns : List ℕ). drop 1 ns) h

no_digit : (d : ℕ) → digit_value d < 10 → d ≡ 93 → ⊥
no_digit d digit is = let no : digit_value 93 < 10 = subst (λ (b : ℕ). digit_value b < 10) is digit in omega (arith, no)

-- the digits in front of a `]`
same_digits : (ds es s t : List ℕ) → AllDigits 10 ds → AllDigits 10 es → ds ++ 93 ∷ s ≡ es ++ 93 ∷ t → ds ≡ es
same_digits [] [] s t a b h = refl
same_digits [] (e ∷ es) s t a b h = absurd (no_digit e b.0 (sym (same_first 93 e s (es ++ 93 ∷ t) h)))
same_digits (d ∷ ds) [] s t a b h = absurd (no_digit d a.0 (same_first d 93 (ds ++ 93 ∷ s) t h))
same_digits (d ∷ ds) (e ∷ es) s t a b h =
    let first = same_first d e (ds ++ 93 ∷ s) (es ++ 93 ∷ t) h in
    let rest = same_digits ds es s t a.1 b.1 (tail d e (ds ++ 93 ∷ s) (es ++ 93 ∷ t) h) in
    ap (λ (x : ℕ). x ∷ ds) first ∙ ap (λ (xs : List ℕ). e ∷ xs) rest

opened : (name s : List ℕ) (i : ℕ) → element name i ++ s ≡ name ++ (91 ∷ (decimal i ++ 93 ∷ s))
opened name s i =
    append_assoc name (91 ∷ (decimal i ++ 93 ∷ [])) s
    ∙ ap (λ (rest : List ℕ). name ++ (91 ∷ rest)) (append_assoc (decimal i) (93 ∷ []) s)

-- what follows the same name has the same index
pub same_index : (name s t : List ℕ) (i j : ℕ) → i < 2 ^ 64 → j < 2 ^ 64 → element name i ++ s ≡ element name j ++ t → i ≡ j
same_index name s t i j small_i small_j h =
    let behind = append_cancel_left name (91 ∷ (decimal i ++ 93 ∷ s)) (91 ∷ (decimal j ++ 93 ∷ t)) (sym (opened name s i) ∙ (h ∙ opened name t j)) in
    decimal_injective i j small_i small_j
    (same_digits (decimal i) (decimal j) s t (decimal_is_IsNumeral i small_i).0.1 (decimal_is_IsNumeral j small_j).0.1
    (tail 91 91 (decimal i ++ 93 ∷ s) (decimal j ++ 93 ∷ t) behind))

pub same_element : (name : List ℕ) (i j : ℕ) → i < 2 ^ 64 → j < 2 ^ 64 → element name i ≡ element name j → i ≡ j
same_element name i j small_i small_j h =
    same_index name [] [] i j small_i small_j (append-nil (element name i) ∙ (h ∙ sym (append-nil (element name j))))

-- ---- names that differ, as a test

pub differ : (a b : List ℕ) → (a ≡ b → ⊥) → not (bytes_eq a b) ≡ true
differ a b apart = by (bytes_eq a b) refl
  where
    by : (t : Bool) → bytes_eq a b ≡ t → not (bytes_eq a b) ≡ true
    by true s = absurd (apart ((bytes_eq-Decides a b).0 s))
    by false s = ap not s

-- a cell of this name
abbrev pub cell : Scalar → List ℕ → Variable
cell scalar name = record { name = name; scalar = scalar }

-- no cell of these has the name
abbrev pub new_in : List ℕ → List Variable → Bool
new_in name cells = list_all (λ (c : Variable). not (bytes_eq c.name name)) cells

-- ---- one length

named_last : (scalar : Scalar) (names : List (List ℕ)) (name : List ℕ) → cells_named scalar (names ++ name ∷ []) ≡ cells_named scalar names ++ cell scalar name ∷ []
named_last scalar names name = map-append (λ (n : List ℕ). cell scalar n) names (name ∷ [])

-- an element is none of those with smaller indexes
new_element : (scalar : Scalar) (name : List ℕ) (n i : ℕ) → n ≤ i → i < 2 ^ 64 → new_in (element name i) (cells_named scalar (elements name n)) ≡ true
new_element scalar name zero i below small = refl
new_element scalar name (suc n) i below small =
    ap (new_in (element name i)) (named_last scalar (elements name n) (element name n))
    ∙ all_and_last (λ (c : Variable). not (bytes_eq c.name (element name i))) (cells_named scalar (elements name n)) (cell scalar (element name n))
    (new_element scalar name n i (omega arith) small)
    (differ (element name n) (element name i) (λ same. let e = same_element name n i (omega arith) small same in omega arith))

-- elements after cells of which none has the name of one
pub add_elements : (before : List Variable) (scalar : Scalar) (name : List ℕ) (n : ℕ) → n ≤ 65536
    → are_apart of_one_name before ≡ true → ((i : ℕ) → i < n → new_in (element name i) before ≡ true)
    → are_apart of_one_name (before ++ cells_named scalar (elements name n)) ≡ true
add_elements before scalar name zero few apart new = ap (are_apart of_one_name) (append-nil before) ∙ apart
add_elements before scalar name (suc n) few apart new =
    let front = cells_named scalar (elements name n) in
    let last = cell scalar (element name n) in
    let cells : before ++ cells_named scalar (elements name (suc n)) ≡ (before ++ front) ++ last ∷ [] =
    ap (λ (more : List Variable). before ++ more) (named_last scalar (elements name n) (element name n)) ∙ sym (append_assoc before front (last ∷ [])) in
    ap (are_apart of_one_name) cells
    ∙ apart_and_last of_one_name (before ++ front) last
    (add_elements before scalar name n (omega arith) apart (λ i there. new i (omega arith)))
    (all_of_both (λ (c : Variable). not (bytes_eq c.name (element name n))) before front
    (new n (omega arith)) (new_element scalar name n n (omega arith) (omega arith)))

-- ---- two lengths

rows_last : (scalar : Scalar) (name : List ℕ) (i m : ℕ)
    → cells_named scalar (row_elements name (suc i) m) ≡ cells_named scalar (row_elements name i m) ++ cells_named scalar (elements (element name i) m)
rows_last scalar name i m = map-append (λ (n : List ℕ). cell scalar n) (row_elements name i m) (elements (element name i) m)

-- an element of a row is none of another row
new_beside : (scalar : Scalar) (name : List ℕ) (k m i j : ℕ) → k < i → i < 2 ^ 64 → new_in (element (element name i) j) (cells_named scalar (elements (element name k) m)) ≡ true
new_beside scalar name k zero i j below small = refl
new_beside scalar name k (suc m) i j below small =
    ap (new_in (element (element name i) j)) (named_last scalar (elements (element name k) m) (element (element name k) m))
    ∙ all_and_last (λ (c : Variable). not (bytes_eq c.name (element (element name i) j))) (cells_named scalar (elements (element name k) m)) (cell scalar (element (element name k) m))
    (new_beside scalar name k m i j below small)
    (differ (element (element name k) m) (element (element name i) j)
    (λ same. let e = same_index name (codes "[" ++ (decimal m ++ codes "]")) (codes "[" ++ (decimal j ++ codes "]")) k i (omega arith) small same in omega arith))

-- an element of a row is none of the rows before it
new_row : (scalar : Scalar) (name : List ℕ) (n m i j : ℕ) → n ≤ i → i < 2 ^ 64 → new_in (element (element name i) j) (cells_named scalar (row_elements name n m)) ≡ true
new_row scalar name zero m i j below small = refl
new_row scalar name (suc n) m i j below small =
    ap (new_in (element (element name i) j)) (rows_last scalar name n m)
    ∙ all_of_both (λ (c : Variable). not (bytes_eq c.name (element (element name i) j))) (cells_named scalar (row_elements name n m)) (cells_named scalar (elements (element name n) m))
    (new_row scalar name n m i j (omega arith) small) (new_beside scalar name n m i j (omega arith) small)

pub add_rows : (before : List Variable) (scalar : Scalar) (name : List ℕ) (n m : ℕ) → n ≤ 65536 → m ≤ 65536
    → are_apart of_one_name before ≡ true → ((i j : ℕ) → new_in (element (element name i) j) before ≡ true)
    → are_apart of_one_name (before ++ cells_named scalar (row_elements name n m)) ≡ true
add_rows before scalar name zero m few short apart new = ap (are_apart of_one_name) (append-nil before) ∙ apart
add_rows before scalar name (suc n) m few short apart new =
    let front = cells_named scalar (row_elements name n m) in
    let row = cells_named scalar (elements (element name n) m) in
    let cells : before ++ cells_named scalar (row_elements name (suc n) m) ≡ (before ++ front) ++ row =
    ap (λ (more : List Variable). before ++ more) (rows_last scalar name n m) ∙ sym (append_assoc before front row) in
    ap (are_apart of_one_name) cells
    ∙ add_elements (before ++ front) scalar (element name n) m short
    (add_rows before scalar name n m (omega arith) short apart new)
    (λ j there. all_of_both (λ (c : Variable). not (bytes_eq c.name (element (element name n) j))) before front
    (new n j) (new_row scalar name n m n j (omega arith) (omega arith)))

pub no_columns : (name : List ℕ) (n : ℕ) → row_elements name n 0 ≡ []
no_columns name zero = refl
no_columns name (suc n) = ap (λ (names : List (List ℕ)). names ++ []) (no_columns name n)

-- ---- free names

-- what follows a name in brackets leaves its first name as it is
pub first_stays : (name s : List ℕ) → first_name (name ++ 91 ∷ s) ≡ first_name name
first_stays [] s = refl
first_stays (b ∷ bs) s = ap (λ (rest : List ℕ). if (b == 46) || (b == 91) then [] else b ∷ rest) (first_stays bs s)

first_of_element : (name : List ℕ) (i : ℕ) → first_name (element name i) ≡ first_name name
first_of_element name i = first_stays name (decimal i ++ codes "]")

-- a name with a free first name is new
pub new_name : (name other : List ℕ) (cells : List Variable) → list_any (begins_with name) cells ≡ false → first_name other ≡ first_name name
    → new_in other cells ≡ true
new_name name other [] free first = refl
new_name name other (c ∷ cs) free first =
    let parts = or_parts (begins_with name c) (list_any (begins_with name) cs) free in
    and_from (not (bytes_eq c.name other)) (new_in other cs)
    (differ c.name other (λ same. let here = (bytes_eq-Decides (first_name c.name) (first_name name)).1 (ap first_name same ∙ first) in let no = sym here ∙ parts.0 in cc no))
    (new_name name other cs parts.1 first)

few_rows : (n m : ℕ) → 0 < m → n * m ≤ 65536 → n ≤ 65536
few_rows n m some few = let least = le-mul_of_pos_right {m = m} n some in omega (arith, least, few)

few_columns : (n m : ℕ) → 0 < n → n * m ≤ 65536 → m ≤ 65536
few_columns n m some few = let least = subst (λ (k : ℕ). m ≤ k) (mul_comm m n) (le-mul_of_pos_right {m = n} m some) in omega (arith, least, few)

-- the cells of a declaration with a free name differ from each other and from all others
pub stay_apart : (cells : List Variable) (d : Declaration) → count_of d.lengths ≤ 65536 → list_any (begins_with d.name) cells ≡ false
    → are_apart of_one_name cells ≡ true → are_apart of_one_name (cells ++ cells_of d) ≡ true
stay_apart cells d few free apart = by d.lengths few
  where
    by : (lengths : List ℕ) → count_of lengths ≤ 65536 → are_apart of_one_name (cells ++ cells_named d.scalar (full_names d.name lengths)) ≡ true
    by [] few = apart_and_last of_one_name cells (cell d.scalar d.name) apart (new_name d.name d.name cells free refl)
    by (n ∷ []) few = add_elements cells d.scalar d.name n few apart (λ i there. new_name d.name (element d.name i) cells free (first_of_element d.name i))
    by (n ∷ zero ∷ more) few = ap (λ (names : List (List ℕ)). are_apart of_one_name (cells ++ cells_named d.scalar names)) (no_columns d.name n) ∙ (ap (are_apart of_one_name) (append-nil cells) ∙ apart)
    by (zero ∷ suc m ∷ more) few = ap (are_apart of_one_name) (append-nil cells) ∙ apart
    by (suc n ∷ suc m ∷ more) few =
        add_rows cells d.scalar d.name (suc n) (suc m) (few_rows (suc n) (suc m) (omega arith) few) (few_columns (suc n) (suc m) (omega arith) few) apart
        (λ i j. new_name d.name (element (element d.name i) j) cells free (first_of_element (element d.name i) j ∙ first_of_element d.name i))
