-- What is counted, with sums that stand still.
use Rattle.std.proofs.Common.{◌≡◌, ℕ, zero, suc, ◌+◌, ◌*◌, ◌-◌, ◌^◌, ◌<◌, ◌≤◌, List, [], ◌∷◌, ◌++◌, length, inl, inr, slice_index_or, refl, ap, sym, ◌∙◌, arith}
use Rattle.std.proofs.Math.ListN.{length-append}
use Rattle.std.proofs.lemmas.Bool.{cases_lt}
use Rattle.std.proofs.lemmas.Nat.{mul-le}
use Rattle.trick_base.proofs.Capped.{cap_mul}
use Rattle.trick_base.specs.Capped.{capped}
use Rattle.trick_check_cells.proofs.Lists.{length_under, length_each}
use Rattle.trick_lang.specs.declared.variable.Variable.{Variable}
use Rattle.trick_check_cells.specs.Cells.{all_groups, memory_cells, under, dotted, each, array_cells, base_cells, cells_at, global_cells, group_cells, member_cells, members_cells, objects_cells}
use Rattle.trick_check_cells.specs.Counts.{base_count, counts, global_count, member_count, members_count, names_count, place_count}
use Rattle.trick_lang.specs.SyntaxTree.{Name}
use Rattle.trick_check_names.specs.Names.{Names}
use Rattle.trick_check_names.specs.declared.tables.Base.{Base}
use Rattle.trick_check_names.specs.declared.tables.Base.TheVariants.{Single, Group}
use Rattle.trick_check_names.specs.declared.tables.Global.{Global}
use Rattle.trick_check_names.specs.declared.tables.Global.TheVariants as the
use Rattle.trick_check_names.specs.declared.tables.Lengths.{Lengths}
use Rattle.trick_check_names.specs.declared.tables.Lengths.TheVariants.{Plain, One, Two}
use Rattle.trick_check_names.specs.declared.tables.Member.{Member}
use Rattle.trick_check_names.specs.declared.tables.Member.TheVariants.{Variable as Holds, Method}
use Rattle.trick_check_names.specs.declared.tables.Tables.{Tables}

pub cap_add : (a b : ℕ) → capped (capped a + capped b) ≡ capped (a + b)
cap_add a b = omega arith

pub cap_add_right : (a b : ℕ) → capped (a + capped b) ≡ capped (a + b)
cap_add_right a b = omega arith

pub cap_twice : (a : ℕ) → capped (capped a) ≡ capped a
cap_twice a = omega arith

pub size_counts : (done : List (List Variable)) (k : ℕ) → slice_index_or (counts done) k 0 ≡ capped (length (cells_at done k))
size_counts [] k = refl
size_counts (c ∷ cs) zero = refl
size_counts (c ∷ cs) (suc k) = size_counts cs k

pub base_counted : (done : List (List Variable)) (b : Base) → base_count (counts done) b ≡ capped (length (base_cells done b))
base_counted done (Single scalar) = refl
base_counted done (Group k) = size_counts done k

pub place_counted : (done : List (List Variable)) (ls : Lengths) (b : Base) → capped (place_count (counts done) ls b) ≡ capped (length (array_cells ls (base_cells done b)))
place_counted done Plain b = ap capped (base_counted done b) ∙ cap_twice _
place_counted done (One n) b =
    let cs = base_cells done b in
    ap (λ k. capped (n * k)) (base_counted done b) ∙ (cap_mul n (length cs) ∙ ap capped (sym (length_each 0 n cs)))
place_counted done (Two m n) b =
    let cs = base_cells done b in
    let inner : capped (n * base_count (counts done) b) ≡ capped (n * length cs) = ap (λ k. capped (n * k)) (base_counted done b) ∙ cap_mul n (length cs) in
    sym (cap_mul m (n * base_count (counts done) b)) ∙ (ap (λ k. capped (m * k)) inner ∙ (cap_mul m (n * length cs)
    ∙ (ap (λ k. capped (m * k)) (sym (length_each 0 n cs)) ∙ ap capped (sym (length_each 0 m (each 0 n cs))))))

pub member_counted : (done : List (List Variable)) (m : Member) → capped (member_count (counts done) m) ≡ capped (length (member_cells done m))
member_counted done (Holds shape) = place_counted done shape.lengths shape.base
member_counted done (Method number) = refl

pub members_counted : (done : List (List Variable)) (ms : Names Member) → capped (members_count (counts done) ms) ≡ capped (length (members_cells done ms))
members_counted done [] = refl
members_counted done (m ∷ ms) =
    let cs = member_cells done m.1 in
    let len : length (members_cells done (m ∷ ms)) ≡ length cs + length (members_cells done ms) = length-append (under (dotted m.0) cs) (members_cells done ms) ∙ ap (λ k. k + length (members_cells done ms)) (length_under (dotted m.0) cs) in
    sym (cap_add (member_count (counts done) m.1) (members_count (counts done) ms))
    ∙ (ap (λ k. capped (k + capped (members_count (counts done) ms))) (member_counted done m.1)
    ∙ (ap (λ k. capped (capped (length cs) + k)) (members_counted done ms)
    ∙ (cap_add (length cs) (length (members_cells done ms)) ∙ ap capped (sym len))))

pub counts_append : (xs : List (List Variable)) (y : List Variable) → counts (xs ++ y ∷ []) ≡ counts xs ++ capped (length y) ∷ []
counts_append [] y = refl
counts_append (x ∷ xs) y = ap (λ zs. capped (length x) ∷ zs) (counts_append xs y)

pub groups_append : (gs : List (Names Member)) (g : Names Member) (done : List (List Variable)) → group_cells (gs ++ g ∷ []) done ≡ group_cells gs done ++ members_cells (group_cells gs done) g ∷ []
groups_append [] g done = refl
groups_append (h ∷ hs) g done = groups_append hs g (done ++ members_cells done h ∷ [])

-- objects, one after another
pub objects_next : (done : List (List Variable)) (o : Name × Global) (os : Names Global) → length (objects_cells done (o ∷ os)) ≡ length (global_cells done o.1) + length (objects_cells done os)
objects_next done o os = length-append (under o.0 (global_cells done o.1)) (objects_cells done os) ∙ ap (λ k. k + length (objects_cells done os)) (length_under o.0 (global_cells done o.1))

pub global_counted : (done : List (List Variable)) (g : Global) → global_count (counts done) g ≡ capped (length (global_cells done g))
global_counted done the.Enum = refl
global_counted done (the.Struct k) = refl
global_counted done (the.Class k) = refl
global_counted done (the.Item value) = refl
global_counted done (the.Object (Single scalar)) = refl
global_counted done (the.Object (Group k)) = size_counts done k

names_counted : (done : List (List Variable)) (gs : Names Global) → capped (names_count (counts done) gs) ≡ capped (length (objects_cells done gs))
names_counted done [] = refl
names_counted done (g ∷ gs) =
    let size = global_counted done g.1 in
    let next = objects_next done g gs in
    omega (arith, size, next, names_counted done gs)

pub all_counted : (tables : Tables) → capped (names_count (counts (all_groups tables)) tables.names) ≡ capped (length (memory_cells tables))
all_counted tables = names_counted (all_groups tables) tables.names
