-- The full names of the cells that a tree names.
use Rattle.std.proofs.Common.{◌≡◌, ℕ, zero, suc, true, List, [], ◌∷◌, ◌++◌, refl}
use Rattle.std.proofs.lemmas.Bool.{and_from, and_parts}
use Rattle.std.specs.Fmt.{decimal}
use Rattle.std.specs.List.{list_all}
use Rattle.trick_check_cells.specs.Cells.{all_groups, array_cells, base_cells, bracket, cells_at, dotted, each, global_cells, group_cells, member_cells, members_cells, memory_cells, objects_cells, under}
use Rattle.trick_lang.specs.SyntaxTree.{Name}
use Rattle.trick_lang.specs.declared.variable.Variable.{Variable}
use Rattle.trick_check_names.specs.Names.{Names}
use Rattle.trick_check_names.specs.declared.tables.Base.{Base}
use Rattle.trick_check_names.specs.declared.tables.Base.TheVariants.{Single, Group}
use Rattle.trick_check_names.specs.declared.tables.Global.{Global}
use Rattle.trick_check_names.specs.declared.tables.Global.TheVariants as the
use Rattle.trick_check_names.specs.declared.tables.Lengths.{Lengths}
use Rattle.trick_check_names.specs.declared.tables.Lengths.TheVariants.{Plain, One, Two}
use Rattle.trick_check_names.specs.declared.tables.Member.{Member}
use Rattle.trick_check_names.specs.declared.tables.Member.TheVariants.{Variable as Holds, Method}
use Rattle.trick_check_names.specs.declared.tables.Tables.{Tables}
use Rattle.trick_lang.proofs.Plain.{decimal_plain, joined_plain}
use Rattle.trick_lang.specs.Names.{are_plain_cells, is_plain}
use Rattle.trick_check.proofs.Tables.{AreNamed, all_pass}
use Rattle.trick_check.proofs.Jobs.{all_append}

under_plain : (prefix : Name) (cells : List Variable) → is_plain prefix ≡ true → are_plain_cells cells ≡ true
    → are_plain_cells (under prefix cells) ≡ true
under_plain prefix [] h all = refl
under_plain prefix (c ∷ cells) h all =
    let both = and_parts (is_plain c.name) _ all in
    and_from _ _ (joined_plain prefix c.name h both.0) (under_plain prefix cells h both.1)

bracket_plain : (k : ℕ) → is_plain (bracket k) ≡ true
bracket_plain k = joined_plain (decimal k) (93 ∷ []) (decimal_plain k) refl

both_plain : (xs ys : List Variable) → are_plain_cells xs ≡ true → are_plain_cells ys ≡ true → are_plain_cells (xs ++ ys) ≡ true
both_plain xs ys h k = all_append (λ (v : Variable). is_plain v.name) xs ys h k

each_plain : (from n : ℕ) (cells : List Variable) → are_plain_cells cells ≡ true → are_plain_cells (each from n cells) ≡ true
each_plain from zero cells all = refl
each_plain from (suc n) cells all =
    both_plain (under (bracket from) cells) (each (suc from) n cells) (under_plain (bracket from) cells (bracket_plain from) all)
    (each_plain (suc from) n cells all)

array_plain : (lengths : Lengths) (cells : List Variable) → are_plain_cells cells ≡ true → are_plain_cells (array_cells lengths cells) ≡ true
array_plain Plain cells all = all
array_plain (One n) cells all = each_plain 0 n cells all
array_plain (Two m n) cells all = each_plain 0 m (each 0 n cells) (each_plain 0 n cells all)

-- so it is with the cells of each struct and class
abbrev AllPlain : List (List Variable) → Type 0
AllPlain done = (k : ℕ) → are_plain_cells (cells_at done k) ≡ true

last_plain : (done : List (List Variable)) (cells : List Variable) → AllPlain done → are_plain_cells cells ≡ true
    → AllPlain (done ++ cells ∷ [])
last_plain [] cells all good zero = good
last_plain [] cells all good (suc k) = refl
last_plain (d ∷ ds) cells all good zero = all 0
last_plain (d ∷ ds) cells all good (suc k) = last_plain ds cells (λ j. all (suc j)) good k

base_plain : (done : List (List Variable)) (base : Base) → AllPlain done → are_plain_cells (base_cells done base) ≡ true
base_plain done (Single scalar) all = refl
base_plain done (Group k) all = all k

member_plain : (done : List (List Variable)) (m : Member) → AllPlain done → are_plain_cells (member_cells done m) ≡ true
member_plain done (Holds shape) all = array_plain shape.lengths (base_cells done shape.base) (base_plain done shape.base all)
member_plain done (Method number) all = refl

members_plain : (done : List (List Variable)) (ms : Names Member) → AllPlain done → all_pass is_plain ms ≡ true
    → are_plain_cells (members_cells done ms) ≡ true
members_plain done [] all h = refl
members_plain done (m ∷ ms) all h =
    let both = and_parts (is_plain m.0) _ h in
    both_plain (under (dotted m.0) (member_cells done m.1)) (members_cells done ms)
    (under_plain (dotted m.0) (member_cells done m.1) both.0 (member_plain done m.1 all))
    (members_plain done ms all both.1)

groups_plain : (gs : List (Names Member)) (done : List (List Variable)) → AllPlain done
    → list_all (λ (members : Names Member). all_pass is_plain members) gs ≡ true → AllPlain (group_cells gs done)
groups_plain [] done all h = all
groups_plain (g ∷ gs) done all h =
    let both = and_parts (all_pass is_plain g) _ h in
    groups_plain gs (done ++ members_cells done g ∷ []) (last_plain done (members_cells done g) all (members_plain done g all both.0)) both.1

global_plain : (done : List (List Variable)) (g : Global) → AllPlain done → are_plain_cells (global_cells done g) ≡ true
global_plain done (the.Object (Group k)) all = all k
global_plain done g all = refl

objects_plain : (done : List (List Variable)) (names : Names Global) → AllPlain done → all_pass is_plain names ≡ true
    → are_plain_cells (objects_cells done names) ≡ true
objects_plain done [] all h = refl
objects_plain done (g ∷ gs) all h =
    let both = and_parts (is_plain g.0) _ h in
    both_plain (under g.0 (global_cells done g.1)) (objects_cells done gs)
    (under_plain g.0 (global_cells done g.1) both.0 (global_plain done g.1 all)) (objects_plain done gs all both.1)

pub memory_plain : (t : Tables) → AreNamed is_plain t → are_plain_cells (memory_cells t) ≡ true
memory_plain t named = objects_plain (all_groups t) t.names (groups_plain t.groups [] (λ k. refl) named.groups) named.names
