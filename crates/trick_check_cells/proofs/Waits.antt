-- What waits, step by step.
use Rattle.std.proofs.Common.{◌≡◌, ℕ, zero, suc, ◌+◌, ◌-◌, ◌<◌, ◌≤◌, List, [], ◌∷◌, ◌++◌, length, drop, get_or, slice_get, Some, refl, ap, sym, ◌∙◌, arith, Result, Ok, Err, OnOk}
use Rattle.std.proofs.Math.ListN.{drop_of_length-le}
use Rattle.std.proofs.lemmas.List.{append_assoc, append-nil}
use Rattle.trick_check_cells.proofs.Lists.{from_entry, under_append, under_under}
use Rattle.trick_check_cells.proofs.Counted.{size_counts}
use Rattle.trick_check_cells.specs.Counts.{base_count, counts}
use Rattle.trick_check_cells.specs.Cells.{under, dotted, bracket, each, base_cells, cells_at, member_cells, members_cells, place_cells}
use Rattle.trick_check_cells.specs.Unfolding.{members_at}
use Rattle.trick_check_cells.specs.Waits.{stack_cells, waiting_cells}
use Rattle.trick_check_cells.specs.declared.cell.Waiting.{Waiting}
use Rattle.trick_check_cells.specs.declared.cell.Waiting.TheVariants.{Place, Elements, Members}
use Rattle.trick_lang.specs.SyntaxTree.{Name}
use Rattle.trick_check_names.specs.Names.{Names}
use Rattle.trick_check_names.specs.declared.tables.Base.{Base}
use Rattle.trick_check_names.specs.declared.tables.Base.TheVariants.{Single, Group}
use Rattle.trick_check_names.specs.declared.tables.Lengths.{Lengths}
use Rattle.trick_check_names.specs.declared.tables.Lengths.TheVariants.{Plain, One, Two}
use Rattle.trick_check_names.specs.declared.tables.Member.{Member}
use Rattle.trick_lang.specs.declared.variable.Variable.{Variable}

pub stack_push : (groups : List (Names Member)) (done : List (List Variable)) (ws : List Waiting) (w : Waiting) → stack_cells groups done (ws ++ w ∷ []) ≡ waiting_cells groups done w ++ stack_cells groups done ws
stack_push groups done [] w = sym (append-nil (waiting_cells groups done w))
stack_push groups done (x ∷ ws) w = ap (λ cs. cs ++ waiting_cells groups done x) (stack_push groups done ws w) ∙ append_assoc (waiting_cells groups done w) (stack_cells groups done ws) (waiting_cells groups done x)

-- two, the second of which comes first
pub stack_two : (groups : List (Names Member)) (done : List (List Variable)) (ws : List Waiting) (v w : Waiting) → stack_cells groups done ((ws ++ v ∷ []) ++ w ∷ []) ≡ (waiting_cells groups done w ++ waiting_cells groups done v) ++ stack_cells groups done ws
stack_two groups done ws v w = stack_push groups done (ws ++ v ∷ []) w ∙ (ap (λ cs. waiting_cells groups done w ++ cs) (stack_push groups done ws v) ∙ sym (append_assoc (waiting_cells groups done w) (waiting_cells groups done v) (stack_cells groups done ws)))

pub elements_next : (groups : List (Names Member)) (done : List (List Variable)) (p name : Name) (from count : ℕ) (ls : Lengths) (b : Base) → from < count → name ≡ p ++ bracket from → waiting_cells groups done (Place name ls b) ++ waiting_cells groups done (Elements p (from + 1) count ls b) ≡ waiting_cells groups done (Elements p from count ls b)
elements_next groups done p name from count ls b low is =
    let cs = place_cells done ls b in
    let n : suc (count - (from + 1)) ≡ count - from = omega arith in
    let next : suc from ≡ from + 1 = omega arith in
    ap (λ q. under q cs ++ under p (each (from + 1) (count - (from + 1)) cs)) is
    ∙ (ap (λ xs. xs ++ under p (each (from + 1) (count - (from + 1)) cs)) (sym (under_under p (bracket from) cs))
    ∙ (sym (under_append p (under (bracket from) cs) (each (from + 1) (count - (from + 1)) cs))
    ∙ (ap (λ i. under p (under (bracket from) cs ++ each i (count - (from + 1)) cs)) (sym next)
    ∙ ap (λ k. under p (each from k cs)) n)))

pub elements_past : (groups : List (Names Member)) (done : List (List Variable)) (p : Name) (from count : ℕ) (ls : Lengths) (b : Base) → count ≤ from → [] ≡ waiting_cells groups done (Elements p from count ls b)
elements_past groups done p from count ls b h =
    let n : 0 ≡ count - from = omega arith in
    ap (λ k. under p (each from k (place_cells done ls b))) n

pub members_next : (groups : List (Names Member)) (done : List (List Variable)) (p name : Name) (group from : ℕ) (m : Name × Member) → slice_get (members_at groups group) from ≡ Some m → name ≡ p ++ dotted m.0 → under name (member_cells done m.1) ++ waiting_cells groups done (Members p group (from + 1)) ≡ waiting_cells groups done (Members p group from)
members_next groups done p name group from m at is =
    let ms = members_at groups group in
    let cs = member_cells done m.1 in
    let rest = members_cells done (drop (from + 1) ms) in
    ap (λ q. under q cs ++ under p rest) is
    ∙ (ap (λ xs. xs ++ under p rest) (sym (under_under p (dotted m.0) cs))
    ∙ (sym (under_append p (under (dotted m.0) cs) rest)
    ∙ ap (λ xs. under p (members_cells done xs)) (sym (from_entry ms from m at))))

pub members_past : (groups : List (Names Member)) (done : List (List Variable)) (p : Name) (group from : ℕ) → length (members_at groups group) ≤ from → [] ≡ waiting_cells groups done (Members p group from)
members_past groups done p group from h = ap (λ xs. under p (members_cells done xs)) (sym (drop_of_length-le (members_at groups group) h))

pub whole_array : (p : Name) (n : ℕ) (cs : List Variable) → under p (each 0 n cs) ≡ under p (each 0 (n - 0) cs)
whole_array p n cs =
    let e : n ≡ n - 0 = omega arith in
    ap (λ k. under p (each 0 k cs)) e

pub group_past : (gs : List (Names Member)) (k : ℕ) → length gs ≤ k → members_at gs k ≡ []
group_past [] k h = refl
group_past (g ∷ gs) zero h = absurd (omega arith)
group_past (g ∷ gs) (suc k) h = group_past gs k (omega arith)

pub group_in : (gs : List (Names Member)) (k : ℕ) (d : Names Member) → k < length gs → get_or gs k d ≡ members_at gs k
group_in [] k d h = absurd (omega arith)
group_in (g ∷ gs) zero d h = refl
group_in (g ∷ gs) (suc k) d h = group_in gs k d (omega arith)

pub told_ok : {T E P : Type 0} (r : Result T E) (x : T) → r ≡ Ok x → OnOk r P → P
told_ok (Ok y) x e h = h
told_ok (Err y) x e h = absurd (cc e)

none_of_each : (from n : ℕ) → each from n [] ≡ []
none_of_each from zero = refl
none_of_each from (suc n) = none_of_each (suc from) n

none_where_empty : (cs : List Variable) → length cs ≡ 0 → cs ≡ []
none_where_empty [] h = refl
none_where_empty (c ∷ cs) h = absurd (omega (arith, h))

no_base_cells : (done : List (List Variable)) (b : Base) → base_count (counts done) b ≡ 0 → base_cells done b ≡ []
no_base_cells done (Single scalar) h = absurd (omega (arith, h))
no_base_cells done (Group k) h =
    let size = size_counts done k in
    none_where_empty (cells_at done k) (omega (arith, h, size))

-- where an element has no cells, no array of it has any
pub no_cells : (done : List (List Variable)) (ls : Lengths) (b : Base) → base_count (counts done) b ≡ 0 → place_cells done ls b ≡ []
no_cells done Plain b h = no_base_cells done b h
no_cells done (One n) b h = ap (each 0 n) (no_base_cells done b h) ∙ none_of_each 0 n
no_cells done (Two m n) b h = ap (λ cs. each 0 m (each 0 n cs)) (no_base_cells done b h) ∙ (ap (each 0 m) (none_of_each 0 n) ∙ none_of_each 0 m)
