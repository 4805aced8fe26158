-- Each struct has the cells of its members, where types are declared before they are used.
use Rattle.std.proofs.Common.{◌≡◌, ℕ, zero, suc, ◌+◌, ◌<◌, ◌≤◌, true, List, [], ◌∷◌, ◌++◌, length, refl, ap, sym, subst, ◌∙◌, arith}
use Rattle.std.proofs.Math.ListN.{length-append}
use Rattle.std.proofs.lemmas.Bool.{and_parts, ltb-true}
use Rattle.std.proofs.lemmas.List.{append_assoc, append-nil}
use Rattle.trick_check_cells.specs.Cells.{under, dotted, array_cells, base_cells, cells_at, group_cells, member_cells, members_cells}
use Rattle.trick_check_cells.specs.Unfolding.{Unfolds, are_declared_first, is_below, member_is_below, members_are_below, members_at}
use Rattle.trick_check_names.specs.Names.{Names}
use Rattle.trick_check_names.specs.declared.tables.Base.{Base}
use Rattle.trick_check_names.specs.declared.tables.Base.TheVariants.{Single, Group}
use Rattle.trick_check_names.specs.declared.tables.Member.{Member}
use Rattle.trick_check_names.specs.declared.tables.Member.TheVariants.{Variable as Holds, Method}
use Rattle.trick_lang.specs.declared.variable.Variable.{Variable}

at_front : (xs ys : List (List Variable)) (j : ℕ) → j < length xs → cells_at (xs ++ ys) j ≡ cells_at xs j
at_front [] ys j h = absurd (omega arith)
at_front (x ∷ xs) ys zero h = refl
at_front (x ∷ xs) ys (suc j) h = at_front xs ys j (omega arith)

at_seam : (xs : List (List Variable)) (y : List Variable) (ys : List (List Variable)) → cells_at (xs ++ y ∷ ys) (length xs) ≡ y
at_seam [] y ys = refl
at_seam (x ∷ xs) y ys = at_seam xs y ys

at_past : (xs : List (List Variable)) (j : ℕ) → length xs ≤ j → cells_at xs j ≡ []
at_past [] j h = refl
at_past (x ∷ xs) zero h = absurd (omega arith)
at_past (x ∷ xs) (suc j) h = at_past xs j (omega arith)

base_stable : (xs ys : List (List Variable)) (b : Base) → is_below (length xs) b ≡ true → base_cells (xs ++ ys) b ≡ base_cells xs b
base_stable xs ys (Single scalar) h = refl
base_stable xs ys (Group j) h = at_front xs ys j (ltb-true j (length xs) h)

member_stable : (xs ys : List (List Variable)) (m : Member) → member_is_below (length xs) m ≡ true → member_cells (xs ++ ys) m ≡ member_cells xs m
member_stable xs ys (Holds shape) h = ap (array_cells shape.lengths) (base_stable xs ys shape.base h)
member_stable xs ys (Method number) h = refl

members_stable : (xs ys : List (List Variable)) (ms : Names Member) → members_are_below (length xs) ms ≡ true → members_cells (xs ++ ys) ms ≡ members_cells xs ms
members_stable xs ys [] h = refl
members_stable xs ys (m ∷ ms) h =
    let p = and_parts _ _ h in
    ap (λ b. under (dotted m.0) b ++ members_cells (xs ++ ys) ms) (member_stable xs ys m.1 p.0)
    ∙ ap (λ r. under (dotted m.0) (member_cells xs m.1) ++ r) (members_stable xs ys ms p.1)

begins : (gs : List (Names Member)) (done : List (List Variable)) → (more : List (List Variable)) × (group_cells gs done ≡ done ++ more)
begins [] done = ([], sym (append-nil done))
begins (g ∷ gs) done = let p = begins gs (done ++ members_cells done g ∷ []) in (members_cells done g ∷ p.0, p.1 ∙ append_assoc done (members_cells done g ∷ []) p.0)

unfolds_from : (gs : List (Names Member)) (done : List (List Variable)) → are_declared_first (length done) gs ≡ true → (k : ℕ) → cells_at (group_cells gs done) (length done + k) ≡ members_cells (group_cells gs done) (members_at gs k)
unfolds_from [] done h k = at_past done (length done + k) (omega arith)
unfolds_from (g ∷ gs) done h zero =
    let c = members_cells done g in
    let b = begins gs (done ++ c ∷ []) in
    let whole : group_cells gs (done ++ c ∷ []) ≡ done ++ c ∷ b.0 = b.1 ∙ append_assoc done (c ∷ []) b.0 in
    let n : length done + 0 ≡ length done = omega arith in
    ap (cells_at (group_cells gs (done ++ c ∷ []))) n ∙ (ap (λ xs. cells_at xs (length done)) whole ∙ (at_seam done c b.0
    ∙ (sym (members_stable done (c ∷ b.0) g (and_parts _ _ h).0) ∙ ap (λ xs. members_cells xs g) (sym whole))))
unfolds_from (g ∷ gs) done h (suc k) =
    let next = done ++ members_cells done g ∷ [] in
    let n : length next ≡ suc (length done) = omega (arith, length-append done (members_cells done g ∷ [])) in
    let i : length done + suc k ≡ length next + k = omega (arith, n) in
    ap (cells_at (group_cells gs next)) i ∙ unfolds_from gs next (subst (λ m. are_declared_first m gs ≡ true) (sym n) (and_parts _ _ h).1) k

pub unfolds : (gs : List (Names Member)) → are_declared_first 0 gs ≡ true → Unfolds gs (group_cells gs [])
unfolds gs h k =
    let z : k ≡ 0 + k = omega arith in
    ap (cells_at (group_cells gs [])) z ∙ unfolds_from gs [] h k
