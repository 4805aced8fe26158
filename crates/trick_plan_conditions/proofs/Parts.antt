-- Places, part by part.
use Rattle.std.proofs.Common.{◌≡◌, ◌∙◌, ℕ, Bool, true, false, ◌||◌, List, [], ◌∷◌, ◌++◌, Option, Some, None, is_none, refl, ap, sym, append_assoc, append-nil, if◌then◌else◌}
use Rattle.trick_check_blocks.specs.Places.{literal_of}
use Rattle.trick_check_cells.specs.Cells.{bracket, dotted}
use Rattle.trick_plan_conditions.specs.Held.{PushesPart}
use Rattle.trick_plan_conditions.specs.Places.{full_name, has_computed}
use Rattle.trick_lang.specs.Syntax.{expression_of, parts_of_list}
use Rattle.trick_lang.specs.SyntaxTree.{Parts}
use Rattle.trick_lang.specs.declared.syntax.expression.Part.{Part, Member, Index}
use Rattle.trick_check_bodies.specs.Named.{next_text, path_text}

-- one part and the rest
pub computed_split : (item : Part) (rest : List Part) → has_computed (parts_of_list (item ∷ rest)) ≡ has_computed (parts_of_list (item ∷ [])) || has_computed (parts_of_list rest)
computed_split (Member line name) rest = refl
computed_split (Index e) rest = by (is_none (literal_of (expression_of e))) (has_computed (parts_of_list rest))
  where
    by : (a b : Bool) → a || b ≡ (a || false) || b
    by true b = refl
    by false b = refl

-- where one part is no literal, all have such a one
pub computed_here : (item : Part) (rest : List Part) → has_computed (parts_of_list (item ∷ [])) ≡ true → has_computed (parts_of_list (item ∷ rest)) ≡ true
computed_here item rest h = computed_split item rest ∙ ap (λ b. b || has_computed (parts_of_list rest)) h

pub computed_behind : (item : Part) (rest : List Part) → has_computed (parts_of_list (item ∷ [])) ≡ false → has_computed (parts_of_list (item ∷ rest)) ≡ has_computed (parts_of_list rest)
computed_behind item rest h = computed_split item rest ∙ ap (λ b. b || has_computed (parts_of_list rest)) h

-- the text of one part, and of the rest
text_split : (item : Part) (rest : List Part) → has_computed (parts_of_list (item ∷ [])) ≡ false → path_text (parts_of_list (item ∷ rest)) [] ≡ path_text (parts_of_list (item ∷ [])) [] ++ path_text (parts_of_list rest) []
text_split (Member line name) rest h = ap (λ s. s ++ path_text (parts_of_list rest) []) (sym (append-nil (dotted name)))
text_split (Index e) rest h = by (literal_of (expression_of e)) h
  where
    by : (o : Option ℕ) → (is_none o || false) ≡ false → next_text o (λ more. path_text (parts_of_list rest) more) [] ≡ next_text o (λ more. []) [] ++ path_text (parts_of_list rest) []
    by None i = cc i
    by (Some k) i = ap (λ s. s ++ path_text (parts_of_list rest) []) (sym (append-nil (bracket k)))

full_at : (a b : Bool) (s t : List ℕ) → a ≡ b → s ≡ t → (let none : Option (List ℕ) = None in if a then none else Some s) ≡ (let none : Option (List ℕ) = None in if b then none else Some t)
full_at a b s t e f i = let none : Option (List ℕ) = None in if e i then none else Some (f i)

-- a part that was added to the name, and the rest
pub pushed : (name new : List ℕ) (item : Part) (rest : List Part) → PushesPart name (parts_of_list (item ∷ [])) true new → full_name new (parts_of_list rest) ≡ full_name name (parts_of_list (item ∷ rest))
pushed name new item rest h =
    full_at (has_computed (parts_of_list rest)) (has_computed (parts_of_list (item ∷ rest))) (new ++ path_text (parts_of_list rest) []) (name ++ path_text (parts_of_list (item ∷ rest)) [])
    (sym (computed_behind item rest h.0))
    (ap (λ s. s ++ path_text (parts_of_list rest) []) h.1
    ∙ (append_assoc name (path_text (parts_of_list (item ∷ [])) []) (path_text (parts_of_list rest) []) ∙ ap (λ s. name ++ s) (sym (text_split item rest h.0))))

-- a part that is no literal
pub no_name : (name new : List ℕ) (item : Part) (rest : List Part) → PushesPart name (parts_of_list (item ∷ [])) false new → None ≡ full_name name (parts_of_list (item ∷ rest))
no_name name new item rest h =
    let text = name ++ path_text (parts_of_list (item ∷ rest)) [] in
    sym (full_at (has_computed (parts_of_list (item ∷ rest))) true text text (computed_here item rest h) refl)
