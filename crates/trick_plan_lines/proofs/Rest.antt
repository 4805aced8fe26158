-- What is kept of a program, and lists by their items.
use Rattle.std.proofs.Common.{◌≡◌, ◌∙◌, ◌+◌, ◌<◌, ◌++◌, ℕ, List, [], ◌∷◌, length, take, get_or, refl, sym, ap}
use Rattle.std.proofs.lemmas.List.{take_more}
use Rattle.trick_plan_variables.specs.Cells.{KeepsRest}
use Rattle.trick_lang.specs.declared.program.Program.{Program}

pub same_rest : (p : Program) → KeepsRest p p
same_rest p = record {
  items = refl;
  sizes = refl;
  objects = refl;
  blocks = refl;
  methods = refl;
  jobs = refl;
  slots = refl;
}

pub rest_then : (p q r : Program) → KeepsRest p q → KeepsRest q r → KeepsRest p r
rest_then p q r first then = record {
  items = then.items ∙ first.items;
  sizes = then.sizes ∙ first.sizes;
  objects = then.objects ∙ first.objects;
  blocks = then.blocks ∙ first.blocks;
  methods = then.methods ∙ first.methods;
  jobs = then.jobs ∙ first.jobs;
  slots = then.slots ∙ first.slots;
}

pub up_to_here : {A : Type 0} (xs : List A) (i : ℕ) (item : A) → i < length xs → item ≡ get_or xs i item
    → take (i + 1) xs ≡ take i xs ++ item ∷ []
up_to_here {A} xs i item h is = take_more xs i item h ∙ ap (λ (x : A). take i xs ++ x ∷ []) (sym is)
