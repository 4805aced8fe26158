-- Conditions that are resolved, part by part.
use Rattle.std.proofs.Common.{◌≡◌, ◌∙◌, Bool, true, false, ◌||◌, List, [], ◌∷◌, ℕ, Result, Ok, Err, refl, sym, subst}
use Rattle.std.proofs.lemmas.Bool.{or_from, or_left, or_right}
use Rattle.trick_check_blocks.specs.Places.{literal_count}
use Rattle.trick_plan_conditions.specs.Conditions.{choices_unknown, has_unknown, is_nothing, links_unknown, parts_unknown, referent_term}
use Rattle.trick_plan_conditions.specs.Held.{ChecksParts, Resolves, ResolvesChoices, ResolvesLinks, ResolvesPlace}
use Rattle.trick_plan_conditions.specs.Places.{Known, referent_of}
use Rattle.trick_plan_conditions.specs.declared.fault.ConditionFault.{ConditionFault}
use Rattle.trick_plan_conditions.specs.declared.fault.ConditionFault.TheVariants as faults
use Rattle.trick_lang.specs.Syntax.{choices_of_list, expression_of, parts_of_list}
use Rattle.trick_lang.specs.SyntaxTree.{Expression, Name, Named, Prefixed, Chain, Choose, Links, path, Parts}
use Rattle.trick_lang.specs.declared.operator.Prefix.{Prefix}
use Rattle.trick_lang.specs.declared.syntax.expression.Choice.{Choice}
use Rattle.trick_lang.specs.declared.syntax.expression.Part.{Part, Member, Index}
use Rattle.trick_lang.specs.declared.tree.Expr.{Expr}

-- the names in the index of one part, and in those of the rest
pub unknown_split : (known : Known) (item : Part) (rest : List Part) → parts_unknown known (parts_of_list (item ∷ rest)) ≡ parts_unknown known (parts_of_list (item ∷ [])) || parts_unknown known (parts_of_list rest)
unknown_split known (Member line name) rest = refl
unknown_split known (Index e) rest = by (has_unknown known (expression_of e)) (parts_unknown known (parts_of_list rest))
  where
    by : (a b : Bool) → a || b ≡ (a || false) || b
    by true b = refl
    by false b = refl

module _ (known : Known) where
  -- a place whose indexes have known names
  pub place_resolves : (line : ℕ) (name : Name) (parts : Parts) (r : Result Expr ConditionFault) → parts_unknown known parts ≡ false → ResolvesPlace known name parts r → Resolves known (Named (path line name parts)) r
  place_resolves line name parts (Ok made) inside h = (or_from (is_nothing (referent_of known name parts)) (parts_unknown known parts) h.0 inside, h.1)
  place_resolves line name parts (Err faults.UnknownName) inside h = or_left (is_nothing (referent_of known name parts)) (parts_unknown known parts) h
  place_resolves line name parts (Err faults.OutOfMemory) inside h = tt

  pub parts_fail : (line : ℕ) (name : Name) (parts : Parts) (f : ConditionFault) → ChecksParts known parts (Err f) → Resolves known (Named (path line name parts)) (Err f)
  parts_fail line name parts faults.UnknownName h = or_right (is_nothing (referent_of known name parts)) (parts_unknown known parts) h
  parts_fail line name parts faults.OutOfMemory h = tt

  pub prefixed_fails : (o : Prefix) (e : Expression) (f : ConditionFault) → Resolves known e (Err f) → Resolves known (Prefixed o e) (Err f)
  prefixed_fails o e faults.UnknownName h = h
  prefixed_fails o e faults.OutOfMemory h = tt

  pub chain_fails : (e : Expression) (links : Links) (f : ConditionFault) → Resolves known e (Err f) → Resolves known (Chain e links) (Err f)
  chain_fails e links faults.UnknownName h = or_left (has_unknown known e) (links_unknown known links) h
  chain_fails e links faults.OutOfMemory h = tt

  pub links_fail : (e : Expression) (links : Links) (f : ConditionFault) → ResolvesLinks known links (Err f) → Resolves known (Chain e links) (Err f)
  links_fail e links faults.UnknownName h = or_right (has_unknown known e) (links_unknown known links) h
  links_fail e links faults.OutOfMemory h = tt

  pub choices_fail : (choices : List Choice) (last : Expression) (f : ConditionFault) → ResolvesChoices known choices (Err f) → Resolves known (Choose (choices_of_list choices last)) (Err f)
  choices_fail choices last faults.UnknownName h = h last
  choices_fail choices last faults.OutOfMemory h = tt

  pub last_fails : (choices : List Choice) (last : Expression) (f : ConditionFault)
      → choices_unknown known (choices_of_list choices last) ≡ has_unknown known last → Resolves known last (Err f) → Resolves known (Choose (choices_of_list choices last)) (Err f)
  last_fails choices last faults.UnknownName e h = e ∙ h
  last_fails choices last faults.OutOfMemory e h = tt

  -- the test of a choice among others, or its value
  pub test_fails : (all rest : List Choice) (item : Choice) → ((last : Expression) → choices_unknown known (choices_of_list (item ∷ rest) last) ≡ choices_unknown known (choices_of_list all last))
      → (f : ConditionFault) → Resolves known (expression_of item.test) (Err f) → ResolvesChoices known all (Err f)
  test_fails all rest item same faults.UnknownName h = λ last. sym (same last) ∙ or_left (has_unknown known (expression_of item.test)) _ h
  test_fails all rest item same faults.OutOfMemory h = tt

  pub value_fails : (all rest : List Choice) (item : Choice) → ((last : Expression) → choices_unknown known (choices_of_list (item ∷ rest) last) ≡ choices_unknown known (choices_of_list all last))
      → (f : ConditionFault) → Resolves known (expression_of item.value) (Err f) → ResolvesChoices known all (Err f)
  value_fails all rest item same faults.UnknownName h = λ last.
      sym (same last)
      ∙ or_right (has_unknown known (expression_of item.test)) (has_unknown known (expression_of item.value) || choices_unknown known (choices_of_list rest last))
      (or_left (has_unknown known (expression_of item.value)) (choices_unknown known (choices_of_list rest last)) h)
  value_fails all rest item same faults.OutOfMemory h = tt
