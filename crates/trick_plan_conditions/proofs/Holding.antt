-- Plain conditions are conditions of events.
use Rattle.std.proofs.Common.{◌≡◌, ℕ, ◌<◌, ◌+◌, ◌≤◌, nat_lt, nat_le, true, false, ◌&&◌, not, IsTrue, Option, Some, None, ℤ, refl, sym, ap, ◌∙◌, arith, if◌then◌else◌, ◌++◌, List, []}
use Rattle.std.proofs.lemmas.Bool.Decides.{nat_tests}
use Rattle.std.proofs.lemmas.Bool.{and_from, and_parts}
use Rattle.trick_check_blocks.specs.Places.{literal_count}
use Rattle.trick_plan_conditions.specs.Conditions.{are_plain_choices, are_plain_links, choice_terms, is_plain, is_plain_path, link_terms, path_term, referent_term, term}
use Rattle.trick_plan_conditions.specs.Laws.{KnowsCells}
use Rattle.trick_plan_conditions.specs.Places.{Known, full_name, has_computed, item_or_cell, looked_up, referent_of}
use Rattle.trick_plan_conditions.specs.declared.place.Referent.{Referent}
use Rattle.trick_plan_conditions.specs.declared.place.Referent.TheVariants as stands_for
use Rattle.trick_lang.specs.SyntaxTree.{Name, Expression, Whole, Truth, Named, Prefixed, Chain, Choose, Links, NoLink, Link, Choices, Last, Choice, Path, path, Parts}
use Rattle.trick_lang.specs.declared.cells.Cell.{Cell}
use Rattle.trick_model.specs.Condition.{are_all_conditions, are_conditions, is_condition, is_safe}

module _ (known : Known) (cells : ℕ) (knows : KnowsCells cells known) where
  one_cell : (cell : ℕ) → cell < cells → (nat_lt 0 1 && nat_le (cell + 1) cells) ≡ true
  one_cell cell h = grind (arith, nat_tests, h)

  found : (literals : ℕ) (name : Name) (o : Option ℤ) (p : Option Cell) → ((cell : Cell) → p ≡ Some cell → cell.0 < cells) → is_condition cells (referent_term literals (item_or_cell o p)) ≡ true
  found literals name (Some value) p h = refl
  found literals name None (Some cell) h = one_cell cell.0 (h cell refl)
  found literals name None None h = refl

  named : (literals : ℕ) (o : Option Name) → is_condition cells (referent_term literals (looked_up known o)) ≡ true
  named literals None = refl
  named literals (Some name) = found literals name (known.item name) (known.cell name) (knows name)

  mutual
    pub holds : (e : Expression) → is_plain e ≡ true → is_condition cells (term known e) ≡ true
    holds (Whole line n) h = refl
    holds (Truth line b) h = refl
    holds (Named (path line name parts)) h = named (literal_count parts) (full_name name parts)
    holds (Prefixed o e) h = holds e h
    holds (Chain e links) h =
        let parts = and_parts (is_plain e) (are_plain_links links) h in
        and_from (is_condition cells (term known e)) (are_conditions cells (link_terms known links)) (holds e parts.0) (links_hold links parts.1)
    holds (Choose choices) h = choices_hold choices h

    links_hold : (links : Links) → are_plain_links links ≡ true → are_conditions cells (link_terms known links) ≡ true
    links_hold NoLink h = refl
    links_hold (Link o e rest) h =
        let parts = and_parts (is_safe o) (is_plain e && are_plain_links rest) h in
        let rests = and_parts (is_plain e) (are_plain_links rest) parts.1 in
        and_from (is_safe o) (is_condition cells (term known e) && are_conditions cells (link_terms known rest)) parts.0
        (and_from (is_condition cells (term known e)) (are_conditions cells (link_terms known rest)) (holds e rests.0) (links_hold rest rests.1))

    choices_hold : (choices : Choices) → are_plain_choices choices ≡ true → are_all_conditions cells (choice_terms known choices) ≡ true
    choices_hold (Last e) h = holds e h
    choices_hold (Choice test e rest) h =
        let parts = and_parts (is_plain test) (is_plain e && are_plain_choices rest) h in
        let rests = and_parts (is_plain e) (are_plain_choices rest) parts.1 in
        and_from (is_condition cells (term known test)) (is_condition cells (term known e) && are_all_conditions cells (choice_terms known rest)) (holds test parts.0)
        (and_from (is_condition cells (term known e)) (are_all_conditions cells (choice_terms known rest)) (holds e rests.0) (choices_hold rest rests.1))
