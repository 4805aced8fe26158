-- What names and trees of the code hold.
use Rattle.std.specs.Prelude.{◌≡◌, ℤ, ℕ, Bool, true, false, List, [], ◌++◌, Option, Some, None, Result, Ok, Err}
use Rattle.std.specs.declared.alloc.Global.{Global}
use Rattle.std.specs.declared.vec.Vec.{Vec}
use Rattle.trick_plan_conditions.specs.Conditions.{choice_terms, choices_unknown, has_unknown, is_nothing, link_terms, links_unknown, parts_unknown, referent_term, term}
use Rattle.trick_plan_conditions.specs.Places.{Known, has_computed, referent_of}
use Rattle.trick_plan_conditions.specs.declared.fault.ConditionFault.{ConditionFault}
use Rattle.trick_plan_conditions.specs.declared.fault.ConditionFault.TheVariants as faults
use Rattle.trick_check_blocks.specs.Places.{literal_count}
use Rattle.trick_lang.specs.Syntax as text
use Rattle.trick_lang.specs.SyntaxTree.{Name, Expression, Links, Parts}
use Rattle.trick_lang.specs.TreeOf.{choices_of_list, links_of_list, term_of}
use Rattle.trick_lang.specs.declared.cells.Cell.{Cell}
use Rattle.trick_lang.specs.declared.syntax.expression.Choice as written
use Rattle.trick_lang.specs.declared.tree.Choice.{Choice}
use Rattle.trick_lang.specs.declared.tree.Expr.{Expr}
use Rattle.trick_lang.specs.declared.tree.Link.{Link}
use Rattle.trick_check_names.specs.Names.{Names, meaning_of}
use Rattle.trick_check_bodies.specs.Named.{path_text}

-- what these names of items and of cells are known to stand for
abbrev pub known_by : Names ℤ → Names Cell → Known
known_by items cells = record { item = λ name. meaning_of name items; cell = λ name. meaning_of name cells }

-- a part goes to the end of a name, or is an index that is no literal
abbrev pub PushesPart : List ℕ → Parts → Bool → List ℕ → Type 0
PushesPart old part true new = (has_computed part ≡ false) × (new ≡ old ++ path_text part [])
PushesPart old part false new = has_computed part ≡ true

-- The condition is resolved, or one of its places stands for nothing. A want of memory may come at any
-- time.
abbrev pub Resolves : Known → Expression → Result Expr ConditionFault → Type 0
Resolves known e (Ok made) = (has_unknown known e ≡ false) × (term_of made ≡ term known e)
Resolves known e (Err faults.UnknownName) = has_unknown known e ≡ true
Resolves known e (Err faults.OutOfMemory) = Unit {0}

-- and so are the links of a chain
abbrev pub ResolvesLinks : Known → Links → Result (Vec Link Global) ConditionFault → Type 0
ResolvesLinks known links (Ok made) =
    (links_unknown known links ≡ false) × (links_of_list made.items ≡ link_terms known links)
ResolvesLinks known links (Err faults.UnknownName) = links_unknown known links ≡ true
ResolvesLinks known links (Err faults.OutOfMemory) = Unit {0}

-- and the tests of a `?:` chain with their values, before each last part
pub record AreResolved (known : Known) (choices : List written.Choice) (made : List Choice) : Type 0 where
  pub unknown : (last : Expression) → choices_unknown known (text.choices_of_list choices last) ≡ has_unknown known last
  pub terms : (last : Expression)
      → choices_of_list made (term known last) ≡ choice_terms known (text.choices_of_list choices last)

abbrev pub ResolvesChoices : Known → List written.Choice → Result (Vec Choice Global) ConditionFault → Type 0
ResolvesChoices known choices (Ok made) = AreResolved known choices made.items
ResolvesChoices known choices (Err faults.UnknownName) =
    (last : Expression) → choices_unknown known (text.choices_of_list choices last) ≡ true
ResolvesChoices known choices (Err faults.OutOfMemory) = Unit {0}

-- the names in the indexes of a place are known, or one is not
abbrev pub ChecksParts : Known → Parts → Result (Unit {0}) ConditionFault → Type 0
ChecksParts known parts (Ok done) = parts_unknown known parts ≡ false
ChecksParts known parts (Err faults.UnknownName) = parts_unknown known parts ≡ true
ChecksParts known parts (Err faults.OutOfMemory) = Unit {0}

-- a place becomes a number, or stands for nothing
abbrev pub ResolvesPlace : Known → Name → Parts → Result Expr ConditionFault → Type 0
ResolvesPlace known name parts (Ok made) =
    (is_nothing (referent_of known name parts) ≡ false)
    × (term_of made ≡ referent_term (literal_count parts) (referent_of known name parts))
ResolvesPlace known name parts (Err faults.UnknownName) = is_nothing (referent_of known name parts) ≡ true
ResolvesPlace known name parts (Err faults.OutOfMemory) = Unit {0}
