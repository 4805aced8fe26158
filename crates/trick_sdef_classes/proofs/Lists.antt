-- The trees of lists are the lists of trees.
use Rattle.std.proofs.Common.{◌≡◌, List, [], ◌∷◌, map, refl, ap}
use Rattle.trick_lang.specs.Syntax.{class_part_of, class_parts_of, declarators_of, definition_of, definitions_of, items_of, jobs_of, members_of, all_members_of}
use Rattle.trick_lang.specs.declared.syntax.definition.ClassPart.{ClassPart}
use Rattle.trick_lang.specs.declared.syntax.definition.Declarator.{Declarator}
use Rattle.trick_lang.specs.declared.syntax.definition.Definition.{Definition}
use Rattle.trick_lang.specs.declared.syntax.definition.EnumItem.{EnumItem}
use Rattle.trick_lang.specs.declared.syntax.definition.JobLine.{JobLine}
use Rattle.trick_lang.specs.declared.syntax.definition.Members.{Members}
use Rattle.trick_sdef_classes.specs.Trees.{declarator_of, item_of}
use Rattle.trick_sdef_jobs.specs.Trees.{job_line_of}

pub items_are : (xs : List EnumItem) → items_of xs ≡ map item_of xs
items_are [] = refl
items_are (x ∷ xs) = ap (λ ys. item_of x ∷ ys) (items_are xs)

pub declarators_are : (xs : List Declarator) → declarators_of xs ≡ map declarator_of xs
declarators_are [] = refl
declarators_are (x ∷ xs) = ap (λ ys. declarator_of x ∷ ys) (declarators_are xs)

pub members_are : (xs : List Members) → all_members_of xs ≡ map members_of xs
members_are [] = refl
members_are (x ∷ xs) = ap (λ ys. members_of x ∷ ys) (members_are xs)

pub jobs_are : (xs : List JobLine) → jobs_of xs ≡ map job_line_of xs
jobs_are [] = refl
jobs_are (x ∷ xs) = ap (λ ys. job_line_of x ∷ ys) (jobs_are xs)

pub ruleset lists_are = (jobs_are, declarators_are)

pub parts_are : (xs : List ClassPart) → class_parts_of xs ≡ map class_part_of xs
parts_are [] = refl
parts_are (x ∷ xs) = ap (λ ys. class_part_of x ∷ ys) (parts_are xs)

pub definitions_are : (xs : List Definition) → definitions_of xs ≡ map definition_of xs
definitions_are [] = refl
definitions_are (x ∷ xs) = ap (λ ys. definition_of x ∷ ys) (definitions_are xs)
