-- The steps of the walk's loops over the lists of a file.
use Rattle.std.proofs.Common.{◌≡◌, ℕ, ◌+◌, ◌<◌, List, ◌∷◌, length, get_or, drop, ap}
use Rattle.trick_base.proofs.ListLemmas.{next_item}
use Rattle.trick_lang.specs.Syntax.{all_members_of, class_part_of, class_parts_of, declarators_of, definition_of, definitions_of, items_of, jobs_of, members_of}
use Rattle.trick_lang.specs.declared.syntax.definition.ClassPart.{ClassPart}
use Rattle.trick_lang.specs.declared.syntax.definition.Declarator.{Declarator}
use Rattle.trick_lang.specs.declared.syntax.definition.Definition.{Definition}
use Rattle.trick_lang.specs.declared.syntax.definition.EnumItem.{EnumItem}
use Rattle.trick_lang.specs.declared.syntax.definition.JobLine.{JobLine}
use Rattle.trick_lang.specs.declared.syntax.definition.Members.{Members}

pub items_next : (xs : List EnumItem) (i : ℕ) (item : EnumItem) → i < length xs → item ≡ get_or xs i item → items_of (drop i xs) ≡ items_of (item ∷ drop (i + 1) xs)
items_next xs i item h is = ap items_of (next_item xs i item h is)

pub declarators_next : (xs : List Declarator) (i : ℕ) (item : Declarator) → i < length xs → item ≡ get_or xs i item → declarators_of (drop i xs) ≡ declarators_of (item ∷ drop (i + 1) xs)
declarators_next xs i item h is = ap declarators_of (next_item xs i item h is)

pub members_next : (xs : List Members) (i : ℕ) (item : Members) → i < length xs → item ≡ get_or xs i item → all_members_of (drop i xs) ≡ members_of item ∷ all_members_of (drop (i + 1) xs)
members_next xs i item h is = ap all_members_of (next_item xs i item h is)

pub jobs_next : (xs : List JobLine) (i : ℕ) (item : JobLine) → i < length xs → item ≡ get_or xs i item → jobs_of (drop i xs) ≡ jobs_of (item ∷ drop (i + 1) xs)
jobs_next xs i item h is = ap jobs_of (next_item xs i item h is)

pub parts_next : (xs : List ClassPart) (i : ℕ) (item : ClassPart) → i < length xs → item ≡ get_or xs i item → class_parts_of (drop i xs) ≡ class_part_of item ∷ class_parts_of (drop (i + 1) xs)
parts_next xs i item h is = ap class_parts_of (next_item xs i item h is)

pub definitions_next : (xs : List Definition) (i : ℕ) (item : Definition) → i < length xs → item ≡ get_or xs i item → definitions_of (drop i xs) ≡ definition_of item ∷ definitions_of (drop (i + 1) xs)
definitions_next xs i item h is = ap definitions_of (next_item xs i item h is)
