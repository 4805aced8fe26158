-- The trees that values of the readers of items and declarators hold.
use Rattle.trick_lang.specs.SyntaxTree as tree
use Rattle.trick_lang.specs.declared.syntax.definition.Declarator.{Declarator}
use Rattle.trick_lang.specs.declared.syntax.definition.EnumItem.{EnumItem}

abbrev pub item_of : EnumItem → tree.EnumItem
item_of i = record { line = i.line; name = i.name; value = i.value }

abbrev pub declarator_of : Declarator → tree.Declarator
declarator_of d = record { name = d.name; lengths = d.lengths }
