-- Of the code alone: what a field of a line holds.
use Rattle.std.specs.Prelude.{ℕ, List, decimal}
use Rattle.trick_top_refusals.specs.declared.field.Field.{Field}
use Rattle.trick_top_refusals.specs.declared.field.Field.TheVariants.{Name, Number}

abbrev pub field_text : Field → List ℕ
field_text (Name name) = name.now
field_text (Number number) = decimal number
