-- Whether it was heard that a link has no byte left.
use Rattle.std.specs.List.{list_any}
use Rattle.std.specs.Prelude.{Bool, true, false, List}
use Rattle.trick_wire.specs.declared.heard.Heard.{Heard}
use Rattle.trick_wire.specs.declared.heard.Heard.TheVariants as heard

-- whether this says that the link has no byte left
abbrev pub is_end : Heard → Bool
is_end (heard.Line line) = false
is_end heard.End = true
is_end heard.LongLine = false
is_end heard.LinkFault = false
is_end heard.OutOfMemory = false

-- whether that was heard
abbrev pub has_end : List Heard → Bool
has_end items = list_any is_end items
