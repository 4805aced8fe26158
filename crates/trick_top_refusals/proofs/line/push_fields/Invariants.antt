use Rattle.std.proofs.Common.{◌≡◌, ◌++◌, drop, map}
use Rattle.trick_top_refusals.proofs.line.push_fields.Given as goal
use Rattle.trick_top_refusals.specs.Line.{fields}
use Rattle.trick_top_refusals.specs.Seen.{field_text}

abbrev pub invariant-loop-field : goal.invariant-loop-field
invariant-loop-field l =
    l.line.items ++ fields (map field_text (drop l.field-index l.fields))
    ≡ l.fn.line.items ++ fields (map field_text l.fields)
