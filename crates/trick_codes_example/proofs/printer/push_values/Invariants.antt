use Rattle.std.proofs.Common.{◌≡◌, ◌++◌, drop}
use Rattle.trick_codes.specs.Lines.{text}
use Rattle.trick_codes_example.proofs.printer.push_values.Given as goal
use Rattle.trick_codes_example.specs.Panel.{gauge_lines}

abbrev pub invariant-loop-i : goal.invariant-loop-i
invariant-loop-i l = l.text.items ++ text (gauge_lines (drop l.i l.gauges)) (drop l.i l.values) ≡ l.fn.text.items ++ text (gauge_lines l.gauges) l.values
