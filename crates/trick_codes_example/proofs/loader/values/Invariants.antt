use Rattle.std.proofs.Common.{◌≡◌, drop}
use Rattle.std.specs.Prelude.{pos}
use Rattle.trick_codes.proofs.Each.{lines_left}
use Rattle.trick_codes.specs.Lines.{read_lines}
use Rattle.trick_codes.specs.Named.{integer_line}
use Rattle.trick_codes_example.proofs.loader.values.Given as goal
use Rattle.trick_codes_example.specs.Panel.{gauge_lines}
use Rattle.trick_codes_example.specs.declared.file.Gauge.{Gauge}

abbrev pub invariant-loop-gauge : goal.invariant-loop-gauge
invariant-loop-gauge l = lines_left (pos 0) (λ (g : Gauge). integer_line g.name g.range) (drop l.gauge-index l.gauges) l.found.items l.rest ≡ read_lines (gauge_lines l.gauges) l.fn.rest
