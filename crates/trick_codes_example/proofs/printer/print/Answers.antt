use Rattle.std.proofs.Common.{ap, ◌∙◌, arith, length}
use Rattle.std.proofs.lemmas.Grind.{common_steps}
use Rattle.trick_codes_example.proofs.Printing.{values_for_each, printed}
use Rattle.trick_codes_example.proofs.printer.print.Goals as goal

pub push_values-requires : goal.push_values-requires
push_values-requires c = ap length c.as_slice.ensures ∙ values_for_each c.args.gauges.now c.args.readings.now c.requires

pub returns : goal.returns
returns c = grind (arith, common_steps, printed c.args.gauges.now c.args.readings.now c.requires)
