use Rattle.std.proofs.Common.{arith}
use Rattle.std.proofs.lemmas.Grind.{common_steps}
use Rattle.trick_chkpt_printer.proofs.Rows.{row_line}
use Rattle.trick_chkpt_printer.proofs.records.push_last_row.Goals as goal

pub returns : goal.returns
returns c = grind (arith, common_steps, row_line c.args.row.now)
