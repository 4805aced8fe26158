use Rattle.std.proofs.Common.{rules}
use Rattle.trick_journal.proofs.printer.cause_word.Goals as goal

pub returns-in-LinkFault : goal.returns-in-LinkFault
returns-in-LinkFault c = search rules
