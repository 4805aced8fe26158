use Rattle.std.proofs.Common.{◌≡◌, drop, map}
use Rattle.trick_command.specs.Rows.{line_form_of}
use Rattle.trick_command.specs.Seen.{lexemes_in}
use Rattle.trick_model.specs.Commands.{command_forms}
use Rattle.trick_model.specs.Forms.{read_forms}
use Rattle.trick_command.proofs.line.other_command.Given as goal

abbrev pub invariant-loop-row : goal.invariant-loop-row
invariant-loop-row l = read_forms (map line_form_of (drop l.row-index l.row-items)) (lexemes_in l.words) ≡ read_forms command_forms (lexemes_in l.words)
