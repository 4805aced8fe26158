use Rattle.std.proofs.Common.{◌≡◌, drop, map}
use Rattle.trick_command.specs.Rows.{form_of}
use Rattle.trick_command.specs.Seen.{lexemes_in}
use Rattle.trick_model.specs.Commands.{action_of}
use Rattle.trick_model.specs.Forms.{read_forms}
use Rattle.trick_command.proofs.form.action_of.Given as goal

abbrev pub invariant-loop-row : goal.invariant-loop-row
invariant-loop-row l = read_forms (map form_of (drop l.row-index l.row-items)) (lexemes_in l.words) ≡ action_of (lexemes_in l.words)
