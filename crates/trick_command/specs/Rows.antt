-- The rows of the tables of actions and of clients' lines, by their names in the code.
use Rattle.std.specs.List.{slice_index_or}
use Rattle.std.specs.Prelude.{ℕ, List, [], Option, Some, None}
use Rattle.trick_command.specs.contracts.line_row.LineRow as line_rows
use Rattle.trick_command.specs.contracts.row.Row.{the_type}
use Rattle.trick_command.specs.declared.line_row.LineRow.{LineRow}
use Rattle.trick_command.specs.declared.row.Row.{Row}
use Rattle.trick_model.specs.Commands.{action_forms, command_forms}
use Rattle.trick_model.specs.Forms.{Form}
use Rattle.trick_model.specs.declared.action.Action.{Action}
use Rattle.trick_model.specs.declared.action.Action.TheVariants as action
use Rattle.trick_model.specs.declared.command.Command.{Command}
use Rattle.trick_model.specs.declared.command.Command.TheVariants as command
use denote.Enum.Declared.{tag_of}

-- a form that is none, for a number past the last one
abbrev pub no_form : Form Action
no_form = record { pieces = []; made = λ v. action.Freeze }

-- the form of a row: the table's, at the row's place
abbrev pub form_of : Row → Form Action
form_of row = slice_index_or action_forms (tag_of the_type row) no_form

-- a form of a line that is none, for a number past the last one
abbrev pub no_line_form : Form Command
no_line_form = record { pieces = []; made = λ v. command.Bad }

-- the form of a row of clients' lines
abbrev pub line_form_of : LineRow → Form Command
line_form_of row = slice_index_or command_forms (tag_of line_rows.the_type row) no_line_form
