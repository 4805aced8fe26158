-- What `actions` answers.
use Rattle.std.specs.Global.{Global}
use Rattle.std.specs.Prelude.{◌≡◌, ℕ, nat_le, List, [], ◌∷◌, length, Option, Some, None, Result, Ok, Err, if◌then◌else◌}
use Rattle.std.specs.declared.vec.Vec.{Vec}
use Rattle.trick_command.specs.declared.fault.ActionFault.{ActionFault}
use Rattle.trick_command.specs.declared.fault.ActionFault.TheVariants as faults
use Rattle.trick_model.specs.Commands.{actions_of, all_actions, parts_of}
use Rattle.trick_model.specs.Words.{Lexeme}
use Rattle.trick_model.specs.declared.action.Action.{Action}
use Rattle.trick_text.specs.Tokens.{text_limit}
use Rattle.trick_text.specs.declared.fault.TextFault.{TextFault}
use Rattle.trick_text.specs.declared.fault.TextFault.TheVariants as texts

-- the actions that a text says; a text above the limit says none
abbrev pub actions_in : List ℕ → Option (List Action)
actions_in text = if nat_le (length text) text_limit then actions_of text else None

-- These are the actions, or there are none and the text is refused. A want of memory may come at any time.
abbrev pub Answers : Option (List Action) → Result (Vec Action Global) ActionFault → Type 0
Answers said (Ok v) = said ≡ Some v.items
Answers said (Err faults.BadAction) = said ≡ None
Answers said (Err faults.OutOfMemory) = Unit {0}

-- the actions of parts of words
abbrev pub actions_of_words : List Lexeme → Option (List Action)
actions_of_words ws = all_actions (parts_of [] ws)

-- a text that is cut off says no actions
abbrev pub fault_of : TextFault → ActionFault
fault_of texts.OutOfMemory = faults.OutOfMemory
fault_of (texts.LongText limit) = faults.BadAction
fault_of (texts.BadByte at) = faults.BadAction
fault_of (texts.OpenComment at) = faults.BadAction
fault_of (texts.LongNumber at) = faults.BadAction
