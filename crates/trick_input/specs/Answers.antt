-- What `read_input` answers.
use Rattle.std.specs.Global.{Global}
use Rattle.std.specs.Prelude.{◌≡◌, ◌⊎◌, ℕ, List, Option, Result, Ok, Err}
use Rattle.std.specs.declared.vec.Vec.{Vec}
use Rattle.trick_input.specs.Lines.{Calls, calls_of, lines}
use Rattle.trick_input.specs.declared.call.Call.{Call}
use Rattle.trick_input.specs.declared.fault.InputFault.{InputFault}
use Rattle.trick_input.specs.declared.fault.InputFault.TheVariants as faults
use Rattle.trick_text.specs.Tokens.{IsCut, IsUncut}
use Rattle.trick_text.specs.declared.fault.FirstFault.{FirstFault}
use Rattle.trick_text.specs.declared.fault.TextFault.{TextFault}
use Rattle.trick_text.specs.declared.fault.TextFault.TheVariants as texts
use Rattle.trick_text.specs.declared.token.Style.TheVariants as style
use Rattle.trick_text.specs.declared.token.Token.{Token}

-- The reading is refused by this fault. A want of memory may come at any time.
abbrev pub Refuses : {A : Type 0} → Result A InputFault → InputFault → Type 0
Refuses reading faults.OutOfMemory = Unit {0}
Refuses reading (faults.Text f) = reading ≡ Err (faults.Text f)
Refuses reading (faults.Expected n) = reading ≡ Err (faults.Expected n)
Refuses reading (faults.NotInProfile n) = reading ≡ Err (faults.NotInProfile n)
Refuses reading (faults.BadLiteral n) = reading ≡ Err (faults.BadLiteral n)

-- the reading of one line is the answer
abbrev pub IsCall : Result Call InputFault → Result Call InputFault → Type 0
IsCall reading (Ok c) = reading ≡ Ok c
IsCall reading (Err f) = Refuses reading f

-- the reading of all lines is the answer
abbrev pub Answers : Calls → Result (Vec Call Global) InputFault → Type 0
Answers reading (Ok v) = reading ≡ Ok v.items
Answers reading (Err f) = Refuses reading f

-- the fault of a text that is not cut
abbrev pub fault_of_text : TextFault → InputFault
fault_of_text texts.OutOfMemory = faults.OutOfMemory
fault_of_text fault = faults.Text fault

-- The text is cut into tokens up to its first fault, and these are read by their lines; or it is not cut.
abbrev pub IsInput : List ℕ → Result (Vec Call Global) InputFault → Type 0
IsInput text answer =
    ((ts : List Token) × (f : Option FirstFault) × IsCut style.Input text ts f
    × Answers (calls_of text f (lines ts)) answer)
    ⊎ ((fault : TextFault) × IsUncut text fault × (answer ≡ Err (fault_of_text fault)))
