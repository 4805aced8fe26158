-- All lines of an input, one after another: the draft after the last line, or the first refusal.
use Rattle.std.specs.Prelude.{◌≡◌, ℕ, List, [], ◌∷◌, Option, Some, None, Result, Ok, Err}
use Rattle.trick_plan_draft.specs.Jobs.{Jobs}
use Rattle.trick_plan_draft.specs.declared.draft.Draft.{Draft}
use Rattle.trick_plan_draft.specs.declared.fault.LineFault.{LineFault}
use Rattle.trick_plan_draft.specs.declared.fault.LineFault.TheVariants as line_fault
use Rattle.trick_input.specs.declared.call.Call.{Call}
use Rattle.trick_plan_lines.specs.Said.{said}
use Rattle.trick_plan_lines.specs.Texts.{AreTexts, Texts}
use Rattle.trick_plan_lines.specs.Times.{time_fault}
use Rattle.trick_plan_lines.specs.declared.fault.JoinFault.{JoinFault}
use Rattle.trick_plan_lines.specs.declared.fault.JoinFault.TheVariants as fault
use Rattle.trick_plan_settings.specs.declared.settings.Settings.{Settings}
use Rattle.trick_text.specs.declared.fault.TimeFault.{TimeFault}

-- a refusal with its line
abbrev pub at_line : ℕ → LineFault → JoinFault
at_line line line_fault.UnknownName = fault.UnknownName line
at_line line line_fault.UnknownJob = fault.UnknownJob line
at_line line line_fault.OutOfRange = fault.OutOfRange line
at_line line line_fault.TwiceNamed = fault.TwiceNamed line
at_line line line_fault.BadAction = fault.BadAction line
at_line line (line_fault.TooMany limit) = fault.TooMany line limit
at_line line line_fault.OutOfMemory = fault.OutOfMemory

-- what a line says, with its number
abbrev pub told : ℕ → Result Draft LineFault → Result Draft JoinFault
told line (Ok d) = Ok d
told line (Err refused) = Err (at_line line refused)

-- a time that is none comes before all else of its line
abbrev pub unless_time : Option TimeFault → Result Draft JoinFault → Result Draft JoinFault
unless_time None answer = answer
unless_time (Some refused) answer = Err (fault.Time refused)

-- what a line makes of the draft before it, by what its text reads as
abbrev pub answered : Jobs → Settings → Texts → Call → Draft → Result Draft JoinFault
answered jobs settings texts call d =
    unless_time (time_fault call) (told call.line (said jobs settings texts call.form d))

-- A refusal decides; else the other lines go on.
abbrev pub Then : (Draft → Type 0) → Result Draft JoinFault → Result Draft JoinFault → Type 0
Then others (Ok d) answer = others d
Then others (Err refused) answer = answer ≡ Err refused

-- The lines answer this, from a draft on: the draft after the last one, or the first refusal.
abbrev pub Drafted : Jobs → Settings → List Call → Draft → Result Draft JoinFault → Type 0
Drafted jobs settings [] d answer = answer ≡ Ok d
Drafted jobs settings (call ∷ calls) d answer =
    (texts : Texts) × AreTexts call.form texts
    × Then (λ e. Drafted jobs settings calls e answer) (answered jobs settings texts call d) answer

-- A step in code answers as the lines do. A want of memory may come at any time.
abbrev pub Answers : (Result Draft JoinFault → Type 0) → Result Draft JoinFault → Type 0
Answers Right (Err fault.OutOfMemory) = Unit {0}
Answers Right answer = Right answer

-- A step in code does what a line answers. A want of memory may come at any time.
abbrev pub DoesLine : Result (Unit {0}) JoinFault → Jobs → Settings → Call → Draft → Draft → Type 0
DoesLine (Err fault.OutOfMemory) jobs settings call d e = Unit {0}
DoesLine (Err refused) jobs settings call d e =
    (texts : Texts) × AreTexts call.form texts × (answered jobs settings texts call d ≡ Err refused)
DoesLine (Ok done) jobs settings call d e =
    (texts : Texts) × AreTexts call.form texts × (answered jobs settings texts call d ≡ Ok e)
