-- What `read_sdef` answers.
use Rattle.std.specs.Prelude.{◌≡◌, ◌≢◌, ℕ, List, [], ◌∷◌, ◌++◌, length, slice_get, Option, Some, None, Result, Ok, Err, ◌⊎◌}
use Rattle.trick_body_symbols.specs.Lexemes.{lexemes_of}
use Rattle.trick_body_symbols.specs.Limits.{list_limit, nesting_limit}
use Rattle.trick_body_symbols.specs.Symbols.{number_of, spelled, Token}
use Rattle.trick_body_symbols.specs.Told.{told, told_line}
use Rattle.trick_grammar.specs.Cut.{IsFirst}
use Rattle.trick_grammar.specs.Gives.{class_of}
use Rattle.trick_grammar.specs.Reading.{Refused}
use Rattle.trick_grammar.specs.Text.{read_all}
use Rattle.trick_grammar.specs.declared.refusal.Refusal.{Refusal}
use Rattle.trick_grammar.specs.declared.refusal.Refusal.TheVariants.{Expected, NotInProfile, TooLong, TooDeep, BadHeader, BadLoop, BadName, BadTime}
use Rattle.trick_lang.specs.SDefineOf.{sdefine_of}
use Rattle.trick_lang.specs.SyntaxTree as tree
use Rattle.trick_lang.specs.declared.syntax.definition.SDefine.{SDefine}
use Rattle.trick_sdef.specs.declared.fault.SdefFault.{SdefFault}
use Rattle.trick_sdef.specs.declared.fault.SdefFault.TheVariants as faults
use Rattle.trick_sdef_classes.specs.Profile.{IsAnswer, file}
use Rattle.trick_text.specs.Seconds.{seconds_of}
use Rattle.trick_text.specs.Tokens.{IsCut, IsUncut, last_line, spelling}
use Rattle.trick_text.specs.declared.fault.FirstFault.{FirstFault}
use Rattle.trick_text.specs.declared.fault.TextFault.{TextFault}
use Rattle.trick_text.specs.declared.fault.TextFault.TheVariants as texts
use Rattle.trick_text.specs.declared.fault.TimeFault.{TimeFault}
use Rattle.trick_text.specs.declared.token.Style.TheVariants as style
use Rattle.trick_text.specs.declared.token.Token as cut
use Rattle.trick_text.specs.declared.token.TokenKind.{TokenKind}
use Rattle.trick_text.specs.declared.token.TokenKind.TheVariants.{Name, Whole, Decimal, Text, Mark}

-- ---- refusals

-- a number of seconds is told by its own fault
abbrev pub time_told : ℕ → Result ℕ TimeFault → SdefFault
time_told line (Err fault) = faults.Time fault
time_told line (Ok tics) = faults.Expected line

-- a token that is no time, by its kind, its line and its bytes: tokens that are no numbers are not refused so
abbrev pub number_told : TokenKind → ℕ → List ℕ → SdefFault
number_told Whole line bytes = time_told line (seconds_of line bytes)
number_told Decimal line bytes = time_told line (seconds_of line bytes)
number_told Name line bytes = faults.Expected line
number_told Text line bytes = faults.Expected line
number_told Mark line bytes = faults.Expected line

abbrev pub bad_time : List ℕ → Option cut.Token → SdefFault
bad_time text None = faults.Expected (last_line text)
bad_time text (Some t) = number_told t.kind t.line (spelling text t)

-- the fault of a refusal: its code, its limit and its line, or the fault of a number that is no time
abbrev pub fault_of : Refusal → ℕ → SdefFault → SdefFault
fault_of Expected line bad = faults.Expected line
fault_of NotInProfile line bad = faults.NotInProfile line
fault_of TooLong line bad = faults.LongList line list_limit
fault_of TooDeep line bad = faults.LongList line nesting_limit
fault_of BadHeader line bad = faults.LoopBound line
fault_of BadLoop line bad = faults.LoopBound line
fault_of BadName line bad = faults.NotInProfile line
fault_of BadTime line bad = bad

-- the fault of a refused token, after these tokens of the text
abbrev pub told_behind : List ℕ → List cut.Token → List Token → Refused Token → SdefFault
told_behind text ts front z =
    fault_of (told z.kind z.rest) (told_line (last_line text) z.kind front z.rest)
    (bad_time text (slice_get ts (length front)))

-- the refusal of a token of the text is told by this fault
abbrev pub IsToldBy : List ℕ → List cut.Token → Refused Token → SdefFault → Type 0
IsToldBy text ts z fault = (front : List Token) × (lexemes_of text ts ≡ front ++ z.rest)
    × (fault ≡ told_behind text ts front z)

-- ---- simulation definitions

-- From the tokens before the first fault of the text, and from that fault: all of the tokens are the
-- one simulation definition, and there is no fault; or reading refuses the first token with which none
-- goes on, or, where there is no fault, the end; or there is a fault, and some simulation definition
-- goes on with all tokens before it. A want of memory may come at any time.
abbrev pub IsRead : List ℕ → List cut.Token → Option FirstFault → Result SDefine SdefFault → Type 0
IsRead text ts f (Ok s) = (f ≡ None) × IsAnswer text ts (Ok (sdefine_of s))
IsRead text ts f (Err faults.OutOfMemory) = Unit {0}
IsRead text ts f (Err (faults.Text fault)) = (first : FirstFault) × (f ≡ Some first) × (first.fault ≡ fault)
    × IsFirst number_of class_of spelled (file text) (lexemes_of text ts) None
IsRead text ts f (Err fault) = (z : Refused Token) × IsAnswer text ts (Err z)
    × (read_all number_of class_of (file text) (lexemes_of text ts) ≡ Err z) × ((f ≡ None) ⊎ (z.rest ≢ []))
    × IsToldBy text ts z fault

-- the fault of a text that is not cut
abbrev pub fault_of_text : TextFault → SdefFault
fault_of_text texts.OutOfMemory = faults.OutOfMemory
fault_of_text fault = faults.Text fault

-- the text is cut and its tokens are read, or it is not cut
abbrev pub IsSDefine : List ℕ → Result SDefine SdefFault → Type 0
IsSDefine text answer =
    ((ts : List cut.Token) × (f : Option FirstFault) × IsCut style.SDefine text ts f × IsRead text ts f answer)
    ⊎ ((fault : TextFault) × IsUncut text fault × (answer ≡ Err (fault_of_text fault)))
