-- The lines of an input, and their refusals in order.
use Rattle.std.specs.Prelude.{◌≡◌, ℕ, Bool, true, false, ◌&&◌, ◌||◌, ◌==◌, nat_eq, List, [], ◌∷◌, ◌++◌, length, Option, Some, None, Result, Ok, Err, if◌then◌else◌}
use Rattle.trick_input.specs.Classes.{is, is_name}
use Rattle.trick_input.specs.Forms.{outcome_of}
use Rattle.trick_input.specs.Lexemes.{Lexeme, classes, line_of_words}
use Rattle.trick_input.specs.Says.{form_of}
use Rattle.trick_input.specs.declared.call.Call.{Call}
use Rattle.trick_input.specs.declared.class.Class.{Class}
use Rattle.trick_input.specs.declared.class.Class.TheVariants as the
use Rattle.trick_input.specs.declared.fault.InputFault.{InputFault}
use Rattle.trick_input.specs.declared.fault.InputFault.TheVariants as faults
use Rattle.trick_input.specs.declared.form.Row.{Row}
use Rattle.trick_input.specs.declared.line.Place.{Place}
use Rattle.trick_text.specs.declared.fault.FirstFault.{FirstFault}
use Rattle.trick_text.specs.declared.token.Token.{Token}

-- ---- lines

-- a token goes on with the first line where that is its line too
abbrev pub joined : Token → List (List Token) → List (List Token)
joined t [] = (t ∷ []) ∷ []
joined t ([] ∷ ls) = (t ∷ []) ∷ ls
joined t ((u ∷ us) ∷ ls) = if nat_eq u.line t.line then (t ∷ u ∷ us) ∷ ls else (t ∷ []) ∷ (u ∷ us) ∷ ls

-- the lines with a token, each as its tokens
abbrev pub lines : List Token → List (List Token)
lines [] = []
lines (t ∷ ts) = joined t (lines ts)

-- the number of a line
abbrev pub line_of : List Token → ℕ
line_of [] = 0
line_of (t ∷ ts) = t.line

-- ---- one line

-- The line begins with a word that is left out, or with `trick.` and a name with which no form goes on:
-- so many tokens are left from there.
abbrev pub is_left_out : List Class → ℕ → Bool
is_left_out [] left = false
is_left_out (a ∷ []) left = is a the.LeftOut && nat_eq left 1
is_left_out (a ∷ b ∷ []) left = is a the.LeftOut && nat_eq left 2
is_left_out (a ∷ b ∷ c ∷ ws) left =
    (is a the.LeftOut && nat_eq left (length (a ∷ b ∷ c ∷ ws)))
    || (is a the.Trick && (is b the.Dot && (is_name c && nat_eq left (length (c ∷ ws)))))

-- how a line is refused at a place
abbrev pub fault_at : ℕ → List Class → Place → InputFault
fault_at line ws p =
    if is_left_out ws p.left then faults.NotInProfile line
    else if p.due then faults.BadLiteral line
    else faults.Expected line

-- a line with its outcome
abbrev pub line_read : ℕ → List Lexeme → Result Row Place → Result Call InputFault
line_read line ls (Ok r) = Ok (record { form = form_of r ls; line = line })
line_read line ls (Err p) = Err (fault_at line (classes ls) p)

-- a whole line of the text
abbrev pub call_of : List ℕ → List Token → Result Call InputFault
call_of text ts =
    let ls = line_of_words text false ts in
    line_read (line_of ts) ls (outcome_of (classes ls))

-- the front of a line, up to a fault of the text: refused at one of its tokens, or for the text's fault
abbrev pub cut_read : FirstFault → ℕ → List Class → Result Row Place → InputFault
cut_read first line ws (Ok r) = faults.Text first.fault
cut_read first line ws (Err p) = if nat_eq p.left 0 then faults.Text first.fault else fault_at line ws p

-- the line on which the text is cut off
abbrev pub cut_fault : List ℕ → FirstFault → List Token → InputFault
cut_fault text first ts =
    let ws = classes (line_of_words text true ts) in
    cut_read first (line_of ts) ws (outcome_of ws)

-- ---- all lines

abbrev pub Calls : Type 0
Calls = Result (List Call) InputFault

abbrev pub then_calls : List Call → Calls → Calls
then_calls found (Ok calls) = Ok (found ++ calls)
then_calls found (Err f) = Err f

-- a call before those of other lines
abbrev pub before : Result Call InputFault → Calls → Calls
before (Ok c) r = then_calls (c ∷ []) r
before (Err f) r = Err f

-- after the last line the text's fault, where it has one
abbrev pub at_end : Option FirstFault → Calls
at_end None = Ok []
at_end (Some first) = Err (faults.Text first.fault)

-- a line that the text's fault stands on, or a whole one
abbrev pub line_call : List ℕ → Option FirstFault → List Token → Result Call InputFault
line_call text None ts = call_of text ts
line_call text (Some first) ts =
    if nat_eq first.line (line_of ts) then Err (cut_fault text first ts) else call_of text ts

-- The calls of lines in order: the first refusal decides.
abbrev pub calls_of : List ℕ → Option FirstFault → List (List Token) → Calls
calls_of text cut [] = at_end cut
calls_of text cut (l ∷ ls) = before (line_call text cut l) (calls_of text cut ls)
