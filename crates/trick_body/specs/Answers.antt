-- What the readers of bodies and conditions answer.
use Rattle.std.specs.Prelude.{◌≡◌, ◌≢◌, ℕ, ◌+◌, List, [], ◌++◌, length, Option, Some, None, Result, Ok, Err, ◌⊎◌}
use Rattle.trick_body_symbols.specs.Expressions.{Of}
use Rattle.trick_body_symbols.specs.Lexemes.{lexemes_of}
use Rattle.trick_body_symbols.specs.Limits.{list_limit, nesting_limit, method_levels}
use Rattle.trick_body_symbols.specs.Methods as grammar
use Rattle.trick_body_symbols.specs.Symbols.{number_of, spelled, Token}
use Rattle.trick_body_symbols.specs.Told.{told, told_line}
use Rattle.trick_body.specs.declared.fault.BodyFault.{BodyFault}
use Rattle.trick_body.specs.declared.fault.BodyFault.TheVariants as faults
use Rattle.trick_grammar.specs.Cut.{IsFirst}
use Rattle.trick_grammar.specs.Gives.{class_of}
use Rattle.trick_grammar.specs.Reading.{Refused, read}
use Rattle.trick_grammar.specs.Text.{IsExact, IsExactFront, read_all}
use Rattle.trick_grammar.specs.declared.refusal.Refusal.{Refusal}
use Rattle.trick_grammar.specs.declared.refusal.Refusal.TheVariants.{Expected, NotInProfile, TooLong, TooDeep, BadHeader, BadLoop, BadName, BadTime}
use Rattle.trick_lang.specs.Syntax.{expression_of, method_of}
use Rattle.trick_lang.specs.SyntaxTree as tree
use Rattle.trick_lang.specs.SyntaxTree.{Expression}
use Rattle.trick_lang.specs.declared.syntax.definition.Method.{Method}
use Rattle.trick_lang.specs.declared.syntax.expression.Expr.{Expr}
use Rattle.trick_text.specs.Tokens.{IsCut, IsUncut, last_line}
use Rattle.trick_text.specs.declared.fault.FirstFault.{FirstFault}
use Rattle.trick_text.specs.declared.fault.TextFault.{TextFault}
use Rattle.trick_text.specs.declared.fault.TextFault.TheVariants as texts
use Rattle.trick_text.specs.declared.token.Style.TheVariants.{Command}
use Rattle.trick_text.specs.declared.token.Token as cut

-- ---- refusals

-- the fault of a refusal: its code, its limit and its line. No time stands in a body.
abbrev pub fault_of : Refusal → ℕ → BodyFault
fault_of Expected line = faults.Expected line
fault_of NotInProfile line = faults.NotInProfile line
fault_of TooLong line = faults.LongList line list_limit
fault_of TooDeep line = faults.LongList line nesting_limit
fault_of BadHeader line = faults.LoopBound line
fault_of BadLoop line = faults.LoopBound line
fault_of BadName line = faults.NotInProfile line
fault_of BadTime line = faults.Expected line

-- the refusal of a token of the text is told by this fault
abbrev pub IsToldBy : List ℕ → List Token → Refused Token → BodyFault → Type 0
IsToldBy text ts z fault = (front : List Token) × (ts ≡ front ++ z.rest)
    × (fault ≡ fault_of (told z.kind z.rest) (told_line (last_line text) z.kind front z.rest))

-- ---- bodies

-- a method of a text, inside the braces of its class
abbrev pub method : List ℕ → Of tree.Method
method text = grammar.method text list_limit method_levels

-- The tokens from a place on start with one method, up to the other place; or reading refuses the first
-- token with which no method goes on. A want of memory may come at any time.
abbrev pub IsBody : List ℕ → List Token → ℕ → Result (Method × ℕ) BodyFault → Type 0
IsBody text ts from (Ok v) = (rest : List Token)
    × IsExactFront number_of class_of spelled (method text) ts (Ok (method_of v.0, rest))
    × (v.1 + length rest ≡ from + length ts)
IsBody text ts from (Err faults.OutOfMemory) = Unit {0}
IsBody text ts from (Err fault) = (z : Refused Token)
    × IsExactFront number_of class_of spelled (method text) ts (Err z)
    × (read number_of class_of [] (method text) ts ≡ Err z) × IsToldBy text ts z fault

-- ---- conditions

abbrev pub condition : List ℕ → Of Expression
condition text = grammar.condition text list_limit nesting_limit

-- From the tokens before the first fault of the text, and from that fault: all of the tokens are the
-- one condition, and there is no fault; or reading refuses the first token with which no condition goes
-- on, or, where there is no fault, the end; or there is a fault, and some condition goes on with all
-- tokens before it. A want of memory may come at any time.
abbrev pub IsRead : List ℕ → List Token → Option FirstFault → Result Expr BodyFault → Type 0
IsRead text ts f (Ok e) = (f ≡ None) × IsExact number_of class_of spelled (condition text) ts (Ok (expression_of e))
IsRead text ts f (Err faults.OutOfMemory) = Unit {0}
IsRead text ts f (Err (faults.Text fault)) = (first : FirstFault) × (f ≡ Some first) × (first.fault ≡ fault)
    × IsFirst number_of class_of spelled (condition text) ts None
IsRead text ts f (Err fault) = (z : Refused Token) × IsExact number_of class_of spelled (condition text) ts (Err z)
    × (read_all number_of class_of (condition text) ts ≡ Err z) × ((f ≡ None) ⊎ (z.rest ≢ []))
    × IsToldBy text ts z fault

-- the fault of a text that is not cut
abbrev pub fault_of_text : TextFault → BodyFault
fault_of_text texts.OutOfMemory = faults.OutOfMemory
fault_of_text fault = faults.Text fault

-- the text is cut and its tokens are read, or it is not cut
abbrev pub IsCondition : List ℕ → Result Expr BodyFault → Type 0
IsCondition text answer =
    ((ts : List cut.Token) × (f : Option FirstFault) × IsCut Command text ts f
    × IsRead text (lexemes_of text ts) f answer)
    ⊎ ((fault : TextFault) × IsUncut text fault × (answer ≡ Err (fault_of_text fault)))
