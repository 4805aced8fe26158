-- What a refusal is told with: its code, its limit, and its line.
use Rattle.std.specs.Prelude.{ℕ, ◌-◌, [], ◌∷◌, List, length, slice_get, Some, None, if◌then◌else◌}
use Rattle.trick_body_symbols.specs.Symbols.{number_of, Token}
use Rattle.trick_body_symbols.specs.declared.symbol.Symbol.TheVariants as the
use Rattle.trick_grammar.specs.Classes.{is_one_of}
use Rattle.trick_grammar.specs.Gives.{class_of, line_of}
use Rattle.trick_grammar.specs.StartsWith.{next_in}
use Rattle.trick_grammar.specs.declared.refusal.Refusal.{Refusal}
use Rattle.trick_grammar.specs.declared.refusal.Refusal.TheVariants.{Expected, NotInProfile, TooLong, TooDeep, BadHeader, BadLoop, BadName, BadTime}

-- ---- the code

-- a token that is not expected: a keyword outside the profile, `return` among them, `##` or `%{`
-- is not in the profile
abbrev pub told_at : List Token → Refusal
told_at [] = Expected
told_at (t ∷ ts) = if is_one_of number_of t.class (the.Outside ∷ the.Return ∷ []) then NotInProfile else Expected

abbrev pub told : Refusal → List Token → Refusal
told Expected rest = told_at rest
told NotInProfile rest = NotInProfile
told TooLong rest = TooLong
told TooDeep rest = TooDeep
told BadHeader rest = BadHeader
told BadLoop rest = BadLoop
told BadName rest = NotInProfile
told BadTime rest = BadTime

-- ---- the line

-- the line of the token that stands so many places before the end, and the given one where there is
-- none
abbrev pub line_back : ℕ → ℕ → List Token → ℕ
line_back line n ts = elim (slice_get ts (length ts - n)) [ None ↦ line | Some t ↦ t.line ]

-- the line of the last `for`, and the given one where there is none
abbrev pub loop_line : ℕ → List Token → ℕ
loop_line line [] = line
loop_line line (t ∷ ts) = loop_line (if is_one_of number_of t.class (the.For ∷ []) then t.line else line) ts

-- The line of the statement that assigns to the name of a loop, by the tokens before the refused one:
-- that of the name before an operator; and before `;`, that of the `++` or `--` before the name.
abbrev pub assignment_line : ℕ → List Token → List Token → ℕ
assignment_line line front rest =
    line_back line (if next_in number_of class_of (the.Semicolon ∷ []) rest then 2 else 1) front

-- The line of a refusal, where front stands before the refused token: a bad header is told at its
-- `for`, an assignment to the name of a loop at its statement, and what may not follow a name at that
-- name. All else is told at the refused token, and at the last line where the text ends.
abbrev pub told_line : ℕ → Refusal → List Token → List Token → ℕ
told_line last_line BadHeader front rest = loop_line last_line front
told_line last_line BadLoop front rest = assignment_line last_line front rest
told_line last_line BadName front rest = line_back last_line 1 front
told_line last_line Expected front rest = line_of last_line rest
told_line last_line NotInProfile front rest = line_of last_line rest
told_line last_line TooLong front rest = line_of last_line rest
told_line last_line TooDeep front rest = line_of last_line rest
told_line last_line BadTime front rest = line_of last_line rest
