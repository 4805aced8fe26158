-- The promises on limits: which refusals come of one.
use Rattle.std.specs.Prelude.{ℕ, ◌≤◌, ◌<◌, List}
use Rattle.trick_body_symbols.specs.Methods.{method, condition}
use Rattle.trick_body_symbols.specs.Symbols.{number_of, Token}
use Rattle.trick_grammar.specs.Gives.{class_of}
use Rattle.trick_grammar.specs.Larger.{Tells}
use Rattle.trick_grammar.specs.Text.{read_all}
use Rattle.trick_sdef_classes.specs.Files.{file}
use Rattle.trick_sdef_grammar.specs.Larger.{TellsLimits}

-- A refusal for a limit is at a token with which a text goes on where lists may be longer and more may
-- nest, and every other answer is the same there.
abbrev pub MethodsTellLimits : Type 0
MethodsTellLimits = (text : List ℕ) (limit more depth deeper : ℕ) → 1 ≤ limit → limit < more → depth < deeper
    → (ts : List Token) → Tells number_of class_of (method text more deeper) ts
    (read_all number_of class_of (method text limit depth) ts)

abbrev pub ConditionsTellLimits : Type 0
ConditionsTellLimits = (text : List ℕ) (limit more depth deeper : ℕ) → 1 ≤ limit → limit < more → depth < deeper
    → (ts : List Token) → Tells number_of class_of (condition text more deeper) ts
    (read_all number_of class_of (condition text limit depth) ts)

-- A refusal for a limit is at a token with which a file goes on where lists may be longer and more may
-- nest, or at a thread or a phase that is not in the profile there either; and every other answer is the
-- same there.
abbrev pub FilesTellLimits : Type 0
FilesTellLimits = (text : List ℕ) (limit more depth deeper : ℕ) → 1 ≤ limit → limit < more → depth < deeper
    → (ts : List Token) → TellsLimits (file text more deeper) ts
    (read_all number_of class_of (file text limit depth) ts)
