-- What a head of a production gives: the whole, from what is read after it.
use Rattle.std.specs.Prelude.{ℕ, List, Result, Ok, Err, ◌≡◌}
use Rattle.trick_body_symbols.specs.Statements.{Branch, Header, loop_of}
use Rattle.trick_body_symbols.specs.Symbols.{Token}
use Rattle.trick_grammar.specs.Gives.{Stops}
use Rattle.trick_grammar.specs.Reading.{Reading}
use Rattle.trick_grammar.specs.declared.stop.GrammarStop.{GrammarStop}
use Rattle.trick_body_symbols.specs.declared.symbol.Symbol.{Symbol}
use Rattle.trick_lang.specs.SyntaxTree.{Expression, Statement}

-- a reader of a head returns what the whole reads as after it, or else the refusal of the whole, unless memory
-- runs out
abbrev pub Leads : {X Y : Type 0} → (X → Reading Token Y) → Result X (GrammarStop Symbol) → Reading Token Y → Type 0
Leads after (Ok x) whole = whole ≡ after x
Leads after (Err stop) whole = Stops stop whole

-- a branch of an `if` of this line and this test, from what its statement reads as
abbrev pub tested : ℕ → Expression → Reading Token Statement → Reading Token Branch
tested line test (Ok p) = Ok ((line, test, p.0), p.1)
tested line test (Err e) = Err e

-- a loop, from what its name, its header and its statement read as
abbrev pub looped : List ℕ → Reading Token (Token × (Header × Statement)) → Reading Token Statement
looped text (Ok p) = Ok (loop_of text p.0.0 p.0.1.0 p.0.1.1, p.1)
looped text (Err e) = Err e
