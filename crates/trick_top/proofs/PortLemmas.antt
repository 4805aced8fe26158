-- What words say that ask for a port.
use Rattle.std.proofs.Common.{◌≡◌, ◌∙◌, ℕ, List, None, Some, ap, sym}
use Rattle.std.specs.Prelude.{MatchOption, Option}
use Rattle.trick_top_alone.proofs.CompleteLemmas.{AreOneLine}
use Rattle.trick_top.specs.Ports.{AsksForNoPort, AsksForPort, port_of}
use Rattle.trick_top_words.specs.Command.{AreRefused, Asks}
use Rattle.trick_top_words.specs.declared.command.Command.{Command}

-- a command that was read names a port, or none
pub says_port : AreOneLine → (words : List (List ℕ)) (command : Command) → Asks words command → (port : Option ℕ) → port ≡ port_of command
    → MatchOption port (AsksForNoPort words) (AsksForPort words)
says_port once words command asked None is =
    λ port asks.
    (let same : asks.command ≡ command = once words asks.command command asks.asked asked in
    let none : None ≡ Some port = is ∙ ap port_of (sym same) ∙ asks.known in
    cc)
says_port once words command asked (Some port) is = record { command = command; asked = asked; known = sym is }

-- words that are no line name none
pub no_port : (words : List (List ℕ)) → AreRefused words → AsksForNoPort words
no_port words refused = λ port asks. refused asks.command asks.asked
