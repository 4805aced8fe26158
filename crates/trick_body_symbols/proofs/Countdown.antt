-- Loops that count down what may still come.
use Rattle.std.proofs.Common.{◌≡◌, ℕ, ◌-◌, ◌<◌, true, List, ap, ◌∙◌, arith}
use Rattle.trick_body_symbols.specs.Symbols.{Token}
use Rattle.trick_body_symbols.specs.declared.symbol.Symbol.{Symbol}
use Rattle.trick_grammar.proofs.Loops.{items_left, items_stops}
use Rattle.trick_grammar.specs.Gives.{class_of, Stops}
use Rattle.trick_grammar.specs.Reading.{Reading}
use Rattle.trick_grammar.specs.StartsWith.{next_in}
use Rattle.trick_grammar.specs.declared.stop.GrammarStop.{GrammarStop}

-- a loop that counts down what may still come stops where an item does
module _ {X Y : Type 0} (number : Symbol → ℕ) (view : X → Y) (cs : List Symbol) (r : List Token → Reading Token Y) where
  pub items_halt : (left : ℕ) (found : List X) (stop : GrammarStop Symbol) (rest : List Token) (total : Reading Token (List Y)) → 0 < left → next_in number class_of cs rest ≡ true → Stops stop (r rest) → items_left number view cs r left found rest ≡ total → Stops stop total
  items_halt left found stop rest total lt on p so_far =
      let none : left - 0 ≡ left = omega arith in items_stops number view cs r left 0 found stop rest total lt on p (ap (λ n. items_left number view cs r n found rest) none ∙ so_far)
