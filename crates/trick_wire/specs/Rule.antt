-- The rule of a queue between two ends: what was put is what was taken and then what the queue holds.
use Rattle.std.specs.Prelude.{◌≡◌, ℕ, Bool, true, List, [], ◌∷◌, ◌++◌}
use mathlib.Core.Option.{some}
use lib.ListN.{get_elem?}
use Rattle.trick_wire.specs.declared.rule.Side.{Side}

module _ {T : Type 0} where
  -- an end that may put or take, and what it has put and taken
  abbrev pub side : Bool → Bool → List T → List T → Side T
  side puts takes put taken = record { puts = puts; takes = takes; put = put; taken = taken }

  -- one item more was put
  abbrev pub after_put : Side T → T → Side T
  after_put known item = side known.puts known.takes (known.put ++ item ∷ []) known.taken

  -- one item more was taken
  abbrev pub after_take : Side T → T → Side T
  after_take known item = side known.puts known.takes known.put (known.taken ++ item ∷ [])

  -- An end that puts is the one putter and knows all that was put; one that takes is the one taker and
  -- knows all that was taken.
  abbrev pub Fits : ℕ → ℕ → List T → List T → ℕ → Side T → Type 0
  Fits putter taker put taken port known = (known.puts ≡ true → (port ≡ putter) × (known.put ≡ put))
      × (known.takes ≡ true → (port ≡ taker) × (known.taken ≡ taken))

  -- What was put is what was taken and then the items of the queue, and each end fits that.
  abbrev pub IsRelayed : List T → List (Side T) → Type 0
  IsRelayed items ends = (putter : ℕ) × (taker : ℕ) × (put : List T) × (taken : List T) × (put ≡ taken ++ items)
      × ((port : ℕ) (known : Side T) → get_elem? ends port ≡ some known → Fits putter taker put taken port known)

  -- What an end knows of the items of the queue: one that puts, that they are the last of what it put;
  -- one that takes too, which of them.
  abbrev pub Knows : Side T → List T → Type 0
  Knows known items = (known.puts ≡ true → (taken : List T) × (known.put ≡ taken ++ items))
      × (known.puts ≡ true → known.takes ≡ true → known.put ≡ known.taken ++ items)
