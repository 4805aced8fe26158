-- The two ends of a queue: what was put, and what was taken.
use Rattle.std.specs.Prelude.{◌≡◌, ℕ, true, List, ◌++◌, length}
use Rattle.std.specs.Arc.{arc_value}
use Rattle.crossbeam_queue.specs.Passes.{ruled_capacity, view}
use Rattle.trick_wire.specs.declared.queue.Putter.{Putter}
use Rattle.trick_wire.specs.declared.queue.Taker.{Taker}
use Rattle.trick_wire.specs.declared.rule.Side.{Side}

module _ {T : Type 0} where
  -- all that was put by this end, the first of it first
  abbrev pub put_by : Putter T → List T
  put_by putter = (view putter.pass).put

  -- all that was taken by this end, the first of it first
  abbrev pub taken_by : Taker T → List T
  taken_by taker = (view taker.pass).taken

  -- what a taker knows of the queue
  abbrev pub known_by : Taker T → Side T
  known_by taker = view taker.pass

  -- The taker has taken the other end in, so it knows what was put.
  abbrev pub HasBoth : Taker T → Type 0
  HasBoth taker = (view taker.pass).puts ≡ true

  -- what was put, as a taker knows it that has taken the other end in
  abbrev pub given_to : Taker T → List T
  given_to taker = (view taker.pass).put

  -- how many items the queue has room for
  abbrev pub room_of : Putter T → ℕ
  room_of putter = ruled_capacity (arc_value putter.shared).queue

  -- it puts into the same queue as before
  abbrev pub IsSamePutter : Putter T → Putter T → Type 0
  IsSamePutter old new = new.shared ≡ old.shared

  -- it takes from the same queue as before
  abbrev pub IsSameTaker : Taker T → Taker T → Type 0
  IsSameTaker old new = new.shared ≡ old.shared

  -- these are the two ends of one queue
  abbrev pub AreEnds : Putter T → Taker T → Type 0
  AreEnds putter taker = arc_value putter.shared ≡ arc_value taker.shared

  -- At one moment so many of what was put, the last of it, had not been taken.
  abbrev pub HasWaiting : List T → ℕ → Type 0
  HasWaiting put count = (taken : List T) × (items : List T) × (length items ≡ count) × (put ≡ taken ++ items)
