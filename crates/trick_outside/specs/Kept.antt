-- What the forms in memory stand for.
use Rattle.std.specs.FinMap.{empty, insert}
use Rattle.std.specs.Prelude.{◌≡◌, ℕ, ◌+◌, ◌-◌, ◌^◌, List, [], ◌∷◌, Contains, min}
use Rattle.trick_outside.specs.FaultPlan.{IsFresh, IsQuiet}
use Rattle.trick_base.specs.Files.{Files}
use Rattle.trick_outside.specs.declared.memory_shelf.File.{File}
use Rattle.trick_outside.specs.declared.memory_shelf.MemoryShelf.{MemoryShelf}
use Rattle.trick_outside.specs.declared.memory_sink.MemorySink.{MemorySink}
use Rattle.trick_outside.specs.declared.sink.Taken1.TheVariants.{Took, Failed, OutOfMemory}
use Rattle.trick_outside.specs.declared.sink.Taken1.{Taken1}

-- The files of a list, by name. The first of a name counts.
abbrev pub kept : List File → Files
kept [] = empty
kept (file ∷ files) = insert (kept files) file.name file.bytes.items

-- The files that a shelf in memory holds.
abbrev pub contents : MemoryShelf → Files
contents shelf = kept shelf.files.items

-- No call of the shelf fails, and none has failed: its count of faults is 0.
abbrev pub ShelfNeverFails : MemoryShelf → Type 0
ShelfNeverFails shelf = IsQuiet shelf.plan

-- The calls of these numbers fail. None was made yet.
abbrev pub ShelfFailsAt : MemoryShelf → List ℕ → Type 0
ShelfFailsAt shelf calls = IsFresh shelf.plan calls

-- The next call fails.
abbrev pub ShelfFailsNext : MemoryShelf → Type 0
ShelfFailsNext shelf = Contains shelf.plan.failing.items shelf.plan.calls

-- One more call was made, and the calls of the same numbers fail. The count of calls stands still at
-- 2 ^ 64 - 1.
abbrev pub ShelfCountsOne : MemoryShelf → MemoryShelf → Type 0
ShelfCountsOne old new =
    (new.plan.calls ≡ min (old.plan.calls + 1) (2 ^ 64 - 1)) × (new.plan.failing.items ≡ old.plan.failing.items)

-- Both have made as many calls, and the same calls fail from now on.
abbrev pub SameShelfPlan : MemoryShelf → MemoryShelf → Type 0
SameShelfPlan old new = new.plan ≡ old.plan

-- No write to the sink fails, and none has failed: its count of faults is 0.
abbrev pub SinkNeverFails : MemorySink → Type 0
SinkNeverFails sink = IsQuiet sink.plan

-- The writes of these numbers fail. None was made yet.
abbrev pub SinkFailsAt : MemorySink → List ℕ → Type 0
SinkFailsAt sink calls = IsFresh sink.plan calls

-- The next write fails.
abbrev pub SinkFailsNext : MemorySink → Type 0
SinkFailsNext sink = Contains sink.plan.failing.items sink.plan.calls

-- One more write was made, and the writes of the same numbers fail. The count of writes stands still
-- at 2 ^ 64 - 1.
abbrev pub SinkCountsOne : MemorySink → MemorySink → Type 0
SinkCountsOne old new =
    (new.plan.calls ≡ min (old.plan.calls + 1) (2 ^ 64 - 1)) × (new.plan.failing.items ≡ old.plan.failing.items)

-- Both have made as many writes, and the same writes fail from now on.
abbrev pub SameSinkPlan : MemorySink → MemorySink → Type 0
SameSinkPlan old new = new.plan ≡ old.plan

-- How many bytes of a piece the sink takes at most.
abbrev pub most_taken : MemorySink → ℕ
most_taken sink = sink.most

-- Where it takes, it takes the whole piece, or as much as it takes at most.
abbrev pub TakesMost : Taken1 → (length most : ℕ) → Type 0
TakesMost (Took count) length most = count ≡ min length most
TakesMost Failed length most = Unit {0}
TakesMost OutOfMemory length most = Unit {0}
