-- Laws of feeds.
use Rattle.std.specs.Prelude.{◌≡◌, ℕ, List, ◌++◌}
use Rattle.trick_command.specs.Fed.{Fed, fed, nothing_fed}
use Rattle.trick_model.specs.Commands.{lines}

-- Two pieces are as good as one.
abbrev pub CutsDoNotMatter : Type 0
CutsDoNotMatter = (feed : Fed) (first second : List ℕ) → fed (fed feed first) second ≡ fed feed (first ++ second)

-- What waits is the lines of the bytes.
abbrev pub WaitsForLines : Type 0
WaitsForLines = (bytes : List ℕ) → (fed nothing_fed bytes).waiting ≡ lines bytes
