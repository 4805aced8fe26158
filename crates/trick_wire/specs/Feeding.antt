-- Feeds of which each line is one of a client.
use Rattle.std.specs.Prelude.{◌≡◌, ℕ, List, Some, IsTrue}
use Rattle.std.specs.List.{All}
use Rattle.trick_command.specs.Fed.{Fed}
use Rattle.trick_model.specs.Journal.{is_line}

-- Each line that waits has at most 4,096 bytes and no line feed, and so has what is held of the next.
pub record HoldsLines (feed : Fed) : Type 0 where
  pub waiting : All (λ line. IsTrue (is_line line)) feed.waiting
  pub held : (held : List ℕ) → feed.held ≡ Some held → IsTrue (is_line held)
