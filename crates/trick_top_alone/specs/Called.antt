-- What the calls of the shelf and the pieces of the sink say of the status.
use Rattle.std.specs.Prelude.{◌≡◌, ◌⊎◌, ℕ, List, true}
use Rattle.trick_outside.specs.Calls.{Call, EndAtFault, fails}
use Rattle.trick_outside.specs.Does.{Went}
use Rattle.trick_outside.specs.Pieces as sink_pieces
use Rattle.trick_outside.specs.Pieces.{Piece, Pieces}
use Rattle.trick_outside.specs.Puts.{ArePiecesOf}
use Rattle.trick_outside.specs.declared.shelf.Shelf.{Ghosts}
use Rattle.trick_outside.specs.declared.sink.Sink as sink
use Rattle.trick_top_alone.specs.Verdict.{Verdict, line_of}

-- All calls of both objects, and what they say. The shelf is not called after a call that failed; the
-- sink is given one line, once, and nothing after a piece that it did not take.
pub record HasCalled {S O : Type 0} (shelf : Ghosts S) (sink : sink.Ghosts O) (old new : S) (before now : O)
    (status : ℕ) : Type 0 where
  pub calls : List Call
  pub went : Went shelf old new calls
  pub ends : EndAtFault calls
  pub verdict : Verdict
  pub pieces : List Piece
  pub told : sink.called before pieces now
  pub took : Pieces (sink.holds before) (sink.holds now) (sink.failures before) (sink.failures now) pieces
  pub one_line : ArePiecesOf (line_of verdict) pieces
  -- 5 only where a call of the shelf failed; and where one failed it is 5, or the sink stopped
  pub shelf_failed : status ≡ 5 → fails calls ≡ true
  pub shelf_fault : fails calls ≡ true → (status ≡ 5) ⊎ (sink_pieces.stops pieces ≡ true)
  -- 8 exactly where the sink failed, whatever was decided before
  pub sink_failed : status ≡ 8 → sink_pieces.fails pieces ≡ true
  pub sink_fault : sink_pieces.fails pieces ≡ true → status ≡ 8
