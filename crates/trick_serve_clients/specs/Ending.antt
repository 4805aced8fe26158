-- How sessions are ended, one after another.
use Rattle.std.specs.Prelude.{◌≡◌, ◌≤◌, Bool, false, List, [], ◌∷◌, All}
use Rattle.trick_outside.specs.Causes.{Rose}
use Rattle.trick_outside.specs.Visits.{Visit}
use Rattle.trick_outside.specs.declared.link_in.LinkIn.{Ghosts as InGhosts}
use Rattle.trick_outside.specs.declared.link_out.LinkOut.{Ghosts as OutGhosts}
use Rattle.trick_serve_door.specs.Returns.{backs_of}
use Rattle.trick_serve_seats.specs.Seats.{IsPast}
use Rattle.trick_serve_seats.specs.declared.arrival.Arrival.{Arrival}
use Rattle.trick_serve_door.specs.declared.ending.SessionEnd.{SessionEnd}
use Rattle.trick_serve_door.specs.declared.ending.Ends.{Ends}
use Rattle.trick_serve_seats.specs.declared.past.Past.{Past}
use Rattle.trick_wire.specs.Ends.{put_by, taken_by}
use Rattle.trick_wire.specs.HasHeard.{HasHeard}
use Rattle.trick_wire.specs.HasWritten.{HasWritten, IsCauseOf}
use Rattle.trick_wire.specs.declared.heard.WriteStop.TheVariants as stop

module _ {I O : Type 0} (input : InGhosts I) (output : OutGhosts O) where
  -- A session was ended with these ends, whosever its threads were.
  pub record IsEndedBy (ends : Ends) (past : Past I O) (ended : SessionEnd I O) : Type 0 where
    pub heard : (arrival : Arrival I O) → IsPast input output arrival past
        → HasHeard (input.holds arrival.input.value)
        (Rose (input.failures arrival.input.value) (input.failures ended.input)) (taken_by ends.inbox)
    pub sent : (arrival : Arrival I O) → IsPast input output arrival past
        → HasWritten (output.holds arrival.output.value) (output.holds ended.output)
        (output.failures arrival.output.value) (output.failures ended.output) ended.wrote (put_by ends.outbox)
    pub cause : (arrival : Arrival I O) → IsPast input output arrival past
        → IsCauseOf (taken_by ends.causes) past.writer.stop
    pub told : ended.lacked ≡ false → ended.wrote ≡ stop.OutOfMemory → (arrival : Arrival I O)
        → IsPast input output arrival past → taken_by ends.causes ≡ stop.OutOfMemory ∷ []
    pub later : output.failures past.writer.link ≤ output.failures ended.output

  -- Each session was ended with its ends.
  abbrev pub AreEnded : List Ends → List (Past I O) → List (SessionEnd I O) → Type 0
  AreEnded [] [] [] = Unit {0}
  AreEnded (ends ∷ all) (past ∷ pasts) (ended ∷ sessions) = IsEndedBy ends past ended × AreEnded all pasts sessions
  AreEnded [] [] (ended ∷ sessions) = ⊥
  AreEnded [] (past ∷ pasts) sessions = ⊥
  AreEnded (ends ∷ all) [] sessions = ⊥
  AreEnded (ends ∷ all) (past ∷ pasts) [] = ⊥

-- All sessions were ended, and their links went back to the door under the numbers 1, 2 and so on. Where nothing lacked,
-- nothing did for any of them.
pub record EndsAll {D I O : Type 0} (visited : D → List (Visit I O) → D → Type 0) (input : InGhosts I)
    (output : OutGhosts O) (old new : D) (ends : List Ends) (pasts : List (Past I O)) (lacked : Bool) : Type 0 where
  pub sessions : List (SessionEnd I O)
  pub ended : AreEnded input output ends pasts sessions
  pub back : visited old (backs_of 1 sessions) new
  pub memory : lacked ≡ false → All (λ session. session.lacked ≡ false) sessions
