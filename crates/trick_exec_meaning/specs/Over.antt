-- What the turns of a run came to.
use Rattle.std.specs.Prelude.{◌≡◌, ℕ, Bool, true, IsTrue, List, [], ◌++◌, Some, None, Ok, Result}
use Rattle.trick_model.specs.Files.{turns_said, turns_writes}
use Rattle.trick_model.specs.Plan.{Plan}
use Rattle.trick_model.specs.Run.{Fits, after_turns, is_over, opened}
use Rattle.trick_model.specs.Session.{Message}
use Rattle.trick_model.specs.State.{State, World}
use Rattle.trick_model.specs.declared.entry.Entry.{Entry}
use Rattle.trick_outside.specs.Does.{Does}
use Rattle.trick_outside.specs.declared.stop.Stop.{Stop}
use Rattle.trick_exec_meaning.specs.Answers.{IsSuccession, answers}
use Rattle.trick_exec_meaning.specs.Chosen.{ChoseTo}
use Rattle.trick_exec_meaning.specs.Follows.{EndsElsewhere, Follows}
use Rattle.trick_exec_meaning.specs.Goes.{goes_owing, left_of}
use Rattle.trick_exec_meaning.specs.Hosts.{Hosts, Place}
use Rattle.trick_exec_meaning.specs.Ran.{AreDone, last_answer}
use Rattle.trick_exec_meaning.specs.Stops.{StopsAt}
use Rattle.trick_exec_tic.specs.Steps.{steps_of}
use Rattle.trick_exec_sources.specs.Turns.{Told}

-- The turns of a run from a state were done, and the run is over.
pub record AreOver {S U M Q : Type 0} (h : Hosts S U M Q) (p : Plan) (s : State) (old new : Place S U Q)
    (w : World) (lists : List (List Entry)) : Type 0 where
  pub fits : Fits p s lists
  pub is : w ≡ after_turns p (opened s) lists
  pub does : Does {T = Unit {0}} h.shelf old.shelf new.shelf (Ok tt) (steps_of (turns_writes p (opened s) lists))
  pub done : AreDone h p s lists (last_answer w) old new
  pub untold : h.turns.journal old.turns ≡ None → h.turns.journal new.turns ≡ None
  pub told : h.turns.decided old.turns ≡ true → (told : Told) → h.turns.journal old.turns ≡ Some told
      → Follows p (opened s) told lists × IsTrue (is_over w.state (left_of lists told.lists))
      × (h.turns.journal new.turns ≡ Some (record told { lists = left_of lists told.lists }))

-- The turns of a run from a state stopped when the source had given these lists.
pub record AreStopped {S U M Q T : Type 0} (h : Hosts S U M Q) (p : Plan) (s : State) (lists : List (List Entry))
    (old new : Place S U Q) (result : Result T Stop) : Type 0 where
  pub owed : Bool
  pub goes : IsTrue (goes_owing owed p (opened s) lists)
  pub follows : h.turns.decided old.turns ≡ true → (told : Told) → h.turns.journal old.turns ≡ Some told
      → Follows p (opened s) told lists
  -- the lists that it gave keep the rules of entries
  pub rules : IsSuccession (h.turns.decided old.turns) lists
  pub does : Does h.shelf old.shelf new.shelf result (steps_of (turns_writes p (opened s) lists))
  pub sent : List Message
  pub unsent : List Message
  pub handed : turns_said p (opened s) lists ≡ sent ++ unsent
  pub step : h.turns.went old.turns (answers (h.turns.decided old.turns) p (opened s) lists) sent new.turns
  pub stops : StopsAt p s [] lists does.calls sent
  -- where an entry is owed, the source owed one after these lists
  pub owes : owed ≡ true → (held : U)
      × h.turns.went old.turns (answers (h.turns.decided old.turns) p (opened s) lists) sent held
      × (h.turns.owes held ≡ true)
  pub chose : ChoseTo h.posts (h.turns.decided old.turns) p s [] old.posts new.posts lists does.calls

-- The turns of a run from a state came to the end of a journal, and the run goes on: where its source decides
-- what is published, `kept` is the journal's end, and `given` tells where the run would end.
pub record AreShort {S U M Q : Type 0} (h : Hosts S U M Q) (p : Plan) (s : State) (old new : Place S U Q)
    (w : World) (kept given : ℕ) (lists : List (List Entry)) : Type 0 where
  pub is : w ≡ after_turns p (opened s) lists
  pub does : Does {T = Unit {0}} h.shelf old.shelf new.shelf (Ok tt) (steps_of (turns_writes p (opened s) lists))
  pub done : AreDone h p s lists [] old new
  pub tells : h.turns.journal old.turns ≡ None → ⊥
  pub told : h.turns.decided old.turns ≡ true → (told : Told) → h.turns.journal old.turns ≡ Some told
      → Follows p (opened s) told lists × (kept ≡ told.end)
      × EndsElsewhere told w.state (left_of lists told.lists) given
