-- What a turn of the code came to.
use Rattle.std.specs.Prelude.{◌≡◌, ◌⊎◌, ℕ, ℤ, Bool, false, not, IfOk, IsOk, IsTrue, List, Result}
use Rattle.std.specs.List.{list_any}
use Rattle.trick_exec_turn.specs.Known.{AreKnown}
use Rattle.trick_exec_turn.specs.Worlds.{world_of}
use Rattle.trick_model.specs.declared.world.World.{World as WorldValue}
use Rattle.trick_model.specs.Journal.{is_of_session}
use Rattle.trick_model.specs.Plan.{Plan}
use Rattle.trick_model.specs.State.{World}
use Rattle.trick_model.specs.Turn.{turn}
use Rattle.trick_model.specs.declared.entry.Entry.{Entry}
use Rattle.trick_outside.specs.Does.{IsPartOf}
use Rattle.trick_outside.specs.declared.stop.Stop.{Stop}
use Rattle.trick_exec_meaning.specs.Answers.{given}
use Rattle.trick_exec_meaning.specs.Hosts.{Hosts, Place}
use Rattle.trick_exec_meaning.specs.Rounds.{IsChosen, heard_state, publications, waited}
use Rattle.trick_exec_meaning.specs.Turned.{Asks, Turned, line_notes}
use Rattle.trick_exec_tic.specs.Steps.{steps_of}
use Rattle.trick_exec_sources.specs.Turns.{Sessions, after_entries, in_next, may_all_come}

-- A source whose sessions are those of a world has given this list.
pub record HasGiven (p : Plan) (decides : Bool) (w : World) (list : List Entry) (now : Sessions) : Type 0 where
  pub known : Sessions
  pub are : AreKnown p known w.sessions
  pub may : IsTrue (may_all_come list (in_next known))
  pub after : now ≡ after_entries list (in_next known)
  pub silent : decides ≡ false → list_any (λ entry. not (is_of_session entry)) list ≡ false

-- A world's turn that was given a list came to this: the turn with these entries, of which the source gave
-- the list. The publications were chosen, or no more of it was written than its lines. At `Ok` they were, and the
-- world is that after the turn.
pub record CameTo {S U M Q D : Type 0} (h : Hosts S U M Q) (numbers : D → List ℤ) (p : Plan) (decides : Bool)
    (w : World) (list : List Entry) (waits now : List ℕ) (old new : Place S U Q)
    (result : Result (WorldValue D) Stop) : Type 0 where
  pub entries : List Entry
  pub gave : given decides entries ≡ list
  pub turned : Turned h p w entries old new result
  pub world : IfOk result (λ after. world_of numbers after ≡ (turn p w entries).world)
  pub asks : IsOk result
      → Asks decides h.posts.asked (IsChosen p (heard_state p w entries) waits (publications entries)) old.posts
      new.posts
  pub chose : Asks decides h.posts.asked (IsChosen p (heard_state p w entries) waits (publications entries)) old.posts
      new.posts
      ⊎ IsPartOf turned.does.calls (steps_of (line_notes w.state.turn (turn p w entries)))
  pub waited_so : IsOk result → decides ≡ false → now ≡ waited p (heard_state p w entries) waits (publications entries)
