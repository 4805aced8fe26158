-- The lists of a run are right.
use Rattle.std.proofs.Common.{ℕ, List, Bool, true, false}
use Rattle.trick_exec_own_journal.specs.Rules.{AreRight, chosen, decided}
use Rattle.trick_model.specs.Plan.{Plan}
use Rattle.trick_model.specs.Run.{opened}
use Rattle.trick_model.specs.State.{State}
use Rattle.trick_model.specs.declared.entry.Entry.{Entry}
use Rattle.trick_post_work.specs.Polls.{Poll}
use Rattle.trick_exec_meaning.specs.Answers.{IsSuccession}
use Rattle.trick_exec_meaning.specs.Hosts.{Hosts, Place}
use Rattle.trick_exec_meaning.specs.Ran.{AreDone}
use Rattle.trick_exec_meaning.specs.Rounds.{AreChosen}
use Rattle.trick_exec_meaning.specs.Turned.{Asks}
use Rattle.trick_exec_sources.specs.Turns.{Answer}

-- whether the source decides or not
right_so : {Q : Type 0} (p : Plan) (s : State) (lists : List (List Entry)) (decides : Bool) (asked : Q → List Poll → Q → Type 0) (old new : Q)
    → IsSuccession decides lists → Asks decides asked (λ polls. (waits : List ℕ) × AreChosen p (opened s) lists polls waits) old new
    → AreRight p s lists
right_so p s lists true asked old new rules asks = decided rules
right_so p s lists false asked old new rules asks = chosen asks.0 asks.2.0 rules asks.2.1

pub right_of : {S U M Q : Type 0} (h : Hosts S U M Q) (p : Plan) (s : State) (lists : List (List Entry)) (last : List Answer) (old new : Place S U Q)
    → AreDone h p s lists last old new → AreRight p s lists
right_of h p s lists last old new done =
    right_so p s lists (h.turns.decided old.turns) h.posts.asked old.posts new.posts done.rules done.asks
