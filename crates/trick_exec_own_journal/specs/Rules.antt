-- Entries that keep the rules, list after list.
use Rattle.std.specs.Prelude.{ℕ, ◌+◌, true, false, List, [], ◌∷◌, ◌++◌, map}
use Rattle.trick_model.specs.Journal.{Noted}
use Rattle.trick_model.specs.Plan.{Plan}
use Rattle.trick_model.specs.Run.{opened}
use Rattle.trick_model.specs.State.{State}
use Rattle.trick_model.specs.declared.entry.Entry.{Entry}
use Rattle.trick_post_work.specs.Polls.{Poll}
use Rattle.trick_exec_meaning.specs.Answers.{IsSuccession}
use Rattle.trick_exec_meaning.specs.Hosts.{Hosts, Place}
use Rattle.trick_exec_meaning.specs.Ran.{AreDone}
use Rattle.trick_exec_meaning.specs.Rounds.{AreChosen}
use Rattle.trick_exec_sources.specs.Turns.{Answer}

-- The lists of a run from a state are right: what its source gave is a succession, and the publications were chosen by
-- polls, or the source decided them.
pub data AreRight (p : Plan) (s : State) (lists : List (List Entry)) : Type 0 where
  chosen : (polls : List Poll) (waits : List ℕ) → IsSuccession false lists
      → AreChosen p (opened s) lists polls waits → AreRight p s lists
  decided : IsSuccession true lists → AreRight p s lists

-- So are those of each run that is done, or missed the end of a journal, whatever its source and its posts.
abbrev pub RunsAreRight : {S U M Q : Type 0} → Hosts S U M Q → Type 0
RunsAreRight {S} {U} {M} {Q} h =
    (p : Plan) (s : State) (lists : List (List Entry)) (last : List Answer) (old new : Place S U Q)
    → AreDone h p s lists last old new → AreRight p s lists

-- the entries of a turn, each with its number
abbrev pub noted_at : ℕ → List Entry → List Noted
noted_at turn entries = map (λ (entry : Entry). (turn, entry)) entries

-- the entries of turns, each with its turn; the first list is that of this turn
abbrev pub noted_from : ℕ → List (List Entry) → List Noted
noted_from turn [] = []
noted_from turn (entries ∷ lists) = noted_at turn entries ++ noted_from (turn + 1) lists
