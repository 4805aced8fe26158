-- What a run did to those that it works with.
use Rattle.std.specs.FinMap.{get}
use Rattle.std.specs.Prelude.{◌≡◌, ◌⊎◌, ℕ, nat_lt, Bool, ◌&&◌, true, false, IsTrue, List, [], ◌∷◌, ◌++◌, Ok, None, Some, Result}
use Rattle.trick_base.specs.Content.{content}
use Rattle.trick_base.specs.Files.{Files, Write}
use Rattle.trick_model.specs.Files.{file, run_writes, start_writes, turns_said, turns_writes}
use Rattle.trick_model.specs.Plan.{Plan}
use Rattle.trick_model.specs.Run.{Fits, Lasts, after_turns, final, opened}
use Rattle.trick_model.specs.Session.{Message}
use Rattle.trick_model.specs.State.{State, World}
use Rattle.trick_model.specs.Turn.{is_frozen, turn}
use Rattle.trick_model.specs.declared.entry.Entry.{Entry}
use Rattle.trick_outside.specs.Does.{Does}
use Rattle.trick_outside.specs.declared.stop.Stop.{Stop}
use Rattle.trick_exec_meaning.specs.Answers.{IsSuccession, answers, list_answer, no_more}
use Rattle.trick_exec_meaning.specs.Chosen.{ChoseTo}
use Rattle.trick_exec_meaning.specs.Follows.{EndsElsewhere, Follows}
use Rattle.trick_exec_meaning.specs.Goes.{goes_owing, left_of}
use Rattle.trick_exec_meaning.specs.Hosts.{Hosts, Place}
use Rattle.trick_exec_meaning.specs.Rounds.{AreChosen}
use Rattle.trick_exec_tic.specs.Steps.{steps_of}
use Rattle.trick_exec_meaning.specs.Stops.{StopsAt}
use Rattle.trick_exec_meaning.specs.Turned.{Asks}
use Rattle.trick_exec_sources.specs.Turns.{Answer, Told}
use Rattle.trick_exec_sources.specs.declared.turns.Turns.{Ghosts as TurnsGhosts}

-- The answer that ends a run: that no line comes any more, where it is frozen below its limit; else its
-- source is not asked.
abbrev pub last_answer : World → List Answer
last_answer w = elim (is_frozen w.state.mode && nat_lt w.state.tic w.state.limit) [ true ↦ no_more w | false ↦ [] ]

-- the world in which a run ends: the last state, with the sessions that are there then
abbrev pub last_world : Plan → State → List (List Entry) → World
last_world p s lists = record { state = final p s lists; sessions = (after_turns p (opened s) lists).sessions }

-- Turn after turn, from a world on, a source gave its list and then was handed the messages of that turn.
pub data Handed {U M : Type 0} (turns : TurnsGhosts U M) (decides : Bool) (p : Plan) (w : World)
    : List (List Entry) → U → U → Type 0 where
  no_turn : (u : U) → Handed turns decides p w [] u u
  one_more : (lists : List (List Entry)) (entries : List Entry) (old before gave now : U)
      → Handed turns decides p w lists old before
      → turns.went before (list_answer decides (after_turns p w lists) entries) [] gave
      → turns.went gave [] (turn p (after_turns p w lists) entries).said now
      → Handed turns decides p w (lists ++ entries ∷ []) old now

-- The turns of these lists were done, from a state on: the source gave the lists and was handed the messages of
-- their turns, turn after turn, and then gave the last answers; and the publications were chosen by polls, or the
-- source decided them.
pub record AreDone {S U M Q : Type 0} (h : Hosts S U M Q) (p : Plan) (s : State) (lists : List (List Entry))
    (last : List Answer) (old new : Place S U Q) : Type 0 where
  pub step : h.turns.went old.turns (answers (h.turns.decided old.turns) p (opened s) lists ++ last)
      (turns_said p (opened s) lists) new.turns
  pub handed : (mid : U) × Handed h.turns (h.turns.decided old.turns) p (opened s) lists old.turns mid
      × h.turns.went mid last [] new.turns
  -- the lists that it gave keep the rules of entries
  pub rules : IsSuccession (h.turns.decided old.turns) lists
  pub asks : Asks (h.turns.decided old.turns) h.posts.asked
      (λ polls. (waits : List ℕ) × AreChosen p (opened s) lists polls waits) old.posts new.posts

-- A run from a state did this, to its end, under these lists: those that its source gave, with the
-- publications that were chosen.
pub record Ran {S U M Q : Type 0} (h : Hosts S U M Q) (p : Plan) (s : State) (lists : List (List Entry))
    (old new : Place S U Q) : Type 0 where
  -- they are the lists of a whole run
  pub fits : Fits p s lists
  pub done : AreDone h p s lists (last_answer (after_turns p (opened s) lists)) old new
  -- where the source tells a journal that decides, they are the run under it, up to its end
  pub told : h.turns.decided old.turns ≡ true → (told : Told) → h.turns.journal old.turns ≡ Some told
      → Follows p (opened s) told lists × Lasts p (opened s) told.lists lists (after_turns p (opened s) lists)
      × ((after_turns p (opened s) lists).state.turn ≡ told.end)
  -- all that it writes was written, and each file is that of the run, where the shelf tells
  pub does : Does {T = Unit {0}} h.shelf old.shelf new.shelf (Ok tt) (steps_of (run_writes p s lists))
  pub files : (before : Files) → h.shelf.holds old.shelf ≡ Some before
      → (now : Files) × (h.shelf.holds new.shelf ≡ Some now)
      × ((name : List ℕ) → get now name ≡ file name p s lists (get before name))

-- what a run has written before its end: its first files, and what its turns write
abbrev pub writes_so_far : Plan → State → List (List Entry) → List Write
writes_so_far p s lists = start_writes p s.turn ++ turns_writes p (opened s) lists

-- A run from a state missed the end of the journal that its source tells. Its turns were those of these
-- lists, and nothing was written after them. Where the source decides what is published, the lists are the
-- journal's first ones, and the numbers are the journal's end and the turn at which the run ends, or would.
pub record Missed {S U M Q : Type 0} (h : Hosts S U M Q) (p : Plan) (s : State) (lists : List (List Entry))
    (old new : Place S U Q) (kept given : ℕ) : Type 0 where
  pub tells : h.turns.journal old.turns ≡ None → ⊥
  pub told : h.turns.decided old.turns ≡ true → (told : Told) → h.turns.journal old.turns ≡ Some told
      → Follows p (opened s) told lists × (kept ≡ told.end)
      × EndsElsewhere told (after_turns p (opened s) lists).state (left_of lists told.lists) given
  -- it was asked for nothing after these lists, or, where the run is over, as at the end of a run
  pub last : List Answer
  pub asked : (last ≡ []) ⊎ (last ≡ last_answer (after_turns p (opened s) lists))
  pub done : AreDone h p s lists last old new
  -- all that its turns write was written, and each file is what they make of it, where the shelf tells
  pub does : Does {T = Unit {0}} h.shelf old.shelf new.shelf (Ok tt) (steps_of (writes_so_far p s lists))
  pub files : (before : Files) → h.shelf.holds old.shelf ≡ Some before
      → (now : Files) × (h.shelf.holds new.shelf ≡ Some now)
      × ((name : List ℕ) → get now name ≡ content name (writes_so_far p s lists) (get before name))

-- A run from a state stopped when its source had given these lists, the last of them with the publications
-- that were chosen by then. No turn came after the run was over, but where an entry was owed; and where the
-- source tells a journal that decides, they are its first lists, from before the run was over. A part of what
-- it writes was done, and the first of its messages were handed over.
pub record Stopped {S U M Q T : Type 0} (h : Hosts S U M Q) (p : Plan) (s : State) (lists : List (List Entry))
    (old new : Place S U Q) (result : Result T Stop) : Type 0 where
  pub owed : Bool
  pub goes : IsTrue (goes_owing owed p (opened s) lists)
  pub follows : h.turns.decided old.turns ≡ true → (told : Told) → h.turns.journal old.turns ≡ Some told
      → Follows p (opened s) told lists
  -- the lists that it gave keep the rules of entries
  pub rules : IsSuccession (h.turns.decided old.turns) lists
  pub does : Does h.shelf old.shelf new.shelf result (steps_of (run_writes p s lists))
  -- it was asked for nothing after these lists, or, where the run is over, as at the end of a run
  pub last : List Answer
  pub asked : (last ≡ []) ⊎ (last ≡ last_answer (after_turns p (opened s) lists))
  pub sent : List Message
  pub unsent : List Message
  pub handed : turns_said p (opened s) lists ≡ sent ++ unsent
  pub step : h.turns.went old.turns (answers (h.turns.decided old.turns) p (opened s) lists ++ last) sent new.turns
  pub stops : StopsAt p s (start_writes p s.turn) lists does.calls sent
  -- where an entry is owed, the source owed one after these lists
  pub owes : owed ≡ true → (held : U)
      × h.turns.went old.turns (answers (h.turns.decided old.turns) p (opened s) lists) sent held
      × (h.turns.owes held ≡ true)
  -- and the publications of all lists were chosen, or of all but the last
  pub chose : ChoseTo h.posts (h.turns.decided old.turns) p s (start_writes p s.turn) old.posts new.posts lists
      does.calls
