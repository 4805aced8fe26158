-- The turns of a run, as its source of entries served them.
use Rattle.std.specs.Prelude.{◌≡◌, false, List, [], ◌∷◌, ◌++◌, flat_map, Option, Some, None}
use Rattle.trick_model.specs.Plan.{Plan}
use Rattle.trick_model.specs.Run.{after_turns, opened}
use Rattle.trick_model.specs.State.{State, World}
use Rattle.trick_model.specs.Turn.{turn}
use Rattle.trick_model.specs.declared.entry.Entry.{Entry}
use Rattle.trick_exec_meaning.specs.Answers.{list_answer}
use Rattle.trick_serve_source.specs.Calls.{View, Went}
use Rattle.trick_exec_sources.specs.Turns.{Answer}

-- the entries of a list that may not be given
abbrev pub given_in : Option (List Entry) → List Entry
given_in None = []
given_in (Some list) = list

-- the entries that answers give, one after another
abbrev pub given_by : List Answer → List Entry
given_by answers = flat_map (λ (answer : Answer). given_in answer.list) answers

-- the entries of turns, one after another
abbrev pub all_entries : List (List Entry) → List Entry
all_entries lists = flat_map (λ (entries : List Entry). entries) lists

-- Turn after turn, from a world on, the source gave the joins, lines and leaves of the turn, and then was handed its
-- messages.
pub data Serves (p : Plan) (w : World) : List (List Entry) → View → View → Type 0 where
  no_turn : (v : View) → Serves p w [] v v
  one_more : (lists : List (List Entry)) (entries : List Entry) (old before gave now : View)
      → Serves p w lists old before
      → Went before gave (list_answer false (after_turns p w lists) entries) []
      → Went gave now [] (turn p (after_turns p w lists) entries).said
      → Serves p w (lists ++ entries ∷ []) old now

-- These answers give no list.
abbrev pub GiveNothing : List Answer → Type 0
GiveNothing [] = Unit {0}
GiveNothing (answer ∷ answers) = (answer.list ≡ None) × GiveNothing answers

-- A run of a state with these lists was served, from a source that had no session yet: turn after turn, and then its
-- last answers gave no list. There was memory all along.
pub record IsServedRun (p : Plan) (s : State) (lists : List (List Entry)) (old new : View) : Type 0 where
  pub mid : View
  pub last : List Answer
  pub turns : Serves p (opened s) lists old mid
  pub ends : Went mid new last []
  pub nothing : GiveNothing last
  pub none : old.seats ≡ []
  pub whole : new.broke ≡ false
