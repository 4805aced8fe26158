-- Which publications were chosen in turns that stopped.
use Rattle.std.specs.Prelude.{ℕ, Bool, List, [], ◌∷◌, ◌++◌}
use Rattle.trick_base.specs.Files.{Write}
use Rattle.trick_model.specs.Files.{turns_writes}
use Rattle.trick_model.specs.Plan.{Plan}
use Rattle.trick_model.specs.Run.{after_turns, opened}
use Rattle.trick_model.specs.State.{State}
use Rattle.trick_model.specs.Turn.{turn}
use Rattle.trick_model.specs.declared.entry.Entry.{Entry}
use Rattle.trick_outside.specs.Calls.{Call}
use Rattle.trick_outside.specs.Does.{IsPartOf}
use Rattle.trick_post_work.specs.declared.posts.Posts.{Ghosts}
use Rattle.trick_exec_meaning.specs.Rounds.{AreChosen}
use Rattle.trick_exec_meaning.specs.Turned.{Asks, line_notes}
use Rattle.trick_exec_tic.specs.Steps.{steps_of}

-- The publications of turns from a state on were chosen by polls of posts, or not at all where another decides.
abbrev pub AreAsked : {Q : Type 0} → Ghosts Q → Bool → Plan → State → List (List Entry) → Q → Q → Type 0
AreAsked posts decides p s lists old new =
    Asks decides posts.asked (λ polls. (waits : List ℕ) × AreChosen p (opened s) lists polls waits) old new

-- Turns of these lists stopped when these calls were made; `head` is what was written before them. The publications
-- of all of them were chosen; or those of all but the last, and of that one no more was written than its lines.
pub data ChoseTo {Q : Type 0} (posts : Ghosts Q) (decides : Bool) (p : Plan) (s : State) (head : List Write)
    (old new : Q) : List (List Entry) → List Call → Type 0 where
  of_all : (lists : List (List Entry)) (calls : List Call) → AreAsked posts decides p s lists old new
      → ChoseTo posts decides p s head old new lists calls
  but_last : (lists : List (List Entry)) (entries : List Entry) (part : List Call) (mid : Q)
      → AreAsked posts decides p s lists old mid
      → (let w = after_turns p (opened s) lists in
      IsPartOf part (steps_of (line_notes w.state.turn (turn p w entries))))
      → ChoseTo posts decides p s head old new (lists ++ entries ∷ [])
      (steps_of (head ++ turns_writes p (opened s) lists) ++ part)
