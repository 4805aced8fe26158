-- Of which turn the messages are that were left out.
use Rattle.std.specs.Prelude.{◌≡◌, ℕ, List, [], ◌∷◌, ◌++◌}
use Rattle.trick_model.specs.Files.{messages_to, session_text}
use Rattle.trick_model.specs.Plan.{Plan}
use Rattle.trick_model.specs.Run.{after_turns, opened}
use Rattle.trick_model.specs.State.{State}
use Rattle.trick_model.specs.Turn.{turn}
use Rattle.trick_model.specs.declared.entry.Entry.{Entry}

-- What was left out of the text of a session are the last messages of one turn, after which nothing was said to it.
pub record AreOfLastTurn (p : Plan) (s : State) (lists : List (List Entry)) (n : ℕ) (dropped : List (List ℕ)) : Type 0 where
  pub early : List (List Entry)
  pub entries : List Entry
  pub late : List (List Entry)
  pub lists_are : lists ≡ early ++ entries ∷ late
  pub kept : List (List ℕ)
  pub of_turn : messages_to n (turn p (after_turns p (opened s) early) entries).said ≡ kept ++ dropped
  pub none_later : session_text p s lists n ≡ session_text p s (early ++ entries ∷ []) n
