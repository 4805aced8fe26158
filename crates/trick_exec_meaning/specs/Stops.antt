-- Where a run stopped.
use Rattle.std.specs.Prelude.{◌≡◌, ◌⊎◌, List, [], ◌∷◌, ◌++◌}
use Rattle.trick_base.specs.Files.{Write}
use Rattle.trick_model.specs.Files.{end_writes, turn_writes, turns_said, turns_writes}
use Rattle.trick_model.specs.Plan.{Plan}
use Rattle.trick_model.specs.Run.{Fits, after_turns, final, opened}
use Rattle.trick_model.specs.Session.{Message}
use Rattle.trick_model.specs.State.{State, World}
use Rattle.trick_model.specs.Turn.{turn}
use Rattle.trick_model.specs.declared.entry.Entry.{Entry}
use Rattle.trick_outside.specs.Calls.{Call}
use Rattle.trick_outside.specs.Does.{IsPartOf}
use Rattle.trick_exec_meaning.specs.Turned.{notes}
use Rattle.trick_exec_tic.specs.Steps.{steps_of}

-- A turn of a world with these entries stopped when it had made these calls and handed over these messages: a part
-- of its calls, the first of its messages, and none of them before its entries were noted.
pub record StopsInTurn (p : Plan) (w : World) (entries : List Entry) (calls : List Call)
    (said : List Message) : Type 0 where
  pub part : IsPartOf calls (steps_of (turn_writes w.state.turn (turn p w entries)))
  pub rest : List Message
  pub front : (turn p w entries).said ≡ said ++ rest
  pub prompt : (said ≡ []) ⊎ ((later : List Call) × (calls ≡ steps_of (notes w.state.turn (turn p w entries)) ++ later))

-- A run from a state, whose source had given these lists, stopped when it had made these calls and handed over these
-- messages; `head` is what it writes before its turns. It stopped before them; or between two turns, as for want of
-- memory; or in its last turn; or among its last files, where it is over.
pub data StopsAt (p : Plan) (s : State) (head : List Write) : List (List Entry) → List Call → List Message
    → Type 0 where
  before : (calls : List Call) → IsPartOf calls (steps_of head) → StopsAt p s head [] calls []
  between : (lists : List (List Entry))
      → StopsAt p s head lists (steps_of (head ++ turns_writes p (opened s) lists)) (turns_said p (opened s) lists)
  in_turn : (lists : List (List Entry)) (entries : List Entry) (calls : List Call) (said : List Message)
      → StopsInTurn p (after_turns p (opened s) lists) entries calls said
      → StopsAt p s head (lists ++ entries ∷ []) (steps_of (head ++ turns_writes p (opened s) lists) ++ calls)
      (turns_said p (opened s) lists ++ said)
  at_end : (lists : List (List Entry)) (calls : List Call) → Fits p s lists
      → IsPartOf calls (steps_of (end_writes p (final p s lists)))
      → StopsAt p s head lists (steps_of (head ++ turns_writes p (opened s) lists) ++ calls)
      (turns_said p (opened s) lists)
