-- What a session is sent, turn by turn.
use Rattle.std.proofs.Common.{◌∙◌, List, [], ◌∷◌, ◌++◌, ℕ, ap, append-nil}
use Rattle.trick_model.proofs.Runs.{runs_join}
use Rattle.trick_model.specs.Files.{messages_to, turns_said}
use Rattle.trick_model.specs.Run.{after_turns, opened}
use Rattle.trick_model.specs.Session.{Message, samples}
use Rattle.trick_model.specs.Turn.{begun, heard, replies, turn}
use Rattle.trick_serve_facts.proofs.Keeping.{messages_join}
use Rattle.trick_serve_facts.specs.Texts.{TextsAreByTurns}

pub texts_by_turns : TextsAreByTurns
texts_by_turns p s lists entries n =
    let w = after_turns p (opened s) lists in
    let said = turns_said p (opened s) lists in
    ap (λ (l : List Message). messages_to n l) (runs_join.said p (opened s) lists (entries ∷ []))
    ∙ ap (λ (l : List Message). messages_to n (said ++ l)) (append-nil (turn p w entries).said)
    ∙ messages_join n said (turn p w entries).said
    ∙ ap (λ (l : List (List ℕ)). messages_to n said ++ l)
    (messages_join n (replies p entries (begun w)) (samples w.state.tic (turn p w entries).world.state (heard p entries (begun w)).sessions))
