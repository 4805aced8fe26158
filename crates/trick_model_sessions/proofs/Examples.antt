-- Two turns of the same lines, and a session that leaves.
use Rattle.std.proofs.Common.{List, [], ◌∷◌, refl}
use Rattle.std.specs.Prelude.{codes}
use Rattle.trick_model_sessions.proofs.Files.{do_the_same}
use Rattle.trick_model_sessions.proofs.Silence.{leaving}
use Rattle.trick_model_sessions.specs.Lines.{TurnsDoSame}
use Rattle.trick_model_sessions.specs.Silence.{IsSilent}
use Rattle.trick_model.specs.Plan.{Plan}
use Rattle.trick_model.specs.Run.{after_turns, opened}
use Rattle.trick_model.specs.State.{State, World}
use Rattle.trick_model.specs.declared.entry.Cause.TheVariants.{HungUp}
use Rattle.trick_model.specs.declared.entry.Entry.{Entry}
use Rattle.trick_model.specs.declared.entry.Entry.TheVariants.{Join, Said, Leave, Publish}

-- session 1 says a line and leaves
abbrev pub one_client : List (List Entry)
one_client = (Join 1 ∷ Said 1 (codes "trick.stop()") ∷ Publish 2 ∷ []) ∷ (Leave 1 HungUp ∷ []) ∷ []

-- session 7 says it, after session 3 joined, and nobody leaves
abbrev pub two_clients : List (List Entry)
two_clients = (Join 3 ∷ Join 7 ∷ Said 7 (codes "trick.stop()") ∷ Publish 2 ∷ []) ∷ [] ∷ []

pub they_do_the_same : (p : Plan) (w : World) → TurnsDoSame p w w one_client two_clients
they_do_the_same p w =
    do_the_same p w w one_client two_clients refl (record { lines = refl; publications = refl }, (record { lines = refl; publications = refl }, tt))

-- session 1 leaves in its second turn, in which session 2 joins and speaks
abbrev pub later_turn : List Entry
later_turn = Join 2 ∷ Leave 1 HungUp ∷ Said 2 (codes "trick.var_send()") ∷ []

pub it_leaves_silently : (p : Plan) (s : State)
    → let w = after_turns p (opened s) ((Join 1 ∷ Said 1 (codes "trick.var_send()") ∷ []) ∷ []) in IsSilent p w later_turn 1
it_leaves_silently p s = leaving p s ((Join 1 ∷ Said 1 (codes "trick.var_send()") ∷ []) ∷ []) later_turn 1 HungUp refl refl
