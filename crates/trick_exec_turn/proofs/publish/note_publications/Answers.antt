use Rattle.std.proofs.Common.{◌∙◌, sym}
use Rattle.trick_exec_turn.proofs.publish.note_publications.Goals as goal
use Rattle.trick_outside.proofs.DoesLemmas.{does_none}

pub returns-in_default : goal.returns-in_default
returns-in_default g c = λ plan are. does_none _ _ _ (g.met.F.Shelf.called_none _) (λ d. cc) (λ f. cc)

pub returns : goal.returns
returns g c = λ plan are.
    (let stations = rw (sym c.stations.ensures) at are in
    let counted = c.deref.ensures.value ∙ c.in-Ok.ensures plan stations in
    rw counted at c.note.ensures)
