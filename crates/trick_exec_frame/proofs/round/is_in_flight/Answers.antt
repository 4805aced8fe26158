use Rattle.std.proofs.Common.{◌∙◌, sym}
use Rattle.trick_exec_frame.proofs.ChoiceLemmas.{flight_none, flight_some}
use Rattle.trick_exec_frame.proofs.round.is_in_flight.Goals as goal
use Rattle.trick_model.specs.State.{seen}

pub returns-in-Some : goal.returns-in-Some
returns-in-Some g c = λ plan are. (c.has_round.ensures
    ∙ flight_some plan c.args.stations.now c.args.number c.index-stations-place.result (seen g.M.Cells.numbers c.args.state.now) are
    (sym c.in-Some.ensures))

pub returns-in-None : goal.returns-in-None
returns-in-None g c = λ plan are.
    flight_none plan c.args.stations.now c.args.number (seen g.M.Cells.numbers c.args.state.now) are (sym c.in-None.ensures)
