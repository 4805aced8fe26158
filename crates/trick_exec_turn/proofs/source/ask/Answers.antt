use Rattle.std.proofs.Common.{ℕ, refl, subst}
use Rattle.trick_exec_turn.proofs.source.ask.Goals as goal
use Rattle.trick_model.specs.State.{State, seen}
use Rattle.trick_exec_sources.specs.Gap.{Gap, GivesNone, IfGap}

pub returns-clause-gap : goal.returns-clause-gap
returns-clause-gap g c =
    let turns = g.T.Turns in
    subst (λ (old : g.row.T.Denot). IfGap c.entries.result (λ (count : ℕ). Gap {U = g.row.T.Denot}
    (λ (s : State) (before now : g.row.T.Denot). GivesNone {U = g.row.T.Denot} turns.went turns.owes turns.journal turns.decided turns.sessions c.args.live.now s before now)
    (seen g.M.Cells.numbers c.args.state.now) count old c.entries.new.self)) (c.if-gives_nothing.ensures.unchanged refl) c.entries.ensures.gap
