use Rattle.std.proofs.Common.{rules, ◌≡◌, false, refl}
use Rattle.trick_model.specs.Turn.{is_frozen}
use Rattle.trick_serve_source.proofs.Calm.{calm_next}
use Rattle.trick_serve_source.proofs.Looking.{went_calm}
use Rattle.trick_serve_source.proofs.entries.ServedTurns.gives_nothing.Goals as goal
use Rattle.trick_serve_source.specs.Rolls.{view_of}

pub returns-clause-step : goal.returns-clause-step
returns-clause-step g c = λ yes.
    let s = c.args.self.now in
    let runs : is_frozen c.args.state.now.mode ≡ false = search rules in
    let calm = c.is_calm.ensures.calm yes in
    record {
      went = went_calm c.args.there.now _ c.args.state.now.mode (view_of s) (c.is_calm.ensures.whole yes) runs
          (calm_next s.roll.seats.items s.roll.live.items s.reached.items calm) (s.quiet (c.is_calm.ensures.asked yes)) calm.quick;
      same = refl;
    }

pub returns-clause-rules : goal.returns-clause-rules
returns-clause-rules g c = λ yes.
    let s = c.args.self.now in
    calm_next s.roll.seats.items s.roll.live.items s.reached.items (c.is_calm.ensures.calm yes)
