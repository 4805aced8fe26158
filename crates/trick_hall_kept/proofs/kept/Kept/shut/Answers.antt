use Rattle.std.proofs.Common.{ap, true}
use Rattle.trick_hall_kept.proofs.Tics.{shuts}
use Rattle.trick_hall_kept.specs.HallView.{HallView}
use Rattle.trick_hall_kept.proofs.kept.Kept.shut.Goals as goal

pub returns : goal.returns
returns g c = λ plan log stands none.
    shuts plan log c.args.self.now _ stands none (ap (λ (hall : HallView). record hall { shut = true }) c.self.view_is)
