use Rattle.trick_chkpt.proofs.IsSound.{checkpoint_sound}
use Rattle.trick_chkpt.proofs.loader.load.Goals as goal
use Rattle.trick_chkpt_lines.specs.CheckpointLines.{checkpoint}
use Rattle.trick_codes.proofs.Loading.{loads}
use Rattle.trick_model.specs.State.{seen}

pub returns-clause-loaded : goal.returns-clause-loaded
returns-clause-loaded g c =
    loads (checkpoint c.args.plan.now) (checkpoint_sound c.args.plan.now) c.args.text.now (seen g.M.Cells.numbers)
    c.read_state.result c.whole.result c.read_state.ensures.told c.whole.ensures
