use Rattle.trick_model.proofs.NamesThere.{type_there}
use Rattle.trick_model.proofs.names.cell_type.Goals as goal

pub returns : goal.returns
returns c =
    rw c.as_slice.ensures (type_there c.args.program.now.cells c.args.cell.0 c.index-as_slice-cell.result c.requires)
