use Rattle.std.proofs.Common.{◌∙◌, ap}
use Rattle.trick_memory.proofs.Found.{position_is}
use Rattle.trick_memory.proofs.names.CellNames.find.Goals as goal
use Rattle.trick_model.specs.Names.{find_name}

pub returns : goal.returns
returns c =
    c.get_index_of.ensures.index
    ∙ (position_is c.args.name.now c.self.inside.set.keys ∙ ap (find_name c.args.name.now) c.self.view_is)
