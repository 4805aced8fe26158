use Rattle.trick_check_meaning_of_jobs.proofs.Effects.{Laws, methods_keep}
use Rattle.trick_check_meaning_of_jobs.proofs.laws.methods_keep.Goals as goal

pub returns : goal.returns
returns c =
    let laws : Laws = record {
      wraps = c.wrap_law.ensures;
      places = c.place_law.ensures;
      objects = c.object_law.ensures;
      tell = c.tables_law.ensures;
      keep = c.tables_keep.ensures;
      declared = c.declared_law.ensures;
      unfolded = c.unfold_law.ensures;
      count = c.count_law.ensures;
      blocks = c.block_law.ensures;
      order = c.one_order_law.ensures;
    } in
    methods_keep laws
