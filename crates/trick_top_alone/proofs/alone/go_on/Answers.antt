use Rattle.trick_top_alone.proofs.GoneLemmas.{performed_same}
use Rattle.trick_top_alone.proofs.alone.go_on.Goals as goal

pub returns : goal.returns
returns g c = performed_same _ _ _ _ c.as_sources.ensures c.perform_on.ensures
