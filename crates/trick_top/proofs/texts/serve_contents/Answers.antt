use Rattle.trick_top.proofs.texts.serve_contents.Goals as goal
use Rattle.trick_top.proofs.ServeLemmas.{served_same}

pub returns : goal.returns
returns g c = served_same _ _ _ _ _ c.as_sources.ensures c.serve_texts.ensures
