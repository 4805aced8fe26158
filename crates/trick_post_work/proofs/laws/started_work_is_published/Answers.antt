use Rattle.trick_post_work.proofs.Published.{is_published}
use Rattle.trick_post_work.proofs.laws.started_work_is_published.Goals as goal

pub returns : goal.returns
returns c = is_published
