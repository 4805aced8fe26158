use Rattle.trick_post_trays.proofs.OneTrays.{none_started}
use Rattle.trick_post_trays.proofs.one_post.OnePost.new.Goals as goal

pub returns-clause-none : goal.returns-clause-none
returns-clause-none c = none_started c.in_ok-trays.trays.items c.in_ok-trays.ensures.empty
