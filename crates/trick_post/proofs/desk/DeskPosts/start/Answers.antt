use Rattle.trick_post.proofs.Desks.{starts, starts_other}
use Rattle.trick_post_places.specs.Histories.{desk_seat}
use Rattle.trick_turn.specs.Passes.{own}
use Rattle.trick_post.proofs.desk.DeskPosts.start.Goals as goal

pub returns-clause-started : goal.returns-clause-started
returns-clause-started g c =
    starts (own c.args.self.now.rack.pass) (own c.start.new.self.pass) desk_seat c.args.thread c.args.taken.now c.args.work c.start.ensures.adds.1.once

pub returns-clause-others : goal.returns-clause-others
returns-clause-others g c = λ n ne.
    starts_other (own c.args.self.now.rack.pass) (own c.start.new.self.pass) desk_seat c.args.thread c.args.taken.now c.args.work n c.start.ensures.adds.1.once ne
