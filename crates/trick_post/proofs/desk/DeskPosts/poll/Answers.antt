use Rattle.std.proofs.Common.{List, ap}
use Rattle.trick_post.proofs.Desks.{asks_none}
use Rattle.trick_post.proofs.Lateness.{rose_not_yet}
use Rattle.trick_post_places.specs.Histories.{started_in}
use Rattle.trick_post_places.specs.declared.event.Event.{Event}
use Rattle.trick_post.proofs.desk.DeskPosts.poll.Goals as goal

pub returns-clause-cause : goal.returns-clause-cause
returns-clause-cause g c = λ is. rose_not_yet c.args.self.now.late c.ask.new.self.late c.ask.result c.ask.ensures.late is

pub returns-clause-in_flight : goal.returns-clause-in_flight
returns-clause-in_flight g c = λ n.
    ap (λ (l : List Event). started_in l n)
    (asks_none c.args.thread c.args.self.now.rack.pass c.ask.new.self.rack.pass c.ask.result c.ask.ensures.answer)
