use Rattle.std.proofs.Common.{subst, sym, ◌∙◌}
use Rattle.trick_wire.proofs.Joining.{cause_front}
use Rattle.trick_wire.proofs.Writing.{wrote_hung}
use Rattle.trick_wire.specs.HasWritten.{HasWritten}
use Rattle.trick_wire.proofs.join.end_writer.Goals as goal

pub returns-clause-cause : goal.returns-clause-cause
returns-clause-cause g c = λ is. cause_front _ _ c.join.ensures.left.0 (sym is ∙ c.join.ensures.left.1)

pub returns-clause-sent : goal.returns-clause-sent
returns-clause-sent g c = λ told before w. subst (λ put. HasWritten told (g.O.LinkOut.holds c.hang_up.new.self) before (g.O.LinkOut.failures c.hang_up.new.self) c.go_on-last.result put) c.join-2.ensures.given
    (wrote_hung told _ _ before _ _ _ _
    (c.go_on-last.ensures.wrote told before (subst (λ taken. HasWritten told (g.O.LinkOut.holds c.args.writer.link) before (g.O.LinkOut.failures c.args.writer.link) c.args.writer.stop taken) (sym c.join-2.ensures.taken) w))
    c.hang_up.ensures.taken c.hang_up.ensures.later)
