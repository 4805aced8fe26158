use Rattle.std.proofs.Common.{ap, subst, sym, ◌∙◌}
use Rattle.std.specs.Arc.{arc_value}
use Rattle.trick_outside.specs.Causes.{Rose}
use Rattle.trick_wire.specs.Ends.{taken_by}
use Rattle.trick_wire.specs.HasHeard.{HasHeard}
use Rattle.trick_wire_tests.proofs.session.serve.Goals as goal

pub end_writer-output-requires-clause-outbox : goal.end_writer-output-requires-clause-outbox
end_writer-output-requires-clause-outbox g c = let kept = c.finish.ensures _ c.begun-writing.ensures in
    ap arc_value c.talk.ensures.outbox ∙ c.parts_of-reader.ensures.outbox ∙ ap arc_value (sym kept.0)

pub end_writer-output-requires-clause-causes : goal.end_writer-output-requires-clause-causes
end_writer-output-requires-clause-causes g c = let kept = c.finish.ensures _ c.begun-writing.ensures in
    ap arc_value kept.1 ∙ c.parts_of-reader.ensures.causes ∙ ap arc_value (sym c.talk.ensures.causes)

pub end_reader-input-requires : goal.end_reader-input-requires
end_reader-input-requires g c = let kept = c.finish-2.ensures _ c.begun-reading.ensures in
    record { inbox = ap arc_value kept.0 ∙ c.parts_of-reader.ensures.inbox ∙ ap arc_value (sym c.talk.ensures.inbox) }

pub returns : goal.returns
returns g c =
    let kept = c.finish-2.ensures _ c.begun-reading.ensures in
    let reader = c.parts_of-reader.result.0 in
    let later = g.I.LinkIn.failures c.end_reader-input.result.0 in
    let heard = subst (λ taken. HasHeard (g.I.LinkIn.holds reader.link) (Rose (g.I.LinkIn.failures reader.link) later) taken) (sym c.end_reader-input.ensures.taken)
    (c.end_reader-input.ensures.heard (g.I.LinkIn.holds reader.link) (g.I.LinkIn.failures reader.link) (kept.1 c.parts_of-reader.ensures.none)) in
    record {
      heard = subst (λ link. HasHeard (g.I.LinkIn.holds link) (Rose (g.I.LinkIn.failures link) later) (taken_by c.end_reader-input.new.inbox)) c.parts_of-reader.ensures.link heard;
    }
