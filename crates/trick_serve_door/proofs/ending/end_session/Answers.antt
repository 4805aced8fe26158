use Rattle.std.proofs.Common.{◌∙◌, ap, sym}
use Rattle.trick_serve_door.proofs.ending.end_session.Goals as goal
use Rattle.trick_wire.specs.HasWritten.{cause_of}

pub returns-clause-heard : goal.returns-clause-heard
returns-clause-heard g c = λ arrival past. c.end_reader-input.ensures.heard _ _ past.reader.read

pub returns-clause-sent : goal.returns-clause-sent
returns-clause-sent g c = λ arrival past. c.end_writer-output.ensures.sent _ _ past.writer.wrote

pub returns-clause-cause : goal.returns-clause-cause
returns-clause-cause g c = λ arrival past. c.end_writer-output.ensures.cause past.writer.cause

pub returns-clause-told : goal.returns-clause-told
returns-clause-told g c = λ had lacked arrival past. sym c.end_writer-output.ensures.taken ∙ sym (c.has_lacked-lacked.ensures.all had lacked) ∙ c.end_writer-output.ensures.given ∙ past.writer.cause
    ∙ ap cause_of (c.has_lacked-lacked.ensures.stop had lacked)
