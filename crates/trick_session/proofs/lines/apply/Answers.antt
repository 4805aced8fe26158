use Rattle.trick_base.proofs.Results.{if_ok}
use Rattle.trick_session.proofs.lines.apply.Goals as goal

pub returns-in-Exists-clause-answer : goal.returns-in-Exists-clause-answer
returns-in-Exists-clause-answer c = if_ok c.exists.result (λ reply all. rw c.in-Exists.is (all c.args.session.now)) c.exists.ensures.answer
