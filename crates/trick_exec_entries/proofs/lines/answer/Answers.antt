use Rattle.std.proofs.Common.{◌≡◌, ◌≤◌, length, arith, sym}
use Rattle.trick_base.proofs.Results.{if_ok}
use Rattle.trick_exec_entries.proofs.lines.answer.Goals as goal
use Rattle.trick_model.specs.declared.session.Session.{Session}

pub returns-in-Some-clause-answer : goal.returns-in-Some-clause-answer
returns-in-Some-clause-answer c =
    let short : length c.args.line.now ≤ 16777216 = omega (arith, c.requires.line) in
    let said = c.in_ok-command.ensures.said short in
    let same = c.in-Some.ensures.1 c.index-sessions-place.result in
    let session = c.apply.new.session in
    if_ok c.apply.result
    (λ reply is. (session, cc (is, said, same, c.index-sessions-place.is), sym (c.in-Some.ensures.2 (λ (s : Session). session) c.index-sessions-place.result)))
    c.apply.ensures.answer

pub returns-in-None-clause-answer : goal.returns-in-None-clause-answer
returns-in-None-clause-answer c =
    let short : length c.args.line.now ≤ 16777216 = omega (arith, c.requires.line) in
    let said = c.in_ok-command.ensures.said short in
    let same = c.in-None.ensures.0 in
    let new = c.join.ensures in
    let session = c.apply-in-None.new.session in
    if_ok c.apply-in-None.result
    (λ reply is. (session, cc (is, said, same, new), sym (c.in-None.ensures.1 (λ (s : Session). session))))
    c.apply-in-None.ensures.answer
