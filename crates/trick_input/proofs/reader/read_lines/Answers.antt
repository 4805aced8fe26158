use Rattle.std.proofs.Common.{subst}
use Rattle.std.proofs.lemmas.Result.{err_from_is_err_and}
use Rattle.trick_input.proofs.Cuts.{read_on, refused_here}
use Rattle.trick_input.specs.Answers.{IsCall}
use Rattle.trick_input.specs.Lines.{line_call}
use Rattle.trick_input.proofs.reader.read_lines.Goals as goal

pub read_next-requires : goal.read_next-requires
read_next-requires c = (c.front_line.ensures.tokens c.args.text.now c.loop-rest.invariant.tokens).0

pub returns-in_err-read_next : goal.returns-in_err-read_next
returns-in_err-read_next c =
    let line = c.front_line.result.0.now in
    let p = err_from_is_err_and c.from_residual.result c.from_residual.ensures.1 in
    rw (p.1, p.2)
    (refused_here c.args.text.now c.args.fault c.loop-rest.found.items c.loop-rest.rest.now line c.front_line.result.1.now _ c.in_err-read_next.field-0.0 c.front_line.ensures.front
    (subst (IsCall (line_call c.args.text.now c.args.fault line)) c.in_err-read_next.was c.read_next.ensures) c.loop-rest.invariant.read)

pub loop-rest-preserved : goal.loop-rest-preserved
loop-rest-preserved c =
    let line = c.front_line.result.0.now in
    record {
      read = read_on c.args.text.now c.args.fault c.loop-rest.found.items c.push.new.self.items c.loop-rest.rest.now line c.front_line.result.1.now _ c.in_ok-read_next.field-0 c.front_line.ensures.front
          (subst (IsCall (line_call c.args.text.now c.args.fault line)) c.in_ok-read_next.was c.read_next.ensures) c.in_ok-push.ensures.items c.loop-rest.invariant.read;
      tokens = (c.front_line.ensures.tokens c.args.text.now c.loop-rest.invariant.tokens).1;
    }
