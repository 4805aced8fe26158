use Rattle.std.proofs.Common.{rules, ◌≡◌, ◌∙◌, ◌+◌, ◌<◌, ap, arith, drop, length}
use Rattle.trick_event.proofs.Steps.{reads_next}
use Rattle.trick_event.proofs.due.reads_done.Goals as goal
use Rattle.trick_event.specs.Asking.{asking}
use Rattle.trick_event.specs.Due.{no_read}
use Rattle.trick_model.specs.Events.{reads_done}

pub loop-place-preserved : goal.loop-place-preserved
loop-place-preserved g c =
    let reads = c.args.plan.now.reads in
    let place = c.loop-place.place in
    let before = asking g.M.Cells.numbers c.loop-place.state c.loop-place.asked in
    let all = reads_done c.args.tic reads (asking g.M.Cells.numbers c.args.state.now c.args.asked.now) in
    let less : place < length reads = omega arith in
    record {
      done = ap (λ a. reads_done c.args.tic (drop (place + 1) reads) a) (c.read_done.ensures.done no_read)
          ∙ reads_next c.args.tic place reads no_read before all less c.loop-place.invariant.done;
      memory = c.read_done.ensures.memory;
    }
