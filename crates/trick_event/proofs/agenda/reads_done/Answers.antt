use Rattle.std.proofs.Common.{rules, ◌≡◌, ◌∙◌, ◌+◌, ◌<◌, ◌≤◌, ap, arith, drop, length, set, subst, sym}
use Rattle.trick_event.proofs.Left.{IsPassing, found_next, none_next, passing_more, passing_stops}
use Rattle.trick_event.proofs.agenda.reads_done.Goals as goal
use Rattle.trick_event.specs.Asking.{asking}
use Rattle.trick_event.specs.Due.{no_read}
use Rattle.trick_model.specs.Events.{Asking, reads_done}
use Rattle.trick_queue.specs.Tree.{FindsFirst, never}

pub returns-in-None-clause-done : goal.returns-in-None-clause-done
returns-in-None-clause-done g c =
    let reads = c.args.plan.now.reads in
    let h = c.loop-passed.invariant.passing in
    let later = subst (λ o. FindsFirst c.loop-passed.tics c.args.tic o) c.in-None.is c.first_by.ensures in
    let now = asking g.M.Cells.numbers c.loop-passed.state c.loop-passed.asked in
    let all = reads_done c.args.tic reads (asking g.M.Cells.numbers c.args.state.now c.args.asked.now) in
    none_next h.0 reads c.loop-passed.tics c.args.tic c.loop-passed.passed now all h.1 h.2 later c.loop-passed.invariant.done

pub loop-passed-preserved : goal.loop-passed-preserved
loop-passed-preserved g c =
    let reads = c.args.plan.now.reads in
    let h = c.loop-passed.invariant.passing in
    let tics = c.loop-passed.tics in
    let place = c.in-Some.place in
    let first = subst (λ o. FindsFirst tics c.args.tic o) c.in-Some.is c.first_by.ensures in
    let now = asking g.M.Cells.numbers c.loop-passed.state c.loop-passed.asked in
    let all = reads_done c.args.tic reads (asking g.M.Cells.numbers c.args.state.now c.args.asked.now) in
    record {
      done = ap (λ (a : Asking). reads_done c.args.tic (drop (place + 1) reads) a) (c.read_done.ensures.done no_read)
          ∙ found_next h.0 reads tics c.args.tic c.loop-passed.passed place now all h.1 c.requires.range h.2 first c.loop-passed.invariant.done;
      memory = c.read_done.ensures.memory;
      passing = (h.0, h.1, subst (λ ts. IsPassing h.0 reads ts c.args.tic (place + 1)) (sym c.set.ensures) (passing_more h.0 reads tics c.args.tic c.loop-passed.passed place h.1 c.requires.range h.2 first));
    }
