use Rattle.std.proofs.Common.{◌≡◌, ◌∙◌, ℕ, ◌+◌, ◌-◌, ◌^◌, ◌<◌, ◌≤◌, ap, arith, length, min, subst, sym}
use Rattle.trick_model.specs.FaultList.{FaultList, kept}
use Rattle.trick_post_trays.proofs.Dated.{all_dated, counts_kept, dated_more, dates_few, dates_many}
use Rattle.trick_post_trays.proofs.outputs.Outputs.add_faults.Goals as goal

pub loop-fault-preserved : goal.loop-fault-preserved
loop-fault-preserved c =
    c.add.ensures
    ∙ dated_more c.args.tic c.first-fault-items.result.now c.loop-fault.fault-index _ c.args.faults.now c.loop-fault.faults c.loop-fault-test.true c.loop-fault.invariant

pub count_more-requires : goal.count_more-requires
count_more-requires c =
    let mine = c.args.self.now.faults in
    let added = all_dated c.args.tic c.first-fault-items.result.now mine.first c.loop-fault.fault-index c.args.faults.now c.loop-fault.faults c.loop-fault-test.false
    c.first-fault-items.ensures c.loop-fault.invariant in
    let long : length mine.first ≡ kept = omega (arith, c.requires.kept, c.if-more-gt0.true, c.count.ensures, ap length c.first.ensures) in
    subst (λ (f : FaultList). kept ≤ f.count) (sym added) (counts_kept c.args.tic mine c.args.faults.now long)

pub returns-then-more-gt0 : goal.returns-then-more-gt0
returns-then-more-gt0 c = λ early is.
    let mine = c.args.self.now.faults in
    let added = all_dated c.args.tic c.first-fault-items.result.now mine.first c.loop-fault.fault-index c.args.faults.now c.loop-fault.faults c.loop-fault-test.false
    c.first-fault-items.ensures c.loop-fault.invariant in
    let some : length mine.first < mine.count = omega (arith, c.if-more-gt0.true, c.count.ensures, ap length c.first.ensures) in
    let more : c.count.result - length c.first.result.now ≡ mine.count - length mine.first = omega (arith, c.count.ensures, ap length c.first.ensures) in
    c.count_more.ensures
    ∙ ap (λ (n : ℕ). record { count = min (c.loop-fault.faults.count + n) (2 ^ 64 - 1); first = c.loop-fault.faults.first }) more
    ∙ dates_many c.args.tic early mine c.args.faults.now c.loop-fault.faults is some added

pub returns-else-more-gt0 : goal.returns-else-more-gt0
returns-else-more-gt0 c = λ early is.
    let mine = c.args.self.now.faults in
    let added = all_dated c.args.tic c.first-fault-items.result.now mine.first c.loop-fault.fault-index c.args.faults.now c.loop-fault.faults c.loop-fault-test.false
    c.first-fault-items.ensures c.loop-fault.invariant in
    let none : mine.count ≤ length mine.first = omega (arith, c.if-more-gt0.false, c.count.ensures, ap length c.first.ensures) in
    added ∙ dates_few c.args.tic early mine c.args.faults.now is none
