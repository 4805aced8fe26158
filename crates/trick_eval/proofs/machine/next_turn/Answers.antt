use Rattle.std.proofs.Common.{◌≡◌, arith, ap, ◌∙◌, pos}
use Rattle.std.proofs.lemmas.Int.{ints}
use Rattle.trick_eval.proofs.Steps.{deep_some, turn_left, turn_lighter}
use Rattle.trick_eval.proofs.machine.next_turn.Goals as goal
use Rattle.trick_lang.specs.Run.{with_local}
use Rattle.trick_lang.specs.TreeOf.{codes_of}

pub enter-requires : goal.enter-requires
enter-requires c =
    let blocks = c.args.program.now.blocks in
    let some = deep_some blocks blocks c.args.block c.args.program.now.deep_enough in
    rw c.push.ensures (omega (arith, some, c.requires.fits.0))

pub returns-then-number-end-clause-ran : goal.returns-then-number-end-clause-ran
returns-then-number-end-clause-ran c =
    let number : c.set_local.new.self ≡ with_local c.args.working.now c.args.slot (pos c.args.number) = c.set_local.ensures ∙ ap (with_local c.args.working.now c.args.slot) (omega (arith, ints, c.requires.fits.1)) in
    rw (c.enter.ensures, c.push.ensures, number)
    (λ base memory. turn_left c.args.program.now base memory c.args.slot c.args.number c.args.end c.args.block c.args.stack.now.frames c.args.working.now c.if-number-end.true)

pub returns-then-number-end-clause-lighter : goal.returns-then-number-end-clause-lighter
returns-then-number-end-clause-lighter c =
    rw (c.enter.ensures, c.push.ensures)
    (turn_lighter (codes_of c.args.program.now.blocks) c.args.program.now.in_order c.args.slot c.args.number c.args.end c.args.block c.args.stack.now.frames c.if-number-end.true)
