use Rattle.std.proofs.Common.{◌≡◌, ◌+◌, arith, ap, subst, length, IsTrue, Ok, Err, Some, None}
use Rattle.trick_eval.proofs.Steps.{begun_weighs, deep_some, if_none, if_some, if_stop, picked_fits, picks_lighter, ran_went, rest_all, run_fits}
use Rattle.trick_eval.proofs.machine.perform.Goals as goal
use Rattle.trick_eval.specs.Evaluation.{seen}
use Rattle.trick_eval.specs.Machine.{block_weight, left, picked}
use Rattle.trick_lang.specs.TreeOf.{branches_of, code_of, codes_of, else_of}
use Rattle.trick_lang.specs.Valid.{code_fits}

pub enter-requires : goal.enter-requires
enter-requires c =
    let bs = branches_of c.in-If.branches.items (else_of c.in-If.otherwise) in
    let is : picked bs (seen c.args.base c.args.memory.now c.args.working.now) ≡ Ok (Some c.in-Ok-Some.block) = cc in
    let room = picked_fits c.args.program.now.blocks bs (seen c.args.base c.args.memory.now c.args.working.now) c.in-Ok-Some.block (length c.args.stack.now.frames) c.args.stack.now.room is
    (subst (λ q. IsTrue (code_fits c.args.program.now.blocks (length c.args.stack.now.frames) c.args.stack.now.room q)) (ap code_of c.in-If.is) c.requires.room) in
    omega (arith, room, deep_some c.args.program.now.blocks c.args.program.now.blocks c.in-Ok-Some.block c.args.program.now.deep_enough)

pub returns-in-Declare-clause-ran : goal.returns-in-Declare-clause-ran
returns-in-Declare-clause-ran c = rw (ap code_of c.in-Declare.is) (ran_went c.declare.result _ _ (left c.args.program.now c.args.base c.args.memory.now c.args.stack.now.frames) c.declare.ensures.ran)

pub returns-in-Assign-clause-ran : goal.returns-in-Assign-clause-ran
returns-in-Assign-clause-ran c = rw (ap code_of c.in-Assign.is) (ran_went c.assign.result _ _ (left c.args.program.now c.args.base c.args.memory.now c.args.stack.now.frames) c.assign.ensures.ran)

pub returns-in-Ok-Some-clause-ran : goal.returns-in-Ok-Some-clause-ran
returns-in-Ok-Some-clause-ran c =
    let bs = branches_of c.in-If.branches.items (else_of c.in-If.otherwise) in
    let is : picked bs (seen c.args.base c.args.memory.now c.args.working.now) ≡ Ok (Some c.in-Ok-Some.block) = cc in
    rw (c.enter.ensures, ap code_of c.in-If.is) (if_some c.args.program.now c.args.base c.args.memory.now bs c.args.stack.now.frames c.args.working.now c.in-Ok-Some.block is)

pub returns-in-Ok-Some-clause-fits : goal.returns-in-Ok-Some-clause-fits
returns-in-Ok-Some-clause-fits c =
    let bs = branches_of c.in-If.branches.items (else_of c.in-If.otherwise) in
    let is : picked bs (seen c.args.base c.args.memory.now c.args.working.now) ≡ Ok (Some c.in-Ok-Some.block) = cc in
    let room = picked_fits c.args.program.now.blocks bs (seen c.args.base c.args.memory.now c.args.working.now) c.in-Ok-Some.block (length c.args.stack.now.frames) c.args.stack.now.room is
    (subst (λ q. IsTrue (code_fits c.args.program.now.blocks (length c.args.stack.now.frames) c.args.stack.now.room q)) (ap code_of c.in-If.is) c.requires.room) in
    rw c.enter.ensures (omega (arith, room), omega arith, c.requires.fits)

pub returns-in-Ok-Some-clause-lighter : goal.returns-in-Ok-Some-clause-lighter
returns-in-Ok-Some-clause-lighter c =
    let bs = branches_of c.in-If.branches.items (else_of c.in-If.otherwise) in
    let is : picked bs (seen c.args.base c.args.memory.now c.args.working.now) ≡ Ok (Some c.in-Ok-Some.block) = cc in
    let codes = codes_of c.args.program.now.blocks in
    let less = picks_lighter (block_weight codes) bs _ c.in-Ok-Some.block is in
    let begun = begun_weighs codes c.args.program.now.in_order c.in-Ok-Some.block c.args.stack.now.frames in
    rw (c.enter.ensures, ap code_of c.in-If.is) (omega (arith, less, begun))

pub returns-in-Ok-None-clause-ran : goal.returns-in-Ok-None-clause-ran
returns-in-Ok-None-clause-ran c =
    let bs = branches_of c.in-If.branches.items (else_of c.in-If.otherwise) in
    let is : picked bs (seen c.args.base c.args.memory.now c.args.working.now) ≡ Ok None = cc in
    rw (ap code_of c.in-If.is) (if_none c.args.program.now c.args.base c.args.memory.now bs c.args.stack.now.frames c.args.working.now is)

pub returns-in-Err-clause-ran : goal.returns-in-Err-clause-ran
returns-in-Err-clause-ran c =
    let bs = branches_of c.in-If.branches.items (else_of c.in-If.otherwise) in
    let is : picked bs (seen c.args.base c.args.memory.now c.args.working.now) ≡ Err c.in-Err.stop = cc in
    rw (ap code_of c.in-If.is) (if_stop c.args.program.now c.args.base c.args.memory.now bs c.args.stack.now.frames c.args.working.now c.in-Err.stop is)

pub enter-requires-in-Run : goal.enter-requires-in-Run
enter-requires-in-Run c =
    let room = run_fits c.args.program.now.blocks c.in-Run.block (length c.args.stack.now.frames) c.args.stack.now.room
    (subst (λ q. IsTrue (code_fits c.args.program.now.blocks (length c.args.stack.now.frames) c.args.stack.now.room q)) (ap code_of c.in-Run.is) c.requires.room) in
    omega (arith, room, deep_some c.args.program.now.blocks c.args.program.now.blocks c.in-Run.block c.args.program.now.deep_enough)

pub returns-in-Run-clause-ran : goal.returns-in-Run-clause-ran
returns-in-Run-clause-ran c =
    rw (c.enter-in-Run.ensures, ap code_of c.in-Run.is) (rest_all c.args.program.now c.args.base c.args.memory.now c.in-Run.block c.args.stack.now.frames c.args.working.now)

pub returns-in-Run-clause-lighter : goal.returns-in-Run-clause-lighter
returns-in-Run-clause-lighter c =
    let codes = codes_of c.args.program.now.blocks in
    let begun = begun_weighs codes c.args.program.now.in_order c.in-Run.block c.args.stack.now.frames in
    rw (c.enter-in-Run.ensures, ap code_of c.in-Run.is) (omega (arith, begun))
