use Rattle.std.proofs.Common.{◌≡◌, ◌∷◌, ◌+◌, ◌<◌, ◌≤◌, arith, ap, sym, subst, ◌∙◌, length, drop, IsTrue, nat_lt, OnOk, slice_index_or, ℕ, List}
use Rattle.trick_lang.proofs.Frame.{body_stays}
use Rattle.trick_access.proofs.There.{block_is}
use Rattle.trick_eval.proofs.Steps.{block_past, code_end, code_next, deep_some, pass_at, rest_end, rest_next, rest_weighs, room_at}
use Rattle.trick_eval.proofs.machine.go_on.Goals as goal
use Rattle.trick_lang.specs.Blocks.{block_at}
use Rattle.trick_eval.specs.Evaluation.{setting_of}
use Rattle.trick_eval.specs.Frames.{Frames}
use Rattle.trick_eval.specs.Machine.{Went, block_weight, code_weight, left, stack_weight}
use Rattle.trick_eval.specs.declared.stack.Frame.TheVariants.{Rest}
use Rattle.trick_lang.specs.Numbers.{and_then}
use Rattle.trick_lang.specs.Run.{run}
use Rattle.trick_lang.specs.TreeOf.{code_list, code_of, codes_of}
use Rattle.trick_lang.specs.Valid.{code_fits}
use Rattle.trick_lang.specs.declared.tree.Block.{Block}
use Rattle.trick_lang.specs.declared.tree.Stmt.{Stmt}

-- the statement in a block, and those after it
here : (bs read : List Block) (block at : ℕ) (item : Block) (all : List Stmt) (statement : Stmt) → read ≡ bs → block < length read → item ≡ slice_index_or read block item → all ≡ (slice_index_or read block item).statements → at < length all → statement ≡ slice_index_or all at statement → drop at (block_at (codes_of bs) block) ≡ code_of statement ∷ drop (at + 1) (block_at (codes_of bs) block)
here bs read block at item all statement same lt is of at_lt at_is =
    let whole : block_at (codes_of bs) block ≡ code_list all =
    ap (λ q. block_at (codes_of q) block) (sym same) ∙ block_is read block item lt is ∙ ap code_list (ap (λ (q : Block). q.statements) is ∙ sym of) in
    subst (λ q. drop at q ≡ code_of statement ∷ drop (at + 1) q) (sym whole) (code_next all at statement at_lt at_is)

pub returns-then-block-blocks-clause-ran : goal.returns-then-block-blocks-clause-ran
returns-then-block-blocks-clause-ran c =
    let blocks = c.args.program.now.blocks in
    rest_end c.args.program.now c.args.base c.args.memory.now c.args.block c.args.at c.args.stack.now.frames c.args.working.now
    (block_past blocks c.args.block c.args.at (subst (λ xs. length xs ≤ c.args.block) c.as_slice-blocks.ensures c.if-block-blocks.true))

pub returns-then-at-statements-clause-ran : goal.returns-then-at-statements-clause-ran
returns-then-at-statements-clause-ran c =
    let blocks = c.args.program.now.blocks in
    let read = c.as_slice-blocks.result.now in
    let item = c.index-blocks-block.result in
    let all = c.as_slice-statements.result.now in
    let whole : block_at (codes_of blocks) c.args.block ≡ code_list all =
    ap (λ q. block_at (codes_of q) c.args.block) (sym c.as_slice-blocks.ensures) ∙ block_is read c.args.block item c.if-block-blocks.false c.index-blocks-block.is ∙ ap code_list (ap (λ (q : Block). q.statements) c.index-blocks-block.is ∙ sym c.as_slice-statements.ensures) in
    rest_end c.args.program.now c.args.base c.args.memory.now c.args.block c.args.at c.args.stack.now.frames c.args.working.now
    (ap (drop c.args.at) whole ∙ code_end all c.args.at c.if-at-statements.true)

pub push-requires : goal.push-requires
push-requires c =
    let blocks = c.args.program.now.blocks in
    let some = deep_some blocks blocks c.args.block c.args.program.now.deep_enough in
    omega (arith, some, c.requires.fits.0)

pub perform-requires-clause-passes : goal.perform-requires-clause-passes
perform-requires-clause-passes c =
    let blocks = c.args.program.now.blocks in
    pass_at (block_at (codes_of blocks) c.args.block) c.args.at (code_of c.index-statements-at.result) (drop (c.args.at + 1) (block_at (codes_of blocks) c.args.block))
    (here blocks c.as_slice-blocks.result.now c.args.block c.args.at c.index-blocks-block.result c.as_slice-statements.result.now c.index-statements-at.result c.as_slice-blocks.ensures c.if-block-blocks.false c.index-blocks-block.is c.as_slice-statements.ensures c.if-at-statements.false c.index-statements-at.is)
    (body_stays (codes_of blocks) c.args.block c.args.program.now.in_span)

pub perform-requires-clause-room : goal.perform-requires-clause-room
perform-requires-clause-room c =
    let blocks = c.args.program.now.blocks in
    subst (λ (q : Frames). IsTrue (code_fits blocks (length q.frames) q.room (code_of c.index-statements-at.result))) (sym c.push.ensures)
    (room_at blocks c.args.block c.args.at (code_of c.index-statements-at.result) (drop (c.args.at + 1) (block_at (codes_of blocks) c.args.block)) (length c.args.stack.now.frames) c.args.stack.now.room c.args.program.now.deep_enough
    (here blocks c.as_slice-blocks.result.now c.args.block c.args.at c.index-blocks-block.result c.as_slice-statements.result.now c.index-statements-at.result c.as_slice-blocks.ensures c.if-block-blocks.false c.index-blocks-block.is c.as_slice-statements.ensures c.if-at-statements.false c.index-statements-at.is)
    c.requires.fits.0)

pub returns-clause-ran : goal.returns-clause-ran
returns-clause-ran c =
    let p = c.args.program.now in
    let b = code_of c.index-statements-at.result in
    let next : left p c.args.base c.args.memory.now (Rest c.args.block c.args.at ∷ c.args.stack.now.frames) c.args.working.now ≡ and_then (run b (setting_of p c.args.base c.args.memory.now) c.args.working.now) (left p c.args.base c.args.memory.now c.push.new.self.frames) =
    rest_next p c.args.base c.args.memory.now c.args.block c.args.at b c.args.stack.now.frames c.args.working.now
    (here p.blocks c.as_slice-blocks.result.now c.args.block c.args.at c.index-blocks-block.result c.as_slice-statements.result.now c.index-statements-at.result c.as_slice-blocks.ensures c.if-block-blocks.false c.index-blocks-block.is c.as_slice-statements.ensures c.if-at-statements.false c.index-statements-at.is)
    ∙ ap (λ (q : Frames). and_then (run b (setting_of p c.args.base c.args.memory.now) c.args.working.now) (left p c.args.base c.args.memory.now q.frames)) (sym c.push.ensures) in
    subst (λ q. Went c.perform.result q (left p c.args.base c.args.memory.now c.perform.new.stack.frames c.perform.new.working)) (sym next) c.perform.ensures.ran

pub returns-clause-lighter : goal.returns-clause-lighter
returns-clause-lighter c =
    let p = c.args.program.now in
    let b = code_of c.index-statements-at.result in
    let bs = codes_of p.blocks in
    let weighs = rest_weighs bs c.args.block c.args.at b c.args.stack.now.frames
    (here p.blocks c.as_slice-blocks.result.now c.args.block c.args.at c.index-blocks-block.result c.as_slice-statements.result.now c.index-statements-at.result c.as_slice-blocks.ensures c.if-block-blocks.false c.index-blocks-block.is c.as_slice-statements.ensures c.if-at-statements.false c.index-statements-at.is) in
    subst (λ n. OnOk c.perform.result (stack_weight bs c.perform.new.stack.frames < n)) (sym weighs)
    (subst (λ (q : Frames). OnOk c.perform.result (stack_weight bs c.perform.new.stack.frames < code_weight b (block_weight bs) + stack_weight bs q.frames)) c.push.ensures c.perform.ensures.lighter)
