use Rattle.std.proofs.Common.{rules, ◌≡◌, ◌∙◌, ◌<◌, ap, pos, List, replicate, sym, subst, take, length, slice_index_or, arith}
use Rattle.std.proofs.lemmas.List.{take_all}
use Rattle.std.specs.Prelude.{ℤ}
use Rattle.trick_lang.proofs.Variables.{scalars_length}
use Rattle.trick_lang.specs.Effect.{scalars_of}
use Rattle.trick_lang.specs.declared.scalar.Scalar.{Scalar}
use Rattle.trick_post_trays.proofs.Writes.{taken_scalar, zeros_stored}
use Rattle.trick_post_trays.specs.Scratch.{AreStored}
use Rattle.trick_post_trays.proofs.scratch.Scratch.new.Goals as goal

pub loop-variable-preserved : goal.loop-variable-preserved
loop-variable-preserved c =
    let cells = c.args.program.now.cells in
    let i = c.loop-variable.variable-index in
    let variable = c.variable-item.result in
    let there : i < length cells = search (rules, c.loop-variable-test.true) in
    let cell : slice_index_or cells i variable ≡ variable = search rules in
    c.in_ok-push.ensures.items ∙ rw c.loop-variable.invariant (taken_scalar cells i variable there cell)

pub invariant_of-result : goal.invariant_of-result
invariant_of-result c =
    let cells = c.args.program.now.cells in
    let count : c.loop-variable.variable-index ≡ length cells = search (rules, c.loop-variable-test.false, c.loop-variable.auto.variable-index-end) in
    let all : take c.loop-variable.variable-index cells ≡ cells = take_all c.loop-variable.variable-index cells (omega (arith, count)) in
    let scalars : c.loop-variable.scalars.items ≡ scalars_of cells = c.loop-variable.invariant ∙ ap scalars_of all in
    let numbers : c.in_ok-numbers.numbers.items ≡ replicate (length cells) (pos 0) = search rules in
    subst (λ (ss : List Scalar). AreStored ss c.in_ok-numbers.numbers.items) (sym scalars)
    (subst (λ (ns : List ℤ). AreStored (scalars_of cells) ns) (sym numbers)
    (zeros_stored (scalars_of cells) (length cells) (scalars_length cells) c.args.program.now.cell_limit))
