use Rattle.std.proofs.Common.{◌≡◌, ◌+◌, ◌++◌, ◌∷◌, [], ◌<◌, length, take, rules, arith, refl, subst, sym, ap, ◌∙◌, w64, to_z, of_z}
use Rattle.std.proofs.lemmas.List.{take_more_set}
use Rattle.std.specs.Prelude.{pos, ℤ}
use Rattle.trick_chkpt_lines.proofs.Within.{in_range_at}
use Rattle.trick_chkpt_lines.proofs.cells.read_memory.Goals as goal
use Rattle.trick_chkpt_lines.specs.CheckpointLines.{memory_of}
use Rattle.trick_chkpt_lines.specs.Ranges.{range_of}
use Rattle.trick_codes.proofs.Each.{lines_go_on, lines_start}
use Rattle.trick_codes.specs.Named.{integer_line}
use Rattle.trick_lang.proofs.Variables.{scalars_length}
use Rattle.trick_lang.specs.Effect.{scalars_of}
use Rattle.trick_lang.specs.Wrap.{IsInRange}
use Rattle.trick_lang.specs.declared.variable.Variable.{Variable}

pub loop-i-init : goal.loop-i-init
unfolding memory_of
loop-i-init g c =
    let cells = c.args.plan.now.program.cells in
    let all : length (g.M.Cells.scalars c.args.memory) ≡ length cells = ap length c.requires ∙ scalars_length cells in
    record {
      count = c.len-count.ensures.scalars ∙ all;
      size = sym c.len-count.ensures.numbers ∙ c.len-count.ensures.scalars ∙ all;
      scalars = c.requires;
      going = lines_start (pos 0) (λ (v : Variable). integer_line v.name (range_of v.scalar)) cells [] c.args.rest.now refl;
    }

pub loop-i-preserved : goal.loop-i-preserved
unfolding memory_of
loop-i-preserved g c =
    let cells = c.args.plan.now.program.cells in
    let old = g.M.Cells.numbers c.loop-i.memory in
    let n = c.in_ok-number.number in
    let same : to_z w64 (of_z w64 n) ≡ n = search rules in
    let here : c.loop-i.i < length old = omega (arith, c.loop-i-test.true, c.loop-i.invariant.count, c.loop-i.invariant.size) in
    let in_cells : c.loop-i.i < length cells = omega (arith, c.loop-i.invariant.size) in
    record {
      count = c.loop-i.invariant.count;
      size = search rules;
      scalars = c.set.ensures.scalars ∙ c.loop-i.invariant.scalars;
      going =
          lines_go_on (pos 0) (λ (v : Variable). integer_line v.name (range_of v.scalar)) cells c.loop-i.i c.index-cells-i.result
          (take c.loop-i.i old) (take (c.loop-i.i + 1) (g.M.Cells.numbers c.set.new.self)) n
          c.loop-i.here.now c.in_ok-number.after.now _ in_cells (search rules)
          (ap (take (c.loop-i.i + 1)) c.set.ensures.numbers
          ∙ take_more_set old c.loop-i.i (to_z w64 (of_z w64 n)) here ∙ ap (λ (k : ℤ). take c.loop-i.i old ++ k ∷ []) same)
          c.loop-i.invariant.going;
    }

pub set-requires-clause-range : goal.set-requires-clause-range
set-requires-clause-range g c =
    let cells = c.args.plan.now.program.cells in
    let n = c.in_ok-number.number in
    let same : to_z w64 (of_z w64 n) ≡ n = search rules in
    let in_cells : c.loop-i.i < length cells = omega (arith, c.loop-i-test.true, c.loop-i.invariant.count) in
    subst (λ scalars. IsInRange scalars c.loop-i.i (to_z w64 (of_z w64 n))) (sym c.loop-i.invariant.scalars)
    (subst (IsInRange (scalars_of cells) c.loop-i.i) (sym same)
    (in_range_at c.as_slice-cells.result.now cells c.loop-i.i c.index-cells-i.result n c.as_slice-cells.ensures in_cells c.index-cells-i.is c.in_ok-number.ensures.range))
