use Rattle.std.proofs.Common.{rules, ◌≤◌, ◌<◌, ◌^◌, arith, length, FitsSigned, w64}
use Rattle.trick_exec_alone.proofs.SumLemmas.{sum_all, sum_more, sum_none}
use Rattle.trick_exec_alone.proofs.sum.sum_of.Goals as goal

pub loop-cell-init : goal.loop-cell-init
loop-cell-init g c = sum_none

pub loop-cell-preserved : goal.loop-cell-preserved
loop-cell-preserved g c =
    let less : c.loop-cell.cell < length (g.M.Cells.numbers c.args.memory.now) = omega (arith, c.len-cell-end.ensures.numbers) in
    let fits : c.loop-cell.sum-bits < 2 ^ 64 = omega arith in
    let also : FitsSigned w64 c.get-sum.result = search rules in
    sum_more (g.M.Cells.numbers c.args.memory.now) c.loop-cell.cell c.loop-cell.sum-bits c.get-sum.result less fits also
    c.loop-cell.invariant c.get-sum.ensures.number

pub returns : goal.returns
returns g c =
    let all : length (g.M.Cells.numbers c.args.memory.now) ≤ c.loop-cell.cell = omega (arith, c.len-cell-end.ensures.numbers) in
    sum_all (g.M.Cells.numbers c.args.memory.now) c.loop-cell.cell c.loop-cell.sum-bits all c.loop-cell.invariant
