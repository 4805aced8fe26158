use Rattle.std.proofs.Common.{◌≡◌, drop, length, take}
use Rattle.std.specs.Prelude.{pos}
use Rattle.trick_chkpt_lines.proofs.cells.read_memory.Given as goal
use Rattle.trick_chkpt_lines.specs.CheckpointLines.{memory_of}
use Rattle.trick_chkpt_lines.specs.Ranges.{range_of}
use Rattle.trick_codes.proofs.Each.{lines_left}
use Rattle.trick_codes.specs.Lines.{read_lines}
use Rattle.trick_codes.specs.Named.{integer_line}
use Rattle.trick_lang.specs.Effect.{scalars_of}
use Rattle.trick_lang.specs.declared.variable.Variable.{Variable}

abbrev pub invariant-loop-i : goal.invariant-loop-i
invariant-loop-i g l = record {
  count : l.count ≡ length l.plan.program.cells;
  size : length (g.M.Cells.numbers l.memory) ≡ length l.plan.program.cells;
  scalars : g.M.Cells.scalars l.memory ≡ scalars_of l.plan.program.cells;
  going : lines_left (pos 0) (λ (v : Variable). integer_line v.name (range_of v.scalar)) (drop l.i l.plan.program.cells)
      (take l.i (g.M.Cells.numbers l.memory)) l.here ≡ read_lines (memory_of l.plan) l.fn.rest;
}
