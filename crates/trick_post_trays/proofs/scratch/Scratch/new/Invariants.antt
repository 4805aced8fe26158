use Rattle.std.proofs.Common.{◌≡◌, take}
use Rattle.trick_lang.specs.Effect.{scalars_of}
use Rattle.trick_post_trays.proofs.scratch.Scratch.new.Given as goal

-- the types of the first cells
abbrev pub invariant-loop-variable : goal.invariant-loop-variable
invariant-loop-variable l = l.scalars.items ≡ scalars_of (take l.variable-index l.program.cells)
