use Rattle.std.proofs.Common.{◌≡◌, take, replicate}
use Rattle.trick_lang.specs.Effect.{scalars_of}
use Rattle.trick_memory.proofs.memory.Memory.new.Given as goal
use Rattle.trick_memory.specs.Packed.{offsets_from, room_of}
use Rattle.trick_model.specs.Valid.{cell_names}

abbrev pub invariant-loop-variable : goal.invariant-loop-variable
invariant-loop-variable l = record {
  names : l.names ≡ cell_names (take l.variable-index l.plan.program.cells);
  scalars : l.scalars.items ≡ scalars_of (take l.variable-index l.plan.program.cells);
  offsets : l.offsets.items ≡ offsets_from 0 l.scalars.items;
  bytes : l.bytes.items ≡ replicate (room_of l.scalars.items) 0;
}
