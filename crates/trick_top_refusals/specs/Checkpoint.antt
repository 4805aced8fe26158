-- The lines of what a checkpoint is refused for.
use Rattle.std.specs.Prelude.{ℕ, List, codes}
use Rattle.trick_codes.specs.declared.load_fault.LoadFault.{LoadFault}
use Rattle.trick_codes.specs.declared.load_fault.LoadFault.TheVariants as fault
use Rattle.trick_top_refusals.specs.Line.{checkpoint, out_of_memory, refused_at}

abbrev pub checkpoint_line : LoadFault → List ℕ
checkpoint_line (fault.BadLine line) = refused_at (codes "BadLine") checkpoint line
checkpoint_line (fault.WrongPlan line) = refused_at (codes "WrongPlan") checkpoint line
checkpoint_line (fault.OutOfRange line) = refused_at (codes "OutOfRange") checkpoint line
checkpoint_line (fault.Truncated at) = refused_at (codes "Truncated") checkpoint at
checkpoint_line (fault.Trailing at) = refused_at (codes "Trailing") checkpoint at
checkpoint_line fault.OutOfMemory = out_of_memory
