-- The lines of what the join of a program and an input is refused for. They are told of the input.
use Rattle.std.specs.Prelude.{ℕ, List, codes}
use Rattle.trick_plan_lines.specs.declared.fault.JoinFault.{JoinFault}
use Rattle.trick_plan_lines.specs.declared.fault.JoinFault.TheVariants.{Time, UnknownName, UnknownJob, OutOfRange}
use Rattle.trick_plan_lines.specs.declared.fault.JoinFault.TheVariants.{TwiceNamed, BadAction, TooMany, OutOfMemory}
use Rattle.trick_top_refusals.specs.Line.{input, out_of_memory, refused_above, refused_at}
use Rattle.trick_top_refusals.specs.Texts.{time_line}

abbrev pub join_line : JoinFault → List ℕ
join_line (Time fault) = time_line input fault
join_line (UnknownName line) = refused_at (codes "UnknownName") input line
join_line (UnknownJob line) = refused_at (codes "UnknownJob") input line
join_line (OutOfRange line) = refused_at (codes "OutOfRange") input line
join_line (TwiceNamed line) = refused_at (codes "TwiceNamed") input line
join_line (BadAction line) = refused_at (codes "BadAction") input line
join_line (TooMany line limit) = refused_above (codes "TooMany") input line limit
join_line OutOfMemory = out_of_memory
