-- The lines of what the names of an S_define are refused for.
use Rattle.std.specs.Prelude.{ℕ, List, [], ◌∷◌, codes, decimal}
use Rattle.trick_check.specs.declared.fault.CheckFault.{CheckFault}
use Rattle.trick_check.specs.declared.fault.CheckFault.TheVariants.{Twice, Unknown, NotScalar, Recursive}
use Rattle.trick_check.specs.declared.fault.CheckFault.TheVariants.{TooManyCells, TooManyJobs, TooManySteps}
use Rattle.trick_check.specs.declared.fault.CheckFault.TheVariants.{OutOfMemory}
use Rattle.trick_top_refusals.specs.Line.{out_of_memory, refused, refused_at, refused_name, s_define}

abbrev pub check_line : CheckFault → List ℕ
check_line (Twice name) = refused_name (codes "Twice") s_define name
check_line (Unknown line) = refused_at (codes "Unknown") s_define line
check_line (NotScalar line) = refused_at (codes "NotScalar") s_define line
check_line (Recursive method) = refused_name (codes "Recursive") s_define method
check_line (TooManyCells count) = refused_at (codes "TooManyCells") s_define count
check_line (TooManyJobs count) = refused_at (codes "TooManyJobs") s_define count
check_line (TooManySteps job instance) = refused (codes "TooManySteps") (s_define ∷ job ∷ decimal instance ∷ [])
check_line OutOfMemory = out_of_memory
