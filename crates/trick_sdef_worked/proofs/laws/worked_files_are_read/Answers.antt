use Rattle.trick_sdef_worked.proofs.ReadFiles.{read_files}
use Rattle.trick_sdef_worked.proofs.laws.worked_files_are_read.Goals as goal

pub returns : goal.returns
returns c = read_files
