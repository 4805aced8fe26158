use Rattle.trick_sdef_worked.proofs.RefusedFiles.{refused_files}
use Rattle.trick_sdef_worked.proofs.laws.worked_files_are_refused.Goals as goal

pub returns : goal.returns
returns c = refused_files
