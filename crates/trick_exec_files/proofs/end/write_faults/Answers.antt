use Rattle.trick_outside.proofs.DoesLemmas.{does_none}
use Rattle.trick_exec_files.proofs.end.write_faults.Goals as goal

pub returns-in_default : goal.returns-in_default
returns-in_default g c = does_none _ _ _ (g.met.F.Shelf.called_none _) (λ d. cc) (λ f. cc)

pub returns-in_default-faults_text : goal.returns-in_default-faults_text
returns-in_default-faults_text g c = does_none _ _ _ (g.met.F.Shelf.called_none _) (λ d. cc) (λ f. cc)
