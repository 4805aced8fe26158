use Rattle.trick_memory.proofs.Found.{cells_found, names_found}
use Rattle.trick_memory.proofs.laws.find_and_name_are_inverse.Goals as goal

pub returns-clause-cells : goal.returns-clause-cells
returns-clause-cells c = λ plan cell there. cells_found plan.program.cells cell plan.program.cell_names there

pub returns-clause-names : goal.returns-clause-names
returns-clause-names c = λ plan name cell found. names_found plan.program.cells name cell found
