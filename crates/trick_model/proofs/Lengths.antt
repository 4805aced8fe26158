-- Lists that are made item by item are as long as those that they are made of.
use Rattle.std.proofs.Common.{◌≡◌, suc, List, [], ◌∷◌, length, refl, ap}
use Rattle.trick_lang.specs.declared.job.JobId.{JobId}
use Rattle.trick_lang.specs.declared.variable.Variable.{Variable}
use Rattle.trick_model.specs.Valid.{cell_names, ids}

pub ids_length : (jobs : List JobId) → length (ids jobs) ≡ length jobs
ids_length [] = refl
ids_length (job ∷ jobs) = ap suc (ids_length jobs)

pub names_length : (cells : List Variable) → length (cell_names cells) ≡ length cells
names_length [] = refl
names_length (cell ∷ cells) = ap suc (names_length cells)
