-- Files that were read one after another, and found.
use Rattle.std.specs.Prelude.{ℕ, List, [], ◌∷◌, Some}
use Rattle.trick_outside.specs.Calls.{Call, Read}

-- A file by its name, and its text.
pub record Found : Type 0 where
  pub name : List ℕ
  pub text : List ℕ

abbrev pub names : List Found → List (List ℕ)
names [] = []
names (file ∷ files) = file.name ∷ names files

abbrev pub texts : List Found → List (List ℕ)
texts [] = []
texts (file ∷ files) = file.text ∷ texts files

-- The calls that read them, with their answers.
abbrev pub reads : List Found → List Call
reads [] = []
reads (file ∷ files) = Read file.name (Some file.text) ∷ reads files
