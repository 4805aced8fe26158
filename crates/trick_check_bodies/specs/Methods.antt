-- The methods of a program: class by class, part by part. Only classes that have objects have any.
use Rattle.std.specs.Prelude.{ℕ, ◌+◌, List, [], ◌∷◌, ◌++◌, unwrap_or}
use Rattle.trick_lang.specs.SyntaxTree as tree
use Rattle.trick_lang.specs.SyntaxTree.{Public, HasMembers, HasMethod, Constructor}
use Rattle.trick_lang.specs.declared.method.Method.{Method}
use Rattle.trick_check_names.specs.Names.{Names, meaning_of, with_name}

-- a method of a class, where `blocks` are those of its methods
abbrev pub part_methods : ℕ → Names ℕ → tree.Part → List Method
part_methods class blocks Public = []
part_methods class blocks (HasMembers m) = []
part_methods class blocks (HasMethod m) =
    record { name = m.name; class = class; block = unwrap_or (meaning_of m.name blocks) 0 } ∷ []
part_methods class blocks (Constructor line name jobs) = []

abbrev pub class_methods : ℕ → Names ℕ → List tree.Part → List Method
class_methods class blocks [] = []
class_methods class blocks (part ∷ rest) = part_methods class blocks part ++ class_methods class blocks rest

-- the numbers of a class' methods, where the next one has the number n
abbrev pub with_numbers : ℕ → List tree.Part → Names ℕ → Names ℕ
with_numbers n [] numbers = numbers
with_numbers n (Public ∷ rest) numbers = with_numbers n rest numbers
with_numbers n (HasMembers m ∷ rest) numbers = with_numbers n rest numbers
with_numbers n (HasMethod m ∷ rest) numbers = with_numbers (n + 1) rest (with_name m.name n numbers)
with_numbers n (Constructor line name jobs ∷ rest) numbers = with_numbers n rest numbers
