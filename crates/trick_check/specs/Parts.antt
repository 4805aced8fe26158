-- The parts of the classes of a file, and which methods call which. A class has the number of its
-- definition in the file, and a method that of its part in the class.

use Rattle.std.specs.Prelude.{◌≡◌, ℕ, zero, suc, ◌<◌, List, [], ◌∷◌, length, slice_get, slice_index_or, Option, Some}
use Rattle.trick_lang.specs.SyntaxTree as tree
use Rattle.trick_lang.specs.SyntaxTree.{Name, SDefine, ClassOf, HasMethod}
use Rattle.trick_check_names.specs.Calls.{class_calls}
use Rattle.trick_check_names.specs.Places.{members_at}
use Rattle.trick_check_names.specs.Tables.{tables_of}
use Rattle.trick_check_order.specs.Calls.{IsOrderOf, ReachesItself, order_of}

-- the parts of a class; another definition has none
abbrev pub parts_in : tree.Definition → List tree.Part
parts_in (ClassOf name parts) = parts
parts_in _ = []

-- the parts of the class of that number
abbrev pub parts_at : SDefine → ℕ → List tree.Part
parts_at [] class = []
parts_at (d ∷ ds) zero = parts_in d
parts_at (d ∷ ds) (suc class) = parts_at ds class

-- the name of a method; what is no method has none
abbrev pub method_name : Option tree.Part → Name
method_name (Some (HasMethod m)) = m.name
method_name _ = []

abbrev pub method_name_at : SDefine → ℕ → ℕ → Name
method_name_at ds class part = method_name (slice_get (parts_at ds class) part)

-- which methods each part of the class of that number calls
abbrev pub calls_at : SDefine → ℕ → List (List ℕ)
calls_at ds class = class_calls (parts_at ds class) (members_at (tables_of ds).groups class)

-- no method of the first so many definitions reaches itself by calls
abbrev pub HaveNoLoop : SDefine → ℕ → Type 0
HaveNoLoop ds n = (class : ℕ) → class < n → (part : ℕ) → ReachesItself (calls_at ds class) part → ⊥

-- the one order of the parts of the class of that number
abbrev pub order_at : SDefine → ℕ → List ℕ
order_at ds class = order_of (calls_at ds class)

-- this is the one order, and in it each method stands after those that it calls
abbrev pub IsOneOrder : List (List ℕ) → List ℕ → Type 0
IsOneOrder calls order = (order ≡ order_of calls) × IsOrderOf calls order

-- these are the orders of all classes
abbrev pub AreOrders : SDefine → List (List ℕ) → Type 0
AreOrders ds orders = (class : ℕ) → class < length ds → IsOneOrder (calls_at ds class) (slice_index_or orders class [])
