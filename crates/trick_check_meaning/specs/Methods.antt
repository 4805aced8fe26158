-- What a method does to the memory of an object. No method reaches itself by calls, so that calls are
-- nested no deeper than a class has parts.
use Rattle.std.specs.Prelude.{ℕ, zero, suc, ℤ, if◌then◌else◌, List, [], ◌∷◌, length, slice_get, Option, Some, None, Result, Ok}
use Rattle.std.specs.Str.{bytes_eq}
use Rattle.trick_lang.specs.Numbers.{and_then}
use Rattle.trick_lang.specs.SyntaxTree.{Name, Definition, Include, Enum, Struct, ClassOf, Object, Part, Public, HasMembers, HasMethod, Constructor, SDefine, Statements, NoStatement}
use Rattle.trick_lang.specs.declared.fault.StatementFault.{StatementFault}
use Rattle.trick_check_meaning.specs.Meaning.{Stored, run_all}
use Rattle.trick_check_names.specs.Names.{meaning_of}
use Rattle.trick_check_names.specs.Tables.{tables_of}
use Rattle.trick_check_names.specs.declared.tables.Base.TheVariants.{Single, Group}
use Rattle.trick_check_names.specs.declared.tables.Global.{Global}
use Rattle.trick_check_names.specs.declared.tables.Global.TheVariants as the
use Rattle.trick_check_names.specs.declared.scope.FileScope.{FileScope}

-- the body of the method of that name; where there is none it does nothing
abbrev pub body_in : Name → List Part → Statements
body_in name [] = NoStatement
body_in name (Public ∷ rest) = body_in name rest
body_in name (HasMembers m ∷ rest) = body_in name rest
body_in name (HasMethod m ∷ rest) = if bytes_eq name m.name then m.body else body_in name rest
body_in name (Constructor line class jobs ∷ rest) = body_in name rest

-- a method begins with no local variables, and what it stored is what is left of it
abbrev pub body_does : Statements → FileScope → Name → (Name → ℤ) → (Name → Stored → Result Stored StatementFault) → Stored
    → Result Stored StatementFault
body_does body scope object memory calls stored =
    and_then (run_all body (record { scope = scope; object = object; memory = memory; calls = calls })
    (record { stored = stored; locals = [] })) (λ s. Ok s.stored)

-- what the method of that name does after these stores, where calls are nested less deep than so much
abbrev pub method_does : ℕ → List Part → FileScope → Name → (Name → ℤ) → Name → Stored → Result Stored StatementFault
method_does zero parts scope object memory name stored = Ok stored
method_does (suc deep) parts scope object memory name stored =
    body_does (body_in name parts) scope object memory (method_does deep parts scope object memory) stored

-- the class of an object, by the number of its definition in the file
abbrev pub class_of : Option Global → Option ℕ
class_of (Some (the.Object (Group class))) = Some class
class_of _ = None

abbrev pub parts_in : Option Definition → List Part
parts_in (Some (ClassOf name parts)) = parts
parts_in _ = []

abbrev pub world_of : SDefine → ℕ → FileScope
world_of ds class = record { tables = tables_of ds; names = (tables_of ds).names; own = class }

-- What a method does in an object of that class: what it stores to the memory, by full names, the last
-- first, or its first fault.
abbrev pub class_does : SDefine → Option ℕ → Name → Name → (Name → ℤ) → Result Stored StatementFault
class_does ds None object method memory = Ok []
class_does ds (Some class) object method memory =
    let parts = parts_in (slice_get ds class) in
    method_does (length parts) parts (world_of ds class) object memory method []

-- what `object.method` does to a memory, in a file
abbrev pub does : SDefine → Name → Name → (Name → ℤ) → Result Stored StatementFault
does ds object method memory =
    class_does ds (class_of (meaning_of object (tables_of ds).names)) object method memory
