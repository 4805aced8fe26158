-- What a job does to a memory, by the names of its text; and that the effect of the job is this.
use Rattle.std.specs.Prelude.{◌≡◌, ℕ, ℤ, pos, if◌then◌else◌, IsTrue, List, [], ◌∷◌, slice_get, Option, Some, Result, Ok}
use Rattle.std.specs.Str.{bytes_eq}
use Rattle.trick_check.specs.Named.{IsNamed}
use Rattle.trick_lang.specs.Effect.{begun, effect, ran}
use Rattle.trick_lang.specs.Names.{method_name, object_name}
use Rattle.trick_lang.specs.Numbers.{and_then}
use Rattle.trick_lang.specs.SDefineOf.{sdefine_of}
use Rattle.trick_lang.specs.SyntaxTree.{Name, SDefine}
use Rattle.trick_lang.specs.declared.fault.StatementFault.{StatementFault}
use Rattle.trick_lang.specs.declared.job.Job.{Job}
use Rattle.trick_lang.specs.declared.job.JobId.{JobId}
use Rattle.trick_lang.specs.declared.method.Method.{Method}
use Rattle.trick_lang.specs.declared.object.Object.{Object}
use Rattle.trick_lang.specs.declared.program.Program.{Program}
use Rattle.trick_lang.specs.declared.variable.Variable.{Variable}
use Rattle.trick_check_meaning.specs.Meaning.{Stored}
use Rattle.trick_check_meaning.specs.Methods.{does}
use Rattle.trick_check_meaning_kept.specs.Alike.{HaveElements}
use Rattle.trick_check_names.specs.Names.{meaning_of}
use Rattle.trick_check_names.specs.Tables.{tables_of}
use Rattle.trick_sdef.specs.Answers.{IsSDefine}
use Rattle.trick_lang.specs.Facts.{have_short_loops}

-- ---- numbers by name

-- the number in the cell of that full name; what is no cell has 0
abbrev pub number_named : List Variable → List ℤ → Name → ℤ
number_named [] numbers name = pos 0
number_named (v ∷ vs) [] name = pos 0
number_named (v ∷ vs) (n ∷ ns) name = if bytes_eq name v.name then n else number_named vs ns name

-- for each cell what was last stored under its full name, where None is nothing
abbrev pub by_cell : List Variable → Stored → List (Option ℤ)
by_cell [] stored = []
by_cell (v ∷ vs) stored = meaning_of v.name stored ∷ by_cell vs stored

-- ---- what a text means

-- what a method does to a memory in an object, as its text says, by the cells of a program
abbrev pub meant : SDefine → List Variable → Name → Name → List ℤ → Result (List (Option ℤ)) StatementFault
meant ds cells object method numbers =
    and_then (does ds object method (number_named cells numbers)) (λ stored. Ok (by_cell cells stored))

-- what a job does to a memory, as its text says: what its method does in its object
abbrev pub meant_by : SDefine → Program → Job → List ℤ → Result (List (Option ℤ)) StatementFault
meant_by ds p job =
    meant ds p.cells (object_name (slice_get p.objects job.object)) (method_name (slice_get p.methods job.method))

-- ---- the laws

-- what is asked of a file: no array is without elements, and each loop ends at 1,000,000 at most
pub record IsReadable (ds : SDefine) : Type 0 where
  pub elements : HaveElements (tables_of ds)
  pub loops : IsTrue (have_short_loops ds)

-- Each tree of a text is so.
abbrev pub TextsAreReadable : Type 0
TextsAreReadable = (text : List ℕ) (s : _) → IsSDefine text (Ok s) → IsReadable (sdefine_of s)

-- What the block of a method does to any memory, in any object of its class, is what the method's text says.
abbrev pub MethodsKeep : Type 0
MethodsKeep =
    (ds : SDefine) (p : Program) → IsNamed ds p → IsReadable ds → (i k : ℕ) (object : Object) (method : Method) →
    slice_get p.objects i ≡ Some object → slice_get p.methods k ≡ Some method → method.class ≡ object.class →
    (numbers : List ℤ) →
    and_then (ran p object.first method.block numbers (begun p)) (λ s. Ok s.stored)
    ≡ meant ds p.cells object.name method.name numbers

-- The effect of a job on any memory is what its text says.
abbrev pub EffectsAreMeant : Type 0
EffectsAreMeant =
    (ds : SDefine) (p : Program) → IsNamed ds p → IsReadable ds → (id : JobId) (job : Job) →
    slice_get p.jobs id.0 ≡ Some job → (numbers : List ℤ) → effect p id numbers ≡ meant_by ds p job numbers

-- So it is of each job of each text.
abbrev pub TextsAreMeant : Type 0
TextsAreMeant =
    (text : List ℕ) (s : _) (p : Program) → IsSDefine text (Ok s) → IsNamed (sdefine_of s) p →
    (id : JobId) (job : Job) → slice_get p.jobs id.0 ≡ Some job → (numbers : List ℤ) →
    effect p id numbers ≡ meant_by (sdefine_of s) p job numbers
