-- A file that names a program has no refusal.
use Rattle.std.proofs.Common.{◌≡◌, ℕ, zero, suc, ◌≤◌, [], ◌∷◌, length, inl, inr, refl, sym, ◌∙◌, arith}
use Rattle.std.proofs.lemmas.Bool.{cases_lt}
use Rattle.trick_check.proofs.Calls.{calls_many}
use Rattle.trick_check.specs.Named.{AreSame, IsNamed}
use Rattle.trick_check.specs.Parts.{HaveNoLoop, calls_at, parts_at}
use Rattle.trick_check.specs.Refused.{IsFirstRecursive, IsRefused, StepsAreRight}
use Rattle.trick_check.specs.declared.fault.CheckFault.{CheckFault}
use Rattle.trick_check.specs.declared.fault.CheckFault.TheVariants.{Twice, Unknown, NotScalar, Recursive, TooManyCells, TooManyJobs, TooManySteps, OutOfMemory}
use Rattle.trick_lang.specs.SyntaxTree.{Name, SDefine}
use Rattle.trick_lang.specs.declared.program.Program.{Program}
use Rattle.trick_check_names.specs.Places.{members_at}
use Rattle.trick_check_names.specs.Tables.{tables_of}

pub same_program : (ds : SDefine) (p q : Program) → IsNamed ds p → IsNamed ds q → AreSame p q
same_program ds p q a b = record {
  cells = a.cells ∙ sym b.cells;
  items = a.items ∙ sym b.items;
  sizes = a.sizes ∙ sym b.sizes;
  objects = a.objects ∙ sym b.objects;
  blocks = a.blocks ∙ sym b.blocks;
  methods = a.methods ∙ sym b.methods;
  slots = a.slots ∙ sym b.slots;
  jobs = a.jobs ∙ sym b.jobs;
}

-- past the last definition there are no parts
no_parts : (ds : SDefine) (class : ℕ) → length ds ≤ class → length (parts_at ds class) ≡ 0
no_parts [] class h = refl
no_parts (d ∷ ds) zero h = absurd (omega (arith, h))
no_parts (d ∷ ds) (suc class) h = no_parts ds class (omega (arith, h))

no_calls : (ds : SDefine) (class : ℕ) → length ds ≤ class → length (calls_at ds class) ≡ 0
no_calls ds class h = calls_many (parts_at ds class) (members_at (tables_of ds).groups class) ∙ no_parts ds class h

pub not_recursive : (ds : SDefine) (name : Name) → HaveNoLoop ds (length ds) → IsFirstRecursive ds name → ⊥
not_recursive ds name free h = elim (cases_lt h.class (length ds)) [ inl low ↦ free h.class low h.part h.first.1 | inr past ↦ (let none = no_calls ds h.class past in absurd (omega (arith, h.first.0, none))) ]

pub not_refused : (ds : SDefine) (fault : CheckFault) → StepsAreRight ds → IsRefused ds fault → fault ≡ OutOfMemory
not_refused ds (Twice name) right h = let names = right.0.0.0.0 in absurd (cc (h, names))
not_refused ds (Unknown line) right h = let names = right.0.0.0.0 in absurd (cc (h, names))
not_refused ds (NotScalar line) right h = let names = right.0.0.0.0 in absurd (cc (h, names))
not_refused ds (Recursive method) right h = absurd (not_recursive ds method right.0.0.0.1 h.1)
not_refused ds (TooManyCells count) right h = absurd (omega (arith, h.1, right.0.0.1))
not_refused ds (TooManyJobs count) right h = absurd (omega (arith, h.1, right.0.1))
not_refused ds (TooManySteps job instance) right h =
    let low = right.1 h.1.number h.1.job h.1.first.here in
    absurd (omega (arith, low, h.1.first.long))
not_refused ds OutOfMemory right h = refl
