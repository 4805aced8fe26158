-- What a declaration keeps of a draft.
use Rattle.std.proofs.Common.{◌≡◌, ◌∙◌, ◌+◌, ◌<◌, ◌≤◌, ◌++◌, ◌∷◌, [], ℕ, zero, suc, ℤ, Bool, true, false, nat_lt, List, Option, Some, None, is_some, Ok, All, length, append_assoc, append-nil, refl, sym, ap, subst, arith, if◌then◌else◌}
use Rattle.std.proofs.lemmas.List.Elements.{All-weaker}
use Rattle.std.proofs.lemmas.List.{length-append, length-map}
use Rattle.trick_plan_variables.proofs.Plans.{HasMore, among_more}
use Rattle.trick_plan_variables.specs.Cells.{cells_of, count_of}
use Rattle.trick_plan_variables.specs.declared.declaration.Declaration.{Declaration}
use Rattle.trick_plan_draft.proofs.Grows.{Allows, events_grow, reads_grow}
use Rattle.trick_plan_draft.proofs.Lists.{map_append}
use Rattle.trick_plan_draft.proofs.Mirrored.{mirrored, scalars_known}
use Rattle.trick_plan_draft.proofs.Passed.{first_passed, is_answer}
use Rattle.trick_plan_draft.proofs.Stays.{stays_more}
use Rattle.trick_plan_draft.specs.Cells.{is_taken_in, only_names, with_cell, with_cells}
use Rattle.trick_plan_draft.specs.Drafts.{names_of}
use Rattle.trick_plan_draft.specs.Jobs.{Jobs}
use Rattle.trick_plan_draft.specs.Kept.{IsDraftOf, IsGroup, IsSet, Mirrors}
use Rattle.trick_plan_draft.specs.Laws.{KeepsDeeds}
use Rattle.trick_plan_draft.specs.Lines.{declare_line}
use Rattle.trick_plan_draft.specs.declared.cells.KnownCells.{KnownCells}
use Rattle.trick_plan_draft.specs.declared.draft.Draft.{Draft}
use Rattle.trick_plan_draft.specs.declared.fault.LineFault.TheVariants as fault
use Rattle.trick_plan_draft.specs.declared.group.GroupDraft.{GroupDraft}
use Rattle.trick_lang.specs.Effect.{scalars_of}
use Rattle.trick_lang.specs.SyntaxTree.{Name}
use Rattle.trick_lang.specs.Wrap.{IsOf, scalar_at}
use Rattle.trick_lang.specs.declared.cells.Cell.{Cell}
use Rattle.trick_lang.specs.declared.program.Program.{Program}
use Rattle.trick_lang.specs.declared.scalar.Scalar.{Scalar}
use Rattle.trick_lang.specs.declared.variable.Variable.{Variable}
use Rattle.trick_model.specs.Valid.{IsCell}
use Rattle.trick_model.specs.declared.thread.Thread.{Thread}
use Rattle.trick_check_names.specs.Names.{Names, meaning_of, with_name}

-- ---- lists that grow at their ends

-- a name goes to the end, or is known
grown : {T : Type 0} (name : Name) (x : T) (names : Names T) → (more : Names T)
    × (with_name name x names ≡ names ++ more)
grown {T} name x names = by (is_some (meaning_of name names))
  where
    by : (b : Bool) → (more : Names T) × ((if b then names else names ++ (name, x) ∷ []) ≡ names ++ more)
    by true = ([], sym (append-nil names))
    by false = ((name, x) ∷ [], refl)

names_grow : (cells : List Variable) (known : KnownCells) → (more : Names Cell)
    × ((with_cells cells known).names ≡ known.names ++ more)
names_grow [] known = ([], sym (append-nil known.names))
names_grow (cell ∷ cells) known =
    let first = grown cell.name (record { 0 = length known.scalars }) known.names in
    let rest = names_grow cells (with_cell cell known) in (
      first.0 ++ rest.0,
      rest.1
          ∙ (ap (λ (names : Names Cell). names ++ rest.0) first.1 ∙ append_assoc known.names first.0 rest.0),
    )

type_stays : (scalars more : List Scalar) (k : ℕ) → k < length scalars → scalar_at (scalars ++ more) k
    ≡ scalar_at scalars k
type_stays [] more k lt = absurd (omega (arith, lt))
type_stays (s ∷ ss) more zero lt = refl
type_stays (s ∷ ss) more (suc k) lt = type_stays ss more k (omega (arith, lt))

longer : (scalars more : List Scalar) → length scalars ≤ length (scalars ++ more)
longer scalars more = let size = length-append scalars more in omega (arith, size)

set_grows : (scalars more : List Scalar) (assign : Cell × ℤ) → IsSet scalars assign → IsSet (scalars ++ more) assign
set_grows scalars more assign set =
    let lt = set.there in
    let larger = longer scalars more in
    record {
      there = omega (arith, lt, larger);
      in_range = subst (λ (s : Scalar). IsOf s assign.1)
          (sym (type_stays scalars more (assign.0).0 set.there)) set.in_range;
    }

group_grows : (n m : ℕ) → n ≤ m → (group : GroupDraft) → IsGroup n group → IsGroup m group
group_grows n m larger group is = record {
  cycle = is.cycle;
  few = is.few;
  there = All-weaker (IsCell n) (IsCell m) (λ cell lt. omega (arith, lt, larger)) group.cells is.there;
}

module _ (jobs : Jobs) (threads : List Thread) where
  has_more : (d : Draft) (cells : List Variable) → IsDraftOf jobs threads d
      → HasMore (names_of jobs d) (names_of jobs (record d { cells = with_cells cells d.cells }))
  has_more d cells right =
      let names = names_grow cells d.cells in
      record {
        names = only_names names.0;
        scalars = scalars_of cells;
        cells = ap (λ (ns : Names Cell). only_names ns) names.1
            ∙ map_append (λ (known : Name × Cell). known.0) d.cells.names names.0;
        types = scalars_known cells d.cells;
        as_many = length-map d.cells.names (λ (known : Name × Cell). known.0) ∙ right.cells.typed;
        job_names = refl;
        jobs = refl;
        groups = refl;
        events = refl;
      }

  pub declare_deeds : (declared : Option Declaration) (d e : Draft) → declare_line declared d ≡ Ok e → IsDraftOf jobs threads d
      → KeepsDeeds jobs d e
  declare_deeds None d e h right = absurd (cc h)
  declare_deeds (Some declared) d e h right =
      let new : Draft = record d { cells = with_cells (cells_of declared) d.cells } in
      let many = nat_lt 65536 (length d.cells.scalars + count_of declared.lengths) in
      let a = first_passed (is_taken_in d.cells declared.name) fault.TwiceNamed
      ((many, fault.TooMany 65536) ∷ []) new e h in
      let b = first_passed many (fault.TooMany 65536) [] new e a.1 in
      subst (KeepsDeeds jobs d) (is_answer new e b.1)
      (stays_more (names_of jobs d) (names_of jobs new) (has_more d (cells_of declared) right))

module _ (jobs : Jobs) (threads : List Thread) (p : Program) where
  grown_right : (d : Draft) (cells : List Variable) → Mirrors p (record d { cells = with_cells cells d.cells })
      → IsDraftOf jobs threads d → IsDraftOf jobs threads (record d { cells = with_cells cells d.cells })
  grown_right d cells mirrors right =
      let new : Draft = record d { cells = with_cells cells d.cells } in
      let old_scalars = d.cells.scalars in
      let more = scalars_of cells in
      let scalars : new.cells.scalars ≡ old_scalars ++ more = scalars_known cells d.cells in
      let has = has_more jobs threads d cells right in
      let allows : Allows (names_of jobs d) (names_of jobs new) =
      among_more (names_of jobs d) (names_of jobs new) has in
      let larger : length old_scalars ≤ length new.cells.scalars =
      subst (λ (ss : List Scalar). length old_scalars ≤ length ss) (sym scalars) (longer old_scalars more) in
      record {
        cells = (mirrored p new mirrors).cells;
        flagged = right.flagged;
        assigns =
            subst (λ (ss : List Scalar). All (IsSet ss) d.assigns) (sym scalars)
            (All-weaker (IsSet old_scalars) (IsSet (old_scalars ++ more))
            (set_grows old_scalars more) d.assigns right.assigns);
        depends = right.depends;
        reads = reads_grow (names_of jobs d) (names_of jobs new) allows d.reads right.reads;
        groups =
            All-weaker (IsGroup (length old_scalars)) (IsGroup (length new.cells.scalars))
            (group_grows (length old_scalars) (length new.cells.scalars) larger)
            d.groups right.groups;
        events = events_grow (names_of jobs d) (names_of jobs new) (length old_scalars)
            (length new.cells.scalars) allows larger d.events right.events;
        added_groups = right.added_groups;
        added_events = right.added_events;
      }

  pub declare : (declared : Option Declaration) (d e : Draft) → declare_line declared d ≡ Ok e → Mirrors p e
      → IsDraftOf jobs threads d → IsDraftOf jobs threads e
  declare None d e h mirrors right = absurd (cc h)
  declare (Some declared) d e h mirrors right =
      let new : Draft = record d { cells = with_cells (cells_of declared) d.cells } in
      let many = nat_lt 65536 (length d.cells.scalars + count_of declared.lengths) in
      let a = first_passed (is_taken_in d.cells declared.name) fault.TwiceNamed
      ((many, fault.TooMany 65536) ∷ []) new e h in
      let b = first_passed many (fault.TooMany 65536) [] new e a.1 in
      let same = is_answer new e b.1 in
      subst (IsDraftOf jobs threads) same
      (grown_right d (cells_of declared) (subst (Mirrors p) (sym same) mirrors) right)
