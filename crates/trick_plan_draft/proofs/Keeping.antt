-- What lines about cells, jobs and reads keep of a draft.
use Rattle.std.proofs.Common.{◌≡◌, ◌∙◌, ◌≤◌, ◌++◌, ◌∷◌, [], ℕ, ℤ, Bool, true, false, ◌||◌, List, Option, Some, None, is_none, Ok, All, length, slice_set, refl, sym, ap, subst, arith, if◌then◌else◌}
use Rattle.std.proofs.lemmas.Bool.{and_from, or_parts}
use Rattle.std.proofs.lemmas.Bool.Decides.{Decides-int_eq}
use Rattle.std.proofs.lemmas.List.Elements.{All-nil, All-push}
use Rattle.std.proofs.lemmas.List.{length-replicate, length-set}
use Rattle.std.specs.Ordering.{int_eq}
use Rattle.std.specs.Prelude.{IfSome}
use Rattle.trick_plan_deeds.specs.Deeds.{fitting}
use Rattle.trick_plan_draft.proofs.Added.{room}
use Rattle.trick_plan_draft.proofs.Mirrored.{cell_there, mirrored}
use Rattle.trick_plan_draft.proofs.Passed.{first_passed, is_answer}
use Rattle.trick_plan_draft.specs.Drafts.{begun, names_of}
use Rattle.trick_plan_draft.specs.Jobs.{Jobs, job_named, jobs_of, passing, waiting_job}
use Rattle.trick_plan_draft.specs.Kept.{IsDraftOf, IsSet}
use Rattle.trick_plan_draft.specs.Laws.{Keeps}
use Rattle.trick_plan_draft.specs.Lines.{add_read_line, assign_line, deeds_in, depend_line, fitting_in, is_full, or_first, or_job, or_none, or_nothing, set_job_line}
use Rattle.trick_plan_draft.specs.declared.draft.Draft.{Draft}
use Rattle.trick_plan_draft.specs.declared.fault.LineFault.TheVariants as fault
use Rattle.trick_lang.specs.SyntaxTree.{Name}
use Rattle.trick_lang.specs.Wrap.{IsOf, scalar_at, wrap}
use Rattle.trick_lang.specs.declared.cells.Cell.{Cell}
use Rattle.trick_lang.specs.declared.job.JobId.{JobId}
use Rattle.trick_lang.specs.declared.program.Program.{Program}
use Rattle.trick_lang.specs.declared.scalar.Scalar.{Scalar}
use Rattle.trick_model.proofs.Found.{all_among}
use Rattle.trick_model.specs.Names.{deeds_of}
use Rattle.trick_base.specs.Time.{tic_limit}
use Rattle.trick_model.specs.Valid.{IsDeedAmong, IsPair, can_depend}
use Rattle.trick_model.specs.declared.action.Action.{Action}
use Rattle.trick_model.specs.declared.deed.Deed.{Deed}
use Rattle.trick_model.specs.declared.depends.Depends.{Depends}
use Rattle.trick_model.specs.declared.read_at.ReadAt.{ReadAt}
use Rattle.trick_model.specs.declared.thread.Thread.{Thread}
use Rattle.trick_check_names.specs.Names.{meaning_of}

same_number : (a b : ℤ) → int_eq a b ≡ true → a ≡ b
same_number a b e = (Decides-int_eq a b).0 e

-- a number that fits is one of the type
fits : (scalar : Scalar) (number m : ℤ) → fitting scalar number ≡ Some m → IsOf scalar m
fits scalar number m h = by (int_eq (wrap scalar number) number) refl h
  where
    one : number ≡ m → wrap scalar number ≡ number → IsOf scalar m
    one e is = subst (λ (n : ℤ). IsOf scalar n) e is

    by : (b : Bool) → int_eq (wrap scalar number) number ≡ b
        → elim b as (λ _. Option ℤ) [ true ↦ Some number | false ↦ None ] ≡ Some m → IsOf scalar m
    by true e is = one (cc is) (same_number (wrap scalar number) number e)
    by false e is = absurd (cc is)

-- what passes a test does
passes : {T : Type 0} (test : T → Bool) (o : Option T) (x : T) → passing test o ≡ Some x → test x ≡ true
passes test None x h = absurd (cc h)
passes {T} test (Some y) x h = by (test y) refl h
  where
    by : (b : Bool) → test y ≡ b → (let none : Option T = None in if b then Some y else none) ≡ Some x → test x ≡ true
    by true e is = let one : y ≡ x = cc is in sym (ap test one) ∙ e
    by false e is = absurd (cc is)

module _ (jobs : Jobs) (threads : List Thread) where
  -- ---- cells

  set_right : (d : Draft) (name : Name) (number : ℤ) → IsDraftOf jobs threads d → (cell : Option Cell) → cell
      ≡ meaning_of name d.cells.names → is_none cell ≡ false
      → is_none (fitting_in d cell number) ≡ false
      → IsSet d.cells.scalars (or_first cell, or_nothing (fitting_in d cell number))
  set_right d name number right None is found fit = absurd (cc found)
  set_right d name number right (Some cell) is found fit =
      by (fitting (scalar_at d.cells.scalars cell.0) number) refl fit
    where
      by : (o : Option ℤ) → fitting (scalar_at d.cells.scalars cell.0) number ≡ o → is_none o ≡ false
          → IsSet d.cells.scalars (cell, or_nothing o)
      by None e f = absurd (cc f)
      by (Some m) e f = record {
        there = cell_there d.cells right.cells name cell (sym is);
        in_range = fits (scalar_at d.cells.scalars cell.0) number m e;
      }

  pub assign : (name : Name) (number : ℤ) (d e : Draft) → assign_line name number d ≡ Ok e → Keeps jobs threads d e
  assign name number d e h =
      let cell = meaning_of name d.cells.names in
      let fit = fitting_in d cell number in
      let new : Draft = record d { assigns = d.assigns ++ (or_first cell, or_nothing fit) ∷ [] } in
      let p = first_passed (is_none cell) fault.UnknownName ((is_none fit, fault.OutOfRange) ∷ []) new e h in
      let q = first_passed (is_none fit) fault.OutOfRange [] new e p.1 in
      subst (Keeps jobs threads d) (is_answer new e q.1) (record {
        cells = refl;
        deeds = λ action deed is. is;
        right = λ right. record {
          cells = right.cells;
          flagged = right.flagged;
          assigns = All-push (IsSet d.cells.scalars) d.assigns (or_first cell, or_nothing fit) right.assigns
              (set_right d name number right cell refl p.0 q.0);
          depends = right.depends;
          reads = right.reads;
          groups = right.groups;
          events = right.events;
          added_groups = right.added_groups;
          added_events = right.added_events;
        };
      })

  -- ---- jobs

  pair_right : (target depended : Option JobId)
      → ((j : JobId) → target ≡ Some j → can_depend jobs.all threads j ≡ true)
      → ((j : JobId) → depended ≡ Some j → can_depend jobs.all threads j ≡ true)
      → is_none target ≡ false → is_none depended ≡ false
      → IsPair jobs.all threads (record { target = or_job target; depended = or_job depended })
  pair_right None depended first second a b = absurd (cc a)
  pair_right (Some target) None first second a b = absurd (cc b)
  pair_right (Some target) (Some depended) first second a b =
      and_from (can_depend jobs.all threads target) (can_depend jobs.all threads depended) (first target refl)
      (second depended refl)

  pub depend : (target : Name) (instance : ℕ) (depended : Name) (depended_instance : ℕ) (d e : Draft)
      → depend_line (waiting_job jobs threads target instance) (waiting_job jobs threads depended depended_instance) d
      ≡ Ok e → Keeps jobs threads d e
  depend target instance depended depended_instance d e h =
      let first = waiting_job jobs threads target instance in
      let second = waiting_job jobs threads depended depended_instance in
      let pair : Depends = record { target = or_job first; depended = or_job second } in
      let new : Draft = record d { depends = d.depends ++ pair ∷ [] } in
      let p = first_passed (is_none first || is_none second) fault.UnknownJob
      ((is_full d.depends 512, fault.TooMany 512) ∷ []) new e h in
      let q = first_passed (is_full d.depends 512) (fault.TooMany 512) [] new e p.1 in
      let found = or_parts (is_none first) (is_none second) p.0 in
      subst (Keeps jobs threads d) (is_answer new e q.1) (record {
        cells = refl;
        deeds = λ action deed is. is;
        right = λ right. record {
          cells = right.cells;
          flagged = right.flagged;
          assigns = right.assigns;
          depends = record {
            few = room d.depends pair 512 q.0;
            right = All-push (IsPair jobs.all threads) d.depends pair right.depends.right
                (pair_right first second (passes (can_depend jobs.all threads) (job_named jobs target instance))
                (passes (can_depend jobs.all threads) (job_named jobs depended depended_instance)) found.0 found.1);
          };
          reads = right.reads;
          groups = right.groups;
          events = right.events;
          added_groups = right.added_groups;
          added_events = right.added_events;
        };
      })

  pub set_job : (job : Option JobId) (on : Bool) (d e : Draft) → set_job_line job on d ≡ Ok e → Keeps jobs threads d e
  set_job job on d e h =
      let new : Draft = record d { jobs = record { on = slice_set d.jobs.on (or_job job).0 on } } in
      let p = first_passed (is_none job) fault.UnknownJob [] new e h in
      subst (Keeps jobs threads d) (is_answer new e p.1) (record {
        cells = refl;
        deeds = λ action deed is. is;
        right = λ right. record {
          cells = right.cells;
          flagged = length-set d.jobs.on (or_job job).0 on ∙ right.flagged;
          assigns = right.assigns;
          depends = right.depends;
          reads = right.reads;
          groups = right.groups;
          events = right.events;
          added_groups = right.added_groups;
          added_events = right.added_events;
        };
      })

  -- ---- actions

  -- what the actions of a line ask for is about the names so far
  pub deeds_among : (d : Draft) (actions : Option (List Action)) → is_none (deeds_in jobs d actions) ≡ false
      → All (IsDeedAmong (names_of jobs d)) (or_none (deeds_in jobs d actions))
  deeds_among d None h = absurd (cc h)
  deeds_among d (Some actions) h = by (deeds_of (names_of jobs d) actions) h (all_among (names_of jobs d) actions)
    where
      by : (o : Option (List Deed)) → is_none o ≡ false → IfSome o (All (IsDeedAmong (names_of jobs d)))
          → All (IsDeedAmong (names_of jobs d)) (or_none o)
      by None h all = absurd (cc h)
      by (Some deeds) h all = all

  pub add_read : (tic : ℕ) → tic ≤ tic_limit → (actions : Option (List Action)) (d e : Draft)
      → add_read_line jobs tic actions d ≡ Ok e → Keeps jobs threads d e
  add_read tic early actions d e h =
      let deeds = deeds_in jobs d actions in
      let read : ReadAt = record { tic = tic; actions = or_none deeds } in
      let new : Draft = record d { reads = d.reads ++ read ∷ [] } in
      let p = first_passed (is_none deeds) fault.BadAction
      ((is_full d.reads 4096, fault.TooMany 4096) ∷ []) new e h in
      let q = first_passed (is_full d.reads 4096) (fault.TooMany 4096) [] new e p.1 in
      subst (Keeps jobs threads d) (is_answer new e q.1) (record {
        cells = refl;
        deeds = λ action deed is. is;
        right = λ right. record {
          cells = right.cells;
          flagged = right.flagged;
          assigns = right.assigns;
          depends = right.depends;
          reads = record {
            few = room d.reads read 4096 q.0;
            times = All-push (λ (r : ReadAt). r.tic ≤ tic_limit) d.reads read right.reads.times early;
            deeds = All-push (λ (r : ReadAt). All (IsDeedAmong (names_of jobs d)) r.actions) d.reads read
                right.reads.deeds (deeds_among d actions p.0);
          };
          groups = right.groups;
          events = right.events;
          added_groups = right.added_groups;
          added_events = right.added_events;
        };
      })

-- ---- before the first line

pub begun_right : (p : Program) (threads : List Thread) → IsDraftOf (jobs_of p) threads (begun p)
begun_right p threads = record {
  cells = (mirrored p (begun p) refl).cells;
  flagged = length-replicate (length p.jobs) true;
  assigns = All-nil _;
  depends = record { few = omega arith; right = All-nil _ };
  reads = record { few = omega arith; times = All-nil _; deeds = All-nil _ };
  groups = All-nil _;
  events = All-nil _;
  added_groups = record { few = omega arith; differ = refl; there = All-nil _ };
  added_events = record { few = omega arith; differ = refl; there = All-nil _ };
}
