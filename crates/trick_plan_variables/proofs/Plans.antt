-- What a plan keeps with more cells.
use Rattle.std.proofs.Common.{◌≡◌, ◌∙◌, ◌+◌, ◌<◌, ◌≤◌, ◌++◌, ◌∷◌, [], ℕ, zero, suc, ℤ, List, true, ◌&&◌, not, nat_lt, nat_le, Option, Some, None, IsTrue, All, length, map, slice_index_or, refl, sym, ap, subst, arith, append-nil}
use Rattle.std.proofs.lemmas.Bool.Decides.{nat_tests}
use Rattle.std.proofs.lemmas.Bool.{and_from, and_parts}
use Rattle.std.proofs.lemmas.List.{length-append}
use Rattle.trick_lang.proofs.Variables.{scalars_length}
use Rattle.trick_lang.specs.Effect.{scalars_of}
use Rattle.trick_lang.specs.Tree.{Term, Number, Local, Cell, Prefixed, Chain, Choose, Links, NoLink, Link, Choices, Last, Choice, Spot, spot}
use Rattle.trick_lang.specs.TreeOf.{term_of}
use Rattle.trick_lang.specs.Wrap.{IsOf, scalar_at}
use Rattle.trick_lang.specs.declared.cells.Cell.{Cell as CellNumber}
use Rattle.trick_lang.specs.declared.job.Job.{Job}
use Rattle.trick_lang.specs.declared.scalar.Scalar.{Scalar}
use Rattle.trick_lang.specs.declared.tree.Expr.{Expr}
use Rattle.trick_lang.specs.declared.variable.Variable.{Variable}
use Rattle.trick_model.proofs.Lengths.{names_length}
use Rattle.trick_model.specs.Condition.{are_all_conditions, are_conditions, has_no_step, is_condition, is_condition_of, is_plain_place, is_safe}
use Rattle.trick_model.specs.Names.{Names}
use Rattle.trick_lang.specs.Names.{job_name}
use Rattle.trick_lang.specs.declared.method.Method.{Method}
use Rattle.trick_lang.specs.declared.object.Object.{Object}
use Rattle.trick_lang.specs.declared.program.Program.{Program}
use Rattle.std.specs.Prelude.{Result, Ok, Err}
use Rattle.trick_plan_variables.specs.Cells.{Adds, KeepsRest}
use Rattle.trick_plan_variables.specs.declared.fault.DeclareFault.{DeclareFault}
use Rattle.trick_model.specs.Valid.{AreDeedsAmong, IsAssignment, IsCell, IsDeedAmong, cell_names, names_in}
use Rattle.trick_model.specs.declared.event.Event.{Event}
use Rattle.trick_model.specs.declared.group.Group.{Group}
use Rattle.trick_model.specs.declared.read_at.ReadAt.{ReadAt}
use Rattle.trick_model.specs.declared.deed.Deed.{Deed}
use Rattle.trick_model.specs.declared.deed.Deed.TheVariants.{SetCell, SetJob, Freeze, Stop, Checkpoint, SetGroup, SetEvent}

-- ---- names

scalar_stays : (scalars more : List Scalar) (k : ℕ) → k < length scalars → scalar_at (scalars ++ more) k ≡ scalar_at scalars k
scalar_stays [] more k there = absurd (omega (arith, there))
scalar_stays (s ∷ ss) more zero there = refl
scalar_stays (s ∷ ss) more (suc k) there = scalar_stays ss more k (omega (arith, there))

-- names with more cells
pub record HasMore (old new : Names) : Type 0 where
  pub names : List (List ℕ)
  pub scalars : List Scalar
  pub cells : new.cells ≡ old.cells ++ names
  pub types : new.scalars ≡ old.scalars ++ scalars
  pub as_many : length old.cells ≡ length old.scalars
  pub job_names : new.job_names ≡ old.job_names
  pub jobs : new.jobs ≡ old.jobs
  pub groups : new.groups ≡ old.groups
  pub events : new.events ≡ old.events

-- a deed about some names is about them with more cells
pub among_more : (old new : Names) → HasMore old new → (deed : Deed) → IsDeedAmong old deed → IsDeedAmong new deed
among_more old new more (SetCell cell number) h = (
  subst (λ (names : List (List ℕ)). cell.0 < length names) (sym more.cells) (let larger = length-append old.cells more.names in let there = h.0 in omega (arith, there, larger)),
  subst (λ (s : Scalar). IsOf s number)
      (sym (ap (λ (scalars : List Scalar). scalar_at scalars cell.0) more.types
      ∙ scalar_stays old.scalars more.scalars cell.0 (subst (λ (n : ℕ). cell.0 < n) more.as_many h.0))) h.1,
)
among_more old new more (SetJob job on) h = subst (λ (jobs : List Job). job.0 < length jobs) (sym more.jobs) h
among_more old new more Freeze h = tt
among_more old new more (Stop at) h = h
among_more old new more Checkpoint h = tt
among_more old new more (SetGroup group on) h = subst (λ (names : List (List ℕ)). group < length names) (sym more.groups) h
among_more old new more (SetEvent event on) h = subst (λ (names : List (List ℕ)). event < length names) (sym more.events) h

-- ---- conditions

below : (n a b : ℕ) → a ≤ b → nat_le n a ≡ true → nat_le n b ≡ true
below n a b more h = grind (arith, nat_tests, h)

module _ (a b : ℕ) (more : a ≤ b) where
  plain_more : (p : Spot) → is_plain_place a p ≡ true → is_plain_place b p ≡ true
  plain_more (spot own first span offset literals steps) h =
      let parts = and_parts (not own) (has_no_step steps && (nat_lt offset span && nat_le (first + span) a)) h in
      let rest = and_parts (has_no_step steps) (nat_lt offset span && nat_le (first + span) a) parts.1 in
      let last = and_parts (nat_lt offset span) (nat_le (first + span) a) rest.1 in
      and_from (not own) (has_no_step steps && (nat_lt offset span && nat_le (first + span) b)) parts.0
      (and_from (has_no_step steps) (nat_lt offset span && nat_le (first + span) b) rest.0
      (and_from (nat_lt offset span) (nat_le (first + span) b) last.0 (below (first + span) a b more last.1)))

  mutual
    condition_more : (e : Term) → is_condition a e ≡ true → is_condition b e ≡ true
    condition_more (Number n) h = refl
    condition_more (Local slot) h = h
    condition_more (Cell place) h = plain_more place h
    condition_more (Prefixed o e) h = condition_more e h
    condition_more (Chain e links) h =
        let parts = and_parts (is_condition a e) (are_conditions a links) h in
        and_from (is_condition b e) (are_conditions b links) (condition_more e parts.0) (links_more links parts.1)
    condition_more (Choose choices) h = choices_more choices h

    links_more : (links : Links) → are_conditions a links ≡ true → are_conditions b links ≡ true
    links_more NoLink h = refl
    links_more (Link o e rest) h =
        let parts = and_parts (is_safe o) (is_condition a e && are_conditions a rest) h in
        let rests = and_parts (is_condition a e) (are_conditions a rest) parts.1 in
        and_from (is_safe o) (is_condition b e && are_conditions b rest) parts.0
        (and_from (is_condition b e) (are_conditions b rest) (condition_more e rests.0) (links_more rest rests.1))

    choices_more : (choices : Choices) → are_all_conditions a choices ≡ true → are_all_conditions b choices ≡ true
    choices_more (Last e) h = condition_more e h
    choices_more (Choice test e rest) h =
        let parts = and_parts (is_condition a test) (is_condition a e && are_all_conditions a rest) h in
        let rests = and_parts (is_condition a e) (are_all_conditions a rest) parts.1 in
        and_from (is_condition b test) (is_condition b e && are_all_conditions b rest) (condition_more test parts.0)
        (and_from (is_condition b e) (are_all_conditions b rest) (condition_more e rests.0) (choices_more rest rests.1))

  pub condition_of_more : (e : Option Expr) → is_condition_of a e ≡ true → is_condition_of b e ≡ true
  condition_of_more None h = refl
  condition_of_more (Some e) h = condition_more (term_of e) h

-- ---- assignments

scalars_append : (xs ys : List Variable) → scalars_of (xs ++ ys) ≡ scalars_of xs ++ scalars_of ys
scalars_append [] ys = refl
scalars_append (x ∷ xs) ys = ap (λ (ss : List Scalar). x.scalar ∷ ss) (scalars_append xs ys)

length_more : (xs ys : List Variable) → length xs ≤ length (xs ++ ys)
length_more [] ys = omega arith
length_more (x ∷ xs) ys = let rest = length_more xs ys in omega (arith, rest)

pub assignment_more : (cells more : List Variable) (assign : CellNumber × ℤ) → IsAssignment cells assign → IsAssignment (cells ++ more) assign
assignment_more cells more assign h = record {
  there = let larger = length_more cells more in omega (arith, h.there, larger);
  in_range =
      let scalars = scalars_of cells in
      let same : scalar_at (scalars_of (cells ++ more)) (assign.0).0 ≡ scalar_at scalars (assign.0).0 =
      ap (λ (ss : List Scalar). scalar_at ss (assign.0).0) (scalars_append cells more)
      ∙ scalar_stays scalars (scalars_of more) (assign.0).0 (subst (λ (n : ℕ). (assign.0).0 < n) (sym (scalars_length cells)) h.there) in
      subst (λ (s : Scalar). IsOf s assign.1) (sym same) h.in_range;
}

-- ---- plans

names_append : (xs ys : List Variable) → cell_names (xs ++ ys) ≡ cell_names xs ++ cell_names ys
names_append [] ys = refl
names_append (x ∷ xs) ys = ap (λ (ns : List (List ℕ)). x.name ∷ ns) (names_append xs ys)

-- the names of a program with more cells
names_more : (old new : Program) (more : List Variable) (groups : List Group) (events : List Event) → new.cells ≡ old.cells ++ more → KeepsRest old new
    → HasMore (names_in old groups events) (names_in new groups events)
names_more old new more groups events cells rest = record {
  names = cell_names more;
  scalars = scalars_of more;
  cells = ap cell_names cells ∙ names_append old.cells more;
  types = ap scalars_of cells ∙ scalars_append old.cells more;
  as_many = names_length old.cells ∙ sym (scalars_length old.cells);
  job_names =
      ap (λ (objects : List Object). map (job_name objects new.methods) new.jobs) rest.objects
      ∙ (ap (λ (methods : List Method). map (job_name old.objects methods) new.jobs) rest.methods
      ∙ ap (λ (jobs : List Job). map (job_name old.objects old.methods) jobs) rest.jobs);
  jobs = rest.jobs;
  groups = refl;
  events = refl;
}

-- what a plan keeps of its cells and names
pub record KeepsNames (p : Program) (groups : List Group) (events : List Event) (reads : List ReadAt) (assigns : List (CellNumber × ℤ)) : Type 0 where
  pub group_cells : All (λ (group : Group). All (IsCell (length p.cells)) group.cells) groups
  pub assigns_right : All (IsAssignment p.cells) assigns
  pub event_actions : All (λ (event : Event). AreDeedsAmong (names_in p groups events) event.actions) events
  pub read_actions : All (λ (read : ReadAt). All (IsDeedAmong (names_in p groups events)) read.actions) reads
  pub conditions_right : All (λ (event : Event). IsTrue (is_condition_of (length p.cells) event.condition)) events

pub names_kept : (old new : Program) (more : List Variable) (groups : List Group) (events : List Event) (reads : List ReadAt) (assigns : List (CellNumber × ℤ))
    → new.cells ≡ old.cells ++ more → KeepsRest old new → KeepsNames old groups events reads assigns → KeepsNames new groups events reads assigns
names_kept old new more groups events reads assigns cells rest h =
    let names = names_more old new more groups events cells rest in
    let larger : length old.cells ≤ length new.cells = subst (λ (cs : List Variable). length old.cells ≤ length cs) (sym cells) (length_more old.cells more) in
    record {
      group_cells = λ k d there j e fits. let was = h.group_cells k d there j e fits in omega (arith, was, larger);
      assigns_right = λ k d there. subst (λ (cs : List Variable). IsAssignment cs (slice_index_or assigns k d)) (sym cells) (assignment_more old.cells more (slice_index_or assigns k d) (h.assigns_right k d there));
      event_actions = λ k d there j e inside i f fits. among_more (names_in old groups events) (names_in new groups events) names (slice_index_or (slice_index_or (slice_index_or {A = Event} events k d).actions j e).1 i f) (h.event_actions k d there j e inside i f fits);
      read_actions = λ k d there j e inside. among_more (names_in old groups events) (names_in new groups events) names (slice_index_or (slice_index_or {A = ReadAt} reads k d).actions j e) (h.read_actions k d there j e inside);
      conditions_right = λ k d there. condition_of_more (length old.cells) (length new.cells) larger (slice_index_or events k d).condition (h.conditions_right k d there);
    }

-- the cells of a program that is told to add some, or refuses
pub some_more : (expected : Result (List Variable) DeclareFault) (result : Result (Unit {0}) DeclareFault) (old new : List Variable) → Adds expected result old new
    → (more : List Variable) × (new ≡ old ++ more)
some_more expected (Ok done) old new h = (h.0, h.2)
some_more expected (Err refused) old new h = ([], h.1 ∙ sym (append-nil old))

-- what is kept of a program is kept of one with the same parts
pub rest_of : (same old new : Program) → KeepsRest same new → same.items ≡ old.items → same.sizes ≡ old.sizes → same.objects ≡ old.objects → same.blocks ≡ old.blocks
    → same.methods ≡ old.methods → same.jobs ≡ old.jobs → same.slots ≡ old.slots → KeepsRest old new
rest_of same old new h items sizes objects blocks methods jobs slots = record {
  items = h.items ∙ items;
  sizes = h.sizes ∙ sizes;
  objects = h.objects ∙ objects;
  blocks = h.blocks ∙ blocks;
  methods = h.methods ∙ methods;
  jobs = h.jobs ∙ jobs;
  slots = h.slots ∙ slots;
}
