-- What a plan keeps, of its parts.
use Rattle.std.proofs.Common.{◌≡◌, ◌∙◌, ◌+◌, ◌≤◌, ◌++◌, ◌∷◌, [], ℕ, ℤ, List, Option, Some, None, All, IsTrue, length, map, slice_get, refl, sym, ap, subst, arith}
use Rattle.std.proofs.lemmas.List.Elements.{All-cons, All-get_or, All-head, All-map, All-tail, All-weaker}
use Rattle.std.proofs.lemmas.List.{length-map}
use Rattle.std.proofs.lemmas.Option.{get_or_from_slice_get, slice_get-map, slice_get_within}
use Rattle.std.specs.Option.{option_map, option_to_list}
use Rattle.trick_base.proofs.ListLemmas.{all_unmapped}
use Rattle.trick_lang.proofs.Variables.{scalars_length}
use Rattle.trick_plan_draft.specs.Cells.{only_names}
use Rattle.trick_plan_draft.specs.Drafts.{names_of}
use Rattle.trick_plan_draft.specs.Jobs.{jobs_of}
use Rattle.trick_plan_draft.specs.Kept.{AreAdded, IsCondition, IsDraftOf, IsEvent, IsGroup, IsMirrored, IsOfPlace, IsSet, names_of_events, names_of_groups}
use Rattle.trick_plan_draft.specs.declared.draft.Draft.{Draft}
use Rattle.trick_plan_draft.specs.declared.event.EventDraft.{EventDraft}
use Rattle.trick_plan_draft.specs.declared.group.GroupDraft.{GroupDraft}
use Rattle.trick_plan_ending.specs.Added.{added, at_places, places_of}
use Rattle.trick_plan_ending.specs.Ending.{AreParts, EventTree, draft_tree, event_tree, plan_group}
use Rattle.trick_plan_ending.specs.Right.{AreRight}
use Rattle.trick_plan_ending.specs.declared.parts.Parts.{Parts}
use Rattle.trick_lang.specs.Effect.{scalars_of}
use Rattle.trick_lang.specs.SyntaxTree.{Name}
use Rattle.trick_lang.specs.TreeOf.{term_of}
use Rattle.trick_lang.specs.declared.cells.Cell.{Cell}
use Rattle.trick_lang.specs.declared.program.Program.{Program}
use Rattle.trick_lang.specs.declared.scalar.Scalar.{Scalar}
use Rattle.trick_lang.specs.declared.tree.Expr.{Expr}
use Rattle.trick_lang.specs.declared.variable.Variable.{Variable}
use Rattle.trick_model.specs.Condition.{is_condition_of}
use Rattle.trick_model.specs.Names as model
use Rattle.trick_base.specs.Time.{tic_limit}
use Rattle.trick_model.specs.Valid.{all_differ, AreDeedsAmong, AreNumbered, cell_names, event_names, group_names, ids, IsAssignment, IsCell, IsCycle, IsDeedAmong, IsFrame, IsPair, names_in, queues_of, rises}
use Rattle.trick_model.specs.declared.deed.Deed.{Deed}
use Rattle.trick_model.specs.declared.depends.Depends.{Depends}
use Rattle.trick_model.specs.declared.event.Event.{Event}
use Rattle.trick_model.specs.declared.flags.Flags.{Flags}
use Rattle.trick_model.specs.declared.group.Group.{Group}
use Rattle.trick_model.specs.declared.read_at.ReadAt.{ReadAt}
use Rattle.trick_model.specs.declared.thread.Thread.{Thread}
use Rattle.trick_check_names.specs.Names.{Names}
use Rattle.trick_plan_settings.specs.declared.settings.Settings.{Settings}
use Rattle.trick_plan_settings.specs.Threads.{AreThreads}

-- ---- items at places

fact_at : {T : Type 0} (P : T → Type 0) (xs : List T) (place : ℕ) (x : T) → slice_get xs place ≡ Some x → All P xs → P x
fact_at P xs place x is all =
    subst P (get_or_from_slice_get xs place x x is) (All-get_or P xs place x (slice_get_within xs place x is) all)

-- What holds of all items holds of those at places.
all_at : {T : Type 0} (P : T → Type 0) (xs : List T) (places : List ℕ) → All P xs → All P (at_places xs places)
all_at {T} P xs [] all = λ k d lt. absurd (omega (arith, lt))
all_at {T} P xs (place ∷ places) all = by (slice_get xs place) refl (all_at P xs places all)
  where
    by : (o : Option T) → slice_get xs place ≡ o → All P (at_places xs places)
        → All P (option_to_list o ++ at_places xs places)
    by None e rest = rest
    by (Some x) e rest = All-cons P x (at_places xs places) (fact_at P xs place x e all) rest

-- The names of what is added are those that it is added by.
names_at : {T : Type 0} (name : T → Name) (xs : List T) (names : Names ℕ) → All (IsOfPlace (map name xs)) names
    → map name (added xs names) ≡ only_names names
names_at name xs [] there = refl
names_at {T} name xs (known ∷ names) there =
    by (slice_get xs known.1)
    (sym (slice_get-map name xs known.1) ∙ All-head (IsOfPlace (map name xs)) known names there)
    ∙ ap (λ (ns : List Name). known.0 ∷ ns)
    (names_at name xs names (All-tail (IsOfPlace (map name xs)) known names there))
  where
    by : (o : Option T) → option_map name o ≡ Some known.0
        → map name (option_to_list o ++ added xs names) ≡ known.0 ∷ map name (added xs names)
    by None e = cc e
    by (Some x) e = let is : name x ≡ known.0 = cc e in ap (λ (n : Name). n ∷ map name (added xs names)) is

added_few : (limit : ℕ) (names : Names ℕ) (made : List Name) → made ≡ only_names names → length names ≤ limit
    → length made ≤ limit
added_few limit names made same few =
    let many : length made ≡ length names =
    ap (λ (ns : List Name). length ns) same ∙ length-map names (λ (known : Name × ℕ). known.0) in
    subst (λ (n : ℕ). n ≤ limit) (sym many) few

-- ---- groups

module _ (cells : ℕ) (drafts : List GroupDraft) (names : Names ℕ) (groups : List Group)
    (are : groups ≡ map plan_group (added drafts names)) where
  -- what holds of each group of a plan
  each_group : (P : Group → Type 0) → All (IsGroup cells) drafts → ((draft : GroupDraft) → IsGroup cells draft → P (plan_group draft))
      → All P groups
  each_group P all holds =
      subst (All P) (sym are)
      (All-map P plan_group (added drafts names)
      (All-weaker (IsGroup cells) (λ (draft : GroupDraft). P (plan_group draft)) holds (added drafts names)
      (all_at (IsGroup cells) drafts (places_of names) all)))

  names_of_plan_groups : AreAdded 64 (names_of_groups drafts) names → group_names groups ≡ only_names names
  names_of_plan_groups added_are =
      ap group_names are
      ∙ (same_names (added drafts names)
      ∙ names_at (λ (draft : GroupDraft). draft.name) drafts names added_are.there)
    where
      same_names : (all : List GroupDraft) → group_names (map plan_group all) ≡ map (λ (draft : GroupDraft). draft.name) all
      same_names [] = refl
      same_names (draft ∷ all) = ap (λ (ns : List Name). draft.name ∷ ns) (same_names all)

  groups_are_flagged : (on : Flags) → on.on ≡ map (λ (draft : GroupDraft). draft.on) (added drafts names)
      → length on.on ≡ length groups
  groups_are_flagged on flags =
      ap (λ bs. length bs) flags
      ∙ (length-map (added drafts names) (λ (draft : GroupDraft). draft.on)
      ∙ (sym (length-map (added drafts names) plan_group) ∙ ap (λ (all : List Group). length all) (sym are)))

-- ---- events

-- a condition that cannot fault, whatever is declared
plain : (cells : ℕ) (condition : Option Expr) → IsCondition cells (option_map term_of condition)
    → IsTrue (is_condition_of cells condition)
plain cells None h = refl
plain cells (Some e) h = h cells (omega arith)

module _ (known : model.Names) (cells : ℕ) (drafts : List EventDraft) (names : Names ℕ) (events : List Event)
    (are : map event_tree events ≡ map draft_tree (added drafts names)) where
  -- what holds of each event of a plan
  each_event : (P : EventTree → Type 0) → All (IsEvent known cells) drafts
      → ((draft : EventDraft) → IsEvent known cells draft → P (draft_tree draft))
      → All (λ (event : Event). P (event_tree event)) events
  each_event P all holds =
      all_unmapped P event_tree events
      (subst (All P) (sym are)
      (All-map P draft_tree (added drafts names)
      (All-weaker (IsEvent known cells) (λ (draft : EventDraft). P (draft_tree draft)) holds (added drafts names)
      (all_at (IsEvent known cells) drafts (places_of names) all))))

  names_of_plan_events : AreAdded 256 (names_of_events drafts) names → event_names events ≡ only_names names
  names_of_plan_events added_are =
      of_trees events
      ∙ (ap (λ (trees : List EventTree). map (λ (tree : EventTree). tree.name) trees) are
      ∙ (of_drafts (added drafts names)
      ∙ names_at (λ (draft : EventDraft). draft.name) drafts names added_are.there))
    where
      of_trees : (all : List Event) → event_names all ≡ map (λ (tree : EventTree). tree.name) (map event_tree all)
      of_trees [] = refl
      of_trees (event ∷ all) = ap (λ (ns : List Name). event.name ∷ ns) (of_trees all)

      of_drafts : (all : List EventDraft) → map (λ (tree : EventTree). tree.name) (map draft_tree all)
          ≡ map (λ (draft : EventDraft). draft.name) all
      of_drafts [] = refl
      of_drafts (draft ∷ all) = ap (λ (ns : List Name). draft.name ∷ ns) (of_drafts all)

  events_are_flagged : (on : Flags) → on.on ≡ map (λ (draft : EventDraft). draft.on) (added drafts names)
      → length on.on ≡ length events
  events_are_flagged on flags =
      ap (λ bs. length bs) flags
      ∙ (length-map (added drafts names) (λ (draft : EventDraft). draft.on)
      ∙ (sym (length-map (added drafts names) draft_tree)
      ∙ (ap (λ (all : List EventTree). length all) (sym are) ∙ length-map events event_tree)))

  plain_conditions : (count : ℕ) → count ≡ cells → All (IsEvent known cells) drafts
      → All (λ (event : Event). IsTrue (is_condition_of count event.condition)) events
  plain_conditions count same all =
      All-weaker (λ (event : Event). IsCondition cells (event_tree event).condition)
      (λ (event : Event). IsTrue (is_condition_of count event.condition))
      (λ event h. subst (λ (n : ℕ). IsTrue (is_condition_of n event.condition)) (sym same) (plain cells event.condition h))
      events
      (each_event (λ (tree : EventTree). IsCondition cells tree.condition) all (λ draft is. is.condition))

-- ---- cells

right_assigns : (cells : List Variable) (scalars : List Scalar) (assigns : List (Cell × ℤ)) → scalars ≡ scalars_of cells
    → All (IsSet scalars) assigns → All (IsAssignment cells) assigns
right_assigns cells scalars assigns same all =
    All-weaker (IsSet (scalars_of cells)) (IsAssignment cells)
    (λ assign is. record {
      there = subst (λ (n : ℕ). IsCell n assign.0) (scalars_length cells) is.there;
      in_range = is.in_range;
    })
    assigns (subst (λ (all : List Scalar). All (IsSet all) assigns) same all)

-- ---- all facts

-- The names that actions of the draft can have are those that actions of the plan can have.
same_names : (p : Program) (d : Draft) (groups : List Group) (events : List Event) → IsMirrored p d
    → group_names groups ≡ only_names d.added_groups → event_names events ≡ only_names d.added_events
    → names_of (jobs_of p) d ≡ names_in p groups events
same_names p d groups events mirrors of_groups of_events =
    let of : List Name → List Scalar → List Name → List Name → model.Names = λ cells scalars group_names event_names. record {
      cells = cells;
      scalars = scalars;
      job_names = (jobs_of p).names;
      jobs = p.jobs;
      groups = group_names;
      events = event_names;
    } in
    ap (λ (cells : List Name). of cells d.cells.scalars (only_names d.added_groups) (only_names d.added_events)) mirrors.names
    ∙ (ap (λ (scalars : List Scalar). of (cell_names p.cells) scalars (only_names d.added_groups) (only_names d.added_events)) mirrors.scalars
    ∙ (ap (λ (ns : List Name). of (cell_names p.cells) (scalars_of p.cells) ns (only_names d.added_events)) (sym of_groups)
    ∙ ap (λ (ns : List Name). of (cell_names p.cells) (scalars_of p.cells) (group_names groups) ns) (sym of_events)))

pub names_kept : (p : Program) (d : Draft) (s : Settings) (parts : Parts) → IsMirrored p d
    → IsDraftOf (jobs_of p) s.threads d → AreParts d s parts
    → names_of (jobs_of p) d ≡ names_in p parts.groups parts.events
names_kept p d s parts mirrors draft are =
    same_names p d parts.groups parts.events mirrors
    (names_of_plan_groups (length d.cells.scalars) d.groups d.added_groups parts.groups are.groups draft.added_groups)
    (names_of_plan_events (names_of (jobs_of p) d) (length d.cells.scalars) d.events d.added_events parts.events are.events
    draft.added_events)

pub right : (p : Program) (d : Draft) (s : Settings) (parts : Parts) → IsMirrored p d → IsDraftOf (jobs_of p) s.threads d
    → AreThreads p.jobs s.threads → IsFrame s.frame → s.limit ≤ tic_limit + 1 → AreParts d s parts
    → map ids parts.queues ≡ queues_of p.jobs
    → AreRight p parts
right p d s parts mirrors draft threads frame limit are queues = record {
  threads_rise = all_threads.threads_rise;
  thread_limit = all_threads.thread_limit;
  main_thread = all_threads.main_thread;
  job_threads = all_threads.job_threads;
  needed_threads = all_threads.needed_threads;
  main_right = all_threads.main_right;
  queues_right = queues;
  frame_right = subst IsFrame (sym are.frame) frame;
  limit_right = subst (λ (n : ℕ). n ≤ tic_limit + 1) (sym are.limit) limit;
  thread_cycles = all_threads.thread_cycles;
  group_cycles = each_group count d.groups d.added_groups parts.groups are.groups
      (λ (group : Group). IsCycle group.cycle) draft.groups (λ group is. is.cycle);
  event_cycles = each_event names count d.events d.added_events parts.events are.events
      (λ (tree : EventTree). IsCycle tree.cycle) draft.events (λ event is. is.cycle);
  read_tics = subst (All (λ (read : ReadAt). read.tic ≤ tic_limit)) (sym are.reads) draft.reads.times;
  groups_differ = subst (λ (ns : List Name). IsTrue (all_differ ns)) (sym of_groups) draft.added_groups.differ;
  events_differ = subst (λ (ns : List Name). IsTrue (all_differ ns)) (sym of_events) draft.added_events.differ;
  pairs_right = subst (λ (all : List Thread). All (IsPair p.jobs all) parts.depends) (sym are.threads)
      (subst (All (IsPair p.jobs s.threads)) (sym are.depends) draft.depends.right);
  group_cells = subst (λ (n : ℕ). All (λ (group : Group). All (IsCell n) group.cells) parts.groups) (sym as_many)
      (each_group count d.groups d.added_groups parts.groups are.groups
      (λ (group : Group). All (IsCell count) group.cells) draft.groups (λ group is. is.there));
  assigns_right = right_assigns p.cells d.cells.scalars parts.assigns mirrors.scalars
      (subst (All (IsSet d.cells.scalars)) (sym are.assigns) draft.assigns);
  event_actions = subst (λ (all : model.Names). All (λ (event : Event). AreDeedsAmong all event.actions) parts.events) same
      (each_event names count d.events d.added_events parts.events are.events
      (λ (tree : EventTree). AreDeedsAmong names tree.actions) draft.events (λ event is. is.deeds));
  read_actions = subst (λ (all : model.Names). All (λ (read : ReadAt). All (IsDeedAmong all) read.actions) parts.reads) same
      (subst (All (λ (read : ReadAt). All (IsDeedAmong names) read.actions)) (sym are.reads) draft.reads.deeds);
  conditions_right = plain_conditions names count d.events d.added_events parts.events are.events
      (length p.cells) as_many draft.events;
  actions_numbered = All-weaker
      (λ (event : Event). AreRising (event_tree event)) AreNumbered
      (λ event is. record { rising = is.0; in_range = is.1 }) parts.events
      (each_event names count d.events d.added_events parts.events are.events
      AreRising draft.events (λ event is. (is.rising, is.in_range)));
  jobs_flagged = ap (λ (flags : Flags). length flags.on) are.jobs ∙ draft.flagged;
  events_flagged = events_are_flagged names count d.events d.added_events parts.events are.events parts.events_on are.events_on;
  groups_flagged = groups_are_flagged count d.groups d.added_groups parts.groups are.groups parts.groups_on are.groups_on;
  group_limit = subst (λ (n : ℕ). n ≤ 64) (length-map parts.groups (λ (group : Group). group.name))
      (added_few 64 d.added_groups (group_names parts.groups) of_groups draft.added_groups.few);
  variable_limit = each_group count d.groups d.added_groups parts.groups are.groups
      (λ (group : Group). length group.cells ≤ 256) draft.groups (λ group is. is.few);
  event_limit = subst (λ (n : ℕ). n ≤ 256) (length-map parts.events (λ (event : Event). event.name))
      (added_few 256 d.added_events (event_names parts.events) of_events draft.added_events.few);
  pair_limit = subst (λ (all : List Depends). length all ≤ 512) (sym are.depends) draft.depends.few;
  read_limit = subst (λ (all : List ReadAt). length all ≤ 4096) (sym are.reads) draft.reads.few;
}
  where
    AreRising : EventTree → Type 0
    AreRising tree =
        IsTrue (rises (map (λ (numbered : ℕ × List Deed). numbered.0) tree.actions))
        × All (λ (numbered : ℕ × List Deed). numbered.0 ≤ 15) tree.actions

    names : model.Names
    names = names_of (jobs_of p) d

    count : ℕ
    count = length d.cells.scalars

    all_threads : AreThreads p.jobs parts.threads
    all_threads = subst (AreThreads p.jobs) (sym are.threads) threads

    as_many : length p.cells ≡ length d.cells.scalars
    as_many = sym (ap (λ (all : List Scalar). length all) mirrors.scalars ∙ scalars_length p.cells)

    of_groups : group_names parts.groups ≡ only_names d.added_groups
    of_groups = names_of_plan_groups (length d.cells.scalars) d.groups d.added_groups parts.groups are.groups draft.added_groups

    of_events : event_names parts.events ≡ only_names d.added_events
    of_events = names_of_plan_events (names_of (jobs_of p) d) (length d.cells.scalars) d.events d.added_events parts.events are.events draft.added_events

    same : names_of (jobs_of p) d ≡ names_in p parts.groups parts.events
    same = names_kept p d s parts mirrors draft are
