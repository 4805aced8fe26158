-- What lines about events keep of a draft.
use Rattle.std.proofs.Common.{rules, ◌≡◌, ◌∙◌, ◌≤◌, ◌++◌, ◌∷◌, [], ◌==◌, ℕ, Bool, true, false, not, ◌&&◌, ◌||◌, nat_lt, List, Option, Some, None, is_none, is_some, Ok, All, length, slice_get, append-nil, refl, sym, ap, ap₂, subst, arith}
use Rattle.std.proofs.lemmas.Bool.{not-false}
use Rattle.std.proofs.lemmas.Bool.Decides.{nat_tests}
use Rattle.std.proofs.lemmas.List.Elements.{All-nil, All-push}
use Rattle.trick_plan_conditions.specs.Laws.{PlainConditionsHold}
use Rattle.trick_plan_draft.proofs.Added.{known_last, more_places, one_added}
use Rattle.trick_plan_draft.proofs.Grows.{Allows, HasAdded, among_added, events_grow, reads_grow}
use Rattle.trick_plan_draft.proofs.Keeping.{deeds_among}
use Rattle.trick_plan_draft.proofs.KeepingGroups.{group_changed, keeps_on, place_there}
use Rattle.trick_plan_draft.proofs.Lists.{all_changed_at, get_mapped, map_append, map_changed_at}
use Rattle.trick_plan_draft.proofs.Mirrored.{cell_there}
use Rattle.trick_plan_draft.proofs.Passed.{first_passed, is_answer, not_there, there}
use Rattle.trick_plan_draft.proofs.Rising.{all_with, rises_with}
use Rattle.trick_plan_draft.proofs.Stays.{stays_added}
use Rattle.trick_plan_draft.specs.Cells.{only_names}
use Rattle.trick_plan_draft.specs.Drafts.{as_event, asked, asked_of_event, event_of, group_of, item_at, names_of, new_event, with_event, with_group}
use Rattle.trick_plan_draft.specs.Jobs.{Jobs}
use Rattle.trick_plan_draft.specs.Kept.{AreAdded, IsCondition, IsDraftOf, IsEvent, names_of_events}
use Rattle.trick_plan_draft.specs.Laws.{Keeps}
use Rattle.trick_plan_draft.specs.declared.draft.Draft.{Draft}
use Rattle.trick_plan_draft.specs.declared.fault.LineFault.TheVariants as fault
use Rattle.trick_plan_draft.specs.declared.handle.Handle.{Handle}
use Rattle.trick_plan_draft.specs.declared.handle.Handle.TheVariants as handle
use Rattle.trick_plan_draft.specs.Lines.{Numbered, activate_line, add_event_line, deeds_in, has_number, is_full, is_right, is_unknown_in, known_in, new_event_line, or_none, or_zero, resolved, set_action_line, set_condition_line, set_cycle_line, this_own_line, with_numbered}
use Rattle.trick_plan_draft.specs.declared.event.EventDraft.{EventDraft}
use Rattle.trick_plan_draft.specs.declared.group.GroupDraft.{GroupDraft}
use Rattle.trick_lang.specs.SyntaxTree.{Expression, Name}
use Rattle.trick_model.specs.Names as model
use Rattle.trick_base.specs.Time.{tic_limit}
use Rattle.trick_model.specs.Valid.{IsCycle, IsDeedAmong}
use Rattle.trick_model.specs.declared.action.Action.{Action}
use Rattle.trick_model.specs.declared.thread.Thread.{Thread}
use Rattle.trick_check_names.specs.Names.{Names, meaning_of, with_name}

-- ---- places

of_handle : (d : Draft) (o : Option Handle) (k : ℕ) → as_event d o ≡ Some k → (x : EventDraft)
    × (slice_get d.events k ≡ Some x)
of_handle d None k h = absurd (cc h)
of_handle d (Some (handle.Group place)) k h = absurd (cc h)
of_handle d (Some (handle.Event place)) k h = place_there d.events place k h

event_there : (d : Draft) (variable : Name) (k : ℕ) → event_of d variable ≡ Some k → (x : EventDraft)
    × (slice_get d.events k ≡ Some x)
event_there d variable k h = of_handle d (meaning_of variable d.variables) k h

-- what is asked of an event that is there
asked_there : {A : Type 0} (ask : EventDraft → A) (none : A) (d : Draft) (variable : Name) (k : ℕ) (x : EventDraft)
    → event_of d variable ≡ Some k → slice_get d.events k ≡ Some x
    → asked_of_event ask none d variable ≡ ask x
asked_there ask none d variable k x is at = ap (λ (o : Option ℕ). asked ask none (item_at d.events o)) is
    ∙ ap (λ (o : Option EventDraft). asked ask none o) at

some_tics : (tics : ℕ) → (tics == 0) ≡ false → 1 ≤ tics
some_tics tics e = grind (arith, nat_tests, e)

at_most : (n : ℕ) → nat_lt 15 n ≡ false → n ≤ 15
at_most n e = search rules

module _ (jobs : Jobs) (threads : List Thread) where
  -- the event of a variable is changed, and keeps its name
  event_changed : (d : Draft) (variable : Name) (change : EventDraft → EventDraft)
      → ((x : EventDraft) → (change x).name ≡ x.name)
      → (IsDraftOf jobs threads d → (k : ℕ) (x : EventDraft) → event_of d variable ≡ Some k → slice_get d.events k
      ≡ Some x
      → IsEvent (names_of jobs d) (length d.cells.scalars) x
      → IsEvent (names_of jobs d) (length d.cells.scalars) (change x))
      → Keeps jobs threads d (with_event variable change d)
  event_changed d variable change same keeps = record {
    cells = refl;
    deeds = λ action deed is. is;
    right = λ right. record {
      cells = right.cells;
      flagged = right.flagged;
      assigns = right.assigns;
      depends = right.depends;
      reads = right.reads;
      groups = right.groups;
      events =
          all_changed_at (IsEvent (names_of jobs d) (length d.cells.scalars)) change d.events (event_of d variable)
          (λ k is x at event. keeps right k x is at event) right.events;
      added_groups = right.added_groups;
      added_events =
          subst (λ (names : List Name). AreAdded 256 names d.added_events)
          (sym (map_changed_at (λ (event : EventDraft). event.name) change d.events (event_of d variable) same))
          right.added_events;
    };
  }

  -- ---- groups and events

  pub set_cycle : (variable : Name) (tics : ℕ) → tics ≤ tic_limit → (d e : Draft) → set_cycle_line variable tics d
      ≡ Ok e → Keeps jobs threads d e
  set_cycle variable tics early d e h =
      let of_event : EventDraft → EventDraft = λ event. record event { cycle = tics } in
      let of_group : GroupDraft → GroupDraft = λ group. record group { cycle = tics } in
      let half = with_event variable of_event d in
      let new = with_group variable of_group half in
      let p = first_passed (is_none (group_of d variable) && is_none (event_of d variable)) fault.UnknownName
      ((tics == 0, fault.OutOfRange) ∷ []) new e h in
      let q = first_passed (tics == 0) fault.OutOfRange [] new e p.1 in
      let cycle : IsCycle tics = record { some = some_tics tics q.0; in_range = early } in
      subst (Keeps jobs threads d) (is_answer new e q.1)
      (keeps_on jobs threads d half new
      (event_changed d variable of_event (λ x. refl) (λ right k x is at event.
      record {
        cycle = cycle;
        condition = event.condition;
        rising = event.rising;
        in_range = event.in_range;
        deeds = event.deeds;
      }))
      (group_changed jobs threads half variable of_group (λ x. refl)
      (λ right k x is at group. record { cycle = cycle; few = group.few; there = group.there })))

  pub this_own : (variable : Name) (d e : Draft) → this_own_line variable d ≡ Ok e → Keeps jobs threads d e
  this_own variable d e h =
      let p = first_passed (is_none (group_of d variable) && is_none (event_of d variable)) fault.UnknownName
      [] d e h in
      subst (Keeps jobs threads d) (is_answer d e p.1) (record { cells = refl; right = λ right. right; deeds = λ a deed is. is })

  -- ---- events

  pub new_event_keeps : (variable name : Name) (frame : ℕ) → IsCycle frame → (d e : Draft)
      → new_event_line variable name frame d ≡ Ok e → Keeps jobs threads d e
  new_event_keeps variable name frame cycle d e h =
      let n = length d.cells.scalars in
      let event : EventDraft = new_event name frame in
      let new : Draft = record d {
        variables = with_name variable (handle.Event (length d.events)) d.variables;
        event_names = with_name name (length d.events) d.event_names;
        events = d.events ++ event ∷ [];
      } in
      let p = first_passed
      (is_some (meaning_of variable d.variables) || is_some (meaning_of name d.event_names)) fault.TwiceNamed
      [] new e h in
      subst (Keeps jobs threads d) (is_answer new e p.1) (record {
        cells = refl;
        deeds = λ action deed is. is;
        right = λ right. record {
          cells = right.cells;
          flagged = right.flagged;
          assigns = right.assigns;
          depends = right.depends;
          reads = right.reads;
          groups = right.groups;
          events =
              All-push (IsEvent (names_of jobs d) n) d.events event right.events
              (record { cycle = cycle; condition = tt; rising = refl; in_range = All-nil _; deeds = All-nil _ });
          added_groups = right.added_groups;
          added_events =
              subst (λ (names : List Name). AreAdded 256 names d.added_events)
              (sym (map_append (λ (x : EventDraft). x.name) d.events (event ∷ [])))
              (more_places 256 (names_of_events d.events) (name ∷ []) d.added_events right.added_events);
        };
      })

  condition_right : PlainConditionsHold → (d : Draft) → IsDraftOf jobs threads d → (condition : Option Expression)
      → is_right condition ≡ true → IsCondition (length d.cells.scalars) (resolved d condition)
  condition_right plain d right None h = absurd (cc h)
  condition_right plain d right (Some e) h = λ count enough.
      plain (known_in d) count
      (λ name cell is. let lt = cell_there d.cells right.cells name cell is in omega (arith, lt, enough)) e h

  pub set_condition : PlainConditionsHold → (variable : Name) (condition : Option Expression) (d e : Draft)
      → set_condition_line variable condition d ≡ Ok e → Keeps jobs threads d e
  set_condition plain variable condition d e h =
      let change : EventDraft → EventDraft = λ event. record event { condition = resolved d condition } in
      let given : EventDraft → Bool = λ event. is_some event.condition in
      let new = with_event variable change d in
      let p = first_passed (is_none (event_of d variable) || is_unknown_in d condition) fault.UnknownName
      ((asked_of_event given false d variable, fault.TwiceNamed) ∷ (not (is_right condition), fault.BadAction) ∷ [])
      new e h in
      let q = first_passed (asked_of_event given false d variable) fault.TwiceNamed
      ((not (is_right condition), fault.BadAction) ∷ []) new e p.1 in
      let r = first_passed (not (is_right condition)) fault.BadAction [] new e q.1 in
      subst (Keeps jobs threads d) (is_answer new e r.1)
      (event_changed d variable change (λ x. refl) (λ right k x is at event. record {
        cycle = event.cycle;
        condition = condition_right plain d right condition (not-false (is_right condition) r.0);
        rising = event.rising;
        in_range = event.in_range;
        deeds = event.deeds;
      }))

  pub set_action : (variable : Name) (number : ℕ) (actions : Option (List Action)) (d e : Draft)
      → set_action_line jobs variable number actions d ≡ Ok e → Keeps jobs threads d e
  set_action variable number actions d e h =
      let deeds = deeds_in jobs d actions in
      let new_list : Numbered = (number, or_none deeds) in
      let change : EventDraft → EventDraft = λ event. record event { actions = with_numbered new_list event.actions } in
      let given : EventDraft → Bool = λ event. has_number number event.actions in
      let new = with_event variable change d in
      let p = first_passed (is_none (event_of d variable)) fault.UnknownName
      ((nat_lt 15 number, fault.OutOfRange) ∷ (asked_of_event given false d variable, fault.TwiceNamed)
      ∷ (is_none deeds, fault.BadAction) ∷ []) new e h in
      let q = first_passed (nat_lt 15 number) fault.OutOfRange
      ((asked_of_event given false d variable, fault.TwiceNamed)
      ∷ (is_none deeds, fault.BadAction) ∷ []) new e p.1 in
      let r = first_passed (asked_of_event given false d variable) fault.TwiceNamed
      ((is_none deeds, fault.BadAction) ∷ []) new e q.1 in
      let s = first_passed (is_none deeds) fault.BadAction [] new e r.1 in
      let done = deeds_among jobs threads d actions s.0 in
      subst (Keeps jobs threads d) (is_answer new e s.1)
      (event_changed d variable change (λ x. refl) (λ right k x is at event.
      let free : has_number number x.actions ≡ false = sym (asked_there given false d variable k x is at) ∙ r.0 in
      record {
        cycle = event.cycle;
        condition = event.condition;
        rising = rises_with new_list x.actions event.rising free;
        in_range = all_with (λ (list : Numbered). list.0 ≤ 15) new_list x.actions (at_most number q.0) event.in_range;
        deeds = all_with (λ (list : Numbered). All (IsDeedAmong (names_of jobs d)) list.1) new_list x.actions done
            event.deeds;
      }))

  pub activate : (variable : Name) (d e : Draft) → activate_line variable d ≡ Ok e → Keeps jobs threads d e
  activate variable d e h =
      let change : EventDraft → EventDraft = λ event. record event { on = true } in
      let new = with_event variable change d in
      let p = first_passed (is_none (event_of d variable)) fault.UnknownName [] new e h in
      subst (Keeps jobs threads d) (is_answer new e p.1)
      (event_changed d variable change (λ x. refl) (λ right k x is at event.
      record {
        cycle = event.cycle;
        condition = event.condition;
        rising = event.rising;
        in_range =
            event.in_range;
        deeds = event.deeds;
      }))

  -- an event is added at its place
  added_at : (d : Draft) (name : Name) (place : ℕ) → meaning_of name d.added_events ≡ None → is_full d.added_events 256
      ≡ false
      → slice_get (names_of_events d.events) place ≡ Some name
      → Keeps jobs threads d (record d { added_events = d.added_events ++ (name, place) ∷ [] })
  added_at d name place unknown few at =
      let n = length d.cells.scalars in
      let added : Names ℕ = d.added_events ++ (name, place) ∷ [] in
      let new : Draft = record d { added_events = added } in
      let of : List Name → List Name → model.Names =
      λ groups events. record (names_of jobs d) { groups = groups; events = events } in
      let has : HasAdded (names_of jobs d) (names_of jobs new) = record {
        more_groups = [];
        more_events = name ∷ [];
        same = ap₂ of (sym (append-nil (only_names d.added_groups)))
            (map_append (λ (known : Name × ℕ). known.0) d.added_events ((name, place) ∷ []));
      } in
      let allows : Allows (names_of jobs d) (names_of jobs new) =
      among_added (names_of jobs d) (names_of jobs new) has in
      record {
        cells = refl;
        deeds = stays_added (names_of jobs d) (names_of jobs new) has;
        right = λ right. record {
          cells = right.cells;
          flagged = right.flagged;
          assigns = right.assigns;
          depends = right.depends;
          reads = reads_grow (names_of jobs d) (names_of jobs new) allows d.reads right.reads;
          groups = right.groups;
          events = events_grow (names_of jobs d) (names_of jobs new) n n allows (omega arith) d.events right.events;
          added_groups = right.added_groups;
          added_events = one_added 256
              (names_of_events d.events) d.added_events name place unknown few at right.added_events;
        };
      }

  pub add_event : (variable : Name) (d e : Draft) → add_event_line variable d ≡ Ok e → Keeps jobs threads d e
  add_event variable d e h =
      let ask : EventDraft → Name = λ event. event.name in
      let name = asked_of_event ask [] d variable in
      let place = or_zero (event_of d variable) in
      let new : Draft = record d { added_events = with_name name place d.added_events } in
      let p = first_passed (is_none (event_of d variable)) fault.UnknownName
      ((is_some (meaning_of name d.added_events), fault.TwiceNamed) ∷ (is_full d.added_events 256, fault.TooMany 256)
      ∷ []) new e h in
      let q = first_passed (is_some (meaning_of name d.added_events)) fault.TwiceNamed
      ((is_full d.added_events 256, fault.TooMany 256) ∷ []) new e p.1 in
      let r = first_passed (is_full d.added_events 256) (fault.TooMany 256) [] new e q.1 in
      let unknown : meaning_of name d.added_events ≡ None = not_there (meaning_of name d.added_events) q.0 in
      let found = there (event_of d variable) p.0 in
      let event = event_there d variable found.0 found.1 in
      let named : name ≡ (event.0).name = asked_there ask [] d variable found.0 event.0 found.1 event.1 in
      let at : slice_get (names_of_events d.events) place ≡ Some name =
      ap (λ (o : Option ℕ). slice_get (names_of_events d.events) (or_zero o)) found.1
      ∙ (get_mapped ask d.events found.0 event.0 event.1 ∙ ap (λ (ns : Name). Some ns) (sym named)) in
      let last : new ≡ record d { added_events = d.added_events ++ (name, place) ∷ [] } =
      ap (λ (added : Names ℕ). record d { added_events = added }) (known_last name place d.added_events unknown) in
      subst (Keeps jobs threads d) (sym last ∙ is_answer new e r.1) (added_at d name place unknown r.0 at)
