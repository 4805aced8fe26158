-- What lines about groups keep of a draft.
use Rattle.std.proofs.Common.{◌≡◌, ◌∙◌, ◌++◌, ◌∷◌, [], ℕ, Bool, true, false, ◌||◌, nat_lt, List, Option, Some, None, is_none, is_some, Ok, length, slice_get, append-nil, refl, sym, ap, ap₂, subst, arith, if◌then◌else◌}
use Rattle.std.proofs.lemmas.Bool.{ltb-true, or_parts}
use Rattle.std.proofs.lemmas.List.Elements.{All-nil, All-push}
use Rattle.trick_base.proofs.ListLemmas.{item_there}
use Rattle.trick_plan_draft.proofs.Added.{known_last, more_places, one_added, room}
use Rattle.trick_plan_draft.proofs.Grows.{Allows, HasAdded, among_added, events_grow, reads_grow}
use Rattle.trick_plan_draft.proofs.Lists.{all_changed_at, get_mapped, map_append, map_changed_at}
use Rattle.trick_plan_draft.proofs.Mirrored.{cell_there}
use Rattle.trick_plan_draft.proofs.Passed.{first_passed, is_answer, not_there, there}
use Rattle.trick_plan_draft.proofs.Stays.{stays_added}
use Rattle.trick_plan_draft.specs.Cells.{only_names}
use Rattle.trick_plan_draft.specs.Drafts.{as_group, asked, asked_of_group, group_of, item_at, names_of, new_group, place_in, with_group}
use Rattle.trick_plan_draft.specs.Jobs.{Jobs}
use Rattle.trick_plan_draft.specs.Kept.{AreAdded, IsDraftOf, IsGroup, names_of_groups}
use Rattle.trick_plan_draft.specs.Laws.{Keeps}
use Rattle.trick_plan_draft.specs.declared.draft.Draft.{Draft}
use Rattle.trick_plan_draft.specs.declared.fault.LineFault.TheVariants as fault
use Rattle.trick_plan_draft.specs.declared.handle.Handle.{Handle}
use Rattle.trick_plan_draft.specs.declared.handle.Handle.TheVariants as handle
use Rattle.trick_plan_draft.specs.Lines.{add_group_line, add_variable_line, is_full, new_group_line, or_first, or_zero, set_changes_line, set_group_line}
use Rattle.trick_plan_draft.specs.declared.group.GroupDraft.{GroupDraft}
use Rattle.trick_lang.specs.SyntaxTree.{Name}
use Rattle.trick_lang.specs.declared.cells.Cell.{Cell}
use Rattle.trick_model.specs.Names as model
use Rattle.trick_model.specs.Valid.{IsCell}
use Rattle.trick_model.specs.declared.thread.Thread.{Thread}
use Rattle.trick_check_names.specs.Names.{Names, meaning_of, with_name}

-- ---- places

-- a place that is one of the list's has an item
pub place_there : {T : Type 0} (xs : List T) (place k : ℕ) → place_in xs place ≡ Some k → (x : T)
    × (slice_get xs k ≡ Some x)
place_there {T} xs place k h = by (nat_lt place (length xs)) refl h
  where
    one : Some place ≡ Some k → place ≡ k
    one e = cc

    at : place ≡ k → ((x : T) × (slice_get xs place ≡ Some x)) → ((x : T) × (slice_get xs k ≡ Some x))
    at e found = subst (λ (n : ℕ). ((x : T) × (slice_get xs n ≡ Some x))) e found

    by : (b : Bool) → nat_lt place (length xs) ≡ b → (let none : Option ℕ = None in if b then Some place else none)
        ≡ Some k → (x : T) × (slice_get xs k ≡ Some x)
    by true e is = at (one is) (item_there xs place (ltb-true place (length xs) e))
    by false e is = absurd (cc is)

of_handle : (d : Draft) (o : Option Handle) (k : ℕ) → as_group d o ≡ Some k → (x : GroupDraft)
    × (slice_get d.groups k ≡ Some x)
of_handle d None k h = absurd (cc h)
of_handle d (Some (handle.Group place)) k h = place_there d.groups place k h
of_handle d (Some (handle.Event place)) k h = absurd (cc h)

group_there : (d : Draft) (variable : Name) (k : ℕ) → group_of d variable ≡ Some k → (x : GroupDraft)
    × (slice_get d.groups k ≡ Some x)
group_there d variable k h = of_handle d (meaning_of variable d.variables) k h

-- what is asked of a group that is there
asked_there : {A : Type 0} (ask : GroupDraft → A) (none : A) (d : Draft) (variable : Name) (k : ℕ) (x : GroupDraft)
    → group_of d variable ≡ Some k → slice_get d.groups k ≡ Some x
    → asked_of_group ask none d variable ≡ ask x
asked_there ask none d variable k x is at = ap (λ (o : Option ℕ). asked ask none (item_at d.groups o)) is
    ∙ ap (λ (o : Option GroupDraft). asked ask none o) at

name_of : GroupDraft → Name
name_of group = group.name

module _ (jobs : Jobs) (threads : List Thread) where
  -- the group of a variable is changed, and keeps its name
  pub group_changed : (d : Draft) (variable : Name) (change : GroupDraft → GroupDraft)
      → ((x : GroupDraft) → (change x).name ≡ x.name)
      → (IsDraftOf jobs threads d → (k : ℕ) (x : GroupDraft) → group_of d variable ≡ Some k → slice_get d.groups k
      ≡ Some x
      → IsGroup (length d.cells.scalars) x → IsGroup (length d.cells.scalars) (change x))
      → Keeps jobs threads d (with_group variable change d)
  group_changed d variable change same keeps = record {
    cells = refl;
    deeds = λ action deed is. is;
    right = λ right. record {
      cells = right.cells;
      flagged = right.flagged;
      assigns = right.assigns;
      depends = right.depends;
      reads = right.reads;
      groups = all_changed_at (IsGroup (length d.cells.scalars)) change d.groups (group_of d variable)
          (λ k is x at group. keeps right k x is at group) right.groups;
      events = right.events;
      added_groups =
          subst (λ (names : List Name). AreAdded 64 names d.added_groups)
          (sym (map_changed_at (λ (group : GroupDraft). group.name) change d.groups (group_of d variable) same))
          right.added_groups;
      added_events = right.added_events;
    };
  }

  pub keeps_on : (a b c : Draft) → Keeps jobs threads a b → Keeps jobs threads b c → Keeps jobs threads a c
  keeps_on a b c h k = record {
    cells = k.cells ∙ h.cells;
    right = λ right. k.right (h.right right);
    deeds = λ action deed is. k.deeds action deed (h.deeds action deed is);
  }

  pub set_group : (variable : Name) (on : Bool) (d e : Draft) → set_group_line variable on d ≡ Ok e
      → Keeps jobs threads d e
  set_group variable on d e h =
      let change : GroupDraft → GroupDraft = λ group. record group { on = on } in
      let new = with_group variable change d in
      let p = first_passed (is_none (group_of d variable)) fault.UnknownName [] new e h in
      subst (Keeps jobs threads d) (is_answer new e p.1)
      (group_changed d variable change (λ x. refl)
      (λ right k x is at group. record { cycle = group.cycle; few = group.few; there = group.there }))

  pub set_changes : (variable : Name) (changes : Bool) (d e : Draft) → set_changes_line variable changes d ≡ Ok e
      → Keeps jobs threads d e
  set_changes variable changes d e h =
      let change : GroupDraft → GroupDraft = λ group. record group { changes = changes } in
      let new = with_group variable change d in
      let p = first_passed (is_none (group_of d variable)) fault.UnknownName [] new e h in
      subst (Keeps jobs threads d) (is_answer new e p.1)
      (group_changed d variable change (λ x. refl)
      (λ right k x is at group. record { cycle = group.cycle; few = group.few; there = group.there }))

  cell_right : (d : Draft) (name : Name) → IsDraftOf jobs threads d → (cell : Option Cell) → cell
      ≡ meaning_of name d.cells.names → is_none cell ≡ false → IsCell (length d.cells.scalars) (or_first cell)
  cell_right d name right None is found = absurd (cc found)
  cell_right d name right (Some cell) is found = cell_there d.cells right.cells name cell (sym is)

  pub add_variable : (variable name : Name) (d e : Draft) → add_variable_line variable name d ≡ Ok e
      → Keeps jobs threads d e
  add_variable variable name d e h =
      let n = length d.cells.scalars in
      let cell = meaning_of name d.cells.names in
      let change : GroupDraft → GroupDraft = λ group. record group { cells = group.cells ++ or_first cell ∷ [] } in
      let full : GroupDraft → Bool = λ group. is_full group.cells 256 in
      let new = with_group variable change d in
      let p = first_passed (is_none (group_of d variable) || is_none cell) fault.UnknownName
      ((asked_of_group full false d variable, fault.TooMany 256) ∷ []) new e h in
      let q = first_passed (asked_of_group full false d variable) (fault.TooMany 256) [] new e p.1 in
      let found = or_parts (is_none (group_of d variable)) (is_none cell) p.0 in
      subst (Keeps jobs threads d) (is_answer new e q.1)
      (group_changed d variable change (λ x. refl) (λ right k x is at group.
      let free : is_full x.cells 256 ≡ false = sym (asked_there full false d variable k x is at) ∙ q.0 in
      record {
        cycle = group.cycle;
        few = room x.cells (or_first cell) 256 free;
        there = All-push (IsCell n) x.cells (or_first cell) group.there (cell_right d name right cell refl found.1);
      }))

  pub new_group_keeps : (variable name : Name) (d e : Draft) → new_group_line variable name d ≡ Ok e
      → Keeps jobs threads d e
  new_group_keeps variable name d e h =
      let n = length d.cells.scalars in
      let group : GroupDraft = new_group name in
      let new : Draft = record d {
        variables = with_name variable (handle.Group (length d.groups)) d.variables;
        group_names = with_name name (length d.groups) d.group_names;
        groups = d.groups ++ group ∷ [];
      } in
      let p = first_passed
      (is_some (meaning_of variable d.variables) || is_some (meaning_of name d.group_names)) fault.TwiceNamed
      [] new e h in
      subst (Keeps jobs threads d) (is_answer new e p.1) (record {
        cells = refl;
        deeds = λ action deed is. is;
        right = λ right. record {
          cells = right.cells;
          flagged = right.flagged;
          assigns = right.assigns;
          depends = right.depends;
          reads = right.reads;
          groups = All-push (IsGroup n) d.groups group right.groups
              (record {
                cycle = record { some = omega arith; in_range = omega arith };
                few = omega arith;
                there =
                    All-nil _;
              });
          events = right.events;
          added_groups =
              subst (λ (names : List Name). AreAdded 64 names d.added_groups)
              (sym (map_append (λ (g : GroupDraft). g.name) d.groups (group ∷ [])))
              (more_places 64 (names_of_groups d.groups) (name ∷ []) d.added_groups right.added_groups);
          added_events = right.added_events;
        };
      })

  -- a group is added at its place
  added_at : (d : Draft) (name : Name) (place : ℕ) → meaning_of name d.added_groups ≡ None → is_full d.added_groups 64
      ≡ false
      → slice_get (names_of_groups d.groups) place ≡ Some name
      → Keeps jobs threads d (record d { added_groups = d.added_groups ++ (name, place) ∷ [] })
  added_at d name place unknown few at =
      let n = length d.cells.scalars in
      let added : Names ℕ = d.added_groups ++ (name, place) ∷ [] in
      let new : Draft = record d { added_groups = added } in
      let of : List Name → List Name → model.Names =
      λ groups events. record (names_of jobs d) { groups = groups; events = events } in
      let has : HasAdded (names_of jobs d) (names_of jobs new) = record {
        more_groups = name ∷ [];
        more_events = [];
        same = ap₂ of (map_append (λ (known : Name × ℕ). known.0) d.added_groups ((name, place) ∷ []))
            (sym (append-nil (only_names d.added_events)));
      } in
      let allows : Allows (names_of jobs d) (names_of jobs new) =
      among_added (names_of jobs d) (names_of jobs new) has in
      record {
        cells = refl;
        deeds = stays_added (names_of jobs d) (names_of jobs new) has;
        right = λ right. record {
          cells = right.cells;
          flagged = right.flagged;
          assigns = right.assigns;
          depends = right.depends;
          reads = reads_grow (names_of jobs d) (names_of jobs new) allows d.reads right.reads;
          groups = right.groups;
          events = events_grow (names_of jobs d) (names_of jobs new) n n allows (omega arith) d.events right.events;
          added_groups = one_added 64
              (names_of_groups d.groups) d.added_groups name place unknown few at right.added_groups;
          added_events = right.added_events;
        };
      }

  pub add_group : (variable : Name) (d e : Draft) → add_group_line variable d ≡ Ok e → Keeps jobs threads d e
  add_group variable d e h =
      let ask : GroupDraft → Name = λ group. group.name in
      let name = asked_of_group ask [] d variable in
      let place = or_zero (group_of d variable) in
      let new : Draft = record d { added_groups = with_name name place d.added_groups } in
      let p = first_passed (is_none (group_of d variable)) fault.UnknownName
      ((is_some (meaning_of name d.added_groups), fault.TwiceNamed) ∷ (is_full d.added_groups 64, fault.TooMany 64)
      ∷ []) new e h in
      let q = first_passed (is_some (meaning_of name d.added_groups)) fault.TwiceNamed
      ((is_full d.added_groups 64, fault.TooMany 64) ∷ []) new e p.1 in
      let r = first_passed (is_full d.added_groups 64) (fault.TooMany 64) [] new e q.1 in
      let unknown : meaning_of name d.added_groups ≡ None = not_there (meaning_of name d.added_groups) q.0 in
      let found = there (group_of d variable) p.0 in
      let group = group_there d variable found.0 found.1 in
      let named : name ≡ (group.0).name = asked_there ask [] d variable found.0 group.0 found.1 group.1 in
      let at : slice_get (names_of_groups d.groups) place ≡ Some name =
      ap (λ (o : Option ℕ). slice_get (names_of_groups d.groups) (or_zero o)) found.1
      ∙ (get_mapped ask d.groups found.0 group.0 group.1 ∙ ap (λ (ns : Name). Some ns) (sym named)) in
      let last : new ≡ record d { added_groups = d.added_groups ++ (name, place) ∷ [] } =
      ap (λ (added : Names ℕ). record d { added_groups = added }) (known_last name place d.added_groups unknown) in
      subst (Keeps jobs threads d) (sym last ∙ is_answer new e r.1) (added_at d name place unknown r.0 at)
