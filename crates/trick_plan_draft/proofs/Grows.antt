-- A deed about some names is about more names.
use Rattle.std.proofs.Common.{◌≡◌, ◌<◌, ◌≤◌, ◌++◌, ℕ, List, Option, Some, None, All, length, sym, subst, arith}
use Rattle.std.proofs.lemmas.List.Elements.{All-weaker}
use Rattle.std.proofs.lemmas.List.{length-append}
use Rattle.trick_plan_draft.specs.Kept.{AreReads, IsCondition, IsEvent}
use Rattle.trick_plan_draft.specs.Lines.{Numbered}
use Rattle.trick_plan_draft.specs.declared.event.EventDraft.{EventDraft}
use Rattle.trick_lang.specs.Tree.{Term}
use Rattle.trick_model.specs.Names.{Names}
use Rattle.trick_model.specs.Valid.{IsDeedAmong}
use Rattle.trick_model.specs.declared.deed.Deed.{Deed}
use Rattle.trick_model.specs.declared.deed.Deed.TheVariants.{SetGroup, SetEvent}
use Rattle.trick_model.specs.declared.read_at.ReadAt.{ReadAt}

-- ---- groups and events

-- the same names with more groups and events
pub record HasAdded (old new : Names) : Type 0 where
  pub more_groups : List (List ℕ)
  pub more_events : List (List ℕ)
  pub same : new ≡ record old { groups = old.groups ++ more_groups; events = old.events ++ more_events }

longer : (k : ℕ) (names more : List (List ℕ)) → k < length names → k < length (names ++ more)
longer k names more lt = let size = length-append names more in omega (arith, lt, size)

added : (old : Names) (groups events : List (List ℕ)) (deed : Deed) → IsDeedAmong old deed
    → IsDeedAmong (record old { groups = old.groups ++ groups; events = old.events ++ events }) deed
added old groups events (SetGroup group on) h = longer group old.groups groups h
added old groups events (SetEvent event on) h = longer event old.events events h
added old groups events deed h = h

pub among_added : (old new : Names) → HasAdded old new → (deed : Deed) → IsDeedAmong old deed → IsDeedAmong new deed
among_added old new more deed h =
    subst (λ (names : Names). IsDeedAmong names deed) (sym more.same) (added old more.more_groups more.more_events deed h)

-- ---- parts of a draft

-- A deed about the old names is about the new ones.
abbrev pub Allows : Names → Names → Type 0
Allows old new = (deed : Deed) → IsDeedAmong old deed → IsDeedAmong new deed

pub reads_grow : (old new : Names) → Allows old new → (reads : List ReadAt) → AreReads old reads → AreReads new reads
reads_grow old new more reads are = record {
  few = are.few;
  times = are.times;
  deeds =
      All-weaker (λ (read : ReadAt). All (IsDeedAmong old) read.actions)
      (λ (read : ReadAt). All (IsDeedAmong new) read.actions)
      (λ read all. All-weaker (IsDeedAmong old) (IsDeedAmong new) more read.actions all) reads are.deeds;
}

condition_grows : (old new : ℕ) → old ≤ new → (condition : Option Term) → IsCondition old condition
    → IsCondition new condition
condition_grows old new larger None is = tt
condition_grows old new larger (Some e) is = λ count enough. is count (omega (arith, larger, enough))

pub event_grows : (old new : Names) (cells more : ℕ) → Allows old new → cells ≤ more → (event : EventDraft)
    → IsEvent old cells event → IsEvent new more event
event_grows old new cells more allows larger event is = record {
  cycle = is.cycle;
  condition = condition_grows cells more larger event.condition is.condition;
  rising = is.rising;
  in_range = is.in_range;
  deeds =
      All-weaker (λ (list : Numbered). All (IsDeedAmong old) list.1) (λ (list : Numbered). All (IsDeedAmong new) list.1)
      (λ list all. All-weaker (IsDeedAmong old) (IsDeedAmong new) allows list.1 all) event.actions is.deeds;
}

pub events_grow : (old new : Names) (cells more : ℕ) → Allows old new → cells ≤ more → (events : List EventDraft)
    → All (IsEvent old cells) events → All (IsEvent new more) events
events_grow old new cells more allows larger events all =
    All-weaker (IsEvent old cells) (IsEvent new more) (event_grows old new cells more allows larger) events all
