-- The names of a plan, and its deeds, which are about them.
use Rattle.std.proofs.Common.{◌≡◌, ℕ, List, [], ◌∷◌, map, refl, ap, subst}
use Rattle.std.proofs.lemmas.List.Elements.{All-map}
use Rattle.std.specs.Prelude.{All}
use Rattle.trick_model.specs.Events.{names_of}
use Rattle.trick_model.specs.Names.{Names}
use Rattle.trick_model.specs.Plan.{Event}
use Rattle.trick_model.specs.PlanOf.{event_of, plan_of}
use Rattle.trick_model.specs.Valid.{AreDeedsAmong, IsDeedAmong, event_names, names_in}
use Rattle.trick_model.specs.declared.event.Event.{Event as EventValue}
use Rattle.trick_model.specs.declared.plan.Plan.{Plan}
use Rattle.trick_model.specs.declared.read_at.ReadAt.{ReadAt}

same_events : (events : List EventValue) → event_names events ≡ map (λ (e : Event). e.name) (map event_of events)
same_events [] = refl
same_events (event ∷ events) = ap (λ names. event.name ∷ names) (same_events events)

pub same_names : (plan : Plan) → names_in plan.program plan.groups plan.events ≡ names_of (plan_of plan)
same_names plan = ap (λ (events : List (List ℕ)). record (names_of (plan_of plan)) { events = events }) (same_events plan.events)

-- the deeds of its events
pub events_among : (plan : Plan) → All (λ (event : Event). AreDeedsAmong (names_of (plan_of plan)) event.actions) (plan_of plan).events
events_among plan =
    All-map (λ (event : Event). AreDeedsAmong (names_of (plan_of plan)) event.actions) event_of plan.events
    (subst (λ (names : Names). All (λ (event : EventValue). AreDeedsAmong names event.actions) plan.events) (same_names plan) plan.event_actions)

-- the deeds of its reads
pub reads_among : (plan : Plan) → All (λ (read : ReadAt). All (IsDeedAmong (names_of (plan_of plan))) read.actions) plan.reads
reads_among plan =
    subst (λ (names : Names). All (λ (read : ReadAt). All (IsDeedAmong names) read.actions) plan.reads) (same_names plan) plan.read_actions
