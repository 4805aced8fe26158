-- Why a session left, by its entries, and want of memory that its writer told.
use Rattle.std.specs.Prelude.{◌≡◌, ℕ, ◌+◌, List, [], ◌∷◌, Option, Some}
use Rattle.trick_model.specs.Plan.{Plan}
use Rattle.trick_model.specs.State.{State}
use Rattle.trick_model.specs.declared.entry.Cause.{Cause}
use Rattle.trick_model.specs.declared.entry.Cause.TheVariants as cause
use Rattle.trick_model.specs.declared.entry.Entry.{Entry}
use Rattle.trick_serve_source.specs.Calls.{View}
use Rattle.trick_serve_hearing.specs.Life.{own}
use Rattle.trick_serve_hearing.specs.Sides.{Queues, side}
use Rattle.trick_serve_facts.specs.Life.{life}
use Rattle.trick_serve_facts.specs.Serves.{IsServedRun, all_entries}
use Rattle.trick_wire.specs.declared.heard.WriteStop.TheVariants as stop

-- The entries of a session tell whether it left, and why.
abbrev pub LeavesAreTold : Type 0
LeavesAreTold =
    (n : ℕ) (lines others : List (List ℕ)) (leave other : Option Cause)
    → life n lines leave ≡ life n others other → leave ≡ other

-- A session whose writer told that it had no memory, and nothing else, left for that.
abbrev pub WantsAreSaid : Type 0
WantsAreSaid =
    (p : Plan) (s : State) (lists : List (List Entry)) (old new : View) (k : ℕ) (queues : Queues)
    → IsServedRun p s lists old new → (side new.seats k).queues ≡ Some queues
    → (side new.seats k).told ≡ stop.OutOfMemory ∷ []
    → (lines : List (List ℕ)) × (own (k + 1) (all_entries lists) ≡ life (k + 1) lines (Some cause.OutOfMemory))
