-- A plan that is accepted is not refused.
use Rattle.std.proofs.Common.{◌≡◌, ℕ, List, Some, All, refl, subst}
use Rattle.std.specs.List.{slice_get}
use Rattle.std.proofs.lemmas.List.Elements.{All-get_or, All-weaker}
use Rattle.std.proofs.lemmas.Option.{get_or_from_slice_get, slice_get_within}
use Rattle.trick_model.specs.Acceptance.{IsAccepted, IsWrittenOnce, IsDecidable, IsForward, IsNamedRight}
use Rattle.trick_model.specs.Plan.{Plan}
use Rattle.trick_model.specs.declared.thread.Thread.{Thread}
use Rattle.trick_race.specs.Refusals.{IsFirstItemWithout, IsGroupRecordable, IsOnlyWriter, NamesFirst}
use Rattle.trick_race.specs.declared.fault.PlanFault.{PlanFault}
use Rattle.trick_race.specs.declared.fault.PlanFault.TheVariants as race

fact_at : {X : Type 0} (P : X → Type 0) (xs : List X) (k : ℕ) (x : X) → slice_get xs k ≡ Some x → All P xs → P x
fact_at P xs k x there all =
    subst P (get_or_from_slice_get xs k x x there) (All-get_or P xs k x (slice_get_within xs k x there) all)

-- all items have the property, and the first without it lacks it
none_without : {X : Type 0} (P : X → Type 0) (xs : List X) (x : X) → IsFirstItemWithout P xs x → All P xs → ⊥
none_without P xs x first all = first.1.lacks (fact_at P xs first.0 x first.1.there all)

only_writer : (p : Plan) (cell : ℕ) (one : Thread) → All (λ other. (cell : ℕ) → IsWrittenOnce p one other cell) p.threads
    → IsOnlyWriter p cell one
only_writer p cell one all =
    All-weaker (λ other. (cell : ℕ) → IsWrittenOnce p one other cell) (λ other. IsWrittenOnce p one other cell)
    (λ other each. each cell) p.threads all

written : (p : Plan) (cell : ℕ) → IsAccepted p → All (IsOnlyWriter p cell) p.threads
written p cell accepted =
    All-weaker (λ one. All (λ other. (cell : ℕ) → IsWrittenOnce p one other cell) p.threads) (IsOnlyWriter p cell)
    (λ one all. only_writer p cell one all) p.threads accepted.written_once

pub not_both : (p : Plan) (fault : PlanFault) → IsAccepted p → (fault ≡ race.OutOfMemory → ⊥) → NamesFirst p fault → ⊥
not_both p (race.NoThread number) accepted known first =
    none_without (IsNamedRight p) p.threads first.0 first.1 accepted.named
not_both p (race.ClassOnChild job) accepted known first = first.1 (accepted.on_main job.0 first.0)
not_both p (race.Backwards target depended) accepted known first =
    none_without (IsForward p) p.depends (record { target = target; depended = depended }) first accepted.forward
not_both p (race.SharedWriter cell thread other) accepted known first =
    none_without (IsOnlyWriter p cell.0) p.threads first.0 first.2.first_thread (written p cell.0 accepted)
not_both p (race.AsyncRecorded number cell) accepted known first =
    first.1.lacks (fact_at (IsGroupRecordable p) p.groups number first.0 first.1.there accepted.recordable)
not_both p (race.AsyncEvent number) accepted known first =
    first.1.lacks (fact_at (IsDecidable p) p.events number first.0 first.1.there accepted.decidable)
not_both p (race.Race job other tic) accepted known first =
    first.races (accepted.no_race job.0 other.0 first.job_there first.other_there)
not_both p race.OutOfMemory accepted known first = known refl
