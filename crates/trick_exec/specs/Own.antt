-- A run whose source gives nothing and whose posts are always ready.
use Rattle.std.specs.Prelude.{◌≡◌, ℤ, false, List, Ok, Err, None, Result}
use Rattle.trick_exec.specs.Alone.{RunsAlone}
use Rattle.trick_exec.specs.Ended.{IsRun}
use Rattle.trick_exec_turn.specs.Worlds.{world_of}
use Rattle.trick_exec.specs.declared.ended.Ended.TheVariants as ended
use Rattle.trick_exec.specs.declared.ended.Ended.{Ended as EndedValue}
use Rattle.trick_model.specs.Files.{run_writes}
use Rattle.trick_model.specs.Plan.{Plan}
use Rattle.trick_model.specs.PlanOf.{plan_of}
use Rattle.trick_model.specs.Run.{final, has_session_entry, opened}
use Rattle.trick_model.specs.Session.{Message}
use Rattle.trick_model.specs.State.{State}
use Rattle.trick_model.specs.declared.entry.Entry.{Entry}
use Rattle.trick_model.specs.declared.plan.Plan.{Plan as PlanValue}
use Rattle.trick_post_trays.specs.Posting.{AllReady}
use Rattle.trick_outside.specs.Does.{Does}
use Rattle.trick_outside.specs.declared.shelf.Shelf.{Ghosts as ShelfGhosts}
use Rattle.trick_outside.specs.declared.stop.Stop.{Stop}
use Rattle.trick_post_work.specs.Polls.{Poll}
use Rattle.trick_exec_meaning.specs.Hosts.{Hosts, Place}
use Rattle.trick_exec_tic.specs.Steps.{steps_of}
use Rattle.trick_exec_sources.specs.Turns.{Answer, AreSilent}

-- Between two moments a source gave no entry, and posts that were asked for a round had it ready. The source
-- decides nothing and tells no journal.
pub record IsAlone {S U M Q : Type 0} (h : Hosts S U M Q) (old new : Place S U Q) : Type 0 where
  pub silent : (answers : List Answer) (messages : List Message)
      → h.turns.went old.turns answers messages new.turns → AreSilent answers
  pub undecided : h.turns.decided old.turns ≡ false
  pub untold : h.turns.journal old.turns ≡ None
  pub ready : (polls : List Poll) → h.posts.asked old.posts polls new.posts → AllReady polls

-- Hosts are such at whatever moment, and the source never owes an entry.
pub record AreAlone {S U M Q : Type 0} (h : Hosts S U M Q) : Type 0 where
  pub silent : (old new : U) (answers : List Answer) (messages : List Message)
      → h.turns.went old answers messages new → AreSilent answers
  pub undecided : (turns : U) → h.turns.decided turns ≡ false
  pub untold : (turns : U) → h.turns.journal turns ≡ None
  pub paid : (turns : U) → h.turns.owes turns ≡ false
  pub ready : (old new : Q) (polls : List Poll) → h.posts.asked old polls new → AllReady polls

-- What such a run did, as the run without clients: where it is done, its lists are its own journal, its files are
-- those of this journal, and no session is there; it misses no journal; and where it stopped it was given no join,
-- line or leave.
abbrev pub RunsOwn : {S D : Type 0} → ShelfGhosts S → (D → List ℤ) → Plan → State → S → S
    → Result (EndedValue D) Stop → Type 0
RunsOwn {D = D} shelf numbers p s old new (Ok (ended.Done world)) =
    (lists : List (List Entry)) × RunsAlone {T = EndedValue D} shelf p s lists old new (Ok (ended.Done world))
    × (world_of numbers world ≡ opened (final p s lists))
RunsOwn shelf numbers p s old new (Ok (ended.Length kept given)) = ⊥
RunsOwn {D = D} shelf numbers p s old new (Err e) =
    (lists : List (List Entry)) × (has_session_entry lists ≡ false)
    × Does {T = EndedValue D} shelf old new (Err e) (steps_of (run_writes p s lists))

-- Whatever run such hosts did was that one.
abbrev pub RunsAreOwn : {S U M Q D : Type 0} → Hosts S U M Q → (D → List ℤ) → Type 0
RunsAreOwn {S} {U} {M} {Q} {D} h numbers =
    (plan : PlanValue) (s : State) (old new : Place S U Q) (result : Result (EndedValue D) Stop) → IsAlone h old new
    → IsRun h numbers (plan_of plan) s old new result
    → RunsOwn h.shelf numbers (plan_of plan) s old.shelf new.shelf result

-- The same for hosts that are such at whatever moment: where the run stopped, it did a part of the one without
-- clients.
abbrev pub RunsAs : {S D : Type 0} → ShelfGhosts S → (D → List ℤ) → Plan → State → S → S
    → Result (EndedValue D) Stop → Type 0
RunsAs {D = D} shelf numbers p s old new (Ok (ended.Done world)) =
    (lists : List (List Entry)) × RunsAlone {T = EndedValue D} shelf p s lists old new (Ok (ended.Done world))
    × (world_of numbers world ≡ opened (final p s lists))
RunsAs shelf numbers p s old new (Ok (ended.Length kept given)) = ⊥
RunsAs {D = D} shelf numbers p s old new (Err e) =
    (lists : List (List Entry)) × RunsAlone {T = EndedValue D} shelf p s lists old new (Err e)

-- Whatever run such hosts did was that one.
abbrev pub RunsAreAlone : {S U M Q D : Type 0} → Hosts S U M Q → (D → List ℤ) → Type 0
RunsAreAlone {S} {U} {M} {Q} {D} h numbers =
    (plan : PlanValue) (s : State) (old new : Place S U Q) (result : Result (EndedValue D) Stop) → AreAlone h
    → IsRun h numbers (plan_of plan) s old new result
    → RunsAs h.shelf numbers (plan_of plan) s old.shelf new.shelf result
