-- What a run is lent.
use Rattle.std.specs.Prelude.{◌≡◌, List, false}
use Rattle.trick_exec_posts.specs.Flight.{IsFree}
use Rattle.trick_exec_turn.specs.declared.lent.Run.{Run}
use Rattle.trick_eval.specs.Bench.{IsFor}
use Rattle.trick_phase_jobs.specs.Belongs.{IsMemoryOf}
use Rattle.trick_lang.specs.declared.scalar.Scalar.{Scalar}
use Rattle.trick_model.specs.PlanOf.{plan_of}
use Rattle.trick_model.specs.State.{State}
use Rattle.trick_model.specs.ValidState.{IsStateOf}
use Rattle.trick_model.specs.declared.plan.Plan.{Plan as PlanValue}
use Rattle.trick_exec_frame.specs.Pass.{IsEquipped}
use Rattle.trick_phase_jobs.specs.declared.phases.Phases.{Ghosts as PhasesGhosts}
use Rattle.trick_post_work.specs.declared.posts.Posts.{Ghosts as PostsGhosts}
use Rattle.trick_exec_meaning.specs.Hosts.{Place, at}
use Rattle.trick_exec_meaning.specs.Rounds.{no_waits}
use Rattle.trick_exec_tic.specs.Course.{IsCourseOf}
use Rattle.trick_exec_sources.specs.Turns.{no_sessions}
use Rattle.trick_exec_sources.specs.declared.turns.Turns.{Ghosts as TurnsGhosts}

-- A run works with the shelf, the workers and the source that another worked with.
abbrev pub IsSame : {F H Q U L : Type 0} → Run F H Q U L → Run F H Q U L → Type 0
IsSame old new = (new.shelf.ghost_name ≡ old.shelf.ghost_name) × (new.workers.ghost_name ≡ old.workers.ghost_name)
    × (new.turns.ghost_name ≡ old.turns.ghost_name)

-- the hosts of a run at one moment
abbrev pub place : {F H Q U L : Type 0} → Run F H Q U L → Place F U Q
place run = at run.shelf.now run.turns.now run.workers.now.posts

-- The workers of a run are the plan's, and the run is under way with its equipment.
pub record IsReady {F H Q U M L : Type 0} (phase : PhasesGhosts H M) (post : PostsGhosts Q) (plan : PlanValue)
    (run : Run F H Q U L) (s : State) (scalars : List Scalar) : Type 0 where
  pub own : phase.is_for run.workers.now.phases plan
  pub posts : post.plan run.workers.now.posts ≡ plan
  pub equipped : IsEquipped plan run.equipment.now (post.in_flight run.workers.now.posts) s scalars

-- A run may start from a state: the workers are the plan's and have nothing in flight, what is kept is made for
-- the state, and the source has given nothing.
pub record MayStart {F H Q U M L : Type 0} (phase : PhasesGhosts H M) (post : PostsGhosts Q) (turns : TurnsGhosts U M)
    (plan : PlanValue) (run : Run F H Q U L) (s : State) (scalars : List Scalar) : Type 0 where
  pub own : phase.is_for run.workers.now.phases plan
  pub posts : post.plan run.workers.now.posts ≡ plan
  pub free : IsFree (plan_of plan) (post.in_flight run.workers.now.posts)
  pub valid : IsStateOf (plan_of plan) s
  pub memory : IsMemoryOf plan.program s.memory scalars
  pub course : IsCourseOf plan run.equipment.now.course s
  pub bench : IsFor plan.program run.equipment.now.bench.parts
  pub waits : run.waits.now.items ≡ no_waits (plan_of plan)
  pub unknown : turns.sessions run.turns.now ≡ no_sessions
  pub paid : turns.owes run.turns.now ≡ false
