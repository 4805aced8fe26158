-- What publishing comes to, in the words of the rules.
use Rattle.std.specs.Prelude.{◌≡◌, ℕ, ◌+◌, ◌-◌, ◌<◌, ℤ, List}
use Rattle.trick_model.specs.Beside.{published}
use Rattle.trick_model.specs.Plan.{Plan}
use Rattle.trick_model.specs.declared.flags.Flags.{Flags}
use Rattle.trick_model.specs.declared.taken.Taken.{Taken}
use Rattle.trick_model.specs.declared.thread.Process.TheVariants as process
use Rattle.trick_model.specs.declared.thread.Thread.{Thread}
use Rattle.trick_post_work.specs.Work.{publication}
use Rattle.trick_post_work.specs.declared.posts.Job1.TheVariants as work

-- The tics that a thread of this cycle works where it publishes at a tic: those of the cycle that ends
-- there; at tic 0 none.
pub record IsFrameOf (cycle tic first last : ℕ) : Type 0 where
  pub begins : 0 < tic → first ≡ tic - cycle
  pub ends : 0 < tic → last + 1 ≡ tic
  pub none : tic ≡ 0 → last < first

-- What is published of a frame or a round that was started is what the rules publish.
pub record IsPublished : Type 0 where
  pub frames : (p : Plan) (thread : Thread) (on : Flags) (taken : Taken) (tic first last : ℕ) (memory : List ℤ)
      → thread.process ≡ process.MustFinish → IsFrameOf thread.cycle tic first last
      → publication p thread (record { taken = taken; work = work.Frame first last }) tic memory
      ≡ published p thread on tic taken memory
  pub rounds : (p : Plan) (thread : Thread) (on : Flags) (taken : Taken) (tic : ℕ) (memory : List ℤ)
      → thread.process ≡ process.Async
      → publication p thread (record { taken = taken; work = work.Round }) tic memory
      ≡ published p thread on tic taken memory
