-- What the proofs rest on, of the jobs of a tic.
use Rattle.std.proofs.Common.{◌≡◌, ◌≢◌, ◌⊎◌, ℕ, ◌<◌, List, length, Option, Some, None, Ok, IsTrue}
use Rattle.std.specs.List.{slice_index_or}
use Rattle.std.specs.Prelude.{ℤ}
use Rattle.trick_lang.specs.Laws.{AgreeOn}
use Rattle.trick_model.specs.Acceptance.{AreIndependent}
use Rattle.trick_model.specs.Access.{writes_cell}
use Rattle.trick_model.specs.Laws.{AreInKeyOrder}
use Rattle.trick_model.specs.Order.{precedes}
use Rattle.trick_model.specs.Plan.{thread_of}
use Rattle.trick_phase_schedules.specs.Tics.{IsDueIn, Tic, depends_on, due_jobs}

-- Of two due jobs on two threads the first is ordered before the second: some due job on the thread of the
-- second, not after it, depends on some due job on the thread of the first, not before that.
pub record AreOrdered (t : Tic) (a b : ℕ) : Type 0 where
  pub depended : ℕ
  pub target : ℕ
  pub pair : IsTrue (depends_on t.plan.depends target depended)
  pub depended_due : IsDueIn t depended
  pub target_due : IsDueIn t target
  pub not_below : IsTrue (precedes t.plan.jobs depended a) → ⊥
  pub not_above : IsTrue (precedes t.plan.jobs b target) → ⊥
  pub on_first : thread_of t.plan.jobs depended ≡ thread_of t.plan.jobs a
  pub on_second : thread_of t.plan.jobs target ≡ thread_of t.plan.jobs b

pub record IsRight (t : Tic) : Type 0 where
  pub ordered : AreInKeyOrder t.plan.jobs (due_jobs t)
  pub there : (k : ℕ) → IsDueIn t k → k < length t.plan.jobs
  pub inputs : (k : ℕ) (m n : List ℤ) → AgreeOn (t.plan.reads k) m n → t.plan.effect k m ≡ t.plan.effect k n
  pub outputs : (k : ℕ) (m : List ℤ) (stored : List (Option ℤ)) (c : ℕ) (n : ℤ) → t.plan.effect k m ≡ Ok stored
      → slice_index_or stored c None ≡ Some n → IsTrue (writes_cell t.plan k c)
  pub forward : (k a : ℕ) → IsTrue (depends_on t.plan.depends k a) → IsTrue (precedes t.plan.jobs a k)
  pub apart : (a b : ℕ) → IsTrue (precedes t.plan.jobs a b) → IsDueIn t a → IsDueIn t b
      → thread_of t.plan.jobs a ≢ thread_of t.plan.jobs b → ∥ AreIndependent t.plan a b ⊎ AreOrdered t a b ∥₁
