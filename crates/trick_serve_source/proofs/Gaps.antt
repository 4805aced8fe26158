-- Answers that are no gap.
use Rattle.std.specs.Prelude.{ℕ}
use Rattle.trick_exec_sources.specs.Gap.{IfGap}
use Rattle.trick_exec_sources.specs.declared.turns.Next.{Next}
use Rattle.trick_exec_sources.specs.declared.turns.Next.TheVariants as next

-- Whatever is said of a gap is so where there is none.
pub no_gap : (r : Next) (fact : ℕ → Type 0) → IfGap r (λ turns. ⊥) → IfGap r fact
no_gap (next.Entries list) fact none = tt
no_gap next.Nothing fact none = tt
no_gap (next.Gap turns) fact none = absurd none
no_gap next.NoMore fact none = tt
no_gap (next.Length kept given) fact none = tt
no_gap next.OutOfMemory fact none = tt
