-- How far the count of late rounds rises.
use Rattle.std.proofs.Common.{◌≡◌, ◌∙◌, ℕ, ◌-◌, ◌^◌, ◌≤◌, sym, ap, subst, arith}
use Rattle.trick_post.specs.Lateness.{late_after}
use Rattle.trick_outside.specs.Causes.{RoseBy}
use Rattle.trick_post_work.specs.declared.posts.Posted.{Posted}
use Rattle.trick_post_work.specs.declared.posts.Posted.TheVariants as posted

-- a poll never lowers the count
pub never_falls : (late : ℕ) (answer : Posted) → late ≤ 2 ^ 64 - 1 → late ≤ late_after late answer
never_falls late posted.Ready small = omega arith
never_falls late posted.NotYet small = omega (arith, small)

pub rose_not_yet : (old new : ℕ) (answer : Posted) → new ≡ late_after old answer → answer ≡ posted.NotYet → RoseBy old 1 new
rose_not_yet old new answer is not = subst (RoseBy old 1) (sym (is ∙ ap (late_after old) not)) (omega arith)
