-- Whether the round of a thread was ready when it was asked for.
use Rattle.std.specs.Prelude.{ℕ, suc, Bool, true, false, cond, List, [], ◌∷◌}
use Rattle.trick_post_work.specs.declared.posts.Posted.{Posted}
use Rattle.trick_post_work.specs.declared.posts.Posted.TheVariants.{Ready, NotYet}

-- A poll: the thread, the turn in which it was asked for, and the answer.
pub record Poll : Type 0 where
  pub thread : ℕ
  pub turn : ℕ
  pub answer : Posted

-- a poll found the round ready
abbrev pub is_ready : Posted → Bool
is_ready Ready = true
is_ready NotYet = false

-- how many of these polls did not
abbrev pub not_ready : List Poll → ℕ
not_ready [] = 0
not_ready (poll ∷ polls) = cond (is_ready poll.answer) (not_ready polls) (suc (not_ready polls))
