-- Where the work of a thread begins.
use Rattle.std.specs.Prelude.{ℕ, List, [], ◌∷◌, Option, Some, None}
use Rattle.trick_post_work.specs.declared.posts.Job1.{Job1}
use Rattle.trick_post_work.specs.declared.posts.Job1.TheVariants.{Frame, Round}

-- The tic at which work begins: the first one of a frame. A round is of no tic, and 0 stands for it.
abbrev pub first_tic : Option Job1 → ℕ
first_tic None = 0
first_tic (Some (Frame first last)) = first
first_tic (Some Round) = 0

-- the first of some jobs
abbrev pub first_of : List ℕ → Option ℕ
first_of [] = None
first_of (job ∷ jobs) = Some job
