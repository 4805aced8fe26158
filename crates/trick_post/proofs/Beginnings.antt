-- The first job of a thread.
use Rattle.std.proofs.Common.{◌≡◌, List, [], ◌∷◌, Option, refl}
use Rattle.std.specs.List.{slice_get}
use Rattle.std.specs.Option.{option_map}
use Rattle.trick_post.specs.Beginnings.{first_of}
use Rattle.trick_lang.specs.declared.job.JobId.{JobId}
use Rattle.trick_model.specs.Valid.{ids}

pub first_is : (jobs : List JobId) → option_map (λ (job : JobId). job.0) (slice_get jobs 0) ≡ first_of (ids jobs)
first_is [] = refl
first_is (job ∷ jobs) = refl
