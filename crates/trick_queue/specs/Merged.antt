-- The jobs of several groups, in key order.
use Rattle.std.specs.List.{slice_index_or}
use Rattle.std.specs.Prelude.{◌≡◌, ℕ, ◌<◌, ◌≤◌, All, List, [], ◌∷◌, ◌++◌, filter, length, map, vec_capacity}
use Rattle.trick_cycle.specs.declared.Due.{Due}
use Rattle.trick_lang.specs.declared.job.Job.{Job}
use Rattle.trick_lang.specs.declared.job.JobId.{JobId}
use Rattle.trick_model.specs.Valid.{ids}
use Rattle.trick_queue.specs.Calendar.{times_in}
use Rattle.trick_queue.specs.Groups.{below, is_one_of, times_by, times_of}
use Rattle.trick_queue.specs.Line.{id_at}
use Rattle.trick_queue.specs.declared.group.Group.{Group}
use Rattle.trick_queue.specs.declared.merge.Merge.{Merge}

-- Each is below this number.
abbrev pub AreThere : List ℕ → ℕ → Type 0
AreThere ns end = All (λ n. n < end) ns

-- There is room for so many groups and jobs.
pub record HasRoom (merge : Merge) (groups jobs : ℕ) : Type 0 where
  pub groups_fit : groups ≤ vec_capacity merge.groups
  pub places_fit : jobs ≤ vec_capacity merge.places
  pub jobs_fit : jobs ≤ vec_capacity merge.jobs

-- the places of each group
abbrev pub places_by : List Group → List (List ℕ)
places_by groups = map (λ (group : Group). group.places.items) groups

-- the places of these groups, one group after another
abbrev pub gathered : List Group → List ℕ → List ℕ
gathered groups [] = []
gathered groups (at ∷ of) = slice_index_or (places_by groups) at [] ++ gathered groups of

-- the times of these groups
abbrev pub times_with : List Group → List ℕ → List Due
times_with groups of = map (times_in (times_by groups)) of

-- The places, by rising number, whose jobs are in these groups.
abbrev pub places_in : List Job → List JobId → List Group → List ℕ → List ℕ
places_in jobs ids groups of =
    filter (λ place. is_one_of (times_of jobs ids place) (times_with groups of)) (below (length ids))

-- The jobs that were put together are those of these groups, in key order.
abbrev pub IsMergeOf : List Job → List JobId → List Group → Merge → Type 0
IsMergeOf jobs ids_of groups merge =
    ids merge.jobs.items ≡ map (id_at ids_of) (places_in jobs ids_of groups merge.groups.items)
