-- How the clerks of a crew end.
use Rattle.std.specs.Prelude.{◌≡◌, true, All, Option, Some, None}
use mathlib.Core.List.{IsPrefix}
use Rattle.trick_crew.specs.declared.clerks.Clerks.{Clerks}
use Rattle.trick_crew.specs.declared.clerks.Clerks.TheVariants as clerks
use Rattle.trick_crew_clerks.specs.Staffs.{HasEnded, IsTakenIn}
use Rattle.trick_crew_clerks.specs.declared.yard.Yard.{Yard}
use Rattle.trick_post_places.specs.Histories.{has_shut}
use Rattle.trick_post.specs.declared.shut_post.ShutPost.{ShutPost}
use Rattle.trick_model.specs.declared.planned.Planned.{Ghosts}
use Rattle.trick_turn.specs.Passes.{own, seen}

module _ {P G R : Type 0} {planned : Ghosts P} where
  -- The yard left this post: it was shut, and the clerk of each thread was taken in.
  pub record HasClosed (yard : Yard P G R planned) (post : ShutPost P) : Type 0 where
    pub shut : has_shut (own post.pass) ≡ true
    pub desk : IsPrefix (seen yard.desk.rack.pass) (seen post.pass)
    pub here : All (IsTakenIn post.pass) yard.staff.here.items
    pub away : All (HasEnded post.pass) yard.staff.away.items

  -- All clerks have ended, and left this post, if there was one.
  abbrev pub HaveEnded : Clerks P G R planned → Option (ShutPost P) → Type 0
  HaveEnded (clerks.Nobody nobody) post = post ≡ None
  HaveEnded (clerks.Yard yard) None = ⊥
  HaveEnded (clerks.Yard yard) (Some post) = HasClosed yard post
