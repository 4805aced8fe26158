-- Who a run works with: a shelf, a source of entries, and posts.
use Rattle.trick_outside.specs.declared.shelf.Shelf.{Ghosts as ShelfGhosts}
use Rattle.trick_post_work.specs.declared.posts.Posts.{Ghosts as PostsGhosts}
use Rattle.trick_exec_sources.specs.declared.turns.Turns.{Ghosts as TurnsGhosts}

-- the bounds of the three; `M` is the type of memories
pub record Hosts (S U M Q : Type 0) : Type 1 where
  pub shelf : ShelfGhosts S
  pub turns : TurnsGhosts U M
  pub posts : PostsGhosts Q

-- the three at one moment
pub record Place (S U Q : Type 0) : Type 0 where
  pub shelf : S
  pub turns : U
  pub posts : Q

-- these bounds together
abbrev pub hosts : {S U M Q : Type 0} → ShelfGhosts S → TurnsGhosts U M → PostsGhosts Q → Hosts S U M Q
hosts shelf turns posts = record { shelf = shelf; turns = turns; posts = posts }

-- these values together
abbrev pub at : {S U Q : Type 0} → S → U → Q → Place S U Q
at shelf turns posts = record { shelf = shelf; turns = turns; posts = posts }
