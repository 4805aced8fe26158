-- Where a session hangs up.
use Rattle.std.specs.Prelude.{◌≡◌, ℕ, IsTrue, List, [], ◌∷◌, ◌++◌}
use Rattle.trick_model.specs.Plan.{Plan}
use Rattle.trick_model.specs.Run.{after_turns}
use Rattle.trick_model.specs.State.{World}
use Rattle.trick_model.specs.declared.entry.Cause.TheVariants as cause
use Rattle.trick_model.specs.declared.entry.Entry.{Entry}
use Rattle.trick_model.specs.declared.entry.Entry.TheVariants.{Leave}
use Rattle.trick_serve_hearing.specs.Life.{is_idle, own}

-- In one of these turns session n hung up: its leave is its only entry of that turn, and as the turn begins the session
-- is paused or has no variables.
pub record HangsUpIn (p : Plan) (w : World) (lists : List (List Entry)) (n : ℕ) : Type 0 where
  pub early : List (List Entry)
  pub entries : List Entry
  pub late : List (List Entry)
  pub lists_are : lists ≡ early ++ entries ∷ late
  pub alone : own n entries ≡ Leave n cause.HungUp ∷ []
  pub idle : IsTrue (is_idle n (after_turns p w early).sessions)
