-- The frames of a stack, the topmost first, and how many have room.
use Rattle.std.specs.Prelude.{ℕ, List}
use Rattle.trick_eval.specs.declared.stack.Frame.{Frame}

pub record Frames : Type 0 where
  pub frames : List Frame
  pub room : ℕ
