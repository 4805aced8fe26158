-- What two texts say is one thing.
use Rattle.std.specs.Prelude.{◌≡◌, ℕ, List}
use Rattle.trick_model.specs.PlanOf.{plan_of}
use Rattle.trick_model.specs.declared.plan.Plan.{Plan}
use Rattle.trick_top_texts.specs.Texts.{HavePlan, IsPlanRefused, IsReady, IsTextRefused}

-- Two texts say one thing: where they have a plan no text is refused, and all their plans mean one; a text is refused
-- by one line, and where a plan of theirs is accepted none is refused.
pub record HaveOneMeaning (s_define input : List ℕ) : Type 0 where
  pub planned : (plan : Plan) (line : List ℕ) → HavePlan s_define input plan → IsTextRefused s_define input line → ⊥
  pub one_plan : (plan other : Plan) → HavePlan s_define input plan → HavePlan s_define input other
      → plan_of plan ≡ plan_of other
  pub refused : (line other : List ℕ) → IsTextRefused s_define input line → IsTextRefused s_define input other
      → line ≡ other
  pub accepted : (plan : Plan) (line : List ℕ) → IsReady s_define input plan → IsPlanRefused s_define input line → ⊥
