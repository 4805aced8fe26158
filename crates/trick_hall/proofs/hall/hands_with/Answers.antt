use Rattle.std.proofs.Common.{◌≡◌, [], ◌∷◌, ◌++◌, map, subst, sym}
use Rattle.std.specs.Arc.{arc_value}
use Rattle.std.specs.Prelude.{All}
use Rattle.trick_hall.proofs.Passes.{hands_more}
use Rattle.trick_hall.proofs.hall.hands_with.Goals as goal

pub loop-pass-preserved : goal.loop-pass-preserved
loop-pass-preserved g c =
    subst (λ hands. (map (λ h. h.pass) hands ≡ c.loop-pass.yielded ++ c.in-Some.pass ∷ []) × All (λ h. arc_value h.lock ≡ arc_value c.args.lock.now) hands)
    (sym c.in_ok-push.ensures.items)
    (hands_more (λ h. h.pass) (λ h. arc_value h.lock) (arc_value c.args.lock.now) c.loop-pass.hands.items c.in_ok-new.field-0 c.loop-pass.yielded c.in-Some.pass
    c.loop-pass.invariant.0 c.loop-pass.invariant.1 c.in_ok-new.ensures.pass c.in_ok-new.ensures.lock)
