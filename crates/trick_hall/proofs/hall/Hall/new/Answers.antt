use Rattle.std.proofs.Common.{◌+◌, ◌<◌, ◌∙◌, ◌∷◌, length, map, arith, subst, sym, ap}
use Rattle.std.specs.Prelude.{All}
use Rattle.trick_hall.proofs.Passes.{first_and_others, first_dealt, others_rest}
use Rattle.trick_hall_kept.specs.declared.entry.Entry.{Entry}
use Rattle.trick_turn.specs.Passes.{AreDealt, IsPassOf, Rests}
use Rattle.trick_turn.specs.declared.view.View.{View}
use Rattle.trick_hall.proofs.hall.Hall.new.Goals as goal

pub hands_with-requires : goal.hands_with-requires
hands_with-requires g c =
    subst (λ lock. All (λ p. IsPassOf lock p × Rests p) c.remove-pass.new.self.items) (sym c.in_ok-lock-2.ensures.ok)
    (subst (λ passes. All (λ p. IsPassOf c.in_ok-lock.lock p × Rests p) passes) (sym c.remove-pass.ensures.items)
    (others_rest c.in_ok-lock.lock _ c.in_ok-lock.passes.items (omega arith) c.in_ok-lock.ensures))

pub invariant_of-result : goal.invariant_of-result
invariant_of-result g c =
    let first = first_dealt c.in_ok-lock.lock _ c.in_ok-lock.passes.items c.remove-pass.result (omega arith) c.in_ok-lock.ensures c.remove-pass.ensures.value in
    record {
      of_lock = subst (λ lock. IsPassOf lock c.remove-pass.result) (sym c.in_ok-lock-2.ensures.ok) first.0;
      rests = first.1;
      first = ap (λ (v : View Entry). v.number) first.2;
    }

pub returns-clause-fresh : goal.returns-clause-fresh
returns-clause-fresh g c =
    let first = first_dealt c.in_ok-lock.lock _ c.in_ok-lock.passes.items c.remove-pass.result (omega arith) c.in_ok-lock.ensures c.remove-pass.ensures.value in
    ap (λ (v : View Entry). v.own) first.2

pub returns-clause-dealt : goal.returns-clause-dealt
returns-clause-dealt g c =
    let many : 0 < length c.in_ok-lock.passes.items = subst (λ n. 0 < n) (sym c.in_ok-lock.ensures.count) (omega arith) in
    let all = first_and_others c.in_ok-lock.passes.items c.remove-pass.result many c.remove-pass.ensures.value
    ∙ ap (λ passes. c.remove-pass.result ∷ passes) (sym c.remove-pass.ensures.items ∙ sym c.in_ok-hands.ensures.passes) in
    subst (λ lock. AreDealt lock (c.args.hands + 1) (c.remove-pass.result ∷ map (λ h. h.pass) c.in_ok-hands.hands.items)) (sym c.in_ok-lock-2.ensures.ok)
    (subst (λ passes. AreDealt c.in_ok-lock.lock (c.args.hands + 1) passes) all c.in_ok-lock.ensures)
