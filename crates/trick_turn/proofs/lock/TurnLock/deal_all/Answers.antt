use Rattle.std.proofs.Common.{◌≡◌, ℕ, ◌+◌, ◌-◌, List, [], ◌∷◌, ◌++◌, length, take, drop, Some, None, slice_get, sym, ap, ◌∙◌, subst, arith, vec_len}
use Rattle.trick_turn.specs.declared.pass.Pass.{Pass}
use Rattle.trick_turn.specs.Views.{fresh_view, after_split, split_off}
use Rattle.trick_turn.specs.Passes.{AreDealt, IsDealt, view}
use Rattle.trick_turn.proofs.Deals.{got_more, got_first, got_later, last_first}
use Rattle.trick_turn.proofs.lock.TurnLock.deal_all.Goals as goal

pub loop-made-init : goal.loop-made-init
loop-made-init g c = let none = c.requires.room.0 in
    (omega (arith, ap length none, c.args.passes.now.ok.0), c.requires.room.1, c.requires.first, λ i p e. let f : None ≡ Some p = ap (λ l. slice_get l i) (sym none) ∙ e in cc)

pub loop-made-preserved : goal.loop-made-preserved
loop-made-preserved g c = let i = c.loop-made.invariant in let d = c.deal-pass.ensures in let E = g.row.B-Entry.Denot in
    let was : view c.loop-made.first ≡ fresh_view 1 c.loop-made.made [] = i.2.2 in
    let P : ℕ → Pass g.row.B.Denot E → Type 0 = λ k p. IsDealt c.args.self.now (k + 2) 0 p in (
      omega (arith, i.0, c.push_reserved.ensures.len),
      omega (arith, i.1, c.push_reserved.ensures.capacity),
      (d.same.0 ∙ i.2.0, (ap (λ v. v.holding) d.view ∙ i.2.1.0, d.taken ∙ i.2.1.1), d.view ∙ ap after_split was),
      subst (λ (l : List (Pass g.row.B.Denot E)). (k : ℕ) (p : Pass g.row.B.Denot E) → slice_get l k ≡ Some p → P k p) (sym c.push_reserved.ensures.items)
          (got_more P c.loop-made.passes.items c.deal-pass.result i.3
          (d.pass.0, d.pass.1, d.pass.2 ∙ (ap split_off was ∙ ap (λ (n : ℕ). fresh_view n 0 []) (omega (arith, i.0, c.loop-made.passes.ok.0))))),
    )

pub returns : goal.returns
returns g c = let i = c.loop-made.invariant in let ps = c.loop-made.passes.items in let E = g.row.B-Entry.Denot in let n : ℕ = vec_len c.push_reserved-2.new.self - 1 in
    let P : ℕ → Pass g.row.B.Denot E → Type 0 = λ k p. IsDealt c.args.self.now (k + 1) 0 p in
    let long : n ≡ length ps = omega (arith, c.push_reserved-2.ensures.len, c.loop-made.passes.ok.0) in
    let made : c.loop-made.made ≡ c.args.seats = omega (arith, c.loop-made-test.false, c.loop-made.auto.made-end, c.requires.room.2) in
    let all : c.rotate_right.new.self.items ≡ c.loop-made.first ∷ ps = c.rotate_right.ensures.items ∙ subst (λ (l : List (Pass g.row.B.Denot E)). drop n l ++ take n l ≡ c.loop-made.first ∷ ps) (sym c.push_reserved-2.ensures.items) (last_first ps c.loop-made.first n long) in
    subst (λ (l : List (Pass g.row.B.Denot E)). AreDealt c.args.self.now c.args.seats l) (sym all) record {
      count = omega (arith, i.0, made, c.loop-made.passes.ok.0);
      first = λ p e. subst (λ (q : Pass g.row.B.Denot E). IsDealt c.args.self.now 1 c.args.seats q) (got_first _ p ps e) (subst (λ (k : ℕ). IsDealt c.args.self.now 1 k c.loop-made.first) made i.2);
      others = got_later P c.loop-made.first ps (λ k p e. subst (λ (m : ℕ). IsDealt c.args.self.now m 0 p) (omega arith) (i.3 k p e));
    }
