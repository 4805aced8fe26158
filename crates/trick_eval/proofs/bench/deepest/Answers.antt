use Rattle.std.proofs.Common.{◌≡◌, ◌<◌, ◌≤◌, arith, ℕ, zero, suc, List, [], ◌∷◌, length, refl, ap, sym, slice_index_or, Bool, true, false, nat_lt}
use Rattle.std.proofs.lemmas.Bool.Decides.{nat_tests}
use Rattle.std.proofs.lemmas.Bool.{ltb-true}
use Rattle.trick_eval.proofs.bench.deepest.Goals as goal
use Rattle.trick_lang.specs.Valid.{deep_at}
use Rattle.trick_lang.specs.declared.tree.Block.{Block}

deep_is : (bs : List Block) (k : ℕ) (item : Block) → k < length bs → item ≡ slice_index_or bs k item → deep_at bs k ≡ item.deep
deep_is [] k item h is = absurd (omega arith)
deep_is (b ∷ bs) zero item h is = ap (λ (q : Block). q.deep) (sym is)
deep_is (b ∷ bs) (suc k) item h is = deep_is bs k item (omega arith) is

deep_past : (bs : List Block) (k : ℕ) → length bs ≤ k → deep_at bs k ≡ 1
deep_past [] k h = refl
deep_past (b ∷ bs) zero h = absurd (omega arith)
deep_past (b ∷ bs) (suc k) h = deep_past bs k (omega arith)

by_less : {Q : Type 0} (k n : ℕ) → (k < n → Q) → (n ≤ k → Q) → Q
by_less {Q = Q} k n f g = go (nat_lt k n) refl
  where
    go : (b : Bool) → nat_lt k n ≡ b → Q
    go true e = f (ltb-true k n e)
    go false e = g (grind (arith, nat_tests))

pub loop-block-preserved : goal.loop-block-preserved
loop-block-preserved c =
    let here = deep_is c.args.blocks.now c.loop-block.block-index c.block-item.result c.loop-block-test.true c.block-item.is in
    record {
      enough = λ k less. by_less k c.loop-block.block-index
          (λ old. let e = c.loop-block.invariant.enough k old in omega arith)
          (λ at. let same : k ≡ c.loop-block.block-index = omega arith in let e = ap (deep_at c.args.blocks.now) same in omega arith);
      some = let e = c.loop-block.invariant.some in omega arith;
    }

pub returns-clause-enough : goal.returns-clause-enough
returns-clause-enough c = λ k. by_less k (length c.args.blocks.now)
    (λ less. c.loop-block.invariant.enough k (omega arith))
    (λ past. let e = deep_past c.args.blocks.now k past in omega arith)
