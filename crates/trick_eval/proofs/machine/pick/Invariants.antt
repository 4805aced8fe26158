use Rattle.std.proofs.Common.{◌≡◌, IsTrue, drop}
use Rattle.trick_eval.proofs.machine.pick.Given as goal
use Rattle.trick_eval.specs.Evaluation.{seen}
use Rattle.trick_eval.specs.Machine.{picked}
use Rattle.trick_lang.specs.TreeOf.{branches_of, else_of}
use Rattle.trick_lang.specs.Passes.{branch_passes}
use Rattle.trick_lang.specs.Valid.{span_test}

-- what is left picks what all pick
abbrev pub invariant-loop-branch : goal.invariant-loop-branch
invariant-loop-branch l =
    let last = else_of l.otherwise in
    let rest = branches_of (drop l.branch-index l.branches) last in
    record {
      told : picked rest (seen l.base l.memory l.working) ≡ picked (branches_of l.branches last) (seen l.base l.memory l.working);
      passes : IsTrue (branch_passes span_test rest);
    }
