use Rattle.std.proofs.Common.{◌≡◌, ◌<◌, ◌++◌, ◌∷◌, [], ap, ◌∙◌, arith}
use Rattle.trick_chkpt.proofs.Counting.{count_added, first_added, size_added}
use Rattle.trick_chkpt.proofs.read_faults.read_fault_lines.Goals as goal
use Rattle.trick_chkpt_lines.specs.Faults.{fault_line, no_fault}
use Rattle.trick_codes.proofs.Each.{numbered_go_on}
use Rattle.trick_codes.specs.Gives.{bytes_of}
use Rattle.trick_model.specs.FaultList.{FaultList, kept}

pub loop-index-preserved : goal.loop-index-preserved
loop-index-preserved c =
    let i = c.loop-index.index in
    let old = c.loop-index.faults in
    let new = c.add.new.self in
    let fault = c.in_ok-fault.fault in
    let few : i < kept = omega (arith, c.loop-index-test.true, c.requires.kept) in
    let grown : new.first ≡ old.first ++ fault ∷ [] =
    ap (λ (f : FaultList). f.first) c.add.ensures ∙ first_added old fault i c.loop-index.invariant.size few in
    record {
      count = ap (λ (f : FaultList). f.count) c.add.ensures ∙ count_added old fault i c.loop-index.invariant.count few;
      size = size_added old.first new.first fault i c.loop-index.invariant.size grown;
      going = numbered_go_on no_fault (fault_line (bytes_of c.args.words.now)) i c.args.keep old.first new.first fault c.loop-index.here.now
          c.in_ok-fault.after.now _ c.loop-index-test.true c.in_ok-fault.ensures grown c.loop-index.invariant.going;
    }
