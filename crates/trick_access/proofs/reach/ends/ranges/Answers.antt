use Rattle.std.proofs.Common.{◌≡◌, ◌+◌, ◌-◌, ◌++◌, None, length, nat_lt, suc, take, ap, sym, subst, ◌∙◌, arith}
use Rattle.std.specs.List.{slice_index_or}
use Rattle.trick_access.proofs.Ends.{most_next}
use Rattle.trick_access.proofs.reach.ends.ranges.Goals as goal
use Rattle.trick_access.specs.Reached.{is_reached, larger, most, spans}

pub loop-cell-preserved : goal.loop-cell-preserved
loop-cell-preserved c =
    let xs = c.args.ends.now in
    let i = c.loop-cell.cell in
    let f = is_reached xs in
    let n = length xs - (i + 1) in
    let more : length xs - i ≡ suc n = omega arith in
    let here : c.larger-end.result ≡ most (take (suc i) xs) = c.larger-end.ensures ∙ ap (λ m. larger m (slice_index_or xs i 0)) c.loop-cell.invariant.most ∙ most_next xs i (omega arith) in
    let one : suc i ≡ i + 1 = omega arith in
    let within : f i ≡ nat_lt i c.larger-end.result = ap (nat_lt i) (sym here) in
    let told = subst (λ m. c.loop-cell.made ++ spans f i m c.loop-cell.began ≡ spans f 0 (length xs) None) more c.loop-cell.invariant.told in
    record {
      told = c.in_ok-began.ensures.told f n within ∙ told;
      most = here ∙ ap (λ k. most (take k xs)) one;
      begun = c.in_ok-began.ensures.begun;
    }
