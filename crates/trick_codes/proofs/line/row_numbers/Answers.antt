use Rattle.std.proofs.Common.{◌≡◌, ◌+◌, ◌++◌, ◌∷◌, [], take, rules, arith, sym, ap, ◌∙◌, w64, to_z, of_z}
use Rattle.std.proofs.lemmas.List.{take_more_set}
use Rattle.std.specs.Prelude.{pos, ℤ, slice_set}
use Rattle.trick_codes.proofs.Each.{codes_go_on}
use Rattle.trick_codes.proofs.line.row_numbers.Goals as goal
use Rattle.trick_codes.specs.Named.{row_number}

pub loop-i-preserved : goal.loop-i-preserved
loop-i-preserved c =
    let n = c.in_ok-number.number in
    let same : to_z w64 (of_z w64 n) ≡ n = search rules in
    let in_range = c.loop-i-test.true in
    record {
      size = search rules;
      going =
          codes_go_on (pos 0) row_number c.args.ranges.now c.loop-i.i c.index-ranges-i.result (take c.loop-i.i c.loop-i.into) (take (c.loop-i.i + 1) (slice_set c.loop-i.into c.loop-i.i (to_z w64 (of_z w64 n)))) n
          c.loop-i.here.now c.in_ok-number.after.now _ (omega arith)
          (rw (sym c.index-ranges-i.is) (rw (sym c.mark.ensures) c.in_ok-number.ensures.told))
          (take_more_set c.loop-i.into c.loop-i.i (to_z w64 (of_z w64 n)) (omega (arith, c.loop-i.invariant.size)) ∙ ap (λ (k : ℤ). take c.loop-i.i c.loop-i.into ++ k ∷ []) same)
          c.loop-i.invariant.going;
    }
