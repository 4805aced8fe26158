use Rattle.std.proofs.Common.{◌≡◌, ◌+◌, ◌++◌, ◌∷◌, [], ℕ, ap, arith, length, rules, sym, ◌∙◌}
use Rattle.std.proofs.lemmas.List.{length-append}
use Rattle.std.specs.List.{zip}
use Rattle.trick_chkpt_lines.proofs.Reading.{groups_go_on, zip_more}
use Rattle.trick_chkpt_lines.proofs.groups.read_groups_of.Goals as goal

pub loop-k-preserved : goal.loop-k-preserved
loop-k-preserved c =
    let on = c.loop-k.on in
    let rows = c.loop-k.rows in
    let found = c.in_ok-found.found in
    let a : length c.push.new.self ≡ length on + 1 = ap length c.in_ok-push.ensures.ok ∙ length-append on (found.0 ∷ []) in
    let b : length c.push-in-loop-k.new.self ≡ length rows + 1 = ap length c.in_ok-push-2.ensures.ok ∙ length-append rows (found.1 ∷ []) in
    record {
      sizes = a ∙ ap (λ (n : ℕ). n + 1) c.loop-k.invariant.sizes ∙ sym b;
      going =
          groups_go_on c.args.plan.now c.args.groups.now c.loop-k.k c.index-groups-k.result (zip on rows) _ found c.loop-k.here.now c.in_ok-found.after.now _
          (omega (arith, c.loop-k-test.true)) (search rules)
          (ap (λ bs. zip bs c.push-in-loop-k.new.self) c.in_ok-push.ensures.ok ∙ ap (λ rs. zip (on ++ found.0 ∷ []) rs) c.in_ok-push-2.ensures.ok
          ∙ zip_more on rows found.0 found.1 c.loop-k.invariant.sizes)
          c.loop-k.invariant.going;
    }
