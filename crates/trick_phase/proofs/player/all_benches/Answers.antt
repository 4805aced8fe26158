use Rattle.std.proofs.Common.{◌≡◌, ◌∙◌, ◌+◌, ◌<◌, ◌∷◌, ℕ, [], List, ap, length, subst, sym, None}
use Rattle.std.proofs.lemmas.List.{length-append}
use Rattle.trick_eval.specs.Bench.{BenchView, IsFor}
use Rattle.trick_model.specs.declared.plan.Plan.{Plan as PlanValue}
use Rattle.trick_phase.proofs.Plays.{bench_more}
use Rattle.trick_phase.specs.Steps.{bench_at}
use Rattle.trick_phase.proofs.player.all_benches.Goals as goal

pub loop-thread-preserved : goal.loop-thread-preserved
loop-thread-preserved c =
    let program = c.args.accepted.now.plan.program in
    let old = c.loop-thread.benches.items in
    let bench = c.in_ok-of.field-0 in
    let own : IsFor program bench.parts = subst (λ (p : PlanValue). IsFor p.program bench.parts) c.plan.ensures.plan c.in_ok-of.ensures.parts in
    let items = c.in_ok-push.ensures.items in
    let inv = c.loop-thread.invariant in
    record {
      made = ap length items ∙ length-append old (bench ∷ []) ∙ ap (λ (n : ℕ). n + 1) inv.made;
      own = subst (λ (l : List BenchView). (k : ℕ) → k < length l → IsFor program (bench_at l k).parts) (sym {A = List BenchView} items)
          (bench_more (λ (b : BenchView). IsFor program b.parts) old bench own inv.own);
      empty = subst (λ (l : List BenchView). (k : ℕ) → k < length l → (bench_at l k).job ≡ None) (sym {A = List BenchView} items)
          (bench_more (λ (b : BenchView). b.job ≡ None) old bench (ap (λ (b : BenchView). b.job) c.in_ok-of.ensures.empty) inv.empty);
    }
