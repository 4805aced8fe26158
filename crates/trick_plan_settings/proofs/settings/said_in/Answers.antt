use Rattle.std.proofs.Common.{◌+◌, ◌∷◌, ◌∙◌, None, arith, ap, drop, sym}
use Rattle.std.proofs.lemmas.List.{drop_all, drop_more}
use Rattle.trick_input.specs.declared.call.Call.{Call}
use Rattle.trick_plan_settings.proofs.Gathering.{all_said, goes_on, threads_go_on}
use Rattle.trick_plan_settings.proofs.settings.said_in.Goals as goal
use Rattle.trick_plan_settings.specs.Settings.{frame_said, frozen_said, latest, limit_said, settings_by_number}

pub loop-call-preserved : goal.loop-call-preserved
loop-call-preserved c =
    let calls = c.args.calls.now in
    let i = c.loop-call.call-index in
    let call = c.call-item.result in
    let rest = drop (i + 1) calls in
    let before = c.loop-call.said in
    let now = c.take.new.self in
    let next =
    drop_more calls i call c.loop-call-test.true ∙ ap (λ (first : Call). first ∷ drop (i + 1) calls) (sym c.call-item.is) in
    record {
      frame = goes_on frame_said before.frame now.frame (latest frame_said None calls) call rest (drop i calls) next
          c.take.ensures.frame c.loop-call.invariant.frame;
      limit = goes_on limit_said before.limit now.limit (latest limit_said None calls) call rest (drop i calls) next
          c.take.ensures.limit c.loop-call.invariant.limit;
      frozen = goes_on frozen_said before.frozen now.frozen (latest frozen_said None calls) call rest (drop i calls) next
          c.take.ensures.frozen c.loop-call.invariant.frozen;
      threads = threads_go_on before.threads now.threads (settings_by_number calls) call rest (drop i calls) next
          c.take.ensures.threads c.loop-call.invariant.threads;
    }

pub returns : goal.returns
returns c =
    all_said c.loop-call.said c.args.calls.now (drop c.loop-call.call-index c.args.calls.now)
    (drop_all c.loop-call.call-index c.args.calls.now (omega (arith, c.loop-call-test.false)))
    c.loop-call.invariant.frame c.loop-call.invariant.limit c.loop-call.invariant.frozen c.loop-call.invariant.threads
