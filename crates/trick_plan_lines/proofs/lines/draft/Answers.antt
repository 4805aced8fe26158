use Rattle.std.proofs.Common.{◌≡◌, ◌+◌, ◌++◌, ◌∷◌, [], List, Err, Ok, ap, arith, drop, subst, sym, take}
use Rattle.std.proofs.lemmas.List.{take_all}
use Rattle.std.proofs.lemmas.Result.{err_from_is_err_and}
use Rattle.trick_base.proofs.ListLemmas.{next_item}
use Rattle.trick_plan_draft.specs.Drafts.{begun}
use Rattle.trick_plan_draft.specs.Jobs.{Jobs, jobs_of}
use Rattle.trick_plan_draft.specs.Kept.{IsDraftOf}
use Rattle.trick_plan_draft.specs.Laws.{KeepsDeeds}
use Rattle.trick_plan_draft.specs.declared.draft.Draft.{Draft}
use Rattle.trick_plan_lines.proofs.Going.{ends, left_at_first, left_behind, left_with}
use Rattle.trick_plan_lines.proofs.Keeping.{same_jobs}
use Rattle.trick_plan_lines.proofs.Rest.{rest_then, same_rest, up_to_here}
use Rattle.trick_plan_lines.proofs.Staying.{one_more, stay_at_first, stay_with}
use Rattle.trick_plan_lines.proofs.lines.draft.Goals as goal
use Rattle.trick_input.specs.declared.call.Call.{Call}
use Rattle.trick_plan_lines.specs.Deeds.{DeedsStay}
use Rattle.trick_plan_lines.specs.Drafted.{Answers, Drafted}

pub loop-call-init : goal.loop-call-init
loop-call-init c =
    let p = c.args.program.now in
    let jobs = jobs_of p in
    let threads = c.args.settings.now.threads in
    record {
      left = left_at_first jobs c.args.settings.now c.args.calls.now (begun p) c.in_ok-draft.draft c.in_ok-draft.ensures;
      rest = same_rest p;
      mirrors = ap (λ (d : Draft). d.cells) c.in_ok-draft.ensures;
      right = subst (λ (d : Draft). IsDraftOf jobs threads d) (sym c.in_ok-draft.ensures) (c.begins_right.ensures p threads);
      drafted = ap (λ (d : Draft). Ok d) c.in_ok-draft.ensures;
      deeds = stay_at_first jobs c.args.settings.now (begun p) c.in_ok-draft.draft c.in_ok-draft.ensures;
    }

pub returns-in_err-add_line-clause-draft : goal.returns-in_err-add_line-clause-draft
returns-in_err-add_line-clause-draft c =
    let first = c.args.program.now in
    let now = c.loop-call.program in
    let calls = c.args.calls.now in
    let i = c.loop-call.call-index in
    let call = c.call-item.result in
    let p = err_from_is_err_and c.from_residual-in_err-add_line.result c.from_residual-in_err-add_line.ensures.1 in
    let f = c.in_err-add_line.field-0.0 in
    let next = next_item calls i call c.loop-call-test.true c.call-item.is in
    let left = left_with (jobs_of first) c.args.settings.now calls (begun first) call (drop (i + 1) calls) (drop i calls)
    c.loop-call.draft next c.loop-call.invariant.left in
    let done : Answers (Drafted (jobs_of first) c.args.settings.now calls (begun first)) (Err f) =
    ends (jobs_of first) c.args.settings.now calls (begun first) f (jobs_of now) call (drop (i + 1) calls)
    c.loop-call.draft c.add_line.new.draft (same_jobs first now c.loop-call.invariant.rest) left
    c.in_err-add_line.ensures.line in
    rw (p.1, p.2) done

pub loop-call-preserved : goal.loop-call-preserved
loop-call-preserved c =
    let first = c.args.program.now in
    let now = c.loop-call.program in
    let calls = c.args.calls.now in
    let i = c.loop-call.call-index in
    let call = c.call-item.result in
    let next = next_item calls i call c.loop-call-test.true c.call-item.is in
    let left = left_with (jobs_of first) c.args.settings.now calls (begun first) call (drop (i + 1) calls) (drop i calls)
    c.loop-call.draft next c.loop-call.invariant.left in
    let jobs = jobs_of first in
    let settings = c.args.settings.now in
    let taken : take (i + 1) calls ≡ take i calls ++ call ∷ [] = up_to_here calls i call c.loop-call-test.true c.call-item.is in
    let all : Drafted jobs settings (take i calls ++ call ∷ []) (begun first) (Ok c.add_line.new.draft) =
    one_more jobs settings c.in_ok-add_line.field-0 (jobs_of now) (take i calls) call (begun first) c.loop-call.draft
    c.add_line.new.draft (same_jobs first now c.loop-call.invariant.rest) c.loop-call.invariant.drafted
    c.in_ok-add_line.ensures.line in
    record {
      left = left_behind (jobs_of first) c.args.settings.now calls (begun first) c.in_ok-add_line.field-0 (jobs_of now) call
          (drop (i + 1) calls) c.loop-call.draft c.add_line.new.draft
          (same_jobs first now c.loop-call.invariant.rest) left c.in_ok-add_line.ensures.line;
      rest = rest_then first now c.add_line.new.program c.loop-call.invariant.rest c.in_ok-add_line.ensures.rest;
      mirrors = c.in_ok-add_line.ensures.mirrors;
      right = c.in_ok-add_line.ensures.right;
      drafted = subst (λ (cs : List Call). Drafted jobs settings cs (begun first) (Ok c.add_line.new.draft)) (sym taken) all;
      deeds = subst (λ (cs : List Call). DeedsStay jobs settings cs (begun first) c.add_line.new.draft) (sym taken)
          (stay_with jobs settings c.lines_answer_one.ensures (take i calls) call (begun first) c.loop-call.draft
          c.add_line.new.draft all
          (subst (λ (js : Jobs). KeepsDeeds js c.loop-call.draft c.add_line.new.draft)
          (same_jobs first now c.loop-call.invariant.rest) c.in_ok-add_line.ensures.deeds) c.loop-call.invariant.deeds);
    }

pub returns-clause-deeds : goal.returns-clause-deeds
returns-clause-deeds c =
    subst (λ (cs : List Call). DeedsStay (jobs_of c.args.program.now) c.args.settings.now cs (begun c.args.program.now) c.loop-call.draft)
    (take_all c.loop-call.call-index c.args.calls.now (omega arith)) c.loop-call.invariant.deeds
