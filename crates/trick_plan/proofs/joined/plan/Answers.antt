use Rattle.std.proofs.Common.{List, Ok, sym, subst}
use Rattle.std.proofs.lemmas.Result.{err_from_is_err_and}
use Rattle.trick_plan_variables.specs.Cells.{KeepsRest}
use Rattle.trick_plan_draft.specs.Drafts.{begun}
use Rattle.trick_plan_draft.specs.Jobs.{jobs_of}
use Rattle.trick_plan_draft.specs.Kept.{Mirrors}
use Rattle.trick_plan_ending.specs.Ending.{AreParts, parts_of}
use Rattle.trick_lang.specs.declared.job.Job.{Job}
use Rattle.trick_lang.specs.declared.program.Program.{Program}
use Rattle.trick_plan_lines.specs.Deeds.{DeedsStay}
use Rattle.trick_plan_lines.specs.Drafted.{Drafted}
use Rattle.trick_plan.proofs.Names.{names_stay}
use Rattle.trick_plan.proofs.joined.plan.Goals as goal
use Rattle.trick_plan_settings.specs.declared.settings.Settings.{Settings}
use Rattle.trick_plan_settings.specs.Threads.{AreThreads}

pub end-requires : goal.end-requires
end-requires c =
    let settings = c.in_ok-settings.settings in
    record {
      cells = c.in_ok-draft.ensures.mirrors;
      draft = c.in_ok-draft.ensures.right;
      threads = subst (λ (jobs : List Job). AreThreads jobs settings.threads) (sym c.in_ok-draft.ensures.rest.jobs)
          c.in_ok-settings.ensures.threads;
      frame = c.in_ok-settings.ensures.frame;
      limit = c.in_ok-settings.ensures.limit;
    }

pub returns : goal.returns
returns c =
    let p = c.args.program in
    let calls = c.args.calls.now in
    let d = c.in_ok-draft.draft in
    let same = c.in_ok-settings.ensures.settings in
    let ending = c.in_ok-end.ensures in (
      d,
      subst (λ (settings : Settings). Drafted (jobs_of p) settings calls (begun p) (Ok d)) same
          c.in_ok-draft.ensures.draft,
      record {
        rest = subst (KeepsRest p) (sym ending.program) c.in_ok-draft.ensures.rest;
        cells = subst (λ (q : Program). Mirrors q d) (sym ending.program) c.in_ok-draft.ensures.mirrors;
        parts = subst (λ (settings : Settings). AreParts d settings (parts_of c.in_ok-end.field-0)) same ending.parts;
        names = names_stay p c.draft.new.program calls c.in_ok-end.field-0 d c.in_ok-draft.ensures.rest
            (subst (λ (settings : Settings). DeedsStay (jobs_of p) settings calls (begun p) d) same
            c.in_ok-draft.ensures.deeds) ending.names;
      },
    )

pub returns-in_err-end : goal.returns-in_err-end
returns-in_err-end c =
    let p = err_from_is_err_and c.from_residual-in_err-end.result c.from_residual-in_err-end.ensures.1 in
    rw (p.1, p.2) tt
