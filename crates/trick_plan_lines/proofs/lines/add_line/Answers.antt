use Rattle.std.proofs.Common.{◌∙◌, subst, sym}
use Rattle.trick_plan_draft.specs.Jobs.{Jobs, jobs_of}
use Rattle.trick_plan_draft.specs.Kept.{IsDraftOf}
use Rattle.trick_plan_lines.proofs.Going.{late}
use Rattle.trick_plan_lines.proofs.Keeping.{deeds_after, mirrors_after, right_after, same_jobs}
use Rattle.trick_plan_lines.proofs.lines.add_line.Goals as goal
use Rattle.trick_plan_lines.specs.Texts.{texts_in}

pub returns-in-Some-clause-line : goal.returns-in-Some-clause-line
returns-in-Some-clause-line c =
    late (jobs_of c.args.program.now) c.args.settings.now c.args.call.now c.in-Some.fault c.args.draft.now
    c.args.draft.now (sym c.time_fault.ensures ∙ c.in-Some.is)

pub returns-in-Ok-clause-mirrors : goal.returns-in-Ok-clause-mirrors
returns-in-Ok-clause-mirrors c =
    mirrors_after c.lines_keep.ensures c.declarations_keep.ensures (jobs_of c.args.program.now) c.args.settings.now
    c.requires.frame (texts_in c.in_ok-texts_of.field-0) c.args.call.now.line c.args.program.now c.said.new.program
    c.args.call.now.form c.args.draft.now c.said.new.draft (sym c.time_fault.ensures ∙ c.in_default.is)
    c.in-Ok.ensures.said c.in-Ok.ensures.declared c.in-Ok.ensures.other c.requires.mirrors

pub returns-in-Ok-clause-right : goal.returns-in-Ok-clause-right
returns-in-Ok-clause-right c =
    subst (λ (jobs : Jobs). IsDraftOf jobs c.args.settings.now.threads c.said.new.draft)
    (sym (same_jobs c.args.program.now c.said.new.program c.in-Ok.ensures.rest))
    (right_after c.lines_keep.ensures c.declarations_keep.ensures (jobs_of c.args.program.now) c.args.settings.now
    c.requires.frame (texts_in c.in_ok-texts_of.field-0) c.args.call.now.line c.said.new.program
    c.args.call.now.form c.args.draft.now c.said.new.draft (sym c.time_fault.ensures ∙ c.in_default.is)
    c.in-Ok.ensures.said c.in-Ok.ensures.declared c.requires.right)

pub returns-in-Ok-clause-deeds : goal.returns-in-Ok-clause-deeds
returns-in-Ok-clause-deeds c =
    deeds_after c.lines_keep.ensures c.declarations_keep_deeds.ensures (jobs_of c.args.program.now) c.args.settings.now
    c.requires.frame (texts_in c.in_ok-texts_of.field-0) c.args.call.now.line c.args.call.now.form c.args.draft.now
    c.said.new.draft (sym c.time_fault.ensures ∙ c.in_default.is) c.in-Ok.ensures.said c.requires.right
