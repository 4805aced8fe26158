use Rattle.std.proofs.Common.{◌≡◌, ◌∙◌, ap, sym, subst}
use Rattle.trick_plan_draft.specs.Drafts.{names_of}
use Rattle.trick_plan_draft.specs.Jobs.{jobs_of}
use Rattle.trick_plan_ending.proofs.Facts.{names_kept, right}
use Rattle.trick_plan_ending.proofs.ending.end.Goals as goal
use Rattle.trick_plan_ending.specs.Ending.{AreParts, parts_of}
use Rattle.trick_lang.specs.declared.program.Program.{Program}
use Rattle.trick_model.specs.Valid.{names_in}

pub joined-requires : goal.joined-requires
joined-requires c =
    right c.args.program c.args.draft c.args.settings c.in_ok-parts.parts
    (c.cells_are_mirrored.ensures c.args.program c.args.draft c.requires.cells)
    c.requires.draft c.requires.threads c.requires.frame c.requires.limit
    c.in_ok-parts.ensures.parts c.in_ok-parts.ensures.queues

pub returns : goal.returns
returns c =
    let p = c.args.program in
    let plan = c.joined.result in
    let are : AreParts c.args.draft c.args.settings (parts_of plan) =
    subst (AreParts c.args.draft c.args.settings) (sym c.joined.ensures.parts) c.in_ok-parts.ensures.parts in
    let names : names_of (jobs_of p) c.args.draft ≡ names_in p plan.groups plan.events =
    names_kept p c.args.draft c.args.settings (parts_of plan)
    (c.cells_are_mirrored.ensures p c.args.draft c.requires.cells) c.requires.draft are in
    record {
      program = c.joined.ensures.program;
      parts = are;
      names = names ∙ ap (λ (q : Program). names_in q plan.groups plan.events) (sym c.joined.ensures.program);
    }
