use Rattle.std.proofs.Common.{Result, Ok, drop, take}
use Rattle.trick_plan_variables.specs.Cells.{KeepsRest}
use Rattle.trick_plan_draft.specs.Drafts.{begun}
use Rattle.trick_plan_draft.specs.Jobs.{jobs_of}
use Rattle.trick_plan_draft.specs.Kept.{IsDraftOf, Mirrors}
use Rattle.trick_plan_draft.specs.declared.draft.Draft.{Draft}
use Rattle.trick_plan_lines.proofs.lines.draft.Given as goal
use Rattle.trick_plan_lines.specs.Deeds.{DeedsStay}
use Rattle.trick_plan_lines.specs.Drafted.{Drafted}
use Rattle.trick_plan_lines.specs.declared.fault.JoinFault.{JoinFault}

-- the lines that are left decide
abbrev pub invariant-loop-call : goal.invariant-loop-call
invariant-loop-call l = record {
  left :
      (answer : Result Draft JoinFault)
      → Drafted (jobs_of l.fn.program) l.fn.settings (drop l.call-index l.calls) l.draft answer
      → Drafted (jobs_of l.fn.program) l.fn.settings l.calls (begun l.fn.program) answer;
  rest : KeepsRest l.fn.program l.program;
  mirrors : Mirrors l.program l.draft;
  right : IsDraftOf (jobs_of l.program) l.fn.settings.threads l.draft;
  drafted : Drafted (jobs_of l.fn.program) l.fn.settings (take l.call-index l.calls) (begun l.fn.program) (Ok l.draft);
  deeds : DeedsStay (jobs_of l.fn.program) l.fn.settings (take l.call-index l.calls) (begun l.fn.program) l.draft;
}
