use Rattle.std.proofs.Common.{◌≡◌, ◌++◌, drop}
use Rattle.trick_exec_entries.proofs.entries.hear.Given as goal
use Rattle.trick_exec_entries.specs.Hearing.{hearing_of, said_of}
use Rattle.trick_exec_entries.specs.Sessions.{AreHeard}
use Rattle.trick_phase_jobs.specs.Belongs.{IsMemoryOf}
use Rattle.trick_model.specs.PlanOf.{plan_of}
use Rattle.trick_model.specs.Turn.{heard, replies}

-- the entries that are left come to the same, after the replies so far
abbrev pub invariant-loop-entry : goal.invariant-loop-entry
invariant-loop-entry g l =
    let p = plan_of l.plan in
    let left = drop l.entry-index l.entries in
    let now = hearing_of g.M.Cells.numbers l.hearing in
    let start = hearing_of g.M.Cells.numbers l.fn.hearing in
    record {
      heard : heard p left now ≡ heard p l.entries start;
      said : said_of l.replies.items ++ replies p left now ≡ replies p l.entries start;
      sessions : AreHeard p l.hearing.sessions.items left;
      memory : IsMemoryOf l.plan.program (g.M.Cells.numbers l.hearing.current.state.memory) (g.M.Cells.scalars l.hearing.current.state.memory);
      bench : l.bench.parts ≡ l.fn.bench.parts;
    }
