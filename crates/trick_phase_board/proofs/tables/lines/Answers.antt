use Rattle.std.proofs.Common.{◌≤◌, [], ap, sym, ◌∙◌, inl, inr, length, arith}
use Rattle.std.proofs.lemmas.Bool.{cases_lt}
use Rattle.std.proofs.lemmas.List.{get_or_past}
use Rattle.trick_phase_board.proofs.Lines.{no_line}
use Rattle.trick_model.specs.PlanOf.{plan_of}
use Rattle.trick_model.specs.Valid.{ids}
use Rattle.trick_phase_board.proofs.tables.lines.Goals as goal

pub returns : goal.returns
returns c thread = elim (cases_lt thread c.loop-thread.thread) [
  | inl less ↦ c.loop-thread.invariant.right thread less
  | inr past ↦
      let many = c.loop-thread.invariant.made in
      let all : length c.loop-thread.lines ≤ thread = omega arith in
      ap ids (get_or_past c.loop-thread.lines thread [] all)
      ∙ sym (no_line (plan_of c.args.plan.now) thread c.args.plan.now.program.right_threads (omega arith))
]
