use Rattle.std.proofs.Common.{◌+◌, arith}
use Rattle.trick_exec_sources.proofs.Gaps.{gap_below, stands_later}
use Rattle.trick_exec_sources.proofs.Replaying.{Stands}
use Rattle.trick_exec_sources.specs.Due.{sessions_so_far}
use Rattle.trick_exec_sources.proofs.journal_turns.JournalTurns.pass_gap.Goals as goal

pub overflow_add-self : goal.overflow_add-self
overflow_add-self c =
    let s = c.args.self.now in
    let below = gap_below s.at s.end (s.at + c.args.turns) (sessions_so_far s.over s.start s.at s.whole.value) s.due s.rules c.requires.line c.requires.none in
    omega (arith, below, s.end_right)

pub invariant_of-self : goal.invariant_of-self
invariant_of-self c =
    let s = c.args.self.now in
    let stands : Stands s.over s.start s.at s.end s.whole.value s.due =
    record { forward = s.forward; left = s.left; rules = s.rules; behind_end = s.behind_end } in
    let later : Stands s.over s.start (s.at + c.args.turns) s.end s.whole.value s.due =
    stands_later c.args.turns s.over s.start s.at s.end s.whole.value s.due stands c.requires.line c.requires.none in
    record {
      forward = later.forward;
      end_right = s.end_right;
      left = later.left;
      rules = later.rules;
      behind_end = later.behind_end;
      owes_one = c.requires.line;
    }
