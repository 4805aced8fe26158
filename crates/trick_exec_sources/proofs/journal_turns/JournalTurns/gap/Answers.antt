use Rattle.std.proofs.Common.{ℕ, ap, ◌∙◌}
use Rattle.std.specs.Prelude.{min}
use Rattle.trick_exec_sources.proofs.Gaps.{none_before}
use Rattle.trick_exec_sources.proofs.journal_turns.JournalTurns.gap.Goals as goal

pub returns-in-Some-clause-none : goal.returns-in-Some-clause-none
returns-in-Some-clause-none c = λ some.
    let s = c.args.self.now in
    let most = c.saturating_sub-in-Some.result in
    none_before s.at c.in-Some.first most c.min.result s.due c.in-Some.ensures
    (c.min.ensures ∙ ap (λ (n : ℕ). min n most) c.saturating_sub.ensures) some
