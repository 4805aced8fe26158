use Rattle.std.proofs.Common.{ℕ, ◌∙◌, drop, subst, sym, take}
use Rattle.trick_exec_turn.proofs.LineLemmas.{apart_all, apart_at}
use Rattle.trick_exec_turn.proofs.lines.count_lines.Goals as goal
use Rattle.trick_exec_meaning.specs.Parts.{AreApart}

pub returns-then-not-is_of_session-clause-apart : goal.returns-then-not-is_of_session-clause-apart
returns-then-not-is_of_session-clause-apart c = λ s may.
    (let entries = c.args.entries.now in
    subst (λ (k : ℕ). AreApart entries (take k entries) (drop k entries)) (sym c.loop-entry.invariant.count)
    (apart_at entries c.loop-entry.entry-index c.entry-item.result c.loop-entry.invariant.lines c.loop-entry-test.true c.entry-item.is
    (sym c.is_of_session.ensures ∙ c.if-not-is_of_session.true) s may))

pub returns-clause-apart : goal.returns-clause-apart
returns-clause-apart c = λ s may.
    (let entries = c.args.entries.now in
    subst (λ (k : ℕ). AreApart entries (take k entries) (drop k entries)) (sym c.loop-entry.invariant.count)
    (apart_all entries c.loop-entry.entry-index c.loop-entry.invariant.lines c.loop-entry-test.false))
