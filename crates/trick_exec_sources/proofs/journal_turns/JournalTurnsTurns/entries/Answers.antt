use Rattle.std.proofs.Common.{Some, ap, refl, rules, sym, ◌∙◌}
use Rattle.std.specs.List.{list_any}
use Rattle.trick_exec_sources.proofs.Gaps.{answers_told, gap_of}
use Rattle.trick_exec_sources.proofs.Replaying.{done_else, done_then, lines_left}
use Rattle.trick_exec_sources.specs.Due.{is_line, sessions_so_far}
use Rattle.trick_exec_sources.proofs.journal_turns.JournalTurnsTurns.entries.Goals as goal
use Rattle.trick_model.specs.State.{seen}
use Rattle.trick_exec_sources.specs.Turns.{Told}

pub returns-then-is_done-clause-step : goal.returns-then-is_done-clause-step
returns-then-is_done-clause-step g c =
    let s = c.args.self.now in
    let done = done_then c.is_frozen-frozen.result (list_any is_line s.due) (sym c.is_done.ensures ∙ c.if-is_done.true) in
    let none = lines_left s.at s.end (sessions_so_far s.over s.start s.at s.whole.value) s.due s.rules ∙ done.1 in
    ((sym c.is_frozen-frozen.ensures ∙ done.0, none), refl)

pub returns-then-is_done-clause-gives : goal.returns-then-is_done-clause-gives
returns-then-is_done-clause-gives g c =
    let s = c.args.self.now in
    let done = done_then c.is_frozen-frozen.result (list_any is_line s.due) (sym c.is_done.ensures ∙ c.if-is_done.true) in
    (lines_left s.at s.end (sessions_so_far s.over s.start s.at s.whole.value) s.due s.rules ∙ done.1, refl)

pub returns-then-self-state-clause-gives : goal.returns-then-self-state-clause-gives
returns-then-self-state-clause-gives g c =
    let s = c.args.self.now in (
      refl,
      search rules,
      c.if-self-state.true,
      λ frozen.
          lines_left s.at s.end (sessions_so_far s.over s.start s.at s.whole.value) s.due s.rules
          ∙ done_else c.is_frozen-frozen.result (list_any is_line s.due) (sym c.is_done.ensures ∙ c.if-is_done.false) (c.is_frozen-frozen.ensures ∙ frozen),
    )

pub returns-then-turns-gt0-clause-gap : goal.returns-then-turns-gt0-clause-gap
returns-then-turns-gt0-clause-gap g c =
    let frozen = c.gap-turns.ensures.frozen c.if-turns-gt0.true in
    let line = done_else c.is_frozen-frozen.result (list_any is_line c.args.self.now.due) (sym c.is_done.ensures ∙ c.if-is_done.false) frozen in
    gap_of c.gap-turns.result c.args._live.now (seen g.M.Cells.numbers c.args.state.now) c.args.self.now c.pass_gap.new.self c.if-turns-gt0.true
    (sym c.is_frozen-frozen.ensures ∙ frozen) (c.gap-turns.ensures.below c.if-turns-gt0.true) line (c.gap-turns.ensures.none c.if-turns-gt0.true)
    c.pass_gap.ensures

pub returns-then-turns-gt0-clause-step : goal.returns-then-turns-gt0-clause-step
returns-then-turns-gt0-clause-step g c =
    let frozen = c.gap-turns.ensures.frozen c.if-turns-gt0.true in
    let line = done_else c.is_frozen-frozen.result (list_any is_line c.args.self.now.due) (sym c.is_done.ensures ∙ c.if-is_done.false) frozen in
    answers_told c.args._live.now (seen g.M.Cells.numbers c.args.state.now) c.gap-turns.result c.args.self.now c.pass_gap.new.self
    (gap_of c.gap-turns.result c.args._live.now (seen g.M.Cells.numbers c.args.state.now) c.args.self.now c.pass_gap.new.self c.if-turns-gt0.true
    (sym c.is_frozen-frozen.ensures ∙ frozen) (c.gap-turns.ensures.below c.if-turns-gt0.true) line (c.gap-turns.ensures.none c.if-turns-gt0.true)
    c.pass_gap.ensures)

pub pass_quiet-requires-clause-line : goal.pass_quiet-requires-clause-line
pass_quiet-requires-clause-line g c =
    done_else c.is_frozen-frozen.result (list_any is_line c.args.self.now.due) (sym c.is_done.ensures ∙ c.if-is_done.false)

pub returns-then-is_quiet-clause-gives : goal.returns-then-is_quiet-clause-gives
returns-then-is_quiet-clause-gives g c =
    let s = c.args.self.now in (
      c.pass_quiet.ensures.list,
      c.if-self-state.false,
      λ frozen.
          lines_left s.at s.end (sessions_so_far s.over s.start s.at s.whole.value) s.due s.rules
          ∙ done_else c.is_frozen-frozen.result (list_any is_line s.due) (sym c.is_done.ensures ∙ c.if-is_done.false) (c.is_frozen-frozen.ensures ∙ frozen),
      ap (λ (told : Told). Some told) c.pass_quiet.ensures.told,
    )

pub next-requires : goal.next-requires
next-requires g c =
    done_else c.is_frozen-frozen.result (list_any is_line c.args.self.now.due) (sym c.is_done.ensures ∙ c.if-is_done.false)

pub returns-in-Ok-clause-gives : goal.returns-in-Ok-clause-gives
returns-in-Ok-clause-gives g c =
    let s = c.args.self.now in (
      c.in-Ok.ensures.list,
      c.if-self-state.false,
      λ frozen.
          lines_left s.at s.end (sessions_so_far s.over s.start s.at s.whole.value) s.due s.rules
          ∙ done_else c.is_frozen-frozen.result (list_any is_line s.due) (sym c.is_done.ensures ∙ c.if-is_done.false) (c.is_frozen-frozen.ensures ∙ frozen),
      ap (λ (told : Told). Some told) (c.in-Ok.ensures.told),
    )
