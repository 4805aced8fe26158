use Rattle.std.proofs.Common.{List, ◌+◌, ◌-◌, sym, ap, ◌∙◌}
use Rattle.std.specs.List.{list_any}
use Rattle.trick_exec_sources.proofs.Gaps.{stands_one}
use Rattle.trick_exec_sources.proofs.Replaying.{Stands, list_next, owes_on, rest_is, sessions_step, told_same}
use Rattle.trick_exec_sources.proofs.TurnEntries.{since_all}
use Rattle.trick_exec_sources.specs.Due.{is_line, sessions_so_far}
use Rattle.trick_model.specs.Journal.{lists_from}
use Rattle.trick_model.specs.declared.entry.Entry.{Entry}
use Rattle.trick_exec_sources.specs.Turns.{after_entries, in_next}
use Rattle.trick_exec_sources.proofs.journal_turns.JournalTurns.pass_quiet.Goals as goal

pub invariant_of-self : goal.invariant_of-self
invariant_of-self c =
    let s = c.args.self.now in
    let stands : Stands s.over s.start s.at s.end s.whole.value s.due =
    record { forward = s.forward; left = s.left; rules = s.rules; behind_end = s.behind_end } in
    let later : Stands s.over s.start (s.at + 1) s.end s.whole.value s.due =
    stands_one s.over s.start s.at s.end s.whole.value s.due stands c.requires.below c.requires.none in
    record {
      forward = later.forward;
      end_right = s.end_right;
      left = later.left;
      rules = later.rules;
      behind_end = later.behind_end;
      owes_one = owes_on c.args.frozen s.owes c.owes_after-self.result (list_any is_line s.due) c.owes_after-self.ensures c.requires.line s.owes_one;
    }

pub returns-clause-list : goal.returns-clause-list
returns-clause-list c =
    let s = c.args.self.now in
    let stands : Stands s.over s.start s.at s.end s.whole.value s.due =
    record { forward = s.forward; left = s.left; rules = s.rules; behind_end = s.behind_end } in
    sym c.requires.none ∙ list_next s.over s.start s.at s.end s.whole.value s.due stands c.requires.below

pub returns-clause-told : goal.returns-clause-told
returns-clause-told c =
    let s = c.args.self.now in
    told_same s.end _ _
    (ap (lists_from (s.at + 1) (s.end - (s.at + 1))) (sym (since_all (s.at + 1) s.due c.requires.none))
    ∙ rest_is s.at s.end s.due c.requires.below)

pub returns-clause-sessions : goal.returns-clause-sessions
returns-clause-sessions c =
    let s = c.args.self.now in
    let stands : Stands s.over s.start s.at s.end s.whole.value s.due =
    record { forward = s.forward; left = s.left; rules = s.rules; behind_end = s.behind_end } in
    sessions_step s.over s.start s.at s.end s.whole.value s.due stands c.requires.below
    ∙ ap (λ (list : List Entry). after_entries list (in_next (sessions_so_far s.over s.start s.at s.whole.value))) c.requires.none
