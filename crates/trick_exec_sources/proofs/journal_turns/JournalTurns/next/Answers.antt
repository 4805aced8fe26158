use Rattle.std.proofs.Common.{List, ◌≡◌, ◌<◌, ◌+◌, ◌-◌, Bool, cond, true, false, sym, ap, subst, ◌∙◌, arith}
use Rattle.std.specs.List.{list_any}
use Rattle.std.specs.Prelude.{◌||◌, not}
use Rattle.trick_exec_sources.proofs.Replaying.{Stands, comes_next, list_next, owes_behind, owes_step, rest_is, sessions_step, stands_next, told_same}
use Rattle.trick_exec_sources.specs.Due.{is_line, sessions_so_far, since}
use Rattle.trick_model.specs.Journal.{Noted, is_of_session, lists_from}
use Rattle.trick_model.specs.declared.entry.Entry.{Entry}
use Rattle.trick_exec_sources.specs.Turns.{after_entries, in_next, may_all_come}
use Rattle.trick_exec_sources.proofs.journal_turns.JournalTurns.next.Goals as goal

pub returns-then-self-clause-owes : goal.returns-then-self-clause-owes
returns-then-self-clause-owes c =
    let s = c.args.self.now in
    owes_behind s.at s.end (sessions_so_far s.over s.start s.at s.whole.value) s.due c.new.result.items c.args.frozen s.owes
    s.rules c.if-self.true c.new.ensures.items c.requires

pub returns-clause-list : goal.returns-clause-list
returns-clause-list c =
    let s = c.args.self.now in
    let stands : Stands s.over s.start s.at s.end s.whole.value s.due =
    record { forward = s.forward; left = s.left; rules = s.rules; behind_end = s.behind_end } in
    c.in_ok-list.ensures.list ∙ list_next s.over s.start s.at s.end s.whole.value s.due stands c.if-self.false

pub returns-clause-told : goal.returns-clause-told
returns-clause-told c =
    let s = c.args.self.now in
    told_same s.end _ _
    (ap (lists_from (s.at + 1) (s.end - (s.at + 1))) c.in_ok-list.ensures.left ∙ rest_is s.at s.end s.due c.if-self.false)

pub returns-clause-rules : goal.returns-clause-rules
returns-clause-rules c =
    let s = c.args.self.now in
    let stands : Stands s.over s.start s.at s.end s.whole.value s.due =
    record { forward = s.forward; left = s.left; rules = s.rules; behind_end = s.behind_end } in
    subst (λ (list : List Entry). may_all_come list (in_next (sessions_so_far s.over s.start s.at s.whole.value)) ≡ true)
    (sym c.in_ok-list.ensures.list) (comes_next s.over s.start s.at s.end s.whole.value s.due stands)

pub returns-clause-sessions : goal.returns-clause-sessions
returns-clause-sessions c =
    let s = c.args.self.now in
    let stands : Stands s.over s.start s.at s.end s.whole.value s.due =
    record { forward = s.forward; left = s.left; rules = s.rules; behind_end = s.behind_end } in
    sessions_step s.over s.start s.at s.end s.whole.value s.due stands c.if-self.false
    ∙ ap (λ (list : List Entry). after_entries list (in_next (sessions_so_far s.over s.start s.at s.whole.value)))
    (sym c.in_ok-list.ensures.list)

pub invariant_of-self-2 : goal.invariant_of-self-2
invariant_of-self-2 c =
    let s = c.args.self.now in
    let stands : Stands s.over s.start s.at s.end s.whole.value s.due =
    record { forward = s.forward; left = s.left; rules = s.rules; behind_end = s.behind_end } in
    let next : Stands s.over s.start (s.at + 1) s.end s.whole.value c.take_before.new.self =
    stands_next s.over s.start s.at s.end s.whole.value s.due c.take_before.new.self stands c.if-self.false c.in_ok-list.ensures.left in
    record {
      forward = next.forward;
      end_right = s.end_right;
      left = next.left;
      rules = next.rules;
      behind_end = next.behind_end;
      owes_one = subst (λ (xs : List Noted). (not c.owes_after-self.result || list_any is_line xs) ≡ true) (sym c.in_ok-list.ensures.left)
          (owes_step (s.at + 1) s.due c.args.frozen s.owes c.owes_after-self.result
          (c.owes_after-self.ensures ∙ ap (λ (b : Bool). cond b false (cond c.args.frozen true s.owes))
          (c.has_line.ensures ∙ ap (list_any is_of_session) (c.deref.ensures.value ∙ c.in_ok-list.ensures.list)))
          c.requires s.owes_one);
    }
