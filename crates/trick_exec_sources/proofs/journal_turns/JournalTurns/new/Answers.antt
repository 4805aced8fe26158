use Rattle.std.proofs.Common.{◌≡◌, refl, ap, ◌∙◌, false}
use Rattle.trick_exec_sources.proofs.Joining.{IsJournal}
use Rattle.trick_exec_sources.proofs.Replaying.{Stands, lists_first, stands_first, told_same}
use Rattle.trick_exec_sources.specs.Due.{resumed}
use Rattle.trick_exec_sources.proofs.journal_turns.JournalTurns.new.Goals as goal
use Rattle.trick_model.specs.Turn.{is_frozen}

pub invariant_of-result : goal.invariant_of-result
invariant_of-result c =
    let j = c.args.journal in
    let start = c.args.start in
    let journal : IsJournal j.from j.end j.entries =
    record { in_range = j.in_range; rising = j.rising; within = j.within; joined = j.joined } in
    let is : c.in_ok-due.due ≡ resumed start j.end c.is_frozen-frozen.result j.entries =
    c.in_ok-due.ensures ∙ ap (resumed start j.end c.is_frozen-frozen.result) c.into_vec.ensures in
    let stands : Stands false start start j.end c.of-whole.result.value c.in_ok-due.due =
    stands_first start j.from j.end c.is_frozen-frozen.result j.entries c.in_ok-due.due c.of-whole.result.value journal j.end_right is
    c.of-whole.ensures in
    record {
      forward = stands.forward;
      end_right = j.end_right;
      left = stands.left;
      rules = stands.rules;
      behind_end = refl;
      owes_one = refl;
    }

pub returns-clause-told : goal.returns-clause-told
returns-clause-told c =
    let j = c.args.journal in
    let journal : IsJournal j.from j.end j.entries =
    record { in_range = j.in_range; rising = j.rising; within = j.within; joined = j.joined } in
    told_same j.end _ _
    (lists_first c.args.start j.from j.end c.args.mode j.entries c.in_ok-due.due journal
    (c.in_ok-due.ensures ∙ ap (resumed c.args.start j.end c.is_frozen-frozen.result) c.into_vec.ensures
    ∙ ap (λ frozen. resumed c.args.start j.end frozen j.entries) c.is_frozen-frozen.ensures))
