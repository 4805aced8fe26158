use Rattle.std.proofs.Common.{ap, ◌∙◌, sym, subst, List, ◌∷◌, [], ◌++◌, Option, Some}
use Rattle.atomic_table.specs.Table.{opening}
use Rattle.trick_turn.specs.Views.{fresh_view}
use Rattle.trick_turn.specs.TurnRule.{TurnRule}
use Rattle.trick_turn.proofs.Keeping.{make}
use Rattle.trick_turn.proofs.lock.TurnLock.with_first.Goals as goal

pub new-requires : goal.new-requires
new-requires g c = subst (λ (l : List (Option g.row.B.Denot)). TurnRule g.B.Keeps.stands g.B.Keeps.seat (opening (0 ∷ []) l (fresh_view 1 1 [])))
    (sym (c.push_reserved.ensures.items ∙ ap (λ l. l ++ Some c.args.value ∷ []) c.in_ok-slots.ensures.items)) (make g.B.Keeps.stands g.B.Keeps.seat c.args.value c.requires)
