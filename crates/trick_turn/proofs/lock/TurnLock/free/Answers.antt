use Rattle.std.proofs.Common.{rules, sym, subst, ℕ, List, Option}
use mathlib.Core.Option.{none}
use Rattle.atomic_table.specs.Table.{step, Allows}
use Rattle.trick_turn.specs.TurnRule.{TurnRule}
use Rattle.trick_turn.specs.Steps.{HasReleased}
use Rattle.trick_turn.proofs.Keeping.{release}
use Rattle.trick_turn.proofs.lock.TurnLock.free.Goals as goal

pub store-requires : goal.store-requires
store-requires g c = let stands = g.B.Keeps.stands in let seat = g.B.Keeps.seat in let tells = g.E.Adds.tells in
    let slots : ℕ = c.args.self.now.table.shared.table_id.slots in let pass = c.args.pass.now.seat.inner in let home = c.requires.home in (
      search rules,
      search rules,
      subst (λ (l : List (ℕ × Option g.row.B.Denot)). Allows (TurnRule stands seat) slots pass.id (pass.me.0, l) 0 (λ _. 0) (λ _. HasReleased tells (step slots 0 0 0 none) (pass.me.0, l) 0)) (sym home.2)
          (release stands seat slots _ _ home.1 _ tells home.0 home.3 c.requires.names),
    )
