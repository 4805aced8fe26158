use Rattle.std.proofs.Common.{◌≡◌, ℕ, ◌≤◌, ◌+◌, slice_get, Some, vec_len, vec_capacity}
use Rattle.trick_turn.specs.declared.pass.Pass.{Pass}
use Rattle.trick_turn.specs.Passes.{IsDealt}
use Rattle.trick_turn.proofs.lock.TurnLock.deal_all.Given as goal

abbrev pub invariant-loop-made : goal.invariant-loop-made
invariant-loop-made g l = (vec_len l.passes + 1 ≡ l.made) × (l.seats ≤ vec_capacity l.passes) × IsDealt l.self 1 l.made l.first
    × ((i : ℕ) (p : Pass g.row.B.Denot g.row.B-Entry.Denot) → slice_get l.passes.items i ≡ Some p → IsDealt l.self (i + 2) 0 p)
