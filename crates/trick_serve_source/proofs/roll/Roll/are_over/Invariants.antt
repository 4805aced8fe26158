use Rattle.std.proofs.Common.{◌≡◌, ◌-◌, take, true}
use Rattle.std.specs.List.{All}
use Rattle.std.specs.Prelude.{IsTrue}
use Rattle.trick_serve_source.proofs.roll.Roll.are_over.Given as goal
use Rattle.trick_serve_hearing.specs.Ended.{has_end}
use Rattle.trick_serve_hearing.specs.Rules.{is_live}
use Rattle.trick_serve_hearing.specs.Sides.{side}

abbrev pub invariant-loop-session : goal.invariant-loop-session
invariant-loop-session l = All (λ n. is_live l.self.seats.items n ≡ true → IsTrue (has_end (side l.self.seats.items (n - 1)).heard)) (take l.session-index l.self.live.items)
