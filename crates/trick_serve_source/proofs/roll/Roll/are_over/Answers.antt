use Rattle.std.proofs.Common.{rules, ◌≡◌, ◌≤◌, List, ℕ, length, true, ◌-◌, subst}
use Rattle.std.proofs.lemmas.List.{take_all}
use Rattle.std.specs.List.{All}
use Rattle.std.specs.Prelude.{IsTrue}
use Rattle.trick_serve_hearing.proofs.Placing.{kept_where}
use Rattle.trick_serve_source.proofs.roll.Roll.are_over.Goals as goal
use Rattle.trick_serve_hearing.specs.Ended.{has_end}
use Rattle.trick_serve_hearing.specs.Rules.{is_live}
use Rattle.trick_serve_hearing.specs.Sides.{side}

pub returns : goal.returns
returns c =
    let past : length c.args.self.now.live.items ≤ c.loop-session.session-index = search rules in
    λ yes. kept_where (is_live c.args.self.now.seats.items) (λ n. IsTrue (has_end (side c.args.self.now.seats.items (n - 1)).heard)) c.args.self.now.live.items
    (subst (λ (l : List ℕ). All (λ n. is_live c.args.self.now.seats.items n ≡ true → IsTrue (has_end (side c.args.self.now.seats.items (n - 1)).heard)) l)
    (take_all c.loop-session.session-index c.args.self.now.live.items past) c.loop-session.invariant)
