use Rattle.std.proofs.Common.{rules, ◌≡◌, Ok, true, false, Bool, ap, refl, subst}
use Rattle.std.specs.Prelude.{is_ok}
use Rattle.trick_serve_source.proofs.Looking.{answer_yes, came_lost, given, lost, no_answer}
use Rattle.trick_serve_source.proofs.served.Served.list.Goals as goal
use Rattle.trick_serve_source.specs.Looks.{HasFound}
use Rattle.trick_serve_source.specs.Rolls.{view_of}

pub returns-in_err-find-clause-came : goal.returns-in_err-find-clause-came
returns-in_err-find-clause-came g c =
    let one : is_ok c.find.result ≡ false = search rules in
    let two : is_ok c.from_residual.result ≡ false = search rules in
    came_lost c.args.there.now c.args.frozen (view_of c.args.self.now) _ c.from_residual.result two
    (lost c.args.there.now (view_of c.args.self.now) c.find.new.self c.find.new.self (is_ok c.find.result)
    (c.find.ensures.found (no_answer c.find.result one)) refl refl)

pub returns-in_err-list-clause-came : goal.returns-in_err-list-clause-came
returns-in_err-list-clause-came g c =
    let up : c.find.result ≡ Ok true = search rules in
    let two : is_ok c.from_residual-in_err-list.result ≡ false = search rules in
    came_lost c.args.there.now c.args.frozen (view_of c.args.self.now) _ c.from_residual-in_err-list.result two
    (lost c.args.there.now (view_of c.args.self.now) c.find.new.self c.give.new.self (is_ok c.find.result)
    (c.find.ensures.found (answer_yes c.find.result up)) c.give.ensures.seats c.give.ensures.silent)

pub returns-then-branch-clause-came : goal.returns-then-branch-clause-came
returns-then-branch-clause-came g c =
    let up : c.find.result ≡ Ok true = search rules in
    let found : HasFound c.args.there.now (view_of c.args.self.now) c.find.new.self.roll c.find.new.self.silent true =
    subst (λ (b : Bool). HasFound c.args.there.now (view_of c.args.self.now) c.find.new.self.roll c.find.new.self.silent b) (ap is_ok up) (c.find.ensures.found (answer_yes c.find.result up)) in
    given c.args.there.now c.args.frozen (view_of c.args.self.now) c.find.new.self c.give.new.self
    c.in_ok-list.list.items found c.in_ok-list.ensures.list (c.find.ensures.filled up) (c.find.ensures.answered up) (c.find.ensures.quick up)
    c.give.ensures.seats c.give.ensures.live c.in_ok-list.ensures.reached c.give.ensures.silent
