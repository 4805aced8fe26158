use Rattle.std.proofs.Common.{◌≡◌, [], ◌∷◌, ◌++◌, ap, sym, ◌∙◌, rules}
use Rattle.std.proofs.lemmas.List.{append-nil}
use Rattle.trick_check_cells.proofs.Waits.{stack_push}
use Rattle.trick_check_cells.specs.Waits.{stack_cells}
use Rattle.trick_check_cells.proofs.cell.add_object.Goals as goal

pub loop-turn-preserved : goal.loop-turn-preserved
loop-turn-preserved c = λ done are.
    let gs = c.args.groups.now in
    let w = c.in-Some.waiting in
    let is : c.loop-turn.stack.items ≡ c.pop.new.self.items ++ w ∷ [] = search rules in
    let all = ap (stack_cells gs done) is ∙ stack_push gs done c.pop.new.self.items w in
    c.in_ok-expand-in-Some.ensures done are ∙ (ap (λ cs. c.loop-turn.cells ++ cs) (sym all) ∙ c.loop-turn.invariant done are)

pub returns-in-None : goal.returns-in-None
returns-in-None c = λ done are.
    let gs = c.args.groups.now in
    let none : c.loop-turn.stack.items ≡ [] = search rules in
    sym (append-nil c.loop-turn.cells) ∙ (ap (λ ws. c.loop-turn.cells ++ stack_cells gs done ws) (sym none) ∙ c.loop-turn.invariant done are)
