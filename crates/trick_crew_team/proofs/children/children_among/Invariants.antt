use Rattle.std.proofs.Common.{◌≡◌, take}
use Rattle.std.specs.Prelude.{filter}
use Rattle.trick_crew_team.proofs.children.children_among.Given as goal
use Rattle.trick_crew_team.specs.Children.{is_child}

abbrev pub invariant-loop-number : goal.invariant-loop-number
invariant-loop-number l = l.threads.items ≡ filter (is_child l.plan) (take l.number-index l.numbers)
