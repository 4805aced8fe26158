use Rattle.std.proofs.Common.{rules}
use Rattle.trick_wire.proofs.Joining.{wrote_front}
use Rattle.trick_wire.proofs.join.go_on.Goals as goal

pub returns-then-eq : goal.returns-then-eq
returns-then-eq g c = search rules

pub returns : goal.returns
returns g c = record {
  later = search rules;
  wrote = λ start before w. let left = c.learn.ensures.left c.requires.both in wrote_front start _ before _ _ _ left.0 _ w left.1 (search rules);
}
