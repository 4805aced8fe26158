use Rattle.std.proofs.Common.{refl}
use Rattle.trick_race.proofs.verdict.judge_plan.Goals as goal

pub returns-in-Some : goal.returns-in-Some
returns-in-Some c = record { accepted = tt; before = tt; first = (c.in-Some.thread, c.in-Some.ensures, refl) }

pub returns-in-Some-class_on_child : goal.returns-in-Some-class_on_child
returns-in-Some-class_on_child c = record {
  accepted = tt;
  before = c.in_default.ensures;
  first =
      c.in-Some-class_on_child.ensures;
}

pub returns-in-Some-backwards : goal.returns-in-Some-backwards
returns-in-Some-backwards c = record {
  accepted = tt;
  before =
      (c.in_default.ensures, c.in_default-class_on_child.ensures);
  first = c.in-Some-backwards.ensures;
}
