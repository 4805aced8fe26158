use Rattle.std.proofs.Common.{◌≡◌}
use Rattle.trick_check_bodies.specs.Classes.{AreWhole, made}
use Rattle.trick_check.proofs.walk.make_classes.Given as goal
use Rattle.trick_check.specs.Walk.{made_of_first}
use Rattle.trick_lang.specs.Syntax.{definitions_of}

-- what is made of the definitions so far
abbrev pub invariant-loop-class : goal.invariant-loop-class
invariant-loop-class l = record {
  is_made : made l.bodies ≡ made_of_first (definitions_of l.definitions) l.objects l.class;
  whole : AreWhole (made l.bodies);
}
