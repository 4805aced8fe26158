use Rattle.std.proofs.Common.{◌≡◌, ◌++◌}
use Rattle.trick_gen.specs.Texts.{objects_text}
use Rattle.trick_gen.proofs.generated.push_objects.Given as goal

abbrev pub invariant-loop-object : goal.invariant-loop-object
invariant-loop-object l = l.text.items ≡ l.fn.text.items ++ objects_text l.object
