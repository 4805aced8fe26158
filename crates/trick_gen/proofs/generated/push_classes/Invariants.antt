use Rattle.std.proofs.Common.{◌≡◌, ◌++◌}
use Rattle.trick_gen.specs.Texts.{classes_text}
use Rattle.trick_gen.proofs.generated.push_classes.Given as goal

abbrev pub invariant-loop-class : goal.invariant-loop-class
invariant-loop-class l = l.text.items ≡ l.fn.text.items ++ classes_text l.class
