use Rattle.std.proofs.Common.{◌≡◌, length}
use Rattle.trick_input.specs.Forms.{form_of, walk}
use Rattle.trick_input.specs.Lexemes.{classes}
use Rattle.trick_input.specs.Seen.{all_seen}
use Rattle.trick_input.proofs.line.walk.Given as goal

abbrev pub invariant-loop-rest : goal.invariant-loop-rest
invariant-loop-rest l =
    walk (form_of l.inside l.form) (classes (all_seen l.rest)) ≡ walk l.fn.form (classes (all_seen l.fn.line))

abbrev pub decreases-loop-rest : goal.decreases-loop-rest
decreases-loop-rest l = length l.rest
