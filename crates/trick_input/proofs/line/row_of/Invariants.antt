use Rattle.std.proofs.Common.{◌≡◌, drop}
use Rattle.trick_input.specs.Forms.{outcome, outcome_of}
use Rattle.trick_input.specs.Lexemes.{classes}
use Rattle.trick_input.specs.Seen.{all_seen}
use Rattle.trick_input.proofs.line.row_of.Given as goal

abbrev pub invariant-loop-row : goal.invariant-loop-row
invariant-loop-row l =
    outcome (drop l.row-index l.row-items) (classes (all_seen l.line)) l.place ≡ outcome_of (classes (all_seen l.line))
