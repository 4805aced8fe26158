use Rattle.std.proofs.Common.{◌≡◌, ◌+◌, ◌==◌, ◌≤◌, drop, count_by}
use Rattle.trick_codes.proofs.form.are_numbers.Given as goal
use Rattle.trick_codes.specs.Forms.{last_place}
use Rattle.trick_codes.specs.declared.form.Place.TheVariants.{Start}

abbrev pub invariant-loop-b : goal.invariant-loop-b
invariant-loop-b l = record { going : last_place l.at (drop l.b-index l.bytes) ≡ last_place Start l.bytes; few : l.commas + count_by (λ b. b == 44) (drop l.b-index l.bytes) ≡ count_by (λ b. b == 44) l.bytes; small : l.commas ≤ l.b-index }
