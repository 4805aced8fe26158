use Rattle.std.proofs.Common.{◌≡◌, drop, map}
use Rattle.trick_plan_deeds.proofs.Finding.{later}
use Rattle.trick_model.specs.Names.{find_name}
use Rattle.trick_plan_deeds.proofs.named.place_of.Given as goal

abbrev pub invariant-loop-place : goal.invariant-loop-place
invariant-loop-place g l = later l.place (find_name l.name (map g.T.Named.name (drop l.place l.items))) ≡ find_name l.name (map g.T.Named.name l.items)
