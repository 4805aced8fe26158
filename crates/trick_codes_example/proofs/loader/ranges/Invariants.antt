use Rattle.std.proofs.Common.{◌≡◌, take}
use Rattle.trick_codes_example.proofs.loader.ranges.Given as goal
use Rattle.trick_codes_example.specs.Panel.{ranges_of}

abbrev pub invariant-loop-gauge : goal.invariant-loop-gauge
invariant-loop-gauge l = l.found.items ≡ ranges_of (take l.gauge-index l.gauges)
