-- The worked bodies are resolved so, as the rules compute.
use Rattle.std.proofs.Common.{refl}
use Rattle.trick_check_blocks.specs.Worked.{AreResolved}

pub resolved : AreResolved
resolved = record {
  variable = refl;
  element = refl;
  truth_as_index = refl;
  member = refl;
  last_index_fastest = refl;
  computed_element = refl;
  computed_first = refl;
  computed_last = refl;
  computed_both = refl;
  object = refl;
  item = refl;
  local_read = refl;
  hidden = refl;
  slots = refl;
  slot_again = refl;
  blocks_run = refl;
  nested = refl;
  branches = refl;
  branch_blocks = refl;
  loop = refl;
  loop_block = refl;
  call = refl;
  methods = refl;
}
