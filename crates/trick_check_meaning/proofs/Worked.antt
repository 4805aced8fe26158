-- The worked bodies do so, as the definitions compute.
use Rattle.std.proofs.Common.{refl}
use Rattle.std.specs.Fmt.{digits}
use Rattle.std.specs.Int.{int_wrap}
use Rattle.trick_check_meaning.specs.Worked.{AreMeant, NamesAreMeant, PlacesAreMeant, CallsAreMeant}

names : NamesAreMeant
unfolding int_wrap digits
names = record {
  member = refl;
  stored_before = refl;
  local_hides_member = refl;
  known_in_its_value = refl;
  ends_with_its_block = refl;
  ends_without_braces = refl;
  outlives_a_block = refl;
  loop_name_after_the_loop = refl;
  item = refl;
  local_hides_item = refl;
  objects = refl;
}

places : PlacesAreMeant
unfolding int_wrap digits
places = record {
  two_indexes = refl;
  first_index_too_large = refl;
  place_in_an_index = refl;
  below_0 = refl;
  index_before_the_right_side = refl;
  place_before_the_right_side = refl;
  wraps = refl;
  wraps_again = refl;
}

calls : CallsAreMeant
unfolding int_wrap digits
calls = record {
  fault_inside = refl;
  not_evaluated = refl;
  called_faults = refl;
  callers_locals = refl;
  callees_locals = refl;
  call_before_an_index = refl;
}

pub meant : AreMeant
meant = record { names = names; places = places; calls = calls }
