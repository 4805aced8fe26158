use Rattle.std.proofs.Common.{refl}
use Rattle.std.specs.Fmt.{digits}
use Rattle.std.specs.Int.{int_wrap}
use Rattle.trick_plan_draft.proofs.laws.worked_lines_are_answered.Goals as goal

pub returns : goal.returns
unfolding int_wrap digits
returns c = record {
  assigned = refl;
  assigned_nothing = refl;
  assigned_too_much = refl;
  pair = refl;
  no_target = refl;
  no_depended = refl;
  pairs_full = refl;
  job_off = refl;
  no_job = refl;
  declared = refl;
  declared_twice = refl;
  declared_badly = refl;
  declared_too_many = refl;
  read = refl;
  read_badly = refl;
  read_too_much = refl;
  read_of_no_group = refl;
}
