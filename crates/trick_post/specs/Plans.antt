-- A plan is data: two proofs that two plans are the same are the same.
use Rattle.std.specs.Coded.{Coded, coded_option}
use Rattle.std.specs.Prelude.{Option}
use Rattle.trick_model.specs.contracts.plan.Plan.{the_row as plan_row}
use Rattle.trick_model.specs.declared.plan.Plan.{Plan}

abbrev pub plan_code : Coded (Option Plan)
plan_code = coded_option plan_row.coded
