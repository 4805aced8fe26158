use Rattle.std.proofs.Common.{refl}
use Rattle.trick_exec.proofs.laws.serial_forms_are_alone.Goals as goal

pub returns-clause-alone : goal.returns-clause-alone
returns-clause-alone g c = λ old new. record {
  silent = λ answers messages went. went;
  undecided = refl;
  untold = refl;
  ready = λ polls asked. asked;
}

pub returns-clause-always : goal.returns-clause-always
returns-clause-always g c = record {
  silent = λ old new answers messages went. went;
  undecided = λ turns. refl;
  untold = λ turns. refl;
  paid = λ turns. refl;
  ready = λ old new polls asked. asked;
}
