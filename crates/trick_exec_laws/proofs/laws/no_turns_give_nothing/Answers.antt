use Rattle.std.proofs.Common.{refl}
use Rattle.trick_exec_laws.proofs.laws.no_turns_give_nothing.Goals as goal

pub returns : goal.returns
returns g c = record {
  gave = λ old new. record { silent = λ answers messages went. went; undecided = refl; untold = refl };
  paid = λ moment. refl;
}
