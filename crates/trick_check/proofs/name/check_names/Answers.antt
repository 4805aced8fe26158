use Rattle.std.proofs.Common.{sym, subst}
use Rattle.trick_check.proofs.Refusing.{names_refused}
use Rattle.trick_check.proofs.name.check_names.Goals as goal
use Rattle.trick_check.specs.Refused.{IsRefused}
use Rattle.trick_lang.specs.SDefineOf.{sdefine_of}

pub returns-in-Err-clause-refused : goal.returns-in-Err-clause-refused
returns-in-Err-clause-refused c =
    let ds = sdefine_of c.args.sdef.now in
    subst (λ q. IsRefused ds q) (sym c.check_fault.ensures) (names_refused ds c.in-Err.fault c.in-Err.ensures.err)
