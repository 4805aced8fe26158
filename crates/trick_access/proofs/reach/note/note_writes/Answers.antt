use Rattle.std.proofs.Common.{ap, sym}
use Rattle.trick_access.proofs.Reached.{no_writes}
use Rattle.trick_access.proofs.reach.note.note_writes.Goals as goal
use Rattle.trick_access.specs.Reached.{noted}
use Rattle.trick_lang.specs.TreeOf.{branches_of, code_of, else_of}

pub returns-in-If : goal.returns-in-If
returns-in-If c =
    rw (ap code_of c.in-If.is) (sym (ap (λ rs. noted rs c.args.ends.now) (no_writes (branches_of c.in-If.branches.items (else_of c.in-If.otherwise)))))
