use Rattle.std.proofs.Common.{◌≡◌, ◌++◌, drop}
use Rattle.std.specs.Prelude.{codes}
use Rattle.trick_model.specs.Session.{sample_fields}
use Rattle.trick_session.proofs.samples.line_of.Given as goal

abbrev pub invariant-loop-variable : goal.invariant-loop-variable
invariant-loop-variable g l =
    l.line.items ++ sample_fields (g.M.Cells.numbers l.memory) (drop l.variable-index l.variables)
    ≡ codes "0" ++ sample_fields (g.M.Cells.numbers l.memory) l.variables
