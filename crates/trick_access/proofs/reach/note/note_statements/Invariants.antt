use Rattle.std.proofs.Common.{◌≡◌, drop}
use Rattle.trick_access.proofs.reach.note.note_statements.Given as goal
use Rattle.trick_access.specs.Reached.{all_cells, no_cells, noted}
use Rattle.trick_lang.specs.TreeOf.{code_list}

-- what is left is still to be noted
abbrev pub invariant-loop-statement : goal.invariant-loop-statement
invariant-loop-statement l =
    noted (all_cells l.way (code_list (drop l.statement-index l.statements)) l.base no_cells) l.ends ≡ noted (all_cells l.way (code_list l.statements) l.base no_cells) l.fn.ends
