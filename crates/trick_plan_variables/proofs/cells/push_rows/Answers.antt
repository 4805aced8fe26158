use Rattle.std.proofs.Common.{◌≡◌, ◌∙◌, ◌++◌, [], ℕ, List, ap, append-nil, sym}
use Rattle.trick_plan_variables.proofs.Names.{no_columns}
use Rattle.trick_plan_variables.proofs.cells.push_rows.Goals as goal
use Rattle.trick_plan_variables.specs.Cells.{cells_named, row_elements}

pub returns-then-columns-eq0 : goal.returns-then-columns-eq0
returns-then-columns-eq0 c =
    let cells = c.args.cells.now.items in
    let none : row_elements c.args.name.now c.args.rows c.args.columns ≡ [] =
    ap (row_elements c.args.name.now c.args.rows) c.if-columns-eq0.true ∙ no_columns c.args.name.now c.args.rows in
    sym (ap (λ (names : List (List ℕ)). cells ++ cells_named c.args.scalar names) none ∙ append-nil cells)
