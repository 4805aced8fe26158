use Rattle.std.proofs.Common.{◌≡◌, ◌++◌, ap, sym, ◌∙◌}
use Rattle.trick_base.proofs.Results.{on_ok}
use Rattle.trick_check_cells.proofs.Waits.{no_cells}
use Rattle.trick_check_cells.specs.Cells.{under}
use Rattle.trick_check_cells.specs.Counts.{base_count, counts}
use Rattle.trick_check_cells.specs.Waits.{stack_cells, waiting_cells}
use Rattle.trick_check_cells.proofs.cell.expand.Goals as goal

pub returns-then-base_size-eq0 : goal.returns-then-base_size-eq0
returns-then-base_size-eq0 c = λ done are.
    let gs = c.args.groups.now in
    let base = c.in-Place.base in
    let none : base_count (counts done) base ≡ 0 = ap (λ ss. base_count ss base) (sym are.1) ∙ (sym c.base_size.ensures ∙ c.if-base_size-eq0.true) in
    let empty = sym (ap (waiting_cells gs done) c.in-Place.is ∙ ap (under c.in-Place.prefix) (no_cells done c.in-Place.lengths base none)) in
    ap (λ ws. c.args.cells.now ++ (ws ++ stack_cells gs done c.args.stack.now.items)) empty

pub returns-in-Elements : goal.returns-in-Elements
returns-in-Elements c =
    let gs = c.args.groups.now in
    on_ok c.expand_elements.result (λ e done are. ap (λ cs. c.args.cells.now ++ cs) (e gs done ∙ ap (λ w. waiting_cells gs done w ++ stack_cells gs done c.args.stack.now.items) (sym c.in-Elements.is))) c.expand_elements.ensures

pub returns-in-Members : goal.returns-in-Members
returns-in-Members c =
    let gs = c.args.groups.now in
    on_ok c.expand_members.result (λ e done are. ap (λ cs. c.args.cells.now ++ cs) (e done ∙ ap (λ w. waiting_cells gs done w ++ stack_cells gs done c.args.stack.now.items) (sym c.in-Members.is))) c.expand_members.ensures
