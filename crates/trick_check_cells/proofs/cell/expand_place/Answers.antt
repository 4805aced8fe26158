use Rattle.std.proofs.Common.{◌≡◌, ◌++◌, ap, sym, ◌∙◌}
use Rattle.trick_check_cells.proofs.Waits.{stack_push, whole_array}
use Rattle.trick_check_cells.specs.Cells.{place_cells, under}
use Rattle.trick_check_cells.specs.Waits.{stack_cells}
use Rattle.trick_check_cells.specs.declared.cell.Waiting.TheVariants.{Elements, Members}
use Rattle.trick_check_names.specs.declared.tables.Base.TheVariants.{Group}
use Rattle.trick_check_names.specs.declared.tables.Lengths.TheVariants.{Plain, One}
use Rattle.trick_check_cells.proofs.cell.expand_place.Goals as goal

pub returns-in_ok-push-in-Group : goal.returns-in_ok-push-in-Group
returns-in_ok-push-in-Group c = λ groups done un.
    let s = c.args.stack.now.items in
    let k = c.in-Group.group in
    let kind : place_cells done Plain (Group k) ≡ place_cells done c.args.lengths c.args.base = ap (λ ls. place_cells done ls (Group k)) (sym c.in-Plain.is) ∙ ap (place_cells done c.args.lengths) (sym c.in-Group.is) in
    ap (λ cs. c.args.cells.now ++ cs) (ap (stack_cells groups done) c.in_ok-push-in-Group.ensures.items ∙ (stack_push groups done s (Members c.args.prefix k 0) ∙ ap (λ cs. under c.args.prefix cs ++ stack_cells groups done s) (sym (un k) ∙ kind)))

pub returns-in_ok-push-in-One : goal.returns-in_ok-push-in-One
returns-in_ok-push-in-One c = λ groups done un.
    let s = c.args.stack.now.items in
    let n = c.in-One.n in
    let b = c.args.base in
    ap (λ cs. c.args.cells.now ++ cs) (ap (stack_cells groups done) c.in_ok-push-in-One.ensures.items ∙ (stack_push groups done s (Elements c.args.prefix 0 n Plain b) ∙ ap (λ cs. cs ++ stack_cells groups done s) (sym (whole_array c.args.prefix n (place_cells done Plain b)) ∙ ap (λ ls. under c.args.prefix (place_cells done ls b)) (sym c.in-One.is))))

pub returns-in_ok-push-in-Two : goal.returns-in_ok-push-in-Two
returns-in_ok-push-in-Two c = λ groups done un.
    let s = c.args.stack.now.items in
    let m = c.in-Two.m in
    let n = c.in-Two.n in
    let b = c.args.base in
    ap (λ cs. c.args.cells.now ++ cs) (ap (stack_cells groups done) c.in_ok-push-in-Two.ensures.items ∙ (stack_push groups done s (Elements c.args.prefix 0 m (One n) b) ∙ ap (λ cs. cs ++ stack_cells groups done s) (sym (whole_array c.args.prefix m (place_cells done (One n) b)) ∙ ap (λ ls. under c.args.prefix (place_cells done ls b)) (sym c.in-Two.is))))
