use Rattle.std.proofs.Common.{◌≡◌, ◌∙◌, ◌+◌, ℕ, false, nat_lt, List, Option, Some, Result, Err, length, ◌≤◌, sym, ap, subst}
use Rattle.std.proofs.lemmas.Result.{err_from_is_err_and}
use Rattle.std.specs.Borrow.{Bor}
use Rattle.trick_plan_variables.specs.Cells.{cells_of, count_of}
use Rattle.trick_plan_variables.specs.declared.spelled.SpelledDeclaration.{SpelledDeclaration}
use Rattle.trick_plan_draft.proofs.Declaring.{added_cells, as_many_cells, free_in, mirrors_more, room_left, says_more, says_refused}
use Rattle.trick_plan_draft.proofs.draft.Draft.declare.Goals as goal
use Rattle.trick_plan_draft.specs.Cells.{is_taken_in, with_cells}
use Rattle.trick_plan_draft.specs.Lines.{Did, declare_line}
use Rattle.trick_plan_draft.specs.Seen.{declared_in}
use Rattle.trick_plan_draft.specs.declared.draft.Draft.{Draft}
use Rattle.trick_plan_draft.specs.declared.fault.LineFault.{LineFault}
use Rattle.trick_lang.specs.declared.variable.Variable.{Variable}

pub add_declared-requires : goal.add_declared-requires
add_declared-requires c = record {
  free = free_in c.args.program.now c.args.self.now c.in-Some.known.now.declaration.name c.requires
      (sym c.in_ok-is_taken.ensures ∙ c.if-branch.false);
}

pub returns-in_err-add_declared-clause-line : goal.returns-in_err-add_declared-clause-line
returns-in_err-add_declared-clause-line c =
    let d = c.args.self.now in
    let declaration = c.in-Some.known.now.declaration in
    let p = err_from_is_err_and c.from_residual-in_err-add_declared.result
    c.from_residual-in_err-add_declared.ensures.1 in
    let f = c.in_err-add_declared.field-0.0 in
    let free : is_taken_in d.cells declaration.name ≡ false = sym c.in_ok-is_taken.ensures ∙ c.if-branch.false in
    let said : declare_line (declared_in c.args.declared) d ≡ declare_line (Some declaration) d =
    ap (λ (o : Option (Bor SpelledDeclaration)). declare_line (declared_in o) d) c.in-Some.is in
    let done : Did (Err f) d (declare_line (Some declaration) d) =
    says_refused d declaration free f c.args.program.now.cells c.add_declared.new.program.cells d
    (as_many_cells c.args.program.now d c.requires) c.in_err-add_declared.ensures.cells in
    rw (p.1, p.2) (subst (λ (line : Result Draft LineFault). Did (Err f) d line) (sym said) done)

pub add_cells-requires : goal.add_cells-requires
add_cells-requires c =
    let d = c.args.self.now in
    let old = c.args.program.now in
    let q = c.add_declared.new.program in
    let s_is : c.as_slice.result.now ≡ q.cells = c.as_slice.ensures in
    room_left (length d.cells.scalars) c.len-count.result c.as_slice.result.now
    (as_many_cells old d c.requires ∙ sym c.len-count.ensures)
    (subst (λ (n : ℕ). n ≤ 65536) (sym c.len-count.ensures) old.cell_limit)
    (subst (λ (cells : List Variable). length cells ≤ 65536) (sym s_is) q.cell_limit)

pub returns-clause-line : goal.returns-clause-line
returns-clause-line c =
    let d = c.args.self.now in
    let old = c.args.program.now in
    let q = c.add_declared.new.program in
    let declaration = c.in-Some.known.now.declaration in
    let free : is_taken_in d.cells declaration.name ≡ false = sym c.in_ok-is_taken.ensures ∙ c.if-branch.false in
    let said : declare_line (declared_in c.args.declared) d ≡ declare_line (Some declaration) d =
    ap (λ (o : Option (Bor SpelledDeclaration)). declare_line (declared_in o) d) c.in-Some.is in
    let cells = c.in_ok-add_declared.ensures.cells in
    let few : nat_lt 65536 (length d.cells.scalars + count_of declaration.lengths) ≡ false =
    ap (λ (n : ℕ). nat_lt 65536 (n + count_of declaration.lengths)) (as_many_cells old d c.requires) ∙ cells.0 in
    let more = added_cells old.cells q.cells c.as_slice.result.now
    (cells_of declaration) c.len-count.result c.as_slice.ensures c.len-count.ensures cells.1 in
    said
    ∙ says_more d declaration free few c.add_cells.new.self
    (c.in_ok-add_cells.ensures ∙ ap (λ (all : List Variable). with_cells all d.cells) more)

pub returns-clause-cells : goal.returns-clause-cells
returns-clause-cells c =
    let d = c.args.self.now in
    let old = c.args.program.now in
    let q = c.add_declared.new.program in
    let declaration = c.in-Some.known.now.declaration in
    let cells = c.in_ok-add_declared.ensures.cells in
    let more = added_cells old.cells q.cells c.as_slice.result.now
    (cells_of declaration) c.len-count.result c.as_slice.ensures c.len-count.ensures cells.1 in
    c.in_ok-add_cells.ensures
    ∙ (ap (λ (all : List Variable). with_cells all d.cells) more
    ∙ mirrors_more old q d (cells_of declaration) c.requires c.in_ok-add_declared.ensures.rest.objects cells.1)
