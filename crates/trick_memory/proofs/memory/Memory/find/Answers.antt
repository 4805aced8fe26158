use Rattle.std.proofs.Common.{rules, ◌≡◌, ◌∙◌, ◌<◌, ◌^◌, ap, sym, subst, ℕ, List, Some, arith}
use Rattle.std.proofs.lemmas.Slice.Eq.{bytes_eq-Decides}
use Rattle.trick_memory.proofs.Found.{found_is, found_there}
use Rattle.trick_memory.proofs.memory.Memory.find.Goals as goal
use Rattle.trick_memory.specs.Stored.{Stored}
use Rattle.trick_model.specs.Names.{find_name}
use Rattle.trick_model.specs.Valid.{cell_names}

pub overflow_cast-cell : goal.overflow_cast-cell
overflow_cast-cell c =
    let found : find_name c.args.name.now c.self.inside.names ≡ Some c.in_ok-find.field-0 = sym c.find.ensures ∙ c.in_ok-find.was in
    let there = found_there c.args.name.now c.self.inside.names c.in_ok-find.field-0 found in
    let few : c.in_ok-find.field-0 < 2 ^ 32 = omega (arith, there, c.self.invariant.stored.named, c.self.invariant.stored.few) in
    search (rules, few)

pub returns-else-eq-clause-cell : goal.returns-else-eq-clause-cell
returns-else-eq-clause-cell c = λ same.
    let names = cell_names c.args.plan.now.program.cells in
    let held : c.self.inside.names ≡ names = ap (λ (s : Stored). s.names) c.self.view_is ∙ same in
    let found : find_name c.args.name.now names ≡ Some c.in_ok-find.field-0 = subst (λ (ns : List (List ℕ)). find_name c.args.name.now ns ≡ Some c.in_ok-find.field-0) held (sym c.find.ensures ∙ c.in_ok-find.was) in
    let is = c.name.ensures ∙ found_is c.args.name.now names c.in_ok-find.field-0 found in
    let equal = c.eq.ensures ∙ (bytes_eq-Decides c.name.result.now c.args.name.now).1 is in
    let no = sym equal ∙ c.if-eq.false in
    cc no
