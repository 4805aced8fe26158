use Rattle.std.proofs.Common.{◌≡◌, ℕ, [], List, length, slice_index_or, subst, sym}
use Rattle.std.proofs.lemmas.Result.{IfOk-weaker}
use Rattle.trick_access.specs.Accesses.{writes_of}
use Rattle.trick_access.specs.Ranges.{AreCellsOf}
use Rattle.trick_access.specs.declared.cells.Access.{Access}
use Rattle.trick_lang.specs.Effect.{writes}
use Rattle.trick_lang.specs.declared.range.CellRange.{CellRange}
use Rattle.trick_post_trays.specs.Trays.{AreWrites}
use Rattle.trick_post_trays.proofs.lines.all_writes.Goals as goal

pub returns : goal.returns
returns c =
    let plan = c.args.accepted.now.plan in
    let p = plan.program in
    let given : List Access = c.accesses.result.now in
    let same : List (List CellRange) → Type 0 = λ all. (k : ℕ) → slice_index_or all k [] ≡ writes_of given k in
    let are : (all : List (List CellRange)) → same all → AreWrites plan all =
    λ all each k less. subst (AreCellsOf (length p.cells) (writes p (record { 0 = k }))) (sym (each k))
    (c.accesses.ensures.writes (record { 0 = k }) less) in
    IfOk-weaker c.writes_in.result same (AreWrites plan) are c.writes_in.ensures.each
