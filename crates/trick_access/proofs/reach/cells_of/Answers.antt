use Rattle.std.proofs.Common.{◌≡◌, ◌||◌, None, Result, Ok, Err, IfOk, length, ap, ap₂, sym, subst, ◌∙◌, arith}
use Rattle.std.proofs.Math.Bool.{or-false}
use Rattle.std.proofs.lemmas.List.{length-replicate}
use Rattle.trick_access.proofs.Ends.{none_reached}
use Rattle.trick_access.proofs.There.{body_there, cells_there}
use Rattle.trick_access.proofs.Spans.{are_cells}
use Rattle.trick_access.proofs.reach.cells_of.Goals as goal
use Rattle.trick_access.specs.Ranges.{AreCellsOf}
use Rattle.trick_lang.specs.Access.{is_in}
use Rattle.trick_lang.specs.Effect.{base_of, body_of}
use Rattle.trick_access.specs.Reached.{block_cells, is_reached, spans}
use Rattle.trick_lang.specs.TreeOf.{codes_of}

if_ok : {A E : Type 0} (r : Result A E) (x : A) (P : A → Type 0) → IfOk r (λ v. v ≡ x) → P x → IfOk r P
if_ok (Ok v) x P is h = subst P (sym is) h
if_ok (Err e) x P is h = tt

pub note_reached-requires-clause-block : goal.note_reached-requires-clause-block
note_reached-requires-clause-block c = omega (arith, c.body-block.ensures, body_there c.args.program.now c.args.job c.requires)

pub returns : goal.returns
returns c =
    let p = c.args.program.now in
    let job = c.args.job in
    let way = c.args.way in
    let codes = codes_of p.blocks in
    let given = block_cells way (base_of p job) codes (body_of p job) in
    let ends = c.note_reached.new.ends in
    let cells = length p.cells in
    let begun : length c.in_ok-ends.ends ≡ cells = ap length c.in_ok-ends.ensures ∙ length-replicate c.len.result 0 ∙ c.len.ensures in
    let long : length ends ≡ cells = c.note_reached.ensures.length ∙ begun in
    if_ok c.into_ranges.result (spans (is_reached ends) 0 (length ends) None) (AreCellsOf cells given) c.into_ranges.ensures
    (subst (λ n. AreCellsOf cells given (spans (is_reached ends) 0 n None)) (sym long)
    (are_cells cells given ends long (cells_there way p job c.requires)
    (λ q h.
    c.note_reached.ensures.reached q (omega (arith, h, begun))
    ∙ ap₂ (λ s t. s || t)
    (ap₂ (λ b k. is_in (block_cells way b codes k) q) c.base-base.ensures c.body-block.ensures)
    (ap (λ e. is_reached e q) c.in_ok-ends.ensures ∙ none_reached c.len.result q)
    ∙ or-false (is_in given q))))
