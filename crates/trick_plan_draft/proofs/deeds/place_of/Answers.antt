use Rattle.std.proofs.Common.{◌≡◌, ◌∙◌, true, false, ap, sym}
use Rattle.std.specs.Str.{bytes_eq}
use Rattle.trick_plan_draft.proofs.Known.{next_place, this_place}
use Rattle.trick_plan_draft.proofs.deeds.place_of.Goals as goal
use Rattle.trick_lang.specs.SyntaxTree.{Name}

pub returns-then-eq : goal.returns-then-eq
returns-then-eq c =
    let name = c.args.name.now in
    let known = c.entry.result.0.now in
    let same : bytes_eq name known ≡ true =
    ap (λ (n : Name). bytes_eq n known) (sym c.as_slice.ensures) ∙ (sym c.eq.ensures ∙ c.if-eq.true) in
    this_place name c.args.names.now c.loop-place.place (known, c.entry.result.1) c.entry.ensures same
    ∙ c.loop-place.invariant

pub loop-place-preserved : goal.loop-place-preserved
loop-place-preserved c =
    let name = c.args.name.now in
    let known = c.entry.result.0.now in
    let other : bytes_eq name known ≡ false =
    ap (λ (n : Name). bytes_eq n known) (sym c.as_slice.ensures) ∙ (sym c.eq.ensures ∙ c.if-eq.false) in
    next_place name c.args.names.now c.loop-place.place (known, c.entry.result.1) c.entry.ensures other
    ∙ c.loop-place.invariant
