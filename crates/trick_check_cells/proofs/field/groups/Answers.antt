use Rattle.std.proofs.Common.{◌+◌, ◌∷◌, ◌++◌, [], ap, drop, sym, ◌∙◌, arith}
use Rattle.std.proofs.Math.ListN.{drop_of_length-le}
use Rattle.std.proofs.lemmas.List.{append-nil, append_assoc}
use Rattle.trick_base.proofs.ListLemmas.{next_item}
use Rattle.trick_check_cells.specs.Tables.{groups_from}
use Rattle.trick_check_cells.proofs.field.groups.Goals as goal

pub loop-number-preserved : goal.loop-number-preserved
loop-number-preserved c =
    let sizes = c.args.sizes.now in
    let gs = c.args.members.now in
    let k = c.loop-number.number in
    let g = c.index-members-number.result in
    let here = ap (groups_from sizes k) (next_item gs k g c.loop-number-test.true c.index-members-number.is) in
    let rest = groups_from sizes (k + 1) (drop (k + 1) gs) in
    ap (λ os. os ++ rest) c.in_ok-push.ensures.ok
    ∙ (append_assoc c.loop-number.groups (c.in_ok-fields.fields ∷ []) rest
    ∙ (ap (λ f. c.loop-number.groups ++ f ∷ rest) c.in_ok-fields.ensures ∙ (ap (λ os. c.loop-number.groups ++ os) (sym here) ∙ c.loop-number.invariant)))

pub returns : goal.returns
returns c =
    let none = ap (groups_from c.args.sizes.now c.loop-number.number) (drop_of_length-le c.args.members.now (omega arith)) in
    sym (append-nil c.loop-number.groups) ∙ (ap (λ os. c.loop-number.groups ++ os) (sym none) ∙ c.loop-number.invariant)
