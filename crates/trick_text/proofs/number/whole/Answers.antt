use Rattle.std.proofs.Common.{◌-◌, ◌≤◌, drop, arith, ap, ◌∙◌}
use Rattle.std.proofs.lemmas.Bool.{some_since}
use Rattle.trick_text.specs.declared.piece.Piece.TheVariants.{Token}
use Rattle.trick_text.specs.Numbers.{whole_value, whole_limit}
use Rattle.trick_text.proofs.Fronts.{whole_is_small}
use Rattle.trick_text.proofs.number.whole.Goals as goal

pub unwrap-requires : goal.unwrap-requires
unwrap-requires c =
    let t = c.args.token.now in
    let is = c.requires.token.1.longest ∙ ap (λ kind. Token kind (t.end - t.start)) c.requires.kind in
    let small = whole_is_small c.requires.token.0 (drop t.start c.args.text.now) (t.end - t.start) is in
    let spelled : whole_value c.spelling.result.now ≤ whole_limit = rw c.spelling.ensures small in
    some_since _ _ _ c.whole_value.ensures.value (λ large. omega arith)
