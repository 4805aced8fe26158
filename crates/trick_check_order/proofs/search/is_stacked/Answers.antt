use Rattle.std.proofs.Common.{◌<◌, false, length, ◌∙◌, arith}
use Rattle.std.proofs.lemmas.List.{get_or_read}
use Rattle.trick_check_order.proofs.search.is_stacked.Goals as goal

pub index-requires : goal.index-requires
index-requires c = omega (arith, c.requires.here, c.requires.keeps.stacked_size, c.args.search.now.stacked.ok.0)

pub returns : goal.returns
returns c =
    let low : c.args.method < length c.args.search.now.stacked.items = omega (arith, c.requires.here, c.requires.keeps.stacked_size) in
    get_or_read c.args.search.now.stacked.items _ _ low c.index.ensures false ∙ c.requires.keeps.stacked_is c.args.method
