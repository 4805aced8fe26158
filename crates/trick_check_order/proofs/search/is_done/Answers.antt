use Rattle.std.proofs.Common.{◌<◌, false, length, ◌∙◌, arith}
use Rattle.std.proofs.lemmas.List.{get_or_read}
use Rattle.trick_check_order.proofs.search.is_done.Goals as goal

pub index-requires : goal.index-requires
index-requires c = omega (arith, c.requires.here, c.requires.keeps.done_size, c.args.search.now.done.ok.0)

pub returns : goal.returns
returns c =
    let low : c.args.method < length c.args.search.now.done.items = omega (arith, c.requires.here, c.requires.keeps.done_size) in
    get_or_read c.args.search.now.done.items _ _ low c.index.ensures false ∙ c.requires.keeps.done_is c.args.method
