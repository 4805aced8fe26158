use Rattle.std.proofs.Common.{refl}
use Rattle.trick_top_alone.proofs.GoneLemmas.{gone_further, gone_unread}
use Rattle.trick_top_alone.proofs.alone.perform.Goals as goal

pub returns-in-Ok : goal.returns-in-Ok
returns-in-Ok g c =
    gone_further c.args.about.now _ _ _ g.met.F.Shelf.called_join c.in-Ok.ensures.named c.in-Ok.ensures.found refl
    c.go_on.ensures

pub returns-in-Err : goal.returns-in-Err
returns-in-Err g c = gone_unread c.args.about.now _ refl c.in-Err.ensures.not_found
