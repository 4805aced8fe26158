use Rattle.trick_top.proofs.ServeLemmas.{not_read, went_on}
use Rattle.trick_top.proofs.texts.serve_command.Goals as goal

pub returns-in-Ok : goal.returns-in-Ok
returns-in-Ok g c =
    went_on c.args.about.now _ _ _ _ _ _ _ c.in-Ok.ensures.found c.in-Ok.ensures.named c.serve_contents.ensures

pub returns-in-Err : goal.returns-in-Err
returns-in-Err g c =
    not_read c.args.about.now _ _ _ _ _ _ _ _ c.not_begun.ensures.door c.not_begun.ensures.spawner c.not_begun.ensures.told
    c.in-Err.ensures.not_found
