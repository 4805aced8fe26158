use Rattle.std.proofs.Common.{◌∙◌, ap}
use Rattle.trick_check_names.proofs.Known.{finds, shown}
use Rattle.trick_check_names.proofs.names.Names.meaning.Goals as goal
use Rattle.trick_check_names.specs.Names.{meaning_of}

pub returns : goal.returns
returns g c =
    let entries = c.self.inside.table.entries in
    let asked = finds c.as_slice.result.now entries ∙ ap (λ q. meaning_of q (shown entries)) c.as_slice.ensures in
    c.copied.ensures ∙ (c.get.ensures.value ∙ (asked ∙ ap (meaning_of c.args.name.now) c.self.view_is))
