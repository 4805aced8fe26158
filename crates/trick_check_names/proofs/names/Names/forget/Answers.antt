use Rattle.std.proofs.Common.{◌∙◌, ap, take}
use Rattle.trick_check_names.proofs.Known.{shown, shown_first}
use Rattle.trick_check_names.proofs.names.Names.forget.Goals as goal

pub returns : goal.returns
returns g c = ap shown c.truncate.ensures.entries ∙ (shown_first c.args.mark _ ∙ ap (take c.args.mark) c.self.view_is)
