use Rattle.std.proofs.Common.{◌≡◌, ◌∙◌, None, ap, refl}
use Rattle.trick_memory.proofs.Found.{goes_last, shown}
use Rattle.trick_memory.proofs.names.CellNames.push.Goals as goal
use Rattle.trick_model.specs.Names.{find_name}

pub returns : goal.returns
returns c =
    let keys = c.self.inside.set.keys in
    let key = c.into_vec-key.result in
    let is : key.items ≡ c.args.name.now = c.into_vec-key.ensures ∙ c.in_ok-try_clone.ensures in
    let new : find_name key.items (shown keys) ≡ None = rw (is, c.self.view_is) c.requires in
    ap shown c.in_ok-insert.ensures.keys ∙ (goes_last keys key new ∙ rw (is, c.self.view_is) refl)
