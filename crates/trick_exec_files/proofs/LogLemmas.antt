-- The logs of groups, one after the other.
use Rattle.std.proofs.Common.{◌≡◌, ℕ, ◌+◌, ◌<◌, List, ◌++◌, ap, drop, length}
use Rattle.std.proofs.lemmas.List.{drop_more}
use Rattle.std.specs.Prelude.{flat_map}
use Rattle.trick_base.specs.Files.{Write}
use Rattle.trick_model.specs.declared.group.Group.{Group}
use Rattle.trick_record.specs.Added.{group_at, no_group}

pub one_log : (log : Group → List Write) (k : ℕ) (groups : List Group) → k < length groups
    → flat_map log (drop k groups) ≡ log (group_at groups k) ++ flat_map log (drop (k + 1) groups)
one_log log k groups less = ap (flat_map log) (drop_more groups k no_group less)
