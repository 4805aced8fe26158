-- A group of a plan, and the calls that add its row to its log.
use Rattle.std.specs.List.{slice_index_or}
use Rattle.std.specs.Prelude.{ℕ, Bool, true, false, List, [], ◌∷◌}
use Rattle.trick_base.specs.Files.{Write, Append}
use Rattle.trick_model.specs.declared.group.Group.{Group}

-- a group that is none, for a number past the last one
abbrev pub no_group : Group
no_group = record { name = []; cycle = 1; changes = false; cells = [] }

-- the group of a number
abbrev pub group_at : List Group → ℕ → Group
group_at groups k = slice_index_or groups k no_group

-- the call that adds a text to a log, where it is to be added
abbrev pub added : List ℕ → Bool → List ℕ → List Write
added log true text = Append log text ∷ []
added log false text = []
