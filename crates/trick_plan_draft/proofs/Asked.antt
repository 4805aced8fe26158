-- What actions ask for, one after another.
use Rattle.std.proofs.Common.{◌++◌, List, Option, Some, None}
use Rattle.trick_model.specs.declared.deed.Deed.{Deed}

-- deeds, and those that are asked for after them
abbrev pub after : List Deed → Option (List Deed) → Option (List Deed)
after made None = None
after made (Some more) = Some (made ++ more)
