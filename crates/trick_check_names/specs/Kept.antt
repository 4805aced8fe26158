-- What the tables of a file keep.
use Rattle.std.specs.Prelude.{ℕ, ◌≤◌}
use Rattle.trick_lang.specs.SyntaxTree.{Name}
use Rattle.trick_check_names.specs.Laid.{fields_at, size_at, LiesIn, LiesInMemory}
use Rattle.trick_check_names.specs.declared.layout.Layout.{Layout}
use Rattle.trick_check_names.specs.Names.{meaning_of}

pub record AreLaid (layout : Layout) : Type 0 where
  -- each variable lies in its struct or class
  pub members : (k : ℕ) (name : Name)
      → LiesIn layout.sizes (size_at layout.sizes k) (meaning_of name (fields_at layout.groups k))
  -- each object lies in the memory
  pub objects : (name : Name) → LiesInMemory layout.sizes layout.cells (meaning_of name layout.sites)
  -- there are at most 65,536 cells
  pub limit : layout.cells ≤ 65536
