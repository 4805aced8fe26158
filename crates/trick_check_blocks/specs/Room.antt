-- Places that lie where they may: in an object of the class, or in the memory.
use Rattle.std.specs.Prelude.{ℕ, ◌+◌, ◌≤◌, Bool, true, false, Option, Some, None}
use Rattle.trick_check_blocks.specs.declared.spot.Loose.{Loose}
use Rattle.trick_check_blocks.specs.declared.spot.Spot.{Spot}
use Rattle.trick_check_blocks.specs.declared.scope.ClassScope.{ClassScope}
use Rattle.trick_check_names.specs.Kept.{AreLaid}
use Rattle.trick_check_names.specs.Laid.{size_at, size_of, AreStrides}

-- how many cells there are from the one that a place is counted from
abbrev pub room : ClassScope → Bool → ℕ
room w true = size_at w.layout.sizes w.class
room w false = w.layout.cells

-- so many cells lie there, and after a computed index in their array
abbrev pub LieIn : ℕ → ℕ → ℕ → Option Loose → Type 0
LieIn limit n first None = first + n ≤ limit
LieIn limit n first (Some l) = (l.offset + n ≤ l.span) × (first + l.span ≤ limit)

abbrev pub Fits : ClassScope → Option Spot → Type 0
Fits w None = Unit {0}
Fits w (Some s) =
    LieIn (room w s.own) (size_of w.layout.sizes s.extent.dims s.extent.base) s.first s.loose
    × AreStrides w.layout.sizes s.extent.dims s.extent.base

-- the tables are right, and an object of the class has at most 65,536 cells
pub record IsLaid (w : ClassScope) : Type 0 where
  pub tables : AreLaid w.layout
  pub home : size_at w.layout.sizes w.class ≤ 65536
