-- The least of tics, over a tree of pairs. The leaves are the tics; node 1 is the root, and the
-- children of node i are 2 i and 2 i + 1.
use Rattle.std.specs.List.{slice_index_or}
use Rattle.std.specs.Prelude.{◌≡◌, ◌≢◌, ◌⊎◌, ℕ, ◌+◌, ◌-◌, ◌*◌, ◌^◌, ◌<◌, ◌≤◌, min, nat_lt, cond, List, length, Option, Some, None}

-- The tic of what is never due.
abbrev pub never : ℕ
never = 2 ^ 64 - 1

-- The number of a node: that of an inner one is kept, that of a leaf is its tic. There is none after
-- the last leaf.
abbrev pub low_of : List ℕ → List ℕ → ℕ → ℕ
low_of lows tics node =
    cond (nat_lt node (length lows)) (slice_index_or lows node 0) (slice_index_or tics (node - length lows) never)

-- A node has the less of its children's numbers.
abbrev pub IsRight : List ℕ → List ℕ → ℕ → Type 0
IsRight lows tics node = low_of lows tics node ≡ min (low_of lows tics (2 * node)) (low_of lows tics (2 * node + 1))

-- So it is with all inner nodes.
abbrev pub AreRight : List ℕ → List ℕ → Type 0
AreRight lows tics = (i : ℕ) → 1 ≤ i → i < length lows → IsRight lows tics i

-- So it is with all inner nodes but this one.
abbrev pub AreRightBut : List ℕ → List ℕ → ℕ → Type 0
AreRightBut lows tics node = (i : ℕ) → 1 ≤ i → i < length lows → i ≢ node → IsRight lows tics i

-- A power of two.
pub data IsPower : ℕ → Type 0 where
  one : IsPower 1
  twice : (n : ℕ) → IsPower n → IsPower (n + n)

-- The inner nodes are enough for the leaves, and of a number that lets all leaves stand in one row.
pub record IsShaped (lows tics : List ℕ) : Type 0 where
  pub power : IsPower (length lows)
  pub enough : length tics ≤ length lows
  pub small : length lows ≤ 2 ^ 32

-- A whole tree.
pub record IsTree (lows tics : List ℕ) : Type 0 where
  pub shaped : IsShaped lows tics
  pub right : AreRight lows tics

-- The least of the tics, and `never` where there is none before.
pub record IsLeast (tics : List ℕ) (least : ℕ) : Type 0 where
  pub below : (place : ℕ) → place < length tics → least ≤ slice_index_or tics place never
  pub there : (least ≡ never) ⊎ ((place : ℕ) × (place < length tics) × (slice_index_or tics place never ≡ least))

-- All places below this one have a later tic.
abbrev pub AreLater : List ℕ → ℕ → ℕ → Type 0
AreLater tics tic end = (place : ℕ) → place < end → tic < slice_index_or tics place never

-- The first place whose tic is not after this one.
pub record IsFirst (tics : List ℕ) (tic place : ℕ) : Type 0 where
  pub in_list : place < length tics
  pub here : slice_index_or tics place never ≤ tic
  pub before : AreLater tics tic place

-- The first place whose tic is not after this one, where there is one.
abbrev pub FindsFirst : List ℕ → ℕ → Option ℕ → Type 0
FindsFirst tics tic None = AreLater tics tic (length tics)
FindsFirst tics tic (Some place) = IsFirst tics tic place

-- The left child of a node where that is not later, and else the right one.
abbrev pub IsChild : List ℕ → List ℕ → ℕ → ℕ → ℕ → Type 0
IsChild lows tics tic node child =
    ((child ≡ 2 * node) × (low_of lows tics (2 * node) ≤ tic))
    ⊎ ((child ≡ 2 * node + 1) × (tic < low_of lows tics (2 * node)))
