-- Files by name, and what calls write to them.
use Rattle.std.specs.Cmp.Lexicographic.{slice_cmp}
use Rattle.std.specs.FinMap.{FinMap, get, insert}
use Rattle.std.specs.Ordering.{nat_cmp}
use Rattle.std.specs.Prelude.{ℕ, List, [], ◌∷◌, ◌++◌, unwrap_or}

-- The bytes of each file, by its name.
abbrev pub Files : Type 0
Files = FinMap (slice_cmp nat_cmp) (List ℕ)

-- The bytes under a name; none where there is no such file.
abbrev pub bytes_at : Files → List ℕ → List ℕ
bytes_at files name = unwrap_or (get files name) []

-- One call that writes: an empty file in place of what was there, or bytes at a file's end.
pub data Write : Type 0 where
  Create : (name : List ℕ) → Write
  Append : (name bytes : List ℕ) → Write

-- The files after one call that is done. An append makes the file where there is none.
abbrev pub written : Write → Files → Files
written (Create name) files = insert files name []
written (Append name bytes) files = insert files name (bytes_at files name ++ bytes)

-- The files after calls that are done, the first of them first.
abbrev pub all_written : List Write → Files → Files
all_written [] files = files
all_written (write ∷ writes) files = all_written writes (written write files)
