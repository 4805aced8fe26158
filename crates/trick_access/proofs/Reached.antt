-- One pass over the blocks, from one down, finds the cells of that block.
use Rattle.std.proofs.Common.{◌≡◌, ◌≢◌, ℕ, zero, suc, ◌<◌, ◌≤◌, ◌==◌, Bool, true, false, ◌&&◌, ◌||◌, nat_le, nat_lt, IsTrue, List, [], ◌∷◌, ◌++◌, length, replicate, slice_set, refl, ap, ap₂, sym, subst, ◌∙◌, arith, get_or-set_other, get_or-set_same}
use Rattle.std.proofs.Math.Bool.{or-false, or_assoc}
use Rattle.std.proofs.lemmas.Bool.Decides.{nat_tests}
use Rattle.std.proofs.lemmas.Bool.{and_from, ltb-true}
use Rattle.std.proofs.lemmas.List.{length-set, length-replicate}
use Rattle.std.specs.List.{slice_index_or}
use Rattle.trick_base.proofs.Truths.{first_holds, second_holds}
use Rattle.trick_lang.proofs.Alike.{reads_is, writes_is}
use Rattle.trick_lang.proofs.Blocks.{below, block_before}
use Rattle.trick_access.proofs.Ends.{or_swap}
use Rattle.trick_lang.specs.Access.{is_in, term_reads, branch_reads, branch_writes}
use Rattle.trick_lang.specs.Blocks.{block_at}
use Rattle.trick_lang.specs.Passes.{all_blocks, branch_blocks, code_blocks}
use Rattle.trick_access.specs.Reached.{all_cells, all_runs, any_in, block_cells, branch_runs, code_cells, code_runs, marked_in, no_cells, with_marks}
use Rattle.trick_lang.specs.Tree.{Code, Empty, Declare, SetLocal, Assign, If, For, Run, Branches, NoElse, Else, Test}
use Rattle.trick_lang.specs.Valid.{are_in_order}
use Rattle.trick_lang.specs.declared.range.CellRange.{CellRange}
use Rattle.trick_access.specs.declared.reach.way.Way.{Way}
use Rattle.trick_access.specs.declared.reach.way.Way.TheVariants.{Reads, Writes}

-- ---- the cells of statements, their own and those of the blocks that they run

or_middle : (a b c d : Bool) → ((a || b) || (c || d)) ≡ ((a || c) || (b || d))
or_middle true b c d = refl
or_middle false b c d = or_swap b c d

abbrev covers : CellRange → ℕ → Bool
covers r c = nat_le (r.first).0 c && nat_le c (r.last).0

in_both : (xs ys : List CellRange) (c : ℕ) → is_in (xs ++ ys) c ≡ (is_in xs c || is_in ys c)
in_both [] ys c = refl
in_both (x ∷ xs) ys c = ap (λ q. covers x c || q) (in_both xs ys c) ∙ sym (or_assoc (covers x c) (is_in xs c) (is_in ys c))

any_both : (ks js : List ℕ) (f : ℕ → List CellRange) (c : ℕ) → any_in (ks ++ js) f c ≡ (any_in ks f c || any_in js f c)
any_both [] js f c = refl
any_both (k ∷ ks) js f c = ap (λ q. is_in (f k) c || q) (any_both ks js f c) ∙ sym (or_assoc (is_in (f k) c) (any_in ks f c) (any_in js f c))

-- all cells of statements, from those of the first and those of the rest
pub all_next : (way : Way) (first : Code) (rest : List Code) (base : ℕ) (f : ℕ → List CellRange) → all_cells way (first ∷ rest) base f ≡ code_cells way first base f ++ all_cells way rest base f
all_next Reads first rest base f = refl
all_next Writes first rest base f = refl

all_nil : (way : Way) (base : ℕ) (f : ℕ → List CellRange) → all_cells way [] base f ≡ []
all_nil Reads base f = refl
all_nil Writes base f = refl

-- an `if` writes nothing but what its blocks write
pub no_writes : (b : Branches) → branch_writes b no_cells ≡ []
no_writes NoElse = refl
no_writes (Else k) = refl
no_writes (Test line test k rest) = no_writes rest

module _ (base : ℕ) (f : ℕ → List CellRange) (c : ℕ) where
  branch_split : (b : Branches) → is_in (branch_reads b base f) c ≡ (is_in (branch_reads b base no_cells) c || any_in (branch_runs b) f c)
  branch_split NoElse = refl
  branch_split (Else k) = sym (or-false (is_in (f k) c))
  branch_split (Test line test k rest) =
      in_both (term_reads test base) (f k ++ branch_reads rest base f) c
      ∙ ap (λ q. is_in (term_reads test base) c || q) (in_both (f k) (branch_reads rest base f) c ∙ ap (λ q. is_in (f k) c || q) (branch_split rest) ∙ or_swap (is_in (f k) c) (is_in (branch_reads rest base no_cells) c) (any_in (branch_runs rest) f c))
      ∙ sym (or_assoc (is_in (term_reads test base) c) (is_in (branch_reads rest base no_cells) c) (is_in (f k) c || any_in (branch_runs rest) f c))
      ∙ ap (λ q. q || (is_in (f k) c || any_in (branch_runs rest) f c)) (sym (in_both (term_reads test base) (branch_reads rest base no_cells) c))

  branch_writes_split : (b : Branches) → is_in (branch_writes b f) c ≡ (is_in (branch_writes b no_cells) c || any_in (branch_runs b) f c)
  branch_writes_split NoElse = refl
  branch_writes_split (Else k) = sym (or-false (is_in (f k) c))
  branch_writes_split (Test line test k rest) =
      in_both (f k) (branch_writes rest f) c
      ∙ ap (λ q. is_in (f k) c || q) (branch_writes_split rest)
      ∙ or_swap (is_in (f k) c) (is_in (branch_writes rest no_cells) c) (any_in (branch_runs rest) f c)

  code_split : (way : Way) (b : Code) → is_in (code_cells way b base f) c ≡ (is_in (code_cells way b base no_cells) c || any_in (code_runs b) f c)
  code_split Reads Empty = refl
  code_split Reads (Declare line slot scalar e) = sym (or-false _)
  code_split Reads (SetLocal line slot scalar change) = sym (or-false _)
  code_split Reads (Assign line place change) = sym (or-false _)
  code_split Reads (If branches) = branch_split branches
  code_split Reads (For slot from bound k) = sym (or-false (is_in (f k) c))
  code_split Reads (Run k) = sym (or-false (is_in (f k) c))
  code_split Writes Empty = refl
  code_split Writes (Declare line slot scalar e) = refl
  code_split Writes (SetLocal line slot scalar change) = refl
  code_split Writes (Assign line place change) = sym (or-false _)
  code_split Writes (If branches) = branch_writes_split branches
  code_split Writes (For slot from bound k) = sym (or-false (is_in (f k) c))
  code_split Writes (Run k) = sym (or-false (is_in (f k) c))

  -- a cell of statements is one of their own, or one of a block that they run
  all_split : (way : Way) (all : List Code) → is_in (all_cells way all base f) c ≡ (is_in (all_cells way all base no_cells) c || any_in (all_runs all) f c)
  all_split way [] = ap (λ q. is_in q c) (all_nil way base f) ∙ sym (ap (λ q. is_in q c || false) (all_nil way base no_cells))
  all_split way (first ∷ rest) =
      ap (λ q. is_in q c) (all_next way first rest base f)
      ∙ in_both (code_cells way first base f) (all_cells way rest base f) c
      ∙ ap₂ (λ q r. q || r) (code_split way first) (all_split way rest)
      ∙ or_middle (is_in (code_cells way first base no_cells) c) (any_in (code_runs first) f c) (is_in (all_cells way rest base no_cells) c) (any_in (all_runs rest) f c)
      ∙ ap₂ (λ q r. q || r) (sym (ap (λ q. is_in q c) (all_next way first rest base no_cells) ∙ in_both (code_cells way first base no_cells) (all_cells way rest base no_cells) c)) (sym (any_both (code_runs first) (all_runs rest) f c))

cells_is : (way : Way) (base : ℕ) (bs : List (List Code)) → IsTrue (are_in_order 0 bs) → (k : ℕ) → block_cells way base bs k ≡ all_cells way (block_at bs k) base (block_cells way base bs)
cells_is Reads base bs h k = reads_is base bs h k
cells_is Writes base bs h k = writes_is base bs h k

-- ---- marks

pub marks_both : (ks js : List ℕ) (marks : List Bool) → with_marks (ks ++ js) marks ≡ with_marks js (with_marks ks marks)
marks_both [] js marks = refl
marks_both (k ∷ ks) js marks = marks_both ks js (slice_set marks k true)

pub marks_length : (ks : List ℕ) (marks : List Bool) → length (with_marks ks marks) ≡ length marks
marks_length [] marks = refl
marks_length (k ∷ ks) marks = marks_length ks (slice_set marks k true) ∙ length-set marks k true

mark_other : (marks : List Bool) (i k : ℕ) → k ≢ i → slice_index_or (slice_set marks i true) k false ≡ slice_index_or marks k false
mark_other marks i k h = get_or-set_other marks i k true false h

mark_above : (n i : ℕ) (marks : List Bool) (f : ℕ → List CellRange) (c : ℕ) → n ≤ i → marked_in n (slice_set marks i true) f c ≡ marked_in n marks f c
mark_above zero i marks f c h = refl
mark_above (suc n) i marks f c h =
    let other : n ≢ i = grind (arith, nat_tests) in
    ap₂ (λ q r. (q && is_in (f n) c) || r) (mark_other marks i n other) (mark_above n i marks f c (omega arith))

absorbed : (m a b : Bool) → (a || b) ≡ (a || ((m && a) || b))
absorbed m true b = refl
absorbed true false b = refl
absorbed false false b = refl

mark_below : (n i : ℕ) (marks : List Bool) (f : ℕ → List CellRange) (c : ℕ) → i < n → i < length marks → marked_in n (slice_set marks i true) f c ≡ (is_in (f i) c || marked_in n marks f c)
mark_below zero i marks f c h long = absurd (omega arith)
mark_below (suc n) i marks f c h long = by_place (λ lt. mark_below n i marks f c lt long) (i == n) refl
  where
    here : i ≡ n → marked_in (suc n) (slice_set marks i true) f c ≡ (is_in (f i) c || marked_in (suc n) marks f c)
    here same =
        subst (λ q. marked_in (suc q) (slice_set marks i true) f c ≡ (is_in (f i) c || marked_in (suc q) marks f c)) same
        (ap₂ (λ q r. (q && is_in (f i) c) || r) (get_or-set_same marks i true false long) (mark_above i i marks f c (omega arith))
        ∙ absorbed (slice_index_or marks i false) (is_in (f i) c) (marked_in i marks f c))

    there : n ≢ i → marked_in n (slice_set marks i true) f c ≡ (is_in (f i) c || marked_in n marks f c) → marked_in (suc n) (slice_set marks i true) f c ≡ (is_in (f i) c || marked_in (suc n) marks f c)
    there other deeper =
        ap₂ (λ q r. (q && is_in (f n) c) || r) (mark_other marks i n other) deeper
        ∙ or_swap (slice_index_or marks n false && is_in (f n) c) (is_in (f i) c) (marked_in n marks f c)

    by_place : (i < n → marked_in n (slice_set marks i true) f c ≡ (is_in (f i) c || marked_in n marks f c)) → (b : Bool) → (i == n) ≡ b → marked_in (suc n) (slice_set marks i true) f c ≡ (is_in (f i) c || marked_in (suc n) marks f c)
    by_place deeper true e = here (grind (arith, nat_tests))
    by_place deeper false e = let apart : n ≢ i = grind (arith, nat_tests) in there apart (deeper (grind (arith, nat_tests)))

-- all of these are below a block
abbrev all_below : ℕ → List ℕ → Bool
all_below n [] = true
all_below n (k ∷ ks) = nat_lt k n && all_below n ks

marks_below : (n : ℕ) (ks : List ℕ) (marks : List Bool) (f : ℕ → List CellRange) (c : ℕ) → n ≤ length marks → IsTrue (all_below n ks) → marked_in n (with_marks ks marks) f c ≡ (any_in ks f c || marked_in n marks f c)
marks_below n [] marks f c long h = refl
marks_below n (k ∷ ks) marks f c long h =
    let less : k < n = ltb-true k n (first_holds _ _ h) in
    marks_below n ks (slice_set marks k true) f c (omega (arith, length-set marks k true)) (second_holds (nat_lt k n) _ h)
    ∙ ap (λ q. any_in ks f c || q) (mark_below n k marks f c less (omega arith))
    ∙ or_swap (any_in ks f c) (is_in (f k) c) (marked_in n marks f c)
    ∙ sym (or_assoc (is_in (f k) c) (any_in ks f c) (marked_in n marks f c))

below_both : (n : ℕ) (ks js : List ℕ) → IsTrue (all_below n ks) → IsTrue (all_below n js) → IsTrue (all_below n (ks ++ js))
below_both n [] js h k = k
below_both n (i ∷ ks) js h k = and_from (nat_lt i n) _ (first_holds _ _ h) (below_both n ks js (second_holds (nat_lt i n) _ h) k)

branch_below : (n : ℕ) (b : Branches) → IsTrue (branch_blocks (below n) b) → IsTrue (all_below n (branch_runs b))
branch_below n NoElse h = refl
branch_below n (Else k) h = and_from (nat_lt k n) true h refl
branch_below n (Test line test k rest) h = and_from (nat_lt k n) _ (first_holds _ _ h) (branch_below n rest (second_holds (below n k) _ h))

code_below : (n : ℕ) (b : Code) → IsTrue (code_blocks (below n) b) → IsTrue (all_below n (code_runs b))
code_below n Empty h = refl
code_below n (Declare line slot scalar e) h = refl
code_below n (SetLocal line slot scalar change) h = refl
code_below n (Assign line place change) h = refl
code_below n (If branches) h = branch_below n branches h
code_below n (For slot from bound k) h = and_from (nat_lt k n) true h refl
code_below n (Run k) h = and_from (nat_lt k n) true h refl

runs_below : (n : ℕ) (all : List Code) → IsTrue (all_blocks (below n) all) → IsTrue (all_below n (all_runs all))
runs_below n [] h = refl
runs_below n (first ∷ rest) h = below_both n (code_runs first) (all_runs rest) (code_below n first (first_holds _ _ h)) (runs_below n rest (second_holds (code_blocks (below n) first) _ h))

-- A step of the pass: a marked block gives the cells of its own, and marks the blocks that it runs.
-- `now` says whether the cell was found, and `whole` whether it is to be found.
pub pass_marked : (way : Way) (base n : ℕ) (bs : List (List Code)) (marks : List Bool) (c : ℕ) (now whole : Bool) → IsTrue (are_in_order 0 bs) → n ≤ length marks → slice_index_or marks n false ≡ true → (now || marked_in (suc n) marks (block_cells way base bs) c) ≡ whole → ((is_in (all_cells way (block_at bs n) base no_cells) c || now) || marked_in n (with_marks (all_runs (block_at bs n)) marks) (block_cells way base bs) c) ≡ whole
pass_marked way base n bs marks c now whole ok long is told =
    let f = block_cells way base bs in
    let all = block_at bs n in
    let own = is_in (all_cells way all base no_cells) c in
    let runs = any_in (all_runs all) f c in
    let rest = marked_in n marks f c in
    let split : is_in (f n) c ≡ (own || runs) = ap (λ q. is_in q c) (cells_is way base bs ok n) ∙ all_split base f c way all in
    ap (λ q. (own || now) || q) (marks_below n (all_runs all) marks f c long (runs_below n all (block_before bs n ok)))
    ∙ or_assoc own now (runs || rest)
    ∙ or_swap own now (runs || rest)
    ∙ ap (λ q. now || q) (sym (or_assoc own runs rest))
    ∙ ap (λ q. now || (q || rest)) (sym split)
    ∙ ap (λ q. now || ((q && is_in (f n) c) || rest)) (sym is)
    ∙ told

pub pass_other : (way : Way) (base n : ℕ) (bs : List (List Code)) (marks : List Bool) (c : ℕ) (now whole : Bool) → slice_index_or marks n false ≡ false → (now || marked_in (suc n) marks (block_cells way base bs) c) ≡ whole → (now || marked_in n marks (block_cells way base bs) c) ≡ whole
pass_other way base n bs marks c now whole is told =
    ap (λ q. now || ((q && is_in (block_cells way base bs n) c) || marked_in n marks (block_cells way base bs) c)) (sym is) ∙ told

no_mark : (m k : ℕ) → slice_index_or (replicate m false) k false ≡ false
no_mark zero k = refl
no_mark (suc m) zero = refl
no_mark (suc m) (suc k) = no_mark m k

none_marked : (n m : ℕ) (f : ℕ → List CellRange) (c : ℕ) → marked_in n (replicate m false) f c ≡ false
none_marked zero m f c = refl
none_marked (suc n) m f c = ap₂ (λ q r. (q && is_in (f n) c) || r) (no_mark m n) (none_marked n m f c)

-- the pass begins with the block alone marked
pub pass_begin : (f : ℕ → List CellRange) (k m c : ℕ) → k < m → marked_in (suc k) (slice_set (replicate m false) k true) f c ≡ is_in (f k) c
pass_begin f k m c h =
    mark_below (suc k) k (replicate m false) f c (omega arith) (omega (arith, length-replicate m false))
    ∙ ap (λ q. is_in (f k) c || q) (none_marked (suc k) m f c)
    ∙ or-false (is_in (f k) c)
