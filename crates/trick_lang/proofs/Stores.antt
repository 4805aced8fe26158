-- A run keeps what each store keeps.
use Rattle.std.proofs.Common.{◌≡◌, ◌≢◌, ℕ, zero, suc, ◌+◌, ◌<◌, ◌≤◌, ℤ, pos, Bool, true, false, ◌==◌, nat_lt, if◌then◌else◌, IsTrue, List, [], ◌∷◌, length, replicate, slice_set, Option, Some, None, Result, Ok, refl, sym, subst, ◌∙◌, arith, get_or-set_other, get_or-set_same}
use Rattle.std.proofs.lemmas.Bool.Decides.{nat_tests}
use Rattle.std.proofs.lemmas.Bool.{ltb-true}
use Rattle.std.proofs.lemmas.List.{get_or_past, length-set, length-replicate}
use Rattle.std.specs.List.{slice_index_or}
use Rattle.trick_base.proofs.Truths.{first_holds, second_holds}
use Rattle.trick_lang.proofs.Frame.{body_stays}
use Rattle.trick_lang.proofs.Places.{cell_is}
use Rattle.trick_lang.proofs.Tests.{in_left, in_right, went, went_line, ok_same}
use Rattle.trick_lang.proofs.WrapLaw.{wrap_twice}
use Rattle.trick_lang.specs.Access.{is_in, range_of, code_writes, branch_writes, all_writes, block_writes}
use Rattle.trick_lang.proofs.Alike.{setting, runs_is, writes_is}
use Rattle.trick_lang.proofs.Blocks.{below, block_before, from_earlier}
use Rattle.trick_lang.specs.Effect.{effect, ran, writes, scalars_of, base_of, body_of, begun}
use Rattle.trick_lang.specs.Laws.{WritesOnly, StoresInRange, StoresByCell}
use Rattle.trick_lang.specs.Numbers.{and_then, is_true}
use Rattle.trick_lang.specs.Blocks.{block_at}
use Rattle.trick_lang.specs.Run.{State, Setting, sight, changed, assigned, turn, turns, turn_count, with_local, with_stored, run, run_branch, run_all, block_runs}
use Rattle.trick_lang.specs.TreeOf.{codes_of}
use Rattle.trick_lang.specs.Tree.{Spot, Change, Code, Empty, Declare, SetLocal, Assign, If, For, Run, Branches, NoElse, Else, Test}
use Rattle.trick_lang.specs.Passes.{place_passes, code_passes, all_pass, code_blocks, branch_blocks, all_blocks}
use Rattle.trick_lang.specs.Valid.{span_test, stay_in_span, are_in_order}
use Rattle.trick_lang.specs.Value.{value, cell_of}
use Rattle.trick_lang.specs.Wrap.{wrap, scalar_at, IsInRange}
use Rattle.trick_lang.specs.declared.fault.FaultKind.{FaultKind}
use Rattle.trick_lang.specs.declared.fault.StatementFault.{StatementFault}
use Rattle.trick_lang.specs.declared.job.JobId.{JobId}
use Rattle.trick_lang.specs.declared.program.Program.{Program}
use Rattle.trick_lang.specs.declared.range.CellRange.{CellRange}
use Rattle.trick_lang.specs.declared.scalar.Scalar.{Scalar}

abbrev Covers : List CellRange → List CellRange → Type 0
Covers ws rs = (c : ℕ) → IsTrue (is_in rs c) → IsTrue (is_in ws c)

-- K is kept where a number, wrapped to its cell's type, is stored to a cell of the ranges
abbrev KeptByStores : (List (Option ℤ) → Type 0) → List CellRange → List Scalar → Type 0
KeptByStores K ws scalars = (xs : List (Option ℤ)) (c : ℕ) (n : ℤ) → IsTrue (is_in ws c) → K xs → K (slice_set xs c (Some (wrap (scalar_at scalars c) n)))

turns_keep : (K : List (Option ℤ) → Type 0) (f : ℕ → State → Result State StatementFault) (k n : ℕ) (s t : State) → ((j : ℕ) (s t : State) → f j s ≡ Ok t → K s.stored → K t.stored) → turns f k n s ≡ Ok t → K s.stored → K t.stored
turns_keep K f k zero s t each h old = subst (λ (u : State). K u.stored) (ok_same s t h) old
turns_keep K f k (suc n) s t each h old =
    let step = went (f k s) (turns f (k + 1) n) t h in
    turns_keep K f (k + 1) n step.0 t each step.2 (each k s step.0 step.1 old)

if_keeps : (K : List (Option ℤ) → Type 0) (b : Bool) (r q : Result State StatementFault) (t : State) → (if b then r else q) ≡ Ok t → (r ≡ Ok t → K t.stored) → (q ≡ Ok t → K t.stored) → K t.stored
if_keeps K true r q t h f g = f h
if_keeps K false r q t h f g = g h

module _ (K : List (Option ℤ) → Type 0) (ws : List CellRange) (x : Setting) (stores : KeptByStores K ws x.scalars) (blocks : ℕ → List CellRange) (top : ℕ)
    (blocks_keep : (k : ℕ) → k < top → (s t : State) → Covers ws (blocks k) → x.blocks k s ≡ Ok t → K s.stored → K t.stored) where
  assigned_in : (p : Spot) (change : Change) (s : State) (w : ℕ × ℤ) → IsTrue (place_passes span_test p) → assigned p change (sight x s) ≡ Ok w → IsTrue (is_in (range_of p x.base ∷ []) w.0)
  assigned_in p change s w fit h =
      let first = went (cell_of p (sight x s)) (λ c. and_then (changed change ((sight x s).cell c) (sight x s)) (λ n. (let r : Result (ℕ × ℤ) FaultKind = Ok (c, n) in r))) w h in
      let second = went (changed change ((sight x s).cell first.0) (sight x s)) (λ n. (let r : Result (ℕ × ℤ) FaultKind = Ok (first.0, n) in r)) w first.2 in
      let pair : ◌≡◌ {A = ℕ × ℤ} (first.0, second.0) w = ok_same _ _ second.2 in
      subst (λ (q : ℕ × ℤ). IsTrue (is_in (range_of p x.base ∷ []) q.0)) pair
      (cell_is p (sight x s) [] first.0 fit first.1)

  local_keeps : (line slot : ℕ) (scalar : Scalar) (r : Result ℤ FaultKind) (s t : State) → Rattle.trick_lang.specs.Run.at_line line r (λ n. (let q : Result State StatementFault = Ok (with_local s slot (wrap scalar n)) in q)) ≡ Ok t → K s.stored → K t.stored
  local_keeps line slot scalar r s t h old =
      let w = went_line line r (λ n. (let q : Result State StatementFault = Ok (with_local s slot (wrap scalar n)) in q)) t h in
      subst (λ (u : State). K u.stored) (ok_same (with_local s slot (wrap scalar w.0)) t w.2) old

  run_branch_keeps : (b : Branches) (s t : State) → IsTrue (branch_blocks (below top) b) → Covers ws (branch_writes b blocks) → run_branch b x s ≡ Ok t → K s.stored → K t.stored
  run_branch_keeps NoElse s t ok in_ws h old = subst (λ (u : State). K u.stored) (ok_same s t h) old
  run_branch_keeps (Else k) s t ok in_ws h old = blocks_keep k (ltb-true k top ok) s t in_ws h old
  run_branch_keeps (Test line test k rest) s t ok in_ws h old =
      let w = went_line line (value test (sight x s)) (λ n. if is_true n then x.blocks k s else run_branch rest x s) t h in
      if_keeps K (is_true w.0) (x.blocks k s) (run_branch rest x s) t w.2
      (λ is. blocks_keep k (ltb-true k top (first_holds _ _ ok)) s t (λ c i. in_ws c (in_left (blocks k) _ c i)) is old)
      (λ is. run_branch_keeps rest s t (second_holds (below top k) _ ok) (λ c i. in_ws c (in_right (blocks k) _ c i)) is old)

  run_keeps : (b : Code) (s t : State) → IsTrue (code_passes span_test b) → IsTrue (code_blocks (below top) b) → Covers ws (code_writes b x.base blocks) → run b x s ≡ Ok t → K s.stored → K t.stored
  run_keeps Empty s t fit ok in_ws h old = subst (λ (u : State). K u.stored) (ok_same s t h) old
  run_keeps (Declare line slot scalar e) s t fit ok in_ws h old = local_keeps line slot scalar _ (with_local s slot (pos 0)) t h old
  run_keeps (SetLocal line slot scalar change) s t fit ok in_ws h old = local_keeps line slot scalar _ s t h old
  run_keeps (Assign line place change) s t fit ok in_ws h old =
      let w = went_line line (assigned place change (sight x s)) (λ w. (let r : Result State StatementFault = Ok (with_stored s w.0 (wrap (scalar_at x.scalars w.0) w.1)) in r)) t h in
      subst (λ (u : State). K u.stored) (ok_same (with_stored s (w.0).0 (wrap (scalar_at x.scalars (w.0).0) (w.0).1)) t w.2)
      (stores s.stored (w.0).0 (w.0).1 (in_ws (w.0).0 (assigned_in place change s w.0 (first_holds _ _ fit) w.1)) old)
  run_keeps (If branches) s t fit ok in_ws h old = run_branch_keeps branches s t ok in_ws h old
  run_keeps (For slot from bound k) s t fit ok in_ws h old =
      turns_keep K (turn x slot k) from (turn_count from bound) s t (λ j u v is kept. blocks_keep k (ltb-true k top ok) (with_local u slot (pos j)) v in_ws is kept) h old
  run_keeps (Run k) s t fit ok in_ws h old = blocks_keep k (ltb-true k top ok) s t in_ws h old

  run_all_keeps : (all : List Code) (s t : State) → IsTrue (all_pass span_test all) → IsTrue (all_blocks (below top) all) → Covers ws (all_writes all x.base blocks) → run_all all x s ≡ Ok t → K s.stored → K t.stored
  run_all_keeps [] s t fit ok in_ws h old = subst (λ (u : State). K u.stored) (ok_same s t h) old
  run_all_keeps (first ∷ rest) s t fit ok in_ws h old =
      let w = went (run first x s) (λ u. run_all rest x u) t h in
      run_all_keeps rest w.0 t (second_holds (code_passes span_test first) _ fit) (second_holds (code_blocks (below top) first) _ ok) (λ c i. in_ws c (in_right (code_writes first x.base blocks) _ c i)) w.2
      (run_keeps first s w.0 (first_holds _ _ fit) (first_holds _ _ ok) (λ c i. in_ws c (in_left (code_writes first x.base blocks) _ c i)) w.1 old)

runs_keep : (K : List (Option ℤ) → Type 0) (scalars : List Scalar) (bs : List (List Code)) (ws : List CellRange) → KeptByStores K ws scalars → (base : ℕ) (m : ℕ → ℤ) → IsTrue (stay_in_span bs) → IsTrue (are_in_order 0 bs) → (k : ℕ) (s t : State) → Covers ws (block_writes base bs k) → block_runs scalars base m bs k s ≡ Ok t → K s.stored → K t.stored
runs_keep K scalars bs ws stores base m fit ok =
    from_earlier (λ k. (s t : State) → Covers ws (block_writes base bs k) → block_runs scalars base m bs k s ≡ Ok t → K s.stored → K t.stored)
    (λ k earlier s t in_ws h old.
    let in_ws' : Covers ws (all_writes (block_at bs k) base (block_writes base bs)) = subst (λ rs. Covers ws rs) (writes_is base bs ok k) in_ws in
    run_all_keeps K ws (setting scalars base m (block_runs scalars base m bs)) stores (block_writes base bs) k earlier (block_at bs k) s t (body_stays bs k fit) (block_before bs k ok) in_ws' (sym (runs_is scalars base m bs ok k s) ∙ h) old)

-- an effect is what stores to the writes keep
effect_keeps : (K : List (Option ℤ) → Type 0) (p : Program) (job : JobId) (m : List ℤ) (stored : List (Option ℤ)) → KeptByStores K (writes p job) (scalars_of p.cells) → K (replicate (length p.cells) None) → effect p job m ≡ Ok stored → K stored
effect_keeps K p job m stored stores none h =
    let w = went (ran p (base_of p job) (body_of p job) m (begun p)) (λ s. (let r : Result (List (Option ℤ)) StatementFault = Ok s.stored in r)) stored h in
    subst K (ok_same (w.0).stored stored w.2)
    (runs_keep K (scalars_of p.cells) (codes_of p.blocks) (writes p job) stores (base_of p job) (λ c. slice_index_or m c (pos 0)) p.in_span p.in_order (body_of p job) (begun p) w.0 (λ c i. i) w.1 none)

-- ---- each cell with a number has a property

none_at : (k c : ℕ) (n : ℤ) → slice_index_or (replicate k None) c None ≡ Some n → ⊥
none_at zero c n h = cc
none_at (suc k) zero n h = cc
none_at (suc k) (suc c) n h = none_at k c n h

-- each number of the list has a property with its cell
abbrev Each : (ℕ → ℤ → Type 0) → List (Option ℤ) → Type 0
Each P xs = (c : ℕ) (n : ℤ) → slice_index_or xs c None ≡ Some n → P c n

-- one more number that has it
Each-set : (P : ℕ → ℤ → Type 0) (xs : List (Option ℤ)) (c : ℕ) (v : ℤ) → P c v → Each P xs → Each P (slice_set xs c (Some v))
Each-set P xs c v new old d n h = go (d == c) refl
  where
    by_bound : (b : Bool) → nat_lt c (length xs) ≡ b → slice_index_or (slice_set xs c (Some v)) c None ≡ Some n → P c n
    by_bound true lt is =
        let here : c < length xs = ltb-true c (length xs) lt in
        let put : ◌≡◌ {A = Option ℤ} (Some v) (Some n) = sym (get_or-set_same xs c (Some v) None here) ∙ is in
        let same : v ≡ n = cc in
        subst (P c) same new
    by_bound false lt is =
        let past : length xs ≤ c = grind (arith, nat_tests) in
        let none : slice_index_or (slice_set xs c (Some v)) c None ≡ None = get_or_past (slice_set xs c (Some v)) c None (omega (arith, length-set xs c (Some v))) in
        cc

    go : (b : Bool) → (d == c) ≡ b → P d n
    go true e =
        let same : d ≡ c = grind (arith, nat_tests) in
        subst (λ q. P q n) (sym same) (by_bound (nat_lt c (length xs)) refl (subst (λ q. slice_index_or (slice_set xs c (Some v)) q None ≡ Some n) same h))
    go false e = let other : d ≢ c = grind (arith, nat_tests) in old d n (sym (get_or-set_other xs c d (Some v) None other) ∙ h)

-- ---- the laws

pub effect_in_writes : WritesOnly
effect_in_writes p job m stored c n h is =
    effect_keeps (Each (λ c n. IsTrue (is_in (writes p job) c))) p job m stored
    (λ xs c n i old. Each-set (λ c n. IsTrue (is_in (writes p job) c)) xs c (wrap (scalar_at (scalars_of p.cells) c) n) i old)
    (λ c n is. absurd (none_at (length p.cells) c n is)) h c n is

pub effect_in_range : StoresInRange
effect_in_range p job m stored c n h is =
    effect_keeps (Each (IsInRange (scalars_of p.cells))) p job m stored
    (λ xs c n i old. Each-set (IsInRange (scalars_of p.cells)) xs c (wrap (scalar_at (scalars_of p.cells) c) n) (wrap_twice (scalar_at (scalars_of p.cells) c) n) old)
    (λ c n is. absurd (none_at (length p.cells) c n is)) h c n is

pub effect_by_cell : StoresByCell
effect_by_cell p job m stored h =
    effect_keeps (λ xs. length xs ≡ length p.cells) p job m stored
    (λ xs c n i old. length-set xs c (Some (wrap (scalar_at (scalars_of p.cells) c) n)) ∙ old)
    (length-replicate (length p.cells) None) h
