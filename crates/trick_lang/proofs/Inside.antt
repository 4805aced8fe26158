-- What a job may read and write are cells of its program.
use Rattle.std.proofs.Common.{◌≡◌, ℕ, zero, suc, ◌+◌, ◌<◌, ◌≤◌, Bool, true, false, ◌&&◌, ◌||◌, nat_le, IsTrue, List, [], ◌∷◌, ◌++◌, length, slice_get, Option, Some, None, refl, ap, sym, subst, ◌∙◌, arith}
use Rattle.std.proofs.lemmas.Bool.Decides.{nat_tests}
use Rattle.std.proofs.lemmas.Bool.{ltb-true, or_left, or_right}
use Rattle.std.specs.List.{list_all}
use Rattle.trick_base.proofs.ListLemmas.{item_there}
use Rattle.trick_base.proofs.Truths.{first_holds, second_holds}
use Rattle.trick_lang.proofs.Alike.{reads_is, writes_is}
use Rattle.trick_lang.proofs.Blocks.{all_both, below, block_before, from_earlier}
use Rattle.trick_lang.proofs.Frame.{body_stays}
use Rattle.trick_lang.specs.Access.{is_in, term_reads, link_reads, choice_reads, range_of, index_reads, step_reads, change_reads, target_reads, first_reads, code_reads, branch_reads, all_reads, block_reads, code_writes, branch_writes, all_writes, block_writes}
use Rattle.trick_lang.specs.Blocks.{block_at}
use Rattle.trick_lang.specs.Effect.{base_of, body_of, first_of, object_of}
use Rattle.trick_lang.specs.Laws.{StaysInCells}
use Rattle.trick_lang.specs.Passes.{term_passes, link_passes, choice_passes, place_passes, step_passes, change_passes, first_passes, branch_passes, code_passes, all_pass, branch_blocks, code_blocks, all_blocks}
use Rattle.trick_lang.specs.Tree.{Term, Number, Local, Cell, Prefixed, Chain, Choose, Links, NoLink, Link, Choices, Last, Choice, Spot, spot, Steps, NoStep, Step, Change, Set, Update, Increase, Decrease, Code, Empty, Declare, SetLocal, Assign, If, For, Run, Branches, NoElse, Else, Test}
use Rattle.trick_lang.specs.TreeOf.{code_list, codes_of}
use Rattle.trick_lang.specs.Valid.{are_in_order, block_of, cells_test, class_at, has_class, is_in_span, is_of, job_stands, lie_in, lies_in, method_of, method_stands, object_stands, of_one_class, reach, run_own_class, size_of, span_test, stay_in_span}
use Rattle.trick_lang.specs.declared.job.Job.{Job}
use Rattle.trick_lang.specs.declared.job.JobId.{JobId}
use Rattle.trick_lang.specs.declared.method.Method.{Method}
use Rattle.trick_lang.specs.declared.object.Object.{Object}
use Rattle.trick_lang.specs.declared.program.Program.{Program}
use Rattle.trick_lang.specs.declared.range.CellRange.{CellRange}
use Rattle.trick_lang.specs.declared.tree.Block.{Block}

-- all cells of the ranges are below a number
abbrev Inside : ℕ → List CellRange → Type 0
Inside cells rs = (c : ℕ) → IsTrue (is_in rs c) → c < cells

nothing : (cells : ℕ) → Inside cells []
nothing cells c h = cc

joined_inside : (cells : ℕ) (xs ys : List CellRange) → Inside cells xs → Inside cells ys → Inside cells (xs ++ ys)
joined_inside cells [] ys h k c i = k c i
joined_inside cells (x ∷ xs) ys h k c i =
    go (nat_le (x.first).0 c && nat_le c (x.last).0) refl
    (joined_inside cells xs ys (λ d j. h d (or_right (nat_le (x.first).0 d && nat_le d (x.last).0) (is_in xs d) j)) k c) i
  where
    go : (b : Bool) → (nat_le (x.first).0 c && nat_le c (x.last).0) ≡ b → (IsTrue (is_in (xs ++ ys) c) → c < cells) → IsTrue (b || is_in (xs ++ ys) c) → c < cells
    go true e rest i = h c (or_left (nat_le (x.first).0 c && nat_le c (x.last).0) (is_in xs c) e)
    go false e rest i = rest i

in_only : (r : CellRange) (c : ℕ) → IsTrue (is_in (r ∷ []) c) → ((r.first).0 ≤ c) × (c ≤ (r.last).0)
in_only r c i = (grind (arith, nat_tests), grind (arith, nat_tests))

module _ (cells base size : ℕ) (room : base + size ≤ cells) where
  range_inside : (p : Spot) → IsTrue (place_passes span_test p) → IsTrue (place_passes (cells_test cells size) p) → Inside cells (range_of p base ∷ [])
  range_inside (spot true first span offset literals steps) fit lie c i =
      let some : offset + reach steps < span = ltb-true (offset + reach steps) span (first_holds _ (step_passes span_test steps) fit) in
      let within : first + span ≤ size = grind (arith, nat_tests, first_holds (nat_le (first + span) size) (step_passes (cells_test cells size) steps) lie) in
      let near = in_only (range_of (spot true first span offset literals steps) base) c i in
      omega arith
  range_inside (spot false first span offset literals steps) fit lie c i =
      let some : offset + reach steps < span = ltb-true (offset + reach steps) span (first_holds _ (step_passes span_test steps) fit) in
      let within : first + span ≤ cells = grind (arith, nat_tests, first_holds (nat_le (first + span) cells) (step_passes (cells_test cells size) steps) lie) in
      let near = in_only (range_of (spot false first span offset literals steps) base) c i in
      omega arith

  mutual
    term_inside : (e : Term) → IsTrue (term_passes span_test e) → IsTrue (term_passes (cells_test cells size) e) → Inside cells (term_reads e base)
    term_inside (Number n) fit lie = nothing cells
    term_inside (Local k) fit lie = nothing cells
    term_inside (Cell p) fit lie = joined_inside cells (range_of p base ∷ []) (index_reads p base) (range_inside p fit lie) (index_inside p fit lie)
    term_inside (Prefixed o e) fit lie = term_inside e fit lie
    term_inside (Chain e links) fit lie =
        joined_inside cells (term_reads e base) _ (term_inside e (first_holds _ _ fit) (first_holds _ _ lie))
        (link_inside links (second_holds (term_passes span_test e) _ fit) (second_holds (term_passes (cells_test cells size) e) _ lie))
    term_inside (Choose choices) fit lie = choice_inside choices fit lie

    link_inside : (links : Links) → IsTrue (link_passes span_test links) → IsTrue (link_passes (cells_test cells size) links) → Inside cells (link_reads links base)
    link_inside NoLink fit lie = nothing cells
    link_inside (Link o e rest) fit lie =
        joined_inside cells (term_reads e base) _ (term_inside e (first_holds _ _ fit) (first_holds _ _ lie))
        (link_inside rest (second_holds (term_passes span_test e) _ fit) (second_holds (term_passes (cells_test cells size) e) _ lie))

    choice_inside : (choices : Choices) → IsTrue (choice_passes span_test choices) → IsTrue (choice_passes (cells_test cells size) choices) → Inside cells (choice_reads choices base)
    choice_inside (Last e) fit lie = term_inside e fit lie
    choice_inside (Choice test e rest) fit lie =
        joined_inside cells (term_reads test base) _ (term_inside test (first_holds _ _ fit) (first_holds _ _ lie))
        (joined_inside cells (term_reads e base) _
        (term_inside e (first_holds _ _ (second_holds (term_passes span_test test) _ fit)) (first_holds _ _ (second_holds (term_passes (cells_test cells size) test) _ lie)))
        (choice_inside rest (second_holds (term_passes span_test e) _ (second_holds (term_passes span_test test) _ fit)) (second_holds (term_passes (cells_test cells size) e) _ (second_holds (term_passes (cells_test cells size) test) _ lie))))

    index_inside : (p : Spot) → IsTrue (place_passes span_test p) → IsTrue (place_passes (cells_test cells size) p) → Inside cells (index_reads p base)
    index_inside (spot own first span offset literals steps) fit lie =
        step_inside steps (second_holds (is_in_span (spot own first span offset literals steps)) _ fit) (second_holds (lies_in cells size (spot own first span offset literals steps)) _ lie)

    step_inside : (steps : Steps) → IsTrue (step_passes span_test steps) → IsTrue (step_passes (cells_test cells size) steps) → Inside cells (step_reads steps base)
    step_inside NoStep fit lie = nothing cells
    step_inside (Step len stride e rest) fit lie =
        joined_inside cells (term_reads e base) _ (term_inside e (first_holds _ _ fit) (first_holds _ _ lie))
        (step_inside rest (second_holds (term_passes span_test e) _ fit) (second_holds (term_passes (cells_test cells size) e) _ lie))

  first_inside : (e : Option Term) → IsTrue (first_passes span_test e) → IsTrue (first_passes (cells_test cells size) e) → Inside cells (first_reads e base)
  first_inside None fit lie = nothing cells
  first_inside (Some e) fit lie = term_inside e fit lie

  change_inside : (change : Change) → IsTrue (change_passes span_test change) → IsTrue (change_passes (cells_test cells size) change) → Inside cells (change_reads change base)
  change_inside (Set e) fit lie = term_inside e fit lie
  change_inside (Update o e) fit lie = term_inside e fit lie
  change_inside Increase fit lie = nothing cells
  change_inside Decrease fit lie = nothing cells

  target_inside : (p : Spot) (change : Change) → IsTrue (place_passes span_test p) → IsTrue (place_passes (cells_test cells size) p) → Inside cells (target_reads p change base)
  target_inside p (Set e) fit lie = nothing cells
  target_inside p (Update o e) fit lie = range_inside p fit lie
  target_inside p Increase fit lie = range_inside p fit lie
  target_inside p Decrease fit lie = range_inside p fit lie

  module _ (blocks : ℕ → List CellRange) (allowed : ℕ → Bool) (blocks_inside : (k : ℕ) → IsTrue (allowed k) → Inside cells (blocks k)) where
    branch_inside : (b : Branches) → IsTrue (branch_passes span_test b) → IsTrue (branch_passes (cells_test cells size) b) → IsTrue (branch_blocks allowed b) → Inside cells (branch_reads b base blocks)
    branch_inside NoElse fit lie own = nothing cells
    branch_inside (Else k) fit lie own = blocks_inside k own
    branch_inside (Test line test k rest) fit lie own =
        joined_inside cells (term_reads test base) _ (term_inside test (first_holds _ _ fit) (first_holds _ _ lie))
        (joined_inside cells (blocks k) _ (blocks_inside k (first_holds _ _ own))
        (branch_inside rest (second_holds (term_passes span_test test) _ fit) (second_holds (term_passes (cells_test cells size) test) _ lie) (second_holds (allowed k) _ own)))

    code_inside : (b : Code) → IsTrue (code_passes span_test b) → IsTrue (code_passes (cells_test cells size) b) → IsTrue (code_blocks allowed b) → Inside cells (code_reads b base blocks)
    code_inside Empty fit lie own = nothing cells
    code_inside (Declare line slot scalar e) fit lie own = first_inside e fit lie
    code_inside (SetLocal line slot scalar change) fit lie own = change_inside change fit lie
    code_inside (Assign line place change) fit lie own =
        joined_inside cells (index_reads place base) _ (index_inside place (first_holds _ _ fit) (first_holds _ _ lie))
        (joined_inside cells (target_reads place change base) _ (target_inside place change (first_holds _ _ fit) (first_holds _ _ lie))
        (change_inside change (second_holds (place_passes span_test place) _ fit) (second_holds (place_passes (cells_test cells size) place) _ lie)))
    code_inside (If branches) fit lie own = branch_inside branches fit lie own
    code_inside (For slot from bound k) fit lie own = blocks_inside k own
    code_inside (Run k) fit lie own = blocks_inside k own

    all_inside : (all : List Code) → IsTrue (all_pass span_test all) → IsTrue (all_pass (cells_test cells size) all) → IsTrue (all_blocks allowed all) → Inside cells (all_reads all base blocks)
    all_inside [] fit lie own = nothing cells
    all_inside (first ∷ rest) fit lie own =
        joined_inside cells (code_reads first base blocks) _ (code_inside first (first_holds _ _ fit) (first_holds _ _ lie) (first_holds _ _ own))
        (all_inside rest (second_holds (code_passes span_test first) _ fit) (second_holds (code_passes (cells_test cells size) first) _ lie) (second_holds (code_blocks allowed first) _ own))

    branch_writes_inside : (b : Branches) → IsTrue (branch_blocks allowed b) → Inside cells (branch_writes b blocks)
    branch_writes_inside NoElse own = nothing cells
    branch_writes_inside (Else k) own = blocks_inside k own
    branch_writes_inside (Test line test k rest) own =
        joined_inside cells (blocks k) _ (blocks_inside k (first_holds _ _ own)) (branch_writes_inside rest (second_holds (allowed k) _ own))

    code_writes_inside : (b : Code) → IsTrue (code_passes span_test b) → IsTrue (code_passes (cells_test cells size) b) → IsTrue (code_blocks allowed b) → Inside cells (code_writes b base blocks)
    code_writes_inside Empty fit lie own = nothing cells
    code_writes_inside (Declare line slot scalar e) fit lie own = nothing cells
    code_writes_inside (SetLocal line slot scalar change) fit lie own = nothing cells
    code_writes_inside (Assign line place change) fit lie own = range_inside place (first_holds _ _ fit) (first_holds _ _ lie)
    code_writes_inside (If branches) fit lie own = branch_writes_inside branches own
    code_writes_inside (For slot from bound k) fit lie own = blocks_inside k own
    code_writes_inside (Run k) fit lie own = blocks_inside k own

    all_writes_inside : (all : List Code) → IsTrue (all_pass span_test all) → IsTrue (all_pass (cells_test cells size) all) → IsTrue (all_blocks allowed all) → Inside cells (all_writes all base blocks)
    all_writes_inside [] fit lie own = nothing cells
    all_writes_inside (first ∷ rest) fit lie own =
        joined_inside cells (code_writes first base blocks) _ (code_writes_inside first (first_holds _ _ fit) (first_holds _ _ lie) (first_holds _ _ own))
        (all_writes_inside rest (second_holds (code_passes span_test first) _ fit) (second_holds (code_passes (cells_test cells size) first) _ lie) (second_holds (code_blocks allowed first) _ own))

-- ---- blocks

block_lies : (cells : ℕ) (sizes : List ℕ) (bs : List Block) (k class : ℕ) → class_at bs k ≡ Some class → IsTrue (lie_in cells sizes bs) → IsTrue (all_pass (cells_test cells (size_of sizes class)) (block_at (codes_of bs) k))
block_lies cells sizes [] k class is h = cc
block_lies cells sizes (b ∷ bs) zero class is h =
    let same : b.class ≡ class = cc in
    subst (λ c. IsTrue (all_pass (cells_test cells (size_of sizes c)) (code_list b.statements))) same (first_holds _ _ h)
block_lies cells sizes (b ∷ bs) (suc k) class is h =
    block_lies cells sizes bs k class is (second_holds (all_pass (cells_test cells (size_of sizes b.class)) (code_list b.statements)) _ h)

block_owns : (all bs : List Block) (k class : ℕ) → class_at bs k ≡ Some class → IsTrue (run_own_class all bs) → IsTrue (all_blocks (has_class all class) (block_at (codes_of bs) k))
block_owns all [] k class is h = cc
block_owns all (b ∷ bs) zero class is h =
    let same : b.class ≡ class = cc in
    subst (λ c. IsTrue (all_blocks (has_class all c) (code_list b.statements))) same (first_holds _ _ h)
block_owns all (b ∷ bs) (suc k) class is h = block_owns all bs k class is (second_holds (all_blocks (has_class all b.class) (code_list b.statements)) _ h)

class_is : (class : ℕ) (o : Option ℕ) → IsTrue (is_of class o) → o ≡ Some class
class_is class None h = cc
class_is class (Some other) h = let same : other ≡ class = grind (arith, nat_tests) in ap Some same

module _ (cells base : ℕ) (sizes : List ℕ) (bs : List Block) (fit : IsTrue (stay_in_span (codes_of bs))) (lie : IsTrue (lie_in cells sizes bs)) (order : IsTrue (are_in_order 0 (codes_of bs))) (own : IsTrue (run_own_class bs bs)) (class : ℕ) (room : base + size_of sizes class ≤ cells) where
  block_inside : (k : ℕ) → IsTrue (has_class bs class k) → Inside cells (block_reads base (codes_of bs) k)
  block_inside = from_earlier (λ k. IsTrue (has_class bs class k) → Inside cells (block_reads base (codes_of bs) k))
      (λ k earlier is.
      let here = class_is class (class_at bs k) is in
      subst (Inside cells) (sym (reads_is base (codes_of bs) order k))
      (all_inside cells base (size_of sizes class) room (block_reads base (codes_of bs)) (λ j. below k j && has_class bs class j)
      (λ j both. earlier j (ltb-true j k (first_holds _ _ both)) (second_holds (below k j) _ both))
      (block_at (codes_of bs) k) (body_stays (codes_of bs) k fit) (block_lies cells sizes bs k class here lie)
      (all_both (below k) (has_class bs class) (block_at (codes_of bs) k) (block_before (codes_of bs) k order) (block_owns bs bs k class here own))))

  block_writes_inside : (k : ℕ) → IsTrue (has_class bs class k) → Inside cells (block_writes base (codes_of bs) k)
  block_writes_inside = from_earlier (λ k. IsTrue (has_class bs class k) → Inside cells (block_writes base (codes_of bs) k))
      (λ k earlier is.
      let here = class_is class (class_at bs k) is in
      subst (Inside cells) (sym (writes_is base (codes_of bs) order k))
      (all_writes_inside cells base (size_of sizes class) room (block_writes base (codes_of bs)) (λ j. below k j && has_class bs class j)
      (λ j both. earlier j (ltb-true j k (first_holds _ _ both)) (second_holds (below k j) _ both))
      (block_at (codes_of bs) k) (body_stays (codes_of bs) k fit) (block_lies cells sizes bs k class here lie)
      (all_both (below k) (has_class bs class) (block_at (codes_of bs) k) (block_before (codes_of bs) k order) (block_owns bs bs k class here own))))

-- ---- jobs

-- what a test of all items says of one that is there
all_at : {X : Type 0} (p : X → Bool) (xs : List X) (k : ℕ) (x : X) → IsTrue (list_all p xs) → slice_get xs k ≡ Some x → IsTrue (p x)
all_at p [] k x h is = cc
all_at p (y ∷ ys) zero x h is = let same : y ≡ x = cc in subst (λ q. IsTrue (p q)) same (first_holds _ _ h)
all_at p (y ∷ ys) (suc k) x h is = all_at p ys k x (second_holds (p y) _ h) is

-- the class of a job: its object's cells are in the memory, and its block is of it
record IsPlaced (cells : ℕ) (sizes : List ℕ) (bs : List Block) (base body class : ℕ) : Type 0 where
  room : base + size_of sizes class ≤ cells
  own : IsTrue (has_class bs class body)

placed : (p : Program) (job : JobId) → job.0 < length p.jobs → (class : ℕ) × IsPlaced (length p.cells) p.sizes p.blocks (base_of p job) (body_of p job) class
placed p job h =
    let found = item_there p.jobs job.0 h in
    with_job found.0 found.1
  where
    with_parts : (j : Job) (o : Option Object) (m : Option Method) → slice_get p.jobs job.0 ≡ Some j → slice_get p.objects j.object ≡ o → slice_get p.methods j.method ≡ m → IsTrue (of_one_class o m) → (class : ℕ) × IsPlaced (length p.cells) p.sizes p.blocks (base_of p job) (body_of p job) class
    with_parts j None m is oi mi one = cc
    with_parts j (Some o) None is oi mi one = cc
    with_parts j (Some o) (Some m) is oi mi one =
        let same : o.class ≡ m.class = grind (arith, nat_tests) in
        let cells : IsTrue (object_stands (length p.cells) p.sizes o) = all_at (object_stands (length p.cells) p.sizes) p.objects j.object o p.object_cells oi in
        let block : IsTrue (method_stands p.blocks m) = all_at (method_stands p.blocks) p.methods j.method m p.method_blocks mi in
        let base : base_of p job ≡ o.first = ap (λ (q : Option Job). first_of (object_of p.objects q)) is ∙ ap first_of oi in
        let body : body_of p job ≡ m.block = ap (λ (q : Option Job). block_of (length p.blocks) (method_of p.methods q)) is ∙ ap (block_of (length p.blocks)) mi in
        let fits : o.first + size_of p.sizes o.class ≤ length p.cells = grind (arith, nat_tests) in (
          o.class,
          record {
            room = subst (λ b. b + size_of p.sizes o.class ≤ length p.cells) (sym base) fits;
            own = subst (λ b. IsTrue (has_class p.blocks o.class b)) (sym body) (subst (λ c. IsTrue (has_class p.blocks c m.block)) (sym same) block);
          },
        )

    with_job : (j : Job) → slice_get p.jobs job.0 ≡ Some j → (class : ℕ) × IsPlaced (length p.cells) p.sizes p.blocks (base_of p job) (body_of p job) class
    with_job j is = with_parts j (slice_get p.objects j.object) (slice_get p.methods j.method) is refl refl (all_at (job_stands p.objects p.methods) p.jobs job.0 j p.job_parts is)

pub stays_in_cells : StaysInCells
stays_in_cells = record {
  reads_there = λ p job c h. let at = placed p job h in block_inside (length p.cells) (base_of p job) p.sizes p.blocks p.in_span p.in_cells p.in_order p.own_class at.0 (at.1).room (body_of p job) (at.1).own c;
  writes_there = λ p job c h. let at = placed p job h in block_writes_inside (length p.cells) (base_of p job) p.sizes p.blocks p.in_span p.in_cells p.in_order p.own_class at.0 (at.1).room (body_of p job) (at.1).own c;
}
