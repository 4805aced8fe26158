-- What is there of a job: its body, and its cells.
use Rattle.std.proofs.Common.{◌≡◌, ◌∙◌, ℕ, zero, suc, ◌<◌, Bool, IsTrue, List, [], ◌∷◌, length, get_or, slice_get, Option, Some, None, ap, sym, refl, subst, arith}
use Rattle.std.proofs.lemmas.Bool.Decides.{nat_tests}
use Rattle.std.specs.List.{list_all}
use Rattle.trick_access.specs.Reached.{block_cells}
use Rattle.trick_access.specs.declared.reach.way.Way.{Way}
use Rattle.trick_access.specs.declared.reach.way.Way.TheVariants.{Reads, Writes}
use Rattle.trick_base.proofs.ListLemmas.{item_there}
use Rattle.trick_base.proofs.Truths.{first_holds, second_holds}
use Rattle.trick_lang.proofs.Inside.{stays_in_cells}
use Rattle.trick_lang.specs.Access.{is_in}
use Rattle.trick_lang.specs.Blocks.{block_at}
use Rattle.trick_lang.specs.Effect.{base_of, body_of}
use Rattle.trick_lang.specs.TreeOf.{code_list, codes_of}
use Rattle.trick_lang.specs.Valid.{block_of, class_at, is_of, job_stands, method_of, method_stands, of_one_class}
use Rattle.trick_lang.specs.declared.job.Job.{Job}
use Rattle.trick_lang.specs.declared.job.JobId.{JobId}
use Rattle.trick_lang.specs.declared.method.Method.{Method}
use Rattle.trick_lang.specs.declared.object.Object.{Object}
use Rattle.trick_lang.specs.declared.program.Program.{Program}
use Rattle.trick_lang.specs.declared.tree.Block.{Block}

-- the statements of a block that is there
pub block_is : (bs : List Block) (k : ℕ) (item : Block) → k < length bs → item ≡ get_or bs k item → block_at (codes_of bs) k ≡ code_list item.statements
block_is [] k item h is = absurd (omega arith)
block_is (b ∷ bs) zero item h is = ap (λ (q : Block). code_list q.statements) (sym is)
block_is (b ∷ bs) (suc k) item h is = block_is bs k item (omega arith) is

-- what a test of all items says of one that is there
all_at : {X : Type 0} (p : X → Bool) (xs : List X) (k : ℕ) (x : X) → IsTrue (list_all p xs) → slice_get xs k ≡ Some x → IsTrue (p x)
all_at p [] k x h is = cc
all_at p (y ∷ ys) zero x h is = let same : y ≡ x = cc in subst (λ q. IsTrue (p q)) same (first_holds _ _ h)
all_at p (y ∷ ys) (suc k) x h is = all_at p ys k x (second_holds (p y) _ h) is

class_there : (bs : List Block) (k class : ℕ) → class_at bs k ≡ Some class → k < length bs
class_there [] k class h = cc
class_there (b ∷ bs) zero class h = omega arith
class_there (b ∷ bs) (suc k) class h = let less = class_there bs k class h in omega arith

class_is : (class : ℕ) (o : Option ℕ) → IsTrue (is_of class o) → o ≡ Some class
class_is class None h = cc
class_is class (Some other) h = let same : other ≡ class = grind (arith, nat_tests) in ap Some same

-- the block of a job is there
pub body_there : (p : Program) (job : JobId) → job.0 < length p.jobs → body_of p job < length p.blocks
body_there p job h =
    let found = item_there p.jobs job.0 h in
    with_job found.0 found.1
  where
    with_parts : (j : Job) (o : Option Object) (m : Option Method) → slice_get p.jobs job.0 ≡ Some j → slice_get p.methods j.method ≡ m
        → IsTrue (of_one_class o m) → body_of p job < length p.blocks
    with_parts j None m is mi one = cc
    with_parts j (Some o) None is mi one = cc
    with_parts j (Some o) (Some m) is mi one =
        let stands : IsTrue (method_stands p.blocks m) = all_at (method_stands p.blocks) p.methods j.method m p.method_blocks mi in
        let body : body_of p job ≡ m.block = ap (λ (q : Option Job). block_of (length p.blocks) (method_of p.methods q)) is ∙ ap (block_of (length p.blocks)) mi in
        subst (λ b. b < length p.blocks) (sym body) (class_there p.blocks m.block m.class (class_is m.class (class_at p.blocks m.block) stands))

    with_job : (j : Job) → slice_get p.jobs job.0 ≡ Some j → body_of p job < length p.blocks
    with_job j is = with_parts j (slice_get p.objects j.object) (slice_get p.methods j.method) is refl
        (all_at (job_stands p.objects p.methods) p.jobs job.0 j p.job_parts is)

pub cells_there : (way : Way) (p : Program) (job : JobId) → job.0 < length p.jobs → (c : ℕ) → IsTrue (is_in (block_cells way (base_of p job) (codes_of p.blocks) (body_of p job)) c) → c < length p.cells
cells_there Reads p job h c i = stays_in_cells.reads_there p job c h i
cells_there Writes p job h c i = stays_in_cells.writes_there p job c h i
