-- The steps of jobs, by those of blocks.
use Rattle.std.proofs.Common.{◌≡◌, ℕ, zero, suc, ◌+◌, ◌<◌, ◌≤◌, List, [], ◌∷◌, ◌++◌, length, get_or, slice_get, Option, Some, None, Bool, true, false, nat_le, refl, ap, sym, ◌∙◌, subst, arith, ◌==◌, ◌≢◌, eq-eqb}
use Rattle.std.proofs.Math.ListN.{get_or-eq_default, length-append}
use Rattle.std.proofs.lemmas.Bool.{and_parts, eqb-true, le-leb, leb-true}
use Rattle.std.proofs.lemmas.Option.{get_or_from_slice_get, slice_get-get_or}
use Rattle.std.specs.List.{list_all}
use Rattle.trick_base.specs.Capped.{capped}
use Rattle.trick_check_blocks.proofs.Rows.{bodies_many, codes_are}
use Rattle.trick_check_blocks.specs.Held.{bodies_of}
use Rattle.trick_check_blocks.specs.Kept.{codes_in}
use Rattle.trick_check_bodies.specs.Classes.{Made, made}
use Rattle.trick_check_bodies.specs.declared.class.Bodies.{Bodies}
use Rattle.trick_check.specs.Refused.{AreShortJobs, IsFirstLong, IsLongJob, steps_by, steps_in}
use Rattle.trick_check.specs.Walk.{all_made, jobs_named}
use Rattle.trick_lang.specs.Blocks.{table}
use Rattle.trick_lang.specs.Count.{all_steps, block_steps}
use Rattle.trick_lang.specs.Names.{job_name}
use Rattle.trick_lang.specs.SyntaxTree.{Name, SDefine}
use Rattle.trick_lang.specs.Tree.{Code}
use Rattle.trick_lang.specs.TreeOf.{codes_of}
use Rattle.trick_lang.specs.Valid.{are_short, block_of, method_of}
use Rattle.trick_lang.specs.declared.job.Job.{Job}
use Rattle.trick_lang.specs.declared.method.Method.{Method}
use Rattle.trick_lang.specs.declared.object.Object.{Object}
use Rattle.trick_lang.specs.declared.tree.Block.{Block}
use Rattle.trick_check_steps.specs.Steps.{blocks_steps, count_at}

codes_many : (bs : List Block) → length (codes_of bs) ≡ length bs
codes_many [] = refl
codes_many (b ∷ bs) = ap suc (codes_many bs)

table_many : (bs : List (List Code)) (done : List ℕ) → length (table all_steps 0 bs done) ≡ length done + length bs
table_many [] done = omega arith
table_many (b ∷ bs) done =
    let next = all_steps b (λ k. get_or done k 0) in
    let more = table_many bs (done ++ next ∷ []) in
    let one : length (done ++ next ∷ []) ≡ length done + 1 = length-append done (next ∷ []) in
    omega (arith, more, one)

-- past the last block there are no steps
none_past : (bs : List (List Code)) (k : ℕ) → length bs ≤ k → block_steps bs k ≡ 0
none_past bs k h = get_or-eq_default (table all_steps 0 bs []) 0 (omega (arith, h, table_many bs []))

-- the steps of a method's block
pub steps_are : (blocks : List Block) (o : Option Method) → ((k : ℕ) → count_at (blocks_steps (codes_of blocks)) k ≡ capped (block_steps (codes_of blocks) k)) → steps_by (blocks_steps (codes_of blocks)) o ≡ capped (block_steps (codes_of blocks) (block_of (length blocks) o))
steps_are blocks None law =
    let none : block_steps (codes_of blocks) (length blocks) ≡ 0 = none_past (codes_of blocks) (length blocks) (omega (arith, codes_many blocks)) in
    omega (arith, none)
steps_are blocks (Some m) law = law m.block

pub small_steps : (n : ℕ) → capped n ≤ 1000000 → n ≤ 1000000
small_steps n h = omega (arith, h)

pub large_steps : (n : ℕ) → 1000000 < capped n → 1000000 < n
large_steps n h = omega (arith, h)

-- a test that each of a list passes
pub all_pass : {X : Type 0} (p : X → Bool) (xs : List X) → ((k : ℕ) (x : X) → k < length xs → slice_get xs k ≡ Some x → p x ≡ true) → list_all p xs ≡ true
all_pass p [] f = refl
all_pass p (x ∷ xs) f = rw (f 0 x (omega arith) refl) (all_pass p xs (λ k y low at. f (suc k) y (omega (arith, low)) at))

-- a method whose block is not there has no steps
pub none_there : (steps : List ℕ) (ms : List Method) (k : ℕ) (m : Method) → k < length ms → m ≡ get_or ms k m → length steps ≤ m.block → 0 ≡ steps_by steps (slice_get ms k)
none_there steps ms k m low is past =
    sym (ap (steps_by steps) (slice_get-get_or ms k m low ∙ ap (λ q. Some q) (sym is)) ∙ get_or-eq_default steps 0 past)

-- what is counted for a job
pub steps_known : (b : Bodies) (job : Job) (steps : List ℕ) (n : ℕ) → ((blocks : _) (k : _) → count_at (blocks_steps blocks) k ≡ capped (block_steps blocks k)) → steps ≡ blocks_steps (codes_of b.blocks.items) → n ≡ steps_by steps (method_of b.methods (Some job)) → n ≡ capped (steps_in (made b) job)
steps_known b job steps n law are is =
    let blocks = b.blocks.items in
    let o = method_of b.methods (Some job) in
    is ∙ (ap (λ q. steps_by q o) are ∙ (steps_are blocks o (law (codes_of blocks))
    ∙ (ap (λ q. capped (block_steps q (block_of (length blocks) o))) (sym (codes_are blocks))
    ∙ ap (λ q. capped (block_steps (codes_in (bodies_of blocks)) (block_of q o))) (sym (bodies_many blocks)))))

-- what is counted for the job of a number
pub counted : (b : Bodies) (jobs : List Job) (k : ℕ) (d : Job) (blocks : List Block) (all steps : List ℕ) (ms : List Method) (n : ℕ) → ((bs : _) (j : _) → count_at (blocks_steps bs) j ≡ capped (block_steps bs j)) → blocks ≡ b.blocks.items → all ≡ blocks_steps (codes_of blocks) → steps ≡ all → ms ≡ b.methods → n ≡ steps_by steps (method_of ms (Some (get_or jobs k d))) → (job : Job) → slice_get jobs k ≡ Some job → n ≡ capped (steps_in (made b) job)
counted b jobs k d blocks all steps ms n law blocks_are all_are steps_are_all ms_are is job here =
    let x = get_or jobs k d in
    let at : x ≡ job = get_or_from_slice_get jobs k job d here in
    steps_known b job all n law (all_are ∙ ap (λ q. blocks_steps (codes_of q)) blocks_are)
    (is ∙ (ap (λ q. steps_by q (method_of ms (Some x))) steps_are_all ∙ (ap (λ (q : List Method). steps_by all (method_of q (Some x))) ms_are ∙ ap (λ (q : Job). steps_by all (method_of b.methods (Some q))) at)))

lower : (k n : ℕ) → k < n + 1 → (k == n) ≡ false → k < n
lower k n less e = let other : k ≢ n = λ same. cc (sym (eq-eqb k n same) ∙ e) in omega (arith, less, other)

-- one job more that is short
pub next_short : (m : Made) (jobs : List Job) (n : ℕ) → ((k : ℕ) (job : Job) → k < n → slice_get jobs k ≡ Some job → steps_in m job ≤ 1000000) → ((job : Job) → slice_get jobs n ≡ Some job → steps_in m job ≤ 1000000) → (k : ℕ) (job : Job) → k < n + 1 → slice_get jobs k ≡ Some job → steps_in m job ≤ 1000000
next_short m jobs n before one k job less at = by (k == n) refl where
  by : (b : Bool) → (k == n) ≡ b → steps_in m job ≤ 1000000
  by true e = one job (subst (λ j. slice_get jobs j ≡ Some job) (eqb-true k n e) at)
  by false e = before k job (lower k n less e) at

-- all jobs are short
pub short_all : (b : Bodies) (jobs : List Job) → ((k : ℕ) (job : Job) → k < length jobs → slice_get jobs k ≡ Some job → steps_in (made b) job ≤ 1000000) → are_short b.blocks.items b.methods jobs ≡ true
short_all b jobs f =
    let blocks = b.blocks.items in
    all_pass (λ job. nat_le (block_steps (codes_of blocks) (block_of (length blocks) (method_of b.methods (Some job)))) 1000000) jobs
    (λ k job low at.
    let o = method_of b.methods (Some job) in
    let is : steps_in (made b) job ≡ block_steps (codes_of blocks) (block_of (length blocks) o) =
    ap (λ q. block_steps q (block_of (length (bodies_of blocks)) o)) (codes_are blocks) ∙ ap (λ q. block_steps (codes_of blocks) (block_of q o)) (bodies_many blocks) in
    le-leb (block_steps (codes_of blocks) (block_of (length blocks) o)) 1000000 (subst (λ n. n ≤ 1000000) is (f k job low at)))

each_passes : {X : Type 0} (p : X → Bool) (xs : List X) (k : ℕ) (x : X) → list_all p xs ≡ true → slice_get xs k ≡ Some x → p x ≡ true
each_passes p [] k x all at = absurd (cc at)
each_passes p (y ∷ ys) zero x all at = let same : y ≡ x = cc in subst (λ z. p z ≡ true) same (and_parts _ _ all).0
each_passes p (y ∷ ys) (suc k) x all at = each_passes p ys k x (and_parts _ _ all).1 at

-- and each is short where all are
short_each : (b : Bodies) (jobs : List Job) → are_short b.blocks.items b.methods jobs ≡ true → AreShortJobs (made b) jobs
short_each b jobs all k job at =
    let blocks = b.blocks.items in
    let o = method_of b.methods (Some job) in
    let is : steps_in (made b) job ≡ block_steps (codes_of blocks) (block_of (length blocks) o) =
    ap (λ q. block_steps q (block_of (length (bodies_of blocks)) o)) (codes_are blocks) ∙ ap (λ q. block_steps (codes_of blocks) (block_of q o)) (bodies_many blocks) in
    let short = leb-true (block_steps (codes_of blocks) (block_of (length blocks) o)) 1000000
    (each_passes (λ job. nat_le (block_steps (codes_of blocks) (block_of (length blocks) (method_of b.methods (Some job)))) 1000000) jobs k job all at) in
    subst (λ n. n ≤ 1000000) (sym is) short

-- the jobs of a file are short where those that are made are
pub short_jobs : (ds : SDefine) (b : Bodies) (jobs : List Job) → made b ≡ all_made ds → jobs ≡ jobs_named ds → are_short b.blocks.items b.methods jobs ≡ true → AreShortJobs (all_made ds) (jobs_named ds)
short_jobs ds b jobs is_made are_jobs all =
    subst (λ m. AreShortJobs m (jobs_named ds)) is_made (subst (λ (q : List Job). AreShortJobs (made b) q) are_jobs (short_each b jobs all))

-- the refusal of a long job
pub long_job_is : (m : Made) (objects : List Object) (jobs : List Job) (k : ℕ) (d : Job) (ms : List Method) (name : Name) → (k < length jobs) × ((job : Job) → slice_get jobs k ≡ Some job → IsFirstLong m jobs k job) → ms ≡ m.methods → name ≡ job_name objects ms (get_or jobs k d) → IsLongJob m objects jobs name (get_or jobs k d).instance
long_job_is m objects jobs k d ms name found are is = record {
  number = k;
  job = get_or jobs k d;
  first = found.1 (get_or jobs k d) (slice_get-get_or jobs k d found.0);
  name_is = is ∙ ap (λ (q : List Method). job_name objects q (get_or jobs k d)) are;
  instance_is = refl;
}
