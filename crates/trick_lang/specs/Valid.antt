-- What a valid program keeps of its places, blocks, classes and jobs, as tests over its lists.
use Rattle.std.specs.List.{list_all, slice_index_or}
use Rattle.std.specs.Prelude.{ℕ, zero, suc, ◌+◌, ◌*◌, ◌-◌, ◌==◌, Bool, true, false, ◌&&◌, nat_lt, nat_le, List, [], ◌∷◌, length, slice_get, Option, Some, None}
use Rattle.trick_base.specs.Time.{tic_limit}
use Rattle.trick_lang.specs.Count.{block_steps}
use Rattle.trick_lang.specs.Passes.{Leaves, all_blocks, all_pass, branch_blocks}
use Rattle.trick_lang.specs.Tree.{Spot, spot, Steps, NoStep, Step, Code, Empty, Declare, SetLocal, Assign, If, For, Run}
use Rattle.trick_lang.specs.TreeOf.{code_list, codes_of}
use Rattle.trick_lang.specs.declared.class.Class.{Class}
use Rattle.trick_lang.specs.declared.class.Class.TheVariants.{DefaultData, Initialization, Scheduled, TopOfFrame, EndOfFrame, Freeze, Unfreeze, Checkpoint, Restart, Shutdown}
use Rattle.trick_lang.specs.declared.job.Job.{Job}
use Rattle.trick_lang.specs.declared.method.Method.{Method}
use Rattle.trick_lang.specs.declared.object.Object.{Object}
use Rattle.trick_lang.specs.declared.tree.Block.{Block}

-- ---- places

-- how far computed indexes can lead
abbrev pub reach : Steps → ℕ
reach NoStep = 0
reach (Step length stride e rest) = (length - 1) * stride + reach rest

-- wherever its indexes lead, the place stays in its span
abbrev pub is_in_span : Spot → Bool
is_in_span (spot own first span offset literals steps) = nat_lt (offset + reach steps) span

abbrev pub span_test : Leaves
span_test = record { local = λ slot. true; place = is_in_span }

abbrev pub stay_in_span : List (List Code) → Bool
stay_in_span [] = true
stay_in_span (b ∷ bs) = all_pass span_test b && stay_in_span bs

-- the span lies in an object of so many cells, or in the memory of so many cells
abbrev pub lies_in : ℕ → ℕ → Spot → Bool
lies_in cells size (spot true first span offset literals steps) = nat_le (first + span) size
lies_in cells size (spot false first span offset literals steps) = nat_le (first + span) cells

abbrev pub cells_test : ℕ → ℕ → Leaves
cells_test cells size = record { local = λ slot. true; place = lies_in cells size }

-- how many cells an object of a class has; one of a class that is not there has none
abbrev pub size_of : List ℕ → ℕ → ℕ
size_of sizes class = slice_index_or sizes class 0

-- places of a block lie in an object of its class, or in the memory
abbrev pub lie_in : ℕ → List ℕ → List Block → Bool
lie_in cells sizes [] = true
lie_in cells sizes (b ∷ bs) = all_pass (cells_test cells (size_of sizes b.class)) (code_list b.statements)
    && lie_in cells sizes bs

-- ---- blocks

-- a block runs only blocks before it, so that none reaches itself; k is the number of the first of
-- these
abbrev pub are_in_order : ℕ → List (List Code) → Bool
are_in_order k [] = true
are_in_order k (b ∷ bs) = all_blocks (λ block. nat_lt block k) b && are_in_order (suc k) bs

-- the class of a block; one that is not there has none
abbrev pub class_at : List Block → ℕ → Option ℕ
class_at [] k = None
class_at (b ∷ bs) zero = Some b.class
class_at (b ∷ bs) (suc k) = class_at bs k

abbrev pub is_of : ℕ → Option ℕ → Bool
is_of class None = false
is_of class (Some other) = other == class

-- the block is there, and of the class
abbrev pub has_class : List Block → ℕ → ℕ → Bool
has_class all class block = is_of class (class_at all block)

-- a block runs only blocks of its class; `all` are those that are run
abbrev pub run_own_class : List Block → List Block → Bool
run_own_class all [] = true
run_own_class all (b ∷ bs) = all_blocks (has_class all b.class) (code_list b.statements) && run_own_class all bs

-- how many frames a run of a block needs; a block that is not there needs one
abbrev pub deep_at : List Block → ℕ → ℕ
deep_at [] k = 1
deep_at (b ∷ bs) zero = b.deep
deep_at (b ∷ bs) (suc k) = deep_at bs k

-- the frames of what a statement runs have room above others; a loop has a frame of its own
abbrev pub code_fits : List Block → ℕ → ℕ → Code → Bool
code_fits blocks height room Empty = true
code_fits blocks height room (Declare line slot scalar e) = true
code_fits blocks height room (SetLocal line slot scalar change) = true
code_fits blocks height room (Assign line place change) = true
code_fits blocks height room (If branches) =
    branch_blocks (λ block. nat_le (height + deep_at blocks block) room) branches
code_fits blocks height room (For slot from bound block) = nat_lt (height + deep_at blocks block) room
code_fits blocks height room (Run block) = nat_le (height + deep_at blocks block) room

abbrev pub all_fit : List Block → ℕ → ℕ → List Code → Bool
all_fit blocks height room [] = true
all_fit blocks height room (first ∷ rest) = code_fits blocks height room first && all_fit blocks height room rest

-- a block has room for a frame of its own and for those of what it runs
abbrev pub are_deep : List Block → List Block → Bool
are_deep all [] = true
are_deep all (b ∷ bs) = (nat_lt 0 b.deep && all_fit all 1 b.deep (code_list b.statements)) && are_deep all bs

-- ---- methods and objects

-- the block of a method is there, and of its class
abbrev pub method_stands : List Block → Method → Bool
method_stands blocks method = has_class blocks method.class method.block

abbrev pub methods_stand : List Block → List Method → Bool
methods_stand blocks = list_all (method_stands blocks)

-- the cells of an object are in the memory
abbrev pub object_stands : ℕ → List ℕ → Object → Bool
object_stands cells sizes object = nat_le (object.first + size_of sizes object.class) cells

abbrev pub objects_stand : ℕ → List ℕ → List Object → Bool
objects_stand cells sizes = list_all (object_stands cells sizes)

-- ---- jobs

-- the object and the method are there, and of one class
abbrev pub of_one_class : Option Object → Option Method → Bool
of_one_class (Some object) (Some method) = object.class == method.class
of_one_class (Some object) None = false
of_one_class None method = false

abbrev pub job_stands : List Object → List Method → Job → Bool
job_stands objects methods job = of_one_class (slice_get objects job.object) (slice_get methods job.method)

abbrev pub jobs_stand : List Object → List Method → List Job → Bool
jobs_stand objects methods = list_all (job_stands objects methods)

-- a scheduled job has a cycle from 1 and times up to the last tic
abbrev pub is_scheduled_right : Job → Bool
is_scheduled_right job =
    nat_le 1 job.cycle && (nat_le job.cycle tic_limit && (nat_le job.start tic_limit && nat_le job.stop tic_limit))

-- a job of another class has no times
abbrev pub has_no_times : Job → Bool
has_no_times job = (job.start == 0) && ((job.cycle == 0) && (job.stop == 0))

abbrev pub has_right_times : Class → Job → Bool
has_right_times Scheduled job = is_scheduled_right job
has_right_times DefaultData job = has_no_times job
has_right_times Initialization job = has_no_times job
has_right_times TopOfFrame job = has_no_times job
has_right_times EndOfFrame job = has_no_times job
has_right_times Freeze job = has_no_times job
has_right_times Unfreeze job = has_no_times job
has_right_times Checkpoint job = has_no_times job
has_right_times Restart job = has_no_times job
has_right_times Shutdown job = has_no_times job

abbrev pub have_right_times : List Job → Bool
have_right_times = list_all (λ job. has_right_times job.class job)

-- threads go from 0 to 15
abbrev pub have_right_threads : List Job → Bool
have_right_threads = list_all (λ job. nat_le job.thread 15)

-- an instance is at most 512, as no more jobs are there
abbrev pub have_right_instances : List Job → Bool
have_right_instances = list_all (λ job. nat_le job.instance 512)

-- the block that a job runs: that of its method; a job or a method that is not there runs the number
-- past the last block, which does nothing
abbrev pub block_of : ℕ → Option Method → ℕ
block_of past None = past
block_of past (Some method) = method.block

abbrev pub method_of : List Method → Option Job → Option Method
method_of methods None = None
method_of methods (Some job) = slice_get methods job.method

-- a job has at most 1,000,000 static steps
abbrev pub are_short : List Block → List Method → List Job → Bool
are_short blocks methods =
    list_all (λ job. nat_le (block_steps (codes_of blocks) (block_of (length blocks) (method_of methods (Some job))))
    1000000)
