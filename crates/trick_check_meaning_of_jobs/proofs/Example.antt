-- The small file names a program, as the definitions compute.
use Rattle.std.proofs.Common.{◌≡◌, ℕ, zero, suc, ◌≤◌, ◌==◌, ◌||◌, pos, Bool, true, false, codes, List, [], ◌∷◌, Some, refl, sym, subst, arith}
use Rattle.std.proofs.lemmas.Bool.{eqb-true, leb-true}
use Rattle.std.specs.Fmt.{digits}
use Rattle.std.specs.Int.{int_wrap}
use Rattle.trick_check.specs.Parts.{HaveNoLoop, calls_at}
use Rattle.trick_check.specs.Refused.{AreShortJobs, StepsAreRight, cells_in, jobs_in, steps_in}
use Rattle.trick_check.specs.Walk.{all_made, jobs_named}
use Rattle.trick_lang.specs.declared.bound.Bound.TheVariants.{Below}
use Rattle.trick_lang.specs.declared.class.Class.TheVariants.{Initialization}
use Rattle.trick_lang.specs.declared.job.Job.{Job}
use Rattle.trick_lang.specs.declared.operator.Arithmetic.TheVariants.{Divide}
use Rattle.trick_lang.specs.declared.program.Program.{Program}
use Rattle.trick_lang.specs.declared.scalar.Scalar.TheVariants.{Long}
use Rattle.trick_lang.specs.declared.tree.Block.{Block}
use Rattle.trick_lang.specs.declared.tree.Change.TheVariants.{Update, Decrease}
use Rattle.trick_lang.specs.declared.tree.Expr.{Local, Number}
use Rattle.trick_lang.specs.declared.tree.Stmt.TheVariants.{Declare, SetLocal, For, Run}
use Rattle.trick_check_meaning.specs.Worked.{m, n, o}
use Rattle.trick_check_meaning_of_jobs.proofs.Lengths.{have_elements}
use Rattle.trick_check_meaning_of_jobs.specs.Example.{HasProgram, file}
use Rattle.trick_check_order.specs.Calls.{Reaches, callees, has}

-- ---- no method reaches itself

-- the method of part 2 calls that of part 1, and no other one calls any
abbrev calls : List (List ℕ)
calls = [] ∷ [] ∷ (1 ∷ []) ∷ [] ∷ []

one_call : (k j : ℕ) → has (callees calls k) j ≡ true → (k ≡ 2) × (j ≡ 1)
one_call zero j h = absurd (cc h)
one_call (suc zero) j h = absurd (cc h)
one_call (suc (suc zero)) j h = (refl, sym (eqb-true 1 j (one (1 == j) h))) where
  one : (b : Bool) → (b || false) ≡ true → b ≡ true
  one true e = refl
  one false e = e
one_call (suc (suc (suc zero))) j h = absurd (cc h)
one_call (suc (suc (suc (suc k)))) j h = absurd (cc h)

-- what is reached is the method of part 1, from that of part 2
reached : (between k j : ℕ) → Reaches calls between k j → (k ≡ 2) × (j ≡ 1)
reached zero k j h = one_call k j h
reached (suc between) k j h =
    let first = one_call k h.0 h.1 in
    let rest = reached between h.0 j h.2 in
    (first.0, rest.1)

no_loop : HaveNoLoop file 2
no_loop zero low part loop = let ends = reached loop.0 part part loop.1 in absurd (omega (arith, ends.0, ends.1))
no_loop (suc class) low part loop = absurd (none class loop.0 loop.1) where
  none : (class between : ℕ) → Reaches (calls_at file (suc class)) between part part → ⊥
  none zero zero h = cc h
  none zero (suc between) h = cc h.1
  none (suc class) zero h = cc h
  none (suc class) (suc between) h = cc h.1

-- ---- its program

abbrev blocks : List Block
blocks = record {
  class = 0;
  statements = Declare 1 0 Long (Some (Number (pos 3))) ∷ SetLocal 1 0 Long Decrease ∷ [];
  deep = 1;
} ∷ record {
  class = 0;
  statements = SetLocal 1 1 Long Decrease ∷ [];
  deep = 1;
} ∷ record {
  class = 0;
  statements = Declare 1 1 Long (Some (Number (pos 2))) ∷ Run 0 ∷ For 2 0 (Below 2) 1
      ∷ SetLocal 9 1 Long (Update Divide (Local 1)) ∷ [];
  deep = 3;
} ∷ []

abbrev job : Job
job = record {
  object = 0;
  method = 1;
  instance = 1;
  class = Initialization;
  thread = 0;
  phase = 60000;
  start = 0;
  cycle = 0;
  stop = 0;
  number = 0;
}

abbrev program : Program
unfolding int_wrap digits
program = record {
  cells = record { name = codes "o.v"; scalar = Long } ∷ [];
  items = [];
  sizes = 1 ∷ 0 ∷ [];
  objects = record { name = o; class = 0; first = 0 } ∷ [];
  blocks = blocks;
  methods = record { name = n; class = 0; block = 0 } ∷ record { name = m; class = 0; block = 2 } ∷ [];
  jobs = job ∷ [];
  slots = 3;
  cell_names = refl;
  short_names = refl;
  plain_cells = refl;
  plain_names = refl;
  in_span = refl;
  in_cells = refl;
  in_order = refl;
  own_class = refl;
  deep_enough = refl;
  locals_known = refl;
  method_blocks = refl;
  object_cells = refl;
  job_parts = refl;
  job_numbers = refl;
  job_names = refl;
  right_times = refl;
  right_instances = refl;
  right_threads = refl;
  short = refl;
  cell_limit = omega arith;
  job_limit = omega arith;
}

-- ---- the file names it

one_short : AreShortJobs (all_made file) (jobs_named file)
unfolding int_wrap digits
one_short zero other is =
    let same : job ≡ other = cc is in
    subst (λ j. steps_in (all_made file) j ≤ 1000000) same (leb-true (steps_in (all_made file) job) 1000000 refl)
one_short (suc k) other is = absurd (cc is)

all_right : StepsAreRight file
unfolding int_wrap digits
all_right = ((((refl, no_loop), leb-true (cells_in file) 65536 refl), leb-true (jobs_in file) 512 refl), one_short)

pub has_program : HasProgram
unfolding int_wrap digits
has_program = record {
  program = program;
  named = record {
    right = all_right;
    cells = refl;
    items = refl;
    sizes = refl;
    objects = refl;
    blocks = refl;
    methods = refl;
    slots = refl;
    jobs = refl;
  };
  readable = record { elements = have_elements file refl; loops = refl };
  job = job;
  one_job = refl;
  effect_is = refl;
  meant_is = refl;
}
