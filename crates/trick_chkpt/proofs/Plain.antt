-- The names of a plan stand in lines as words: those of objects and methods have neither a space nor a line feed, and
-- the full names of cells no line feed. By them a line of a checkpoint is one line, and a fault names one job.
use Rattle.std.proofs.Common.{◌≡◌, ℕ, zero, suc, ◌≤◌, ◌<◌, Bool, true, false, not, ◌&&◌, nat_eq, if◌then◌else◌, List, [], ◌∷◌, length, arith, refl}
use Rattle.std.proofs.lemmas.Bool.{and_from, and_parts, leb-true}
use Rattle.std.specs.List.{list_all}
use Rattle.std.specs.Prelude.{All}
use Rattle.trick_codes.specs.Code.{is_free}
use Rattle.trick_codes.specs.Lines.{is_one_line}
use Rattle.trick_lang.specs.Names.{is_plain, is_plain_byte}
use Rattle.trick_lang.specs.Valid.{have_right_instances}
use Rattle.trick_lang.specs.declared.job.Job.{Job}
use Rattle.trick_lang.specs.declared.method.Method.{Method}
use Rattle.trick_lang.specs.declared.object.Object.{Object}
use Rattle.trick_lang.specs.declared.variable.Variable.{Variable}
use Rattle.trick_model.specs.declared.plan.Plan.{Plan}

-- neither a space nor a line feed
abbrev pub is_word : List ℕ → Bool
is_word name = is_free 32 name && is_one_line name

pub record HasWords (plan : Plan) : Type 0 where
  pub cells : list_all (λ (v : Variable). is_one_line v.name) plan.program.cells ≡ true
  pub objects : list_all (λ (o : Object). is_word o.name) plan.program.objects ≡ true
  pub methods : list_all (λ (m : Method). is_word m.name) plan.program.methods ≡ true

-- The instances of jobs are numbers of 32 bits.
abbrev pub HasInstances : Plan → Type 0
HasInstances plan = All (λ (job : Job). job.instance ≤ 4294967295) plan.program.jobs

-- ---- plain names are words

plain_free : (name : List ℕ) → is_plain name ≡ true → is_free 32 name ≡ true
plain_free [] h = refl
plain_free (b ∷ bs) h =
    let both = and_parts (is_plain_byte b) _ h in by (nat_eq b 32) (and_parts _ _ both.0).0 (plain_free bs both.1)
  where
    by : (t : Bool) → not t ≡ true → is_free 32 bs ≡ true → (if t then false else is_free 32 bs) ≡ true
    by true other rest = cc other
    by false other rest = rest

plain_line : (name : List ℕ) → is_plain name ≡ true → is_one_line name ≡ true
plain_line [] h = refl
plain_line (b ∷ bs) h =
    let both = and_parts (is_plain_byte b) _ h in
    and_from _ _ (and_parts (not (nat_eq b 32)) _ both.0).1 (plain_line bs both.1)

plain_word : (name : List ℕ) → is_plain name ≡ true → is_word name ≡ true
plain_word name h = and_from _ _ (plain_free name h) (plain_line name h)

weaker : {T : Type 0} (p q : T → Bool) → ((x : T) → p x ≡ true → q x ≡ true) → (xs : List T) → list_all p xs ≡ true
    → list_all q xs ≡ true
weaker p q each [] h = refl
weaker p q each (x ∷ xs) h =
    let both = and_parts (p x) _ h in and_from _ _ (each x both.0) (weaker p q each xs both.1)

few : (jobs : List Job) → have_right_instances jobs ≡ true → All (λ (job : Job). job.instance ≤ 4294967295) jobs
few [] h k d there = absurd (omega (arith, there))
few (job ∷ jobs) h zero d there = over job.instance (leb-true job.instance 512 (and_parts _ _ h).0)
  where
    over : (n : ℕ) → n ≤ 512 → n ≤ 4294967295
    over n most = omega (arith, most)
few (job ∷ jobs) h (suc k) d there = few jobs (and_parts _ _ h).1 k d (behind k (length jobs) there)
  where
    behind : (k n : ℕ) → suc k < suc n → k < n
    behind k n there = omega (arith, there)

-- ---- what each plan has

pub names_are_words : (plan : Plan) → HasWords plan
names_are_words plan =
    let p = plan.program in
    let names = and_parts (list_all (λ (o : Object). is_plain o.name) p.objects) _ p.plain_names in
    record {
      cells = weaker (λ (v : Variable). is_plain v.name) (λ (v : Variable). is_one_line v.name) (λ v. plain_line v.name) p.cells p.plain_cells;
      objects = weaker (λ (o : Object). is_plain o.name) (λ (o : Object). is_word o.name) (λ o. plain_word o.name) p.objects names.0;
      methods = weaker (λ (m : Method). is_plain m.name) (λ (m : Method). is_word m.name) (λ m. plain_word m.name) p.methods names.1;
    }

pub instances_fit : (plan : Plan) → HasInstances plan
instances_fit plan = few plan.program.jobs plan.program.right_instances
