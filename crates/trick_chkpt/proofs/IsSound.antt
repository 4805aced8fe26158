-- The lines of the checkpoints of a plan are sound.
use Rattle.std.proofs.Common.{◌≡◌, ℕ, zero, suc, ◌+◌, ◌≤◌, ◌<◌, Bool, true, false, List, [], ◌∷◌, ◌++◌, length, get_or, map, min, Option, None, refl, sym, ap, arith}
use Rattle.std.proofs.lemmas.Bool.{and_parts}
use Rattle.std.proofs.lemmas.List.Elements.{All-filter}
use Rattle.std.specs.Fmt.{decimal}
use Rattle.std.specs.List.{enumerate_from, list_all, slice_index_or, zip}
use Rattle.std.specs.Prelude.{All, codes, cond, filter, ℤ, pos, ◌==◌}
use Rattle.trick_chkpt.proofs.JobTexts.{one_line, texts_apart}
use Rattle.trick_chkpt_lines.specs.CheckpointLines.{Held, cells_of, checkpoint, flag_at, flag_line, flag_place, flags_of, group_of, groups_of, head_lines, held_behind, held_of, job_flags_of, last_line, last_of, memory_of, mode_at, mode_line, mode_place, mode_words, record_name, record_of, record_words, records_of, scope_cells, taken_by, taken_parts, thread_jobs}
use Rattle.trick_chkpt_lines.specs.Faults.{fault_code, fault_line, faults_lines, faults_of, job_text, job_texts, kind_place, kind_word_at, kind_words, no_fault}
use Rattle.trick_chkpt.proofs.Plain.{HasInstances, HasWords, instances_fit, names_are_words}
use Rattle.trick_chkpt_lines.specs.Ranges.{full_name, range_at, range_of, ranges_at}
use Rattle.trick_codes.proofs.IsSound.{end_line_sound, indexed_one_line, integer_line_sound, named_one_line, named_sound, none_or_one_line, none_or_sound, number_line_sound, number_one_line, numbered_sound, one_line-append, one_of_lines, row_one_line, row_sound, row_start, word_line_sound}
use Rattle.trick_codes.proofs.Words.{prefix_free}
use Rattle.trick_codes.specs.Code.{ArePrefixFree, Fits, Sound, largest, spell}
use Rattle.trick_codes.specs.Lines.{Holds, Lines, SoundLines, each, is_one_line, no_line}
use Rattle.trick_codes.specs.Named.{indexed, integer_line, none_or, row}
use Rattle.trick_lang.specs.Names.{job_name}
use Rattle.trick_lang.specs.declared.cells.Cell.{Cell}
use Rattle.trick_lang.specs.declared.fault.JobFault.{JobFault}
use Rattle.trick_lang.specs.declared.job.Job.{Job}
use Rattle.trick_lang.specs.declared.job.JobId.{JobId}
use Rattle.trick_lang.specs.declared.variable.Variable.{Variable}
use Rattle.trick_model.specs.FaultList.{kept}
use Rattle.trick_model.specs.Plan.{is_beside, jobs_of, numbers_from, thread_of, threads_beside}
use Rattle.trick_model.specs.PlanOf.{plan_of}
use Rattle.trick_model.specs.State.{nothing_taken}
use Rattle.trick_base.specs.Time.{tic_limit}
use Rattle.trick_model.specs.Time.{last_turn}
use Rattle.trick_model.specs.Valid.{cell_names}
use Rattle.trick_model.specs.declared.group.Group.{Group}
use Rattle.trick_model.specs.declared.plan.Plan.{Plan}
use Rattle.trick_model.specs.declared.thread.Thread.{Thread}

-- the lines of each key of a list are sound
abbrev AllSound : {K A : Type 0} → (K → Lines A) → List K → Type 0
AllSound c [] = Unit {0}
AllSound c (k ∷ ks) = SoundLines (c k) × AllSound c ks

each_sound : {K A : Type 0} (d : A) (c : K → Lines A) (ks : List K) → AllSound c ks → SoundLines (each d c ks)
each_sound d c [] s = tt
each_sound d c (k ∷ ks) s = ((s.0, λ x h. each_sound d c ks s.1), λ p h. refl)

all_sound : {K A : Type 0} (c : K → Lines A) → ((k : K) → SoundLines (c k)) → (ks : List K) → AllSound c ks
all_sound c s [] = tt
all_sound c s (k ∷ ks) = (s k, all_sound c s ks)

-- ---- the first lines
mode_back : (k : ℕ) → k < 3 → mode_place (mode_at k) ≡ k
mode_back zero lt = refl
mode_back (suc zero) lt = refl
mode_back (suc (suc zero)) lt = refl
mode_back (suc (suc (suc k))) lt = absurd (omega arith)

mode_sound : SoundLines mode_line
unfolding mode_line
mode_sound = (
  word_line_sound (codes "mode") mode_words refl (omega arith) (prefix_free mode_words refl) (refl, (refl, (refl, tt))),
  λ k h. mode_back k h.0.1,
)

head_sound : SoundLines head_lines
unfolding head_lines
head_sound = (
  (
    number_line_sound (codes "checkpoint") 1 1 refl (omega arith) (omega arith) (omega arith),
    λ version h. (
      number_line_sound (codes "turn") 0 last_turn refl (omega arith) (omega arith) (omega arith),
      λ turn h. (
        number_line_sound (codes "tic") 0 (tic_limit + 1) refl (omega arith) (omega arith) (omega arith),
        λ tic h. (number_line_sound (codes "limit") 0 (tic_limit + 1) refl (omega arith) (omega arith) (omega arith), λ limit h. mode_sound),
      ),
    ),
  ),
  λ v h. let one : 1 ≡ v.0 = omega (arith, h.0.0.1.0, h.0.0.1.1) in ap (λ (k : ℕ). (k, v.1)) one,
)

-- ---- cells and flags
one_line_at : (cells : List Variable) → list_all (λ (v : Variable). is_one_line v.name) cells ≡ true → (k : ℕ) → is_one_line (slice_index_or (cell_names cells) k []) ≡ true
one_line_at [] h k = refl
one_line_at (v ∷ cells) h zero = (and_parts _ _ h).0
one_line_at (v ∷ cells) h (suc k) = one_line_at cells (and_parts _ _ h).1 k

variables_sound : (cells : List Variable) → list_all (λ (v : Variable). is_one_line v.name) cells ≡ true → AllSound (λ (v : Variable). integer_line v.name (range_of v.scalar)) cells
variables_sound [] h = tt
variables_sound (v ∷ cells) h =
    (integer_line_sound v.name (range_of v.scalar) (and_parts _ _ h).0, variables_sound cells (and_parts _ _ h).1)

flag_back : (n : ℕ) → n ≤ 1 → flag_place (flag_at n) ≡ n
flag_back zero le = refl
flag_back (suc n) le = omega arith

flag_sound : (name : List ℕ) → is_one_line name ≡ true → SoundLines (flag_line name)
unfolding flag_line
flag_sound name h = (number_line_sound name 0 1 h (omega arith) (omega arith) (omega arith), λ n k. flag_back n k.0.1.1)

flags_sound : (stem : List ℕ) (count : ℕ) → is_one_line stem ≡ true → count ≤ largest → SoundLines (flags_of stem count)
unfolding flags_of
flags_sound stem count h le = numbered_sound false (λ k. flag_line (indexed stem k)) 0 count (λ k lt. flag_sound (indexed stem k) (indexed_one_line stem k h (omega arith)))

-- numbers of 64 bits
abbrev AreLow : List ℕ → Type 0
AreLow [] = Unit {0}
AreLow (k ∷ ks) = (k ≤ largest) × AreLow ks

kept_below : {X : Type 0} (test : ℕ → Bool) (k : ℕ) (xs : List X) → k + length xs ≤ largest → AreLow (filter test (numbers_from k xs))
kept_below test k [] le = tt
kept_below test k (x ∷ xs) le = go (test k) (filter test (numbers_from (suc k) xs)) (kept_below test (suc k) xs (omega arith))
  where
    go : (b : Bool) (others : List ℕ) → AreLow others → AreLow (cond b (k ∷ others) others)
    go true others low = (omega arith, low)
    go false others low = low

-- the numbers of jobs are small
abbrev AreSmall : List JobId → Type 0
AreSmall [] = Unit {0}
AreSmall (job ∷ jobs) = (job.0 ≤ largest) × AreSmall jobs

job_flags_sound : (stem : List ℕ) (jobs : List JobId) → is_one_line stem ≡ true → AreSmall jobs → SoundLines (job_flags_of stem jobs)
unfolding job_flags_of
job_flags_sound stem jobs h small = each_sound false (λ (job : JobId). flag_line (indexed stem job.0)) jobs (go jobs small)
  where
    go : (jobs : List JobId) → AreSmall jobs → AllSound (λ (job : JobId). flag_line (indexed stem job.0)) jobs
    go [] small = tt
    go (job ∷ jobs) small = (flag_sound (indexed stem job.0) (indexed_one_line stem job.0 h small.0), go jobs small.1)

-- ---- groups
last_line_sound : (plan : Plan) (k : ℕ) (group : Group) → k ≤ largest → SoundLines (last_line plan k group)
unfolding last_line
last_line_sound plan k group le =
    let ranges = ranges_at plan group.cells in
    let name = indexed (codes "last") k in (
      named_sound name (none_or (row ranges)) (none_or_sound (row ranges) (row_sound ranges) (row_start ranges)),
      named_one_line name (none_or (row ranges)) (indexed_one_line (codes "last") k refl le) (none_or_one_line (row ranges) (row_one_line ranges)),
    )

last_sound : (plan : Plan) (k : ℕ) (group : Group) → k ≤ largest → SoundLines (last_of plan k group)
unfolding last_of
last_sound plan k group le = go group.changes
  where
    go : (b : Bool) → SoundLines (elim b [ true ↦ last_line plan k group | false ↦ no_line {A = Option (List ℤ)} None ])
    go true = last_line_sound plan k group le
    go false = tt

group_sound : (plan : Plan) (k : ℕ) (group : Group) → k ≤ largest → SoundLines (group_of plan (k, group))
unfolding group_of
group_sound plan k group le = (flag_sound (indexed (codes "group") k) (indexed_one_line (codes "group") k refl le), λ on h. last_sound plan k group le)

groups_all : (plan : Plan) (k : ℕ) (groups : List Group) → k + length groups ≤ largest → AllSound (group_of plan) (enumerate_from k groups)
groups_all plan k [] le = tt
groups_all plan k (group ∷ groups) le = (group_sound plan k group (omega arith), groups_all plan (k + 1) groups (omega arith))

groups_sound : (plan : Plan) → SoundLines (groups_of plan)
unfolding groups_of
groups_sound plan = each_sound (false, None) (group_of plan) (enumerate_from 0 plan.groups) (groups_all plan 0 plan.groups (omega (arith, plan.group_limit)))

-- ---- records
jobs_small : (plan : Plan) (thread : Thread) → AreSmall (thread_jobs plan thread)
jobs_small plan thread = go (jobs_of plan.program.jobs thread) (kept_below (λ k. thread_of plan.program.jobs k == thread.number) 0 plan.program.jobs (omega (arith, plan.program.job_limit)))
  where
    go : (ks : List ℕ) → AreLow ks → AreSmall (map (λ (k : ℕ). record { 0 = k }) ks)
    go [] low = tt
    go (k ∷ ks) low = (low.0, go ks low.1)

module _ (plan : Plan) (plain : HasWords plan) (thread : Thread) (small : thread.number ≤ 15) where
  name_one_line : is_one_line (record_name thread) ≡ true
  name_one_line = indexed_one_line (codes "taken") thread.number refl (omega arith)

  cells_sound : (front : List ℕ) (cells : List Cell) → is_one_line front ≡ true → SoundLines (cells_of plan front cells)
  unfolding cells_of
  cells_sound front cells h =
      each_sound (pos 0) (λ (cell : Cell). integer_line (front ++ full_name plan cell) (range_at plan cell)) cells
      (all_sound (λ (cell : Cell). integer_line (front ++ full_name plan cell) (range_at plan cell))
      (λ cell. integer_line_sound (front ++ full_name plan cell) (range_at plan cell) (one_line-append front (full_name plan cell) h (one_line_at plan.program.cells plain.cells cell.0))) cells)

  held_sound : SoundLines (held_of plan thread)
  unfolding held_of
  held_sound = (
    cells_sound (record_name thread ++ codes ".") (scope_cells plan thread) (one_line-append (record_name thread) (codes ".") name_one_line refl),
    λ cells h.
        job_flags_sound (record_name thread ++ codes ".job") (thread_jobs plan thread) (one_line-append (record_name thread) (codes ".job") name_one_line refl) (jobs_small plan thread),
  )

  behind_sound : (word : ℕ) → SoundLines (held_behind plan thread word)
  unfolding held_behind
  behind_sound zero = tt
  behind_sound (suc k) = held_sound

  record_back : (word : ℕ) (held : Held) → word < 2 → Holds (held_behind plan thread word) held → taken_parts (taken_by word held) ≡ (word, held)
  unfolding held_behind
  record_back zero held lt h = ap (λ (x : Held). (0, x)) (sym h)
  record_back (suc zero) held lt h = refl
  record_back (suc (suc k)) held lt h = absurd (omega arith)

  record_sound : SoundLines (record_of plan thread)
  unfolding record_of
  record_sound = (
    (word_line_sound (record_name thread) record_words name_one_line (omega arith) (prefix_free record_words refl) (refl, (refl, tt)), λ word h. behind_sound word),
    λ v h. record_back v.0 v.1 h.0.0.1 h.1,
  )

records_all : (plan : Plan) → HasWords plan → (threads : List Thread) → All (λ (thread : Thread). thread.number ≤ 15) threads → AllSound (record_of plan) threads
records_all plan plain [] small = tt
records_all plan plain (thread ∷ threads) small =
    (record_sound plan plain thread (small 0 thread (omega arith)), records_all plan plain threads (λ k d lt. small (suc k) d (omega arith)))

records_sound : (plan : Plan) → HasWords plan → SoundLines (records_of plan)
unfolding records_of
records_sound plan plain =
    each_sound nothing_taken (record_of plan) (threads_beside (plan_of plan))
    (records_all plan plain (threads_beside (plan_of plan)) (All-filter (λ (thread : Thread). is_beside thread.process) (λ (thread : Thread). thread.number ≤ 15) plan.threads plan.thread_limit))

-- ---- faults
kind_back : (k : ℕ) → k < 2 → kind_place (kind_word_at k) ≡ k
kind_back zero lt = refl
kind_back (suc zero) lt = refl
kind_back (suc (suc k)) lt = absurd (omega arith)

module _ (texts : List (List ℕ)) (some : 0 < length texts) (apart : ArePrefixFree texts) (lines : (i : ℕ) → is_one_line (get_or texts i []) ≡ true) where
  code_sound : Sound (fault_code texts)
  code_sound = (
    (
      (omega arith, omega arith, omega arith, refl),
      λ tic h. (
        ((some, apart), λ k h. refl),
        λ job h. (((omega arith, prefix_free kind_words refl), λ k h. kind_back k h), λ kind h. (omega arith, omega arith, omega arith, refl)),
      ),
    ),
    λ v h. refl,
  )

  code_one_line : (f : JobFault) → Fits (fault_code texts) f → is_one_line (spell (fault_code texts) f) ≡ true
  code_one_line f h =
      let k = kind_place f.kind in
      one_line-append (decimal f.tic ++ codes " ") (get_or texts (f.job).0 [] ++ (get_or kind_words k [] ++ (decimal f.line ++ codes ";")))
      (number_one_line f.tic 32 (omega (arith, h.0.0.1)) refl)
      (one_line-append (get_or texts (f.job).0 []) (get_or kind_words k [] ++ (decimal f.line ++ codes ";")) (lines (f.job).0)
      (one_line-append (get_or kind_words k []) (decimal f.line ++ codes ";") (one_of_lines kind_words (refl, (refl, tt)) k)
      (number_one_line f.line 59 (omega (arith, h.0.1.1.1.1)) refl)))

  fault_line_sound : (k : ℕ) → k ≤ largest → SoundLines (fault_line texts k)
  unfolding fault_line
  fault_line_sound k le =
      let name = indexed (codes "fault") k in
      (named_sound name (fault_code texts) code_sound, named_one_line name (fault_code texts) (indexed_one_line (codes "fault") k refl le) code_one_line)

faults_sound : (texts : List (List ℕ)) → ArePrefixFree texts → ((i : ℕ) → is_one_line (get_or texts i []) ≡ true) → SoundLines (faults_lines texts)
unfolding faults_lines faults_of
faults_sound [] apart lines = (
  (
    number_line_sound (codes "faults") 0 0 refl (omega arith) (omega arith) (omega arith),
    λ count h. numbered_sound no_fault (fault_line []) 0 (min count kept) (λ k lt. absurd (omega (arith, lt, h.0.1.1))),
  ),
  λ v h. refl,
)
faults_sound (text ∷ texts) apart lines = (
  (
    number_line_sound (codes "faults") 0 18446744073709551615 refl (omega arith) (omega arith) (omega arith),
    λ count h.
        numbered_sound no_fault (fault_line (text ∷ texts)) 0 (min count kept)
        (λ k lt. fault_line_sound (text ∷ texts) (omega arith) apart lines k (omega (arith, lt))),
  ),
  λ v h. refl,
)

-- ---- the whole
texts_one_line : (plan : Plan) → HasWords plan → (jobs : List Job) → All (λ (job : Job). job.instance ≤ 4294967295) jobs
    → (i : ℕ) → is_one_line (get_or (map (λ (job : Job). job_text (job_name plan.program.objects plan.program.methods job) job.instance) jobs) i []) ≡ true
texts_one_line plan plain [] small i = refl
texts_one_line plan plain (job ∷ jobs) small zero = one_line plan plain job (small 0 job (omega arith))
texts_one_line plan plain (job ∷ jobs) small (suc i) = texts_one_line plan plain jobs (λ k d lt. small (suc k) d (omega arith)) i

zip_back : {A B : Type 0} (xs : List (A × B)) → zip (map (λ (x : A × B). x.0) xs) (map (λ (x : A × B). x.1) xs) ≡ xs
zip_back [] = refl
zip_back {A} {B} (x ∷ xs) = ap (λ (ys : List (A × B)). x ∷ ys) (zip_back xs)

checkpoint_by : (plan : Plan) → HasWords plan → HasInstances plan → SoundLines (checkpoint plan)
unfolding checkpoint memory_of
checkpoint_by plan plain small = (
  (
    head_sound,
    λ head h. (
      each_sound (pos 0) (λ (v : Variable). integer_line v.name (range_of v.scalar)) plan.program.cells (variables_sound plan.program.cells plain.cells),
      λ memory h. (
        flags_sound (codes "job") (length plan.program.jobs) refl (omega (arith, plan.program.job_limit)),
        λ jobs h. (
          flags_sound (codes "event") (length plan.events) refl (omega (arith, plan.event_limit)),
          λ events h. (
            groups_sound plan,
            λ groups h. (
              records_sound plan plain,
              λ taken h. (faults_sound (job_texts plan) (texts_apart plan plain small) (texts_one_line plan plain plan.program.jobs small), λ faults h. end_line_sound),
            ),
          ),
        ),
      ),
    ),
  ),
  λ v h. ap (λ (gs : List (Bool × Option (List ℤ))). (v.0, (v.1.0, (v.1.1.0, (v.1.1.1.0, (gs, v.1.1.1.1.1)))))) (zip_back v.1.1.1.1.0),
)

pub checkpoint_sound : (plan : Plan) → SoundLines (checkpoint plan)
checkpoint_sound plan = checkpoint_by plan (names_are_words plan) (instances_fit plan)
