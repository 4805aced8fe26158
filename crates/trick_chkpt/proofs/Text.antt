-- The text that the lines of a checkpoint spell is the text of the state.
use Rattle.std.proofs.Common.{◌≡◌, ℕ, zero, suc, ◌+◌, ◌<◌, Bool, true, false, List, [], ◌∷◌, ◌++◌, length, get_or, map, min, Option, Some, None, refl, sym, ap, ◌∙◌, append_assoc, arith}
use Rattle.std.proofs.lemmas.Fmt.{decimal_digit}
use Rattle.std.proofs.lemmas.List.{append-nil}
use Rattle.std.proofs.lemmas.List.FromFn.{length-enumerate_from}
use Rattle.std.specs.Fmt.{decimal, signed_decimal}
use Rattle.std.specs.List.{enumerate_from, slice_index_or, zip}
use Rattle.std.specs.Prelude.{codes, ℤ, pos}
use Rattle.trick_chkpt.proofs.JobTexts.{length_map}
use Rattle.trick_chkpt_printer.proofs.Rows.{row_with_commas}
use Rattle.trick_chkpt_lines.specs.CheckpointLines.{cells_of, checkpoint, flag_line, flags_of, group_of, groups_of, head_lines, held_behind, held_of, job_flags_of, last_line, last_of, memory_of, mode_line, record_name, record_of, record_words, records_of, scope_cells, thread_jobs}
use Rattle.trick_chkpt_lines.specs.Faults.{fault_code, fault_line, faults_lines, faults_of, job_text, job_texts, kind_place, kind_words, no_fault}
use Rattle.trick_chkpt_lines.specs.Ranges.{full_name, range_at, range_of, ranges_at}
use Rattle.trick_codes.proofs.IsSound.{length-each, length-numbered, length-row, row_spelled}
use Rattle.trick_codes.specs.Code.{spell}
use Rattle.trick_codes.specs.Lines.{Holds, and_then, each, no_line, numbered, text}
use Rattle.trick_codes.specs.Named.{indexed, integer_line, title, word_line}
use Rattle.trick_lang.specs.Names.{job_name}
use Rattle.trick_lang.specs.declared.cells.Cell.{Cell}
use Rattle.trick_lang.specs.declared.fault.FaultKind.{FaultKind}
use Rattle.trick_lang.specs.declared.fault.FaultKind.TheVariants.{DivideByZero, IndexOutOfRange}
use Rattle.trick_lang.specs.declared.fault.JobFault.{JobFault}
use Rattle.trick_lang.specs.declared.job.Job.{Job}
use Rattle.trick_lang.specs.declared.job.JobId.{JobId}
use Rattle.trick_lang.specs.declared.variable.Variable.{Variable}
use Rattle.trick_model.specs.Access.{scope}
use Rattle.trick_model.specs.Checkpoint.{all_taken_lines, at, cell_lines, checkpoint_text, fault_lines, fault_text, flag_lines, flag_text, group_lines, held_lines, kind_text, last_lines, last_text, line, mode_text, taken_lines}
use Rattle.trick_model.specs.FaultList.{kept}
use Rattle.trick_model.specs.Plan.{job_at, jobs_of, numbers_from, threads_beside}
use Rattle.trick_model.specs.PlanOf.{plan_of}
use Rattle.trick_model.specs.State.{State, nothing_taken}
use Rattle.trick_model.specs.Valid.{cell_names}
use Rattle.trick_model.specs.declared.group.Group.{Group}
use Rattle.trick_model.specs.declared.mode.Mode.{Mode}
use Rattle.trick_model.specs.declared.mode.Mode.TheVariants as mode
use Rattle.trick_model.specs.declared.plan.Plan.{Plan}
use Rattle.trick_model.specs.declared.taken.Taken.{Taken}
use Rattle.trick_model.specs.declared.thread.Thread.{Thread}

-- a line as it is spelled
abbrev spelled : List ℕ → List ℕ → List ℕ
spelled name value = (title name ++ (value ++ 59 ∷ [])) ++ 10 ∷ []

-- a line as it is spelled, and as it is written
line_is : (name value : List ℕ) → spelled name value ≡ line name value
line_is name value =
    ap (λ (us : List ℕ). us ++ 10 ∷ []) (sym (append_assoc (title name) value (59 ∷ [])))
    ∙ append_assoc (title name ++ value) (59 ∷ []) (10 ∷ [])

-- a name with an index
at_is : (stem : List ℕ) (k : ℕ) → indexed stem k ≡ at stem k
at_is stem k =
    sym (append_assoc (stem ++ codes "[") (decimal k) (codes "]") ∙ append_assoc stem (codes "[") (decimal k ++ codes "]"))

-- ---- cells and flags
memory_text : (cells : List Variable) (ns : List ℤ) → length ns ≡ length cells
    → text (each (pos 0) (λ (v : Variable). integer_line v.name (range_of v.scalar)) cells) ns ≡ cell_lines [] (cell_names cells) ns
memory_text [] [] e = refl
memory_text [] (n ∷ ns) e = absurd (omega arith)
memory_text (v ∷ cells) [] e = absurd (omega arith)
memory_text (v ∷ cells) (n ∷ ns) e =
    ap (λ (us : List ℕ). us ++ text (each (pos 0) (λ (w : Variable). integer_line w.name (range_of w.scalar)) cells) ns) (line_is v.name (signed_decimal n))
    ∙ ap (λ (us : List ℕ). line v.name (signed_decimal n) ++ us) (memory_text cells ns (omega arith))

cells_text : (plan : Plan) (front : List ℕ) (cells : List Cell) (ns : List ℤ) → length ns ≡ length cells
    → text (cells_of plan front cells) ns ≡ cell_lines front (map (full_name plan) cells) ns
unfolding cells_of
cells_text plan front [] [] e = refl
cells_text plan front [] (n ∷ ns) e = absurd (omega arith)
cells_text plan front (cell ∷ cells) [] e = absurd (omega arith)
cells_text plan front (cell ∷ cells) (n ∷ ns) e =
    ap (λ (us : List ℕ). us ++ text (cells_of plan front cells) ns) (line_is (front ++ full_name plan cell) (signed_decimal n))
    ∙ ap (λ (us : List ℕ). line (front ++ full_name plan cell) (signed_decimal n) ++ us) (cells_text plan front cells ns (omega arith))

flag_is : (stem : List ℕ) (k : ℕ) (on : Bool) → text (flag_line (indexed stem k)) on ≡ line (at stem k) (flag_text on)
unfolding flag_line
flag_is stem k true =
    line_is (indexed stem k) (decimal 1) ∙ ap (λ (us : List ℕ). line us (decimal 1)) (at_is stem k)
    ∙ ap (λ (us : List ℕ). line (at stem k) us) (decimal_digit 1 (omega arith))
flag_is stem k false =
    line_is (indexed stem k) (decimal 0) ∙ ap (λ (us : List ℕ). line us (decimal 0)) (at_is stem k)
    ∙ ap (λ (us : List ℕ). line (at stem k) us) (decimal_digit 0 (omega arith))

numbered_flags : (stem : List ℕ) (k count : ℕ) (flags : List Bool) → length flags ≡ count
    → text (numbered false (λ j. flag_line (indexed stem j)) k count) flags ≡ flag_lines stem (numbers_from k flags) flags
numbered_flags stem k zero [] e = refl
numbered_flags stem k zero (on ∷ flags) e = absurd (omega arith)
numbered_flags stem k (suc count) [] e = absurd (omega arith)
numbered_flags stem k (suc count) (on ∷ flags) e =
    let next : k + 1 ≡ suc k = omega arith in
    ap (λ (us : List ℕ). us ++ text (numbered false (λ j. flag_line (indexed stem j)) (k + 1) count) flags) (flag_is stem k on)
    ∙ ap (λ (us : List ℕ). line (at stem k) (flag_text on) ++ us) (numbered_flags stem (k + 1) count flags (omega arith) ∙ ap (λ (i : ℕ). flag_lines stem (numbers_from i flags) flags) next)

job_flags_text : (stem : List ℕ) (jobs : List JobId) (flags : List Bool) → length flags ≡ length jobs
    → text (job_flags_of stem jobs) flags ≡ flag_lines stem (map (λ (job : JobId). job.0) jobs) flags
unfolding job_flags_of
job_flags_text stem [] [] e = refl
job_flags_text stem [] (on ∷ flags) e = absurd (omega arith)
job_flags_text stem (job ∷ jobs) [] e = absurd (omega arith)
job_flags_text stem (job ∷ jobs) (on ∷ flags) e =
    ap (λ (us : List ℕ). us ++ text (job_flags_of stem jobs) flags) (flag_is stem job.0 on)
    ∙ ap (λ (us : List ℕ). line (at stem job.0) (flag_text on) ++ us) (job_flags_text stem jobs flags (omega arith))

-- ---- groups
last_line_text : (plan : Plan) (k : ℕ) (group : Group) (last : Option (List ℤ)) → Holds (last_line plan k group) last
    → text (last_line plan k group) last ≡ line (at (codes "last") k) (last_text last)
unfolding last_line
last_line_text plan k group None h = line_is (indexed (codes "last") k) (codes "none") ∙ ap (λ (us : List ℕ). line us (codes "none")) (at_is (codes "last") k)
last_line_text plan k group (Some ns) h =
    let ranges = ranges_at plan group.cells in
    let name = indexed (codes "last") k in
    ap (λ (us : List ℕ). (title name ++ us) ++ 10 ∷ []) (row_spelled ranges ns (length-row ranges ns h.0.1.0) ∙ row_with_commas ns)
    ∙ line_is name (last_text (Some ns)) ∙ ap (λ (us : List ℕ). line us (last_text (Some ns))) (at_is (codes "last") k)

last_of_text : (plan : Plan) (k : ℕ) (group : Group) (last : Option (List ℤ)) → Holds (last_of plan k group) last
    → text (last_of plan k group) last ≡ last_lines k group last
unfolding last_of
last_of_text plan k group last h = go group.changes h
  where
    go : (b : Bool) → Holds (elim b [ true ↦ last_line plan k group | false ↦ no_line {A = Option (List ℤ)} None ]) last
        → text (elim b [ true ↦ last_line plan k group | false ↦ no_line {A = Option (List ℤ)} None ]) last ≡ elim b [ true ↦ line (at (codes "last") k) (last_text last) | false ↦ [] ]
    go true h = last_line_text plan k group last h
    go false h = refl

groups_text : (plan : Plan) (k : ℕ) (groups : List Group) (flags : List Bool) (rows : List (Option (List ℤ))) → length flags ≡ length groups → length rows ≡ length groups
    → Holds (each (false, None) (group_of plan) (enumerate_from k groups)) (zip flags rows)
    → text (each (false, None) (group_of plan) (enumerate_from k groups)) (zip flags rows) ≡ group_lines k groups flags rows
unfolding group_of
groups_text plan k [] flags rows e f h = no_groups flags rows k
  where
    no_groups : (flags : List Bool) (rows : List (Option (List ℤ))) (k : ℕ) → [] ≡ group_lines k [] flags rows
    no_groups flags rows k = refl
groups_text plan k (group ∷ groups) [] rows e f h = absurd (omega arith)
groups_text plan k (group ∷ groups) (on ∷ flags) [] e f h = absurd (omega arith)
groups_text plan k (group ∷ groups) (on ∷ flags) (row ∷ rows) e f h =
    let next : k + 1 ≡ suc k = omega arith in
    let others = text (each (false, None) (group_of plan) (enumerate_from (k + 1) groups)) (zip flags rows) in
    ap (λ (us : List ℕ). (us ++ text (last_of plan k group) row) ++ others) (flag_is (codes "group") k on)
    ∙ ap (λ (us : List ℕ). (line (at (codes "group") k) (flag_text on) ++ us) ++ others) (last_of_text plan k group row h.0.0.1)
    ∙ ap (λ (us : List ℕ). (line (at (codes "group") k) (flag_text on) ++ last_lines k group row) ++ us)
    (groups_text plan (k + 1) groups flags rows (omega arith) (omega arith) h.0.1 ∙ ap (λ (i : ℕ). group_lines i groups flags rows) next)

-- ---- records
record_is : (thread : Thread) → record_name thread ≡ at (codes "taken") thread.number
record_is thread = at_is (codes "taken") thread.number

names_in_scope : (plan : Plan) (ks : List ℕ) → map (full_name plan) (map (λ (k : ℕ). record { 0 = k }) ks) ≡ map (λ (k : ℕ). slice_index_or (cell_names plan.program.cells) k []) ks
names_in_scope plan [] = refl
names_in_scope plan (k ∷ ks) = ap (λ (us : List (List ℕ)). slice_index_or (cell_names plan.program.cells) k [] ∷ us) (names_in_scope plan ks)

numbers_back : (ks : List ℕ) → map (λ (job : JobId). job.0) (map (λ (k : ℕ). record { 0 = k }) ks) ≡ ks
numbers_back [] = refl
numbers_back (k ∷ ks) = ap (λ (us : List ℕ). k ∷ us) (numbers_back ks)

held_text : (plan : Plan) (thread : Thread) (taken : Taken) → Holds (held_of plan thread) (taken.cells, (taken.on).on)
    → text (held_of plan thread) (taken.cells, (taken.on).on) ≡ held_lines (plan_of plan) thread (record_name thread) taken
unfolding held_of cells_of job_flags_of
held_text plan thread taken h =
    let cells = scope_cells plan thread in
    let jobs = thread_jobs plan thread in
    let name = record_name thread in
    let one = cells_text plan (name ++ codes ".") cells taken.cells (length-each (pos 0) (λ (cell : Cell). integer_line ((name ++ codes ".") ++ full_name plan cell) (range_at plan cell)) cells taken.cells h.0)
    ∙ ap (λ (us : List (List ℕ)). cell_lines (name ++ codes ".") us taken.cells) (names_in_scope plan (scope (plan_of plan) thread)) in
    let other = job_flags_text (name ++ codes ".job") jobs (taken.on).on (length-each false (λ (job : JobId). flag_line (indexed (name ++ codes ".job") job.0)) jobs (taken.on).on h.1)
    ∙ ap (λ (ks : List ℕ). flag_lines (name ++ codes ".job") ks (taken.on).on) (numbers_back (jobs_of plan.program.jobs thread)) in
    ap (λ (us : List ℕ). us ++ text (job_flags_of (name ++ codes ".job") jobs) (taken.on).on) one
    ∙ ap (λ (us : List ℕ). cell_lines (name ++ codes ".") (map (λ (k : ℕ). slice_index_or (cell_names plan.program.cells) k []) (scope (plan_of plan) thread)) taken.cells ++ us) other

record_text : (plan : Plan) (thread : Thread) (taken : Taken) → Holds (record_of plan thread) taken → text (record_of plan thread) taken ≡ taken_lines (plan_of plan) thread taken
unfolding record_of held_behind
record_text plan thread taken h = go taken.held h.0
  where
    go : (b : Bool) → Holds (and_then (word_line (record_name thread) record_words) (λ word. held_behind plan thread word)) (elim b [ true ↦ (1, (taken.cells, (taken.on).on)) | false ↦ (0, ([], [])) ])
        → text (and_then (word_line (record_name thread) record_words) (λ word. held_behind plan thread word)) (elim b [ true ↦ (1, (taken.cells, (taken.on).on)) | false ↦ (0, ([], [])) ])
        ≡ elim b [ true ↦ line (at (codes "taken") thread.number) (codes "held") ++ held_lines (plan_of plan) thread (at (codes "taken") thread.number) taken | false ↦ line (at (codes "taken") thread.number) (codes "none") ]
    go true h =
        ap (λ (us : List ℕ). us ++ text (held_of plan thread) (taken.cells, (taken.on).on)) (line_is (record_name thread) (codes "held"))
        ∙ ap (λ (us : List ℕ). line (record_name thread) (codes "held") ++ us) (held_text plan thread taken h.1)
        ∙ ap (λ (us : List ℕ). line us (codes "held") ++ held_lines (plan_of plan) thread us taken) (record_is thread)
    go false h =
        append-nil ((title (record_name thread) ++ codes "none;") ++ 10 ∷ []) ∙ line_is (record_name thread) (codes "none")
        ∙ ap (λ (us : List ℕ). line us (codes "none")) (record_is thread)

records_text : (plan : Plan) (threads : List Thread) (records : List Taken) → Holds (each nothing_taken (record_of plan) threads) records
    → text (each nothing_taken (record_of plan) threads) records ≡ all_taken_lines (plan_of plan) threads records
records_text plan [] records h = refl
records_text plan (thread ∷ threads) [] h = let e = h.1 in absurd cc
records_text plan (thread ∷ threads) (taken ∷ records) h =
    ap (λ (us : List ℕ). us ++ text (each nothing_taken (record_of plan) threads) records) (record_text plan thread taken h.0.0)
    ∙ ap (λ (us : List ℕ). taken_lines (plan_of plan) thread taken ++ us) (records_text plan threads records h.0.1)

-- ---- faults
name_of_job : (plan : Plan) (jobs : List Job) (k : ℕ) → k < length jobs
    → get_or (map (λ (job : Job). job_text (job_name plan.program.objects plan.program.methods job) job.instance) jobs) k []
    ≡ job_text (slice_index_or (map (job_name plan.program.objects plan.program.methods) jobs) k []) (job_at jobs k).instance
name_of_job plan [] k lt = absurd (omega arith)
name_of_job plan (job ∷ jobs) zero lt = refl
name_of_job plan (job ∷ jobs) (suc k) lt = name_of_job plan jobs k (omega arith)

kind_is : (kind : FaultKind) → get_or kind_words (kind_place kind) [] ≡ kind_text kind ++ codes " "
kind_is DivideByZero = refl
kind_is IndexOutOfRange = refl

regroup : (tic name instance kind number : List ℕ)
    → (tic ++ codes " ") ++ (((name ++ codes " ") ++ (instance ++ codes " ")) ++ ((kind ++ codes " ") ++ (number ++ codes ";")))
    ≡ (tic ++ codes " " ++ name ++ codes " " ++ instance ++ codes " " ++ kind ++ codes " " ++ number) ++ codes ";"
regroup tic name instance kind number = simp append_assoc

fault_spelled : (plan : Plan) (fault : JobFault) → (fault.job).0 < length plan.program.jobs → spell (fault_code (job_texts plan)) fault ≡ fault_text (plan_of plan) fault ++ codes ";"
fault_spelled plan fault lt =
    let k = (fault.job).0 in
    let name = slice_index_or (plan_of plan).job_names k [] in
    let instance = decimal (job_at plan.program.jobs k).instance in
    ap (λ (us : List ℕ). (decimal fault.tic ++ codes " ") ++ (us ++ (get_or kind_words (kind_place fault.kind) [] ++ (decimal fault.line ++ codes ";")))) (name_of_job plan plan.program.jobs k lt)
    ∙ ap (λ (us : List ℕ). (decimal fault.tic ++ codes " ") ++ (((name ++ codes " ") ++ (instance ++ codes " ")) ++ (us ++ (decimal fault.line ++ codes ";")))) (kind_is fault.kind)
    ∙ regroup (decimal fault.tic) name instance (kind_text fault.kind) (decimal fault.line)

fault_line_text : (plan : Plan) (k : ℕ) (fault : JobFault) → Holds (fault_line (job_texts plan) k) fault
    → text (fault_line (job_texts plan) k) fault ≡ line (at (codes "fault") k) (fault_text (plan_of plan) fault)
unfolding fault_line
fault_line_text plan k fault h =
    let size = length_map (λ (job : Job). job_text (job_name plan.program.objects plan.program.methods job) job.instance) plan.program.jobs in
    ap (λ (us : List ℕ). (title (indexed (codes "fault") k) ++ us) ++ 10 ∷ []) (fault_spelled plan fault (omega (arith, size, h.0.1.0.1.0.0)))
    ∙ line_is (indexed (codes "fault") k) (fault_text (plan_of plan) fault)
    ∙ ap (λ (us : List ℕ). line us (fault_text (plan_of plan) fault)) (at_is (codes "fault") k)

fault_list_text : (plan : Plan) (k count : ℕ) (faults : List JobFault) → Holds (numbered no_fault (fault_line (job_texts plan)) k count) faults
    → text (numbered no_fault (fault_line (job_texts plan)) k count) faults ≡ fault_lines (plan_of plan) k faults
fault_list_text plan k zero faults h = ap (fault_lines (plan_of plan) k) (sym h)
fault_list_text plan k (suc count) [] h = let e = h.1 in absurd cc
fault_list_text plan k (suc count) (fault ∷ faults) h =
    let next : k + 1 ≡ suc k = omega arith in
    ap (λ (us : List ℕ). us ++ text (numbered no_fault (fault_line (job_texts plan)) (k + 1) count) faults) (fault_line_text plan k fault h.0.0)
    ∙ ap (λ (us : List ℕ). line (at (codes "fault") k) (fault_text (plan_of plan) fault) ++ us) (fault_list_text plan (k + 1) count faults h.0.1 ∙ ap (λ (i : ℕ). fault_lines (plan_of plan) i faults) next)

-- ---- the whole
mode_is : (m : Mode) → text mode_line m ≡ line (codes "mode") (mode_text m)
unfolding mode_line
mode_is mode.Run = line_is (codes "mode") (codes "Run")
mode_is mode.Freeze = line_is (codes "mode") (codes "Freeze")
mode_is mode.Shutdown = line_is (codes "mode") (codes "Shutdown")

regrouped : (v n t l d m j e g k c f z : List ℕ) → (v ++ (n ++ (t ++ (l ++ d)))) ++ (m ++ (j ++ (e ++ (g ++ (k ++ ((c ++ f) ++ z))))))
    ≡ v ++ n ++ t ++ l ++ d ++ m ++ j ++ e ++ g ++ k ++ c ++ f ++ z
regrouped v n t l d m j e g k c f z = simp append_assoc

length_zip : {A B : Type 0} (xs : List A) (ys : List B) → map (λ (p : A × B). p.0) (zip xs ys) ≡ xs → map (λ (p : A × B). p.1) (zip xs ys) ≡ ys → (n : ℕ) → length (zip xs ys) ≡ n → (length xs ≡ n) × (length ys ≡ n)
length_zip {A} {B} xs ys e f n size =
    let one = length_map (λ (p : A × B). p.0) (zip xs ys) in
    let other = length_map (λ (p : A × B). p.1) (zip xs ys) in
    (ap length (sym e) ∙ one ∙ size, ap length (sym f) ∙ other ∙ size)

-- the same pieces make the same text
joined : {v w n o t u l k d c m q j i e y g a r b x z f h : List ℕ} → v ≡ w → n ≡ o → t ≡ u → l ≡ k → d ≡ c → m ≡ q → j ≡ i → e ≡ y → g ≡ a → r ≡ b → x ≡ z → f ≡ h
    → (v ++ n ++ t ++ l ++ d ++ m ++ j ++ e ++ g ++ r ++ x ++ f) ++ codes "end;\n" ≡ (w ++ o ++ u ++ k ++ c ++ q ++ i ++ y ++ a ++ b ++ z ++ h) ++ codes "end;\n"
joined p1 p2 p3 p4 p5 p6 p7 p8 p9 p10 p11 p12 = cc

-- The lines of a checkpoint spell the text of the state.
pub spells : (plan : Plan) (s : State) → Holds (checkpoint plan) s → text (checkpoint plan) s ≡ checkpoint_text (plan_of plan) s
unfolding checkpoint head_lines memory_of flags_of groups_of records_of faults_lines faults_of
spells plan s h =
    let p = plan_of plan in
    let rows = zip (s.groups).on s.last in
    let lines = h.0.1 in
    let sizes = length_zip (s.groups).on s.last (ap (λ (u : State). (u.groups).on) h.1) (ap (λ (u : State). u.last) h.1) (length plan.groups)
    (length-each (false, None) (group_of plan) (enumerate_from 0 plan.groups) rows lines.1.1.1.0 ∙ length-enumerate_from 0 plan.groups) in
    let version = line_is (codes "checkpoint") (decimal 1) ∙ ap (λ (us : List ℕ). line (codes "checkpoint") us) (decimal_digit 1 (omega arith)) in
    let turn = line_is (codes "turn") (decimal s.turn) in
    let tic = line_is (codes "tic") (decimal s.tic) in
    let limit = line_is (codes "limit") (decimal s.limit) in
    let mode = mode_is s.mode in
    let memory = memory_text plan.program.cells s.memory (length-each (pos 0) (λ (v : Variable). integer_line v.name (range_of v.scalar)) plan.program.cells s.memory lines.0) in
    let jobs = numbered_flags (codes "job") 0 (length plan.program.jobs) (s.jobs).on (length-numbered false (λ k. flag_line (indexed (codes "job") k)) 0 (length plan.program.jobs) (s.jobs).on lines.1.0) in
    let events = numbered_flags (codes "event") 0 (length plan.events) (s.events).on (length-numbered false (λ k. flag_line (indexed (codes "event") k)) 0 (length plan.events) (s.events).on lines.1.1.0) in
    let groups = groups_text plan 0 plan.groups (s.groups).on s.last sizes.0 sizes.1 lines.1.1.1.0 in
    let records = records_text plan (threads_beside p) s.taken lines.1.1.1.1.0 in
    let count = line_is (codes "faults") (decimal (s.faults).count) in
    let faults = fault_list_text plan 0 (min (s.faults).count kept) (s.faults).first lines.1.1.1.1.1.0.0.1 in
    regrouped (spelled (codes "checkpoint") (decimal 1)) (spelled (codes "turn") (decimal s.turn)) (spelled (codes "tic") (decimal s.tic))
    (spelled (codes "limit") (decimal s.limit)) (text mode_line s.mode)
    (text (each (pos 0) (λ (v : Variable). integer_line v.name (range_of v.scalar)) plan.program.cells) s.memory)
    (text (numbered false (λ j. flag_line (indexed (codes "job") j)) 0 (length plan.program.jobs)) (s.jobs).on)
    (text (numbered false (λ j. flag_line (indexed (codes "event") j)) 0 (length plan.events)) (s.events).on)
    (text (each (false, None) (group_of plan) (enumerate_from 0 plan.groups)) rows)
    (text (each nothing_taken (record_of plan) (threads_beside p)) s.taken)
    (spelled (codes "faults") (decimal (s.faults).count))
    (text (numbered no_fault (fault_line (job_texts plan)) 0 (min (s.faults).count kept)) (s.faults).first) (codes "end;\n")
    ∙ joined version turn tic limit mode memory jobs events groups records count faults
