-- The jobs of a thread, and what is held for it.
use Rattle.std.proofs.Common.{◌≡◌, ℕ, zero, suc, ◌+◌, ◌<◌, cond, List, [], ◌∷◌, ◌++◌, length, drop, get_or, map, refl, ap, ◌∙◌, arith}
use Rattle.std.proofs.lemmas.List.{at_drop_more}
use Rattle.std.specs.Prelude.{filter, ◌==◌, codes}
use Rattle.trick_chkpt_printer.specs.Parts.{held_of}
use Rattle.trick_lang.specs.declared.cells.Cell.{Cell}
use Rattle.trick_lang.specs.declared.job.Job.{Job}
use Rattle.trick_lang.specs.declared.job.JobId.{JobId}
use Rattle.trick_model.specs.Access.{scope}
use Rattle.trick_model.specs.Checkpoint.{cell_lines, flag_lines, held_lines}
use Rattle.trick_model.specs.NameAt.{name_at}
use Rattle.trick_model.specs.Plan.{Plan, jobs_of, no_job, numbers_from, thread_of}
use Rattle.trick_model.specs.declared.taken.Taken.{Taken}
use Rattle.trick_model.specs.declared.thread.Thread.{Thread}

at_other : {A : Type 0} (xs : List A) (k : ℕ) (d e : A) → k < length xs → get_or xs k d ≡ get_or xs k e
at_other [] k d e lt = absurd (omega arith)
at_other (x ∷ xs) zero d e lt = refl
at_other (x ∷ xs) (suc k) d e lt = at_other xs k d e (omega arith)

-- the next job is one of the thread, or it is not
pub next_job : (jobs : List Job) (number k : ℕ) (d : Job) → k < length jobs
    → filter (λ j. thread_of jobs j == number) (numbers_from k (drop k jobs))
    ≡ cond ((get_or jobs k d).thread == number) (k ∷ filter (λ j. thread_of jobs j == number) (numbers_from (k + 1) (drop (k + 1) jobs)))
    (filter (λ j. thread_of jobs j == number) (numbers_from (k + 1) (drop (k + 1) jobs)))
next_job jobs number k d lt =
    let others = filter (λ j. thread_of jobs j == number) (numbers_from (k + 1) (drop (k + 1) jobs)) in
    let more : suc k ≡ k + 1 = omega arith in
    at_drop_more (λ us. filter (λ j. thread_of jobs j == number) (numbers_from k us)) jobs k no_job lt
    ∙ ap (λ (i : ℕ). filter (λ j. thread_of jobs j == number) (k ∷ numbers_from i (drop (k + 1) jobs))) more
    ∙ ap (λ (job : Job). cond (job.thread == number) (k ∷ others) others) (at_other jobs k no_job d lt)

names_of : (names : List (List ℕ)) (cells : List Cell)
    → map (λ (cell : Cell). name_at names cell.0) cells
    ≡ map (name_at names) (map (λ (cell : Cell). cell.0) cells)
names_of names [] = refl
names_of names (cell ∷ cells) = ap (λ (us : List (List ℕ)). name_at names cell.0 ∷ us) (names_of names cells)

-- what is held for a thread, of the cells of its scope and of its jobs
pub held_by : (p : Plan) (thread : Thread) (taken : Taken) (name : List ℕ) (cells : List Cell) (jobs : List JobId)
    → map (λ (cell : Cell). cell.0) cells ≡ scope p thread → map (λ (job : JobId). job.0) jobs ≡ jobs_of p.jobs thread
    → held_of p.names name cells jobs taken ≡ held_lines p thread name taken
held_by p thread taken name cells jobs in_scope of_thread =
    let names : map (λ (cell : Cell). name_at p.names cell.0) cells
    ≡ map (name_at p.names) (scope p thread) =
    names_of p.names cells ∙ ap (map (name_at p.names)) in_scope in
    ap (λ (us : List (List ℕ)). cell_lines (name ++ codes ".") us taken.cells
    ++ flag_lines (name ++ codes ".job") (map (λ (job : JobId). job.0) jobs) taken.on.on) names
    ∙ ap (λ (ks : List ℕ). cell_lines (name
    ++ codes ".") (map (name_at p.names) (scope p thread)) taken.cells
    ++ flag_lines (name ++ codes ".job") ks taken.on.on) of_thread
