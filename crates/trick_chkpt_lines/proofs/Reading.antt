-- Reading the parts of a checkpoint one after the other.
use Rattle.std.proofs.Common.{◌≡◌, ℕ, suc, ◌+◌, ◌<◌, Bool, false, List, [], ◌∷◌, ◌++◌, length, drop, get_or, map, Option, None, Ok, refl, sym, ap, ◌∙◌, arith}
use Rattle.std.proofs.lemmas.List.{at_drop_more}
use Rattle.std.specs.List.{enumerate_from, zip}
use Rattle.std.specs.Prelude.{ℤ, codes}
use Rattle.trick_chkpt_lines.specs.CheckpointLines.{Head, checkpoint, flags_of, group_of, groups_of, head_lines, last_line, memory_of, records_of, state_at}
use Rattle.trick_chkpt_lines.specs.Faults.{faults_lines, job_texts}
use Rattle.trick_chkpt_lines.specs.Ranges.{ranges_at}
use Rattle.trick_codes.proofs.Each.{lines_go_on, lines_left}
use Rattle.trick_codes.specs.Forms.{kind_of}
use Rattle.trick_codes.specs.Lines.{Seen, line, read_lines}
use Rattle.trick_codes.specs.Named.{end_line, indexed, named, none_or, row}
use Rattle.trick_codes.specs.declared.range.Range.{Range}
use Rattle.trick_lang.specs.declared.cells.Cell.{Cell}
use Rattle.trick_lang.specs.declared.job.JobId.{JobId}
use Rattle.trick_model.specs.FaultList.{FaultList}
use Rattle.trick_model.specs.declared.group.Group.{Group}
use Rattle.trick_model.specs.declared.plan.Plan.{Plan}
use Rattle.trick_model.specs.declared.taken.Taken.{Taken}

-- ---- two lists side by side

pub zip_more : {A B : Type 0} (xs : List A) (ys : List B) (x : A) (y : B) → length xs ≡ length ys
    → zip (xs ++ x ∷ []) (ys ++ y ∷ []) ≡ zip xs ys ++ (x, y) ∷ []
zip_more [] [] x y e = refl
zip_more [] (b ∷ ys) x y e = absurd (omega arith)
zip_more (a ∷ xs) [] x y e = absurd (omega arith)
zip_more (a ∷ xs) (b ∷ ys) x y e = ap (λ zs. (a, b) ∷ zs) (zip_more xs ys x y (omega arith))

pub firsts_of : {A B : Type 0} (xs : List A) (ys : List B) → length xs ≡ length ys → map (λ (z : A × B). z.0) (zip xs ys) ≡ xs
firsts_of [] [] e = refl
firsts_of [] (b ∷ ys) e = absurd (omega arith)
firsts_of (a ∷ xs) [] e = absurd (omega arith)
firsts_of {A} {B} (a ∷ xs) (b ∷ ys) e = ap (λ (zs : List A). a ∷ zs) (firsts_of xs ys (omega arith))

pub seconds_of : {A B : Type 0} (xs : List A) (ys : List B) → length xs ≡ length ys → map (λ (z : A × B). z.1) (zip xs ys) ≡ ys
seconds_of [] [] e = refl
seconds_of [] (b ∷ ys) e = absurd (omega arith)
seconds_of (a ∷ xs) [] e = absurd (omega arith)
seconds_of {A} {B} (a ∷ xs) (b ∷ ys) e = ap (λ (zs : List B). b ∷ zs) (seconds_of xs ys (omega arith))

-- ---- groups

module _ (plan : Plan) where
  -- what is read in all of the groups from the kth on, where some were found already
  abbrev pub groups_left : ℕ → List Group → List (Bool × Option (List ℤ)) → List ℕ → Seen (List (Bool × Option (List ℤ)))
  groups_left k groups found rest = lines_left (false, None) (group_of plan) (enumerate_from k groups) found rest

  pub groups_go_on : (groups : List Group) (k : ℕ) (none : Group) (found grown : List (Bool × Option (List ℤ))) (x : Bool × Option (List ℤ))
      (rest after : List ℕ) (total : Seen (List (Bool × Option (List ℤ)))) → k < length groups
      → read_lines (group_of plan (k, get_or groups k none)) rest ≡ Ok (x, after) → grown ≡ found ++ x ∷ []
      → groups_left k (drop k groups) found rest ≡ total → groups_left (k + 1) (drop (k + 1) groups) grown after ≡ total
  groups_go_on groups k none found grown x rest after total lt e g so_far =
      let key : ℕ × Group = (k, get_or groups k none) in
      lines_go_on (false, None) (group_of plan) (key ∷ enumerate_from (k + 1) (drop (k + 1) groups)) 0 key found grown x rest after total
      (omega arith) e g (sym (at_drop_more (λ gs. groups_left k gs found rest) groups k none lt) ∙ so_far)

-- ---- the whole

pub state_read : (plan : Plan) (head : Head) (memory : List ℤ) (jobs events : List Bool) (groups : List (Bool × Option (List ℤ)))
    (taken : List Taken) (faults : FaultList) (t0 t1 t2 t3 t4 t5 t6 t7 t8 : List ℕ)
    → read_lines head_lines t0 ≡ Ok (head, t1) → read_lines (memory_of plan) t1 ≡ Ok (memory, t2)
    → read_lines (flags_of (codes "job") (length plan.program.jobs)) t2 ≡ Ok (jobs, t3)
    → read_lines (flags_of (codes "event") (length plan.events)) t3 ≡ Ok (events, t4)
    → read_lines (groups_of plan) t4 ≡ Ok (groups, t5) → read_lines (records_of plan) t5 ≡ Ok (taken, t6)
    → read_lines (faults_lines (job_texts plan)) t6 ≡ Ok (faults, t7) → read_lines end_line t7 ≡ Ok (tt, t8)
    → read_lines (checkpoint plan) t0 ≡ Ok (state_at (head, (memory, (jobs, (events, (groups, (taken, (faults, tt))))))), t8)
unfolding checkpoint
state_read plan head memory jobs events groups taken faults t0 t1 t2 t3 t4 t5 t6 t7 t8 a b c d e f g h = rw (a, b, c, d, e, f, g, h) refl

-- what the lines say, as the state that is made of it
pub state_is : (head : Head) (memory : List ℤ) (jobs events on : List Bool) (rows : List (Option (List ℤ))) (taken : List Taken) (faults : FaultList)
    → length on ≡ length rows
    → state_at (head, (memory, (jobs, (events, (zip on rows, (taken, (faults, tt)))))))
    ≡ record {
      turn = head.0;
      tic = head.1.0;
      limit = head.1.1.0;
      mode = head.1.1.1;
      memory = memory;
      jobs = record { on = jobs };
      events = record { on = events };
      groups = record { on = on };
      last = rows;
      taken = taken;
      faults = faults;
    }
state_is head memory jobs events on rows taken faults e =
    ap (λ (gs : List Bool). record {
      turn = head.0;
      tic = head.1.0;
      limit = head.1.1.0;
      mode = head.1.1.1;
      memory = memory;
      jobs = record { on = jobs };
      events = record { on = events };
      groups = record { on = gs };
      last = map (λ (g : Bool × Option (List ℤ)). g.1) (zip on rows);
      taken = taken;
      faults = faults;
    })
    (firsts_of on rows e)
    ∙ ap (λ (rs : List (Option (List ℤ))). record {
      turn = head.0;
      tic = head.1.0;
      limit = head.1.1.0;
      mode = head.1.1.1;
      memory = memory;
      jobs = record { on = jobs };
      events = record { on = events };
      groups = record { on = on };
      last = rs;
      taken = taken;
      faults = faults;
    })
    (seconds_of on rows e)

-- ---- last rows

length-ranges : (plan : Plan) (cells : List Cell) → length (ranges_at plan cells) ≡ length cells
length-ranges plan [] = refl
length-ranges plan (cell ∷ cells) = ap suc (length-ranges plan cells)

pub last_line_is : (plan : Plan) (k : ℕ) (group : Group) (name : List ℕ) (ranges : List Range) (rest : List ℕ) → name ≡ indexed (codes "last") k
    → ranges ≡ ranges_at plan group.cells
    → read_lines (line (kind_of name (length ranges)) (named name (none_or (row ranges)))) rest ≡ read_lines (last_line plan k group) rest
unfolding last_line
last_line_is plan k group name ranges rest e f =
    let due = indexed (codes "last") k in
    let all = ranges_at plan group.cells in
    ap (λ (n : List ℕ). read_lines (line (kind_of n (length ranges)) (named n (none_or (row ranges)))) rest) e
    ∙ ap (λ (rs : List Range). read_lines (line (kind_of due (length rs)) (named due (none_or (row rs)))) rest) f
    ∙ ap (λ (n : ℕ). read_lines (line (kind_of due n) (named due (none_or (row all)))) rest) (length-ranges plan group.cells)

-- ---- numbers of cells and jobs

pub cells_from : (cells : List Cell) (ks : List ℕ) → map (λ (cell : Cell). cell.0) cells ≡ ks → cells ≡ map (λ (k : ℕ). record { 0 = k }) ks
cells_from cells ks e = go cells ∙ ap (map (λ (k : ℕ). record { 0 = k })) e
  where
    go : (cells : List Cell) → cells ≡ map (λ (k : ℕ). record { 0 = k }) (map (λ (cell : Cell). cell.0) cells)
    go [] = refl
    go (cell ∷ cells) = ap (λ (cs : List Cell). cell ∷ cs) (go cells)

pub jobs_from : (jobs : List JobId) (ks : List ℕ) → map (λ (job : JobId). job.0) jobs ≡ ks → jobs ≡ map (λ (k : ℕ). record { 0 = k }) ks
jobs_from jobs ks e = go jobs ∙ ap (map (λ (k : ℕ). record { 0 = k })) e
  where
    go : (jobs : List JobId) → jobs ≡ map (λ (k : ℕ). record { 0 = k }) (map (λ (job : JobId). job.0) jobs)
    go [] = refl
    go (job ∷ jobs) = ap (λ (js : List JobId). job ∷ js) (go jobs)
