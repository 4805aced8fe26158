-- What is left before a due job on its thread: ranked at an open, kept by takes, and lowered by commits.
use Rattle.std.proofs.Common.{◌≡◌, ◌⊎◌, inl, inr, ℕ, ◌+◌, ◌-◌, ◌<◌, ◌≤◌, ◌==◌, ◌||◌, Bool, true, false, cond, List, [], ◌∷◌, length, IsTrue, refl, sym, ◌∙◌, ap, subst, arith}
use Rattle.std.proofs.lemmas.Bool.{cases_Bool, cases_eq, eq-eqb, eqb-true, false≢true, ne_eqb}
use Rattle.std.proofs.lemmas.List.{get_or-set_other, get_or-set_same, length-replicate}
use Rattle.std.specs.Prelude.{replicate, slice_set}
use Rattle.trick_base.proofs.Numbers.{zero_at_most}
use Rattle.trick_phase_board.proofs.Counting.{closed_one, occurrences, occurs_once, one_less, open_kept, same_open, was_due}
use Rattle.trick_phase_board.proofs.Own.{all_open, before_fewer, before_thread, before_within, rank_splits}
use Rattle.trick_phase_board.proofs.Stages.{all_idle}
use Rattle.trick_phase_board.specs.Board.{AreDueAmong}
use Rattle.trick_phase_board.specs.Counts.{AreInTurn, AreRanked, before_on, count_at, many_on, one_if, open_among, own_anew, own_at, rank_in}
use Rattle.trick_phase_board.specs.Search.{is_open}
use Rattle.trick_phase_board.specs.Tables.{thread_in}
use Rattle.trick_phase_board.specs.declared.tables.Tables.{Tables}
use Rattle.trick_lang.specs.declared.job.Job.{Job}
use Rattle.trick_lang.specs.declared.job.JobId.{JobId}
use Rattle.trick_model.specs.Laws.{AreInKeyOrder, is_among}
use Rattle.trick_model.specs.Valid.{ids}
use Rattle.trick_phase_schedules.proofs.History.{waiting_at}
use Rattle.trick_phase_schedules.proofs.Keys.{among_cases, none_among}
use Rattle.trick_phase_schedules.specs.Play.{is_due, is_taken, stage_at, with_waiting}
use Rattle.trick_phase_schedules.specs.declared.stage.Stage.{Stage}
use Rattle.trick_phase_schedules.specs.declared.stage.Stage.TheVariants.{Idle, InFlight, Waiting}

-- ---- how often a job is before another one

occurs_some : (k : ℕ) (ks : List ℕ) → IsTrue (is_among k ks) → 1 ≤ occurrences k ks
occurs_some k [] among = absurd (none_among k among)
occurs_some k (j ∷ ks) among = by_place (occurs_some k ks) (among_cases k j ks among)
  where
    by_place : (IsTrue (is_among k ks) → 1 ≤ occurrences k ks) → (j ≡ k) ⊎ IsTrue (is_among k ks) → 1 ≤ one_if (j == k) + occurrences k ks
    by_place others (inl same) = let here : one_if (j == k) ≡ 1 = ap one_if (eq-eqb j k same) in omega (arith, here)
    by_place others (inr later) = let rest = others later in omega (arith, rest)

occurs_none : (k : ℕ) (ks : List ℕ) → is_among k ks ≡ false → occurrences k ks ≡ 0
occurs_none k [] none = refl
occurs_none k (j ∷ ks) none = by_test (occurs_none k ks) (j == k) none
  where
    by_test : (is_among k ks ≡ false → occurrences k ks ≡ 0) → (b : Bool) → (b || is_among k ks) ≡ false → one_if b + occurrences k ks ≡ 0
    by_test others true none = cc
    by_test others false none = let rest = others none in omega (arith, rest)

at_most_one : (b : Bool) → one_if b ≤ 1
at_most_one true = omega arith
at_most_one false = omega arith

-- in key order a job is there at most once
pub once : (all : List Job) (ks : List ℕ) → AreInKeyOrder all ks → (k : ℕ) → occurrences k ks ≤ 1
once all ks ordered k = subst (λ (n : ℕ). n ≤ 1) (sym (occurs_once all ks k ordered)) (at_most_one (is_among k ks))

both_more : (n a b : ℕ) → a ≤ b → n + a ≤ n + b
both_more n a b less = omega (arith, less)

one_more : (n a b : ℕ) → a ≤ b → a ≤ n + b
one_more n a b less = omega (arith, less)

before_occurs : (tables : Tables) (thread j k : ℕ) (jobs : List JobId)
    → occurrences j (ids (before_on tables thread k jobs)) ≤ occurrences j (ids jobs)
before_occurs tables thread j k [] = zero_at_most 0
before_occurs tables thread j k (job ∷ jobs) =
    by_test (before_occurs tables thread j k jobs) (job.0 == k) (thread_in tables job.0 == thread)
  where
    by_test : occurrences j (ids (before_on tables thread k jobs)) ≤ occurrences j (ids jobs) → (here on : Bool)
        → occurrences j (ids (cond here [] (cond on (job ∷ before_on tables thread k jobs) (before_on tables thread k jobs))))
        ≤ one_if (job.0 == j) + occurrences j (ids jobs)
    by_test others true on = zero_at_most _
    by_test others false true = both_more (one_if (job.0 == j)) _ _ others
    by_test others false false = one_more (one_if (job.0 == j)) _ _ others

-- ---- at first

-- where no job is due nothing is ranked
pub none_ranked : (tables : Tables) (due : List JobId) (n : ℕ) (ranks left : List ℕ) → AreRanked tables due (replicate n Idle) ranks left
none_ranked tables due n ranks left k is = absurd (false≢true (sym (ap is_due (all_idle n k)) ∙ is))

pub none_in_turn : (tables : Tables) (due : List JobId) (n : ℕ) → AreInTurn tables due (replicate n Idle)
none_in_turn tables due n k taken = absurd (false≢true (sym (ap is_taken (all_idle n k)) ∙ taken))

-- ---- an open

-- the stage of a job at an open
opened_stage : (ks : List ℕ) (n : ℕ) → ((k : ℕ) → IsTrue (is_among k ks) → k < n) → (k : ℕ)
    → stage_at (with_waiting ks (replicate n Idle)) k ≡ cond (is_among k ks) Waiting Idle
opened_stage ks n there k =
    waiting_at ks (replicate n Idle) k (λ i among. subst (λ (m : ℕ). i < m) (sym (length-replicate n Idle)) (there i among))
    ∙ ap (λ (s : Stage). cond (is_among k ks) Waiting s) (all_idle n k)

not_taken : (b : Bool) → is_taken (cond b Waiting Idle) ≡ false
not_taken true = refl
not_taken false = refl

-- no job is taken
pub opened_in_turn : (tables : Tables) (due : List JobId) (ks : List ℕ) (n : ℕ) → ((k : ℕ) → IsTrue (is_among k ks) → k < n)
    → AreInTurn tables due (with_waiting ks (replicate n Idle))
opened_in_turn tables due ks n there k taken =
    absurd (false≢true (sym (ap is_taken (opened_stage ks n there k) ∙ not_taken (is_among k ks)) ∙ taken))

-- all due jobs are open, so what is left before each is what its rank leaves
pub opened_ranked : (tables : Tables) (due : List JobId) (n : ℕ) (ranks left : List ℕ) → ((k : ℕ) → IsTrue (is_among k (ids due)) → k < n)
    → ((k : ℕ) → IsTrue (is_among k (ids due)) → count_at ranks k ≡ rank_in tables (thread_in tables k) k due)
    → ((thread : ℕ) → count_at left thread ≡ many_on tables thread due)
    → AreDueAmong (ids due) (with_waiting (ids due) (replicate n Idle))
    → AreRanked tables due (with_waiting (ids due) (replicate n Idle)) ranks left
opened_ranked tables due n ranks left there ranked many among k is =
    let stages = with_waiting (ids due) (replicate n Idle) in
    let thread = thread_in tables k in
    let rank = ranked k (among k is) in
    let all = many thread in
    let splits = rank_splits tables thread k due in
    let opens : open_among stages (before_on tables thread k due) ≡ length (before_on tables thread k due) =
    all_open stages (before_on tables thread k due)
    (λ a before. ap is_open (opened_stage (ids due) n there a ∙ ap (λ (b : Bool). cond b Waiting Idle) (before_within tables thread k due a before))) in
    omega (arith, rank, all, splits, opens)

-- ---- the jobs are ranked one by one, from the last one on

pub left_more : (tables : Tables) (left : List ℕ) (job : JobId) (rest : List JobId) (n : ℕ)
    → n ≡ count_at left (thread_in tables job.0) + 1 → thread_in tables job.0 < length left
    → ((t : ℕ) → count_at left t ≡ many_on tables t rest)
    → (t : ℕ) → count_at (slice_set left (thread_in tables job.0) n) t ≡ many_on tables t (job ∷ rest)
left_more tables left job rest n is less many t = by_case (cases_eq t (thread_in tables job.0))
  where
    by_case : (t ≡ thread_in tables job.0) ⊎ (t ≡ thread_in tables job.0 → ⊥)
        → count_at (slice_set left (thread_in tables job.0) n) t ≡ one_if (thread_in tables job.0 == t) + many_on tables t rest
    by_case (inl same) =
        let here : one_if (thread_in tables job.0 == t) ≡ 1 = ap one_if (eq-eqb (thread_in tables job.0) t (sym same)) in
        let now : count_at (slice_set left (thread_in tables job.0) n) t ≡ n =
        subst (λ (i : ℕ). count_at (slice_set left (thread_in tables job.0) n) i ≡ n) (sym same) (get_or-set_same left (thread_in tables job.0) n 0 less) in
        let was : count_at left (thread_in tables job.0) ≡ many_on tables t rest = ap (count_at left) (sym same) ∙ many t in
        omega (arith, here, now, was, is)
    by_case (inr other) =
        let not_here : one_if (thread_in tables job.0 == t) ≡ 0 = ap one_if (ne_eqb (thread_in tables job.0) t (λ same. other (sym same))) in
        let kept : count_at (slice_set left (thread_in tables job.0) n) t ≡ count_at left t =
        get_or-set_other left (thread_in tables job.0) t n 0 other in
        let was = many t in
        omega (arith, not_here, kept, was)

-- the rank of a job in front of those that are ranked
pub first_rank : (tables : Tables) (left : List ℕ) (job : JobId) (rest : List JobId)
    → count_at left (thread_in tables job.0) ≡ many_on tables (thread_in tables job.0) rest
    → count_at left (thread_in tables job.0) + 1 ≡ many_on tables (thread_in tables job.0) (job ∷ rest)
first_rank tables left job rest many =
    let here : one_if (thread_in tables job.0 == thread_in tables job.0) ≡ 1 =
    ap one_if (eq-eqb (thread_in tables job.0) (thread_in tables job.0) refl) in
    let right : count_at left (thread_in tables job.0) + 1
    ≡ one_if (thread_in tables job.0 == thread_in tables job.0) + many_on tables (thread_in tables job.0) rest = omega (arith, here, many) in
    right

pub few_more : (left : List ℕ) (at_ n most : ℕ) → n ≡ count_at left at_ + 1 → at_ < length left → ((t : ℕ) → count_at left t ≤ most)
    → (t : ℕ) → count_at (slice_set left at_ n) t ≤ most + 1
few_more left at_ n most is less few t = by_case (cases_eq t at_)
  where
    by_case : (t ≡ at_) ⊎ (t ≡ at_ → ⊥) → count_at (slice_set left at_ n) t ≤ most + 1
    by_case (inl same) =
        let now : count_at (slice_set left at_ n) t ≡ n =
        subst (λ (i : ℕ). count_at (slice_set left at_ n) i ≡ n) (sym same) (get_or-set_same left at_ n 0 less) in
        let was = few at_ in
        omega (arith, now, was, is)
    by_case (inr other) =
        let kept : count_at (slice_set left at_ n) t ≡ count_at left t = get_or-set_other left at_ t n 0 other in
        let was = few t in
        omega (arith, kept, was)

pub rank_more : (tables : Tables) (ranks : List ℕ) (job : JobId) (rest : List JobId) (n k : ℕ)
    → n ≡ many_on tables (thread_in tables job.0) (job ∷ rest) → job.0 < length ranks
    → (IsTrue (is_among k (ids rest)) → count_at ranks k ≡ rank_in tables (thread_in tables k) k rest)
    → IsTrue (is_among k (ids (job ∷ rest))) → count_at (slice_set ranks job.0 n) k ≡ rank_in tables (thread_in tables k) k (job ∷ rest)
rank_more tables ranks job rest n k right less others among = by_test (job.0 == k) refl
  where
    by_test : (b : Bool) → (job.0 == k) ≡ b → count_at (slice_set ranks job.0 n) k
        ≡ cond b (many_on tables (thread_in tables k) (job ∷ rest)) (rank_in tables (thread_in tables k) k rest)
    by_test true e =
        subst (λ (i : ℕ). count_at (slice_set ranks job.0 n) i ≡ many_on tables (thread_in tables i) (job ∷ rest)) (eqb-true job.0 k e)
        (get_or-set_same ranks job.0 n 0 less ∙ right)
    by_test false e =
        get_or-set_other ranks job.0 k n 0 (λ same. false≢true (sym e ∙ eq-eqb job.0 k (sym same)))
        ∙ elim (among_cases k job.0 (ids rest) among) [
          | inl same ↦ absurd (false≢true (sym e ∙ eq-eqb job.0 k same))
          | inr later ↦ others later
        ]

-- ---- a take

-- a take leaves what is left before each job
pub take_ranked : (tables : Tables) (due : List JobId) (stages : List Stage) (ranks left : List ℕ) (k : ℕ) → stage_at stages k ≡ Waiting
    → AreRanked tables due stages ranks left → AreRanked tables due (slice_set stages k InFlight) ranks left
take_ranked tables due stages ranks left k waits are i is =
    are i (was_due stages k InFlight (ap is_open waits) i is)
    ∙ sym (same_open stages (slice_set stages k InFlight) (before_on tables (thread_in tables i) i due) (open_kept stages k InFlight (sym (ap is_open waits))))

-- it takes a job before which nothing is left
pub take_in_turn : (tables : Tables) (due : List JobId) (stages : List Stage) (k : ℕ) → stage_at stages k ≡ Waiting
    → own_anew tables due stages k ≡ 0 → AreInTurn tables due stages → AreInTurn tables due (slice_set stages k InFlight)
take_in_turn tables due stages k waits none are i taken =
    same_open stages (slice_set stages k InFlight) (before_on tables (thread_in tables i) i due) (open_kept stages k InFlight (sym (ap is_open waits)))
    ∙ elim (cases_eq i k) [
      | inl same ↦ subst (λ (n : ℕ). own_anew tables due stages n ≡ 0) (sym same) none
      | inr other ↦ are i (sym (ap is_taken (get_or-set_other stages k i InFlight Idle other)) ∙ taken)
    ]

-- the same where all is that of before
pub start_ranked : (tables now_tables : Tables) (due now_due : List JobId) (stages now_stages new : List Stage) (ranks now_ranks left now_left : List ℕ) (k : ℕ)
    → now_tables ≡ tables → now_due ≡ due → now_stages ≡ stages → now_ranks ≡ ranks → now_left ≡ left → new ≡ slice_set now_stages k InFlight
    → stage_at stages k ≡ Waiting → AreRanked tables due stages ranks left → AreRanked now_tables now_due new now_ranks now_left
start_ranked tables now_tables due now_due stages now_stages new ranks now_ranks left now_left k same_tables same_due same_stages same_ranks same_left set waits are =
    subst (λ (l : List Stage). AreRanked now_tables now_due l now_ranks now_left) (sym (set ∙ ap (λ (l : List Stage). slice_set l k InFlight) same_stages))
    (subst (λ (l : List ℕ). AreRanked now_tables now_due (slice_set stages k InFlight) now_ranks l) (sym same_left)
    (subst (λ (l : List ℕ). AreRanked now_tables now_due (slice_set stages k InFlight) l left) (sym same_ranks)
    (subst (λ (l : List JobId). AreRanked now_tables l (slice_set stages k InFlight) ranks left) (sym same_due)
    (subst (λ (t : Tables). AreRanked t due (slice_set stages k InFlight) ranks left) (sym same_tables)
    (take_ranked tables due stages ranks left k waits are)))))

pub start_in_turn : (tables now_tables : Tables) (due now_due : List JobId) (stages now_stages new : List Stage) (k : ℕ)
    → now_tables ≡ tables → now_due ≡ due → now_stages ≡ stages → new ≡ slice_set now_stages k InFlight
    → stage_at stages k ≡ Waiting → own_anew tables due stages k ≡ 0 → AreInTurn tables due stages → AreInTurn now_tables now_due new
start_in_turn tables now_tables due now_due stages now_stages new k same_tables same_due same_stages set waits none are =
    subst (λ (l : List Stage). AreInTurn now_tables now_due l) (sym (set ∙ ap (λ (l : List Stage). slice_set l k InFlight) same_stages))
    (subst (λ (l : List JobId). AreInTurn now_tables l (slice_set stages k InFlight)) (sym same_due)
    (subst (λ (t : Tables). AreInTurn t due (slice_set stages k InFlight)) (sym same_tables)
    (take_in_turn tables due stages k waits none are)))

-- ---- a commit

-- what a commit leaves open before a job
before_after : (tables : Tables) (due : List JobId) (stages : List Stage) (j k : ℕ) (s : Stage) → IsTrue (is_open (stage_at stages j)) → is_open s ≡ false
    → own_anew tables due (slice_set stages j s) k + occurrences j (ids (before_on tables (thread_in tables k) k due)) ≡ own_anew tables due stages k
before_after tables due stages j k s opens shut = closed_one stages j s (before_on tables (thread_in tables k) k due) opens shut

-- of another thread no job is before it
other_before : (tables : Tables) (due : List JobId) (j k : ℕ) → (thread_in tables k ≡ thread_in tables j → ⊥)
    → occurrences j (ids (before_on tables (thread_in tables k) k due)) ≡ 0
other_before tables due j k other = elim (cases_Bool (is_among j (ids (before_on tables (thread_in tables k) k due)))) [
  | inl on ↦ absurd (other (sym (before_thread tables (thread_in tables k) k due j on)))
  | inr off ↦ occurs_none j (ids (before_on tables (thread_in tables k) k due)) off
]

-- what is kept, where a job of the same thread is committed
own_lower : (tables : Tables) (due : List JobId) (stages : List Stage) (j k was rank after : ℕ) → occurrences j (ids due) ≤ 1
    → thread_in tables k ≡ thread_in tables j → own_anew tables due stages j ≡ 0 → was - rank ≡ own_anew tables due stages k
    → after + occurrences j (ids (before_on tables (thread_in tables k) k due)) ≡ own_anew tables due stages k → was - 1 - rank ≡ after
own_lower tables due stages j k was rank after only same none kept closed =
    by_test (cases_Bool (is_among j (ids (before_on tables (thread_in tables k) k due))))
  where
    by_test : (is_among j (ids (before_on tables (thread_in tables k) k due)) ≡ true) ⊎ (is_among j (ids (before_on tables (thread_in tables k) k due)) ≡ false)
        → was - 1 - rank ≡ after
    by_test (inl on) =
        let some = occurs_some j (ids (before_on tables (thread_in tables k) k due)) on in
        let few = before_occurs tables (thread_in tables k) j k due in
        omega (arith, some, few, only, kept, closed)
    by_test (inr off) =
        let zero_ = occurs_none j (ids (before_on tables (thread_in tables k) k due)) off in
        let fewer = before_fewer stages tables (thread_in tables k) j k due (sym same) (λ on. false≢true (sym off ∙ on)) in
        let shut : open_among stages (before_on tables (thread_in tables k) j due) ≡ 0 =
        ap (λ (t : ℕ). open_among stages (before_on tables t j due)) same ∙ none in
        omega (arith, zero_, fewer, shut, kept, closed)

-- a commit lowers what is left of its thread
pub commit_ranked : (tables : Tables) (due : List JobId) (stages : List Stage) (ranks left : List ℕ) (j : ℕ) (s : Stage)
    → occurrences j (ids due) ≤ 1 → IsTrue (is_open (stage_at stages j)) → is_open s ≡ false → own_anew tables due stages j ≡ 0
    → AreRanked tables due stages ranks left
    → AreRanked tables due (slice_set stages j s) ranks (slice_set left (thread_in tables j) (count_at left (thread_in tables j) - 1))
commit_ranked tables due stages ranks left j s only opens shut none are k is =
    by_thread (cases_eq (thread_in tables k) (thread_in tables j)) (are k (was_due stages j s opens k is)) (before_after tables due stages j k s opens shut)
  where
    by_thread : (thread_in tables k ≡ thread_in tables j) ⊎ (thread_in tables k ≡ thread_in tables j → ⊥)
        → own_at tables ranks left k ≡ own_anew tables due stages k
        → own_anew tables due (slice_set stages j s) k + occurrences j (ids (before_on tables (thread_in tables k) k due)) ≡ own_anew tables due stages k
        → count_at (slice_set left (thread_in tables j) (count_at left (thread_in tables j) - 1)) (thread_in tables k) - count_at ranks k
        ≡ own_anew tables due (slice_set stages j s) k
    by_thread (inl same) kept closed =
        let less : count_at (slice_set left (thread_in tables j) (count_at left (thread_in tables j) - 1)) (thread_in tables k) ≡ count_at left (thread_in tables k) - 1 =
        subst (λ (n : ℕ). count_at (slice_set left (thread_in tables j) (count_at left (thread_in tables j) - 1)) n ≡ count_at left n - 1) (sym same)
        (one_less left (thread_in tables j)) in
        ap (λ (n : ℕ). n - count_at ranks k) less
        ∙ own_lower tables due stages j k (count_at left (thread_in tables k)) (count_at ranks k) (own_anew tables due (slice_set stages j s) k)
        only same none kept closed
    by_thread (inr other) kept closed =
        let zero_ = other_before tables due j k other in
        let still : count_at (slice_set left (thread_in tables j) (count_at left (thread_in tables j) - 1)) (thread_in tables k) ≡ count_at left (thread_in tables k) =
        get_or-set_other left (thread_in tables j) (thread_in tables k) (count_at left (thread_in tables j) - 1) 0 other in
        omega (arith, zero_, still, kept, closed)

was_taken : (stages : List Stage) (j : ℕ) (s : Stage) → IsTrue (is_taken (stage_at stages j)) → (k : ℕ)
    → IsTrue (is_taken (stage_at (slice_set stages j s) k)) → IsTrue (is_taken (stage_at stages k))
was_taken stages j s taken k is = elim (cases_eq k j) [
  | inl same ↦ subst (λ (n : ℕ). IsTrue (is_taken (stage_at stages n))) (sym same) taken
  | inr other ↦ sym (ap is_taken (get_or-set_other stages j k s Idle other)) ∙ is
]

pub commit_in_turn : (tables : Tables) (due : List JobId) (stages : List Stage) (j : ℕ) (s : Stage) → IsTrue (is_taken (stage_at stages j))
    → IsTrue (is_open (stage_at stages j)) → is_open s ≡ false → AreInTurn tables due stages → AreInTurn tables due (slice_set stages j s)
commit_in_turn tables due stages j s taken opens shut are k is =
    let none = are k (was_taken stages j s taken k is) in
    let closed = before_after tables due stages j k s opens shut in
    omega (arith, none, closed)

-- the same where all is that of before
pub done_ranked : (tables now_tables : Tables) (due now_due : List JobId) (stages now_stages new : List Stage) (ranks now_ranks left now_left after : List ℕ)
    (j : ℕ) (s : Stage)
    → now_tables ≡ tables → now_due ≡ due → now_stages ≡ stages → now_ranks ≡ ranks → now_left ≡ left → new ≡ slice_set now_stages j s
    → after ≡ slice_set now_left (thread_in now_tables j) (count_at now_left (thread_in now_tables j) - 1)
    → occurrences j (ids due) ≤ 1 → stage_at stages j ≡ InFlight → is_open s ≡ false → AreInTurn tables due stages → AreRanked tables due stages ranks left
    → AreRanked now_tables now_due new now_ranks after
done_ranked tables now_tables due now_due stages now_stages new ranks now_ranks left now_left after j s same_tables same_due same_stages same_ranks same_left
    set lowered only flies shut turns are =
    subst (λ (l : List Stage). AreRanked now_tables now_due l now_ranks after) (sym (set ∙ ap (λ (l : List Stage). slice_set l j s) same_stages))
    (subst (λ (l : List ℕ). AreRanked now_tables now_due (slice_set stages j s) now_ranks l)
    (sym (lowered ∙ ap (λ (l : List ℕ). slice_set l (thread_in now_tables j) (count_at l (thread_in now_tables j) - 1)) same_left))
    (subst (λ (l : List ℕ). AreRanked now_tables now_due (slice_set stages j s) l (slice_set left (thread_in now_tables j) (count_at left (thread_in now_tables j) - 1))) (sym same_ranks)
    (subst (λ (l : List JobId). AreRanked now_tables l (slice_set stages j s) ranks (slice_set left (thread_in now_tables j) (count_at left (thread_in now_tables j) - 1))) (sym same_due)
    (subst (λ (t : Tables). AreRanked t due (slice_set stages j s) ranks (slice_set left (thread_in t j) (count_at left (thread_in t j) - 1))) (sym same_tables)
    (commit_ranked tables due stages ranks left j s only (ap is_open flies) shut (turns j (ap is_taken flies)) are)))))

pub done_in_turn : (tables now_tables : Tables) (due now_due : List JobId) (stages now_stages new : List Stage) (j : ℕ) (s : Stage)
    → now_tables ≡ tables → now_due ≡ due → now_stages ≡ stages → new ≡ slice_set now_stages j s
    → stage_at stages j ≡ InFlight → is_open s ≡ false → AreInTurn tables due stages → AreInTurn now_tables now_due new
done_in_turn tables now_tables due now_due stages now_stages new j s same_tables same_due same_stages set flies shut are =
    subst (λ (l : List Stage). AreInTurn now_tables now_due l) (sym (set ∙ ap (λ (l : List Stage). slice_set l j s) same_stages))
    (subst (λ (l : List JobId). AreInTurn now_tables l (slice_set stages j s)) (sym same_due)
    (subst (λ (t : Tables). AreInTurn t due (slice_set stages j s)) (sym same_tables)
    (commit_in_turn tables due stages j s (ap is_taken flies) (ap is_open flies) shut are)))
