use Rattle.std.proofs.Common.{rules, ◌≡◌, ◌<◌, ◌≤◌, ℕ, [], ◌∷◌, ◌+◌, ◌-◌, List, IsTrue, ap, drop, length, refl, subst, sym, arith, ◌∙◌}
use Rattle.std.proofs.lemmas.List.{drop_all, drop_more, length-set}
use Rattle.std.specs.List.{slice_index_or}
use Rattle.trick_phase_board.proofs.Counting.{among_at}
use Rattle.trick_phase_board.proofs.Passed.{all_zero}
use Rattle.trick_phase_board.proofs.Ranks.{few_more, first_rank, left_more, rank_more}
use Rattle.trick_phase_board.specs.Counts.{count_at, many_on, rank_in}
use Rattle.trick_phase_board.specs.Tables.{thread_in}
use Rattle.trick_lang.specs.declared.job.JobId.{JobId}
use Rattle.trick_model.specs.Laws.{is_among}
use Rattle.trick_model.specs.Valid.{ids}
use Rattle.trick_queue.specs.Line.{no_id}
use Rattle.trick_phase_schedules.proofs.Keys.{none_among}
use Rattle.trick_phase_board.proofs.counts.rank_all.Goals as goal

pub loop-passed-init : goal.loop-passed-init
loop-passed-init c =
    let due = c.args.due.now in
    let tables = c.args.tables.now in
    let zeros = c.fill.ensures.items (λ y e. e) in
    let none : drop (length due - 0) due ≡ [] = drop_all (length due - 0) due (omega arith) in
    let as_many : length c.fill.new.self.items ≡ length c.args.left.now.items = search rules in
    let zero_at = λ (t : ℕ). ap (λ (l : List ℕ). count_at l t) zeros ∙ all_zero _ t in
    record {
      as_many_ranks = refl;
      as_many_threads = as_many;
      few = λ t. subst (λ (n : ℕ). n ≤ 0) (sym (zero_at t)) (omega arith);
      ranked = λ k among. absurd (none_among k (subst (λ (jobs : List JobId). IsTrue (is_among k (ids jobs))) none among));
      left = λ t. zero_at t ∙ sym (ap (many_on tables t) none);
    }

pub rank_one-requires-clause-few : goal.rank_one-requires-clause-few
rank_one-requires-clause-few c =
    let few = c.loop-passed.invariant.few (thread_in c.args.tables.now (slice_index_or c.args.due.now (length c.args.due.now - 1 - c.loop-passed.passed) no_id).0) in
    let test = c.loop-passed-test.true in
    let bound = c.requires.few in
    omega (arith, few, test, bound)

pub rank_one-requires-clause-known : goal.rank_one-requires-clause-known
rank_one-requires-clause-known c =
    let due = c.args.due.now in
    let at_ = length due - 1 - c.loop-passed.passed in
    let test = c.loop-passed-test.true in
    let inside : at_ < length due = omega (arith, test) in
    c.requires.known (slice_index_or due at_ no_id).0 (among_at due at_ no_id inside)

pub loop-passed-preserved : goal.loop-passed-preserved
loop-passed-preserved c =
    let due = c.args.due.now in
    let tables = c.args.tables.now in
    let passed = c.loop-passed.passed in
    let ranks = c.loop-passed.ranks.items in
    let left = c.loop-passed.left.items in
    let test = c.loop-passed-test.true in
    let job = slice_index_or due (length due - 1 - passed) no_id in
    let rest = drop (length due - 1 - passed + 1) due in
    let thread = thread_in tables job.0 in
    let n = count_at left thread + 1 in
    let inside : length due - 1 - passed < length due = omega (arith, test) in
    let was : length due - passed ≡ length due - 1 - passed + 1 = omega (arith, test) in
    let next : length due - (passed + 1) ≡ length due - 1 - passed = omega arith in
    let more : drop (length due - (passed + 1)) due ≡ job ∷ rest =
    ap (λ (i : ℕ). drop i due) next ∙ drop_more due (length due - 1 - passed) no_id inside in
    let same : drop (length due - passed) due ≡ rest = ap (λ (i : ℕ). drop i due) was in
    let many = λ (t : ℕ). c.loop-passed.invariant.left t ∙ ap (many_on tables t) same in
    let among = among_at due (length due - 1 - passed) no_id inside in
    let same_ranks = c.loop-passed.invariant.as_many_ranks in
    let same_threads = c.loop-passed.invariant.as_many_threads in
    let was_there = c.requires.there job.0 among in
    let was_thread = c.requires.threads job.0 among in
    let there : job.0 < length ranks = omega (arith, was_there, same_ranks) in
    let in_left : thread < length left = omega (arith, was_thread, same_threads) in
    record {
      as_many_ranks = ap length c.rank_one.ensures.ranks ∙ length-set ranks job.0 n ∙ same_ranks;
      as_many_threads = ap length c.rank_one.ensures.left ∙ length-set left thread n ∙ same_threads;
      few = λ t. subst (λ (l : List ℕ). count_at l t ≤ passed + 1) (sym c.rank_one.ensures.left)
          (few_more left thread n passed refl in_left c.loop-passed.invariant.few t);
      ranked = λ k listed. ap (λ (l : List ℕ). count_at l k) c.rank_one.ensures.ranks
          ∙ rank_more tables ranks job rest n k (first_rank tables left job rest (many thread)) there
          (λ later. c.loop-passed.invariant.ranked k (subst (λ (jobs : List JobId). IsTrue (is_among k (ids jobs))) (sym same) later)
          ∙ ap (rank_in tables (thread_in tables k) k) same)
          (subst (λ (jobs : List JobId). IsTrue (is_among k (ids jobs))) more listed)
          ∙ sym (ap (rank_in tables (thread_in tables k) k) more);
      left = λ t. ap (λ (l : List ℕ). count_at l t) c.rank_one.ensures.left ∙ left_more tables left job rest n refl in_left many t
          ∙ sym (ap (many_on tables t) more);
    }

pub returns-clause-ranked : goal.returns-clause-ranked
returns-clause-ranked c = λ k among.
    let due = c.args.due.now in
    let tables = c.args.tables.now in
    let test = c.loop-passed-test.false in
    let none : length due - c.loop-passed.passed ≡ 0 = omega (arith, test) in
    let whole : drop (length due - c.loop-passed.passed) due ≡ due = ap (λ (i : ℕ). drop i due) none in
    c.loop-passed.invariant.ranked k (subst (λ (jobs : List JobId). IsTrue (is_among k (ids jobs))) (sym whole) among)
    ∙ ap (rank_in tables (thread_in tables k) k) whole

pub returns-clause-left : goal.returns-clause-left
returns-clause-left c = λ thread.
    let due = c.args.due.now in
    let test = c.loop-passed-test.false in
    let none : length due - c.loop-passed.passed ≡ 0 = omega (arith, test) in
    c.loop-passed.invariant.left thread
    ∙ ap (λ (i : ℕ). many_on c.args.tables.now thread (drop i due)) none
