use Rattle.std.proofs.Common.{◌≡◌, ◌<◌, ℕ, IsTrue, List, length, ◌∙◌, ap, subst, sym, arith}
use Rattle.std.proofs.lemmas.List.{length-replicate}
use Rattle.trick_phase_board.proofs.Among.{opened_among}
use Rattle.trick_phase_board.proofs.Calls.{opened_belongs}
use Rattle.trick_phase_board.proofs.Counting.{all_counted}
use Rattle.trick_phase_board.proofs.Lines.{thread_small}
use Rattle.trick_phase_board.proofs.Passed.{none_passed}
use Rattle.trick_phase_board.proofs.Ranks.{opened_in_turn, opened_ranked}
use Rattle.trick_phase_board.proofs.Stages.{few_due}
use Rattle.trick_phase_board.specs.Board.{AreDueAmong, BoardView, IsBoardOf}
use Rattle.trick_phase_board.specs.Counts.{AreInTurn, AreRanked, IsCounted, many_on, rank_in}
use Rattle.trick_phase_board.specs.Search.{ArePassed}
use Rattle.trick_phase_board.specs.Tables.{thread_in}
use Rattle.trick_lang.specs.declared.job.JobId.{JobId}
use Rattle.trick_model.specs.Laws.{is_among}
use Rattle.trick_model.specs.PlanOf.{plan_of}
use Rattle.trick_model.specs.Valid.{ids}
use Rattle.trick_phase_schedules.proofs.Due.{due_there}
use Rattle.trick_phase_schedules.proofs.History.{length-waiting}
use Rattle.trick_phase_schedules.specs.Play.{with_waiting}
use Rattle.trick_phase_schedules.specs.Tics.{tic_of}
use Rattle.trick_phase_schedules.specs.declared.stage.Stage.{Stage}
use Rattle.trick_phase_schedules.specs.declared.stage.Stage.TheVariants.{Idle}
use Rattle.std.specs.Prelude.{replicate}
use Rattle.trick_phase_board.proofs.board.Board.open_tic.Goals as goal

pub copy_jobs-requires : goal.copy_jobs-requires
copy_jobs-requires g c =
    let many : length c.self.inside.stages.items ≡ length c.args.plan.now.program.jobs = ap (λ (v : BoardView). v.jobs) c.self.view_is ∙ c.requires.belongs.many in
    let few = few_due (plan_of c.args.plan.now) c.args.on.now c.args.tic c.args.due.now c.requires.due in
    let room = c.self.invariant.0.room_is in
    omega (arith, many, few, room)

pub count_all-requires : goal.count_all-requires
count_all-requires g c = record {
  there = λ k among.
      let many : length c.self.inside.stages.items ≡ length c.args.plan.now.program.jobs = ap (λ (v : BoardView). v.jobs) c.self.view_is ∙ c.requires.belongs.many in
      let copied = ap ids (c.deref-2.ensures.value ∙ c.copy_jobs.ensures.items) ∙ c.requires.due in
      let there = due_there (tic_of c.args.plan.now c.args.on.now c.args.tic) k (sym (ap (is_among k) copied) ∙ among) in
      let counts = c.self.invariant.0.counts_are in
      omega (arith, many, there, counts);
}

pub rank_all-requires-clause-few : goal.rank_all-requires-clause-few
rank_all-requires-clause-few g c =
    let many : length c.self.inside.stages.items ≡ length c.args.plan.now.program.jobs = ap (λ (v : BoardView). v.jobs) c.self.view_is ∙ c.requires.belongs.many in
    let few = few_due (plan_of c.args.plan.now) c.args.on.now c.args.tic c.args.due.now c.requires.due in
    let copied = ap length (c.deref-4.ensures.value ∙ c.copy_jobs.ensures.items) in
    let limit = c.self.invariant.0.limit in
    omega (arith, many, few, copied, limit)

pub rank_all-requires-clause-there : goal.rank_all-requires-clause-there
rank_all-requires-clause-there g c = λ k among.
    let many : length c.self.inside.stages.items ≡ length c.args.plan.now.program.jobs = ap (λ (v : BoardView). v.jobs) c.self.view_is ∙ c.requires.belongs.many in
    let copied = ap ids (c.deref-4.ensures.value ∙ c.copy_jobs.ensures.items) ∙ c.requires.due in
    let there = due_there (tic_of c.args.plan.now c.args.on.now c.args.tic) k (sym (ap (is_among k) copied) ∙ among) in
    let ranks = c.self.invariant.0.ranks_are in
    omega (arith, many, there, ranks)

pub rank_all-requires-clause-known : goal.rank_all-requires-clause-known
rank_all-requires-clause-known g c = λ k among.
    let tables = (subst (λ (v : BoardView). IsBoardOf c.args.plan.now v) (sym c.self.view_is) c.requires.belongs).tables in
    let copied = ap ids (c.deref-4.ensures.value ∙ c.copy_jobs.ensures.items) ∙ c.requires.due in
    let there = due_there (tic_of c.args.plan.now c.args.on.now c.args.tic) k (sym (ap (is_among k) copied) ∙ among) in
    subst (λ (n : ℕ). k < n) (sym tables.many) there

pub rank_all-requires-clause-threads : goal.rank_all-requires-clause-threads
rank_all-requires-clause-threads g c = λ k among.
    let jobs = c.args.plan.now.program.jobs in
    let right = (subst (λ (v : BoardView). IsBoardOf c.args.plan.now v) (sym c.self.view_is) c.requires.belongs).tables.threads k in
    let small = thread_small jobs k c.args.plan.now.program.right_threads in
    let left = c.self.invariant.0.left_are in
    omega (arith, right, small, left)

pub invariant_of-self : goal.invariant_of-self
invariant_of-self g c =
    let many : length c.self.inside.stages.items ≡ length c.args.plan.now.program.jobs = ap (λ (v : BoardView). v.jobs) c.self.view_is ∙ c.requires.belongs.many in
    let few = few_due (plan_of c.args.plan.now) c.args.on.now c.args.tic c.args.due.now c.requires.due in
    let same : length c.let_wait.new.stages.items ≡ length c.self.inside.stages.items =
    ap length c.let_wait.ensures ∙ length-waiting (ids c.args.due.now) (replicate (length c.self.inside.stages.items) Idle)
    ∙ length-replicate (length c.self.inside.stages.items) Idle in
    let copied : length c.copy_jobs.new.into.items ≡ length c.args.due.now = ap length c.copy_jobs.ensures.items in
    let limit = c.self.invariant.0.limit in
    let flags = c.self.invariant.0.flags_are in
    let room = c.self.invariant.0.room_is in
    let capacity = c.copy_jobs.ensures.room in
    let flagged = c.copy_flags.ensures.length in
    let among : AreDueAmong (ids c.copy_jobs.new.into.items) c.let_wait.new.stages.items =
    subst (AreDueAmong (ids c.copy_jobs.new.into.items)) (sym c.let_wait.ensures)
    (subst (λ ks. AreDueAmong ks (with_waiting (ids c.args.due.now) (replicate (length c.self.inside.stages.items) Idle))) (sym (ap ids c.copy_jobs.ensures.items))
    (opened_among (ids c.args.due.now) (length c.self.inside.stages.items))) in
    let stages_are : c.let_wait.new.stages.items ≡ with_waiting (ids c.copy_jobs.new.into.items) (replicate (length c.self.inside.stages.items) Idle) =
    c.let_wait.ensures ∙ ap (λ l. with_waiting l (replicate (length c.self.inside.stages.items) Idle)) (sym (ap ids c.copy_jobs.ensures.items)) in
    let there : (k : ℕ) → IsTrue (is_among k (ids c.copy_jobs.new.into.items)) → k < length c.self.inside.stages.items =
    λ k listed. (let inside = due_there (tic_of c.args.plan.now c.args.on.now c.args.tic) k
    (sym (ap (is_among k) (ap ids c.copy_jobs.ensures.items ∙ c.requires.due)) ∙ listed) in omega (arith, many, inside)) in
    let ranked : AreRanked c.self.inside.tables c.copy_jobs.new.into.items c.let_wait.new.stages.items c.rank_all.new.ranks.items c.rank_all.new.left.items =
    subst (λ (l : List Stage). AreRanked c.self.inside.tables c.copy_jobs.new.into.items l c.rank_all.new.ranks.items c.rank_all.new.left.items) (sym stages_are)
    (opened_ranked c.self.inside.tables c.copy_jobs.new.into.items (length c.self.inside.stages.items) c.rank_all.new.ranks.items c.rank_all.new.left.items there
    (λ k listed. c.rank_all.ensures.ranked k (ap (λ (l : List JobId). is_among k (ids l)) c.deref-4.ensures.value ∙ listed)
    ∙ ap (rank_in c.self.inside.tables (thread_in c.self.inside.tables k) k) c.deref-4.ensures.value)
    (λ t. c.rank_all.ensures.left t ∙ ap (many_on c.self.inside.tables t) c.deref-4.ensures.value)
    (opened_among (ids c.copy_jobs.new.into.items) (length c.self.inside.stages.items))) in
    let turns : AreInTurn c.self.inside.tables c.copy_jobs.new.into.items c.let_wait.new.stages.items =
    subst (AreInTurn c.self.inside.tables c.copy_jobs.new.into.items) (sym stages_are)
    (opened_in_turn c.self.inside.tables c.copy_jobs.new.into.items (ids c.copy_jobs.new.into.items) (length c.self.inside.stages.items) there) in
    let counted : (k : ℕ) → IsTrue (is_among k (ids c.copy_jobs.new.into.items))
    → IsCounted c.self.inside.tables c.let_wait.new.stages.items c.count_all.new.counts.items k =
    λ k listed. subst (λ (l : List Stage). IsCounted c.self.inside.tables l c.count_all.new.counts.items k) c.deref-3.ensures.value
    (c.count_all.ensures.counted k (ap (λ (l : List JobId). is_among k (ids l)) c.deref-2.ensures.value ∙ listed)) in (
      record {
        limit = omega (arith, same, limit);
        flags_are = flagged ∙ flags ∙ sym same;
        few = omega (arith, copied, few, many, same);
        room_is = omega (arith, same, room, capacity);
        counts_are = c.count_all.ensures.length ∙ c.self.invariant.0.counts_are ∙ sym same;
        ranks_are = c.rank_all.ensures.as_many_ranks ∙ c.self.invariant.0.ranks_are ∙ sym same;
        left_are = c.rank_all.ensures.as_many_threads ∙ c.self.invariant.0.left_are;
      },
      subst (ArePassed c.self.inside.tables c.let_wait.new.stages.items) (sym (c.fill.ensures.items (λ y e. e))) (none_passed c.self.inside.tables c.let_wait.new.stages.items _),
      among,
      all_counted c.self.inside.tables c.let_wait.new.stages.items c.count_all.new.counts.items (ids c.copy_jobs.new.into.items) among counted,
      ranked,
      turns,
    )

pub returns-clause-belongs : goal.returns-clause-belongs
returns-clause-belongs g c =
    let many : length c.self.inside.stages.items ≡ length c.args.plan.now.program.jobs = ap (λ (v : BoardView). v.jobs) c.self.view_is ∙ c.requires.belongs.many in
    let belongs = subst (λ (v : BoardView). IsBoardOf c.args.plan.now v) (sym c.self.view_is) c.requires.belongs in
    let same : length c.let_wait.new.stages.items ≡ length c.self.inside.stages.items =
    ap length c.let_wait.ensures ∙ length-waiting (ids c.args.due.now) (replicate (length c.self.inside.stages.items) Idle)
    ∙ length-replicate (length c.self.inside.stages.items) Idle in
    record {
      tables = belongs.tables;
      many = same ∙ many;
      opened = opened_belongs g.M.Cells.numbers g.M.Cells.scalars c.args.tic c.copy_flags.new.into.items c.copy_jobs.new.into.items c.let_wait.new.stages.items
          c.replace.new.dest c.args.memory c.args.plan.now (length c.self.inside.stages.items) c.replace.ensures.after
          (ap ids c.copy_jobs.ensures.items ∙ c.requires.due) many
          (c.let_wait.ensures ∙ ap (λ l. with_waiting l (replicate (length c.self.inside.stages.items) Idle)) (sym (ap ids c.copy_jobs.ensures.items)))
          c.requires.memory;
    }

pub returns-clause-jobs : goal.returns-clause-jobs
returns-clause-jobs g c =
    ap length c.let_wait.ensures ∙ length-waiting (ids c.args.due.now) (replicate (length c.self.inside.stages.items) Idle)
    ∙ length-replicate (length c.self.inside.stages.items) Idle ∙ ap (λ (v : BoardView). v.jobs) c.self.view_is
