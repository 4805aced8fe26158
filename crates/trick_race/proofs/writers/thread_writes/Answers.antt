use Rattle.std.proofs.Common.{◌≡◌, ℕ, ◌+◌, ◌++◌, ◌∷◌, [], ◌↔◌, Bool, IsTrue, List, length, get_or, map, sym, ap, subst, ◌∙◌, arith}
use Rattle.std.proofs.lemmas.List.{length-append}
use Rattle.trick_model.specs.Acceptance.{may_write_on}
use Rattle.trick_model.specs.PlanOf.{plan_of}
use Rattle.trick_model.specs.declared.thread.Thread.{Thread}
use Rattle.trick_race.proofs.Firsts.{read_at}
use Rattle.trick_access.proofs.Each.{push_each}
use Rattle.trick_race.proofs.Writing.{is_writer, thread_set}
use Rattle.trick_race.specs.Accesses.{IsWrittenBy, has}
use Rattle.trick_race.proofs.writers.thread_writes.Goals as goal

pub loop-place-preserved : goal.loop-place-preserved
loop-place-preserved c =
    let p = plan_of c.args.plan.now in
    let threads = c.args.plan.now.threads in
    let accesses = c.args.accesses.now in
    let thread = c.thread_at-thread.result in
    let jobs = c.in_ok-jobs.jobs.items in
    let sets = c.loop-place.sets.items in
    let set = c.in_ok-written_by.field-0 in
    let place = c.loop-place.place in
    let items : c.push.new.self.items ≡ sets ++ set ∷ [] = c.in_ok-push.ensures.items in
    let exact : (cell : ℕ) → has set cell ≡ may_write_on p thread cell =
    thread_set (length c.args.plan.now.program.cells) p accesses thread jobs set c.requires
    (c.in_ok-jobs.ensures ∙ ap (map (is_writer thread.number)) c.as_slice.ensures)
    (λ cell. subst (λ js. IsTrue (has set cell) ↔ IsWrittenBy accesses js cell) c.deref.ensures.value
    (c.in_ok-written_by.ensures cell)) in
    record {
      many = ap length items ∙ length-append sets (set ∷ []) ∙ ap (λ n. n + 1) c.loop-place.invariant.many;
      exact = λ k less any cell.
          subst (λ (all : List (List Bool)). has (get_or all k []) cell ≡ may_write_on p (get_or threads k any) cell)
          (sym items)
          (push_each (λ k (s : List Bool). has s cell ≡ may_write_on p (get_or threads k any) cell) sets set [] place
          c.loop-place.invariant.many
          (λ k k_less. c.loop-place.invariant.exact k k_less any cell)
          (exact cell ∙ ap (λ (t : Thread). may_write_on p t cell) (sym (c.thread_at-thread.ensures any))) k less);
    }

pub returns : goal.returns
returns c =
    let many = c.loop-place.invariant.many in
    let size = c.len-place-end.ensures in
    let end : c.loop-place.place ≡ length c.args.plan.now.threads = omega arith in
    record {
      many = many ∙ end;
      exact = λ k any set cell there.
          ap (λ (s : List Bool). has s cell) (read_at c.loop-place.sets.items k set [] (omega arith))
          ∙ c.loop-place.invariant.exact k (omega arith) any cell;
    }
