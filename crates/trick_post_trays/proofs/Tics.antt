-- From one tic at which a job is due to the next.
use Rattle.std.proofs.Common.{◌≡◌, ◌∙◌, inl, inr, ℕ, ◌+◌, ◌-◌, ◌<◌, ◌≤◌, Bool, true, false, IsTrue, List, [], ◌++◌, length, get_or, refl, sym, ap, arith}
use Rattle.std.proofs.lemmas.Bool.Decides.{nat_tests}
use Rattle.std.specs.List.{list_any}
use Rattle.std.specs.Prelude.{nat_le}
use Rattle.trick_cycle.specs.Due.{IsDue, is_due_at}
use Rattle.trick_cycle.specs.declared.Due.{Due}
use Rattle.trick_lang.specs.declared.job.Job.{Job}
use Rattle.trick_lang.specs.declared.job.JobId.{JobId}
use Rattle.trick_base.specs.Time.{tic_limit}
use Rattle.trick_model.proofs.Lengths.{ids_length}
use Rattle.trick_model.specs.Valid.{ids}
use Rattle.trick_post_trays.proofs.Lists.{any_tic, next_first, no_tic, nothing_left}
use Rattle.trick_post_trays.specs.Calendars.{due_of, line_work}
use Rattle.trick_post_work.specs.Work.{tics_between}
use Rattle.trick_post_work.specs.declared.posts.Job1.TheVariants as work
use Rattle.trick_queue.proofs.Answered.{filter_none, not_due_at}
use Rattle.trick_queue.proofs.Queued.{ids_at}
use Rattle.trick_queue.proofs.Trees.{below_or}
use Rattle.trick_queue.specs.Calendar.{IsNext}
use Rattle.trick_queue.specs.Line.{AreKnown, AreNext, id_at, no_id, times_at}
use Rattle.trick_queue.specs.Tree.{IsLeast, never}

-- the test tells when a job is due, and only then
abbrev pub Tells : Type 0
Tells = (d : Due) (t : ℕ) → IsTrue (is_due_at d t) → IsDue d t

abbrev pub Shows : Type 0
Shows = (d : Due) (t : ℕ) → IsDue d t → IsTrue (is_due_at d t)

-- no job is due before the least of the next tics
pub nothing_due : (pj : List Job) (all : List JobId) (tics : List ℕ) (from next u : ℕ) → Tells → length tics ≡ length all
    → AreNext pj all tics from 0 (length all) → IsLeast tics next → from ≤ u → u < next → due_of pj (ids all) u ≡ []
nothing_due pj all tics from next u tells as_many are least low high =
    filter_none (λ k. is_due_at (times_at pj k) u) (ids all) (λ k less.
    let there : k < length all = omega (arith, ids_length all) in
    let le : next ≤ get_or tics k never = least.below k (omega arith) in
    ap (λ (j : ℕ). is_due_at (times_at pj j) u) (ids_at all k no_id there)
    ∙ not_due_at (times_at pj (id_at all k)) u tells ((are k (omega arith) there).none_before u low (omega arith)))

-- the least of the next tics is not before the tic from which they are
pub least_from : (pj : List Job) (all : List JobId) (tics : List ℕ) (from next : ℕ) → length tics ≡ length all
    → AreNext pj all tics from 0 (length all) → IsLeast tics next → next < never → from ≤ next
least_from pj all tics from next as_many are least less = elim (least.there) [
  | inl e ↦ absurd (omega arith)
  | inr found ↦
      let place = found.0 in
      let there : place < length tics = found.1 in
      let is : get_or tics place never ≡ next = found.2 in
      elim ((are place (omega arith) (omega arith)).due) [
        | inl e ↦ absurd (omega arith)
        | inr due ↦ let le : from ≤ get_or tics place never = due.0 in omega arith
      ]
]

-- after a tic the least of the next tics is later
pub least_later : (pj : List Job) (all : List JobId) (tics : List ℕ) (tic next : ℕ) → tic < never → length tics ≡ length all
    → AreNext pj all tics (tic + 1) 0 (length all) → IsLeast tics next → tic < next
least_later pj all tics tic next small as_many are least = elim (below_or next never) [
  | inl less ↦ let le : tic + 1 ≤ next = least_from pj all tics (tic + 1) next as_many are least less in omega arith
  | inr high ↦ omega arith
]

-- what is known of the next tics where a tic is passed
pub known_at : (pj : List Job) (all : List JobId) (tics : List ℕ) (from tic : ℕ) → Tells → from ≤ tic
    → AreNext pj all tics from 0 (length all) → AreKnown pj all tics tic 0 (length all)
known_at pj all tics from tic tells low are place first last later =
    let next = are place first last in
    record {
      not_due = not_due_at (times_at pj (id_at all place)) tic tells (next.none_before tic low later);
      next = record {
        none_before = λ t above before. next.none_before t (omega arith) before;
        due = elim (next.due) [ inl e ↦ inl e | inr h ↦ inr (let le : tic + 1 ≤ get_or tics place never = omega arith in le, h.1) ];
      };
    }

-- ---- the work of tics

-- nothing is left to do where the next tic is past the last one
pub work_over : (pj : List Job) (all : List JobId) (tics : List ℕ) (from next last : ℕ) → Tells → length tics ≡ length all
    → AreNext pj all tics from 0 (length all) → IsLeast tics next → last < next → line_work pj (ids all) (work.Frame from last) ≡ []
work_over pj all tics from next last tells as_many are least past =
    nothing_left (due_of pj (ids all)) from last next past (λ u low high. nothing_due pj all tics from next u tells as_many are least low high)

-- the work goes on at the next tic
pub work_next : (pj : List Job) (all : List JobId) (tics : List ℕ) (from next last : ℕ) → Tells → length tics ≡ length all
    → AreNext pj all tics from 0 (length all) → IsLeast tics next → next ≤ last → last ≤ tic_limit
    → line_work pj (ids all) (work.Frame from last) ≡ due_of pj (ids all) next ++ line_work pj (ids all) (work.Frame (next + 1) last)
work_next pj all tics from next last tells as_many are least high range =
    next_first (due_of pj (ids all)) from last next (least_from pj all tics from next as_many are least (omega arith)) high
    (λ u low before. nothing_due pj all tics from next u tells as_many are least low before)

-- ---- whether a job has something to do

pub work_by_next : (d : Due) (first last n : ℕ) → Tells → Shows → IsNext d first n → last ≤ tic_limit
    → nat_le n last ≡ list_any (is_due_at d) (tics_between first last)
work_by_next d first last n tells shows next range = by_test (nat_le n last) refl
  where
    by_test : (b : Bool) → nat_le n last ≡ b → nat_le n last ≡ list_any (is_due_at d) (tics_between first last)
    by_test true e =
        let le : n ≤ last = grind (arith, nat_tests) in
        e ∙ sym (elim (next.due) [
          | inl last_is ↦ absurd (omega arith)
          | inr due ↦ let low : first ≤ n = due.0 in any_tic (is_due_at d) first (last + 1 - first) n low (omega arith) (shows d n due.1)
        ])
    by_test false e =
        let less : last < n = grind (arith, nat_tests) in
        e ∙ sym (no_tic (is_due_at d) first (last + 1 - first) (λ u low high. not_due_at d u tells (next.none_before u low (omega arith))))
