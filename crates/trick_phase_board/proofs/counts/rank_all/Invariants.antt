use Rattle.std.proofs.Common.{◌≡◌, ◌≤◌, ◌-◌, ℕ, drop, length, IsTrue}
use Rattle.trick_phase_board.specs.Counts.{count_at, many_on, rank_in}
use Rattle.trick_phase_board.specs.Tables.{thread_in}
use Rattle.trick_model.specs.Laws.{is_among}
use Rattle.trick_model.specs.Valid.{ids}
use Rattle.trick_phase_board.proofs.counts.rank_all.Given as goal

-- the last jobs are ranked and counted
abbrev pub invariant-loop-passed : goal.invariant-loop-passed
invariant-loop-passed l = record {
  as_many_ranks : length l.ranks.items ≡ length l.fn.ranks.items;
  as_many_threads : length l.left.items ≡ length l.fn.left.items;
  few : (thread : ℕ) → count_at l.left.items thread ≤ l.passed;
  ranked : (k : ℕ) → IsTrue (is_among k (ids (drop (length l.due - l.passed) l.due)))
      → count_at l.ranks.items k ≡ rank_in l.tables (thread_in l.tables k) k (drop (length l.due - l.passed) l.due);
  left : (thread : ℕ) → count_at l.left.items thread ≡ many_on l.tables thread (drop (length l.due - l.passed) l.due);
}
