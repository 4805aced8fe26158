use Rattle.std.proofs.Common.{◌≡◌, ◌<◌, ◌≤◌, ◌||◌, ℕ, length}
use Rattle.trick_access.proofs.reach.note_reached.Given as goal
use Rattle.trick_lang.specs.Access.{is_in}
use Rattle.trick_access.specs.Reached.{block_cells, is_reached, marked_in}
use Rattle.trick_lang.specs.TreeOf.{codes_of}

-- what was found, and what the marked blocks that are left have, is all
abbrev pub invariant-loop-marked : goal.invariant-loop-marked
invariant-loop-marked l = record {
  told : (c : ℕ) → c < length l.fn.ends → (is_reached l.ends c || marked_in l.left l.marks (block_cells l.way l.base (codes_of l.program.blocks)) c) ≡ (is_in (block_cells l.way l.base (codes_of l.program.blocks) l.fn.block) c || is_reached l.fn.ends c);
  marks : length l.marks ≡ length l.program.blocks;
  ends : length l.ends ≡ length l.fn.ends;
  left : l.left ≤ length l.program.blocks;
}

abbrev pub decreases-loop-marked : goal.decreases-loop-marked
decreases-loop-marked l = l.left
