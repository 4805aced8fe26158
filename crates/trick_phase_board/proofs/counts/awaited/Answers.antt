use Rattle.std.proofs.Common.{◌≡◌, [], arith, sym}
use Rattle.std.specs.List.{slice_index_or}
use Rattle.trick_phase_board.proofs.Counting.{none_open}
use Rattle.trick_phase_board.specs.Counts.{open_among}
use Rattle.trick_phase_board.proofs.counts.awaited.Goals as goal

pub returns-then-awaited-eq0 : goal.returns-then-awaited-eq0
returns-then-awaited-eq0 c =
    let stages = c.args.stages.now in
    let depended = slice_index_or c.args.tables.now.depended c.args.job.0 [] in
    let right = c.requires in
    let kept = c.number_at-awaited.ensures in
    let zero = c.if-awaited-eq0.true in
    let none : open_among stages depended ≡ 0 = omega (arith, right, kept, zero) in
    sym (none_open stages depended none)
