use Rattle.std.proofs.Common.{rules, ◌≡◌, length, subst, sym}
use Rattle.std.specs.Prelude.{replicate, vec_capacity}
use Rattle.trick_phase_board.proofs.Among.{none_due}
use Rattle.trick_phase_board.proofs.Counting.{none_counted}
use Rattle.trick_phase_board.proofs.Passed.{none_passed}
use Rattle.trick_phase_board.proofs.Ranks.{none_in_turn, none_ranked}
use Rattle.trick_phase_board.specs.Board.{AreDueAmong, IsRoomy}
use Rattle.trick_phase_board.specs.Counts.{AreCounted, AreInTurn, AreRanked}
use Rattle.trick_phase_board.specs.Search.{ArePassed}
use Rattle.trick_model.specs.Valid.{ids}
use Rattle.trick_phase_schedules.specs.declared.stage.Stage.TheVariants.{Idle}
use Rattle.trick_phase_board.proofs.board.Board.new.Goals as goal

pub invariant_of-result : goal.invariant_of-result
invariant_of-result g c =
    let stages = c.in_ok-stages.stages.items in
    let tables = c.in_ok-tables.tables in
    let due = c.in_ok-due.due.items in
    let n = c.len-jobs.result in
    let rooms : IsRoomy (length stages) (length c.in_ok-on.on.items) (length due) (vec_capacity c.in_ok-due.due) (length c.in_ok-counts.counts.items)
    (length c.in_ok-ranks.ranks.items) (length c.in_ok-left.left.items) = search rules in
    let idle : stages ≡ replicate n Idle = search rules in
    let zeros : c.in_ok-passed.passed.items ≡ replicate 16 0 = search rules in (
      rooms,
      subst (ArePassed tables stages) (sym zeros) (none_passed tables stages 16),
      subst (AreDueAmong (ids due)) (sym idle) (none_due (ids due) n),
      subst (λ l. AreCounted tables l c.in_ok-counts.counts.items) (sym idle) (none_counted tables n c.in_ok-counts.counts.items),
      subst (λ l. AreRanked tables due l c.in_ok-ranks.ranks.items c.in_ok-left.left.items) (sym idle)
          (none_ranked tables due n c.in_ok-ranks.ranks.items c.in_ok-left.left.items),
      subst (AreInTurn tables due) (sym idle) (none_in_turn tables due n),
    )
