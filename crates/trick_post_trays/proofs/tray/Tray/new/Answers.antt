use Rattle.std.proofs.Common.{rules, ◌≡◌, ◌∙◌, None, ap, length, refl}
use Rattle.trick_model.specs.Valid.{ids}
use Rattle.trick_post_trays.proofs.Jobs.{line_few, line_scheduled}
use Rattle.trick_post_trays.proofs.Trays.{empty_tray}
use Rattle.trick_post_trays.specs.Scratch.{cell_ids}
use Rattle.trick_post_trays.proofs.tray.Tray.new.Goals as goal

pub new-requires-clause-scheduled : goal.new-requires-clause-scheduled
new-requires-clause-scheduled c = line_scheduled c.args.plan.now c.args.number c.in_ok-line.field-0 c.in_ok-line.ensures

pub new-requires-clause-few : goal.new-requires-clause-few
new-requires-clause-few c = line_few c.args.plan.now c.args.number c.in_ok-line.field-0 c.in_ok-line.ensures

pub returns-clause-own : goal.returns-clause-own
returns-clause-own c =
    let members = c.from_vec-members.ensures in
    let scope = c.from_vec-scope.ensures in
    let cells_room : length c.in_ok-cells.cells.items ≡ length c.from_vec-scope.result = search rules in
    let flags_room : length c.in_ok-on.on.items ≡ length c.from_vec-members.result = search rules in
    empty_tray c.args.plan.now
    (record {
      number = c.args.number;
      calendar = c.in_ok-calendar.calendar;
      members = c.from_vec-members.result;
      scope = c.from_vec-scope.result;
      cells = c.in_ok-cells.cells;
      on = c.in_ok-on.on;
      work = None;
    }) refl c.in_ok-calendar.ensures.own (ap ids c.in_ok-calendar.ensures.jobs ∙ c.in_ok-line.ensures)
    (ap ids members ∙ c.in_ok-jobs_of.ensures.jobs) (ap cell_ids scope ∙ c.in_ok-scope.ensures) cells_room flags_room
