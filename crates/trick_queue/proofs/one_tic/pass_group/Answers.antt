use Rattle.std.proofs.Common.{◌≡◌, ◌∙◌, ◌+◌, ◌<◌, ◌≤◌, ap, arith, length, slice_index_or, slice_set, subst, sym, vec_capacity}
use Rattle.trick_cycle.specs.Due.{is_due_at}
use Rattle.trick_cycle.specs.declared.Due.{Due}
use Rattle.trick_queue.proofs.Passed.{as_many_times, late_one, late_set, passing_more, times_here}
use Rattle.trick_queue.proofs.one_tic.pass_group.Goals as goal
use Rattle.trick_queue.specs.Calendar.{IsNext, tic_of, times_in}
use Rattle.trick_queue.specs.Groups.{times_by}
use Rattle.trick_queue.specs.Passed.{IsPassing, late}
use Rattle.trick_queue.specs.Tree.{never}
use Rattle.trick_queue.specs.declared.group.Group.{Group}

pub note-requires : goal.note-requires
note-requires c =
    let few : length c.args.due.now.items + late c.args.tic c.args.calendar.now ≤ length (times_by c.args.groups.now) = c.requires.passing.few in
    let many : length (times_by c.args.groups.now) ≡ length c.args.groups.now = as_many_times c.args.groups.now in
    let one : 1 ≤ late c.args.tic c.args.calendar.now = late_one c.args.tic c.args.calendar.now c.args.entry.1 c.requires.first.there (subst (λ n. n ≤ c.args.tic) (sym c.requires.first.is) c.requires.late) in
    let room : length c.args.groups.now ≤ vec_capacity c.args.due.now = c.requires.room in
    omega (arith, few, many, one, room)

pub returns-clause-passing : goal.returns-clause-passing
returns-clause-passing c =
    let groups = c.args.groups.now in
    let at = c.args.entry.1 in
    let tics = c.args.calendar.now in
    let next = tic_of c.next_after.result in
    let there : at < length tics = c.requires.first.there in
    let as_many : length tics ≡ length (times_by groups) = c.requires.passing.as_many in
    let in_groups : at < length groups = omega (arith, there, as_many, as_many_times groups) in
    let times : times_in (times_by groups) at ≡ (slice_index_or groups at c.index-groups-group.result).times = times_here groups at c.index-groups-group.result in_groups (sym c.index-groups-group.is) ∙ ap (λ (g : Group). g.times) c.index-groups-group.is in
    let low : slice_index_or tics at never ≤ c.args.tic = subst (λ n. n ≤ c.args.tic) (sym c.requires.first.is) c.requires.late in
    subst (λ ts. IsPassing (times_by groups) ts c.args.tic c.note.new.due.items) (sym c.put.ensures)
    (subst (λ l. IsPassing (times_by groups) (slice_set tics at next) c.args.tic l) (sym c.note.ensures.items)
    (passing_more (times_by groups) tics c.args.tic at next c.args.due.now.items c.is_due_then-is_due.result c.requires.passing there low
    (subst (λ (d : Due). IsNext d (c.args.tic + 1) next) (sym times) c.next_after.ensures.next) c.next_after.ensures.later
    (c.is_due_then-is_due.ensures ∙ ap (λ (d : Due). is_due_at d c.args.tic) (sym times))))

pub returns-clause-fewer : goal.returns-clause-fewer
returns-clause-fewer c =
    ap (λ ts. late c.args.tic ts + 1) c.put.ensures
    ∙ late_set c.args.tic c.args.calendar.now c.args.entry.1 (tic_of c.next_after.result) c.requires.first.there (subst (λ n. n ≤ c.args.tic) (sym c.requires.first.is) c.requires.late) c.next_after.ensures.later
