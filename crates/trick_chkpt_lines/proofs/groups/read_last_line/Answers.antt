use Rattle.std.proofs.Common.{◌∙◌, ap, subst}
use Rattle.trick_chkpt_lines.proofs.Reading.{last_line_is}
use Rattle.trick_chkpt_lines.proofs.groups.read_last_line.Goals as goal
use Rattle.trick_chkpt_lines.specs.Ranges.{ranges_at}
use Rattle.trick_codes.specs.Gives.{Gives, beside}

pub returns : goal.returns
returns c =
    subst (Gives beside c.read_last_row.result)
    (last_line_is c.args.plan.now c.args.index c.args.group.now _ _ c.args.rest.now
    (c.deref.ensures.value ∙ c.in_ok-set_indexed.ensures) (c.deref-2.ensures.value ∙ c.in_ok-ranges.ensures ∙ ap (ranges_at c.args.plan.now) c.as_slice.ensures)) c.read_last_row.ensures
