use Rattle.std.proofs.Common.{sym, ◌∙◌}
use Rattle.trick_check_bodies.proofs.Rows.{lines_in, lines_past}
use Rattle.trick_check_bodies.proofs.line.lines_at.Goals as goal

pub returns-then-place-definitions : goal.returns-then-place-definitions
returns-then-place-definitions c = sym (lines_past c.args.definitions.now c.args.class c.if-place-definitions.true)

pub returns : goal.returns
returns c =
    c.definition_lines.ensures
    ∙ lines_in c.args.definitions.now c.args.class c.index-definitions-place.result c.if-place-definitions.false c.index-definitions-place.is
