use Rattle.std.proofs.Common.{◌∙◌}
use Rattle.trick_check.proofs.Lists.{parts_found, parts_past}
use Rattle.trick_check.proofs.class.parts_at.Goals as goal

pub returns-then-class-definitions : goal.returns-then-class-definitions
returns-then-class-definitions c = parts_past c.args.definitions.now c.args.class c.if-class-definitions.true

pub returns : goal.returns
returns c =
    c.parts_in.ensures
    ∙ parts_found c.args.definitions.now c.args.class c.index-definitions-class.result c.if-class-definitions.false c.index-definitions-class.is
