use Rattle.std.proofs.Common.{◌≡◌, ◌+◌, ◌∙◌, drop, subst, ap}
use Rattle.trick_lang.specs.Syntax.{definitions_of}
use Rattle.trick_check_names.proofs.Definitions.{definitions_next}
use Rattle.trick_check_names.proofs.file.read_tables.Goals as goal
use Rattle.trick_check_names.specs.Tables.{behind_definitions, tables_of}

pub loop-definition-preserved : goal.loop-definition-preserved
loop-definition-preserved c =
    let xs = c.args.definitions.now in
    let i = c.loop-definition.definition-index in
    let next = definitions_next xs i c.definition-item.result c.loop-definition-test.true c.definition-item.is in
    let was = subst (λ q. behind_definitions q c.loop-definition.tables ≡ tables_of (definitions_of xs)) next c.loop-definition.invariant in
    ap (behind_definitions (definitions_of (drop (i + 1) xs))) c.in_ok-add_definition.ensures ∙ was
