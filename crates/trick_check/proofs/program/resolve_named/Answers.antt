use Rattle.std.proofs.Common.{List, ap, sym, ◌∙◌, subst}
use Rattle.trick_check.proofs.Joining.{named}
use Rattle.trick_check.proofs.Proper.{proper}
use Rattle.trick_check.proofs.program.resolve_named.Goals as goal
use Rattle.trick_check.specs.Draft.{IsDraft}
use Rattle.trick_check.specs.Refused.{IsRefused, NamesAreRight}
use Rattle.trick_lang.specs.SDefineOf.{sdefine_of}
use Rattle.trick_lang.specs.Syntax.{definitions_of}
use Rattle.trick_lang.specs.declared.syntax.definition.Definition.{Definition}
use Rattle.trick_check_names.specs.Tables.{tables_of}

pub draft_of-requires-clause-tables : goal.draft_of-requires-clause-tables
draft_of-requires-clause-tables c =
    c.requires.tables ∙ ap (λ (ds : List Definition). tables_of (definitions_of ds)) (sym c.as_slice.ensures)

pub draft_of-requires-clause-right : goal.draft_of-requires-clause-right
draft_of-requires-clause-right c =
    subst (λ (ds : List Definition). NamesAreRight (definitions_of ds)) (sym c.as_slice.ensures) c.requires.right

pub join-requires-clause-proper : goal.join-requires-clause-proper
join-requires-clause-proper c =
    proper c.args.sdef.now c.in-Ok.draft
    (subst (λ (ds : List Definition). IsDraft (definitions_of ds) c.in-Ok.draft) c.as_slice.ensures c.in-Ok.ensures.draft)

pub returns-in-Ok-clause-named : goal.returns-in-Ok-clause-named
returns-in-Ok-clause-named c =
    named (sdefine_of c.args.sdef.now) c.in-Ok.draft c.join.result
    (subst (λ (ds : List Definition). IsDraft (definitions_of ds) c.in-Ok.draft) c.as_slice.ensures c.in-Ok.ensures.draft)
    c.join.ensures

pub returns-in-Err-clause-refused : goal.returns-in-Err-clause-refused
returns-in-Err-clause-refused c =
    subst (λ (ds : List Definition). IsRefused (definitions_of ds) c.in-Err.fault) c.as_slice.ensures c.in-Err.ensures.refused
