use Rattle.std.proofs.Common.{ap, ◌∙◌}
use Rattle.trick_check_bodies.specs.Classes.{made}
use Rattle.trick_check_cells.specs.Tables.{item_rows}
use Rattle.trick_check.proofs.Long.{short_jobs}
use Rattle.trick_check.proofs.Whole.{cells_are, draft_whole, layout_is}
use Rattle.trick_check.proofs.program.make.Goals as goal
use Rattle.trick_lang.specs.Syntax.{definitions_of}
use Rattle.trick_check_names.specs.Tables.{tables_of}
use Rattle.trick_check_names.specs.declared.tables.Tables.{Tables}

pub returns-clause-draft : goal.returns-clause-draft
returns-clause-draft c =
    let ds = definitions_of c.args.definitions.now in
    record {
      right = (c.requires.right, short_jobs ds c.in_ok-bodies.bodies c.in_ok-jobs.jobs c.in_ok-bodies.ensures.made c.in_ok-jobs.ensures.jobs c.in_ok-jobs.ensures.short);
      cells = cells_are ds c.args.tables.now c.deref.result.now c.in_ok-cells.cells c.requires.tables (c.deref.ensures.value ∙ c.requires.sizes) (c.unfold_law.ensures (tables_of ds).groups (c.declared_law.ensures ds)) c.in_ok-cells.ensures;
      items = c.in_ok-items.ensures ∙ ap (λ (t : Tables). item_rows t.names) c.requires.tables;
      objects = c.requires.objects;
      bodies = c.in_ok-bodies.ensures.made;
      layout = layout_is ds (made c.in_ok-bodies.bodies) c.in_ok-bodies.ensures.made;
      jobs = c.in_ok-jobs.ensures.jobs;
    }

pub returns-clause-whole : goal.returns-clause-whole
returns-clause-whole c =
    draft_whole (definitions_of c.args.definitions.now) _ c.count_law.ensures c.requires.right (returns-clause-draft c) c.in_ok-bodies.ensures.whole
    c.in_ok-jobs.ensures.short
