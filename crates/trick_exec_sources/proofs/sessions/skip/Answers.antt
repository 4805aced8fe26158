use Rattle.std.proofs.Common.{◌∙◌}
use Rattle.trick_exec_sources.proofs.Joining.{skips_comes, skips_first, skips_last, skips_more}
use Rattle.trick_exec_sources.proofs.sessions.skip.Goals as goal

pub loop-entry-init : goal.loop-entry-init
loop-entry-init c = skips_first c.args.start c.args.due.now _ c.new-live.ensures.empty c.requires.rising c.requires.joined

pub pass-requires : goal.pass-requires
pass-requires c =
    skips_comes c.args.start c.args.due.now c.loop-entry.due _ c.loop-entry.live.keys (c.in-Some.field-0-0, c.in-Some.entry)
    c.in-Some.ensures.taken c.loop-entry.invariant

pub loop-entry-preserved : goal.loop-entry-preserved
loop-entry-preserved c =
    skips_more c.args.start c.args.due.now c.loop-entry.due _ c.loop-entry.live.keys _ (c.in-Some.field-0-0, c.in-Some.entry)
    c.in-Some.ensures.taken c.in-Some.ensures.below c.in_ok-pass.ensures c.loop-entry.invariant

pub returns-clause-live : goal.returns-clause-live
returns-clause-live c =
    (skips_last c.args.start c.args.due.now c.loop-entry.due c.loop-entry.live.keys c.in_default.ensures.none c.loop-entry.invariant).0

pub returns-clause-left : goal.returns-clause-left
returns-clause-left c =
    c.in_default.ensures.rest
    ∙ (skips_last c.args.start c.args.due.now c.loop-entry.due c.loop-entry.live.keys c.in_default.ensures.none c.loop-entry.invariant).1
