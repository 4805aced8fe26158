use Rattle.std.proofs.Common.{◌+◌, drop, ap, sym, ◌∙◌, subst}
use Rattle.trick_base.proofs.ListLemmas.{next_item}
use Rattle.trick_lang.specs.Syntax.{parts_of_list}
use Rattle.trick_check_blocks.proofs.Build.{followed_splits}
use Rattle.trick_check_blocks.proofs.Fitting.{step_fits}
use Rattle.trick_check_blocks.proofs.path.follow.Goals as goal
use Rattle.trick_check_blocks.specs.Places.{followed}
use Rattle.trick_check_blocks.specs.Room.{Fits}

pub loop-part-preserved : goal.loop-part-preserved
loop-part-preserved c =
    let w = c.args.scope.now in
    let xs = c.args.parts.now in
    let i = c.loop-part.part-index in
    let item = c.part-item.result in
    let at = c.loop-part.at in
    let rest = parts_of_list (drop (i + 1) xs) in
    let next = ap parts_of_list (next_item xs i item c.loop-part-test.true c.part-item.is) in
    record {
      leads = ap (followed rest w) c.step-at.ensures ∙ (sym (followed_splits item (drop (i + 1) xs) w at) ∙ (ap (λ q. followed q w at) (sym next) ∙ c.loop-part.invariant.leads));
      fits = subst (Fits w) (sym c.step-at.ensures) (step_fits item w at c.requires.laid c.loop-part.invariant.fits);
    }
