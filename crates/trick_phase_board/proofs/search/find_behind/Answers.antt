use Rattle.std.proofs.Common.{◌∙◌, List, ap}
use Rattle.std.proofs.lemmas.List.{take_rest}
use Rattle.trick_phase_board.proofs.Passed.{behind, none_behind}
use Rattle.trick_phase_board.specs.Search.{find_wanted}
use Rattle.trick_lang.specs.declared.job.JobId.{JobId}
use Rattle.trick_phase_board.proofs.search.find_behind.Goals as goal

pub returns-then-passed-jobs : goal.returns-then-passed-jobs
returns-then-passed-jobs c =
    c.find.ensures ∙ ap (λ (jobs : List JobId). find_wanted c.args.wanted c.args.stages.now jobs) (take_rest c.args.jobs.now c.args.passed)
    ∙ behind c.args.wanted c.args.stages.now c.args.jobs.now c.args.passed c.requires

pub returns-else-passed-jobs : goal.returns-else-passed-jobs
returns-else-passed-jobs c =
    none_behind c.args.wanted c.args.stages.now c.args.jobs.now c.args.passed c.requires c.if-passed-jobs.false
