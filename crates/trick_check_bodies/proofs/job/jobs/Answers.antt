use Rattle.std.proofs.Common.{◌≡◌, ◌++◌, [], ap, drop, sym, ◌∙◌, arith}
use Rattle.std.proofs.Math.ListN.{drop_of_length-le}
use Rattle.std.proofs.lemmas.List.{append-nil}
use Rattle.trick_check_bodies.specs.Jobs.{jobs_from}
use Rattle.trick_lang.specs.Syntax.{definitions_of}
use Rattle.trick_check_bodies.proofs.job.jobs.Goals as goal

pub returns : goal.returns
returns c =
    let none = ap (jobs_from (definitions_of c.args.definitions.now) c.args.numbers.now c.loop-place.place) (drop_of_length-le c.args.objects.now (omega arith)) in
    sym (append-nil c.loop-place.jobs) ∙ (ap (λ js. c.loop-place.jobs ++ js) (sym none) ∙ c.loop-place.invariant)
