use Rattle.std.proofs.Common.{◌∙◌, List, ℕ, ap, map, sym}
use Rattle.trick_queue.proofs.Merged.{merged_are}
use Rattle.trick_queue.proofs.queues.merge_due.Goals as goal
use Rattle.trick_queue.specs.Merged.{places_in}
use Rattle.trick_queue.specs.Line.{id_at}

pub returns-clause-merged : goal.returns-clause-merged
returns-clause-merged c = λ program are was.
    let jobs = c.args.jobs.now in
    let groups = c.args.groups.now in
    c.make.ensures.jobs
    ∙ ap (map (id_at jobs)) (merged_are program jobs groups c.args.due.now c.make.new.self.places.items are c.requires.there c.requires.once c.make.ensures.places c.make.ensures.rising)
    ∙ ap (λ (l : List ℕ). map (id_at jobs) (places_in program jobs groups l)) (sym c.make.ensures.groups)
