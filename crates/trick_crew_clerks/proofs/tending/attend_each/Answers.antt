use Rattle.std.proofs.Common.{rules, ◌≡◌, ◌∙◌, ℕ, ◌<◌, ◌≤◌, length, refl, sym}
use Rattle.std.proofs.lemmas.List.{length-set}
use Rattle.trick_crew_clerks.proofs.Tended.{up_all, up_more}
use Rattle.trick_crew_clerks.proofs.tending.attend_each.Goals as goal
use Rattle.trick_crew_clerks.specs.Tending.{IsTended}

pub loop-index-init : goal.loop-index-init
loop-index-init g c = record { many = refl; tended = refl }

pub loop-index-preserved : goal.loop-index-preserved
loop-index-preserved g c =
    let i = c.loop-index.index in
    let items = c.loop-index.here.items in
    let there : i < length c.args.here.now.items = search rules in
    record {
      many = length-set items i c.attend.new.shift ∙ c.loop-index.invariant.many;
      tended = up_more (λ before now. IsTended (λ (n : ℕ). n ≡ c.args.thread) before now) i c.args.here.now.items items c.index_mut.result.now c.attend.new.shift there (sym c.index_mut.ensures.value)
          c.attend.ensures c.loop-index.invariant.tended;
    }

pub returns : goal.returns
returns g c =
    let all : length c.args.here.now.items ≤ c.loop-index.index = search rules in
    up_all (λ (n : ℕ). n ≡ c.args.thread) c.loop-index.index c.args.here.now.items c.loop-index.here.items all c.loop-index.invariant.tended
