use Rattle.std.proofs.Common.{rules, ◌≡◌, ◌<◌, List, ℕ, length, subst, sym}
use Rattle.std.proofs.lemmas.List.Sorted.{All-permutation, IsNonDecreasingBy-from_sort}
use Rattle.std.specs.List.Sorted.{IsPermutation}
use Rattle.trick_queue.proofs.merge.Merge.make.Goals as goal
use Rattle.trick_queue.specs.Merged.{AreThere, gathered}

pub find-requires-clause-there : goal.find-requires-clause-there
find-requires-clause-there c =
    let places : List ℕ = gathered c.args.groups.now c.args.of.now in
    let moved : IsPermutation places c.sort_unstable.new.self.items = subst (λ l. IsPermutation l c.sort_unstable.new.self.items) c.gather.ensures.items c.sort_unstable.ensures.permutation in
    let same : c.deref.result.now ≡ c.sort_unstable.new.self.items = search rules in
    subst (λ l. AreThere l (length c.args.jobs.now)) (sym same) (All-permutation (λ n. n < length c.args.jobs.now) places c.sort_unstable.new.self.items moved c.requires.places)

pub returns-clause-rising : goal.returns-clause-rising
returns-clause-rising c = IsNonDecreasingBy-from_sort (λ n. n) c.sort_unstable.new.self.items c.sort_unstable.ensures.sorted
