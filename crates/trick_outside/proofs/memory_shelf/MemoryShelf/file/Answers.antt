use Rattle.std.proofs.Common.{rules, ◌≡◌, ◌∙◌, IsSomeAnd, slice_get}
use Rattle.trick_outside.proofs.KeptLemmas.{NoneBelow, NoneAt, get-kept_none, get-kept_at}
use Rattle.trick_outside.proofs.memory_shelf.MemoryShelf.file.Goals as goal

pub returns-in_default-clause-none : goal.returns-in_default-clause-none
returns-in_default-clause-none c =
    let none : NoneAt c.args.self.now.files.items c.args.name.now = λ k. search (rules, c.in_default.ensures.none k) in
    get-kept_none _ _ none

pub returns-clause-found : goal.returns-clause-found
returns-clause-found c =
    let found : IsSomeAnd (slice_get c.args.self.now.files.items c.in-Some.at) (λ f. f.name ≡ c.args.name.now) = search (rules, c.in-Some.ensures.found) in
    let below : NoneBelow c.args.self.now.files.items c.args.name.now c.in-Some.at = λ k less. search (rules, c.in-Some.ensures.first k less) in
    get-kept_at _ _ _ c.index.result.now found below ∙ search rules
