use Rattle.std.proofs.Common.{rules, ◌≡◌, List, ℕ, IsSomeAnd, slice_get}
use Rattle.trick_outside.proofs.KeptLemmas.{NoneAt, NoneBelow, kept-pushed, kept-changed, named_at}
use Rattle.trick_outside.proofs.memory_shelf.MemoryShelf.make_empty.Goals as goal
use Rattle.trick_outside.specs.declared.memory_shelf.File.{File}

-- a new file
pub returns-in_default-clause-ok : goal.returns-in_default-clause-ok
returns-in_default-clause-ok c =
    let pushed = c.in_ok-push.ensures.ok in
    let none : NoneAt c.args.self.now.files.items c.args.name.now = λ k. search (rules, c.in_default.ensures.none k) in
    kept-pushed _ _ pushed.0 _ _ pushed.1 pushed.2 pushed.3 none

-- the file at its place has no bytes
pub returns-clause-ok : goal.returns-clause-ok
returns-clause-ok c =
    let files : List File = c.args.self.now.files.items in
    let name : List ℕ = c.args.name.now in
    let found : IsSomeAnd (slice_get files c.in-Some.at) (λ f. f.name ≡ name) = search (rules, c.in-Some.ensures.found) in
    let below : NoneBelow files name c.in-Some.at = λ k less. search (rules, c.in-Some.ensures.first k less) in
    let named = named_at files c.in-Some.at c.index_mut-file.result.now name found c.index_mut-file.ensures.value in
    kept-changed files c.in-Some.at _ name _ found named c.clear.ensures.items below
