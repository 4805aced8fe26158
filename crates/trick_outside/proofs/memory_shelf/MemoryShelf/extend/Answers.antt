use Rattle.std.proofs.Common.{rules, ◌≡◌, ◌∙◌, ◌++◌, List, ℕ, sym, ap, IsSomeAnd, slice_get, set}
use Rattle.std.specs.FinMap.{insert}
use Rattle.trick_outside.proofs.KeptLemmas.{NoneAt, NoneBelow, kept-pushed, kept-changed, kept_unchanged, named_at, bytes_there, bytes_missing}
use Rattle.trick_outside.proofs.memory_shelf.MemoryShelf.extend.Goals as goal
use Rattle.trick_outside.specs.Kept.{kept}
use Rattle.trick_outside.specs.declared.memory_shelf.File.{File}

-- a new file
pub returns-in_default-clause-ok : goal.returns-in_default-clause-ok
returns-in_default-clause-ok c =
    let files : List File = c.args.self.now.files.items in
    let name : List ℕ = c.args.name.now in
    let pushed = c.in_ok-push.ensures.ok in
    let none : NoneAt files name = λ k. search (rules, c.in_default.ensures.none k) in
    kept-pushed _ _ pushed.0 _ _ pushed.1 pushed.2 pushed.3 none
    ∙ ap (λ (b : List ℕ). insert (kept files) name (b ++ c.args.bytes.now)) (sym (bytes_missing _ _ none))

-- no memory: the file at its place has the bytes that it had
pub returns-in_err-extend_from_slice-clause-err : goal.returns-in_err-extend_from_slice-clause-err
returns-in_err-extend_from_slice-clause-err c =
    let files : List File = c.args.self.now.files.items in
    let name : List ℕ = c.args.name.now in
    let file : File = c.index_mut-file.result.now in
    let found : IsSomeAnd (slice_get files c.in-Some.at) (λ f. f.name ≡ name) = search (rules, c.in-Some.ensures.found) in
    let below : NoneBelow files name c.in-Some.at = λ k less. search (rules, c.in-Some.ensures.first k less) in
    let left : File = record { name = file.name; bytes = c.extend_from_slice.new.self } in
    let held = c.in_err-extend_from_slice.ensures.items ∙ ap (λ (f : File). f.bytes.items) c.index_mut-file.ensures.value in
    let named = named_at files c.in-Some.at file name found c.index_mut-file.ensures.value in
    let same : kept (set files c.in-Some.at left) ≡ kept files = kept_unchanged files c.in-Some.at left file name found named held below in
    search (rules, same)

-- the file at its place has more bytes
pub returns-clause-ok : goal.returns-clause-ok
returns-clause-ok c =
    let files : List File = c.args.self.now.files.items in
    let name : List ℕ = c.args.name.now in
    let file : File = c.index_mut-file.result.now in
    let found : IsSomeAnd (slice_get files c.in-Some.at) (λ f. f.name ≡ name) = search (rules, c.in-Some.ensures.found) in
    let below : NoneBelow files name c.in-Some.at = λ k less. search (rules, c.in-Some.ensures.first k less) in
    let named = named_at files c.in-Some.at file name found c.index_mut-file.ensures.value in
    let held = bytes_there files c.in-Some.at file name found c.index_mut-file.ensures.value below in
    kept-changed files c.in-Some.at _ name _ found named
    (c.in_ok-extend_from_slice.ensures.items ∙ ap (λ (b : List ℕ). b ++ c.args.bytes.now) (sym held)) below
