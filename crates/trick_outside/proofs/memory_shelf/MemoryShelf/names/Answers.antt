use Rattle.std.proofs.Common.{◌≡◌, ◌∙◌, ap, arith}
use Rattle.std.proofs.lemmas.List.{take_all}
use Rattle.trick_outside.proofs.KeptLemmas.{names_of, names_listed}
use Rattle.trick_outside.proofs.memory_shelf.MemoryShelf.names.Goals as goal

pub returns : goal.returns
returns c =
    let all : c.loop-file.names.items ≡ names_of c.args.self.now.files.items =
    c.loop-file.invariant ∙ ap names_of (take_all _ _ (omega (arith, c.loop-file-test.false)) ∙ c.deref-file-items.ensures.value) in
    names_listed _ _ all
