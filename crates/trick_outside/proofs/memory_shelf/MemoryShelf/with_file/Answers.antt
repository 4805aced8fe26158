use Rattle.trick_base.proofs.FileLemmas.{file_replaced}
use Rattle.trick_outside.proofs.memory_shelf.MemoryShelf.with_file.Goals as goal

pub returns-clause-held : goal.returns-clause-held
returns-clause-held c = file_replaced _ _ _ _ _ _ c.in_ok-make_empty.ensures.ok c.in_ok-extend.ensures.ok c.in_ok-name.ensures
