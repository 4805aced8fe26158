-- The lines of what a journal is refused for.
use Rattle.std.specs.Prelude.{ℕ, List, [], ◌∷◌, codes, decimal}
use Rattle.trick_journal.specs.declared.journal_fault.JournalFault.{JournalFault}
use Rattle.trick_journal.specs.declared.journal_fault.JournalFault.TheVariants as fault
use Rattle.trick_top_refusals.specs.Line.{journal, out_of_memory, refused, refused_at}

abbrev pub journal_line : JournalFault → List ℕ
journal_line (fault.BadLine line) = refused_at (codes "BadLine") journal line
journal_line (fault.NotRising line) = refused_at (codes "NotRising") journal line
journal_line (fault.NotJoined line) = refused_at (codes "NotJoined") journal line
journal_line (fault.NotAsync line) = refused_at (codes "NotAsync") journal line
journal_line (fault.NoEnd line) = refused_at (codes "NoEnd") journal line
journal_line fault.OutOfMemory = out_of_memory

-- a journal that ends at one turn, where its run would end at another
abbrev pub length_line : (kept given : ℕ) → List ℕ
length_line kept given = refused (codes "JournalLength") (decimal kept ∷ decimal given ∷ [])
