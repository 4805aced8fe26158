-- Laws of journals.
use Rattle.std.specs.Prelude.{◌≡◌, ℕ, List, [], ◌++◌}
use Rattle.trick_journal.specs.Refusals.{IsRefused}
use Rattle.trick_journal.specs.declared.journal_fault.JournalFault.{JournalFault}
use Rattle.trick_journal.specs.declared.journal_fault.JournalFault.TheVariants.{OutOfMemory}
use Rattle.trick_model.specs.JournalText.{IsJournal}
use Rattle.trick_model.specs.Plan.{Plan}
use Rattle.trick_model.specs.declared.journal.Journal.{Journal}

-- No journal of a plan and a start is a proper prefix of another, and each is of one journal.
abbrev pub NoPrefix : Type 0
NoPrefix =
    (p : Plan) (start : ℕ) (journal other : Journal) (bytes more : List ℕ) → IsJournal p start bytes journal
    → IsJournal p start (bytes ++ more) other
    → (journal.from ≡ other.from) × (journal.entries ≡ other.entries) × (journal.end ≡ other.end) × (more ≡ [])
