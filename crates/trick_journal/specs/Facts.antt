-- Texts that are refused as journals, and texts that are journals.
use Rattle.std.specs.Prelude.{◌≢◌, ℕ, List}
use Rattle.trick_journal.specs.Refusals.{IsRefused}
use Rattle.trick_journal.specs.declared.journal_fault.JournalFault.TheVariants.{OutOfMemory}
use Rattle.trick_journal.specs.declared.journal_fault.JournalFault.{JournalFault}
use Rattle.trick_model.specs.JournalText.{IsJournal}
use Rattle.trick_model.specs.Plan.{Plan}
use Rattle.trick_model.specs.declared.journal.Journal.{Journal}

-- A text that is refused is no journal, unless it was for want of memory.
abbrev pub RefusedIsNone : Type 0
RefusedIsNone =
    (p : Plan) (start : ℕ) (text : List ℕ) (why : JournalFault) (journal : Journal) → IsRefused p start text why
    → why ≢ OutOfMemory → IsJournal p start text journal → ⊥
