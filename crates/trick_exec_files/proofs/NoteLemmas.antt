-- A turn that has entries notes them in one append.
use Rattle.std.proofs.Common.{◌≡◌, ℕ, List, [], ◌∷◌, false, length, refl}
use Rattle.std.specs.Prelude.{◌==◌}
use Rattle.trick_base.specs.Files.{Append}
use Rattle.trick_model.specs.Files.{journal_name, note}
use Rattle.trick_model.specs.Journal.{entry_lines}
use Rattle.trick_model.specs.declared.entry.Entry.{Entry}

pub noted : (turn : ℕ) (entries : List Entry) → (length entries == 0) ≡ false
    → note turn entries ≡ Append journal_name (entry_lines turn entries) ∷ []
noted turn [] e = cc e
noted turn (entry ∷ entries) e = refl
