-- Which texts are journals.
use Rattle.std.specs.Prelude.{◌≡◌, ℕ, ◌≤◌, Bool, true, ◌&&◌, IsTrue, List, [], ◌∷◌}
use Rattle.trick_model.specs.Journal.{Noted, journal_text}
use Rattle.trick_model.specs.Plan.{Plan, is_async, process_in}
use Rattle.trick_model.specs.declared.entry.Entry.{Entry}
use Rattle.trick_model.specs.declared.entry.Entry.TheVariants.{Join, Said, Leave, Publish}
use Rattle.trick_model.specs.declared.journal.Journal.{Journal}

-- A publication is of a thread that is asynchronous in the plan.
abbrev pub may_publish : Plan → Entry → Bool
may_publish p (Join session) = true
may_publish p (Said session line) = true
may_publish p (Leave session cause) = true
may_publish p (Publish thread) = is_async (process_in p.threads thread)

-- so it is with all publications
abbrev pub all_may_publish : Plan → List Noted → Bool
all_may_publish p [] = true
all_may_publish p (e ∷ es) = may_publish p e.1 && all_may_publish p es

-- The bytes are the text of a journal that keeps the rules of journals, of a plan and of the turn at
-- which a run starts.
pub record IsJournal (p : Plan) (start : ℕ) (bytes : List ℕ) (journal : Journal) : Type 0 where
  pub text : bytes ≡ journal_text journal.from journal.entries journal.end
  pub not_later : journal.from ≤ start
  pub published : IsTrue (all_may_publish p journal.entries)
