-- What a run that stopped leaves of its files, and what it had handed over.
use Rattle.std.specs.FinMap.{get}
use Rattle.std.specs.Prelude.{◌≡◌, ◌⊎◌, ℕ, false, not, List, [], ◌∷◌, ◌++◌, filter, Option, Some}
use Rattle.trick_base.specs.Content.{IsPartly, IsTidy, content, same_name}
use Rattle.trick_base.specs.Files.{Files}
use Rattle.trick_base.specs.Fronts.{IsPrefix}
use Rattle.trick_model.specs.Files.{journal_name, run_writes, turns_said, turns_writes}
use Rattle.trick_model.specs.Journal.{entry_line, first_lines, is_of_session, last_line}
use Rattle.trick_model.specs.Plan.{Plan}
use Rattle.trick_model.specs.Run.{Fits, Lasts, after_turns, final, opened}
use Rattle.trick_model.specs.Session.{Message}
use Rattle.trick_model.specs.State.{State, World}
use Rattle.trick_model.specs.Turn.{turn}
use Rattle.trick_model.specs.declared.entry.Entry.{Entry}
use Rattle.trick_model_remainder.specs.Remainder.{added}

-- ---- the whole lines of a journal

-- Entries of a turn as it notes them: its joins, lines and leaves, and then its publications.
abbrev pub in_note_order : List Entry → List Entry
in_note_order entries = filter is_of_session entries ++ filter (λ entry. not (is_of_session entry)) entries

-- the list of a turn, if it has an entry
abbrev pub one_of : List Entry → List (List Entry)
one_of [] = []
one_of (entry ∷ entries) = (entry ∷ entries) ∷ []

-- the lists of the journal that turns write: what each of them notes
abbrev pub journal_lists : Plan → World → List (List Entry) → List (List Entry)
journal_lists p w [] = []
journal_lists p w (entries ∷ lists) =
    let t = turn p w entries in
    let next = t.world in in_note_order t.noted ∷ journal_lists p next lists

-- the bytes of the first are the first bytes of the second, which has more
abbrev pub IsShort : List ℕ → List ℕ → Type 0
IsShort part whole = (byte : ℕ) × (rest : List ℕ) × (whole ≡ part ++ byte ∷ rest)

-- Nothing is torn, or a beginning of the line of the first entry that a turn has still to note.
abbrev pub IsTorn : ℕ → List Entry → List ℕ → Type 0
IsTorn turn rest torn =
    (torn ≡ [])
    ⊎ ((entry : Entry) × (more : List Entry) × (rest ≡ entry ∷ more) × IsShort torn (entry_line turn entry))

-- The cut is what was noted of lists that turns were given: what all of them noted; or what all but the last noted, and
-- of the last turn the first of the entries that it would note. Then the line of the next one may be torn.
abbrev pub IsCutOf : Plan → World → List (List Entry) → List ℕ → List (List Entry) → Type 0
IsCutOf p w cut torn lists =
    ((cut ≡ journal_lists p w lists) × (torn ≡ []))
    ⊎ ((most : List (List Entry)) × (entries front rest : List Entry) × (lists ≡ most ++ entries ∷ [])
    × (in_note_order (turn p (after_turns p w most) entries).noted ≡ front ++ rest)
    × (cut ≡ journal_lists p w most ++ one_of front) × IsTorn (after_turns p w most).state.turn rest torn)

-- what turns from a state on add to the journal: the lines of the entries that count, turn after turn
abbrev pub noted_text : Plan → State → List (List Entry) → List ℕ
noted_text p s lists = added journal_name (turns_writes p (opened s) lists)

-- The journal of a run that was given these lists was this, and then became this; its whole lines are those that the
-- turns under the cut note, with what is torn after them. It is as it was, or has a beginning of its two first lines,
-- only where no list was given. Its last line, or a beginning of it, is there only where all lists were noted and the
-- run is over.
pub data HasLines (p : Plan) (s : State)
    : (lists cut : List (List Entry)) → (torn : List ℕ) → (before now : Option (List ℕ)) → Type 0 where
  untouched : (before : Option (List ℕ)) → HasLines p s [] [] [] before before
  begun : (before : Option (List ℕ)) (text : List ℕ) → IsPrefix text (first_lines s.turn)
      → HasLines p s [] [] [] before (Some text)
  lines : (lists cut : List (List Entry)) (torn : List ℕ) (before : Option (List ℕ))
      → HasLines p s lists cut torn before (Some (first_lines s.turn ++ (noted_text p s cut ++ torn)))
  ended : (lists : List (List Entry)) (before : Option (List ℕ)) (last : List ℕ) → Fits p s lists
      → IsPrefix last (last_line (final p s lists).turn)
      → HasLines p s lists (journal_lists p (opened s) lists) [] before
      (Some (first_lines s.turn ++ (noted_text p s (journal_lists p (opened s) lists) ++ last)))

-- ---- the other files, and the messages

-- A run that was given these lists, and had handed over these messages, left its files so. Its journal's whole lines
-- are those of the cut. Every other file that a run makes once at most is as it was, or a prefix of its file in the run
-- under the cut. The messages are the first of those that this run hands over; none was, where no list was given.
pub record Left (p : Plan) (s : State) (lists : List (List Entry)) (sent : List Message) (before now : Files)
    : Type 0 where
  pub cut : List (List Entry)
  pub torn : List ℕ
  pub is_cut : IsCutOf p (opened s) cut torn lists
  pub journal : HasLines p s lists cut torn (get before journal_name) (get now journal_name)
  pub files : (more : List (List Entry)) (end : World) → Lasts p (opened s) cut more end → (name : List ℕ)
      → same_name name journal_name ≡ false → IsTidy name (run_writes p s more)
      → IsPartly (get before name) (get now name) (content name (run_writes p s more) (get before name))
  pub said : (more : List (List Entry)) (end : World) → Lasts p (opened s) cut more end
      → (rest : List Message) × (turns_said p (opened s) more ≡ sent ++ rest)
  pub unsaid : lists ≡ [] → sent ≡ []
