-- The text that a run writes.
use Rattle.std.proofs.Common.{◌≡◌, ◌∙◌, ℕ, ◌+◌, ◌≤◌, List, [], ◌∷◌, ◌++◌, Some, ap, length, refl, sym}
use Rattle.std.specs.Prelude.{Option}
use Rattle.trick_base.proofs.ContentLemmas.{content-append}
use Rattle.trick_base.specs.Content.{content}
use Rattle.trick_exec_own_journal.proofs.Entries.{lines_at}
use Rattle.trick_exec_own_journal.proofs.Turns.{next_turn, turns_left}
use Rattle.trick_exec_own_journal.specs.Rules.{noted_from}
use Rattle.trick_exec_own_journal.specs.Written.{written_text}
use Rattle.trick_model.specs.Files.{end_writes, file, journal_name, start_writes, turn_writes, turns_writes}
use Rattle.trick_model.specs.Journal.{entry_lines, first_lines, last_line, noted_lines}
use Rattle.trick_model.specs.Plan.{Plan}
use Rattle.trick_model.specs.Run.{final, opened}
use Rattle.trick_model.specs.State.{State, World}
use Rattle.trick_model.specs.Time.{last_turn}
use Rattle.trick_model.specs.Turn.{turn}
use Rattle.trick_model.specs.declared.entry.Entry.{Entry}
use Rattle.trick_model_remainder.proofs.Contents.{added_append, kept_adds}
use Rattle.trick_model_remainder.proofs.Ends.{end_journal, journal_is_no_checkpoint, starts_journal}
use Rattle.trick_model_remainder.proofs.Turns.{turns_kept}
use Rattle.trick_model_remainder.specs.Remainder.{added}
use Rattle.trick_exec_laws.proofs.Notes.{turn_adds}
use Rattle.trick_exec_laws.specs.Left.{in_note_order, journal_lists}

-- what turns add to the journal
pub turns_add : (p : Plan) (w : World) (lists : List (List Entry)) → w.state.turn + length lists ≤ last_turn
    → added journal_name (turns_writes p w lists) ≡ noted_lines (noted_from w.state.turn (journal_lists p w lists))
turns_add p w [] most = refl
turns_add p w (entries ∷ lists) most =
    let t = turn p w entries in
    let list = in_note_order t.noted in
    let later = journal_lists p t.world lists in
    added_append journal_name (turn_writes w.state.turn t) (turns_writes p t.world lists)
    ∙ ap (λ (bytes : List ℕ). bytes ++ added journal_name (turns_writes p t.world lists)) (turn_adds p w entries)
    ∙ ap (λ (bytes : List ℕ). entry_lines w.state.turn list ++ bytes) (turns_add p t.world lists (turns_left p w entries lists most))
    ∙ ap (λ (n : ℕ). entry_lines w.state.turn list ++ noted_lines (noted_from n later)) (next_turn p w entries lists most)
    ∙ sym (lines_at w.state.turn list (noted_from (w.state.turn + 1) later))

pub journal_held : (p : Plan) (s : State) (lists : List (List Entry)) (before : Option (List ℕ)) → s.turn + length lists ≤ last_turn
    → file journal_name p s lists before ≡ Some (written_text p s lists)
journal_held p s lists before most =
    let first = start_writes p s.turn in
    let turns = turns_writes p (opened s) lists in
    let last = final p s lists in
    let ends = end_writes p last in
    content-append journal_name (first ++ turns) ends before
    ∙ ap (content journal_name ends) (content-append journal_name first turns before
    ∙ ap (content journal_name turns) (starts_journal p s.turn before)
    ∙ kept_adds journal_name turns (first_lines s.turn) (turns_kept journal_name p (opened s) lists journal_is_no_checkpoint))
    ∙ end_journal p last (first_lines s.turn ++ added journal_name turns)
    ∙ ap (λ (bytes : List ℕ). Some ((first_lines s.turn ++ bytes) ++ last_line last.turn)) (turns_add p (opened s) lists most)
