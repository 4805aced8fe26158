-- What turns write of other files than the journal.
use Rattle.std.proofs.Common.{◌≡◌, ◌∙◌, ℕ, List, [], ◌∷◌, ◌++◌, Bool, false, not, cond, Some, unwrap_or, ap, refl, sym}
use Rattle.std.specs.Prelude.{Option, filter}
use Rattle.trick_base.proofs.ContentLemmas.{content-append}
use Rattle.trick_base.specs.Content.{content, same_name}
use Rattle.trick_base.specs.Files.{Write}
use Rattle.trick_model_sessions.proofs.Lines.{rows_same, states_same}
use Rattle.trick_model_sessions.specs.Lines.{SameLinesDoTheSame, SameLinesWriteTheSame, rows_and_checkpoints}
use Rattle.trick_model.specs.Files.{end_writes, journal_name, note, start_writes, turn_writes, turns_writes}
use Rattle.trick_model.specs.Journal.{entry_lines, is_of_session}
use Rattle.trick_model.specs.Plan.{Plan}
use Rattle.trick_model.specs.Run.{final, opened, shut}
use Rattle.trick_model.specs.State.{State, World}
use Rattle.trick_model.specs.Turn.{Turned, turn}
use Rattle.trick_model.specs.declared.entry.Entry.{Entry}

-- notes leave every other file as it is
note_leaves : (name : List ℕ) (number : ℕ) (entries : List Entry) (before : Option (List ℕ)) → same_name name journal_name ≡ false
    → content name (note number entries) before ≡ before
note_leaves name number [] before other = refl
note_leaves name number (entry ∷ entries) before other =
    ap (λ (b : Bool). cond b (Some (unwrap_or before [] ++ entry_lines number (entry ∷ entries))) before) other

-- of a turn only its rows and its checkpoint are left
turn_leaves : (name : List ℕ) (number : ℕ) (t : Turned) (before : Option (List ℕ)) → same_name name journal_name ≡ false
    → content name (turn_writes number t) before ≡ content name t.writes before
turn_leaves name number t before other =
    let lines = note number (filter is_of_session t.noted) in
    let others = note number (filter (λ (entry : Entry). not (is_of_session entry)) t.noted) in
    content-append name (lines ++ others) t.writes before
    ∙ ap (content name t.writes) (content-append name lines others before
    ∙ ap (content name others) (note_leaves name number (filter is_of_session t.noted) before other)
    ∙ note_leaves name number (filter (λ (entry : Entry). not (is_of_session entry)) t.noted) before other)

turns_leave : (name : List ℕ) (p : Plan) (w : World) (lists : List (List Entry)) (before : Option (List ℕ)) → same_name name journal_name ≡ false
    → content name (turns_writes p w lists) before ≡ content name (rows_and_checkpoints p w lists) before
turns_leave name p w [] before other = refl
turns_leave name p w (entries ∷ lists) before other =
    let t = turn p w entries in
    let next = t.world in
    content-append name (turn_writes w.state.turn t) (turns_writes p next lists) before
    ∙ ap (content name (turns_writes p next lists)) (turn_leaves name w.state.turn t before other)
    ∙ turns_leave name p next lists (content name t.writes before) other
    ∙ sym (content-append name t.writes (rows_and_checkpoints p next lists) before)

pub do_the_same : SameLinesDoTheSame
do_the_same p w v one other e all =
    let rows = rows_same p w v one other e all in
    record {
      state = states_same p w v one other e all;
      rows = rows;
      files = λ name before apart.
          turns_leave name p w one before apart ∙ ap (λ (writes : List Write). content name writes before) rows
          ∙ sym (turns_leave name p v other before apart);
    }

pub write_the_same : SameLinesWriteTheSame
write_the_same p s one other all =
    let same = do_the_same p (opened s) (opened s) one other refl all in
    let ends : final p s one ≡ final p s other = ap (λ (t : State). shut p t) same.state in
    record {
      ends = ends;
      files = λ name before apart.
          let first = start_writes p s.turn in
          let some = turns_writes p (opened s) one in
          let more = turns_writes p (opened s) other in
          content-append name (first ++ some) (end_writes p (final p s one)) before
          ∙ ap (λ (t : State). content name (end_writes p t) (content name (first ++ some) before)) ends
          ∙ ap (content name (end_writes p (final p s other)))
          (content-append name first some before ∙ same.files name (content name first before) apart ∙ sym (content-append name first more before))
          ∙ sym (content-append name (first ++ more) (end_writes p (final p s other)) before);
    }
