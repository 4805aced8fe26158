-- The text that a run wrote, read again.
use Rattle.std.proofs.Common.{◌≡◌, ◌∙◌, ℕ, List, [], ap, append-nil, subst, sym}
use Rattle.std.specs.FinMap.{get}
use Rattle.trick_journal.specs.Laws.{NoPrefix}
use Rattle.trick_exec_own_journal.proofs.Journals.{last_same}
use Rattle.trick_exec_own_journal.specs.Replaying.{ReplaysRunAgain, WrittenTextsReadBack}
use Rattle.trick_exec_own_journal.specs.Written.{written_text}
use Rattle.trick_model.specs.Files.{file}
use Rattle.trick_model.specs.Journal.{Noted}
use Rattle.trick_model.specs.JournalText.{IsJournal}
use Rattle.trick_model.specs.Plan.{Plan}
use Rattle.trick_model.specs.Run.{JournalFits, final, lists_of}
use Rattle.trick_model.specs.State.{State}
use Rattle.trick_model.specs.declared.entry.Entry.{Entry}
use Rattle.trick_outside.specs.declared.shelf.Shelf.{Ghosts}
use Rattle.trick_exec_alone.specs.Replay.{lists_for}
use Rattle.trick_exec_alone.specs.declared.replayed.Replayed.TheVariants as replayed
use Rattle.trick_exec_alone.specs.Serial.{summary_of}

-- what holds of entries and an end holds of the same ones
read_same : (p : Plan) (s : State) (lists : List (List Entry)) (one other : List Noted) (end last : ℕ) → one ≡ other → end ≡ last
    → lists_of one end s.turn s.mode ≡ lists_of other last s.turn s.mode
read_same p s lists one other end last same ends =
    ap (λ (es : List Noted). lists_of es end s.turn s.mode) same ∙ ap (λ (n : ℕ). lists_of other n s.turn s.mode) ends

pub reads_back : NoPrefix → WrittenTextsReadBack
reads_back one p s lists journal wrote is =
    let mine = wrote.journal in
    let text = written_text p s lists in
    let same = one p s.turn mine journal text [] wrote.is (subst (λ (bytes : List ℕ). IsJournal p s.turn bytes journal) (sym (append-nil text)) is) in
    let gives : lists_of mine.entries mine.end s.turn s.mode ≡ lists_for journal s =
    read_same p s lists mine.entries journal.entries mine.end journal.end same.1 same.2 in
    record {
      fits = subst (λ (n : ℕ). JournalFits p s journal.entries n) same.2
          (subst (λ (es : List Noted). JournalFits p s es mine.end) same.1 wrote.fits);
      last = ap (λ (ls : List (List Entry)). final p s ls) (sym gives ∙ wrote.gives) ∙ last_same p s lists;
      same = λ name before.
          ap (λ (ls : List (List Entry)). file name p s ls before) (sym gives) ∙ wrote.same name before;
    }

pub runs_again : {S : Type 0} (shelf : Ghosts S) → WrittenTextsReadBack → ReplaysRunAgain shelf
runs_again shelf reads p s lists journal old new (replayed.Ended ended joins) wrote is did =
    let back = reads p s lists journal wrote is in
    record {
      joins = joins;
      ended = ap (λ e. replayed.Ended e joins) (did.ended_so ∙ ap summary_of back.last);
      files = λ before told. (let now = did.files before told in (now.0, now.1, λ name. now.2 name ∙ back.same name (get before name)));
    }
runs_again shelf reads p s lists journal old new (replayed.Length kept given) wrote is did =
    absurd (did.misfit (reads p s lists journal wrote is).fits)
