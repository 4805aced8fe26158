-- What turns note keeps the rules.
use Rattle.std.proofs.Common.{◌≡◌, ◌∙◌, ℕ, suc, List, [], ◌∷◌, ◌++◌, Bool, true, false, ap, length, refl, subst, sym}
use Rattle.std.proofs.lemmas.Bool.{and_from, and_parts}
use Rattle.std.specs.Prelude.{Option, Some, None, cond, filter, map}
use Rattle.trick_exec_own_journal.proofs.Choosing.{AllRise}
use Rattle.trick_exec_own_journal.proofs.Coming.{KeepRules, after_apart, between_fewer, come_apart, lines_in, others_in, publish_between}
use Rattle.trick_exec_own_journal.proofs.Entries.{AllMayPublish, entries_may_publish}
use Rattle.trick_exec_own_journal.proofs.Threads.{async_of_found, found_async}
use Rattle.trick_model.specs.Beside.{find_thread, has_round, is_in_flight}
use Rattle.trick_model.specs.JournalText.{may_publish}
use Rattle.trick_model.specs.Plan.{Plan, is_async, threads_beside}
use Rattle.trick_model.specs.State.{State, World, taken_at}
use Rattle.trick_model.specs.Turn.{begun, heard, noted, publishes, runs, turn}
use Rattle.trick_model.specs.Valid.{rises, thread_numbers}
use Rattle.trick_model.specs.declared.entry.Entry.{Entry}
use Rattle.trick_model.specs.declared.entry.Entry.TheVariants.{Join, Said, Leave, Publish}
use Rattle.trick_model.specs.declared.thread.Thread.{Thread}
use Rattle.trick_exec_laws.proofs.Notes.{AllCount, lines_noted, noted_count}
use Rattle.trick_exec_laws.specs.Left.{in_note_order, journal_lists}
use Rattle.trick_exec_meaning.specs.Answers.{given}
use Rattle.trick_exec_sources.specs.Turns.{Sessions, after_entries, in_next, may_all_come}

-- ---- the publications that a turn notes are some of those that it was given

others_noted : (p : Plan) (s : State) (entries : List Entry) → others_in (noted p s entries) ≡ filter (publishes p s) (others_in entries)
others_noted p s [] = refl
others_noted p s (Join session ∷ entries) = others_noted p s entries
others_noted p s (Said session line ∷ entries) = others_noted p s entries
others_noted p s (Leave session cause ∷ entries) = others_noted p s entries
others_noted p s (Publish thread ∷ entries) = by (publishes p s (Publish thread)) (others_noted p s entries)
  where
    by : (b : Bool) → others_in (noted p s entries) ≡ filter (publishes p s) (others_in entries)
        → others_in (cond b (Publish thread ∷ noted p s entries) (noted p s entries))
        ≡ cond b (Publish thread ∷ filter (publishes p s) (others_in entries)) (filter (publishes p s) (others_in entries))
    by true e = ap (λ (es : List Entry). Publish thread ∷ es) e
    by false e = e

-- what a turn notes, by what it was given
note_is : (p : Plan) (s : State) (entries : List Entry)
    → in_note_order (noted p s entries) ≡ lines_in entries ++ filter (publishes p s) (others_in entries)
note_is p s entries =
    ap (λ (es : List Entry). es ++ others_in (noted p s entries)) (lines_noted p s entries)
    ∙ ap (λ (es : List Entry). lines_in entries ++ es) (others_noted p s entries)

pub noted_keep : (p : Plan) (w : World) (lists : List (List Entry)) (t : Sessions) → KeepRules (map (given false) lists) t → AllRise lists
    → KeepRules (journal_lists p w lists) t
noted_keep p w [] t keep rise = tt
noted_keep p w (entries ∷ lists) t keep rise =
    let s : State = (heard p entries (begun w)).asking.state in
    let others = filter (publishes p s) (others_in entries) in
    let fewer : publish_between 0 others 15 ≡ true = between_fewer (publishes p s) 0 (others_in entries) 15 rise.0 in
    let is : in_note_order (noted p s entries) ≡ lines_in entries ++ others = note_is p s entries in
    let next = (turn p w entries).world in (
      subst (λ (es : List Entry). may_all_come es (in_next t) ≡ true) (sym is) (come_apart 0 entries others (in_next t) keep.0 fewer),
      subst (λ (es : List Entry). KeepRules (journal_lists p next lists) (after_entries es (in_next t))) (sym is)
          (subst (λ (u : Sessions). KeepRules (journal_lists p next lists) u) (sym (after_apart 0 (lines_in entries) others 15 (in_next t) fewer))
          (noted_keep p next lists (after_entries (lines_in entries) (in_next t)) keep.1 rise.1)),
    )

-- ---- the publications that a turn notes are of asynchronous threads

flies_async : (s : State) (found : Option (ℕ × Thread)) → (elim found [ None ↦ false | Some found ↦ has_round s found.0 found.1 ]) ≡ true
    → found_async found ≡ true
flies_async s None e = e
flies_async s (Some found) e = (and_parts (is_async (found.1).process) (taken_at s found.0).held e).0

counts_async : (p : Plan) (s : State) (thread : ℕ) → rises (thread_numbers p.threads) ≡ true → publishes p s (Publish thread) ≡ true
    → may_publish p (Publish thread) ≡ true
counts_async p s thread rise counts =
    async_of_found thread p.threads rise
    (flies_async s (find_thread thread (threads_beside p)) (and_parts (runs s) (is_in_flight p s thread) counts).1)

lines_publish : (p : Plan) (entries others : List Entry) → entries_may_publish p others ≡ true → entries_may_publish p (lines_in entries ++ others) ≡ true
lines_publish p [] others all = all
lines_publish p (Join session ∷ entries) others all = lines_publish p entries others all
lines_publish p (Said session line ∷ entries) others all = lines_publish p entries others all
lines_publish p (Leave session cause ∷ entries) others all = lines_publish p entries others all
lines_publish p (Publish thread ∷ entries) others all = lines_publish p entries others all

others_publish : (p : Plan) (s : State) (entries : List Entry) → rises (thread_numbers p.threads) ≡ true → AllCount p s entries
    → entries_may_publish p entries ≡ true
others_publish p s [] rise all = refl
others_publish p s (Join session ∷ entries) rise all = others_publish p s entries rise all.1
others_publish p s (Said session line ∷ entries) rise all = others_publish p s entries rise all.1
others_publish p s (Leave session cause ∷ entries) rise all = others_publish p s entries rise all.1
others_publish p s (Publish thread ∷ entries) rise all =
    and_from (may_publish p (Publish thread)) (entries_may_publish p entries) (counts_async p s thread rise all.0)
    (others_publish p s entries rise all.1)

pub noted_publish : (p : Plan) (w : World) (lists : List (List Entry)) → rises (thread_numbers p.threads) ≡ true
    → AllMayPublish p (journal_lists p w lists)
noted_publish p w [] rise = tt
noted_publish p w (entries ∷ lists) rise =
    let s : State = (heard p entries (begun w)).asking.state in (
      lines_publish p (noted p s entries) (others_in (noted p s entries))
          (others_publish p s (others_in (noted p s entries)) rise (noted_count p s entries)),
      noted_publish p (turn p w entries).world lists rise,
    )

pub noted_many : (p : Plan) (w : World) (lists : List (List Entry)) → length (journal_lists p w lists) ≡ length lists
noted_many p w [] = refl
noted_many p w (entries ∷ lists) = ap suc (noted_many p (turn p w entries).world lists)
