-- Clients: sessions, their texts, and journals.
use Rattle.std.proofs.Common.{refl}
use native.Mathlib.Omega.{arith}
use Rattle.std.specs.Fmt.{digits}
use Rattle.std.specs.Int.{int_wrap}
use Rattle.std.specs.Prelude.{◌≡◌, true, List, [], ◌∷◌, ◌++◌, codes, take}
use Rattle.trick_model.proofs.Counting.{counter}
use Rattle.trick_model.proofs.Samples.{Ends}
use Rattle.trick_model.specs.Files.{session_text}
use Rattle.trick_model.specs.Journal.{Noted, journal_text}
use Rattle.trick_model.specs.JournalText.{IsJournal}
use Rattle.trick_model.specs.Plan.{Plan}
use Rattle.trick_model.specs.Run.{JournalFits, after_turns, given, lists_of, opened, start}
use Rattle.trick_model.specs.State.{State}
use Rattle.trick_model.specs.declared.entry.Cause.TheVariants.{Exit, HungUp}
use Rattle.trick_model.specs.declared.entry.Entry.TheVariants.{Join, Said, Leave}
use Rattle.trick_model.specs.declared.mode.Mode.TheVariants as mode
use Rattle.trick_text.specs.Pieces as pieces

-- a run that starts in Freeze
abbrev pub waiting : Plan
waiting = record counter { frozen = true }

-- ---- a client that resumes the run

abbrev pub resuming : List Noted
resuming =
    (0, Join 1) ∷ (0, Said 1 (codes "trick.var_add(\"counter.n\")")) ∷ (0, Said 1 (codes "trick.var_add(\"counter.zz\")"))
    ∷ (0, Said 1 (codes "trick.var_cycle(0.000002)")) ∷ (0, Said 1 (codes "trick.exec_run()")) ∷ []

-- The same end as without a client, and the journal with its lines.
pub resuming_ends : Ends waiting (start waiting) (lists_of resuming 4 0 mode.Freeze) (
    (codes "final.chk", codes "checkpoint = 1;\nturn = 4;\ntic = 7;\nlimit = 7;\nmode = Shutdown;\n" ++ codes "counter.n = 4;\njob[0] = 1;\nfaults = 0;\nend;\n")
    ∷ (codes "journal.txt", journal_text 0 resuming 4)
    ∷ [])
unfolding int_wrap digits pieces.front pieces.name_front pieces.number_front pieces.mark_len pieces.text_front
resuming_ends = record { goes = refl; over = refl; files = refl }

pub resuming_journal : journal_text 0 resuming 4 ≡ codes "tricks journal 1\nfrom 0\n0 join 1\n0 cmd 1 trick.var_add(\"counter.n\")\n" ++ codes "0 cmd 1 trick.var_add(\"counter.zz\")\n0 cmd 1 trick.var_cycle(0.000002)\n0 cmd 1 trick.exec_run()\nend 4\n"
unfolding int_wrap digits pieces.front pieces.name_front pieces.number_front pieces.mark_len pieces.text_front
resuming_journal = refl

-- The text is a journal's, which keeps all rules, and fits.
pub resuming_is_journal : IsJournal waiting 0 (journal_text 0 resuming 4) (record {
  from = 0;
  entries = resuming;
  end = 4;
  in_range = refl;
  rising = refl;
  within = refl;
  joined = refl;
  forward = omega arith;
  end_right = omega arith;
})
resuming_is_journal = record { text = refl; not_later = omega arith; published = refl }

pub resuming_fits : JournalFits waiting (start waiting) resuming 4
unfolding int_wrap digits pieces.front pieces.name_front pieces.number_front pieces.mark_len pieces.text_front
resuming_fits = record { not_below = omega arith; fits = record { goes = refl; over = refl } }

-- The last frame runs one tic, in which no multiple of the cycle passes, so that no fourth line is sent.
pub resuming_is_told : session_text waiting (start waiting) (lists_of resuming 4 0 mode.Freeze) 1 ≡ (codes "0\t1\tBAD_REF\n" ∷ codes "0\t2\tBAD_REF\n" ∷ codes "0\t3\tBAD_REF\n" ∷ [])
unfolding int_wrap digits pieces.front pieces.name_front pieces.number_front pieces.mark_len pieces.text_front
resuming_is_told = refl

-- With an end after turn 5 or 3 the journal does not fit: the run is over at turn 4, or goes on there.
pub end_too_late : given waiting (start waiting) resuming 5 ≡ 4
unfolding int_wrap digits pieces.front pieces.name_front pieces.number_front pieces.mark_len pieces.text_front
end_too_late = refl

pub end_too_early : given waiting (start waiting) resuming 3 ≡ 4
unfolding int_wrap digits pieces.front pieces.name_front pieces.number_front pieces.mark_len pieces.text_front
end_too_early = refl

-- ---- a client in Freeze

abbrev pub asking : List Noted
asking =
    (0, Join 1) ∷ (0, Said 1 (codes "trick.var_exists(\"counter.n\")")) ∷ (0, Said 1 (codes "trick.var_exists(\"counter.m\")"))
    ∷ (0, Said 1 (codes "hello")) ∷ (1, Said 1 (codes "trick.var_add(\"counter.n\")")) ∷ (1, Said 1 (codes "trick.var_send()"))
    ∷ (2, Leave 1 HungUp) ∷ []

-- No time passes, and the run ends in Freeze when no line is left.
pub asking_ends : Ends waiting (start waiting) (lists_of asking 3 0 mode.Freeze) (
    (codes "final.chk", codes "checkpoint = 1;\nturn = 3;\ntic = 0;\nlimit = 7;\nmode = Shutdown;\n" ++ codes "counter.n = 0;\njob[0] = 1;\nfaults = 0;\nend;\n")
    ∷ (codes "journal.txt", journal_text 0 asking 3)
    ∷ [])
unfolding int_wrap digits pieces.front pieces.name_front pieces.number_front pieces.mark_len pieces.text_front
asking_ends = record { goes = refl; over = refl; files = refl }

pub asking_is_told : session_text waiting (start waiting) (lists_of asking 3 0 mode.Freeze) 1 ≡ (codes "1\t1\n" ∷ codes "1\t0\n" ∷ codes "4\tbad command\n" ∷ codes "0\t0\n" ∷ [])
unfolding int_wrap digits pieces.front pieces.name_front pieces.number_front pieces.mark_len pieces.text_front
asking_is_told = refl

-- ---- a client that stops the run

-- From turn 1, at which tic 2 is next: a stop after tic 3 makes the limit 4, and a stop at once makes it 2,
-- so that the turn is a freeze frame.
pub stopped_later : Ends counter (start counter) (lists_of ((1, Join 1) ∷ (1, Said 1 (codes "trick.stop(0.000003)")) ∷ []) 2 0 mode.Run) (
    (codes "final.chk", codes "checkpoint = 1;\nturn = 2;\ntic = 4;\nlimit = 4;\nmode = Shutdown;\n" ++ codes "counter.n = 2;\njob[0] = 1;\nfaults = 0;\nend;\n") ∷ [])
unfolding int_wrap digits pieces.front pieces.name_front pieces.number_front pieces.mark_len pieces.text_front
stopped_later = record { goes = refl; over = refl; files = refl }

pub stopped_at_once : Ends counter (start counter) (lists_of ((1, Join 1) ∷ (1, Said 1 (codes "trick.stop()")) ∷ []) 2 0 mode.Run) (
    (codes "final.chk", codes "checkpoint = 1;\nturn = 2;\ntic = 2;\nlimit = 2;\nmode = Shutdown;\n" ++ codes "counter.n = 1;\njob[0] = 1;\nfaults = 0;\nend;\n") ∷ [])
unfolding int_wrap digits pieces.front pieces.name_front pieces.number_front pieces.mark_len pieces.text_front
stopped_at_once = record { goes = refl; over = refl; files = refl }

-- ---- a client that pauses, and leaves

abbrev pub pausing : List Noted
pausing =
    (0, Join 1) ∷ (0, Said 1 (codes "trick.var_add(\"counter.n\")")) ∷ (0, Said 1 (codes "trick.var_cycle(0.000002)"))
    ∷ (0, Said 1 (codes "trick.var_pause()")) ∷ (1, Said 1 (codes "trick.var_unpause()")) ∷ (2, Said 1 (codes "trick.var_clear()"))
    ∷ (3, Said 1 (codes "trick.var_add(\"counter.n\")")) ∷ (3, Said 1 (codes "trick.var_exit()")) ∷ (3, Leave 1 Exit) ∷ []

-- While it is paused, without variables, or leaving, no sample is sent.
pub pausing_is_told : session_text counter (start counter) (lists_of pausing 4 0 mode.Run) 1 ≡ (codes "0\t2\n" ∷ [])
unfolding int_wrap digits pieces.front pieces.name_front pieces.number_front pieces.mark_len pieces.text_front
pausing_is_told = refl

-- ---- sessions at a loaded state

abbrev pub staying : List Noted
staying =
    (0, Join 1) ∷ (0, Said 1 (codes "trick.var_add(\"counter.n\")")) ∷ (0, Join 4) ∷ (0, Said 1 (codes "trick.exec_run()"))
    ∷ (1, Leave 1 HungUp) ∷ (1, Join 5) ∷ (2, Said 4 (codes "trick.var_add(\"counter.n\")"))
    ∷ (2, Said 4 (codes "trick.var_send()")) ∷ (3, Said 5 (codes "trick.var_exists(\"counter.n\")")) ∷ []

-- the state after two turns
abbrev pub halfway : State
halfway = (after_turns waiting (opened (start waiting)) (take 2 (lists_of staying 4 0 mode.Freeze))).state

-- From there sessions 4 and 5, which joined and did not leave, join first.
pub staying_ends : Ends waiting halfway (lists_of staying 4 2 mode.Run) (
    (codes "journal.txt", codes "tricks journal 1\nfrom 2\n2 join 4\n2 join 5\n2 cmd 4 trick.var_add(\"counter.n\")\n" ++ codes "2 cmd 4 trick.var_send()\n3 cmd 5 trick.var_exists(\"counter.n\")\nend 4\n")
    ∷ [])
unfolding int_wrap digits pieces.front pieces.name_front pieces.number_front pieces.mark_len pieces.text_front
staying_ends = record { goes = refl; over = refl; files = refl }

pub staying_is_told : session_text waiting halfway (lists_of staying 4 2 mode.Run) 4 ≡ (codes "0\t3\n" ∷ [])
unfolding int_wrap digits pieces.front pieces.name_front pieces.number_front pieces.mark_len pieces.text_front
staying_is_told = refl

-- ---- a loaded state in Freeze

-- session 3 joins, and stops the time in the turn before the last
abbrev pub freezing : List Noted
freezing = (0, Join 3) ∷ (3, Said 3 (codes "trick.exec_freeze()")) ∷ []

-- the state before turn 4
abbrev pub still : State
still = (after_turns counter (opened (start counter)) (lists_of freezing 4 0 mode.Run)).state

pub still_stands : (still.turn ≡ 4) × (still.tic ≡ 6) × (still.limit ≡ 7) × (still.mode ≡ mode.Freeze)
unfolding int_wrap digits pieces.front pieces.name_front pieces.number_front pieces.mark_len pieces.text_front
still_stands = (refl, refl, refl, refl)

-- No line is left at turn 4, so that the run is over there, and session 3 does not join again. The journal fits
-- with its end at 4, and neither at 5 nor at 6.
pub still_fits : JournalFits counter still freezing 4
unfolding int_wrap digits pieces.front pieces.name_front pieces.number_front pieces.mark_len pieces.text_front
still_fits = record { not_below = omega arith; fits = record { goes = refl; over = refl } }

pub still_at_five : given counter still freezing 5 ≡ 4
unfolding int_wrap digits pieces.front pieces.name_front pieces.number_front pieces.mark_len pieces.text_front
still_at_five = refl

pub still_at_six : given counter still freezing 6 ≡ 4
unfolding int_wrap digits pieces.front pieces.name_front pieces.number_front pieces.mark_len pieces.text_front
still_at_six = refl

-- Where a line is left, at turn 5, session 3 joins at turn 4, and the run is over at turn 6.
pub still_leaves : Ends counter still (lists_of (freezing ++ (5, Leave 3 HungUp) ∷ []) 6 4 mode.Freeze) (
    (codes "journal.txt", codes "tricks journal 1\nfrom 4\n4 join 3\n5 leave 3 HungUp\nend 6\n") ∷ [])
unfolding int_wrap digits pieces.front pieces.name_front pieces.number_front pieces.mark_len pieces.text_front
still_leaves = record { goes = refl; over = refl; files = refl }
