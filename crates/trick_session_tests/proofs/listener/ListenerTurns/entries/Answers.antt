use Rattle.std.proofs.Common.{ℕ, List}
use Rattle.std.specs.Prelude.{Some, true}
use Rattle.trick_exec_sources.proofs.Gaps.{GivesEach}
use Rattle.trick_exec_sources.specs.Replay.{AreTold, sessions_of, told_of}
use Rattle.trick_exec_sources.specs.declared.journal_turns.JournalTurns.{JournalTurns}
use Rattle.trick_session_tests.proofs.listener.ListenerTurns.entries.Goals as goal
use Rattle.trick_session_tests.specs.declared.listener.Listener.{Listener}
use Rattle.trick_model.specs.State.{State, seen}
use Rattle.trick_model.specs.Turn.{counted}
use Rattle.trick_model.specs.declared.session.Session.{Session}
use Rattle.trick_exec_sources.specs.Gap as gap
use Rattle.trick_exec_sources.specs.Gap.{Gap, GivesNone, IfGap}
use Rattle.trick_exec_sources.specs.declared.turns.Next.TheVariants as next
use Rattle.trick_exec_sources.specs.declared.turns.Next.{Next}

-- A listener gave a turn no entry.
abbrev Gives : List Session → State → Listener → Listener → Type 0
Gives live = GivesNone (λ old answers messages new. AreTold (told_of old.journal) answers (told_of new.journal)) (λ turns. turns.journal.owes)
    (λ turns. Some (told_of turns.journal)) (λ turns. true) (λ turns. sessions_of turns.journal) live

abbrev with_journal : Listener → JournalTurns → Listener
with_journal l journal = record l { journal = journal }

gives_so : (live : List Session) (l : Listener) (s : State) (old new : JournalTurns) → GivesEach live s old new
    → Gives live s (with_journal l old) (with_journal l new)
gives_so live l s old new gives = record {
  frozen = gives.frozen;
  step = gives.step;
  owed = gives.owed;
  told = gives.told;
  decides = gives.decides;
  there = gives.there;
}

gap_so : (live : List Session) (l : Listener) (s : State) (turns : ℕ) (old new : JournalTurns) → Gap (GivesEach live) s turns old new
    → Gap (Gives live) s turns (with_journal l old) (with_journal l new)
gap_so live l _ _ _ _ (gap.last s old new gives) = gap.last s (with_journal l old) (with_journal l new) (gives_so live l s old new gives)
gap_so live l _ _ _ _ (gap.more s turns old mid new gives rest) =
    gap.more s turns (with_journal l old) (with_journal l mid) (with_journal l new) (gives_so live l s old mid gives)
    (gap_so live l (counted s) turns mid new rest)

if_gap : (n : Next) (one other : ℕ → Type 0) → ((turns : ℕ) → one turns → other turns) → IfGap n one → IfGap n other
if_gap (next.Entries list) one other so given = given
if_gap next.Nothing one other so given = given
if_gap (next.Gap turns) one other so given = so turns given
if_gap next.NoMore one other so given = given
if_gap (next.Length kept end) one other so given = given
if_gap next.OutOfMemory one other so given = given

pub returns-clause-gap : goal.returns-clause-gap
returns-clause-gap g c =
    if_gap c.entries.result _ _
    (λ turns given. gap_so c.args.live.now c.args.self.now (seen g.M.Cells.numbers c.args.state.now) turns c.args.self.now.journal c.entries.new.self given)
    c.entries.ensures.gap
