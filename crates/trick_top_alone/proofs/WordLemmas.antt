-- The words that are read.
use Rattle.std.proofs.Common.{◌≡◌, ℕ, List, None, Some, false, true, refl, sym, ◌∙◌, ap, subst}
use Rattle.std.specs.Prelude.{MatchOption, Option}
use Rattle.trick_top_alone.proofs.CompleteLemmas.{AreOneLine}
use Rattle.trick_top_alone.specs.Aims as aim
use Rattle.trick_top_alone.specs.Words.{AreRefused, Asks, AsksNoRun, AsksToRun, aim_of_task, has_command, has_task, journal_of, without_run}
use Rattle.trick_top_words.specs.Command as lines
use Rattle.trick_top_words.specs.CommandLine.{Text}
use Rattle.trick_top_words.specs.declared.command.Command.TheVariants as commands
use Rattle.trick_top_words.specs.declared.command.Command.{Command}
use Rattle.trick_top_words.specs.declared.command.Task.TheVariants as task
use Rattle.trick_top_words.specs.declared.command.Task.{Task}
use Rattle.trick_top_words.specs.declared.command.Texts.{Texts}

-- a command that was read is one that the call without threads has, or not
pub says_words : AreOneLine → (words : List Text) (command : Command) → lines.Asks words command → (result : Option Command)
    → MatchOption result (has_command false command ≡ false) (λ known. (known ≡ command) × (has_command false command ≡ true))
    → MatchOption result (AreRefused (without_run words)) (Asks (without_run words))
says_words once words command asked None other = λ found asks.
    let same : found ≡ command = once words found command asks.asked asked in
    cc (sym asks.known ∙ ap (has_command false) same ∙ other)
says_words once words command asked (Some known) (is, has) =
    subst (Asks (without_run words)) (sym is) (record { asked = asked; known = has })

-- what no call without threads has is a run by threads
of_threads : (t : Task) → has_task false t ≡ false → (port : Option ℕ) × (t ≡ task.Run port)
of_threads task.Serial other = cc other
of_threads (task.Run port) other = (port, refl)
of_threads (task.Replay journal) other = cc other
of_threads task.Check other = cc other
of_threads task.List other = cc other

-- a command that was read asks to run something by threads, or nothing
pub says_run : AreOneLine → (words : List Text) (command : Command) → lines.Asks words command → (result : Option Texts)
    → MatchOption result (has_command false command ≡ true) (λ about. (command ≡ commands.Texts about) × (has_task false about.task ≡ false))
    → MatchOption result (AsksNoRun words) (AsksToRun words)
says_run once words command asked None known = λ about asks.
    let same : commands.Texts about ≡ command = once words (commands.Texts about) command asks.asked asked in
    let threads : has_task false about.task ≡ false = ap (has_task false) asks.is_run in
    cc (sym threads ∙ ap (has_command false) same ∙ known)
says_run once words command asked (Some about) (is, other) =
    let (port, run) = of_threads about.task other in
    record { asked = subst (lines.Asks words) is asked; port = port; is_run = run }

-- words that are no line ask for nothing
pub says_none : (words : List Text) → lines.AreRefused words → AreRefused (without_run words)
says_none words refused = λ command asks. refused command asks.asked

-- words that are no line ask to run nothing
pub runs_none : (words : List Text) → lines.AreRefused words → AsksNoRun words
runs_none words refused = λ about asks. refused (commands.Texts about) asks.asked

-- what words ask to run by threads has no journal
pub run_alone : (words : List Text) (about : Texts) → AsksToRun words about → journal_of about.task ≡ None
run_alone words about asks = ap journal_of asks.is_run

-- and is a run
pub run_task : (words : List Text) (about : Texts) → AsksToRun words about → aim_of_task about.task ≡ aim.Run
run_task words about asks = ap aim_of_task asks.is_run
