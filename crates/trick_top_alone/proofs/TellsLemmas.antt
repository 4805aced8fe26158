-- What a row of the table of statuses says where the call has the command `run`.
use Rattle.std.proofs.Common.{◌≡◌, ℕ, List, Option, inl, inr, refl, true, false}
use Rattle.std.specs.Prelude.{◌⊎◌}
use Rattle.trick_outside.specs.declared.shelf.Shelf as shelf
use Rattle.trick_outside.specs.declared.sink.Sink as sink
use Rattle.trick_top_alone.specs.Answered.{HasAnswered}
use Rattle.trick_top_alone.specs.Outcome.{HasGone}
use Rattle.trick_top_alone.specs.Printed.{Prints}
use Rattle.trick_top_alone.specs.Verdict.{OutOfMemory, Verdict}
use Rattle.trick_top_alone.specs.Words.{Asked, Asks, AsksNoRun, AsksToRun, IsWanted, Nothing, Unknown, Wanted, Words}
use Rattle.trick_top_alone.specs.Words.{has_command, has_task, with_run, without_run}
use Rattle.trick_top_words.specs.declared.command.Command.TheVariants as commands
use Rattle.trick_top_words.specs.declared.command.Command.{Command}
use Rattle.trick_top_words.specs.declared.command.Task.TheVariants as task
use Rattle.trick_top_words.specs.declared.command.Task.{Task}
use Rattle.trick_top_words.specs.declared.command.Texts.{Texts}

-- a call with `run` has each task
each_task : (t : Task) → has_task true t ≡ true
each_task task.Serial = refl
each_task t = refl

-- and each command
pub each_command : (command : Command) → has_command true command ≡ true
each_command (commands.Texts about) = each_task about.task
each_command (commands.Gen objects) = refl

-- a task is a run by threads, or one that each call has
run_or_known : (t : Task) → ((port : Option ℕ) × (t ≡ task.Run port)) ⊎ (has_task false t ≡ true)
run_or_known (task.Run port) = inl (port, refl)
run_or_known t = inr refl

-- words that ask to run nothing by threads ask for what each call has
known_still : (words : List (List ℕ)) (command : Command) → AsksNoRun words → Asks (with_run words) command
    → Asks (without_run words) command
known_still words (commands.Texts about) never asks = elim (run_or_known about.task) [
  | inl (port, is) ↦ absurd (never about (record { asked = asks.asked; port = port; is_run = is }))
  | inr known ↦ record { asked = asks.asked; known = known }
]
known_still words (commands.Gen objects) never asks = record { asked = asks.asked; known = refl }

-- what words ask for that ask to run nothing by threads
wanted_still : (words : List (List ℕ)) → AsksNoRun words → (wanted : Wanted) → IsWanted (without_run words) wanted
    → IsWanted (with_run words) wanted
wanted_still words never Unknown is = tt
wanted_still words never Nothing refused = λ command asks. refused command (known_still words command never asks)
wanted_still words never (Asked command) asks = record { asked = asks.asked; known = each_command command }

module _ {S O : Type 0} {shelf : shelf.Ghosts S} {sink : sink.Ghosts O} {old new : S} {before now : O} where
  -- what was run by threads is what the words ask for
  pub ran : (words : List (List ℕ)) (about : Texts) (verdict : Verdict) (status : ℕ) → AsksToRun words about
      → HasGone shelf old new (Asked (commands.Texts about)) verdict → Prints sink before now verdict status
      → HasAnswered shelf sink old new before now (with_run words) status
  ran words about verdict status asks gone prints = record {
    wanted = Asked (commands.Texts about);
    asked = record { asked = asks.asked; known = each_command (commands.Texts about) };
    verdict = verdict;
    gone = gone;
    prints = prints;
  }

  -- where nothing is to be run by threads, it is the row of the call that has no such command
  pub not_run : (words : List (List ℕ)) (status : ℕ) → AsksNoRun words
      → HasAnswered shelf sink old new before now (without_run words) status
      → HasAnswered shelf sink old new before now (with_run words) status
  not_run words status never row = record {
    wanted = row.wanted;
    asked = wanted_still words never row.wanted row.asked;
    verdict = row.verdict;
    gone = row.gone;
    prints = row.prints;
  }

  -- there was no memory
  pub not_known : (words : Words) (status : ℕ) → HasGone shelf old new Unknown OutOfMemory
      → Prints sink before now OutOfMemory status → HasAnswered shelf sink old new before now words status
  not_known words status gone prints =
      record { wanted = Unknown; asked = tt; verdict = OutOfMemory; gone = gone; prints = prints }
