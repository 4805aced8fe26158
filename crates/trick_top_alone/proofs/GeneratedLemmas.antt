-- How a generated simulation goes on a shelf.
use Rattle.std.proofs.Common.{◌≡◌, ℕ, List, ◌++◌, IsOk, Err, None, sym, subst}
use Rattle.std.proofs.lemmas.Bool.{false_from_ne_true}
use Rattle.std.specs.Prelude.{IsErrOf, Result}
use Rattle.trick_gen.specs.Texts.{definition_text, input_text}
use Rattle.trick_outside.proofs.DoesLemmas.{Joins, went_then}
use Rattle.trick_outside.specs.Calls.{fails}
use Rattle.trick_outside.specs.Does.{Does, Went}
use Rattle.trick_outside.specs.declared.shelf.Shelf.{Ghosts}
use Rattle.trick_outside.specs.declared.stop.Stop.TheVariants.{Memory, Shelf}
use Rattle.trick_outside.specs.declared.stop.Stop.{Stop}
use Rattle.trick_exec_tic.specs.Steps.{steps_of}
use Rattle.trick_top_alone.specs.Generated.{both_writes, text_steps}
use Rattle.trick_top_alone.specs.Outcome.{Generates, HasGone, HasPerformed, Performed, no_memory_for_texts, texts_not_written, texts_run}
use Rattle.trick_top_alone.specs.Sources.{generated_sources}
use Rattle.trick_top_alone.specs.Verdict.{OutOfMemory, ShelfFault, Verdict, with_objects}
use Rattle.trick_top_alone.specs.Words.{Asked}
use Rattle.trick_top_words.specs.declared.command.Command.TheVariants as commands
use Rattle.trick_top_alone.specs.Aims.{Run}

-- both texts are those of so many objects
pub of_objects : {S T : Type 0} {shelf : Ghosts S} {old new : S} {result : Result T Stop} (objects : ℕ) (definition input : List ℕ) → Does shelf old new result (steps_of (both_writes definition input))
    → definition ≡ definition_text objects → input ≡ input_text → Does shelf old new result (text_steps objects)
of_objects {shelf = shelf} {old = old} {new = new} {result = result} objects definition input does first second =
    subst (λ (i : List ℕ). Does shelf old new result (steps_of (both_writes (definition_text objects) i))) second
    (subst (λ (d : List ℕ). Does shelf old new result (steps_of (both_writes d input))) first does)

module _ {S T : Type 0} {shelf : Ghosts S} {old mid : S} (objects : ℕ) {result : Result T Stop} (does : Does shelf old mid result (text_steps objects)) where
  -- a text was not written, since the shelf failed
  pub gone_unwritten : IsErrOf result Shelf → HasGone shelf old mid (Asked (commands.Gen objects)) ShelfFault
  gone_unwritten is = record { calls = does.calls; went = does.went; outcome = texts_not_written does.part (does.failed is) }

  -- a text was not made or not written, for want of memory
  pub gone_short : (why : Stop) → result ≡ Err why → why ≡ Memory → HasGone shelf old mid (Asked (commands.Gen objects)) OutOfMemory
  gone_short why is memory = record {
    calls = does.calls;
    went = does.went;
    outcome = no_memory_for_texts does.part (false_from_ne_true (fails does.calls) (λ e. (let fault = does.fault e in cc)));
  }

  -- both texts were written, and then run
  pub gone_run : {new : S} (s_define input : List ℕ) (verdict told : Verdict) → Joins shelf → IsOk result → s_define ≡ definition_text objects → input ≡ input_text
      → HasPerformed shelf mid new Run (record { s_define = s_define; input = input; from = None; journal = None }) verdict → told ≡ with_objects objects verdict → HasGone shelf old new (Asked (commands.Gen objects)) told
  gone_run {new = new} s_define input verdict told join ok first second on is =
      let performed : Performed Run (generated_sources objects) on.calls verdict =
      subst (λ (i : List ℕ). Performed Run (record { s_define = definition_text objects; input = i; from = None; journal = None }) on.calls verdict) second
      (subst (λ (s : List ℕ). Performed Run (record { s_define = s; input = input; from = None; journal = None }) on.calls verdict) first on.performed) in
      record {
        calls = text_steps objects ++ on.calls;
        went = went_then join (subst (Went shelf old mid) (does.whole ok) does.went) on.went;
        outcome = subst (Generates objects (text_steps objects ++ on.calls)) (sym is) (texts_run on.calls performed);
      }
