-- What the rows say of the calls: where one failed, and what they leave.
use Rattle.std.proofs.Common.{◌≡◌, ◌≢◌, ℕ, List, [], ◌∷◌, ◌++◌, refl, sym, ◌∙◌, ap, Bool, true, false, ◌||◌}
use Rattle.std.specs.Prelude.{Option}
use Rattle.trick_base.specs.Files.{Write}
use Rattle.trick_model.specs.declared.plan.Plan.{Plan}
use Rattle.trick_outside.proofs.CallLemmas.{ends-append, fails-late, not_both, part_ends, part_of_all}
use Rattle.trick_outside.specs.Calls.{Call, EndAtFault, fails, is_fault}
use Rattle.trick_exec_tic.specs.Steps.{steps_of}
use Rattle.trick_top_alone.proofs.FoundLemmas.{reads_quiet}
use Rattle.trick_top_alone.specs.Acts.{Acts, all_writes, checked, listed, misfits, no_journal, no_memory, no_memory_to_write, not_written, ran, run_steps, unloaded}
use Rattle.trick_top_alone.specs.Found.{reads}
use Rattle.trick_top_alone.specs.Outcome.{Generates, Outcome, Performed, Unread, acted, gone_on, missing, no_memory_for_texts, no_memory_to_read, not_read, not_understood, plan_refused, text_refused, texts_not_written, texts_run, unread}
use Rattle.trick_top_alone.specs.Generated.{text_steps, text_writes}
use Rattle.trick_top_alone.specs.Runs.{short_steps, short_writes}
use Rattle.trick_top_alone.specs.Sources.{Sources}
use Rattle.trick_top_alone.specs.Verdict.{OutOfMemory, ShelfFault, Usage, Verdict, with_objects}
use Rattle.trick_top_alone.specs.Words.{Asked, Nothing, Unknown, Wanted}
use Rattle.trick_top_words.specs.declared.command.Command.TheVariants as commands
use Rattle.trick_top_alone.specs.Aims.{Aim}

-- the verdict is `ShelfFault` exactly where a call failed, and that call was the last
pub record Faults (calls : List Call) (verdict : Verdict) : Type 0 where
  pub there : fails calls ≡ true → verdict ≡ ShelfFault
  pub back : verdict ≡ ShelfFault → fails calls ≡ true
  pub ends : EndAtFault calls

-- no call failed
quiet : (calls : List Call) (verdict : Verdict) → fails calls ≡ false → EndAtFault calls → verdict ≢ ShelfFault → Faults calls verdict
quiet calls verdict none ends never = record { there = λ e. absurd (not_both (fails calls) none e); back = λ is. absurd (never is); ends = ends }

-- after calls of which none failed
later : (early late : List Call) (verdict : Verdict) → fails early ≡ false → Faults late verdict → Faults (early ++ late) verdict
later early late verdict none is = record {
  there = λ e. is.there (sym (fails-late early late none) ∙ e);
  back = λ e. fails-late early late none ∙ is.back e;
  ends = ends-append early late none is.ends;
}

-- one call
one : (call : Call) (verdict : Verdict) → (is_fault call ≡ true → verdict ≡ ShelfFault) → (verdict ≡ ShelfFault → is_fault call ≡ true) → Faults (call ∷ []) verdict
one call verdict there back = record { there = λ e. there (parts (is_fault call) e); back = λ is. ap (λ b. b || false) (back is); ends = (λ e. refl, tt) }
  where
    parts : (b : Bool) → (b || false) ≡ true → b ≡ true
    parts true e = refl
    parts false e = cc

-- no write that is done failed
pub steps_quiet : (writes : List Write) → fails (steps_of writes) ≡ false
steps_quiet [] = refl
steps_quiet (write ∷ writes) = steps_quiet writes

acted_faults : {plan : Plan} {from journal : Option (List ℕ)} {t : Aim} {calls : List Call} {verdict : Verdict} → Acts plan from journal t calls verdict → Faults calls verdict
acted_faults checked = quiet _ _ refl tt (λ e. cc)
acted_faults listed = quiet _ _ refl tt (λ e. cc)
acted_faults no_memory = quiet _ _ refl tt (λ e. cc)
acted_faults (unloaded is why) = quiet _ _ refl tt (λ e. cc)
acted_faults (no_journal first starts is why) = quiet _ _ refl tt (λ e. cc)
acted_faults {plan = plan} (misfits first told starts is misfit) =
    let steps = short_steps plan first told in
    let none = steps_quiet (short_writes plan first told) in
    quiet steps _ none (part_ends steps steps (part_of_all steps) none) (λ e. cc)
acted_faults {plan = plan} (ran first lists starts whole) =
    let steps = run_steps plan first lists in
    let none = steps_quiet (all_writes plan first lists) in
    quiet steps _ none (part_ends steps steps (part_of_all steps) none) (λ e. cc)
acted_faults {plan = plan} (not_written first lists starts under_way part fault) = record {
  there = λ e. refl;
  back = λ e. fault;
  ends = part_ends _ (run_steps plan first lists) part.part (steps_quiet (all_writes plan first lists));
}
acted_faults {plan = plan} (no_memory_to_write first lists starts under_way part none) =
    quiet _ _ none (part_ends _ (run_steps plan first lists) part.part (steps_quiet (all_writes plan first lists))) (λ e. cc)

performed_faults : {t : Aim} {given : Sources} {calls : List Call} {verdict : Verdict} → Performed t given calls verdict → Faults calls verdict
performed_faults (text_refused is) = quiet _ _ refl tt (λ e. cc)
performed_faults (plan_refused is) = quiet _ _ refl tt (λ e. cc)
performed_faults not_understood = quiet _ _ refl tt (λ e. cc)
performed_faults (acted ready acts) = acted_faults acts

pub unread_faults : {wanted : List (List ℕ)} {calls : List Call} {verdict : Verdict} → Unread wanted calls verdict → Faults calls verdict
unread_faults (missing files name others named) = later (reads files) _ _ (reads_quiet files) (one _ _ (λ e. cc) (λ e. cc))
unread_faults (not_read files name others named) = later (reads files) _ _ (reads_quiet files) (one _ _ (λ e. refl) (λ e. refl))
unread_faults (no_memory_to_read files name others named) = later (reads files) _ _ (reads_quiet files) (one _ _ (λ e. cc) (λ e. cc))

-- the run of a generated simulation failed where that of its texts did
same_fault : (objects : ℕ) (verdict : Verdict) → with_objects objects verdict ≡ ShelfFault → verdict ≡ ShelfFault
same_fault objects ShelfFault is = refl
same_fault objects verdict is = cc

generated_faults : (objects : ℕ) {calls : List Call} {verdict : Verdict} → Generates objects calls verdict → Faults calls verdict
generated_faults objects (texts_not_written part fault) = record {
  there = λ e. refl;
  back = λ e. fault;
  ends = part_ends _ (text_steps objects) part (steps_quiet (text_writes objects));
}
generated_faults objects (no_memory_for_texts part none) = quiet _ _ none (part_ends _ (text_steps objects) part (steps_quiet (text_writes objects))) (λ e. cc)
generated_faults objects (texts_run calls {verdict = verdict} performed) =
    let is = performed_faults performed in
    later (text_steps objects) calls _ (steps_quiet (text_writes objects))
    (record { there = λ e. ap (with_objects objects) (is.there e); back = λ e. is.back (same_fault objects verdict e); ends = is.ends })

pub faults : (wanted : Wanted) (calls : List Call) (verdict : Verdict) → Outcome wanted calls verdict
    → Faults calls verdict
faults Unknown calls verdict (none, is) = rw (none, is) (quiet [] OutOfMemory refl tt (λ e. cc))
faults Nothing calls verdict (none, is) = rw (none, is) (quiet [] Usage refl tt (λ e. cc))
faults (Asked (commands.Texts about)) calls verdict (unread is) = unread_faults is
faults (Asked (commands.Texts about)) all verdict (gone_on files calls named goes) =
    later (reads files) _ _ (reads_quiet files) (performed_faults goes.performed)
faults (Asked (commands.Gen objects)) calls verdict generates = generated_faults objects generates
