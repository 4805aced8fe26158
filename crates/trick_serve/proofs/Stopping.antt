-- A run that came to its end may be told as one that stopped for want of memory, since all that it writes was written by then.
use Rattle.std.proofs.Common.{◌≡◌, ◌∙◌, List, [], ◌∷◌, ◌++◌, false, inl, inr, Err, append-nil, refl, subst, sym}
use Rattle.std.proofs.lemmas.Bool.{false≢true}
use Rattle.std.specs.Prelude.{Result}
use Rattle.trick_exec.specs.declared.ended.Ended.{Ended as EndedValue}
use Rattle.trick_model.specs.Files.{end_writes, run_writes, start_writes, turns_said, turns_writes}
use Rattle.trick_model.specs.Plan.{Plan}
use Rattle.trick_model.specs.Run.{after_turns, final, opened}
use Rattle.trick_model.specs.State.{State}
use Rattle.trick_model.specs.declared.entry.Entry.{Entry}
use Rattle.trick_outside.specs.Calls.{Call}
use Rattle.trick_outside.specs.Does.{IsPartOf}
use Rattle.trick_outside.specs.declared.stop.Stop.TheVariants.{Memory}
use Rattle.trick_outside.specs.declared.stop.Stop.{Stop}
use Rattle.trick_exec_meaning.proofs.DidLemmas.{did_as}
use Rattle.trick_exec_meaning.proofs.Goes.{goes_paid}
use Rattle.trick_exec_meaning.specs.Chosen.{of_all}
use Rattle.trick_exec_meaning.specs.Hosts.{Hosts, Place}
use Rattle.trick_exec_meaning.specs.Ran.{Ran, Stopped, last_answer}
use Rattle.trick_exec_meaning.specs.Stops.{StopsAt, at_end}
use Rattle.trick_exec_tic.proofs.StepLemmas.{steps_of-append}
use Rattle.trick_exec_tic.specs.Steps.{steps_of}

-- the calls of a run are those before its last files, and those of its last files
two_parts : (p : Plan) (s : State) (lists : List (List Entry))
    → steps_of (run_writes p s lists)
    ≡ steps_of (start_writes p s.turn ++ turns_writes p (opened s) lists) ++ steps_of (end_writes p (final p s lists))
two_parts p s lists = steps_of-append (start_writes p s.turn ++ turns_writes p (opened s) lists) (end_writes p (final p s lists))

-- all of a list is a part of it
all_of : (calls : List Call) → IsPartOf calls calls
all_of [] = tt
all_of (call ∷ calls) = inl (refl, all_of calls)

pub ran_stops : {S U M Q : Type 0} {D : Type 0} {h : Hosts S U M Q} {old new : Place S U Q} (p : Plan) (s : State) (lists : List (List Entry))
    → h.turns.decided old.turns ≡ false → Ran h p s lists old new
    → (stopped : Stopped {T = EndedValue D} h p s lists old new (Err Memory)) × (stopped.sent ≡ turns_said p (opened s) lists)
ran_stops {D = D} {h = h} {old = old} p s lists undecided ran =
    let said = turns_said p (opened s) lists in
    let head = start_writes p s.turn in
    let result : Result (EndedValue D) Stop = Err Memory in
    let did = did_as result ran.does (λ ok. cc) (λ fault. cc) (λ fault. cc) in
    let calls_are : steps_of (head ++ turns_writes p (opened s) lists) ++ steps_of (end_writes p (final p s lists)) ≡ did.0.calls =
    sym (did.1 ∙ ran.does.whole refl ∙ two_parts p s lists) in (
      record {
        owed = false;
        goes = goes_paid p (opened s) lists ∙ ran.fits.goes;
        follows = λ decides told tells. absurd (false≢true (sym undecided ∙ decides));
        rules = ran.done.rules;
        does = did.0;
        last = last_answer (after_turns p (opened s) lists);
        asked = inr refl;
        sent = said;
        unsent = [];
        handed = sym (append-nil said);
        step = ran.done.step;
        stops = subst (λ (calls : List Call). StopsAt p s head lists calls said) calls_are
            (at_end lists (steps_of (end_writes p (final p s lists))) ran.fits (all_of (steps_of (end_writes p (final p s lists)))));
        owes = λ e. cc e;
        chose = of_all lists did.0.calls ran.done.asks;
      },
      refl,
    )
