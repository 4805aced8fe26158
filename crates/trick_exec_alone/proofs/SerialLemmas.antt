-- What a run that stopped or ended hands on.
use Rattle.std.proofs.Common.{◌≡◌, List, [], Ok, Err, IsOk, refl, subst, sym}
use Rattle.std.specs.Prelude.{Result}
use Rattle.trick_base.proofs.Results.{not_ok}
use Rattle.trick_exec.specs.Alone.{RunsAlone}
use Rattle.trick_model.specs.Files.{run_writes, start_writes}
use Rattle.trick_model.specs.Plan.{Plan}
use Rattle.trick_model.specs.Run.{final}
use Rattle.trick_model.specs.State.{State}
use Rattle.trick_model.specs.declared.entry.Entry.{Entry}
use Rattle.trick_outside.proofs.DoesLemmas.{does_ok}
use Rattle.trick_outside.specs.Calls.{Call}
use Rattle.trick_outside.specs.declared.shelf.Shelf.{Ghosts}
use Rattle.trick_outside.specs.declared.stop.Stop.TheVariants.{Memory}
use Rattle.trick_outside.specs.declared.stop.Stop.{Stop}
use Rattle.trick_exec_meaning.proofs.DidLemmas.{did_fail, did_none}
use Rattle.trick_exec_meaning.specs.Stops.{StopsAt, before}
use Rattle.trick_exec_alone.specs.Serial.{RunsSerially, summary_of}
use Rattle.trick_exec_alone.specs.declared.summary.Summary.{Summary}
use Rattle.trick_exec_tic.specs.Steps.{steps_of}

-- there was no memory for what it keeps
pub none_kept : {S : Type 0} {shelf : Ghosts S} (old : S) (p : Plan) (s : State) → shelf.called old [] old
    → RunsSerially shelf p s old old (Err Memory)
none_kept old p s none =
    let result : Result Summary Stop = Err Memory in
    let did = did_none old result (steps_of (run_writes p s [])) none (λ ok. cc) (λ fault. cc) in
    record {
      lists = [];
      runs = record {
        goes = refl;
        published = tt;
        does = did.0;
        stops = λ never. ([], subst (λ (calls : List Call). StopsAt p s (start_writes p s.turn) [] calls []) (sym did.1) (before [] tt));
        own = λ ok. cc;
        files = λ ok. cc;
      };
      ended = tt;
    }

-- it stopped
pub stopped : {S T : Type 0} {shelf : Ghosts S} {old new : S} {first : Result T Stop} (p : Plan) (s : State) (lists : List (List Entry)) (e f : Stop)
    → RunsAlone shelf p s lists old new first → first ≡ Err e → f ≡ e → RunsSerially shelf p s old new (Err f)
stopped {first = first} p s lists e f runs at same =
    let result : Result Summary Stop = Err f in
    let did = did_fail result e f runs.does at refl same in
    let stops = runs.stops (not_ok first e at) in
    record {
      lists = lists;
      runs = record {
        goes = runs.goes;
        published = runs.published;
        does = did.0;
        stops = λ never. (stops.0, subst (λ (calls : List Call). StopsAt p s (start_writes p s.turn) lists calls stops.0) (sym did.1) stops.1);
        own = λ ok. absurd (not_ok result f refl ok);
        files = λ ok. absurd (not_ok result f refl ok);
      };
      ended = tt;
    }

-- it came to its end
pub came : {S T : Type 0} {shelf : Ghosts S} {old new : S} {first : Result T Stop} (p : Plan) (s : State) (lists : List (List Entry)) (ended : Summary)
    → RunsAlone shelf p s lists old new first → IsOk first → ended ≡ summary_of (final p s lists) → RunsSerially shelf p s old new (Ok ended)
came {first = first} p s lists ended runs ok is = record {
  lists = lists;
  runs = record {
    goes = runs.goes;
    published = runs.published;
    does = does_ok ended runs.does ok;
    stops = λ never. absurd (never refl);
    own = λ done. runs.own ok;
    files = λ done. runs.files ok;
  };
  ended = is;
}
