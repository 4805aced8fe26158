-- A replay, by what the executive did.
use Rattle.std.proofs.Common.{◌≡◌, ◌∙◌, ℕ, List, [], Ok, Err, Some, true, ap, refl, subst, sym}
use Rattle.std.specs.FinMap.{get}
use Rattle.std.specs.Prelude.{Result}
use Rattle.trick_base.specs.Content.{content}
use Rattle.trick_base.specs.Files.{Files}
use Rattle.trick_model.specs.Files.{file, run_writes, start_writes}
use Rattle.trick_model.specs.Plan.{Plan}
use Rattle.trick_model.specs.Run.{final}
use Rattle.trick_model.specs.State.{State}
use Rattle.trick_model.specs.declared.entry.Entry.{Entry}
use Rattle.trick_model.specs.declared.journal.Journal.{Journal}
use Rattle.trick_outside.specs.Calls.{Call}
use Rattle.trick_outside.specs.Does.{Does}
use Rattle.trick_outside.specs.declared.shelf.Shelf.{Ghosts}
use Rattle.trick_outside.specs.declared.stop.Stop.TheVariants.{Memory}
use Rattle.trick_outside.specs.declared.stop.Stop.{Stop}
use Rattle.trick_exec_alone.specs.Replay.{RunsReplay, RunsShort, RunsWhole, lists_below, lists_for}
use Rattle.trick_exec_alone.specs.declared.replayed.Replayed.{Replayed}
use Rattle.trick_exec_meaning.proofs.DidLemmas.{did_fail, did_none}
use Rattle.trick_exec_meaning.specs.Hosts.{Hosts, Place}
use Rattle.trick_exec_meaning.specs.Laws.{JournalsShow, told_by}
use Rattle.trick_exec_meaning.specs.Ran.{Missed, Ran, Stopped, writes_so_far}
use Rattle.trick_exec_meaning.specs.Stops.{StopsAt, before as at_start}
use Rattle.trick_exec_alone.specs.Serial.{summary_of}
use Rattle.trick_exec_alone.specs.declared.summary.Summary.{Summary}
use Rattle.trick_exec_tic.specs.Steps.{steps_of}
use Rattle.trick_exec_sources.specs.Joins.{joins_of}
use Rattle.trick_exec_sources.specs.Turns.{Told}

-- there was no memory for what it keeps
pub none_kept : {S : Type 0} {shelf : Ghosts S} (old : S) (p : Plan) (s : State) (journal : Journal) → shelf.called old [] old
    → RunsReplay shelf p s journal old old (Err Memory)
none_kept {shelf = shelf} old p s journal none =
    let result : Result (Unit {0}) Stop = Err Memory in
    let did = did_none old result (steps_of (run_writes p s [])) none (λ ok. cc) (λ fault. cc) in
    record {
      lists = [];
      follows = tt;
      does = did.0;
      stops = ([], subst (λ (calls : List Call). StopsAt p s (start_writes p s.turn) [] calls []) (sym did.1) (at_start [] tt));
    }

-- it stopped
pub stopped : {S U M Q T : Type 0} {h : Hosts S U M Q} {old new : Place S U Q} {first : Result T Stop} (p : Plan) (s : State) (journal : Journal) (lists : List (List Entry)) (e f : Stop)
    → Stopped h p s lists old new first → h.turns.decided old.turns ≡ true → h.turns.journal old.turns ≡ Some (told_by journal.entries journal.end s)
    → first ≡ Err e → f ≡ e → RunsReplay h.shelf p s journal old.shelf new.shelf (Err f)
stopped p s journal lists e f so decides tells at_first same =
    let result : Result (Unit {0}) Stop = Err f in
    let did = did_fail result e f so.does at_first refl same in
    record {
      lists = lists;
      follows = so.follows decides (told_by journal.entries journal.end s) tells;
      does = did.0;
      stops = (so.sent, subst (λ (calls : List Call). StopsAt p s (start_writes p s.turn) lists calls so.sent) (sym did.1) so.stops);
    }

-- the journal fits
pub whole : {S U M Q : Type 0} {h : Hosts S U M Q} {old new : Place S U Q} (p : Plan) (s : State) (journal : Journal) (lists : List (List Entry)) (ended : Summary) (joins : ℕ)
    → JournalsShow → Ran h p s lists old new → h.turns.decided old.turns ≡ true → h.turns.journal old.turns ≡ Some (told_by journal.entries journal.end s)
    → ended ≡ summary_of (final p s lists) → joins ≡ joins_of (lists_for journal s) → RunsWhole h.shelf p s journal old.shelf new.shelf ended joins
whole {h = h} {old = old} {new = new} p s journal lists ended joins show so decides tells is counts =
    let told = so.told decides (told_by journal.entries journal.end s) tells in
    let fits = show.fits p s journal.entries journal.end lists journal.end_right told.0 so.fits told.2 in
    record {
      fits = fits.0;
      does = subst (λ (l : List (List Entry)). Does {T = Unit {0}} h.shelf old.shelf new.shelf (Ok tt) (steps_of (run_writes p s l))) fits.1 so.does;
      files = subst (λ (l : List (List Entry)). (before : Files) → h.shelf.holds old.shelf ≡ Some before
          → (now : Files) × (h.shelf.holds new.shelf ≡ Some now) × ((name : List ℕ) → get now name ≡ file name p s l (get before name))) fits.1 so.files;
      ended_so = is ∙ ap (λ (l : List (List Entry)). summary_of (final p s l)) fits.1;
      joins_so = counts;
    }

-- the journal does not fit
pub misfit : {S U M Q : Type 0} {h : Hosts S U M Q} {old new : Place S U Q} (p : Plan) (s : State) (journal : Journal) (lists : List (List Entry)) (kept given : ℕ)
    → JournalsShow → Missed h p s lists old new kept given → h.turns.decided old.turns ≡ true → h.turns.journal old.turns ≡ Some (told_by journal.entries journal.end s)
    → RunsShort h.shelf p s journal old.shelf new.shelf kept given
misfit {h = h} {old = old} {new = new} p s journal lists kept given show so decides tells =
    let told = so.told decides (told_by journal.entries journal.end s) tells in
    let shows = show.misfits p s journal.entries journal.end lists given journal.end_right told.0 told.2 in
    record {
      misfit = shows.misfit;
      kept_so = told.1;
      given_so = shows.number;
      does = subst (λ (l : List (List Entry)). Does {T = Unit {0}} h.shelf old.shelf new.shelf (Ok tt) (steps_of (writes_so_far p s l))) shows.first so.does;
      files = subst (λ (l : List (List Entry)). (before : Files) → h.shelf.holds old.shelf ≡ Some before
          → (now : Files) × (h.shelf.holds new.shelf ≡ Some now) × ((name : List ℕ) → get now name ≡ content name (writes_so_far p s l) (get before name))) shows.first so.files;
    }
