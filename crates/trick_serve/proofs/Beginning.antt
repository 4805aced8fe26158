-- A served run that could not begin.
use Rattle.std.proofs.Common.{◌≡◌, inl, ℕ, List, [], Some, Err, refl, slice_get}
use Rattle.std.specs.FinMap.{get}
use Rattle.std.specs.Prelude.{Result}
use Rattle.trick_base.proofs.Numbers.{none_below_zero}
use Rattle.trick_base.specs.Files.{Files}
use Rattle.trick_serve_headline.specs.Clients.{WereSent}
use Rattle.trick_model.specs.Files.{journal_name, messages_to, run_writes, turns_said}
use Rattle.trick_model.specs.Plan.{Plan}
use Rattle.trick_model.specs.Run.{opened}
use Rattle.trick_model.specs.State.{State}
use Rattle.trick_outside.proofs.DoesLemmas.{does_none}
use Rattle.trick_outside.specs.declared.shelf.Shelf.{Ghosts as ShelfGhosts}
use Rattle.trick_outside.specs.declared.stop.Stop.TheVariants.{Memory}
use Rattle.trick_outside.specs.declared.stop.Stop.{Stop}
use Rattle.trick_exec_laws.specs.Left.{Left, untouched}
use Rattle.trick_exec_alone.specs.declared.summary.Summary.{Summary}
use Rattle.trick_serve_seats.specs.Taking.{Hosts}
use Rattle.trick_serve.specs.Served.{HasServedRun, IsStoppedServed}
use Rattle.trick_serve.specs.Serving.{moment, outside}
use Rattle.trick_exec_tic.specs.Steps.{steps_of}

none_at : {A : Type 0} (k : ℕ) (item : A) → (let none : List A = [] in slice_get none k ≡ Some item) → ⊥
none_at k item is = cc

none_left : (p : Plan) (s : State) (before : Files) → Left p s [] [] before before
none_left p s before = record {
  cut = [];
  torn = [];
  is_cut = inl (refl, refl);
  journal = untouched (get before journal_name);
  files = λ more end lasts name other tidy. inl refl;
  said = λ more end lasts. (turns_said p (opened s) more, refl);
  unsaid = λ none. refl;
}

-- the door was not asked
not_asked : {D I O S : Type 0} (h : Hosts D I O S) (door : D) (texts : ℕ → List (List ℕ)) → h.visited door [] door → WereSent h texts door door
not_asked h door texts visited = record {
  visits = record {
    asks = [];
    ended = [];
    visited = visited;
    asked = λ k d within. absurd (none_below_zero k within);
    each = refl;
  };
  sent = λ k links end gave back. absurd (none_at k links gave);
}

none_served : {F D I O S : Type 0} (shelf : ShelfGhosts F) (h : Hosts D I O S) (p : Plan) (s : State) (at : F) (door : D) (first spawner : S)
    → shelf.called at [] at → h.visited door [] door
    → IsStoppedServed (outside shelf h) p s [] (moment at door first) (moment at door spawner) Memory
none_served shelf h p s at door first spawner called visited =
    let result : Result Summary Stop = Err Memory in
    record {
      rules = refl;
      does = does_none at result (steps_of (run_writes p s [])) called (λ ok. cc) (λ fault. cc);
      sent = [];
      unsent = [];
      handed = refl;
      left = λ before holds. (before, holds, none_left p s before);
      clients = not_asked h door (λ n. messages_to n []) visited;
    }

-- There was no memory before anything was done.
pub not_begun : {F D I O S : Type 0} (shelf : ShelfGhosts F) (h : Hosts D I O S) (p : Plan) (s : State) (at : F) (door : D) (first spawner : S)
    → shelf.called at [] at → h.visited door [] door
    → HasServedRun (outside shelf h) p s (moment at door first) (moment at door spawner) 0 (Err Memory)
not_begun shelf h p s at door first spawner called visited = ([], none_served shelf h p s at door first spawner called visited)
