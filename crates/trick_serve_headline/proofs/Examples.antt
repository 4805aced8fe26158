-- Doors, clients and lists, worked; and what is none.
use Rattle.std.proofs.Common.{◌≡◌, ◌∙◌, ℕ, List, [], ◌∷◌, ◌++◌, true, false, Some, None, ap, arith, inl, inr, length, refl}
use Rattle.std.proofs.lemmas.List.Elements.{All-cons, All-nil}
use Rattle.std.specs.Prelude.{codes}
use Rattle.trick_serve_headline.specs.Clients.{EndsOver, IsAsk, IsSentOf, ServesClients, Visits, has_waited}
use Rattle.trick_model.specs.Plan.{Plan}
use Rattle.trick_model.specs.State.{State}
use Rattle.trick_model.specs.declared.entry.Cause.TheVariants as cause
use Rattle.trick_model.specs.declared.entry.Entry.TheVariants.{Join, Said, Leave, Publish}
use Rattle.trick_model.specs.declared.entry.Entry.{Entry}
use Rattle.trick_model.specs.declared.mode.Mode.TheVariants as mode
use Rattle.trick_outside.specs.Visits.{Ended as HasEnded, Gave, NotYet, Visit, clients}
use Rattle.trick_serve_clients.specs.Tended.{HasTended}
use Rattle.trick_serve_seats.specs.Taking.{Hosts}
use Rattle.trick_serve_seats.specs.Told.{IsOpen}
use Rattle.trick_serve_facts.specs.Clients.{LinkTale}
use Rattle.trick_serve_facts.specs.Joins.{JoinsFirst}
use Rattle.trick_serve_facts.specs.NoThreads.{no_thread_leaves}
use Rattle.trick_exec_sources.specs.Turns.{no_sessions}
use Rattle.trick_wire.specs.declared.heard.WriteStop.TheVariants as stop

-- ---- doors

-- no client had come yet, and then none comes any more
it_ended : {I O : Type 0} → EndsOver {I = I} {O = O} (NotYet ∷ HasEnded ∷ [])
it_ended = refl

-- a door that was asked once more after it had ended
asked_again : {I O : Type 0} → EndsOver {I = I} {O = O} (HasEnded ∷ NotYet ∷ []) → ⊥
asked_again is = let none : NotYet ∷ [] ≡ [] = is in cc

-- a client that was given and was not given back
not_back : {D I O S : Type 0} (h : Hosts D I O S) (before now : D) (input : I) (output : O) (visits : Visits h before now) → visits.asks ≡ Gave input output ∷ []
    → visits.ended ≡ [] → ⊥
not_back {I = I} {O = O} h before now input output visits asks ended =
    apart (length visits.ended) (ap length ended) (visits.each ∙ ap (λ (asked : List (Visit I O)). length (clients asked)) asks)
  where
    apart : (n : ℕ) → n ≡ 0 → n ≡ 1 → ⊥
    apart n none one = omega (arith, none, one)

-- ---- entries

-- client 1 joins and says a line; client 2 joins and leaves for want of a thread
two_turns : List (List Entry)
two_turns =
    (Join 1 ∷ Said 1 (codes "trick.exec_run()") ∷ []) ∷ (Join 2 ∷ Leave 2 cause.NoThread ∷ Publish 3 ∷ []) ∷ []

one_refused : no_thread_leaves two_turns ≡ 1
unfolding two_turns
one_refused = refl

one_first : JoinsFirst two_turns
unfolding two_turns
one_first = ([], refl)

-- nobody joins in the first turn
not_first : JoinsFirst ([] ∷ two_turns) → ⊥
not_first (others, is) = let none : [] ≡ 1 ∷ others = is in cc

-- a run that is frozen below its limit, and one that is not frozen
it_waits : (p : Plan) (s : State) → has_waited p (record s { mode = mode.Freeze; tic = 3; limit = 5 }) [] ≡ true
it_waits p s = refl

it_runs : (p : Plan) (s : State) → has_waited p (record s { mode = mode.Run; tic = 3; limit = 5 }) [] ≡ true → ⊥
it_runs p s is = cc is

-- ---- what a link took

-- a link that had taken nothing took this
took : List ℕ → LinkTale
took bytes = record {
  told = None;
  read_before = 0;
  read_now = 0;
  taken_before = Some [];
  taken_now = Some bytes;
  write_before = 0;
  write_now = 0;
  wrote = stop.Closed;
}

a_first_part : IsSentOf (codes "0\t1\n" ∷ codes "0\t2\n" ∷ []) (took (codes "0\t1\n0"))
unfolding took
a_first_part = record {
  part = codes "0\t1\n0";
  rest = codes "\t2\n";
  text_is = refl;
  took = record { more = λ all told. (let same : [] ≡ all = cc in ap (λ (bytes : List ℕ). Some (bytes ++ codes "0\t1\n0")) same) };
}

-- ---- a whole run

-- a run without turns, whose door had ended
nobody : {D I O S : Type 0} (h : Hosts D I O S) (p : Plan) (s : State) (door now : D) (spawner : S) → h.visited door (HasEnded ∷ []) now
    → ServesClients h p s [] door now spawner spawner
nobody h p s door now spawner visited = record {
  visits = record { asks = HasEnded ∷ []; ended = []; visited = visited; asked = All-cons IsAsk HasEnded [] tt (All-nil IsAsk); each = refl };
  joined = 0;
  joins = refl;
  given = omega arith;
  served = λ k links end gave back less. absurd (omega (arith, less));
  late = λ k links end gave back past. (let none : None ≡ Some end = back in cc);
  others = λ k past. record { entries = refl; text = refl };
  frozen = tt;
  no_thread = omega arith;
  first = λ has. tt;
  all = λ waited. refl;
  over = λ waited. inl refl;
}

-- so were the clients of such a run tended, where the door told of none: there were none
none_tended : {D I O S : Type 0} (h : Hosts D I O S) (door now : D) (spawner : S) → h.visited door (HasEnded ∷ []) now → (h.has_client door → ⊥)
    → HasTended h door spawner (record { seats = []; sessions = no_sessions; over = true; broke = false; silent = true })
    (record { door = now; spawner = spawner; lacked = false })
none_tended h door now spawner visited none = record {
  visits = [];
  last = HasEnded ∷ [];
  arrivals = [];
  sessions = [];
  visited = visited;
  asks = All-nil IsOpen;
  ended = inr (inl refl);
  joins = refl;
  count = refl;
  numbers = omega arith;
  some = omega arith;
  seated = λ k less. absurd (omega (arith, less));
  late = λ k past less. absurd (omega (arith, less));
  no_thread = omega arith;
  first = λ has. absurd (none has);
  silent = λ has whole. absurd (none has);
  over = λ ended. (refl, inl refl);
  memory = λ all k ended there. absurd (let no : None ≡ Some ended = there in cc);
}
