-- A run to which no client came.
use Rattle.std.proofs.Common.{◌≡◌, ◌∙◌, ℕ, List, [], ◌∷◌, ◌++◌, Bool, true, false, eqb, not, ◌&&◌, ap, length, map, refl, subst, sym}
use Rattle.std.proofs.lemmas.Bool.{and_parts, or_parts}
use Rattle.std.proofs.lemmas.List.Folds.{list_any-append}
use Rattle.std.specs.List.{filter, list_any}
use Rattle.std.specs.Prelude.{None, Option, Some}
use Rattle.trick_serve_headline.proofs.Entries.{joins_join, joins_lines}
use Rattle.trick_serve_headline.specs.Alone.{RunsOfNobodyAreAlone}
use Rattle.trick_exec_own_journal.proofs.Coming.{comes}
use Rattle.trick_model_sessions.specs.Silence.{newcomers}
use Rattle.trick_model.specs.Beside.{find_thread, has_round, is_in_flight, one_later}
use Rattle.trick_model.specs.Journal.{is_of_session}
use Rattle.trick_model.specs.Plan.{Plan, is_async, threads_beside}
use Rattle.trick_model.specs.Run.{AreSerial, after_turns, all_published, opened, serial_entries}
use Rattle.trick_model.specs.State.{State, World, taken_at}
use Rattle.trick_model.specs.Turn.{runs, turn}
use Rattle.trick_model.specs.declared.entry.Entry.{Entry}
use Rattle.trick_model.specs.declared.entry.Entry.TheVariants.{Join, Said, Leave, Publish}
use Rattle.trick_model.specs.declared.thread.Thread.{Thread}
use Rattle.trick_post_work.specs.Polls.{Poll}
use Rattle.trick_exec_laws.proofs.Notes.{only_lines}
use Rattle.trick_exec_meaning.specs.Answers.{given}
use Rattle.trick_exec_meaning.specs.Rounds.{AreChosen, Chooses, IsChosen, heard_state, idle, no_turn, none, not_yet, one_more, publications, ready, unasked}
use Rattle.trick_serve_facts.specs.Serves.{all_entries}
use Rattle.trick_exec_sources.specs.Turns.{Sessions, after_entries, in_next, is_among, is_succession, may_all_come, no_sessions}

-- ---- nobody says anything

-- No list has a join, a line or a leave.
abbrev AllQuiet : List (List Entry) → Type 0
AllQuiet [] = Unit {0}
AllQuiet (entries ∷ lists) = (filter is_of_session entries ≡ []) × AllQuiet lists

both_empty : (one other : List ℕ) → one ++ other ≡ [] → (one ≡ []) × (other ≡ [])
both_empty [] other is = (refl, is)
both_empty (n ∷ one) other is = absurd (let none : n ∷ one ++ other ≡ [] = is in cc)

-- where nobody is there and nobody joins, nothing comes
none_comes : (entries : List Entry) (s : Sessions) → s.live ≡ [] → may_all_come (filter is_of_session entries) s ≡ true → newcomers entries ≡ []
    → filter is_of_session entries ≡ []
none_comes entries s empty may joins = by (filter is_of_session entries) refl
  where
    of_nobody : (session : ℕ) → is_among session s.live ≡ false
    of_nobody session = ap (is_among session) empty

    by : (list : List Entry) → filter is_of_session entries ≡ list → filter is_of_session entries ≡ []
    by [] is = is
    by (Join session ∷ list) is =
        absurd (let some : [] ≡ session ∷ newcomers list = sym joins ∙ sym (joins_lines entries) ∙ ap newcomers is in cc)
    by (Said session line ∷ list) is =
        let first = comes (Said session line) list s (subst (λ (l : List Entry). may_all_come l s ≡ true) is may) in
        absurd (let clash : false ≡ true = sym (of_nobody session) ∙ first.may in cc)
    by (Leave session why ∷ list) is =
        let first = comes (Leave session why) list s (subst (λ (l : List Entry). may_all_come l s ≡ true) is may) in
        absurd (let clash : false ≡ true = sym (of_nobody session) ∙ first.may in cc)
    by (Publish thread ∷ list) is =
        absurd (let clash : true ≡ false = sym (ap (list_any (λ (entry : Entry). not (is_of_session entry))) is) ∙ only_lines entries in cc)

quiet_lists : (lists : List (List Entry)) (s : Sessions) → s.live ≡ [] → is_succession (map (given false) lists) s ≡ true → newcomers (all_entries lists) ≡ []
    → AllQuiet lists
quiet_lists [] s empty rules joins = tt
quiet_lists (entries ∷ lists) s empty rules joins =
    let apart = both_empty (newcomers entries) (newcomers (all_entries lists)) (sym (joins_join entries (all_entries lists)) ∙ joins) in
    let parts = and_parts (may_all_come (given false entries) (in_next s)) (is_succession (map (given false) lists) (after_entries (given false entries) (in_next s))) rules in
    let here = none_comes entries (in_next s) empty parts.0 apart.0 in
    let rest : is_succession (map (given false) lists) (in_next s) ≡ true =
    subst (λ (l : List Entry). is_succession (map (given false) lists) (after_entries l (in_next s)) ≡ true) here parts.1 in
    (here, quiet_lists lists (in_next s) empty rest apart.1)

-- ---- nothing is published

-- Of these threads none is asynchronous.
abbrev NoneOf : List Thread → Type 0
NoneOf threads = list_any (λ (thread : Thread). is_async thread.process) threads ≡ false

none_before : (threads : List Thread) (thread : Thread) → NoneOf (threads ++ thread ∷ []) → NoneOf threads × (is_async thread.process ≡ false)
none_before threads thread is =
    let async = λ (other : Thread). is_async other.process in
    let parts = or_parts (list_any async threads) (list_any async (thread ∷ [])) (sym (list_any-append async threads (thread ∷ [])) ∙ is) in
    (parts.0, (or_parts (is_async thread.process) false parts.1).0)

no_round : (s : State) (place : ℕ) (thread : Thread) → is_async thread.process ≡ false → has_round s place thread ≡ false
no_round s place thread is = ap (λ (b : Bool). b && (taken_at s place).held) is

no_clash : (b : Bool) → b ≡ false → b ≡ true → ⊥
no_clash b one two = cc (sym one ∙ two)

chosen_none : (s : State) (waits : List ℕ) (threads : List Thread) (entries : List Entry) (polls : List Poll) → Chooses s waits threads entries polls → NoneOf threads
    → entries ≡ []
chosen_none s waits threads entries polls none is = refl
chosen_none s waits threads entries polls (idle before thread es earlier round so) is = chosen_none s waits before es earlier so (none_before before thread is).0
chosen_none s waits threads entries polls (ready before thread es earlier round short so) is =
    absurd (no_clash _ (no_round s (length before) thread (none_before before thread is).1) round)
chosen_none s waits threads entries polls (not_yet before thread es earlier round short so) is =
    absurd (no_clash _ (no_round s (length before) thread (none_before before thread is).1) round)
chosen_none s waits threads entries polls (unasked before thread es earlier round long so) is =
    absurd (no_clash _ (no_round s (length before) thread (none_before before thread is).1) round)

is_chosen_none : (p : Plan) (s : State) (waits : List ℕ) (published : List Entry) (polls : List Poll) → NoneOf (threads_beside p) → IsChosen p s waits published polls
    → published ≡ []
is_chosen_none p s waits published polls quiet is = by (runs s) is
  where
    by : (b : Bool) → (let chosen : Type 0 = elim b [ true ↦ Chooses s waits (threads_beside p) published polls | false ↦ (published ≡ []) × (polls ≡ []) ] in chosen)
        → published ≡ []
    by true chooses = chosen_none s waits (threads_beside p) published polls chooses quiet
    by false nothing = nothing.0

-- No list publishes anything.
abbrev NonePublishes : List (List Entry) → Type 0
NonePublishes [] = Unit {0}
NonePublishes (entries ∷ lists) = (publications entries ≡ []) × NonePublishes lists

none_more : (lists : List (List Entry)) (entries : List Entry) → NonePublishes lists → publications entries ≡ [] → NonePublishes (lists ++ entries ∷ [])
none_more [] entries all one = (one, tt)
none_more (first ∷ lists) entries all one = (all.0, none_more lists entries all.1 one)

all_chosen_none : (p : Plan) (w : World) (lists : List (List Entry)) (polls : List Poll) (waits : List ℕ) → NoneOf (threads_beside p) → AreChosen p w lists polls waits
    → NonePublishes lists
all_chosen_none p w lists polls waits quiet no_turn = tt
all_chosen_none p w lists polls waits quiet (one_more before earlier more waited entries so is) =
    none_more before entries (all_chosen_none p w before earlier waited quiet so)
    (is_chosen_none p (heard_state p (after_turns p w before) entries) waited (publications entries) more quiet is)

-- ---- so is the run without clients

nothing : (entries : List Entry) → filter is_of_session entries ≡ [] → publications entries ≡ [] → entries ≡ []
nothing [] lines published = refl
nothing (Join session ∷ entries) lines published = absurd cc
nothing (Said session line ∷ entries) lines published = absurd cc
nothing (Leave session why ∷ entries) lines published = absurd cc
nothing (Publish thread ∷ entries) lines published = absurd cc

-- what was found is a thread that is not asynchronous
abbrev IsQuiet : Option (ℕ × Thread) → Type 0
IsQuiet None = Unit {0}
IsQuiet (Some found) = is_async found.1.process ≡ false

quiet_found : (number : ℕ) (threads : List Thread) → NoneOf threads → IsQuiet (find_thread number threads)
quiet_found number [] is = tt
quiet_found number (thread ∷ threads) is =
    let parts = or_parts (is_async thread.process) (list_any (λ (other : Thread). is_async other.process) threads) is in
    by (eqb thread.number number) parts.0 (quiet_found number threads parts.1)
  where
    later : (found : Option (ℕ × Thread)) → IsQuiet found → IsQuiet (one_later found)
    later None is = tt
    later (Some found) is = is

    by : (b : Bool) → is_async thread.process ≡ false → IsQuiet (find_thread number threads)
        → (let found : Option (ℕ × Thread) = elim b [ true ↦ Some (0, thread) | false ↦ one_later (find_thread number threads) ] in IsQuiet found)
    by true here rest = here
    by false here rest = later (find_thread number threads) rest

not_flying : (p : Plan) (s : State) (number : ℕ) → NoneOf (threads_beside p) → is_in_flight p s number ≡ false
not_flying p s number quiet = by (find_thread number (threads_beside p)) (quiet_found number (threads_beside p) quiet)
  where
    by : (found : Option (ℕ × Thread)) → IsQuiet found
        → (let flies : Bool = elim found [ None ↦ false | Some found ↦ has_round s found.0 found.1 ] in flies ≡ false)
    by None is = refl
    by (Some found) is = no_round s found.0 found.1 is

none_published : (p : Plan) (s : State) (threads : List Thread) → NoneOf (threads_beside p) → all_published p threads s ≡ []
none_published p s [] quiet = refl
none_published p s (thread ∷ threads) quiet = by (is_in_flight p s thread.number) (not_flying p s thread.number quiet) (none_published p s threads quiet)
  where
    by : (b : Bool) → b ≡ false → all_published p threads s ≡ []
        → (let all : List Entry = elim b [ true ↦ Publish thread.number ∷ all_published p threads s | false ↦ all_published p threads s ] in all ≡ [])
    by true is rest = cc is
    by false is rest = rest

serial_none : (p : Plan) (s : State) → NoneOf (threads_beside p) → serial_entries p s ≡ []
serial_none p s quiet = by (runs s)
  where
    by : (b : Bool) → (let all : List Entry = elim b [ true ↦ all_published p (threads_beside p) s | false ↦ [] ] in all ≡ [])
    by true = none_published p s (threads_beside p) quiet
    by false = refl

are_serial : (p : Plan) (w : World) (lists : List (List Entry)) → NoneOf (threads_beside p) → AllQuiet lists → NonePublishes lists → AreSerial p w lists
are_serial p w [] quiet lines published = tt
are_serial p w (entries ∷ lists) quiet lines published = (
  nothing entries lines.0 published.0 ∙ sym (serial_none p w.state quiet),
  are_serial p (turn p w entries).world lists quiet lines.1 published.1,
)

pub alone : RunsOfNobodyAreAlone
alone p s lists polls waits fits rules chosen joins quiet = record {
  fits = fits;
  published =
      are_serial p (opened s) lists quiet (quiet_lists lists no_sessions refl rules joins)
      (all_chosen_none p (opened s) lists polls waits quiet chosen);
}
