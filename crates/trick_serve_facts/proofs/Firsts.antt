-- Who joins in the first turn.
use Rattle.std.proofs.Common.{◌≡◌, ◌∙◌, ℕ, zero, suc, ◌+◌, true, false, List, [], ◌∷◌, ◌++◌, Option, Some, None, ap, length, map, refl, sym}
use Rattle.std.proofs.lemmas.Bool.{and_parts, false≢true}
use Rattle.std.specs.List.{filter}
use Rattle.trick_base.proofs.ListLemmas.{same_first}
use Rattle.trick_model_sessions.specs.Silence.{newcomers}
use Rattle.trick_model.specs.Journal.{is_of_session}
use Rattle.trick_model.specs.Plan.{Plan}
use Rattle.trick_model.specs.Run.{after_turns, opened}
use Rattle.trick_model.specs.Session.{Message}
use Rattle.trick_model.specs.State.{World}
use Rattle.trick_model.specs.Turn.{turn}
use Rattle.trick_model.specs.declared.entry.Entry.{Entry}
use Rattle.trick_model.specs.declared.entry.Entry.TheVariants.{Join, Said, Leave, Publish}
use Rattle.trick_exec_meaning.specs.Answers.{given, list_answer}
use Rattle.trick_serve_source.specs.Calls.{Answers, Breaks, Call, DoAll, Does, Hands, IsAnswered, Looks, View, Went}
use Rattle.trick_serve_facts.proofs.Answering.{HasGiven, given_went, none_listed, none_seated}
use Rattle.trick_serve_facts.proofs.Joins.{joins_in_order, joins_join}
use Rattle.trick_serve_facts.proofs.Keeping.{whole_before}
use Rattle.trick_serve_facts.proofs.NoThreads.{come_first}
use Rattle.trick_serve_facts.specs.Joins.{FirstClientsJoin, numbers_from}
use Rattle.trick_serve_facts.specs.Serves.{Serves, all_entries, no_turn, one_more}
use Rattle.trick_exec_sources.specs.Turns.{Answer, Sessions, after_entries, in_next, is_among, is_succession, may_all_come, no_sessions}

-- ---- what the door had answered stays

silent_answered : (list : Option (List Entry)) (answer : Answer) (old new : View) → IsAnswered list answer old new → old.silent ≡ true → new.silent ≡ true
silent_answered None answer old new did silent = did.quiet.silent silent
silent_answered (Some list) answer old new did silent = did.0.silent silent

silent_call : (call : Call) (old new : View) → Does call old new → old.silent ≡ true → new.silent ≡ true
silent_call (Looks there) old new did silent = did.silent silent
silent_call (Answers answer) old new did silent = silent_answered answer.list answer old new did silent
silent_call (Breaks there) old new did silent = did.silent silent
silent_call (Hands message) old new did silent = did.silent ∙ silent

silent_calls : (calls : List Call) (old new : View) → DoAll calls old new → old.silent ≡ true → new.silent ≡ true
silent_calls [] old new did silent = ap (λ (v : View). v.silent) did ∙ silent
silent_calls (call ∷ calls) old new did silent = silent_calls calls did.0 new did.2 (silent_call call old did.0 did.1 silent)

silent_went : (old new : View) (answers : List Answer) (messages : List Message) → Went old new answers messages → old.silent ≡ true → new.silent ≡ true
silent_went old new answers messages went silent = silent_calls went.calls old new went.did silent

-- ---- the first list

-- where the first list is empty the door had answered so
silent_given : (list : List Entry) (old new : View) → HasGiven list old new → old.seats ≡ [] → list ≡ [] → new.silent ≡ true
silent_given list old new so none empty =
    let seats = none_seated so.early old so.first so.before so.none_before so.first_whole none in
    silent_calls so.late so.second new so.after_it
    (so.given.answered (none_listed so.answer list so.first so.second so.given empty seats) empty)

-- Before the first list there is no seat; where the first one was empty the door had answered that no client had come.
abbrev IsFirst : List (List Entry) → View → Type 0
IsFirst [] v = v.seats ≡ []
IsFirst (entries ∷ lists) v = filter is_of_session entries ≡ [] → v.silent ≡ true

first_more : (lists : List (List Entry)) (entries : List Entry) (before now : View)
    → (before.seats ≡ [] → filter is_of_session entries ≡ [] → now.silent ≡ true) → (before.silent ≡ true → now.silent ≡ true)
    → IsFirst lists before → IsFirst (lists ++ entries ∷ []) now
first_more [] entries before now begins stays first = begins first
first_more (other ∷ lists) entries before now begins stays first = λ empty. stays (first empty)

first_serves : (p : Plan) (w : World) (lists : List (List Entry)) (old new : View) → Serves p w lists old new → new.broke ≡ false → old.seats ≡ []
    → IsFirst lists new
first_serves p w all old new (no_turn v) whole none = none
first_serves p w all old new (one_more lists entries one before gave now early gives said) whole none =
    let gave_whole = whole_before gave now [] _ said whole in
    let answer : Answer = record { turn = (after_turns p w lists).state.turn; mode = (after_turns p w lists).state.mode; sessions = (after_turns p w lists).sessions; list = Some (given false entries) } in
    first_more lists entries before now
    (λ seats empty. silent_went gave now [] (turn p (after_turns p w lists) entries).said said
    (silent_given (given false entries) before gave (given_went answer (given false entries) before gave [] gives refl gave_whole) seats empty))
    (λ silent. silent_went gave now [] (turn p (after_turns p w lists) entries).said said
    (silent_went before gave (list_answer false (after_turns p w lists) entries) [] gives silent))
    (first_serves p w lists one before early (whole_before before gave _ [] gives gave_whole) none)

-- ---- without a join nobody comes

some_first : (n : ℕ) (ns : List ℕ) → n ∷ ns ≡ [] → ⊥
some_first n ns is = cc

of_nobody : (s : Sessions) (session : ℕ) → s.live ≡ [] → is_among session s.live ≡ true → ⊥
of_nobody s session none among = false≢true (ap (λ (l : List ℕ). is_among session l) (sym none) ∙ among)

none_come : (entries : List Entry) (s : Sessions) → s.live ≡ [] → may_all_come (filter is_of_session entries) s ≡ true → newcomers entries ≡ []
    → filter is_of_session entries ≡ []
none_come [] s away come none = refl
none_come (Join session ∷ entries) s away come none = absurd (some_first session (newcomers entries) none)
none_come (Said session line ∷ entries) s away come none =
    absurd (of_nobody s session away (come_first (Said session line) (filter is_of_session entries) s come).0)
none_come (Leave session why ∷ entries) s away come none =
    absurd (of_nobody s session away (come_first (Leave session why) (filter is_of_session entries) s come).0)
none_come (Publish thread ∷ entries) s away come none = none_come entries s away come none

-- ---- the law

no_number : (n : ℕ) (ns : List ℕ) → n ∷ ns ≡ [] → ⊥
no_number n ns is = cc

begins_at_one : (count n : ℕ) (ns : List ℕ) → n ∷ ns ≡ numbers_from 1 count → n ≡ 1
begins_at_one zero n ns is = absurd (no_number n ns is)
begins_at_one (suc count) n ns is = same_first n 1 ns (numbers_from (1 + 1) count) is

joins_by : (entries : List Entry) (later : List ℕ) (count : ℕ) → newcomers entries ++ later ≡ numbers_from 1 count
    → (newcomers entries ≡ [] → ⊥) → (joins : List ℕ) → newcomers entries ≡ joins → (others : List ℕ) × (newcomers entries ≡ 1 ∷ others)
joins_by entries later count are some [] is = absurd (some is)
joins_by entries later count are some (n ∷ others) is = (
  others,
  is ∙ ap (λ (m : ℕ). m ∷ others) (begins_at_one count n (others ++ later) (ap (λ (l : List ℕ). l ++ later) (sym is) ∙ are)),
)

pub first_join : FirstClientsJoin
first_join p s [] old new run right heard = tt
first_join p s (entries ∷ lists) old new run right heard =
    let list = given false entries in
    let both = and_parts (may_all_come list (in_next no_sessions)) (is_succession (map (given false) lists) (after_entries list (in_next no_sessions))) right in
    let first = first_serves p (opened s) (entries ∷ lists) old run.mid run.turns (whole_before run.mid new run.last [] run.ends run.whole) run.none in
    joins_by entries (newcomers (all_entries lists)) (length new.seats)
    (sym (joins_join entries (all_entries lists)) ∙ joins_in_order p s (entries ∷ lists) old new run right)
    (λ none. false≢true (sym heard ∙ silent_went run.mid new run.last [] run.ends
    (first (none_come entries (in_next no_sessions) refl both.0 none))))
    (newcomers entries) refl
