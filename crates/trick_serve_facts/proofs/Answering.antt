-- Calls of which one is an answer.
use Rattle.std.proofs.Common.{◌≡◌, ◌∙◌, inl, inr, ⊎_elim, ℕ, ◌+◌, false, List, [], ◌∷◌, ◌++◌, Option, Some, None, ap, refl, subst, sym}
use Rattle.std.proofs.lemmas.Bool.{false≢true}
use Rattle.std.proofs.lemmas.Bool.Decides.{eqb_tells}
use Rattle.trick_model.specs.Session.{Message}
use Rattle.trick_model.specs.declared.entry.Entry.{Entry}
use Rattle.trick_model.specs.declared.session.Session.{Session}
use Rattle.trick_serve_source.specs.Calls.{Answers, Breaks, Call, DoAll, Does, Hands, IsAnswered, IsGiven, Looks, View, Went, answer_of, answers_of}
use Rattle.trick_serve_hearing.specs.Life.{Happening, Happens, Hears, IsSeated, IsSlow, IsTold, Lives, Misses, entries_of_all, own}
use Rattle.trick_serve_hearing.specs.Sides.{Queues, Side, nobody, side, side_of}
use Rattle.trick_serve_hearing.specs.declared.seat.Seat.{Seat}
use Rattle.trick_serve_facts.proofs.Keeping.{handed_seated, whole_calls}
use Rattle.trick_exec_sources.specs.Turns.{Answer}

-- ---- one answer among calls

-- Some calls, an answer that gives a list, and some calls; the others are no answers.
pub record HasGiven (list : List Entry) (old new : View) : Type 0 where
  pub answer : Answer
  pub first : View
  pub second : View
  pub early : List Call
  pub late : List Call
  pub before : DoAll early old first
  pub none_before : answers_of early ≡ []
  pub given : IsGiven answer list first second
  pub after_it : DoAll late second new
  pub none_after : answers_of late ≡ []
  pub whole : second.broke ≡ false
  pub first_whole : first.broke ≡ false

no_answer : (answer : Answer) (answers : List Answer) → answer ∷ answers ≡ [] → ⊥
no_answer answer answers is = cc

first_same : (a b : Answer) (early late : List Answer) → a ∷ early ≡ b ∷ late → a ≡ b
first_same a b early late is = cc

rest_same : (a b : Answer) (early late : List Answer) → a ∷ early ≡ b ∷ late → early ≡ late
rest_same a b early late is = cc

-- one call more before them
one_before : (call : Call) (list : List Entry) (old mid new : View) → Does call old mid → answer_of call ≡ [] → HasGiven list mid new → HasGiven list old new
one_before call list old mid new did none so = record {
  answer = so.answer;
  first = so.first;
  second = so.second;
  early = call ∷ so.early;
  late = so.late;
  before = (mid, did, so.before);
  none_before = (λ i. none i ++ so.none_before i);
  given = so.given;
  after_it = so.after_it;
  none_after = so.none_after;
  whole = so.whole;
  first_whole = so.first_whole;
}

given_at : (answer : Answer) (list : List Entry) (calls : List Call) (old mid new : View) → IsAnswered (Some list) answer old mid → DoAll calls mid new
    → answers_of calls ≡ [] → mid.broke ≡ false → HasGiven list old new
given_at answer list calls old mid new did rest none whole = record {
  answer = answer;
  first = old;
  second = mid;
  early = [];
  late = calls;
  before = refl;
  none_before = refl;
  given = did.0;
  after_it = rest;
  none_after = none;
  whole = whole;
  first_whole = did.1;
}

given_calls : (calls : List Call) (answer : Answer) (list : List Entry) (old new : View) → DoAll calls old new → answers_of calls ≡ answer ∷ []
    → answer.list ≡ Some list → new.broke ≡ false → HasGiven list old new
given_calls [] answer list old new did are is whole = absurd (no_answer answer [] (sym are))
given_calls (Looks there ∷ calls) answer list old new did are is whole =
    one_before (Looks there) list old did.0 new did.1 refl (given_calls calls answer list did.0 new did.2 are is whole)
given_calls (Answers other ∷ calls) answer list old new did are is whole =
    given_at other list calls old did.0 new
    (subst (λ (o : Option (List Entry)). IsAnswered o other old did.0) (ap (λ (a : Answer). a.list) (first_same other answer (answers_of calls) [] are) ∙ is) did.1)
    did.2 (rest_same other answer (answers_of calls) [] are) (whole_calls calls did.0 new did.2 whole).1
given_calls (Breaks there ∷ calls) answer list old new did are is whole =
    absurd (false≢true (sym (whole_calls calls did.0 new did.2 whole).1 ∙ did.1.broke))
given_calls (Hands message ∷ calls) answer list old new did are is whole =
    one_before (Hands message) list old did.0 new did.1 refl (given_calls calls answer list did.0 new did.2 are is whole)

pub given_went : (answer : Answer) (list : List Entry) (old new : View) (messages : List Message) → Went old new (answer ∷ []) messages
    → answer.list ≡ Some list → new.broke ≡ false → HasGiven list old new
given_went answer list old new messages went is whole = given_calls went.calls answer list old new went.did went.answers_are is whole

-- ---- a place that nobody has

some_none : (q : Queues) → Some q ≡ None → ⊥
some_none q is = cc

not_empty : (entry : Entry) (entries : List Entry) → [] ≡ entry ∷ entries → ⊥
not_empty entry entries is = cc

seated_nobody : (a : Side) (q : Queues) → a ≡ nobody → a.queues ≡ Some q → ⊥
seated_nobody a q none seated = some_none q (sym seated ∙ ap (λ (s : Side). s.queues) none)

nobody_goes : (n : ℕ) (hs : List Happening) (a b : Side) → a ≡ nobody → Happens hs a b → [] ≡ entries_of_all n hs → b ≡ nobody
nobody_goes n [] a b none did empty = did ∙ none
nobody_goes n (IsSeated s refused ∷ hs) a b none did empty = absurd (not_empty _ _ empty)
nobody_goes n (Hears item ∷ hs) a b none did empty = absurd (seated_nobody a did.0.0.queues none did.0.0.seated)
nobody_goes n (Misses item ∷ hs) a b none did empty = absurd (seated_nobody a did.0.queues none did.0.seated)
nobody_goes n (IsTold why ∷ hs) a b none did empty = absurd (seated_nobody a did.0.queues none did.0.seated)
nobody_goes n (IsSlow ∷ hs) a b none did empty = absurd (seated_nobody a did.0.0.queues none did.0.0.seated)

-- where nothing of it is given nobody sits down
pub nobody_lives : (n : ℕ) (there : List Session) (a b : Side) → a ≡ nobody → Lives n there a b [] → b ≡ nobody
nobody_lives n there a b none (inl up) = absurd (seated_nobody a up.here.queues none up.here.seated)
nobody_lives n there a b none (inr goes) = nobody_goes n goes.happened a b none goes.happens goes.entries

nobody_handed : (k : ℕ) (message : Message) (old new : View) → Does (Hands message) old new → side old.seats k ≡ nobody → side new.seats k ≡ nobody
nobody_handed k message old new did none = ⊎_elim
    (λ mine.
    let seated = handed_seated message.1 old.seats new.seats k (did.own k mine.1) in
    absurd (seated_nobody (side old.seats k) seated.0 none seated.1))
    (λ other. did.others k other.1 ∙ none)
    (eqb_tells message.0 (k + 1))

nobody_calls : (k : ℕ) (calls : List Call) (old new : View) → DoAll calls old new → answers_of calls ≡ [] → new.broke ≡ false
    → side old.seats k ≡ nobody → side new.seats k ≡ nobody
nobody_calls k [] old new did none whole away = ap (λ (v : View). side v.seats k) did ∙ away
nobody_calls k (Looks there ∷ calls) old new did none whole away =
    nobody_calls k calls did.0 new did.2 none whole (nobody_lives (k + 1) there (side old.seats k) (side did.0.seats k) away (did.1.lives.each k))
nobody_calls k (Answers answer ∷ calls) old new did none whole away = absurd (no_answer answer (answers_of calls) none)
nobody_calls k (Breaks there ∷ calls) old new did none whole away =
    absurd (false≢true (sym (whole_calls calls did.0 new did.2 whole).1 ∙ did.1.broke))
nobody_calls k (Hands message ∷ calls) old new did none whole away =
    nobody_calls k calls did.0 new did.2 none whole (nobody_handed k message old did.0 did.1 away)

-- ---- no seat

seat_nobody : (seat : Seat) → side_of seat ≡ nobody → ⊥
seat_nobody seat is = some_none _ (ap (λ (s : Side). s.queues) is)

no_seats : (seats : List Seat) → ((k : ℕ) → side seats k ≡ nobody) → seats ≡ []
no_seats [] all = refl
no_seats (seat ∷ seats) all = absurd (seat_nobody seat (all 0))

none_at : (seats : List Seat) (k : ℕ) → seats ≡ [] → side seats k ≡ nobody
none_at seats k none = ap (λ (l : List Seat). side l k) none

-- calls that are no answers seat nobody in a source without a seat
pub none_seated : (calls : List Call) (old new : View) → DoAll calls old new → answers_of calls ≡ [] → new.broke ≡ false → old.seats ≡ [] → new.seats ≡ []
none_seated calls old new did none whole empty =
    no_seats new.seats (λ k. nobody_calls k calls old new did none whole (none_at old.seats k empty))

-- nor does an empty list
pub none_listed : (answer : Answer) (list : List Entry) (old new : View) → IsGiven answer list old new → list ≡ [] → old.seats ≡ [] → new.seats ≡ []
none_listed answer list old new given empty none =
    no_seats new.seats (λ k. nobody_lives (k + 1) answer.sessions (side old.seats k) (side new.seats k) (none_at old.seats k none)
    (subst (λ (l : List Entry). Lives (k + 1) answer.sessions (side old.seats k) (side new.seats k) (own (k + 1) l)) empty (given.lives.each k)))

-- ---- the sessions

-- calls that are no answers change no session
pub same_sessions : (calls : List Call) (old new : View) → DoAll calls old new → answers_of calls ≡ [] → new.broke ≡ false → new.sessions ≡ old.sessions
same_sessions [] old new did none whole = ap (λ (v : View). v.sessions) did
same_sessions (Looks there ∷ calls) old new did none whole = same_sessions calls did.0 new did.2 none whole ∙ did.1.sessions
same_sessions (Answers answer ∷ calls) old new did none whole = absurd (no_answer answer (answers_of calls) none)
same_sessions (Breaks there ∷ calls) old new did none whole =
    absurd (false≢true (sym (whole_calls calls did.0 new did.2 whole).1 ∙ did.1.broke))
same_sessions (Hands message ∷ calls) old new did none whole = same_sessions calls did.0 new did.2 none whole ∙ did.1.sessions
