-- Of which turn the messages are that were left out.
use Rattle.std.proofs.Common.{◌≡◌, ◌≢◌, ◌∙◌, ◌⊎◌, inl, inr, ⊎_elim, ℕ, ◌+◌, ◌-◌, ◌<◌, Bool, true, false, cond, eqb, List, [], ◌∷◌, ◌++◌, Option, Some, None, ap, append_assoc, append-nil, arith, map, refl, subst, sym}
use Rattle.std.proofs.lemmas.Bool.{and_from, cases_Bool, false≢true}
use Rattle.std.proofs.lemmas.Bool.Decides.{eqb_tells, nat_tests}
use Rattle.std.proofs.lemmas.List.{append_cancel_left}
use Rattle.std.proofs.lemmas.List.Concat.{flat_map-append}
use Rattle.std.specs.Prelude.{nat_lt}
use Rattle.trick_base.proofs.ListLemmas.{same_rest}
use Rattle.trick_base.proofs.Numbers.{zero_at_most}
use Rattle.trick_model_sessions.proofs.Silence.{absent, leaving, left_gone}
use Rattle.trick_model_sessions.specs.Silence.{all_newcomers, entries_of as entries_to, is_there, newcomers}
use Rattle.trick_model.proofs.Runs.{runs_join}
use Rattle.trick_model.specs.Files.{messages_to, session_text, turns_said}
use Rattle.trick_model.specs.Plan.{Plan}
use Rattle.trick_model.specs.Run.{after_turns, opened}
use Rattle.trick_model.specs.Session.{Message}
use Rattle.trick_model.specs.State.{State, World}
use Rattle.trick_model.specs.Turn.{turn}
use Rattle.trick_model.specs.Valid.{rises}
use Rattle.trick_model.specs.declared.entry.Cause.{Cause}
use Rattle.trick_model.specs.declared.entry.Cause.TheVariants as cause
use Rattle.trick_model.specs.declared.entry.Entry.{Entry}
use Rattle.trick_model.specs.declared.entry.Entry.TheVariants.{Join, Said, Leave, Publish}
use Rattle.trick_model.specs.declared.session.Session.{Session}
use Rattle.trick_exec_meaning.specs.Answers.{given, list_answer}
use Rattle.trick_serve_hearing.proofs.Living.{left_stays}
use Rattle.trick_serve_source.specs.Calls.{Answers, Breaks, Call, DoAll, Does, Hands, IsAnswered, IsGiven, Looks, View, Went, answers_of}
use Rattle.trick_serve_hearing.specs.Life.{Can, Happening, Happens, Hears, IsSeated, IsSlow, IsTold, Lives, Misses, after, entries_of_all, leaves, own}
use Rattle.trick_serve_hearing.specs.Messages.{IsHanded}
use Rattle.trick_serve_hearing.specs.Rules.{AreQuick}
use Rattle.trick_serve_hearing.specs.Sides.{Queues, Side, nobody, queues_of, side}
use Rattle.trick_serve_hearing.specs.declared.seat.Seat.{Seat}
use Rattle.trick_serve_facts.proofs.Answering.{HasGiven, given_went, same_sessions}
use Rattle.trick_serve_facts.proofs.Clients.{always}
use Rattle.trick_serve_facts.proofs.Joins.{RiseAbove, given_joins, joins_rise, rise_lower}
use Rattle.trick_serve_facts.proofs.Keeping.{AllShown, IsKept, ShownIn, messages_join, own_given, own_join, serves_keep, side_cases, went_keep, whole_before, whole_calls}
use Rattle.trick_serve_facts.proofs.Lives.{entries_kept}
use Rattle.trick_serve_facts.proofs.Messages.{messages_kept, messages_none}
use Rattle.trick_serve_facts.proofs.Waits.{Live, Stays, last_before, live_calls, live_given, live_serves, nobody_stays, one_of_all}
use Rattle.trick_serve_facts.proofs.Wants.{leaves_told}
use Rattle.trick_serve_facts.specs.LastTurns.{AreOfLastTurn}
use Rattle.trick_serve_facts.specs.Life.{HasEntries, life}
use Rattle.trick_serve_facts.specs.Messages.{HasMessages}
use Rattle.trick_serve_facts.specs.Serves.{GiveNothing, IsServedRun, Serves, all_entries, no_turn, one_more}
use Rattle.trick_exec_sources.specs.Turns.{Answer, Sessions, after_entries, in_next}

-- ---- a slow session

-- A slow session left, and its leave is all that is given of it.
record HasLeft (n : ℕ) (a b : Side) (mine : List Entry) : Type 0 where
  left : b.left ≡ true
  slow : b.slow ≡ true
  put : b.put ≡ a.put
  why : Cause
  mine_is : mine ≡ Leave n why ∷ []

not_both : (b : Bool) → b ≡ true → b ≡ false → ⊥
not_both b is other = false≢true (sym other ∙ is)

nobody_quick : (a : Side) → a ≡ nobody → a.slow ≡ true → ⊥
nobody_quick a none slow = false≢true (sym (ap (λ (s : Side). s.slow) none) ∙ slow)

slow_left : (n : ℕ) (hs : List Happening) (a b : Side) (mine : List Entry) (q : Queues) → a.queues ≡ Some q → a.slow ≡ true
    → Happens hs (after IsSlow a) b → mine ≡ Leave n cause.Slow ∷ entries_of_all n hs → HasLeft n a b mine
slow_left n hs a b mine q seated slow did are =
    let stuck = left_stays hs (after IsSlow a) b q seated refl did in
    record {
      left = ap (λ (s : Side). s.left) stuck.1;
      slow = ap (λ (s : Side). s.slow) stuck.1 ∙ slow;
      put = ap (λ (s : Side). s.put) stuck.1;
      why = cause.Slow;
      mine_is = are ∙ ap (λ (l : List Happening). Leave n cause.Slow ∷ entries_of_all n l) stuck.0;
    }

slow_goes : (n : ℕ) (hs : List Happening) (a b : Side) (mine : List Entry) → a.slow ≡ true → Happens hs a b → mine ≡ entries_of_all n hs
    → ((b ≡ a) × (mine ≡ [])) ⊎ HasLeft n a b mine
slow_goes n [] a b mine slow did are = inl (did, are)
slow_goes n (IsSeated s refused ∷ hs) a b mine slow did are = absurd (nobody_quick a did.0.first slow)
slow_goes n (Hears item ∷ hs) a b mine slow did are = absurd (not_both a.slow slow did.0.0.quick)
slow_goes n (Misses item ∷ hs) a b mine slow did are = absurd (not_both a.slow slow did.0.quick)
slow_goes n (IsTold why ∷ hs) a b mine slow did are = absurd (not_both a.slow slow did.0.quick)
slow_goes n (IsSlow ∷ hs) a b mine slow did are = inr (slow_left n hs a b mine did.0.0.queues did.0.0.seated slow did.1 are)

-- what happens to a slow session is that it leaves, or nothing
slow_lives : (n : ℕ) (there : List Session) (a b : Side) (mine : List Entry) → a.slow ≡ true → Lives n there a b mine
    → ((b ≡ a) × (mine ≡ [])) ⊎ HasLeft n a b mine
slow_lives n there a b mine slow (inl up) = inr (record {
  left = ap (λ (s : Side). s.left) up.is;
  slow = ap (λ (s : Side). s.slow) up.is ∙ slow;
  put = ap (λ (s : Side). s.put) up.is;
  why = cause.HungUp;
  mine_is = up.entries;
})
slow_lives n there a b mine slow (inr goes) = slow_goes n goes.happened a b mine slow goes.happens goes.entries

none_one : (entry : Entry) → [] ≡ entry ∷ [] → ⊥
none_one entry is = cc

slow_quiet : (n : ℕ) (there : List Session) (a b : Side) → a.slow ≡ true → Lives n there a b [] → b ≡ a
slow_quiet n there a b slow lives = ⊎_elim
    (λ same. same.0)
    (λ left. absurd (none_one (Leave n left.why) left.mine_is))
    (slow_lives n there a b [] slow lives)

slow_handed : (bytes : List ℕ) (a b : Side) → a.slow ≡ true → IsHanded bytes a b → b ≡ a
slow_handed bytes a b slow (inl put) = absurd (not_both a.slow slow put.before)
slow_handed bytes a b slow (inr (inl out)) = absurd (not_both a.slow slow out.before)
slow_handed bytes a b slow (inr (inr past)) = past.is

not_some : (list : List Entry) → Some list ≡ None → ⊥
not_some list is = cc

slow_answered : (k : ℕ) (list : Option (List Entry)) (answer : Answer) (old new : View) → IsAnswered list answer old new → list ≡ None
    → (side old.seats k).slow ≡ true → side new.seats k ≡ side old.seats k
slow_answered k None answer old new did none slow =
    slow_quiet (k + 1) answer.sessions (side old.seats k) (side new.seats k) slow (did.quiet.lives.each k)
slow_answered k (Some list) answer old new did none slow = absurd (not_some list none)

slow_message : (k : ℕ) (message : Message) (old new : View) → Does (Hands message) old new → (side old.seats k).slow ≡ true
    → side new.seats k ≡ side old.seats k
slow_message k message old new did slow = ⊎_elim
    (λ mine. slow_handed message.1 (side old.seats k) (side new.seats k) slow (did.own k mine.1))
    (λ other. did.others k other.1)
    (eqb_tells message.0 (k + 1))

slow_more : (k : ℕ) (old mid new : View) → side mid.seats k ≡ side old.seats k → (side old.seats k).slow ≡ true
    → ((side mid.seats k).slow ≡ true → side new.seats k ≡ side mid.seats k) → side new.seats k ≡ side old.seats k
slow_more k old mid new same slow rest = rest (ap (λ (s : Side). s.slow) same ∙ slow) ∙ same

-- calls that give no list leave a slow session as it is
slow_calls : (k : ℕ) (calls : List Call) (old new : View) → DoAll calls old new → GiveNothing (answers_of calls) → new.broke ≡ false
    → (side old.seats k).slow ≡ true → side new.seats k ≡ side old.seats k
slow_calls k [] old new did none whole slow = ap (λ (v : View). side v.seats k) did
slow_calls k (Looks there ∷ calls) old new did none whole slow =
    slow_more k old did.0 new (slow_quiet (k + 1) there (side old.seats k) (side did.0.seats k) slow (did.1.lives.each k)) slow
    (λ still. slow_calls k calls did.0 new did.2 none whole still)
slow_calls k (Answers answer ∷ calls) old new did none whole slow =
    slow_more k old did.0 new (slow_answered k answer.list answer old did.0 did.1 none.0 slow) slow
    (λ still. slow_calls k calls did.0 new did.2 none.1 whole still)
slow_calls k (Breaks there ∷ calls) old new did none whole slow =
    absurd (false≢true (sym (whole_calls calls did.0 new did.2 whole).1 ∙ did.1.broke))
slow_calls k (Hands message ∷ calls) old new did none whole slow =
    slow_more k old did.0 new (slow_message k message old did.0 did.1 slow) slow
    (λ still. slow_calls k calls did.0 new did.2 none whole still)

slow_went : (k : ℕ) (old new : View) (answers : List Answer) (messages : List Message) → Went old new answers messages → GiveNothing answers
    → new.broke ≡ false → (side old.seats k).slow ≡ true → side new.seats k ≡ side old.seats k
slow_went k old new answers messages went none whole slow =
    slow_calls k went.calls old new went.did (subst (λ (l : List Answer). GiveNothing l) (sym went.answers_are) none) whole slow

-- ---- a slow session in a list that is given

-- It has left after it, and nothing but its leave was given of it; where it had left before nothing was given of it.
record GaveSlow (k : ℕ) (list : List Entry) (old new : View) : Type 0 where
  slow : (side new.seats k).slow ≡ true
  put : (side new.seats k).put ≡ (side old.seats k).put
  own_is : ((own (k + 1) list ≡ []) × ((side old.seats k).left ≡ true)) ⊎ ((why : Cause) × (own (k + 1) list ≡ Leave (k + 1) why ∷ []))

-- a slow session has a seat
slow_seated : (seats : List Seat) (k : ℕ) → (side seats k).slow ≡ true → (q : Queues) × ((side seats k).queues ≡ Some q)
slow_seated seats k slow = ⊎_elim
    (λ none. absurd (nobody_quick (side seats k) none slow))
    (λ seat. (queues_of seat.0, ap (λ (s : Side). s.queues) seat.1))
    (side_cases seats k)

-- after a list who stays is not slow
slow_gone : (k : ℕ) (new : View) → AreQuick new.seats new.sessions.live → Live k new → (side new.seats k).slow ≡ true → (side new.seats k).left ≡ false → ⊥
slow_gone k new quick live slow stays =
    let seated = slow_seated new.seats k slow in
    not_both (side new.seats k).slow slow (subst (λ (m : ℕ). (side new.seats m).slow ≡ false) (last_before k)
    (one_of_all (λ n. (side new.seats (n - 1)).slow ≡ false) (k + 1) new.sessions.live quick
    (live (record { queues = seated.0; seated = seated.1; left = stays }))))

slow_given : (k : ℕ) (answer : Answer) (list : List Entry) (old new : View) → IsGiven answer list old new → Live k new → (side old.seats k).slow ≡ true
    → GaveSlow k list old new
slow_given k answer list old new given live slow = ⊎_elim
    (λ same.
    let still : (side new.seats k).slow ≡ true = ap (λ (s : Side). s.slow) same.0 ∙ slow in
    record {
      slow = still;
      put = ap (λ (s : Side). s.put) same.0;
      own_is = inl (
        same.1,
        ⊎_elim
            (λ left. left)
            (λ stays. absurd (slow_gone k new given.quick live still (ap (λ (s : Side). s.left) same.0 ∙ stays)))
            (cases_Bool (side old.seats k).left),
      );
    })
    (λ left. record { slow = left.slow; put = left.put; own_is = inr (left.why, left.mine_is) })
    (slow_lives (k + 1) answer.sessions (side old.seats k) (side new.seats k) (own (k + 1) list) slow (given.lives.each k))

nothing_in : (answers : List Answer) → answers ≡ [] → GiveNothing answers
nothing_in answers none = subst (λ (l : List Answer). GiveNothing l) (sym none) tt

slow_has_given : (k : ℕ) (list : List Entry) (old new : View) → HasGiven list old new → new.broke ≡ false → Live k old → (side old.seats k).slow ≡ true
    → GaveSlow k list old new
slow_has_given k list old new so whole live slow =
    let early = slow_calls k so.early old so.first so.before (nothing_in (answers_of so.early) so.none_before) so.first_whole slow in
    let live_first = live_calls k so.early old so.first so.before so.first_whole live in
    let live_second = live_given k so.answer.sessions list so.first so.second (so.given.lives.each k) so.given.rules.now live_first in
    let gave = slow_given k so.answer list so.first so.second so.given live_second (ap (λ (s : Side). s.slow) early ∙ slow) in
    let late = slow_calls k so.late so.second new so.after_it (nothing_in (answers_of so.late) so.none_after) whole gave.slow in
    record {
      slow = ap (λ (s : Side). s.slow) late ∙ gave.slow;
      put = ap (λ (s : Side). s.put) late ∙ gave.put ∙ ap (λ (s : Side). s.put) early;
      own_is = ⊎_elim
          (λ none. inl (none.0, sym (ap (λ (s : Side). s.left) early) ∙ none.1))
          (λ left. inr left)
          gave.own_is;
    }

-- ---- the messages of one turn

-- Of these messages, which were handed to a session that had been put some, the first ones were put, and the others left
-- out: there are some exactly where it is slow.
record FromHere (before : List (List ℕ)) (s : Side) (messages : List (List ℕ)) : Type 0 where
  kept : List (List ℕ)
  dropped : List (List ℕ)
  put_is : s.put ≡ before ++ kept
  messages_are : messages ≡ kept ++ dropped
  all : s.slow ≡ false → dropped ≡ []
  some : s.slow ≡ true → dropped ≢ []

same_from : (before : List (List ℕ)) (a b : Side) (messages : List (List ℕ)) → b.put ≡ a.put → b.slow ≡ a.slow → FromHere before a messages
    → FromHere before b messages
same_from before a b messages put_is slow_is was = record {
  kept = was.kept;
  dropped = was.dropped;
  put_is = put_is ∙ was.put_is;
  messages_are = was.messages_are;
  all = λ quick. was.all (sym slow_is ∙ quick);
  some = λ slow. was.some (sym slow_is ∙ slow);
}

from_happens : (before : List (List ℕ)) (h : Happening) (a : Side) (messages : List (List ℕ)) → Can h a → FromHere before a messages
    → FromHere before (after h a) messages
from_happens before (IsSeated s refused) a messages can was =
    same_from before a s messages (can.fresh.2 ∙ sym (ap (λ (t : Side). t.put) can.first))
    (ap (λ (t : Side). t.slow) can.seated ∙ sym (ap (λ (t : Side). t.slow) can.first)) was
from_happens before (Hears item) a messages can was = same_from before a (after (Hears item) a) messages refl refl was
from_happens before (Misses item) a messages can was = same_from before a (after (Misses item) a) messages refl refl was
from_happens before (IsTold why) a messages can was = same_from before a (after (IsTold why) a) messages refl refl was
from_happens before IsSlow a messages can was = same_from before a (after IsSlow a) messages refl refl was

not_none : (items : List (List ℕ)) (item : List ℕ) → items ++ item ∷ [] ≢ []
not_none [] item is = cc
not_none (first ∷ items) item is = cc

from_handed : (before : List (List ℕ)) (bytes : List ℕ) (a b : Side) (messages : List (List ℕ)) → IsHanded bytes a b → FromHere before a messages
    → FromHere before b (messages ++ bytes ∷ [])
from_handed before bytes a b messages (inl put) was =
    let quick : b.slow ≡ false = ap (λ (s : Side). s.slow) put.is ∙ put.before in
    record {
      kept = was.kept ++ bytes ∷ [];
      dropped = [];
      put_is = ap (λ (s : Side). s.put) put.is ∙ ap (λ (l : List (List ℕ)). l ++ bytes ∷ []) was.put_is ∙ append_assoc before was.kept (bytes ∷ []);
      messages_are =
          ap (λ (l : List (List ℕ)). l ++ bytes ∷ [])
          (was.messages_are ∙ ap (λ (l : List (List ℕ)). was.kept ++ l) (was.all put.before) ∙ append-nil was.kept)
          ∙ sym (append-nil (was.kept ++ bytes ∷ []));
      all = λ still. refl;
      some = λ slow. absurd (not_both b.slow slow quick);
    }
from_handed before bytes a b messages (inr (inl out)) was =
    let slow_is : b.slow ≡ true = ap (λ (s : Side). s.slow) out.is in
    record {
      kept = was.kept;
      dropped = bytes ∷ [];
      put_is = ap (λ (s : Side). s.put) out.is ∙ was.put_is;
      messages_are =
          ap (λ (l : List (List ℕ)). l ++ bytes ∷ [])
          (was.messages_are ∙ ap (λ (l : List (List ℕ)). was.kept ++ l) (was.all out.before) ∙ append-nil was.kept);
      all = λ quick. absurd (not_both b.slow slow_is quick);
      some = λ slow is. not_none [] bytes is;
    }
from_handed before bytes a b messages (inr (inr past)) was =
    subst (λ (s : Side). FromHere before s (messages ++ bytes ∷ [])) (sym past.is) (record {
      kept = was.kept;
      dropped = was.dropped ++ bytes ∷ [];
      put_is = was.put_is;
      messages_are = ap (λ (l : List (List ℕ)). l ++ bytes ∷ []) was.messages_are ∙ append_assoc was.kept was.dropped (bytes ∷ []);
      all = λ quick. absurd (not_both a.slow past.before quick);
      some = λ slow. not_none was.dropped bytes;
    })

-- whatever is shown
abbrev Anything : List Session → List Entry → Type 0
Anything there list = Unit {0}

anything_shown : (answers : List Answer) → AllShown Anything answers
anything_shown [] = tt
anything_shown (answer ∷ answers) = (by answer.list, anything_shown answers)
  where
    by : (list : Option (List Entry)) → ShownIn Anything answer.sessions list
    by None = tt
    by (Some list) = tt

from_kept : (n : ℕ) (before : List (List ℕ)) → IsKept n Anything (λ s mine messages. FromHere before s messages)
from_kept n before = record {
  happens = λ h a mine messages can so. from_happens before h a messages can so;
  hangs_up = λ there list a b mine messages shown up so.
      same_from before a b messages (ap (λ (s : Side). s.put) up.is) (ap (λ (s : Side). s.slow) up.is) so;
  handed = λ bytes a b mine messages q seated did so. from_handed before bytes a b messages did so;
}

from_start : (s : Side) → s.slow ≡ false → FromHere s.put s []
from_start s quick = record {
  kept = [];
  dropped = [];
  put_is = sym (append-nil s.put);
  messages_are = refl;
  all = λ still. refl;
  some = λ slow. absurd (not_both s.slow slow quick);
}

-- from a session that is not slow on
from_went : (k : ℕ) (old new : View) (answers : List Answer) (said : List Message) (before : List (List ℕ)) (messages : List (List ℕ))
    → Went old new answers said → new.broke ≡ false → FromHere before (side old.seats k) messages
    → FromHere before (side new.seats k) (messages ++ messages_to (k + 1) said)
from_went k old new answers said before messages went whole so =
    went_keep k (from_kept (k + 1) before) old new answers said [] messages went whole (anything_shown answers) so

-- ---- the text of a session, with one turn more

text_more : (p : Plan) (w : World) (lists : List (List Entry)) (entries : List Entry) (n : ℕ)
    → messages_to n (turns_said p w (lists ++ entries ∷ [])) ≡ messages_to n (turns_said p w lists) ++ messages_to n (turn p (after_turns p w lists) entries).said
text_more p w lists entries n =
    ap (λ (l : List Message). messages_to n l) (runs_join.said p w lists (entries ∷ []))
    ∙ ap (λ (l : List Message). messages_to n (turns_said p w lists ++ l)) (append-nil (turn p (after_turns p w lists) entries).said)
    ∙ messages_join n (turns_said p w lists) (turn p (after_turns p w lists) entries).said

text_still : (p : Plan) (w : World) (lists : List (List Entry)) (entries : List Entry) (n : ℕ) → messages_to n (turn p (after_turns p w lists) entries).said ≡ []
    → messages_to n (turns_said p w (lists ++ entries ∷ [])) ≡ messages_to n (turns_said p w lists)
text_still p w lists entries n unsent =
    text_more p w lists entries n ∙ ap (λ (l : List (List ℕ)). messages_to n (turns_said p w lists) ++ l) unsent ∙ append-nil (messages_to n (turns_said p w lists))

-- the entries of a session, by both definitions
own_same : (n : ℕ) (entries : List Entry) → own n entries ≡ entries_to n entries
own_same n [] = refl
own_same n (Join session ∷ entries) = ap (λ (l : List Entry). cond (eqb session n) (Join session ∷ l) l) (own_same n entries)
own_same n (Said session line ∷ entries) = ap (λ (l : List Entry). cond (eqb session n) (Said session line ∷ l) l) (own_same n entries)
own_same n (Leave session why ∷ entries) = ap (λ (l : List Entry). cond (eqb session n) (Leave session why ∷ l) l) (own_same n entries)
own_same n (Publish thread ∷ entries) = own_same n entries

-- ---- numbers rise along a run

newcomers_more : (lists : List (List Entry)) (entries : List Entry) → all_newcomers (lists ++ entries ∷ []) ≡ all_newcomers lists ++ newcomers entries
newcomers_more [] entries = append-nil (newcomers entries)
newcomers_more (first ∷ lists) entries =
    ap (λ (l : List ℕ). newcomers first ++ l) (newcomers_more lists entries) ∙ sym (append_assoc (newcomers first) (all_newcomers lists) (newcomers entries))

rise_serves : (p : Plan) (w : World) (lists : List (List Entry)) (old new : View) → Serves p w lists old new → new.broke ≡ false
    → (rest : List ℕ) → RiseAbove new.sessions.highest rest → RiseAbove 0 (all_newcomers lists ++ rest)
rise_serves p w all old new (no_turn v) whole rest rise = rise_lower 0 v.sessions.highest rest (zero_at_most v.sessions.highest) rise
rise_serves p w all old new (one_more lists entries one before gave now early gives said) whole rest rise =
    let gave_whole = whole_before gave now [] _ said whole in
    let before_whole = whole_before before gave _ [] gives gave_whole in
    let list = given false entries in
    let so = given_went _ list before gave [] gives refl gave_whole in
    let late : now.sessions ≡ so.second.sessions =
    same_sessions said.calls gave now said.did said.answers_are whole ∙ same_sessions so.late so.second gave so.after_it so.none_after gave_whole in
    let first : so.first.sessions ≡ before.sessions = same_sessions so.early before so.first so.before so.none_before so.first_whole in
    let above : RiseAbove (after_entries list (in_next so.first.sessions)).highest rest =
    subst (λ (s : Sessions). RiseAbove s.highest rest) (late ∙ so.given.rules.now) rise in
    let from : RiseAbove before.sessions.highest (newcomers list ++ rest) =
    subst (λ (s : Sessions). RiseAbove s.highest (newcomers list ++ rest)) first (joins_rise list (in_next so.first.sessions) rest so.given.rules.may above) in
    subst (λ (l : List ℕ). RiseAbove 0 l)
    (ap (λ (l : List ℕ). all_newcomers lists ++ (l ++ rest)) (given_joins entries)
    ∙ sym (append_assoc (all_newcomers lists) (newcomers entries) rest) ∙ ap (λ (l : List ℕ). l ++ rest) (sym (newcomers_more lists entries)))
    (rise_serves p w lists one before early before_whole (newcomers list ++ rest) from)

rises_from : (a : ℕ) (ns : List ℕ) → RiseAbove a ns → rises (a ∷ ns) ≡ true
rises_from a [] rise = refl
rises_from a (n ∷ ns) rise = and_from (nat_lt a n) (rises (n ∷ ns)) (lower a n rise.0) (rises_from n ns rise.1)
  where
    lower : (x y : ℕ) → x < y → nat_lt x y ≡ true
    lower x y low = grind (arith, nat_tests)

rises_along : (p : Plan) (w : World) (lists : List (List Entry)) (old new : View) → Serves p w lists old new → new.broke ≡ false
    → rises (0 ∷ all_newcomers lists) ≡ true
rises_along p w lists old new serves whole =
    rises_from 0 (all_newcomers lists) (subst (λ (l : List ℕ). RiseAbove 0 l) (append-nil (all_newcomers lists))
    (rise_serves p w lists old new serves whole [] tt))

-- ---- who left is not there

entry_none : (entry : Entry) (entries : List Entry) → entry ∷ entries ≡ [] → ⊥
entry_none entry entries is = cc

rest_none : (entry other : Entry) (entries : List Entry) → entry ∷ entries ≡ other ∷ [] → entries ≡ []
rest_none entry other entries is = cc

right_none : (xs ys : List Entry) → xs ++ ys ≡ [] → ys ≡ []
right_none [] ys is = is
right_none (x ∷ xs) ys is = absurd (entry_none x (xs ++ ys) is)

-- what ends with an entry, in two parts
ends_split : (xs ys zs : List Entry) (e : Entry) → xs ++ ys ≡ zs ++ e ∷ [] → (ys ≡ []) ⊎ ((before : List Entry) × (ys ≡ before ++ e ∷ []))
ends_split [] ys zs e is = inr (zs, is)
ends_split (x ∷ xs) ys [] e is = inl (right_none xs ys (rest_none x e (xs ++ ys) is))
ends_split (x ∷ xs) ys (z ∷ zs) e is = ends_split xs ys zs e (same_rest x z (xs ++ ys) (zs ++ e ∷ []) is)

own_more : (n : ℕ) (lists : List (List Entry)) (entries : List Entry) → own n (all_entries (lists ++ entries ∷ [])) ≡ own n (all_entries lists) ++ own n entries
own_more n lists entries =
    ap (own n) (flat_map-append (λ (l : List Entry). l) lists (entries ∷ []))
    ∙ ap (λ (l : List Entry). own n (all_entries lists ++ l)) (append-nil entries)
    ∙ own_join n (all_entries lists) entries

lives_along : (k : ℕ) (p : Plan) (s : State) (lists : List (List Entry)) (old new : View) → Serves p (opened s) lists old new → new.broke ≡ false
    → old.seats ≡ [] → HasEntries (k + 1) (side new.seats k) (own (k + 1) (all_entries lists))
lives_along k p s lists old new serves whole none =
    serves_keep k p (opened s) (always k p s (λ here mine messages. HasEntries (k + 1) here mine) (λ Shown. entries_kept (k + 1) Shown))
    lists old new serves whole (inl (ap (λ (l : List Seat). side l k) none, refl))

messages_along : (k : ℕ) (p : Plan) (s : State) (lists : List (List Entry)) (old new : View) → Serves p (opened s) lists old new → new.broke ≡ false
    → old.seats ≡ [] → HasMessages (side new.seats k) (messages_to (k + 1) (turns_said p (opened s) lists))
messages_along k p s lists old new serves whole none =
    serves_keep k p (opened s) (always k p s (λ here mine messages. HasMessages here messages) (λ Shown. messages_kept (k + 1) Shown))
    lists old new serves whole (subst (λ (l : List Seat). HasMessages (side l k) []) (sym none) messages_none)

nobody_left : (a : Side) → a ≡ nobody → a.left ≡ true → ⊥
nobody_left a none left = false≢true (sym (ap (λ (s : Side). s.left) none) ∙ left)

some_leave : (leave : Option Cause) → leaves leave ≡ true → (why : Cause) × (leave ≡ Some why)
some_leave None left = absurd (false≢true left)
some_leave (Some why) left = (why, refl)

-- the leave of a session that has left
leave_along : (n : ℕ) (here : Side) (mine : List Entry) → here.left ≡ true → HasEntries n here mine
    → (lines : List (List ℕ)) × (why : Cause) × (mine ≡ life n lines (Some why))
leave_along n here mine left (inl none) = absurd (nobody_left here none.0 left)
leave_along n here mine left (inr lived) =
    let so = some_leave lived.leave (sym lived.left ∙ left) in
    (lived.lines, so.0, lived.entries_are ∙ ap (λ (o : Option Cause). life n lived.lines o) so.1)

-- a session whose entries end with its leave has left
left_by : (n : ℕ) (here : Side) (mine : List Entry) (lines : List (List ℕ)) (why : Cause) → mine ≡ life n lines (Some why) → HasEntries n here mine
    → here.left ≡ true
left_by n here mine lines why are (inl none) =
    absurd (entry_none (Join n) (map (λ (line : List ℕ). Said n line) lines ++ Leave n why ∷ []) (sym are ∙ none.1))
left_by n here mine lines why are (inr lived) =
    lived.left ∙ ap leaves (leaves_told n lived.lines lines lived.leave (Some why) (sym lived.entries_are ∙ are))

gone_after : (p : Plan) (s : State) (lists : List (List Entry)) (entries : List Entry) (n : ℕ)
    → is_there n (turn p (after_turns p (opened s) lists) entries).world.sessions ≡ false
    → is_there n (after_turns p (opened s) (lists ++ entries ∷ [])).sessions ≡ false
gone_after p s lists entries n gone =
    subst (λ (w : World). is_there n w.sessions ≡ false) (sym (runs_join.worlds p (opened s) lists (entries ∷ []))) gone

gone_serves : (k : ℕ) (p : Plan) (s : State) (lists : List (List Entry)) (old new : View) → Serves p (opened s) lists old new → new.broke ≡ false
    → old.seats ≡ [] → (side new.seats k).left ≡ true → is_there (k + 1) (after_turns p (opened s) lists).sessions ≡ false
gone_serves k p s all old new (no_turn v) whole none left = absurd (nobody_left (side v.seats k) (ap (λ (l : List Seat). side l k) none) left)
gone_serves k p s all old new (one_more lists entries one before gave now early gives said) whole none left =
    let n = k + 1 in
    let w = after_turns p (opened s) lists in
    let gave_whole = whole_before gave now [] _ said whole in
    let before_whole = whole_before before gave _ [] gives gave_whole in
    let serves = one_more lists entries one before gave now early gives said in
    let is = leave_along n (side now.seats k) (own n (all_entries (lists ++ entries ∷ []))) left (lives_along k p s (lists ++ entries ∷ []) one now serves whole none) in
    let lines = is.0 in
    let why = is.1 in
    let joined : own n (all_entries lists) ++ own n entries ≡ life n lines (Some why) = sym (own_more n lists entries) ∙ is.2 in
    gone_after p s lists entries n (⊎_elim
    (λ empty. (absent p w entries n
    (gone_serves k p s lists one before early before_whole none
    (left_by n (side before.seats k) (own n (all_entries lists)) lines why
    (sym (append-nil (own n (all_entries lists))) ∙ ap (λ (l : List Entry). own n (all_entries lists) ++ l) (sym empty) ∙ joined)
    (lives_along k p s lists one before early before_whole none)))
    (sym (own_same n entries) ∙ empty)).gone)
    (λ last. left_gone p s lists entries last.0 n why (rises_along p (opened s) (lists ++ entries ∷ []) one now serves whole)
    (sym (own_same n entries) ∙ last.1))
    (ends_split (own n (all_entries lists)) (own n entries) (Join n ∷ map (λ (line : List ℕ). Said n line) lines) (Leave n why) joined))

-- ---- since when a session is slow

-- A message to the session was left out in one of these turns, and all later ones, which are of that turn.
record SlowSince (p : Plan) (w : World) (lists : List (List Entry)) (k : ℕ) (v : View) : Type 0 where
  early : List (List Entry)
  entries : List Entry
  late : List (List Entry)
  lists_are : lists ≡ early ++ entries ∷ late
  kept : List (List ℕ)
  dropped : List (List ℕ)
  text : messages_to (k + 1) (turns_said p w lists) ≡ (side v.seats k).put ++ dropped
  of_turn : messages_to (k + 1) (turn p (after_turns p w early) entries).said ≡ kept ++ dropped
  none_later : messages_to (k + 1) (turns_said p w lists) ≡ messages_to (k + 1) (turns_said p w (early ++ entries ∷ []))

-- a turn in which nothing is said to it
slow_later : (p : Plan) (w : World) (lists : List (List Entry)) (entries : List Entry) (k : ℕ) (before now : View)
    → messages_to (k + 1) (turn p (after_turns p w lists) entries).said ≡ [] → (side now.seats k).put ≡ (side before.seats k).put
    → SlowSince p w lists k before → SlowSince p w (lists ++ entries ∷ []) k now
slow_later p w lists entries k before now unsent put was =
    let still = text_still p w lists entries (k + 1) unsent in
    record {
      early = was.early;
      entries = was.entries;
      late = was.late ++ entries ∷ [];
      lists_are = ap (λ (l : List (List Entry)). l ++ entries ∷ []) was.lists_are ∙ append_assoc was.early (was.entries ∷ was.late) (entries ∷ []);
      kept = was.kept;
      dropped = was.dropped;
      text = still ∙ was.text ∙ ap (λ (l : List (List ℕ)). l ++ was.dropped) (sym put);
      of_turn = was.of_turn;
      none_later = still ∙ was.none_later;
    }

-- the turn in which a message was left out
slow_now : (p : Plan) (w : World) (lists : List (List Entry)) (entries : List Entry) (k : ℕ) (before now : View)
    → messages_to (k + 1) (turns_said p w lists) ≡ (side before.seats k).put
    → FromHere (side before.seats k).put (side now.seats k) (messages_to (k + 1) (turn p (after_turns p w lists) entries).said)
    → SlowSince p w (lists ++ entries ∷ []) k now
slow_now p w lists entries k before now told from =
    let put = (side before.seats k).put in
    record {
      early = lists;
      entries = entries;
      late = [];
      lists_are = refl;
      kept = from.kept;
      dropped = from.dropped;
      text = text_more p w lists entries (k + 1) ∙ (λ i. told i ++ from.messages_are i) ∙ sym (append_assoc put from.kept from.dropped)
          ∙ ap (λ (l : List (List ℕ)). l ++ from.dropped) (sym from.put_is);
      of_turn = from.messages_are;
      none_later = refl;
    }

silent_turn : (p : Plan) (s : State) (lists : List (List Entry)) (entries : List Entry) (k : ℕ) (before : View)
    → rises (0 ∷ all_newcomers (lists ++ entries ∷ [])) ≡ true
    → ((side before.seats k).left ≡ true → is_there (k + 1) (after_turns p (opened s) lists).sessions ≡ false)
    → ((own (k + 1) (given false entries) ≡ []) × ((side before.seats k).left ≡ true)) ⊎ ((why : Cause) × (own (k + 1) (given false entries) ≡ Leave (k + 1) why ∷ []))
    → messages_to (k + 1) (turn p (after_turns p (opened s) lists) entries).said ≡ []
silent_turn p s lists entries k before rise gone (inl none) =
    (absent p (after_turns p (opened s) lists) entries (k + 1) (gone none.1)
    (sym (own_same (k + 1) entries) ∙ sym (own_given (k + 1) entries) ∙ none.0)).unsent
silent_turn p s lists entries k before rise gone (inr left) =
    (leaving p s lists entries (k + 1) left.0 rise (sym (own_same (k + 1) entries) ∙ sym (own_given (k + 1) entries) ∙ left.1)).unsent

quick_text : (here : Side) (messages : List (List ℕ)) → here.slow ≡ false → HasMessages here messages → messages ≡ here.put
quick_text here messages quick so = so.messages_are ∙ ap (λ (l : List (List ℕ)). here.put ++ l) (so.all quick) ∙ append-nil here.put

since_serves : (k : ℕ) (p : Plan) (s : State) (lists : List (List Entry)) (old new : View) → Serves p (opened s) lists old new → new.broke ≡ false
    → old.seats ≡ [] → (side new.seats k).slow ≡ true → SlowSince p (opened s) lists k new
since_serves k p s all old new (no_turn v) whole none slow = absurd (nobody_quick (side v.seats k) (ap (λ (l : List Seat). side l k) none) slow)
since_serves k p s all old new (one_more lists entries one before gave now early gives said) whole none slow =
    let w = opened s in
    let told = (turn p (after_turns p w lists) entries).said in
    let gave_whole = whole_before gave now [] told said whole in
    let before_whole = whole_before before gave _ [] gives gave_whole in
    ⊎_elim
    (λ was.
    let live = live_serves k p w lists one before early before_whole (λ stays. absurd (nobody_stays (subst (λ (l : List Seat). Stays (side l k)) none stays))) in
    let so = slow_has_given k (given false entries) before gave (given_went _ (given false entries) before gave [] gives refl gave_whole) gave_whole live was in
    let same = slow_went k gave now [] told said tt whole so.slow in
    slow_later p w lists entries k before now
    (silent_turn p s lists entries k before (rises_along p w (lists ++ entries ∷ []) one now (one_more lists entries one before gave now early gives said) whole)
    (gone_serves k p s lists one before early before_whole none) so.own_is)
    (ap (λ (t : Side). t.put) same ∙ so.put)
    (since_serves k p s lists one before early before_whole none was))
    (λ quick.
    slow_now p w lists entries k before now
    (quick_text (side before.seats k) (messages_to (k + 1) (turns_said p w lists)) quick (messages_along k p s lists one before early before_whole none))
    (from_went k gave now [] told (side before.seats k).put [] said whole
    (from_went k before gave (list_answer false (after_turns p w lists) entries) [] (side before.seats k).put [] gives gave_whole
    (from_start (side before.seats k) quick))))
    (cases_Bool (side before.seats k).slow)

-- ---- at the end of a run

right_empty : (xs ys : List (List ℕ)) → [] ≡ xs ++ ys → ys ≡ []
right_empty [] ys is = sym is
right_empty (x ∷ xs) ys is = absurd (no_first x (xs ++ ys) is)
  where
    no_first : (y : List ℕ) (more : List (List ℕ)) → [] ≡ y ∷ more → ⊥
    no_first y more e = cc

-- who is slow at the end was slow after the last turn
slow_at_last : (k : ℕ) (mid new : View) (last : List Answer) → Went mid new last [] → GiveNothing last → new.broke ≡ false → (side new.seats k).slow ≡ true
    → (side mid.seats k).slow ≡ true
slow_at_last k mid new last ends nothing whole slow = ⊎_elim
    (λ was. was)
    (λ quick.
    let from = from_went k mid new last [] (side mid.seats k).put [] ends whole (from_start (side mid.seats k) quick) in
    absurd (from.some slow (right_empty from.kept from.dropped from.messages_are)))
    (cases_Bool (side mid.seats k).slow)

-- What was left out of the text of a session is of its last turn.
pub dropped_last : (p : Plan) (s : State) (lists : List (List Entry)) (old new : View) (k : ℕ) (dropped : List (List ℕ)) → IsServedRun p s lists old new
    → session_text p s lists (k + 1) ≡ (side new.seats k).put ++ dropped → (side new.seats k).slow ≡ true → AreOfLastTurn p s lists (k + 1) dropped
dropped_last p s lists old new k dropped run text slow =
    let mid_whole = whole_before run.mid new run.last [] run.ends run.whole in
    let was = slow_at_last k run.mid new run.last run.ends run.nothing run.whole slow in
    let same = slow_went k run.mid new run.last [] run.ends run.nothing run.whole was in
    let since = since_serves k p s lists old run.mid run.turns mid_whole run.none was in
    let is : since.dropped ≡ dropped = append_cancel_left (side new.seats k).put since.dropped dropped
    (ap (λ (t : Side). t.put ++ since.dropped) same ∙ sym since.text ∙ text) in
    record {
      early = since.early;
      entries = since.entries;
      late = since.late;
      lists_are = since.lists_are;
      kept = since.kept;
      of_turn = since.of_turn ∙ ap (λ (l : List (List ℕ)). since.kept ++ l) is;
      none_later = since.none_later;
    }
