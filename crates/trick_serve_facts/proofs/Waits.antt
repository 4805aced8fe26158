-- How a run ends that waits in Freeze.
use Rattle.std.proofs.Common.{◌≡◌, ◌∙◌, inl, inr, ⊎_elim, ℕ, ◌+◌, ◌-◌, Bool, true, false, cond, eqb, not, List, [], ◌∷◌, ◌++◌, Option, Some, None, ap, arith, refl, subst, sym}
use Rattle.std.proofs.Math.Bool.{or-false, or-true}
use Rattle.std.proofs.lemmas.Bool.{eqb-true, false≢true}
use Rattle.std.proofs.lemmas.Bool.Decides.{eqb_tells}
use Rattle.std.proofs.lemmas.List.Elements.{All-head, All-tail}
use Rattle.std.proofs.lemmas.List.Folds.{list_any-append}
use Rattle.std.specs.List.{All, filter, list_any}
use Rattle.std.specs.Prelude.{◌||◌, IsTrue}
use Rattle.trick_model.specs.Plan.{Plan}
use Rattle.trick_model.specs.Run.{after_turns, opened}
use Rattle.trick_model.specs.Session.{Message}
use Rattle.trick_model.specs.State.{State, World}
use Rattle.trick_model.specs.Turn.{turn}
use Rattle.trick_model.specs.declared.entry.Cause.{Cause}
use Rattle.trick_model.specs.declared.entry.Cause.TheVariants as cause
use Rattle.trick_model.specs.declared.entry.Entry.{Entry}
use Rattle.trick_model.specs.declared.entry.Entry.TheVariants.{Join, Said, Leave, Publish}
use Rattle.trick_model.specs.declared.session.Session.{Session}
use Rattle.trick_exec_meaning.specs.Answers.{list_answer, no_more}
use Rattle.trick_exec_meaning.specs.Ran.{last_answer}
use Rattle.trick_serve_source.specs.Calls.{Answers, Breaks, Call, DoAll, Does, Hands, IsAnswered, Looks, View, Went, answers_of}
use Rattle.trick_serve_hearing.specs.Ended.{has_end, is_end}
use Rattle.trick_serve_hearing.specs.Life.{Can, Happening, Happens, Hears, IsSeated, IsSlow, IsTold, Lives, Misses, after, entries_of, entries_of_all, leave_after, leave_by, leave_of, leaves, own, said_of}
use Rattle.trick_serve_hearing.specs.Messages.{IsHanded}
use Rattle.trick_serve_hearing.specs.Sides.{Queues, Side, nobody, side}
use Rattle.trick_serve_hearing.specs.declared.seat.Seat.{Seat}
use Rattle.trick_serve_facts.proofs.Clients.{heard_to_end, lives_at_end}
use Rattle.trick_serve_facts.proofs.Keeping.{whole_before, whole_calls}
use Rattle.trick_serve_facts.specs.Clients.{EndSays, LinkTale}
use Rattle.trick_serve_facts.specs.Life.{HasLived, life}
use Rattle.trick_serve_facts.specs.Serves.{IsServedRun, Serves, all_entries, no_turn, one_more}
use Rattle.trick_serve_facts.specs.Waits.{ClientsAreHeardOut, IsHeardOut, WaitingIsOver, waits}
use Rattle.trick_exec_sources.specs.Turns.{Answer, Sessions, after_entries, after_entry, in_next, is_among}
use Rattle.trick_wire.specs.declared.heard.Heard.{Heard}
use Rattle.trick_wire.specs.declared.heard.Heard.TheVariants as heard

-- ---- who is live after entries

-- whether a session is live after its entries, where it was or was not before
abbrev stays_in : List Entry → Bool → Bool
stays_in [] here = here
stays_in (Join session ∷ entries) here = stays_in entries true
stays_in (Said session line ∷ entries) here = stays_in entries here
stays_in (Leave session why ∷ entries) here = stays_in entries false
stays_in (Publish thread ∷ entries) here = stays_in entries here

stays_join : (early late : List Entry) (here : Bool) → stays_in (early ++ late) here ≡ stays_in late (stays_in early here)
stays_join [] late here = refl
stays_join (Join session ∷ early) late here = stays_join early late true
stays_join (Said session line ∷ early) late here = stays_join early late here
stays_join (Leave session why ∷ early) late here = stays_join early late false
stays_join (Publish thread ∷ early) late here = stays_join early late here

-- one more that is live
pub among_push : (n : ℕ) (live : List ℕ) (m : ℕ) → is_among n (live ++ m ∷ []) ≡ (is_among n live || eqb m n)
among_push n live m = list_any-append (λ s. eqb s n) live (m ∷ []) ∙ ap (λ (b : Bool). is_among n live || b) (or-false (eqb m n))

-- one that is live no more
among_gone : (n : ℕ) (live : List ℕ) → is_among n (filter (λ other. not (eqb other n)) live) ≡ false
among_gone n [] = refl
among_gone n (first ∷ live) = by (eqb first n) refl (among_gone n live)
  where
    by : (b : Bool) → eqb first n ≡ b → is_among n (filter (λ other. not (eqb other n)) live) ≡ false
        → is_among n (cond (not b) (first ∷ filter (λ other. not (eqb other n)) live) (filter (λ other. not (eqb other n)) live)) ≡ false
    by true is more = more
    by false is more = (λ i. is i || more i)

-- another one that is live no more
pub among_other : (n m : ℕ) (live : List ℕ) → eqb m n ≡ false → is_among n (filter (λ other. not (eqb other m)) live) ≡ is_among n live
among_other n m [] apart = refl
among_other n m (first ∷ live) apart = by (eqb first m) refl (among_other n m live apart)
  where
    not_it : eqb first m ≡ true → eqb first n ≡ false
    not_it is = ap (λ (x : ℕ). eqb x n) (eqb-true first m is) ∙ apart

    by : (b : Bool) → eqb first m ≡ b → is_among n (filter (λ other. not (eqb other m)) live) ≡ is_among n live
        → is_among n (cond (not b) (first ∷ filter (λ other. not (eqb other m)) live) (filter (λ other. not (eqb other m)) live))
        ≡ is_among n (first ∷ live)
    by true is more = more ∙ ap (λ (b : Bool). b || is_among n live) (sym (not_it is))
    by false is more = ap (λ (b : Bool). eqb first n || b) more

same_if : (b : Bool) (entry : Entry) (entries : List Entry) (here : Bool) → stays_in (entry ∷ entries) here ≡ stays_in entries here
    → stays_in (cond b (entry ∷ entries) entries) here ≡ stays_in entries here
same_if true entry entries here is = is
same_if false entry entries here is = refl

joined_after : (n : ℕ) (session : ℕ) (list : List Entry) (s : Sessions) (b : Bool) → eqb session n ≡ b
    → is_among n (after_entries list (after_entry (Join session) s)).live ≡ stays_in (own n list) (is_among n (after_entry (Join session) s).live)
    → is_among n (after_entries list (after_entry (Join session) s)).live ≡ stays_in (cond b (Join session ∷ own n list) (own n list)) (is_among n s.live)
joined_after n session list s true is more =
    more ∙ ap (λ (b : Bool). stays_in (own n list) b) (among_push n s.live session ∙ ap (λ (b : Bool). is_among n s.live || b) is ∙ or-true (is_among n s.live))
joined_after n session list s false is more =
    more ∙ ap (λ (b : Bool). stays_in (own n list) b) (among_push n s.live session ∙ ap (λ (b : Bool). is_among n s.live || b) is ∙ or-false (is_among n s.live))

left_after : (n : ℕ) (session : ℕ) (why : Cause) (list : List Entry) (s : Sessions) (b : Bool) → eqb session n ≡ b
    → is_among n (after_entries list (after_entry (Leave session why) s)).live ≡ stays_in (own n list) (is_among n (after_entry (Leave session why) s).live)
    → is_among n (after_entries list (after_entry (Leave session why) s)).live ≡ stays_in (cond b (Leave session why ∷ own n list) (own n list)) (is_among n s.live)
left_after n session why list s true is more =
    more ∙ ap (λ (b : Bool). stays_in (own n list) b)
    (ap (λ (x : ℕ). is_among n (filter (λ other. not (eqb other x)) s.live)) (eqb-true session n is) ∙ among_gone n s.live)
left_after n session why list s false is more = more ∙ ap (λ (b : Bool). stays_in (own n list) b) (among_other n session s.live is)

-- who is live after entries, by the entries of its own
among_after : (n : ℕ) (list : List Entry) (s : Sessions) → is_among n (after_entries list s).live ≡ stays_in (own n list) (is_among n s.live)
among_after n [] s = refl
among_after n (Join session ∷ list) s =
    joined_after n session list s (eqb session n) refl (among_after n list (after_entry (Join session) s))
among_after n (Said session line ∷ list) s =
    among_after n list s ∙ sym (same_if (eqb session n) (Said session line) (own n list) (is_among n s.live) refl)
among_after n (Leave session why ∷ list) s =
    left_after n session why list s (eqb session n) refl (among_after n list (after_entry (Leave session why) s))
among_after n (Publish thread ∷ list) s = among_after n list s

-- ---- who is seated and has not left

-- It was seated, and has not left.
pub record Stays (s : Side) : Type 0 where
  pub queues : Queues
  pub seated : s.queues ≡ Some queues
  pub left : s.left ≡ false

true_not : (b : Bool) → b ≡ true → b ≡ false → ⊥
true_not b is other = false≢true (sym other ∙ is)

-- an entry of what was heard, or of why a writer stopped, leaves who stays as it was
said_stays : (n : ℕ) (item : Heard) (here : Bool) → stays_in (said_of n item) here ≡ here
said_stays n (heard.Line line) here = refl
said_stays n heard.End here = refl
said_stays n heard.LongLine here = refl
said_stays n heard.LinkFault here = refl
said_stays n heard.OutOfMemory here = refl

leave_stays : (n : ℕ) (leave : Option Cause) (here : Bool) → leaves leave ≡ false → stays_in (leave_of n leave) here ≡ here
leave_stays n None here stays = refl
leave_stays n (Some why) here stays = absurd (false≢true (sym stays))

-- after what happened to it a session that stays is live, where it was live before if it was there
one_stays : (n : ℕ) (h : Happening) (a : Side) (here : Bool) → Can h a → (Stays a → here ≡ true) → Stays (after h a)
    → stays_in (entries_of n h) here ≡ true
one_stays n (IsSeated s refused) a here can live stays = by refused (sym (ap (λ (t : Side). t.left) can.seated) ∙ stays.left)
  where
    by : (b : Bool) → b ≡ false → stays_in (Join n ∷ cond b (Leave n cause.NoThread ∷ []) []) here ≡ true
    by true is = absurd (false≢true (sym is))
    by false is = refl
one_stays n (Hears item) a here can live stays =
    let before = live (record { queues = can.0.queues; seated = can.0.seated; left = can.0.stays }) in
    stays_join (said_of n item) (leave_of n (leave_by item)) here
    ∙ leave_stays n (leave_by item) (stays_in (said_of n item) here) stays.left ∙ said_stays n item here ∙ before
one_stays n (Misses item) a here can live stays = absurd (false≢true (sym stays.left))
one_stays n (IsTold why) a here can live stays =
    let before = live (record { queues = can.queues; seated = can.seated; left = can.stays }) in
    leave_stays n (leave_after why) here stays.left ∙ before
one_stays n IsSlow a here can live stays = absurd (false≢true (sym stays.left))

all_stay : (n : ℕ) (hs : List Happening) (a b : Side) (here : Bool) → Happens hs a b → (Stays a → here ≡ true) → Stays b
    → stays_in (entries_of_all n hs) here ≡ true
all_stay n [] a b here did live stays = live (subst (λ (s : Side). Stays s) did stays)
all_stay n (h ∷ hs) a b here did live stays =
    stays_join (entries_of n h) (entries_of_all n hs) here
    ∙ all_stay n hs (after h a) b (stays_in (entries_of n h) here) did.1 (λ so. one_stays n h a here did.0 live so) stays

-- ---- where nothing is given

not_empty : (entry : Entry) (entries : List Entry) → [] ≡ entry ∷ entries → ⊥
not_empty entry entries is = cc

rest_empty : (early late : List Entry) → [] ≡ early ++ late → [] ≡ late
rest_empty [] late is = is
rest_empty (entry ∷ early) late is = absurd (not_empty entry (early ++ late) is)

end_stays : (items : List Heard) (item : Heard) → IsTrue (has_end items) → IsTrue (has_end (items ++ item ∷ []))
end_stays items item is = list_any-append is_end items (item ∷ []) ∙ ap (λ (b : Bool). b || list_any is_end (item ∷ [])) is

-- Where a session stands that is there later, before something happened that gave no entry.
record WasBefore (a b : Side) : Type 0 where
  stays : Stays a
  ends : IsTrue (has_end a.heard) → IsTrue (has_end b.heard)

quiet_before : (n : ℕ) (hs : List Happening) (a b : Side) → Happens hs a b → [] ≡ entries_of_all n hs → Stays b → WasBefore a b
quiet_before n [] a b did none stays =
    subst (λ (s : Side). WasBefore a s) (sym did)
    (record { stays = subst (λ (s : Side). Stays s) did stays; ends = λ end. end })
quiet_before n (IsSeated s refused ∷ hs) a b did none stays = absurd (not_empty _ _ none)
quiet_before n (Hears item ∷ hs) a b did none stays =
    let rest = quiet_before n hs (after (Hears item) a) b did.1 (rest_empty (entries_of n (Hears item)) (entries_of_all n hs) none) stays in
    record {
      stays = record { queues = did.0.0.queues; seated = did.0.0.seated; left = did.0.0.stays };
      ends = λ end. rest.ends (end_stays a.heard item end);
    }
quiet_before n (Misses item ∷ hs) a b did none stays =
    let rest = quiet_before n hs (after (Misses item) a) b did.1 (rest_empty (entries_of n (Misses item)) (entries_of_all n hs) none) stays in
    record {
      stays = record { queues = did.0.queues; seated = did.0.seated; left = did.0.stays };
      ends = λ end. rest.ends (end_stays a.heard item end);
    }
quiet_before n (IsTold why ∷ hs) a b did none stays =
    let rest = quiet_before n hs (after (IsTold why) a) b did.1 (rest_empty (entries_of n (IsTold why)) (entries_of_all n hs) none) stays in
    record { stays = record { queues = did.0.queues; seated = did.0.seated; left = did.0.stays }; ends = λ end. rest.ends end }
quiet_before n (IsSlow ∷ hs) a b did none stays =
    let rest = quiet_before n hs (after IsSlow a) b did.1 (rest_empty (entries_of n IsSlow) (entries_of_all n hs) none) stays in
    record { stays = record { queues = did.0.0.queues; seated = did.0.0.seated; left = did.0.0.stays }; ends = λ end. rest.ends end }

lived_before : (n : ℕ) (there : List Session) (a b : Side) → Lives n there a b [] → Stays b → WasBefore a b
lived_before n there a b (inl up) stays = absurd (not_empty _ _ up.entries)
lived_before n there a b (inr goes) stays = quiet_before n goes.happened a b goes.happens goes.entries stays

-- a message changes neither
handed_before : (bytes : List ℕ) (a b : Side) → IsHanded bytes a b → Stays b → WasBefore a b
handed_before bytes a b (inl put) stays = record {
  stays = record {
    queues = stays.queues;
    seated = ap (λ (s : Side). s.queues) (sym put.is) ∙ stays.seated;
    left = ap (λ (s : Side). s.left) (sym put.is) ∙ stays.left;
  };
  ends = λ end. subst (λ (s : Side). IsTrue (has_end s.heard)) (sym put.is) end;
}
handed_before bytes a b (inr (inl out)) stays = record {
  stays = record {
    queues = stays.queues;
    seated = ap (λ (s : Side). s.queues) (sym out.is) ∙ stays.seated;
    left = ap (λ (s : Side). s.left) (sym out.is) ∙ stays.left;
  };
  ends = λ end. subst (λ (s : Side). IsTrue (has_end s.heard)) (sym out.is) end;
}
handed_before bytes a b (inr (inr past)) stays = record {
  stays = subst (λ (s : Side). Stays s) past.is stays;
  ends = λ end. subst (λ (s : Side). IsTrue (has_end s.heard)) (sym past.is) end;
}

message_before : (k : ℕ) (message : Message) (old new : View) → Does (Hands message) old new → Stays (side new.seats k)
    → WasBefore (side old.seats k) (side new.seats k)
message_before k message old new did stays = ⊎_elim
    (λ mine. handed_before message.1 (side old.seats k) (side new.seats k) (did.own k mine.1) stays)
    (λ other.
    let same = did.others k other.1 in
    record {
      stays = subst (λ (s : Side). Stays s) same stays;
      ends = λ end. subst (λ (s : Side). IsTrue (has_end s.heard)) (sym same) end;
    })
    (eqb_tells message.0 (k + 1))

-- ---- who stays is live

-- The session of a place that was seated and has not left is live.
abbrev pub Live : ℕ → View → Type 0
Live k v = Stays (side v.seats k) → IsTrue (is_among (k + 1) v.sessions.live)

live_same : (k : ℕ) (old new : View) → (Stays (side new.seats k) → WasBefore (side old.seats k) (side new.seats k)) → new.sessions ≡ old.sessions
    → Live k old → Live k new
live_same k old new before same live stays =
    ap (λ (s : Sessions). is_among (k + 1) s.live) same ∙ live (before stays).stays

pub live_given : (k : ℕ) (there : List Session) (list : List Entry) (old new : View) → Lives (k + 1) there (side old.seats k) (side new.seats k) (own (k + 1) list)
    → new.sessions ≡ after_entries list (in_next old.sessions) → Live k old → Live k new
live_given k there list old new (inl up) now live stays =
    absurd (true_not (side new.seats k).left (ap (λ (s : Side). s.left) up.is) stays.left)
live_given k there list old new (inr goes) now live stays =
    ap (λ (s : Sessions). is_among (k + 1) s.live) now
    ∙ among_after (k + 1) list (in_next old.sessions)
    ∙ ap (λ (l : List Entry). stays_in l (is_among (k + 1) old.sessions.live)) goes.entries
    ∙ all_stay (k + 1) goes.happened (side old.seats k) (side new.seats k) (is_among (k + 1) old.sessions.live) goes.happens live stays

live_answered : (k : ℕ) (list : Option (List Entry)) (answer : Answer) (old new : View) → IsAnswered list answer old new → Live k old → Live k new
live_answered k None answer old new did live =
    live_same k old new (lived_before (k + 1) answer.sessions (side old.seats k) (side new.seats k) (did.quiet.lives.each k)) did.quiet.sessions live
live_answered k (Some list) answer old new did live =
    live_given k answer.sessions list old new (did.0.lives.each k) did.0.rules.now live

live_call : (k : ℕ) (call : Call) (old new : View) → Does call old new → new.broke ≡ false → Live k old → Live k new
live_call k (Looks there) old new did whole live =
    live_same k old new (lived_before (k + 1) there (side old.seats k) (side new.seats k) (did.lives.each k)) did.sessions live
live_call k (Answers answer) old new did whole live = live_answered k answer.list answer old new did live
live_call k (Breaks there) old new did whole live = absurd (true_not new.broke did.broke whole)
live_call k (Hands message) old new did whole live =
    live_same k old new (message_before k message old new did) did.sessions live

pub live_calls : (k : ℕ) (calls : List Call) (old new : View) → DoAll calls old new → new.broke ≡ false → Live k old → Live k new
live_calls k [] old new did whole live = subst (λ (v : View). Live k v) (sym did) live
live_calls k (call ∷ calls) old new did whole live =
    let so = whole_calls calls did.0 new did.2 whole in
    live_calls k calls did.0 new did.2 whole (live_call k call old did.0 did.1 so.1 live)

live_went : (k : ℕ) (old new : View) (answers : List Answer) (said : List Message) → Went old new answers said → new.broke ≡ false → Live k old → Live k new
live_went k old new answers said went whole live = live_calls k went.calls old new went.did whole live

pub live_serves : (k : ℕ) (p : Plan) (w : World) (lists : List (List Entry)) (old new : View) → Serves p w lists old new → new.broke ≡ false
    → Live k old → Live k new
live_serves k p w all old new (no_turn v) whole live = live
live_serves k p w all old new (one_more lists entries one before gave now early gives said) whole live =
    let gave_whole = whole_before gave now [] _ said whole in
    let before_whole = whole_before before gave _ [] gives gave_whole in
    live_went k gave now [] (turn p (after_turns p w lists) entries).said said whole
    (live_went k before gave (list_answer false (after_turns p w lists) entries) [] gives gave_whole
    (live_serves k p w lists one before early before_whole live))

-- ---- the last answer

-- each of these numbers is so
pub one_of_all : (P : ℕ → Type 0) (n : ℕ) (numbers : List ℕ) → All P numbers → IsTrue (is_among n numbers) → P n
one_of_all P n [] all among = absurd (false≢true among)
one_of_all P n (m ∷ numbers) all among = ⊎_elim
    (λ yes. subst (λ (x : ℕ). P x) yes.1 (All-head P m numbers all))
    (λ no. one_of_all P n numbers (All-tail P m numbers all) (sym (ap (λ (b : Bool). b || is_among n numbers) no.0) ∙ among))
    (eqb_tells m n)

no_answer : (answer : Answer) (answers : List Answer) → answer ∷ answers ≡ [] → ⊥
no_answer answer answers is = cc

-- after the last answer the end that was heard stays heard
calls_before : (k : ℕ) (calls : List Call) (old new : View) → DoAll calls old new → answers_of calls ≡ [] → new.broke ≡ false → Stays (side new.seats k)
    → WasBefore (side old.seats k) (side new.seats k)
calls_before k [] old new did none whole stays =
    subst (λ (v : View). WasBefore (side old.seats k) (side v.seats k)) (sym did)
    (record { stays = subst (λ (v : View). Stays (side v.seats k)) did stays; ends = λ end. end })
calls_before k (Looks there ∷ calls) old new did none whole stays =
    let rest = calls_before k calls did.0 new did.2 none whole stays in
    let one = lived_before (k + 1) there (side old.seats k) (side did.0.seats k) (did.1.lives.each k) rest.stays in
    record { stays = one.stays; ends = λ end. rest.ends (one.ends end) }
calls_before k (Answers answer ∷ calls) old new did none whole stays = absurd (no_answer answer (answers_of calls) none)
calls_before k (Breaks there ∷ calls) old new did none whole stays =
    absurd (true_not did.0.broke did.1.broke (whole_calls calls did.0 new did.2 whole).1)
calls_before k (Hands message ∷ calls) old new did none whole stays =
    let rest = calls_before k calls did.0 new did.2 none whole stays in
    let one = message_before k message old did.0 did.1 rest.stays in
    record { stays = one.stays; ends = λ end. rest.ends (one.ends end) }

first_same : (a b : Answer) (early late : List Answer) → a ∷ early ≡ b ∷ late → a ≡ b
first_same a b early late is = cc

rest_same : (a b : Answer) (early late : List Answer) → a ∷ early ≡ b ∷ late → early ≡ late
rest_same a b early late is = cc

pub last_before : (n : ℕ) → (n + 1) - 1 ≡ n
last_before n = omega arith

-- where it was answered that no line comes any more, who stays to the end had told the end of its bytes
over_heard : (k : ℕ) (list : Option (List Entry)) (answer : Answer) (old mid new : View) (calls : List Call) → IsAnswered list answer old mid → list ≡ None
    → Live k mid → DoAll calls mid new → answers_of calls ≡ [] → new.broke ≡ false → Stays (side new.seats k)
    → IsTrue (has_end (side new.seats k).heard)
over_heard k (Some list) answer old mid new calls is none live did quiet whole stays = absurd (not_none list none)
  where
    not_none : (l : List Entry) → Some l ≡ None → ⊥
    not_none l e = cc
over_heard k None answer old mid new calls is none live did quiet whole stays =
    let was = calls_before k calls mid new did quiet whole stays in
    was.ends (subst (λ (x : ℕ). IsTrue (has_end (side mid.seats x).heard)) (last_before k)
    (one_of_all (λ n. IsTrue (has_end (side mid.seats (n - 1)).heard)) (k + 1) mid.sessions.live is.ended (live was.stays)))

calls_heard : (k : ℕ) (calls : List Call) (answer : Answer) (old new : View) → DoAll calls old new → answers_of calls ≡ answer ∷ [] → answer.list ≡ None
    → new.broke ≡ false → Live k old → Stays (side new.seats k) → IsTrue (has_end (side new.seats k).heard)
calls_heard k [] answer old new did are none whole live stays = absurd (no_answer answer [] (sym are))
calls_heard k (Looks there ∷ calls) answer old new did are none whole live stays =
    let so = whole_calls calls did.0 new did.2 whole in
    calls_heard k calls answer did.0 new did.2 are none whole (live_call k (Looks there) old did.0 did.1 so.1 live) stays
calls_heard k (Answers other ∷ calls) answer old new did are none whole live stays =
    let so = whole_calls calls did.0 new did.2 whole in
    over_heard k other.list other old did.0 new calls did.1
    (ap (λ (a : Answer). a.list) (first_same other answer (answers_of calls) [] are) ∙ none)
    (live_call k (Answers other) old did.0 did.1 so.1 live) did.2 (rest_same other answer (answers_of calls) [] are) whole stays
calls_heard k (Breaks there ∷ calls) answer old new did are none whole live stays =
    absurd (true_not did.0.broke did.1.broke (whole_calls calls did.0 new did.2 whole).1)
calls_heard k (Hands message ∷ calls) answer old new did are none whole live stays =
    let so = whole_calls calls did.0 new did.2 whole in
    calls_heard k calls answer did.0 new did.2 are none whole (live_call k (Hands message) old did.0 did.1 so.1 live) stays

-- and no client came later
calls_stay_over : (calls : List Call) (old new : View) → DoAll calls old new → answers_of calls ≡ [] → new.broke ≡ false → old.over ≡ true → new.over ≡ true
calls_stay_over [] old new did none whole over = ap (λ (v : View). v.over) did ∙ over
calls_stay_over (Looks there ∷ calls) old new did none whole over =
    calls_stay_over calls did.0 new did.2 none whole (did.1.over over)
calls_stay_over (Answers answer ∷ calls) old new did none whole over = absurd (no_answer answer (answers_of calls) none)
calls_stay_over (Breaks there ∷ calls) old new did none whole over =
    absurd (true_not did.0.broke did.1.broke (whole_calls calls did.0 new did.2 whole).1)
calls_stay_over (Hands message ∷ calls) old new did none whole over =
    calls_stay_over calls did.0 new did.2 none whole (did.1.over ∙ over)

over_by : (list : Option (List Entry)) (answer : Answer) (old mid : View) → IsAnswered list answer old mid → list ≡ None → mid.over ≡ true
over_by (Some list) answer old mid is none = absurd (not_none list none)
  where
    not_none : (l : List Entry) → Some l ≡ None → ⊥
    not_none l e = cc
over_by None answer old mid is none = is.over

calls_over : (calls : List Call) (answer : Answer) (old new : View) → DoAll calls old new → answers_of calls ≡ answer ∷ [] → answer.list ≡ None
    → new.broke ≡ false → new.over ≡ true
calls_over [] answer old new did are none whole = absurd (no_answer answer [] (sym are))
calls_over (Looks there ∷ calls) answer old new did are none whole = calls_over calls answer did.0 new did.2 are none whole
calls_over (Answers other ∷ calls) answer old new did are none whole =
    calls_stay_over calls did.0 new did.2 (rest_same other answer (answers_of calls) [] are) whole
    (over_by other.list other old did.0 did.1 (ap (λ (a : Answer). a.list) (first_same other answer (answers_of calls) [] are) ∙ none))
calls_over (Breaks there ∷ calls) answer old new did are none whole =
    absurd (true_not did.0.broke did.1.broke (whole_calls calls did.0 new did.2 whole).1)
calls_over (Hands message ∷ calls) answer old new did are none whole = calls_over calls answer did.0 new did.2 are none whole

-- ---- the laws

one_answer : (w : World) → waits w ≡ true → last_answer w ≡ no_more w
one_answer w is = ap (λ (b : Bool). let answer : List Answer = elim b [ true ↦ no_more w | false ↦ [] ] in answer) is

none_seated : (q : Queues) → None ≡ Some q → ⊥
none_seated q is = cc

pub nobody_stays : Stays nobody → ⊥
nobody_stays stays = none_seated stays.queues stays.seated

stays_heard : (p : Plan) (s : State) (lists : List (List Entry)) (old new : View) (k : ℕ) (run : IsServedRun p s lists old new)
    → run.last ≡ last_answer (after_turns p (opened s) lists) → waits (after_turns p (opened s) lists) ≡ true → Stays (side new.seats k)
    → IsTrue (has_end (side new.seats k).heard)
stays_heard p s lists old new k run last waiting stays =
    let w = after_turns p (opened s) lists in
    let mid_whole = whole_before run.mid new run.last [] run.ends run.whole in
    calls_heard k run.ends.calls (record { turn = w.state.turn; mode = w.state.mode; sessions = w.sessions; list = None }) run.mid new run.ends.did
    (run.ends.answers_are ∙ last ∙ one_answer w waiting) refl run.whole
    (live_serves k p (opened s) lists old run.mid run.turns mid_whole
    (subst (λ (l : List Seat). Stays (side l k) → IsTrue (is_among (k + 1) old.sessions.live)) (sym run.none) (λ so. absurd (nobody_stays so))))
    stays

heard_out : (lists : List (List Entry)) (n : ℕ) (here : Side) (tale : LinkTale) (was : HasLived n here (own n (all_entries lists))) → EndSays tale here
    → (here.left ≡ false → IsTrue (has_end here.heard)) → (leave : Option Cause) → was.leave ≡ leave → IsHeardOut lists n tale
heard_out lists n here tale was says ends (Some why) is =
    inl (was.lines, why, was.entries_are ∙ ap (λ (o : Option Cause). life n was.lines o) is)
heard_out lists n here tale was says ends None is = inr (λ bytes told.
    was.entries_are ∙ (λ i. life n (sym (heard_to_end n here (own n (all_entries lists)) tale was says (ends (was.left ∙ ap leaves is)) is bytes told) i) (is i)))

pub clients_heard_out : ClientsAreHeardOut
clients_heard_out p s lists old new k queues tale run last waiting seated says = ⊎_elim
    (λ none. absurd (none_seated queues (sym (ap (λ (t : Side). t.queues) none.0) ∙ seated)))
    (λ lived. heard_out lists (k + 1) (side new.seats k) tale lived says
    (λ stays. stays_heard p s lists old new k run last waiting (record { queues = queues; seated = seated; left = stays })) lived.leave refl)
    (lives_at_end p s lists old new k run)

pub waiting_over : WaitingIsOver
waiting_over p s lists old new run last waiting =
    let w = after_turns p (opened s) lists in
    calls_over run.ends.calls (record { turn = w.state.turn; mode = w.state.mode; sessions = w.sessions; list = None }) run.mid new run.ends.did
    (run.ends.answers_are ∙ last ∙ one_answer w waiting) refl run.whole
