-- Which sessions are sent nothing.
use Rattle.std.proofs.Common.{◌≡◌, ◌∙◌, ℕ, ◌==◌, ◌&&◌, List, [], ◌∷◌, ◌++◌, Bool, true, false, not, ap, append_assoc, refl, subst, sym}
use Rattle.std.proofs.Math.Bool.{or-true}
use Rattle.std.proofs.lemmas.Bool.{and_from, and_parts, eqb-true, or_parts}
use Rattle.std.proofs.lemmas.List.Elements.{All-head, All-tail}
use Rattle.std.specs.Prelude.{◌||◌, All, cond, map}
use Rattle.trick_base.proofs.ListLemmas.{same_rest}
use Rattle.trick_model_sessions.proofs.Numbers.{leave_numbers, not_again, numbers_push, rises_above, rises_front, rises_later, said_number, said_numbers, turns_rise}
use Rattle.trick_model_sessions.specs.Silence.{AbsentAreSilent, IsSilent, LeavingIsSilent, LeftAreGone, StrangersAreSilent, entries_of, is_of, is_there, newcomers, numbers_of}
use Rattle.trick_model.specs.Files.{messages_to, turns_said}
use Rattle.trick_model.specs.Plan.{Plan}
use Rattle.trick_model.specs.Run.{after_turns, opened}
use Rattle.trick_model.specs.Session.{Message, answered, is_empty, is_sampled, joined, passes_multiple, sample, samples, staying}
use Rattle.trick_model.specs.State.{State, World}
use Rattle.trick_model.specs.Turn.{Hearing, begun, changed, hear, heard, replies, reply, session_of, turn}
use Rattle.trick_model.specs.Valid.{rises}
use Rattle.trick_model.specs.declared.entry.Cause.{Cause}
use Rattle.trick_model.specs.declared.entry.Entry.{Entry}
use Rattle.trick_model.specs.declared.entry.Entry.TheVariants.{Join, Said, Leave, Publish}
use Rattle.trick_model.specs.declared.session.Session.{Session}

-- ---- what holds of each session of a number

-- a session has another number, or passes a test
abbrev passes : (Session → Bool) → ℕ → Session → Bool
passes test number session = not (session.number == number) || test session

-- so it is with all of them
abbrev all_pass : (Session → Bool) → ℕ → List Session → Bool
all_pass test number [] = true
all_pass test number (session ∷ sessions) = passes test number session && all_pass test number sessions

-- none of them is to be sent a sample at once
abbrev unasked : Session → Bool
unasked session = not session.send

-- and they are leaving
abbrev on_leave : Session → Bool
on_leave session = not session.send && session.leaving

other_passes : (test : Session → Bool) (number : ℕ) (session : Session) → (session.number == number) ≡ false → passes test number session ≡ true
other_passes test number session e = ap (λ (b : Bool). not b || test session) e

-- where there is none of that number, all pass
absent_pass : (test : Session → Bool) (number : ℕ) (sessions : List Session) → is_there number sessions ≡ false → all_pass test number sessions ≡ true
absent_pass test number [] e = refl
absent_pass test number (session ∷ sessions) e =
    let parts = or_parts (session.number == number) (is_there number sessions) e in
    and_from (passes test number session) (all_pass test number sessions) (other_passes test number session parts.0)
    (absent_pass test number sessions parts.1)

push_pass : (test : Session → Bool) (number : ℕ) (sessions : List Session) (session : Session) → all_pass test number sessions ≡ true
    → passes test number session ≡ true → all_pass test number (sessions ++ session ∷ []) ≡ true
push_pass test number [] session all one = and_from (passes test number session) true one refl
push_pass test number (first ∷ sessions) session all one =
    let parts = and_parts (passes test number first) (all_pass test number sessions) all in
    and_from (passes test number first) (all_pass test number (sessions ++ session ∷ [])) parts.0 (push_pass test number sessions session parts.1 one)

-- a change of one that passes then
change_pass : (test : Session → Bool) (number : ℕ) (change : Session → Session) (other : ℕ) (sessions : List Session)
    → ((session : Session) → (session.number == other) ≡ true → passes test number (change session) ≡ true)
    → all_pass test number sessions ≡ true → all_pass test number (changed change other sessions) ≡ true
change_pass test number change other [] one all = all
change_pass test number change other (session ∷ sessions) one all =
    let parts = and_parts (passes test number session) (all_pass test number sessions) all in
    by (session.number == other) refl parts.0 parts.1 (change_pass test number change other sessions one parts.1)
  where
    by : (b : Bool) → (session.number == other) ≡ b → passes test number session ≡ true → all_pass test number sessions ≡ true
        → all_pass test number (changed change other sessions) ≡ true
        → (let now : List Session = elim b [ true ↦ change session ∷ sessions | false ↦ session ∷ changed change other sessions ] in
        all_pass test number now ≡ true)
    by true e first rest later = and_from (passes test number (change session)) (all_pass test number sessions) (one session e) rest
    by false e first rest later = and_from (passes test number session) (all_pass test number (changed change other sessions)) first later

-- one number for another
same_number : (a b number : ℕ) → a ≡ b → (b == number) ≡ false → (a == number) ≡ false
same_number a b number e f = ap (λ (n : ℕ). n == number) e ∙ f

-- an entry of another session changes nothing of these
hear_pass : (test : Session → Bool) (number : ℕ) (p : Plan) (entry : Entry) (h : Hearing) → is_of number entry ≡ false
    → all_pass test number h.sessions ≡ true → all_pass test number (hear p entry h).sessions ≡ true
hear_pass test number p (Join session) h other all =
    push_pass test number h.sessions (joined session) all (other_passes test number (joined session) other)
hear_pass test number p (Said session line) h other all =
    let now = (answered p (p.command line) (session_of session h.sessions)).session in
    change_pass test number (λ (s : Session). now) session h.sessions
    (λ s e. other_passes test number now (same_number now.number session number (said_number p session line h.sessions) other)) all
hear_pass test number p (Leave session cause) h other all =
    change_pass test number (λ (s : Session). let t : Session = record s { leaving = true } in t) session h.sessions
    (λ s e. other_passes test number (record s { leaving = true }) (same_number s.number session number (eqb-true s.number session e) other)) all
hear_pass test number p (Publish thread) h other all = all

-- ---- messages

messages_append : (number : ℕ) (early late : List Message) → messages_to number (early ++ late) ≡ messages_to number early ++ messages_to number late
messages_append number [] late = refl
messages_append number (m ∷ early) late = by (m.0 == number) (messages_append number early late)
  where
    by : (b : Bool) → messages_to number (early ++ late) ≡ messages_to number early ++ messages_to number late
        → (let all : List (List ℕ) = elim b [ true ↦ m.1 ∷ messages_to number (early ++ late) | false ↦ messages_to number (early ++ late) ] in all)
        ≡ (let some : List (List ℕ) = elim b [ true ↦ m.1 ∷ messages_to number early | false ↦ messages_to number early ] in some) ++ messages_to number late
    by true e = ap (λ (bytes : List (List ℕ)). m.1 ∷ bytes) e
    by false e = e

none_of_both : (number : ℕ) (early late : List Message) → messages_to number early ≡ [] → messages_to number late ≡ []
    → messages_to number (early ++ late) ≡ []
none_of_both number early late one two =
    messages_append number early late ∙ ap (λ (bytes : List (List ℕ)). bytes ++ messages_to number late) one ∙ two

to_other : (number other : ℕ) (texts : List (List ℕ)) → (other == number) ≡ false
    → messages_to number (map (λ (bytes : List ℕ). let m : Message = (other, bytes) in m) texts) ≡ []
to_other number other [] e = refl
to_other number other (text ∷ texts) e =
    ap (λ (b : Bool). let all : List (List ℕ) = elim b [
      | true ↦ text ∷ messages_to number (map (λ (bytes : List ℕ). let m : Message = (other, bytes) in m) texts)
      | false ↦ messages_to number (map (λ (bytes : List ℕ). let m : Message = (other, bytes) in m) texts)
    ] in all) e
    ∙ to_other number other texts e

reply_silent : (number : ℕ) (p : Plan) (entry : Entry) (h : Hearing) → is_of number entry ≡ false → messages_to number (reply p entry h) ≡ []
reply_silent number p (Join session) h other = refl
reply_silent number p (Said session line) h other =
    to_other number session (answered p (p.command line) (session_of session h.sessions)).reply other
reply_silent number p (Leave session cause) h other = refl
reply_silent number p (Publish thread) h other = refl

-- what is on leave is sent no sample
no_sample : (from to : ℕ) (session : Session) → on_leave session ≡ true → is_sampled from to session ≡ false
no_sample from to session e =
    let parts = and_parts (not session.send) session.leaving e in
    ap (λ (b : Bool). (b || (not session.paused && (not session.leaving && passes_multiple session.cycle from to))) && not (is_empty session.variables))
    (not_sent session.send parts.0)
    ∙ ap (λ (b : Bool). (not session.paused && (not b && passes_multiple session.cycle from to)) && not (is_empty session.variables)) parts.1
    ∙ never (not session.paused) (not (is_empty session.variables))
  where
    not_sent : (b : Bool) → not b ≡ true → b ≡ false
    not_sent true e = cc e
    not_sent false e = refl

    never : (a c : Bool) → ((a && false) && c) ≡ false
    never true c = refl
    never false c = refl

samples_silent : (number from : ℕ) (s : State) (sessions : List Session) → all_pass on_leave number sessions ≡ true
    → messages_to number (samples from s sessions) ≡ []
samples_silent number from s [] all = refl
samples_silent number from s (session ∷ sessions) all =
    let parts = and_parts (passes on_leave number session) (all_pass on_leave number sessions) all in
    by (is_sampled from s.tic session) refl (samples_silent number from s sessions parts.1) parts.0
  where
    clash : (a : Bool) → a ≡ true → a ≡ false → ⊥
    clash true e f = cc f
    clash false e f = cc e

    -- a session of that number is sampled never
    other : (b : Bool) → (session.number == number) ≡ b → (not b || on_leave session) ≡ true → is_sampled from s.tic session ≡ true
        → (session.number == number) ≡ false
    other true is pass sampled = absurd (clash (is_sampled from s.tic session) sampled (no_sample from s.tic session pass))
    other false is pass sampled = is

    by : (b : Bool) → is_sampled from s.tic session ≡ b → messages_to number (samples from s sessions) ≡ [] → passes on_leave number session ≡ true
        → (let all : List Message = elim b [
          | true ↦ (session.number, sample s.memory session) ∷ samples from s sessions
          | false ↦ samples from s sessions
        ] in messages_to number all ≡ [])
    by true sampled more pass =
        ap (λ (c : Bool). let all : List (List ℕ) = elim c [
          | true ↦ sample s.memory session ∷ messages_to number (samples from s sessions)
          | false ↦ messages_to number (samples from s sessions)
        ] in all) (other (session.number == number) refl pass sampled)
        ∙ more
    by false sampled more pass = more

-- the session is leaving
abbrev goes : Session → Bool
goes session = session.leaving

on_leave_goes : (number : ℕ) (sessions : List Session) → all_pass on_leave number sessions ≡ true → all_pass goes number sessions ≡ true
on_leave_goes number [] all = refl
on_leave_goes number (session ∷ sessions) all =
    let parts = and_parts (passes on_leave number session) (all_pass on_leave number sessions) all in
    and_from (passes goes number session) (all_pass goes number sessions) (one (session.number == number) parts.0) (on_leave_goes number sessions parts.1)
  where
    one : (b : Bool) → (not b || on_leave session) ≡ true → (not b || goes session) ≡ true
    one true pass = (and_parts (not session.send) session.leaving pass).1
    one false pass = refl

-- who is leaving is not there after the turn
gone_then : (number : ℕ) (sessions : List Session) → all_pass goes number sessions ≡ true → is_there number (staying sessions) ≡ false
gone_then number [] all = refl
gone_then number (session ∷ sessions) all =
    let parts = and_parts (passes goes number session) (all_pass goes number sessions) all in
    by session.leaving refl (gone_then number sessions parts.1) parts.0
  where
    clash : (a : Bool) → a ≡ true → a ≡ false → ⊥
    clash true e f = cc f
    clash false e f = cc e

    other : (b : Bool) → (session.number == number) ≡ b → (not b || goes session) ≡ true → session.leaving ≡ false
        → (session.number == number) ≡ false
    other true is pass stays = absurd (clash session.leaving pass stays)
    other false is pass stays = is

    by : (b : Bool) → session.leaving ≡ b → is_there number (staying sessions) ≡ false → passes goes number session ≡ true
        → (let all : List Session = elim b [ true ↦ staying sessions | false ↦ (let s : Session = record session { send = false } in s) ∷ staying sessions ] in
        is_there number all ≡ false)
    by true leaves more pass = more
    by false stays more pass =
        ap (λ (c : Bool). c || is_there number (staying sessions)) (other (session.number == number) refl pass stays) ∙ more

-- ---- entries of others

first_not : (b : Bool) (entry : Entry) (some : List Entry) → cond b (entry ∷ some) some ≡ [] → (b ≡ false) × (some ≡ [])
first_not true entry some e = cc e
first_not false entry some e = (refl, e)

-- What is known of a session after entries: no reply, and it passes.
record AreLeft (test : Session → Bool) (number : ℕ) (p : Plan) (entries : List Entry) (h : Hearing) : Type 0 where
  unsent : messages_to number (replies p entries h) ≡ []
  all : all_pass test number (heard p entries h).sessions ≡ true

others_leave : (test : Session → Bool) (number : ℕ) (p : Plan) (entries : List Entry) (h : Hearing) → entries_of number entries ≡ []
    → all_pass test number h.sessions ≡ true → AreLeft test number p entries h
others_leave test number p [] h none all = record { unsent = refl; all = all }
others_leave test number p (entry ∷ entries) h none all =
    let parts = first_not (is_of number entry) entry (entries_of number entries) none in
    let more = others_leave test number p entries (hear p entry h) parts.1 (hear_pass test number p entry h parts.0 all) in
    record {
      unsent = none_of_both number (reply p entry h) (replies p entries (hear p entry h)) (reply_silent number p entry h parts.0) more.unsent;
      all = more.all;
    }

silent_turn : (number : ℕ) (p : Plan) (w : World) (entries : List Entry) → AreLeft on_leave number p entries (begun w) → IsSilent p w entries number
silent_turn number p w entries left =
    let t = turn p w entries in
    let sessions = (heard p entries (begun w)).sessions in
    record {
      unsent = none_of_both number (replies p entries (begun w)) (samples w.state.tic t.world.state sessions) left.unsent
          (samples_silent number w.state.tic t.world.state sessions left.all);
      gone = gone_then number sessions (on_leave_goes number sessions left.all);
    }

pub absent : AbsentAreSilent
absent p w entries number away none =
    silent_turn number p w entries (others_leave on_leave number p entries (begun w) none (absent_pass on_leave number w.sessions away))

strangers_from : (p : Plan) (w : World) (lists : List (List Entry)) (number : ℕ) → is_there number w.sessions ≡ false
    → All (λ (entries : List Entry). entries_of number entries ≡ []) lists → messages_to number (turns_said p w lists) ≡ []
strangers_from p w [] number away none = refl
strangers_from p w (entries ∷ lists) number away none =
    let here = absent p w entries number away (All-head (λ (es : List Entry). entries_of number es ≡ []) entries lists none) in
    none_of_both number (turn p w entries).said (turns_said p (turn p w entries).world lists) here.unsent
    (strangers_from p (turn p w entries).world lists number here.gone (All-tail (λ (es : List Entry). entries_of number es ≡ []) entries lists none))

pub strangers : StrangersAreSilent
strangers p s lists number none = strangers_from p (opened s) lists number refl none

-- ---- a leave

-- where only one session has the number, a leave marks it
leave_marks : (number : ℕ) (sessions : List Session) → all_pass unasked number sessions ≡ true → rises (numbers_of sessions) ≡ true
    → all_pass on_leave number (changed (λ (s : Session). let t : Session = record s { leaving = true } in t) number sessions) ≡ true
leave_marks number [] all rise = refl
leave_marks number (session ∷ sessions) all rise =
    let parts = and_parts (passes unasked number session) (all_pass unasked number sessions) all in
    by (session.number == number) refl parts.0
    (λ (other : (session.number == number) ≡ false). leave_marks number sessions parts.1 (rises_later session sessions rise))
  where
    marks : (b : Bool) → (not true || b) ≡ true → (not true || (b && true)) ≡ true
    marks true e = refl
    marks false e = e

    by : (b : Bool) → (session.number == number) ≡ b → (not b || unasked session) ≡ true
        → ((session.number == number) ≡ false → all_pass on_leave number (changed (λ (s : Session). let t : Session = record s { leaving = true } in t) number sessions) ≡ true)
        → (let now : List Session = elim b [
          | true ↦ (let t : Session = record session { leaving = true } in t) ∷ sessions
          | false ↦ session ∷ changed (λ (s : Session). let t : Session = record s { leaving = true } in t) number sessions
        ] in all_pass on_leave number now ≡ true)
    by true same pass rest =
        let marked : Session = record session { leaving = true } in
        and_from (passes on_leave number marked) (all_pass on_leave number sessions)
        (ap (λ (b : Bool). not b || on_leave marked) same ∙ marks (unasked session) pass)
        (absent_pass on_leave number sessions (not_again session.number number (numbers_of sessions) same rise))
    by false other pass rest =
        and_from (passes on_leave number session)
        (all_pass on_leave number (changed (λ (s : Session). let t : Session = record s { leaving = true } in t) number sessions))
        (other_passes on_leave number session other) (rest other)

leave_of : (e : Entry) (es : List Entry) (number : ℕ) (cause : Cause) → e ∷ es ≡ Leave number cause ∷ [] → (e ≡ Leave number cause) × (es ≡ [])
leave_of e es number cause is = (first e (Leave number cause) es [] is, others e (Leave number cause) es [] is)
  where
    first : (a b : Entry) (xs ys : List Entry) → a ∷ xs ≡ b ∷ ys → a ≡ b
    first a b xs ys is = cc is

    others : (a b : Entry) (xs ys : List Entry) → a ∷ xs ≡ b ∷ ys → xs ≡ ys
    others a b xs ys is = cc is

-- numbers and newcomers are one list before and after an entry
hear_rises : (p : Plan) (entry : Entry) (entries : List Entry) (h : Hearing) → rises (numbers_of h.sessions ++ newcomers (entry ∷ entries)) ≡ true
    → rises (numbers_of (hear p entry h).sessions ++ newcomers entries) ≡ true
hear_rises p (Join number) entries h rise =
    subst (λ (ns : List ℕ). rises ns ≡ true)
    (sym (append_assoc (numbers_of h.sessions) (number ∷ []) (newcomers entries))
    ∙ ap (λ (ns : List ℕ). ns ++ newcomers entries) (sym (numbers_push h.sessions (joined number)))) rise
hear_rises p (Said number line) entries h rise =
    subst (λ (ns : List ℕ). rises (ns ++ newcomers entries) ≡ true) (sym (said_numbers p number line h)) rise
hear_rises p (Leave number cause) entries h rise =
    subst (λ (ns : List ℕ). rises (ns ++ newcomers entries) ≡ true) (sym (leave_numbers p number cause h)) rise
hear_rises p (Publish thread) entries h rise = rise

left_alone : (p : Plan) (number : ℕ) (cause : Cause) (entries : List Entry) (h : Hearing) → entries_of number entries ≡ Leave number cause ∷ []
    → rises (numbers_of h.sessions ++ newcomers entries) ≡ true → all_pass unasked number h.sessions ≡ true → AreLeft on_leave number p entries h
left_alone p number cause [] h only rise all = cc only
left_alone p number cause (entry ∷ entries) h only rise all =
    by (is_of number entry) refl only
    (λ (other : is_of number entry ≡ false) (rest : entries_of number entries ≡ Leave number cause ∷ []).
    left_alone p number cause entries (hear p entry h) rest (hear_rises p entry entries h rise) (hear_pass unasked number p entry h other all))
  where
    at_leave : (e : Entry) → e ≡ Leave number cause → entries_of number entries ≡ [] → AreLeft on_leave number p (e ∷ entries) h
    at_leave e is none =
        subst (λ (x : Entry). AreLeft on_leave number p (x ∷ entries) h) (sym is)
        (let later = others_leave on_leave number p entries (hear p (Leave number cause) h) none
        (leave_marks number h.sessions all (rises_front (numbers_of h.sessions) (newcomers (entry ∷ entries)) rise)) in
        record { unsent = later.unsent; all = later.all })

    by : (b : Bool) → is_of number entry ≡ b → cond b (entry ∷ entries_of number entries) (entries_of number entries) ≡ Leave number cause ∷ []
        → (is_of number entry ≡ false → entries_of number entries ≡ Leave number cause ∷ [] → AreLeft on_leave number p entries (hear p entry h))
        → AreLeft on_leave number p (entry ∷ entries) h
    by true mine first later =
        let parts = leave_of entry (entries_of number entries) number cause first in at_leave entry parts.0 parts.1
    by false other rest later =
        let more = later other rest in
        record {
          unsent = none_of_both number (reply p entry h) (replies p entries (hear p entry h)) (reply_silent number p entry h other) more.unsent;
          all = more.all;
        }

-- between turns no session is to be sent a sample at once
stay_unasked : (number : ℕ) (sessions : List Session) → all_pass unasked number (staying sessions) ≡ true
stay_unasked number [] = refl
stay_unasked number (session ∷ sessions) = by session.leaving (stay_unasked number sessions)
  where
    either : (b : Bool) → (not b || true) ≡ true
    either true = refl
    either false = refl

    by : (b : Bool) → all_pass unasked number (staying sessions) ≡ true
        → (let all : List Session = elim b [ true ↦ staying sessions | false ↦ (let s : Session = record session { send = false } in s) ∷ staying sessions ] in
        all_pass unasked number all ≡ true)
    by true more = more
    by false more =
        and_from (passes unasked number (record session { send = false })) (all_pass unasked number (staying sessions))
        (either (session.number == number)) more

turns_unasked : (number : ℕ) (p : Plan) (w : World) (lists : List (List Entry)) → all_pass unasked number w.sessions ≡ true
    → all_pass unasked number (after_turns p w lists).sessions ≡ true
turns_unasked number p w [] all = all
turns_unasked number p w (entries ∷ lists) all =
    turns_unasked number p (turn p w entries).world lists (stay_unasked number (heard p entries (begun w)).sessions)

pub leaving : LeavingIsSilent
leaving p s early entries number cause rise only =
    let w = after_turns p (opened s) early in
    silent_turn number p w entries
    (left_alone p number cause entries (begun w) only
    (rises_above 0 (numbers_of w.sessions ++ newcomers entries) (turns_rise p (opened s) early entries rise))
    (turns_unasked number p (opened s) early refl))

-- ---- a leave after other entries

-- where only one session has the number, it is leaving after its leave
marked_goes : (number : ℕ) (sessions : List Session) → rises (numbers_of sessions) ≡ true
    → all_pass goes number (changed (λ (s : Session). let t : Session = record s { leaving = true } in t) number sessions) ≡ true
marked_goes number [] rise = refl
marked_goes number (session ∷ sessions) rise =
    by (session.number == number) refl (λ (other : (session.number == number) ≡ false). marked_goes number sessions (rises_later session sessions rise))
  where
    by : (b : Bool) → (session.number == number) ≡ b
        → ((session.number == number) ≡ false → all_pass goes number (changed (λ (s : Session). let t : Session = record s { leaving = true } in t) number sessions) ≡ true)
        → (let now : List Session = elim b [
          | true ↦ (let t : Session = record session { leaving = true } in t) ∷ sessions
          | false ↦ session ∷ changed (λ (s : Session). let t : Session = record s { leaving = true } in t) number sessions
        ] in all_pass goes number now ≡ true)
    by true same rest =
        let marked : Session = record session { leaving = true } in
        and_from (passes goes number marked) (all_pass goes number sessions) (or-true (not (session.number == number)))
        (absent_pass goes number sessions (not_again session.number number (numbers_of sessions) same rise))
    by false other rest =
        and_from (passes goes number session)
        (all_pass goes number (changed (λ (s : Session). let t : Session = record s { leaving = true } in t) number sessions))
        (other_passes goes number session other) (rest other)

none_last : (some : List Entry) (e : Entry) → [] ≡ some ++ e ∷ [] → ⊥
none_last [] e is = cc
none_last (first ∷ some) e is = cc

left_last : (p : Plan) (number : ℕ) (cause : Cause) (before entries : List Entry) (h : Hearing) → entries_of number entries ≡ before ++ Leave number cause ∷ []
    → rises (numbers_of h.sessions ++ newcomers entries) ≡ true → all_pass goes number (heard p entries h).sessions ≡ true
left_last p number cause before [] h are rise = absurd (none_last before (Leave number cause) are)
left_last p number cause before (entry ∷ entries) h are rise =
    by (is_of number entry) before are
    (λ (some : List Entry) (rest : entries_of number entries ≡ some ++ Leave number cause ∷ []).
    left_last p number cause some entries (hear p entry h) rest (hear_rises p entry entries h rise))
  where
    at_leave : (e : Entry) → e ≡ Leave number cause → entries_of number entries ≡ [] → all_pass goes number (heard p entries (hear p e h)).sessions ≡ true
    at_leave e is none =
        subst (λ (x : Entry). all_pass goes number (heard p entries (hear p x h)).sessions ≡ true) (sym is)
        (others_leave goes number p entries (hear p (Leave number cause) h) none
        (marked_goes number h.sessions (rises_front (numbers_of h.sessions) (newcomers (entry ∷ entries)) rise))).all

    by : (b : Bool) (some : List Entry) → cond b (entry ∷ entries_of number entries) (entries_of number entries) ≡ some ++ Leave number cause ∷ []
        → ((more : List Entry) → entries_of number entries ≡ more ++ Leave number cause ∷ [] → all_pass goes number (heard p entries (hear p entry h)).sessions ≡ true)
        → all_pass goes number (heard p entries (hear p entry h)).sessions ≡ true
    by true [] mine later =
        let parts = leave_of entry (entries_of number entries) number cause mine in at_leave entry parts.0 parts.1
    by true (first ∷ some) mine later =
        later some (same_rest entry first (entries_of number entries) (some ++ Leave number cause ∷ []) mine)
    by false some rest later = later some rest

pub left_gone : LeftAreGone
left_gone p s early entries before number cause rise are =
    let w = after_turns p (opened s) early in
    gone_then number (heard p entries (begun w)).sessions
    (left_last p number cause before entries (begun w) are
    (rises_above 0 (numbers_of w.sessions ++ newcomers entries) (turns_rise p (opened s) early entries rise)))
