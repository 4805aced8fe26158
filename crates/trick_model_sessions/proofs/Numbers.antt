-- The numbers of sessions, and who stays.
use Rattle.std.proofs.Common.{◌≡◌, ◌∙◌, ℕ, nat_lt, ◌==◌, List, [], ◌∷◌, ◌++◌, length, Bool, true, false, Option, Some, None, ap, append-nil, append_assoc, arith, refl, subst, sym}
use Rattle.std.proofs.lemmas.Bool.{and_from, and_parts, eqb-true}
use Rattle.std.proofs.lemmas.Bool.Decides.{nat_tests}
use Rattle.std.specs.List.{list_any}
use Rattle.std.specs.Prelude.{◌||◌}
use Rattle.trick_model_sessions.specs.Silence.{all_newcomers, newcomers, numbers_of}
use Rattle.trick_model.specs.Events.{names_of}
use Rattle.trick_model.specs.Names.{deed_of}
use Rattle.trick_model.specs.Plan.{Plan}
use Rattle.trick_model.specs.Run.{after_turns}
use Rattle.trick_model.specs.Session.{Answer, acted, answered, bad, joined, quiet, staying}
use Rattle.trick_model.specs.State.{World}
use Rattle.trick_model.specs.Turn.{Hearing, begun, changed, hear, heard, session_of, turn}
use Rattle.trick_model.specs.Valid.{rises}
use Rattle.trick_model.specs.declared.command.Command.{Command}
use Rattle.trick_model.specs.declared.command.Command.TheVariants as command
use Rattle.trick_model.specs.declared.deed.Deed.{Deed}
use Rattle.trick_model.specs.declared.entry.Cause.{Cause}
use Rattle.trick_model.specs.declared.entry.Entry.{Entry}
use Rattle.trick_model.specs.declared.entry.Entry.TheVariants.{Join, Said, Leave, Publish}
use Rattle.trick_model.specs.declared.session.Session.{Session}

-- ---- a line changes no number

acted_number : (deed : Option Deed) (s : Session) → (acted deed s).session.number ≡ s.number
acted_number None s = refl
acted_number (Some deed) s = refl

added_number : (b : Bool) (a s : Session) → a.number ≡ s.number
    → let x : Answer = elim b [ true ↦ quiet a | false ↦ bad s ] in x.session.number ≡ s.number
added_number true a s e = e
added_number false a s e = refl

pub answered_number : (p : Plan) (c : Command) (s : Session) → (answered p c s).session.number ≡ s.number
answered_number p (command.Act action) s = acted_number (deed_of (names_of p) action) s
answered_number p command.Nothing s = refl
answered_number p command.Resume s = refl
answered_number p (command.Add name) s = added_number (nat_lt (length s.variables) 256) _ s refl
answered_number p (command.Remove name) s = refl
answered_number p command.Clear s = refl
answered_number p (command.Cycle tics) s = refl
answered_number p (command.Pause on) s = refl
answered_number p command.Send s = refl
answered_number p (command.Exists name) s = refl
answered_number p (command.Copy mode) s = refl
answered_number p command.Exit s = refl
answered_number p command.Bad s = refl

found_number : (number : ℕ) (sessions : List Session) → (session_of number sessions).number ≡ number
found_number number [] = refl
found_number number (session ∷ sessions) = by (session.number == number) refl (found_number number sessions)
  where
    by : (b : Bool) → (session.number == number) ≡ b → (session_of number sessions).number ≡ number
        → (let s : Session = elim b [ true ↦ session | false ↦ session_of number sessions ] in s.number ≡ number)
    by true e later = eqb-true session.number number e
    by false e later = later

-- the session that a line leaves has the number of the one that said it
pub said_number : (p : Plan) (number : ℕ) (line : List ℕ) (sessions : List Session)
    → (answered p (p.command line) (session_of number sessions)).session.number ≡ number
said_number p number line sessions =
    answered_number p (p.command line) (session_of number sessions) ∙ found_number number sessions

-- ---- numbers of sessions after entries

changed_numbers : (change : Session → Session) (number : ℕ) (sessions : List Session)
    → ((session : Session) → (session.number == number) ≡ true → (change session).number ≡ session.number)
    → numbers_of (changed change number sessions) ≡ numbers_of sessions
changed_numbers change number [] keeps = refl
changed_numbers change number (session ∷ sessions) keeps =
    by (session.number == number) refl (changed_numbers change number sessions keeps)
  where
    by : (b : Bool) → (session.number == number) ≡ b → numbers_of (changed change number sessions) ≡ numbers_of sessions
        → (let all : List Session = elim b [ true ↦ change session ∷ sessions | false ↦ session ∷ changed change number sessions ] in numbers_of all)
        ≡ numbers_of (session ∷ sessions)
    by true e later = ap (λ (n : ℕ). n ∷ numbers_of sessions) (keeps session e)
    by false e later = ap (λ (ns : List ℕ). session.number ∷ ns) later

pub numbers_push : (sessions : List Session) (session : Session) → numbers_of (sessions ++ session ∷ []) ≡ numbers_of sessions ++ session.number ∷ []
numbers_push [] session = refl
numbers_push (first ∷ sessions) session = ap (λ (ns : List ℕ). first.number ∷ ns) (numbers_push sessions session)

pub said_numbers : (p : Plan) (number : ℕ) (line : List ℕ) (h : Hearing) → numbers_of (hear p (Said number line) h).sessions ≡ numbers_of h.sessions
said_numbers p number line h =
    changed_numbers (λ (session : Session). (answered p (p.command line) (session_of number h.sessions)).session) number h.sessions
    (λ session e. said_number p number line h.sessions ∙ sym (eqb-true session.number number e))

pub leave_numbers : (p : Plan) (number : ℕ) (cause : Cause) (h : Hearing) → numbers_of (hear p (Leave number cause) h).sessions ≡ numbers_of h.sessions
leave_numbers p number cause h =
    changed_numbers (λ (session : Session). let s : Session = record session { leaving = true } in s) number h.sessions (λ session e. refl)

-- after entries the numbers are those from before, and those that joined
pub heard_numbers : (p : Plan) (entries : List Entry) (h : Hearing) → numbers_of (heard p entries h).sessions ≡ numbers_of h.sessions ++ newcomers entries
heard_numbers p [] h = sym (append-nil (numbers_of h.sessions))
heard_numbers p (Join number ∷ entries) h =
    heard_numbers p entries (hear p (Join number) h)
    ∙ ap (λ (ns : List ℕ). ns ++ newcomers entries) (numbers_push h.sessions (joined number))
    ∙ append_assoc (numbers_of h.sessions) (number ∷ []) (newcomers entries)
heard_numbers p (Said number line ∷ entries) h =
    heard_numbers p entries (hear p (Said number line) h) ∙ ap (λ (ns : List ℕ). ns ++ newcomers entries) (said_numbers p number line h)
heard_numbers p (Leave number cause ∷ entries) h =
    heard_numbers p entries (hear p (Leave number cause) h) ∙ ap (λ (ns : List ℕ). ns ++ newcomers entries) (leave_numbers p number cause h)
heard_numbers p (Publish thread ∷ entries) h = heard_numbers p entries h

-- ---- rising numbers

rises_tail : (n : ℕ) (ns : List ℕ) → rises (n ∷ ns) ≡ true → rises ns ≡ true
rises_tail n [] rise = refl
rises_tail n (m ∷ ns) rise = (and_parts (nat_lt n m) (rises (m ∷ ns)) rise).1

-- without the second number they rise too
rises_over : (n m : ℕ) (ns : List ℕ) → rises (n ∷ m ∷ ns) ≡ true → rises (n ∷ ns) ≡ true
rises_over n m [] rise = refl
rises_over n m (k ∷ ns) rise =
    let one = and_parts (nat_lt n m) (rises (m ∷ k ∷ ns)) rise in
    let two = and_parts (nat_lt m k) (rises (k ∷ ns)) one.1 in
    and_from (nat_lt n k) (rises (k ∷ ns)) (over n m k one.0 two.0) two.1
  where
    over : (a b c : ℕ) → nat_lt a b ≡ true → nat_lt b c ≡ true → nat_lt a c ≡ true
    over a b c e f = grind (arith, nat_tests, e, f)

pub rises_front : (ns ms : List ℕ) → rises (ns ++ ms) ≡ true → rises ns ≡ true
rises_front [] ms rise = refl
rises_front (n ∷ []) ms rise = refl
rises_front (n ∷ m ∷ ns) ms rise =
    let parts = and_parts (nat_lt n m) (rises (m ∷ ns ++ ms)) rise in
    and_from (nat_lt n m) (rises (m ∷ ns)) parts.0 (rises_front (m ∷ ns) ms parts.1)

-- above a number that comes first there is no smaller one, and not that one again
pub not_again : (n number : ℕ) (ns : List ℕ) → (n == number) ≡ true → rises (n ∷ ns) ≡ true → list_any (λ (other : ℕ). other == number) ns ≡ false
not_again n number [] same rise = refl
not_again n number (m ∷ ns) same rise =
    let parts = and_parts (nat_lt n m) (rises (m ∷ ns)) rise in
    ap (λ (b : Bool). b || list_any (λ (other : ℕ). other == number) ns) (above n m number same parts.0)
    ∙ not_again n number ns same (rises_over n m ns rise)
  where
    above : (n m number : ℕ) → (n == number) ≡ true → nat_lt n m ≡ true → (m == number) ≡ false
    above n m number e f = grind (arith, nat_tests, e, f)

pub rises_later : (session : Session) (sessions : List Session) → rises (numbers_of (session ∷ sessions)) ≡ true → rises (numbers_of sessions) ≡ true
rises_later session sessions rise = rises_tail session.number (numbers_of sessions) rise

-- ---- those that stay

pub staying_rises : (low : ℕ) (sessions : List Session) (more : List ℕ) → rises (low ∷ numbers_of sessions ++ more) ≡ true
    → rises (low ∷ numbers_of (staying sessions) ++ more) ≡ true
staying_rises low [] more rise = rise
staying_rises low (session ∷ sessions) more rise =
    let parts = and_parts (nat_lt low session.number) (rises (session.number ∷ numbers_of sessions ++ more)) rise in
    by session.leaving parts.0 (staying_rises session.number sessions more parts.1)
    (staying_rises low sessions more (rises_over low session.number (numbers_of sessions ++ more) rise))
  where
    by : (b : Bool) → nat_lt low session.number ≡ true → rises (session.number ∷ numbers_of (staying sessions) ++ more) ≡ true
        → rises (low ∷ numbers_of (staying sessions) ++ more) ≡ true
        → (let all : List Session = elim b [ true ↦ staying sessions | false ↦ (let s : Session = record session { send = false } in s) ∷ staying sessions ] in
        rises (low ∷ numbers_of all ++ more) ≡ true)
    by true less stays leaves = leaves
    by false less stays leaves = and_from (nat_lt low session.number) (rises (session.number ∷ numbers_of (staying sessions) ++ more)) less stays

-- who is there after a turn, and who joins later, have rising numbers
turn_rises : (p : Plan) (w : World) (entries : List Entry) (more : List ℕ) → rises (0 ∷ numbers_of w.sessions ++ (newcomers entries ++ more)) ≡ true
    → rises (0 ∷ numbers_of (turn p w entries).world.sessions ++ more) ≡ true
turn_rises p w entries more rise =
    staying_rises 0 (heard p entries (begun w)).sessions more
    (subst (λ (ns : List ℕ). rises (0 ∷ ns ++ more) ≡ true) (sym (heard_numbers p entries (begun w)))
    (subst (λ (ns : List ℕ). rises (0 ∷ ns) ≡ true) (sym (append_assoc (numbers_of w.sessions) (newcomers entries) more)) rise))

pub turns_rise : (p : Plan) (w : World) (early : List (List Entry)) (entries : List Entry)
    → rises (0 ∷ numbers_of w.sessions ++ all_newcomers (early ++ entries ∷ [])) ≡ true
    → rises (0 ∷ numbers_of (after_turns p w early).sessions ++ newcomers entries) ≡ true
turns_rise p w [] entries rise =
    subst (λ (ns : List ℕ). rises (0 ∷ numbers_of w.sessions ++ ns) ≡ true) (append-nil (newcomers entries)) rise
turns_rise p w (first ∷ early) entries rise =
    turns_rise p (turn p w first).world early entries (turn_rises p w first (all_newcomers (early ++ entries ∷ [])) rise)

pub rises_above : (n : ℕ) (ns : List ℕ) → rises (n ∷ ns) ≡ true → rises ns ≡ true
rises_above n ns rise = rises_tail n ns rise
