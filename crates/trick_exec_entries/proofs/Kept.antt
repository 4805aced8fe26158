-- What hearing an entry keeps of the sessions.
use Rattle.std.proofs.Common.{◌≡◌, ◌∙◌, ℕ, ◌<◌, ◌≤◌, List, [], ◌∷◌, ◌++◌, length, nat_lt, Bool, true, false, Option, Some, None, ap, append_assoc, refl, subst, sym}
use Rattle.std.proofs.lemmas.Bool.{eqb-true}
use Rattle.std.proofs.lemmas.List.Elements.{All-cons, All-head, All-push, All-tail}
use Rattle.std.specs.Prelude.{◌==◌, All, map}
use Rattle.trick_exec_entries.specs.Sessions.{AreHeard, joining, numbers_of}
use Rattle.trick_exec_entries.proofs.PlaceLemmas.{rises_front}
use Rattle.trick_model.specs.Commands.{command_of}
use Rattle.trick_model.specs.Events.{names_of}
use Rattle.trick_model.specs.Names.{deed_of}
use Rattle.trick_model.specs.Plan.{Plan}
use Rattle.trick_model.specs.PlanOf.{plan_of}
use Rattle.trick_model.specs.Session.{Answer, acted, added, answered, bad, joined, quiet}
use Rattle.trick_model.specs.Turn.{Hearing, changed, hear, session_of}
use Rattle.trick_model.specs.Valid.{rises}
use Rattle.trick_model.specs.declared.command.Command.{Command}
use Rattle.trick_model.specs.declared.command.Command.TheVariants as command
use Rattle.trick_model.specs.declared.deed.Deed.{Deed}
use Rattle.trick_model.specs.declared.entry.Entry.{Entry}
use Rattle.trick_model.specs.declared.entry.Entry.TheVariants.{Join, Said, Leave, Publish}
use Rattle.trick_model.specs.declared.plan.Plan.{Plan as PlanValue}
use Rattle.trick_model.specs.declared.session.Session.{Session}
use Rattle.trick_session.proofs.Kept.{commands_keep, joins_right, lines_right}
use Rattle.trick_session.specs.Kept.{IsSession}

-- ---- a change of one session

-- a session keeps its number
same_acted : (o : Option Deed) (s : Session) → (acted o s).session.number ≡ s.number
same_acted None s = refl
same_acted (Some deed) s = refl

same_added : (b : Bool) (a s : Session) → a.number ≡ s.number
    → (let x : Answer = elim b [ true ↦ quiet a | false ↦ bad s ] in x.session.number ≡ s.number)
same_added true a s same = same
same_added false a s same = refl

pub answered_number : (p : Plan) (c : Command) (s : Session) → (answered p c s).session.number ≡ s.number
answered_number p (command.Act action) s = same_acted (deed_of (names_of p) action) s
answered_number p command.Nothing s = refl
answered_number p command.Resume s = refl
answered_number p (command.Add name) s = same_added (nat_lt (length s.variables) 256) _ s refl
answered_number p (command.Remove name) s = refl
answered_number p command.Clear s = refl
answered_number p (command.Cycle tics) s = refl
answered_number p (command.Pause on) s = refl
answered_number p command.Send s = refl
answered_number p (command.Exists name) s = refl
answered_number p (command.Copy mode) s = refl
answered_number p command.Exit s = refl
answered_number p command.Bad s = refl

pub session_number : (number : ℕ) (ss : List Session) → (session_of number ss).number ≡ number
session_number number [] = refl
session_number number (s ∷ ss) = by (s.number == number) refl (session_number number ss)
  where
    by : (b : Bool) → (s.number == number) ≡ b → (session_of number ss).number ≡ number
        → (let x : Session = elim b [ true ↦ s | false ↦ session_of number ss ] in x.number ≡ number)
    by true e more = eqb-true s.number number e
    by false e more = more

-- a change that keeps the number keeps all of them
pub changed_numbers : (change : Session → Session) (number : ℕ) → ((s : Session) → s.number ≡ number → (change s).number ≡ s.number)
    → (ss : List Session) → numbers_of (changed change number ss) ≡ numbers_of ss
changed_numbers change number keeps [] = refl
changed_numbers change number keeps (s ∷ ss) = by (s.number == number) refl (changed_numbers change number keeps ss)
  where
    by : (b : Bool) → (s.number == number) ≡ b → numbers_of (changed change number ss) ≡ numbers_of ss
        → (let l : List Session = elim b [ true ↦ change s ∷ ss | false ↦ s ∷ changed change number ss ] in numbers_of l ≡ numbers_of (s ∷ ss))
    by true e more = ap (λ (n : ℕ). n ∷ numbers_of ss) (keeps s (eqb-true s.number number e))
    by false e more = ap (λ (ns : List ℕ). s.number ∷ ns) more

pub changed_all : (P : Session → Type 0) (change : Session → Session) (number : ℕ) → ((s : Session) → P s → P (change s))
    → (ss : List Session) → All P ss → All P (changed change number ss)
changed_all P change number keeps [] all = all
changed_all P change number keeps (s ∷ ss) all = by (s.number == number) (changed_all P change number keeps ss (All-tail P s ss all))
  where
    by : (b : Bool) → All P (changed change number ss) → (let l : List Session = elim b [ true ↦ change s ∷ ss | false ↦ s ∷ changed change number ss ] in All P l)
    by true more = All-cons P (change s) ss (keeps s (All-head P s ss all)) (All-tail P s ss all)
    by false more = All-cons P s (changed change number ss) (All-head P s ss all) more

found_all : (P : Session → Type 0) (number : ℕ) → P (joined number) → (ss : List Session) → All P ss → P (session_of number ss)
found_all P number new [] all = new
found_all P number new (s ∷ ss) all = by (s.number == number) (found_all P number new ss (All-tail P s ss all))
  where
    by : (b : Bool) → P (session_of number ss) → (let x : Session = elim b [ true ↦ s | false ↦ session_of number ss ] in P x)
    by true more = All-head P s ss all
    by false more = more

-- ---- an entry

numbers-append : (ss ts : List Session) → numbers_of (ss ++ ts) ≡ numbers_of ss ++ numbers_of ts
numbers-append [] ts = refl
numbers-append (s ∷ ss) ts = ap (λ (ns : List ℕ). s.number ∷ ns) (numbers-append ss ts)

-- the same numbers, in front of the same joins
same_rising : (ss ts : List Session) (ns : List ℕ) → numbers_of ts ≡ numbers_of ss → rises (numbers_of ss ++ ns) ≡ true → rises (numbers_of ts ++ ns) ≡ true
same_rising ss ts ns same rising = ap (λ (ms : List ℕ). rises (ms ++ ns)) same ∙ rising

pub hear_keeps : (plan : PlanValue) (entry : Entry) (entries : List Entry) (h : Hearing)
    → AreHeard (plan_of plan) h.sessions (entry ∷ entries) → AreHeard (plan_of plan) (hear (plan_of plan) entry h).sessions entries
hear_keeps plan (Join number) entries h are =
    let p = plan_of plan in record {
      right = All-push (IsSession (length p.names)) h.sessions (joined number) are.right (joins_right (length p.names) number);
      rising = ap (λ (ns : List ℕ). rises (ns ++ joining entries)) (numbers-append h.sessions (joined number ∷ []))
          ∙ ap rises (append_assoc (numbers_of h.sessions) (number ∷ []) (joining entries)) ∙ are.rising;
    }
hear_keeps plan (Said number line) entries h are =
    let p = plan_of plan in
    let session = session_of number h.sessions in
    let a = answered p (p.command line) session in
    let right = commands_keep p (command_of line) session (lines_right line)
    (found_all (IsSession (length p.names)) number (joins_right (length p.names) number) h.sessions are.right) in
    let same : a.session.number ≡ number = answered_number p (p.command line) session ∙ session_number number h.sessions in
    record {
      right = changed_all (IsSession (length p.names)) (λ s. a.session) number (λ s is. right) h.sessions are.right;
      rising = same_rising h.sessions (changed (λ s. a.session) number h.sessions) (joining entries)
          (changed_numbers (λ s. a.session) number (λ s is. same ∙ sym is) h.sessions) are.rising;
    }
hear_keeps plan (Leave number cause) entries h are =
    let p = plan_of plan in
    let leaves = λ (s : Session). record s { leaving = true } in record {
      right = changed_all (IsSession (length p.names)) leaves number (λ s is. record { variables = is.variables; cycle = is.cycle }) h.sessions are.right;
      rising = same_rising h.sessions (changed leaves number h.sessions) (joining entries)
          (changed_numbers leaves number (λ s is. refl) h.sessions) are.rising;
    }
hear_keeps plan (Publish thread) entries h are = record { right = are.right; rising = are.rising }

-- sessions that entries are heard by rise themselves
pub rising_now : (ss : List Session) (ns : List ℕ) → rises (numbers_of ss ++ ns) ≡ true → rises (numbers_of ss) ≡ true
rising_now ss ns r = rises_front (numbers_of ss) ns r
