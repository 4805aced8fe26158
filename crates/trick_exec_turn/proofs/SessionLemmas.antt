-- The sessions of a world stay those that its source knows, as a turn's entries are heard.
use Rattle.std.proofs.Common.{◌≡◌, ◌∙◌, ℕ, ◌<◌, List, [], ◌∷◌, ◌++◌, length, Bool, true, false, not, nat_lt, Option, Some, None, ap, append_assoc, append-nil, refl, subst, sym}
use Rattle.std.proofs.lemmas.Bool.{eqb-true, ltb-true}
use Rattle.std.proofs.lemmas.List.Elements.{All-append, All-cons, All-head, All-nil, All-tail}
use Rattle.std.specs.List.{list_any}
use Rattle.std.specs.Prelude.{◌==◌, ◌||◌, All, IsTrue, cond, filter, map}
use Rattle.trick_base.proofs.Truths.{first_holds, second_holds}
use Rattle.trick_exec_turn.proofs.Numbers.{Above, any_first, any_later, any_more, below_push, filter_above, rises_above, rises_cons, rises_push}
use Rattle.trick_exec_turn.specs.Known.{AreKnown, Below}
use Rattle.trick_exec_entries.proofs.Kept.{answered_number, changed_numbers, session_number}
use Rattle.trick_exec_entries.proofs.PlaceLemmas.{rises_tail}
use Rattle.trick_exec_entries.specs.Sessions.{joining, numbers_of}
use Rattle.trick_model.specs.Events.{names_of}
use Rattle.trick_model.specs.Journal.{is_entry}
use Rattle.trick_model.specs.Names.{deed_of}
use Rattle.trick_model.specs.Plan.{Plan}
use Rattle.trick_model.specs.Session.{Answer, Message, acted, answered, bad, is_sampled, joined, quiet, sample, samples, staying}
use Rattle.trick_model.specs.State.{State}
use Rattle.trick_model.specs.Turn.{Hearing, changed, hear, heard, replies, reply, session_of}
use Rattle.trick_model.specs.Valid.{rises}
use Rattle.trick_model.specs.declared.command.Command.{Command}
use Rattle.trick_model.specs.declared.command.Command.TheVariants as command
use Rattle.trick_model.specs.declared.deed.Deed.{Deed}
use Rattle.trick_model.specs.declared.entry.Entry.{Entry}
use Rattle.trick_model.specs.declared.entry.Entry.TheVariants.{Join, Said, Leave, Publish}
use Rattle.trick_model.specs.declared.session.Session.{Session}
use Rattle.trick_session.specs.Kept.{IsSession}
use Rattle.trick_exec_sources.specs.Turns.{Sessions, after_entries, after_entry, in_next, is_among, may_all_come, may_come}

-- ---- a session that a line is said to

same_acted : (o : Option Deed) (s : Session) → (acted o s).session.leaving ≡ s.leaving
same_acted None s = refl
same_acted (Some deed) s = refl

same_added : (b : Bool) (a s : Session) → a.leaving ≡ s.leaving
    → (let x : Answer = elim b [ true ↦ quiet a | false ↦ bad s ] in x.session.leaving ≡ s.leaving)
same_added true a s same = same
same_added false a s same = refl

answered_leaving : (p : Plan) (c : Command) (s : Session) → (answered p c s).session.leaving ≡ s.leaving
answered_leaving p (command.Act action) s = same_acted (deed_of (names_of p) action) s
answered_leaving p command.Nothing s = refl
answered_leaving p command.Resume s = refl
answered_leaving p (command.Add name) s = same_added (nat_lt (length s.variables) 256) _ s refl
answered_leaving p (command.Remove name) s = refl
answered_leaving p command.Clear s = refl
answered_leaving p (command.Cycle tics) s = refl
answered_leaving p (command.Pause on) s = refl
answered_leaving p command.Send s = refl
answered_leaving p (command.Exists name) s = refl
answered_leaving p (command.Copy mode) s = refl
answered_leaving p command.Exit s = refl
answered_leaving p command.Bad s = refl

-- ---- the sessions that stay

-- the numbers of the sessions that are not leaving
abbrev pub staying_numbers : List Session → List ℕ
staying_numbers sessions = numbers_of (filter (λ session. not session.leaving) sessions)

one_or : Bool → ℕ → List ℕ → List ℕ
one_or leaving n ns = cond (not leaving) (n ∷ ns) ns

pub numbers_cons : (s : Session) (ss : List Session) → staying_numbers (s ∷ ss) ≡ cond (not s.leaving) (s.number ∷ staying_numbers ss) (staying_numbers ss)
numbers_cons s ss = by s.leaving
  where
    by : (b : Bool) → numbers_of (cond (not b) (s ∷ filter (λ session. not session.leaving) ss) (filter (λ session. not session.leaving) ss))
        ≡ cond (not b) (s.number ∷ staying_numbers ss) (staying_numbers ss)
    by true = refl
    by false = refl

-- a session that is as much leaving, in place of one
said_stays : (new : Session) (number : ℕ) (ss : List Session) → new.leaving ≡ (session_of number ss).leaving → new.number ≡ number
    → staying_numbers (changed (λ s. new) number ss) ≡ staying_numbers ss
said_stays new number [] same is = refl
said_stays new number (s ∷ ss) same is = by (s.number == number) refl same (λ e. said_stays new number ss e is)
  where
    by : (b : Bool) → (s.number == number) ≡ b → new.leaving ≡ (let x : Session = elim b [ true ↦ s | false ↦ session_of number ss ] in x.leaving)
        → (new.leaving ≡ (session_of number ss).leaving → staying_numbers (changed (λ s. new) number ss) ≡ staying_numbers ss)
        → (let l : List Session = elim b [ true ↦ new ∷ ss | false ↦ s ∷ changed (λ s. new) number ss ] in staying_numbers l ≡ staying_numbers (s ∷ ss))
    by true e same more =
        numbers_cons new ss ∙ ap (λ (b : Bool). cond (not b) (new.number ∷ staying_numbers ss) (staying_numbers ss)) same
        ∙ ap (λ (n : ℕ). cond (not s.leaving) (n ∷ staying_numbers ss) (staying_numbers ss)) (is ∙ sym (eqb-true s.number number e))
        ∙ sym (numbers_cons s ss)
    by false e same more =
        numbers_cons s (changed (λ s. new) number ss)
        ∙ ap (λ (ns : List ℕ). cond (not s.leaving) (s.number ∷ ns) ns) (more same)
        ∙ sym (numbers_cons s ss)

above_staying : (n : ℕ) (ss : List Session) → Above n (numbers_of ss) → Above n (staying_numbers ss)
above_staying n [] above = tt
above_staying n (s ∷ ss) above = subst (Above n) (sym (numbers_cons s ss)) (by s.leaving (above_staying n ss above.1))
  where
    by : (b : Bool) → Above n (staying_numbers ss) → Above n (cond (not b) (s.number ∷ staying_numbers ss) (staying_numbers ss))
    by true more = more
    by false more = (above.0, more)

-- a session that leaves stays no more
leaves_stay : (number : ℕ) (ss : List Session) → rises (numbers_of ss) ≡ true
    → staying_numbers (changed (λ (s : Session). record s { leaving = true }) number ss) ≡ filter (λ other. not (other == number)) (staying_numbers ss)
leaves_stay number [] r = refl
leaves_stay number (s ∷ ss) r = by (s.number == number) refl (leaves_stay number ss (rises_tail s.number (numbers_of ss) r))
  where
    gone : (s : Session) (ss : List Session) → staying_numbers (record s { leaving = true } ∷ ss) ≡ staying_numbers ss
    gone s ss = refl

    none : (n : ℕ) → s.number ≡ n → filter (λ other. not (other == n)) (staying_numbers ss) ≡ staying_numbers ss
    none n is = filter_above n (staying_numbers ss) (subst (λ (k : ℕ). Above k (staying_numbers ss)) is (above_staying s.number ss (rises_above s.number (numbers_of ss) r)))

    here : (b : Bool) → (s.number == number) ≡ true
        → filter (λ other. not (other == number)) (cond (not b) (s.number ∷ staying_numbers ss) (staying_numbers ss)) ≡ staying_numbers ss
    here true e = none number (eqb-true s.number number e)
    here false e =
        ap (λ (t : Bool). cond (not t) (s.number ∷ filter (λ other. not (other == number)) (staying_numbers ss)) (filter (λ other. not (other == number)) (staying_numbers ss))) e
        ∙ none number (eqb-true s.number number e)

    there : (b : Bool) → (s.number == number) ≡ false
        → cond (not b) (s.number ∷ filter (λ other. not (other == number)) (staying_numbers ss)) (filter (λ other. not (other == number)) (staying_numbers ss))
        ≡ filter (λ other. not (other == number)) (cond (not b) (s.number ∷ staying_numbers ss) (staying_numbers ss))
    there true e = refl
    there false e =
        sym (ap (λ (t : Bool). cond (not t) (s.number ∷ filter (λ other. not (other == number)) (staying_numbers ss)) (filter (λ other. not (other == number)) (staying_numbers ss))) e)

    by : (b : Bool) → (s.number == number) ≡ b
        → staying_numbers (changed (λ (s : Session). record s { leaving = true }) number ss) ≡ filter (λ other. not (other == number)) (staying_numbers ss)
        → (let l : List Session = elim b [ true ↦ record s { leaving = true } ∷ ss | false ↦ s ∷ changed (λ (s : Session). record s { leaving = true }) number ss ] in
        staying_numbers l ≡ filter (λ other. not (other == number)) (staying_numbers (s ∷ ss)))
    by true e more = gone s ss ∙ sym (here s.leaving e) ∙ ap (filter (λ other. not (other == number))) (sym (numbers_cons s ss))
    by false e more =
        numbers_cons s (changed (λ (s : Session). record s { leaving = true }) number ss)
        ∙ ap (λ (ns : List ℕ). cond (not s.leaving) (s.number ∷ ns) ns) more
        ∙ there s.leaving e ∙ ap (filter (λ other. not (other == number))) (sym (numbers_cons s ss))

-- ---- as entries are heard

-- Sessions in a turn are those that can be sent messages, and those of them that are not leaving are there.
pub record AreAlong (known : Sessions) (ss : List Session) : Type 0 where
  pub reached : numbers_of ss ≡ known.reached
  pub live : staying_numbers ss ≡ known.live
  pub rising : rises (numbers_of ss) ≡ true
  pub below : Below known.highest (numbers_of ss)

numbers-append : (ss ts : List Session) → numbers_of (ss ++ ts) ≡ numbers_of ss ++ numbers_of ts
numbers-append [] ts = refl
numbers-append (s ∷ ss) ts = ap (λ (ns : List ℕ). s.number ∷ ns) (numbers-append ss ts)

staying-push : (ss : List Session) (s : Session) → s.leaving ≡ false → staying_numbers (ss ++ s ∷ []) ≡ staying_numbers ss ++ s.number ∷ []
staying-push [] s stays = numbers_cons s [] ∙ ap (λ (b : Bool). cond (not b) (s.number ∷ []) []) stays
staying-push (t ∷ ss) s stays =
    numbers_cons t (ss ++ s ∷ []) ∙ ap (λ (ns : List ℕ). cond (not t.leaving) (t.number ∷ ns) ns) (staying-push ss s stays) ∙ by t.leaving
    ∙ ap (λ (ns : List ℕ). ns ++ s.number ∷ []) (sym (numbers_cons t ss))
  where
    by : (b : Bool) → cond (not b) (t.number ∷ (staying_numbers ss ++ s.number ∷ [])) (staying_numbers ss ++ s.number ∷ [])
        ≡ cond (not b) (t.number ∷ staying_numbers ss) (staying_numbers ss) ++ s.number ∷ []
    by true = refl
    by false = refl

-- sessions with the same numbers
along_same : (known : Sessions) (ss ts : List Session) (live : List ℕ) → numbers_of ts ≡ numbers_of ss → staying_numbers ts ≡ live → AreAlong known ss
    → AreAlong (record known { live = live }) ts
along_same known ss ts live same stay along = record {
  reached = same ∙ along.reached;
  live = stay;
  rising = ap rises same ∙ along.rising;
  below = subst (Below known.highest) (sym same) along.below;
}

along_more : (p : Plan) (entry : Entry) (known : Sessions) (h : Hearing) → may_come entry known ≡ true → AreAlong known h.sessions
    → AreAlong (after_entry entry known) (hear p entry h).sessions
along_more p (Join number) known h may along =
    let more : known.highest < number = ltb-true known.highest number may in record {
      reached = numbers-append h.sessions (joined number ∷ []) ∙ ap (λ (ns : List ℕ). ns ++ number ∷ []) along.reached;
      live = staying-push h.sessions (joined number) refl ∙ ap (λ (ns : List ℕ). ns ++ number ∷ []) along.live;
      rising = ap rises (numbers-append h.sessions (joined number ∷ [])) ∙ rises_push known.highest number (numbers_of h.sessions) along.rising along.below more;
      below = subst (Below number) (sym (numbers-append h.sessions (joined number ∷ []))) (below_push known.highest number (numbers_of h.sessions) along.below more);
    }
along_more p (Said number line) known h may along =
    let session = session_of number h.sessions in
    let a = answered p (p.command line) session in
    let same : a.session.number ≡ number = answered_number p (p.command line) session ∙ session_number number h.sessions in
    along_same known h.sessions (changed (λ s. a.session) number h.sessions) known.live
    (changed_numbers (λ s. a.session) number (λ s is. same ∙ sym is) h.sessions)
    (said_stays a.session number h.sessions (answered_leaving p (p.command line) session) same ∙ along.live) along
along_more p (Leave number cause) known h may along =
    let leaves = λ (s : Session). record s { leaving = true } in
    along_same known h.sessions (changed leaves number h.sessions) (filter (λ other. not (other == number)) known.live)
    (changed_numbers leaves number (λ s is. refl) h.sessions)
    (leaves_stay number h.sessions along.rising ∙ ap (filter (λ other. not (other == number))) along.live) along
along_more p (Publish thread) known h may along = along

-- the sessions after a list of entries
pub along_all : (p : Plan) (entries : List Entry) (known : Sessions) (h : Hearing) → may_all_come entries known ≡ true → AreAlong known h.sessions
    → AreAlong (after_entries entries known) (heard p entries h).sessions
along_all p [] known h may along = along
along_all p (entry ∷ []) known h may along = along_more p entry known h (second_holds (is_entry entry) (may_come entry known) may) along
along_all p (entry ∷ other ∷ entries) known h may along =
    let rest = second_holds (is_entry entry) _ may in
    along_all p (other ∷ entries) (after_entry entry known) (hear p entry h)
    (second_holds _ (may_all_come (other ∷ entries) (after_entry entry known)) (second_holds (may_come entry known) _ rest))
    (along_more p entry known h (first_holds (may_come entry known) _ rest) along)

-- ---- before the entries are heard

pub all_entries : (entries : List Entry) (known : Sessions) → may_all_come entries known ≡ true → All (λ (entry : Entry). IsTrue (is_entry entry)) entries
all_entries [] known may = All-nil (λ (entry : Entry). IsTrue (is_entry entry))
all_entries (entry ∷ []) known may =
    All-cons (λ (entry : Entry). IsTrue (is_entry entry)) entry [] (first_holds (is_entry entry) (may_come entry known) may) (All-nil (λ (entry : Entry). IsTrue (is_entry entry)))
all_entries (entry ∷ other ∷ entries) known may =
    let rest = second_holds (is_entry entry) _ may in
    All-cons (λ (entry : Entry). IsTrue (is_entry entry)) entry (other ∷ entries) (first_holds (is_entry entry) _ may)
    (all_entries (other ∷ entries) (after_entry entry known)
    (second_holds _ (may_all_come (other ∷ entries) (after_entry entry known)) (second_holds (may_come entry known) _ rest)))

-- the joins of a list rise after the sessions that are there
one_entry : (entry : Entry) (known : Sessions) (ns : List ℕ) → may_come entry known ≡ true → rises ns ≡ true → Below known.highest ns
    → (rises (ns ++ joining (entry ∷ [])) ≡ true) × Below (after_entry entry known).highest (ns ++ joining (entry ∷ []))
one_entry (Join number) known ns may r below =
    let more : known.highest < number = ltb-true known.highest number may in
    (rises_push known.highest number ns r below more, below_push known.highest number ns below more)
one_entry (Said number line) known ns may r below = (ap rises (append-nil ns) ∙ r, subst (Below known.highest) (sym (append-nil ns)) below)
one_entry (Leave number cause) known ns may r below = (ap rises (append-nil ns) ∙ r, subst (Below known.highest) (sym (append-nil ns)) below)
one_entry (Publish thread) known ns may r below = (ap rises (append-nil ns) ∙ r, subst (Below known.highest) (sym (append-nil ns)) below)

joining_cons : (entry : Entry) (entries : List Entry) → joining (entry ∷ entries) ≡ joining (entry ∷ []) ++ joining entries
joining_cons (Join number) entries = refl
joining_cons (Said number line) entries = refl
joining_cons (Leave number cause) entries = refl
joining_cons (Publish thread) entries = refl

pub joins_rise : (entries : List Entry) (known : Sessions) (ns : List ℕ) → may_all_come entries known ≡ true → rises ns ≡ true → Below known.highest ns
    → rises (ns ++ joining entries) ≡ true
joins_rise [] known ns may r below = ap rises (append-nil ns) ∙ r
joins_rise (entry ∷ []) known ns may r below = (one_entry entry known ns (second_holds (is_entry entry) (may_come entry known) may) r below).0
joins_rise (entry ∷ other ∷ entries) known ns may r below =
    let rest = second_holds (is_entry entry) _ may in
    let one = one_entry entry known ns (first_holds (may_come entry known) _ rest) r below in
    ap (λ (ms : List ℕ). rises (ns ++ ms)) (joining_cons entry (other ∷ entries))
    ∙ ap rises (sym (append_assoc ns (joining (entry ∷ [])) (joining (other ∷ entries))))
    ∙ joins_rise (other ∷ entries) (after_entry entry known) (ns ++ joining (entry ∷ []))
    (second_holds _ (may_all_come (other ∷ entries) (after_entry entry known)) (second_holds (may_come entry known) _ rest)) one.0 one.1

-- ---- who is reached

grows : (entry : Entry) (known : Sessions) (n : ℕ) → is_among n known.reached ≡ true → is_among n (after_entry entry known).reached ≡ true
grows (Join number) known n e = any_more (λ m. m == n) known.reached (number ∷ []) e
grows (Said number line) known n e = e
grows (Leave number cause) known n e = e
grows (Publish thread) known n e = e

grows_all : (entries : List Entry) (known : Sessions) (n : ℕ) → is_among n known.reached ≡ true → is_among n (after_entries entries known).reached ≡ true
grows_all [] known n e = e
grows_all (entry ∷ entries) known n e = grows_all entries (after_entry entry known) n (grows entry known n e)

staying_there : (n : ℕ) (ss : List Session) → list_any (λ m. m == n) (staying_numbers ss) ≡ true → list_any (λ m. m == n) (numbers_of ss) ≡ true
staying_there n [] e = e
staying_there n (s ∷ ss) e = by s.leaving (sym (ap (list_any (λ m. m == n)) (numbers_cons s ss)) ∙ e) (staying_there n ss)
  where
    by : (b : Bool) → list_any (λ m. m == n) (cond (not b) (s.number ∷ staying_numbers ss) (staying_numbers ss)) ≡ true
        → (list_any (λ m. m == n) (staying_numbers ss) ≡ true → list_any (λ m. m == n) (numbers_of ss) ≡ true)
        → list_any (λ m. m == n) (numbers_of (s ∷ ss)) ≡ true
    by true e more = any_later (λ m. m == n) s.number (numbers_of ss) (more e)
    by false e more = by_first (s.number == n) e more
      where
        by_first : (b : Bool) → (b || list_any (λ m. m == n) (staying_numbers ss)) ≡ true
            → (list_any (λ m. m == n) (staying_numbers ss) ≡ true → list_any (λ m. m == n) (numbers_of ss) ≡ true) → (b || list_any (λ m. m == n) (numbers_of ss)) ≡ true
        by_first true e more = refl
        by_first false e more = more e

-- a message to a session of this number
abbrev ToOne : ℕ → Message → Type 0
ToOne number message = message.0 ≡ number

all_to : (number : ℕ) (texts : List (List ℕ)) (P : Message → Type 0) → ((bytes : List ℕ) → P (number, bytes)) → All P (map (λ bytes. (number, bytes)) texts)
all_to number [] P each = All-nil P
all_to number (bytes ∷ texts) P each = All-cons P (number, bytes) (map (λ bytes. (number, bytes)) texts) (each bytes) (all_to number texts P each)

-- the replies to an entry go to those that are reached
reply_reaches : (p : Plan) (entry : Entry) (known : Sessions) (h : Hearing) (reached : List ℕ) → may_come entry known ≡ true → AreAlong known h.sessions
    → ((n : ℕ) → is_among n known.reached ≡ true → is_among n reached ≡ true) → All (λ (message : Message). IsTrue (is_among message.0 reached)) (reply p entry h)
reply_reaches p (Join number) known h reached may along wider = All-nil (λ (message : Message). IsTrue (is_among message.0 reached))
reply_reaches p (Said number line) known h reached may along wider =
    all_to number (answered p (p.command line) (session_of number h.sessions)).reply (λ (message : Message). IsTrue (is_among message.0 reached))
    (λ bytes. wider number
    (sym (ap (list_any (λ m. m == number)) along.reached)
    ∙ staying_there number h.sessions (ap (list_any (λ m. m == number)) along.live ∙ may)))
reply_reaches p (Leave number cause) known h reached may along wider = All-nil (λ (message : Message). IsTrue (is_among message.0 reached))
reply_reaches p (Publish thread) known h reached may along wider = All-nil (λ (message : Message). IsTrue (is_among message.0 reached))

pub replies_reach : (p : Plan) (entries : List Entry) (known : Sessions) (h : Hearing) → may_all_come entries known ≡ true → AreAlong known h.sessions
    → All (λ (message : Message). IsTrue (is_among message.0 (after_entries entries known).reached)) (replies p entries h)
replies_reach p [] known h may along = All-nil (λ (message : Message). IsTrue (is_among message.0 known.reached))
replies_reach p (entry ∷ []) known h may along =
    All-append (λ (message : Message). IsTrue (is_among message.0 (after_entry entry known).reached)) (reply p entry h) []
    (reply_reaches p entry known h (after_entry entry known).reached (second_holds (is_entry entry) (may_come entry known) may) along (grows entry known))
    (All-nil (λ (message : Message). IsTrue (is_among message.0 (after_entry entry known).reached)))
replies_reach p (entry ∷ other ∷ entries) known h may along =
    let rest = second_holds (is_entry entry) _ may in
    let come = first_holds (may_come entry known) _ rest in
    let after = after_entries (other ∷ entries) (after_entry entry known) in
    All-append (λ (message : Message). IsTrue (is_among message.0 after.reached)) (reply p entry h) (replies p (other ∷ entries) (hear p entry h))
    (reply_reaches p entry known h after.reached come along (λ n e. grows_all (other ∷ entries) (after_entry entry known) n (grows entry known n e)))
    (replies_reach p (other ∷ entries) (after_entry entry known) (hear p entry h)
    (second_holds _ (may_all_come (other ∷ entries) (after_entry entry known)) (second_holds (may_come entry known) _ rest)) (along_more p entry known h come along))

-- the samples go to sessions that are there
pub samples_reach : (from : ℕ) (s : State) (ss : List Session) (reached : List ℕ) → ((n : ℕ) → list_any (λ m. m == n) (numbers_of ss) ≡ true → is_among n reached ≡ true)
    → All (λ (message : Message). IsTrue (is_among message.0 reached)) (samples from s ss)
samples_reach from s [] reached wider = All-nil (λ (message : Message). IsTrue (is_among message.0 reached))
samples_reach from s (session ∷ ss) reached wider =
    by (is_sampled from s.tic session) (samples_reach from s ss reached (λ n e. wider n (any_later (λ m. m == n) session.number (numbers_of ss) e)))
  where
    by : (b : Bool) → All (λ (message : Message). IsTrue (is_among message.0 reached)) (samples from s ss)
        → (let l : List Message = elim b [ true ↦ (session.number, sample s.memory session) ∷ samples from s ss | false ↦ samples from s ss ] in
        All (λ (message : Message). IsTrue (is_among message.0 reached)) l)
    by true more =
        All-cons (λ (message : Message). IsTrue (is_among message.0 reached)) (session.number, sample s.memory session) (samples from s ss)
        (wider session.number (any_first session.number (numbers_of ss))) more
    by false more = more

-- ---- at the end of a turn

staying_are : (ss : List Session) → numbers_of (staying ss) ≡ staying_numbers ss
staying_are [] = refl
staying_are (s ∷ ss) = by s.leaving (staying_are ss) ∙ sym (numbers_cons s ss)
  where
    by : (b : Bool) → numbers_of (staying ss) ≡ staying_numbers ss
        → (let l : List Session = elim b [ true ↦ staying ss | false ↦ record s { send = false } ∷ staying ss ] in
        numbers_of l ≡ cond (not b) (s.number ∷ staying_numbers ss) (staying_numbers ss))
    by true e = e
    by false e = ap (λ (ns : List ℕ). s.number ∷ ns) e

staying_rise : (ss : List Session) → rises (numbers_of ss) ≡ true → rises (staying_numbers ss) ≡ true
staying_rise [] r = refl
staying_rise (s ∷ ss) r =
    ap rises (numbers_cons s ss) ∙ by s.leaving (staying_rise ss (rises_tail s.number (numbers_of ss) r)) (above_staying s.number ss (rises_above s.number (numbers_of ss) r))
  where
    by : (b : Bool) → rises (staying_numbers ss) ≡ true → Above s.number (staying_numbers ss)
        → rises (cond (not b) (s.number ∷ staying_numbers ss) (staying_numbers ss)) ≡ true
    by true e above = e
    by false e above = rises_cons s.number (staying_numbers ss) above e

staying_below : (highest : ℕ) (ss : List Session) → Below highest (numbers_of ss) → Below highest (staying_numbers ss)
staying_below highest [] below = tt
staying_below highest (s ∷ ss) below = subst (Below highest) (sym (numbers_cons s ss)) (by s.leaving (staying_below highest ss below.1))
  where
    by : (b : Bool) → Below highest (staying_numbers ss) → Below highest (cond (not b) (s.number ∷ staying_numbers ss) (staying_numbers ss))
    by true more = more
    by false more = (below.0, more)

staying_right : (cells : ℕ) (ss : List Session) → All (IsSession cells) ss → All (IsSession cells) (staying ss)
staying_right cells [] all = all
staying_right cells (s ∷ ss) all = by s.leaving (All-head (IsSession cells) s ss all) (staying_right cells ss (All-tail (IsSession cells) s ss all))
  where
    by : (b : Bool) → IsSession cells s → All (IsSession cells) (staying ss)
        → (let l : List Session = elim b [ true ↦ staying ss | false ↦ record s { send = false } ∷ staying ss ] in All (IsSession cells) l)
    by true one more = more
    by false one more =
        let awake = record s { send = false } in
        All-cons (IsSession cells) awake (staying ss) (record { variables = one.variables; cycle = one.cycle }) more

staying_awake : (ss : List Session) → All (λ (s : Session). s.leaving ≡ false) (staying ss)
staying_awake [] = All-nil (λ (s : Session). s.leaving ≡ false)
staying_awake (s ∷ ss) = by s.leaving refl (staying_awake ss)
  where
    by : (b : Bool) → s.leaving ≡ b → All (λ (s : Session). s.leaving ≡ false) (staying ss)
        → (let l : List Session = elim b [ true ↦ staying ss | false ↦ record s { send = false } ∷ staying ss ] in All (λ (s : Session). s.leaving ≡ false) l)
    by true e more = more
    by false e more = All-cons (λ (s : Session). s.leaving ≡ false) (record s { send = false }) (staying ss) e more

-- those that stay are known
pub known_after : (p : Plan) (known : Sessions) (ss : List Session) → AreAlong known ss → All (IsSession (length p.names)) ss → AreKnown p known (staying ss)
known_after p known ss along right = record {
  live = staying_are ss ∙ along.live;
  rising = ap rises (staying_are ss) ∙ staying_rise ss along.rising;
  below = subst (Below known.highest) (sym (staying_are ss)) (staying_below known.highest ss along.below);
  right = staying_right (length p.names) ss right;
  awake = staying_awake ss;
}

-- ---- at the start of a turn

none_leaves : (ss : List Session) → All (λ (s : Session). s.leaving ≡ false) ss → staying_numbers ss ≡ numbers_of ss
none_leaves [] all = refl
none_leaves (s ∷ ss) all =
    numbers_cons s ss ∙ ap (λ (b : Bool). cond (not b) (s.number ∷ staying_numbers ss) (staying_numbers ss)) (All-head (λ (s : Session). s.leaving ≡ false) s ss all)
    ∙ ap (λ (ns : List ℕ). s.number ∷ ns) (none_leaves ss (All-tail (λ (s : Session). s.leaving ≡ false) s ss all))

-- before a list all that are there can be sent messages
pub along_starts : (p : Plan) (known : Sessions) (ss : List Session) → AreKnown p known ss → AreAlong (in_next known) ss
along_starts p known ss are = record {
  reached = are.live;
  live = none_leaves ss are.awake ∙ are.live;
  rising = are.rising;
  below = are.below;
}
