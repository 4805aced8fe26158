-- What holds of a session all along a run.
use Rattle.std.proofs.Common.{◌≡◌, ◌∙◌, ◌⊎◌, inl, inr, ⊎_elim, ℕ, zero, suc, ◌+◌, Bool, true, false, cond, eqb, List, [], ◌∷◌, ◌++◌, Option, Some, None, ap, append_assoc, append-nil, refl, subst, sym}
use Rattle.std.proofs.lemmas.Bool.{false≢true}
use Rattle.std.proofs.lemmas.Bool.Decides.{eqb_tells}
use Rattle.std.proofs.lemmas.List.Concat.{flat_map-append}
use Rattle.std.proofs.lemmas.List.Elements.{filter-append}
use Rattle.std.specs.List.{filter}
use Rattle.trick_model.proofs.Runs.{runs_join}
use Rattle.trick_model.specs.Files.{messages_to, turns_said}
use Rattle.trick_model.specs.Journal.{is_of_session}
use Rattle.trick_model.specs.Plan.{Plan}
use Rattle.trick_model.specs.Run.{after_turns}
use Rattle.trick_model.specs.Session.{Message}
use Rattle.trick_model.specs.State.{World}
use Rattle.trick_model.specs.Turn.{turn}
use Rattle.trick_model.specs.declared.entry.Entry.{Entry}
use Rattle.trick_model.specs.declared.entry.Entry.TheVariants.{Join, Said, Leave, Publish}
use Rattle.trick_model.specs.declared.session.Session.{Session}
use Rattle.trick_exec_meaning.specs.Answers.{list_answer}
use Rattle.trick_serve_source.specs.CallLaws.{whole_before as whole_one}
use Rattle.trick_serve_source.specs.Calls.{Answers, Breaks, Call, DoAll, Does, Hands, IsAnswered, Looks, View, Went, answer_of, answers_of, message_of, messages_of}
use Rattle.trick_serve_hearing.specs.Life.{Can, Goes, Happening, Happens, HangsUp, Lives, after, entries_of, entries_of_all, is_of, own}
use Rattle.trick_serve_hearing.specs.Messages.{IsHanded}
use Rattle.trick_serve_hearing.specs.Sides.{Queues, Side, nobody, queues_of, side, side_of}
use Rattle.trick_serve_hearing.specs.declared.seat.Seat.{Seat}
use Rattle.trick_serve_facts.specs.Serves.{Serves, all_entries, given_by, given_in, no_turn, one_more}
use Rattle.trick_exec_sources.specs.Turns.{Answer}

-- ---- entries and messages of one session

pub own_join : (n : ℕ) (early late : List Entry) → own n (early ++ late) ≡ own n early ++ own n late
own_join n early late = filter-append (is_of n) early late

-- the joins, lines and leaves among entries have all entries of a session
pub own_given : (n : ℕ) (entries : List Entry) → own n (filter is_of_session entries) ≡ own n entries
own_given n [] = refl
own_given n (Join session ∷ entries) = ap (λ (l : List Entry). cond (is_of n (Join session)) (Join session ∷ l) l) (own_given n entries)
own_given n (Said session line ∷ entries) = ap (λ (l : List Entry). cond (is_of n (Said session line)) (Said session line ∷ l) l) (own_given n entries)
own_given n (Leave session why ∷ entries) = ap (λ (l : List Entry). cond (is_of n (Leave session why)) (Leave session why ∷ l) l) (own_given n entries)
own_given n (Publish thread ∷ entries) = own_given n entries

pub messages_join : (n : ℕ) (early late : List Message) → messages_to n (early ++ late) ≡ messages_to n early ++ messages_to n late
messages_join n [] late = refl
messages_join n (m ∷ early) late = by (eqb m.0 n) (messages_join n early late)
  where
    by : (b : Bool) → messages_to n (early ++ late) ≡ messages_to n early ++ messages_to n late
        → (let all : List (List ℕ) = elim b [ true ↦ m.1 ∷ messages_to n (early ++ late) | false ↦ messages_to n (early ++ late) ] in all)
        ≡ (let some : List (List ℕ) = elim b [ true ↦ m.1 ∷ messages_to n early | false ↦ messages_to n early ] in some) ++ messages_to n late
    by true e = ap (λ (bytes : List (List ℕ)). m.1 ∷ bytes) e
    by false e = e

pub one_to : (n : ℕ) (m : Message) → (b : Bool) → eqb m.0 n ≡ b
    → messages_to n (m ∷ []) ≡ (let all : List (List ℕ) = elim b [ true ↦ m.1 ∷ [] | false ↦ [] ] in all)
one_to n m b is = ap (λ (b : Bool). let all : List (List ℕ) = elim b [ true ↦ m.1 ∷ [] | false ↦ [] ] in all) is

-- ---- sides

-- a place has nobody, or a seat
pub side_cases : (seats : List Seat) (k : ℕ) → (side seats k ≡ nobody) ⊎ ((seat : Seat) × (side seats k ≡ side_of seat))
side_cases [] k = inl refl
side_cases (seat ∷ seats) zero = inr (seat, refl)
side_cases (seat ∷ seats) (suc k) = side_cases seats k

some_none : (q : Queues) → Some q ≡ None → ⊥
some_none q is = cc

one_none : (bytes : List ℕ) → nobody.put ++ bytes ∷ [] ≡ [] → ⊥
one_none bytes is = cc

-- who is handed a message has a seat
put_seated : (bytes : List ℕ) (a b : Side) → a ≡ nobody → (b ≡ nobody) ⊎ ((seat : Seat) × (b ≡ side_of seat)) → IsHanded bytes a b → ⊥
put_seated bytes a b none (inl gone) (inl put) =
    one_none bytes (ap (λ (s : Side). s.put ++ bytes ∷ []) (sym none) ∙ ap (λ (s : Side). s.put) (sym put.is ∙ gone))
put_seated bytes a b none (inr seat) (inl put) =
    some_none (queues_of seat.0) (ap (λ (s : Side). s.queues) (sym seat.1 ∙ put.is) ∙ ap (λ (s : Side). s.queues) none)
put_seated bytes a b none new (inr (inl out)) = some_none out.queues (sym out.seated ∙ ap (λ (s : Side). s.queues) none)
put_seated bytes a b none new (inr (inr past)) = false≢true (ap (λ (s : Side). s.slow) (sym none) ∙ past.before)

pub handed_seated : (bytes : List ℕ) (old new : List Seat) (k : ℕ) → IsHanded bytes (side old k) (side new k)
    → (q : Queues) × ((side old k).queues ≡ Some q)
handed_seated bytes old new k did = ⊎_elim
    (λ none. absurd (put_seated bytes (side old k) (side new k) none (side_cases new k) did))
    (λ seat. (queues_of seat.0, ap (λ (s : Side). s.queues) seat.1))
    (side_cases old k)

-- ---- a fact of one session

-- What makes a fact of a session hold all along: it stays as something happens to the session, as it hangs up in a list
-- that is given, and as it is handed a message.
pub record IsKept (n : ℕ) (Shown : List Session → List Entry → Type 0) (P : Side → List Entry → List (List ℕ) → Type 0) : Type 0 where
  pub happens : (h : Happening) (a : Side) (entries : List Entry) (messages : List (List ℕ)) → Can h a → P a entries messages
      → P (after h a) (entries ++ entries_of n h) messages
  pub hangs_up : (there : List Session) (list : List Entry) (a b : Side) (entries : List Entry) (messages : List (List ℕ)) → Shown there list
      → HangsUp n there a b (own n list) → P a entries messages → P b (entries ++ own n list) messages
  pub handed : (bytes : List ℕ) (a b : Side) (entries : List Entry) (messages : List (List ℕ)) (q : Queues) → a.queues ≡ Some q
      → IsHanded bytes a b → P a entries messages → P b entries (messages ++ bytes ∷ [])

-- each list that these answers give is of those that may be shown
abbrev pub ShownIn : (List Session → List Entry → Type 0) → List Session → Option (List Entry) → Type 0
ShownIn Shown there None = Unit {0}
ShownIn Shown there (Some list) = Shown there list

abbrev pub AllShown : (List Session → List Entry → Type 0) → List Answer → Type 0
AllShown Shown [] = Unit {0}
AllShown Shown (answer ∷ answers) = ShownIn Shown answer.sessions answer.list × AllShown Shown answers

shown_parts : (Shown : List Session → List Entry → Type 0) (early late : List Answer) → AllShown Shown (early ++ late)
    → AllShown Shown early × AllShown Shown late
shown_parts Shown [] late all = (tt, all)
shown_parts Shown (answer ∷ early) late all =
    let rest = shown_parts Shown early late all.1 in ((all.0, rest.0), rest.1)

-- there was memory for this call
abbrev IsWhole : Call → Type 0
IsWhole (Looks there) = Unit {0}
IsWhole (Answers answer) = Unit {0}
IsWhole (Breaks there) = ⊥
IsWhole (Hands message) = Unit {0}

abbrev AreWhole : List Call → Type 0
AreWhole [] = Unit {0}
AreWhole (call ∷ calls) = IsWhole call × AreWhole calls

whole_call : (call : Call) (old new : View) → Does call old new → new.broke ≡ false → IsWhole call
whole_call (Looks there) old new did whole = tt
whole_call (Answers answer) old new did whole = tt
whole_call (Breaks there) old new did whole = absurd (false≢true (sym whole ∙ did.broke))
whole_call (Hands message) old new did whole = tt

pub whole_calls : (calls : List Call) (old new : View) → DoAll calls old new → new.broke ≡ false → AreWhole calls × (old.broke ≡ false)
whole_calls [] old new did whole = (tt, ap (λ (v : View). v.broke) (sym did) ∙ whole)
whole_calls (call ∷ calls) old new did whole =
    let rest = whole_calls calls did.0 new did.2 whole in
    ((whole_call call old did.0 did.1 rest.1, rest.0), whole_one call old did.0 did.1 rest.1)

pub whole_before : (old new : View) (answers : List Answer) (messages : List Message) → Went old new answers messages
    → new.broke ≡ false → old.broke ≡ false
whole_before old new answers messages went whole = (whole_calls went.calls old new went.did whole).1

none_one : (entry : Entry) → [] ≡ entry ∷ [] → ⊥
none_one entry is = cc

as_it_was : (P : Side → List Entry → List (List ℕ) → Type 0) (s : Side) (entries : List Entry) (messages : List (List ℕ)) → P s entries messages
    → P s (entries ++ []) (messages ++ [])
as_it_was P s entries messages p =
    subst (λ (l : List (List ℕ)). P s (entries ++ []) l) (sym (append-nil messages))
    (subst (λ (l : List Entry). P s l messages) (sym (append-nil entries)) p)

module _ {Shown : List Session → List Entry → Type 0} {P : Side → List Entry → List (List ℕ) → Type 0} where
  happen_all : (n : ℕ) → IsKept n Shown P → (hs : List Happening) (a b : Side) (entries : List Entry) (messages : List (List ℕ)) → Happens hs a b
      → P a entries messages → P b (entries ++ entries_of_all n hs) messages
  happen_all n kept [] a b entries messages did p =
      subst (λ (s : Side). P s (entries ++ []) messages) (sym did) (subst (λ (l : List Entry). P a l messages) (sym (append-nil entries)) p)
  happen_all n kept (h ∷ hs) a b entries messages did p =
      subst (λ (l : List Entry). P b l messages) (append_assoc entries (entries_of n h) (entries_of_all n hs))
      (happen_all n kept hs (after h a) b (entries ++ entries_of n h) messages did.1 (kept.happens h a entries messages did.0 p))

  goes_keep : (n : ℕ) → IsKept n Shown P → (a b : Side) (mine entries : List Entry) (messages : List (List ℕ)) → Goes n a b mine
      → P a entries messages → P b (entries ++ mine) messages
  goes_keep n kept a b mine entries messages goes p =
      subst (λ (l : List Entry). P b (entries ++ l) messages) (sym goes.entries)
      (happen_all n kept goes.happened a b entries messages goes.happens p)

  quiet_keep : (n : ℕ) → IsKept n Shown P → (there : List Session) (a b : Side) (entries : List Entry) (messages : List (List ℕ))
      → Lives n there a b [] → P a entries messages → P b entries messages
  quiet_keep n kept there a b entries messages (inl up) p = absurd (none_one _ up.entries)
  quiet_keep n kept there a b entries messages (inr goes) p =
      subst (λ (l : List Entry). P b l messages) (append-nil entries) (goes_keep n kept a b [] entries messages goes p)

  lives_keep : (n : ℕ) → IsKept n Shown P → (there : List Session) (list : List Entry) (a b : Side) (entries : List Entry)
      (messages : List (List ℕ)) → Shown there list → Lives n there a b (own n list) → P a entries messages
      → P b (entries ++ own n list) messages
  lives_keep n kept there list a b entries messages shown (inl up) p = kept.hangs_up there list a b entries messages shown up p
  lives_keep n kept there list a b entries messages shown (inr goes) p = goes_keep n kept a b (own n list) entries messages goes p

  -- an answer
  answered_keep : (k : ℕ) → IsKept (k + 1) Shown P → (list : Option (List Entry)) (answer : Answer) (old new : View) (entries : List Entry)
      (messages : List (List ℕ)) → IsAnswered list answer old new → ShownIn Shown answer.sessions list
      → P (side old.seats k) entries messages → P (side new.seats k) (entries ++ own (k + 1) (given_in list)) (messages ++ [])
  answered_keep k kept None answer old new entries messages did shown p =
      as_it_was P (side new.seats k) entries messages
      (quiet_keep (k + 1) kept answer.sessions (side old.seats k) (side new.seats k) entries messages (did.quiet.lives.each k) p)
  answered_keep k kept (Some list) answer old new entries messages did shown p =
      subst (λ (l : List (List ℕ)). P (side new.seats k) (entries ++ own (k + 1) list) l) (sym (append-nil messages))
      (lives_keep (k + 1) kept answer.sessions list (side old.seats k) (side new.seats k) entries messages shown (did.0.lives.each k) p)

  -- a message
  handed_keep : (k : ℕ) → IsKept (k + 1) Shown P → (message : Message) (old new : View) (entries : List Entry) (messages : List (List ℕ))
      → Does (Hands message) old new → P (side old.seats k) entries messages
      → P (side new.seats k) (entries ++ []) (messages ++ messages_to (k + 1) (message ∷ []))
  handed_keep k kept message old new entries messages did p = ⊎_elim
      (λ mine.
      let is = did.own k mine.1 in
      let seated = handed_seated message.1 old.seats new.seats k is in
      subst (λ (l : List (List ℕ)). P (side new.seats k) (entries ++ []) (messages ++ l)) (sym (one_to (k + 1) message true mine.0))
      (subst (λ (l : List Entry). P (side new.seats k) l (messages ++ message.1 ∷ [])) (sym (append-nil entries))
      (kept.handed message.1 (side old.seats k) (side new.seats k) entries messages seated.0 seated.1 is p)))
      (λ other.
      subst (λ (l : List (List ℕ)). P (side new.seats k) (entries ++ []) (messages ++ l)) (sym (one_to (k + 1) message false other.0))
      (subst (λ (s : Side). P s (entries ++ []) (messages ++ [])) (sym (did.others k other.1))
      (as_it_was P (side old.seats k) entries messages p)))
      (eqb_tells message.0 (k + 1))

  call_keep : (k : ℕ) → IsKept (k + 1) Shown P → (call : Call) (old new : View) (entries : List Entry) (messages : List (List ℕ))
      → Does call old new → IsWhole call → AllShown Shown (answer_of call) → P (side old.seats k) entries messages
      → P (side new.seats k) (entries ++ own (k + 1) (given_by (answer_of call))) (messages ++ messages_to (k + 1) (message_of call))
  call_keep k kept (Looks there) old new entries messages did whole shown p =
      as_it_was P (side new.seats k) entries messages
      (quiet_keep (k + 1) kept there (side old.seats k) (side new.seats k) entries messages (did.lives.each k) p)
  call_keep k kept (Answers answer) old new entries messages did whole shown p =
      subst (λ (l : List Entry). P (side new.seats k) (entries ++ own (k + 1) l) (messages ++ [])) (sym (append-nil (given_in answer.list)))
      (answered_keep k kept answer.list answer old new entries messages did shown.0 p)
  call_keep k kept (Breaks there) old new entries messages did whole shown p = absurd whole
  call_keep k kept (Hands message) old new entries messages did whole shown p = handed_keep k kept message old new entries messages did p

  calls_keep : (k : ℕ) → IsKept (k + 1) Shown P → (calls : List Call) (old new : View) (entries : List Entry) (messages : List (List ℕ))
      → DoAll calls old new → AreWhole calls → AllShown Shown (answers_of calls) → P (side old.seats k) entries messages
      → P (side new.seats k) (entries ++ own (k + 1) (given_by (answers_of calls))) (messages ++ messages_to (k + 1) (messages_of calls))
  calls_keep k kept [] old new entries messages did whole shown p =
      subst (λ (v : View). P (side v.seats k) (entries ++ []) (messages ++ [])) (sym did) (as_it_was P (side old.seats k) entries messages p)
  calls_keep k kept (call ∷ calls) old new entries messages did whole shown p =
      let n = k + 1 in
      let mine = shown_parts Shown (answer_of call) (answers_of calls) shown in
      let one = call_keep k kept call old did.0 entries messages did.1 whole.0 mine.0 p in
      let rest = calls_keep k kept calls did.0 new (entries ++ own n (given_by (answer_of call))) (messages ++ messages_to n (message_of call))
      did.2 whole.1 mine.1 one in
      subst (λ (l : List (List ℕ)). P (side new.seats k) (entries ++ own n (given_by (answer_of call ++ answers_of calls))) l)
      (append_assoc messages (messages_to n (message_of call)) (messages_to n (messages_of calls))
      ∙ ap (λ (l : List (List ℕ)). messages ++ l) (sym (messages_join n (message_of call) (messages_of calls))))
      (subst (λ (l : List Entry). P (side new.seats k) l ((messages ++ messages_to n (message_of call)) ++ messages_to n (messages_of calls)))
      (append_assoc entries (own n (given_by (answer_of call))) (own n (given_by (answers_of calls)))
      ∙ ap (λ (l : List Entry). entries ++ l) (sym (own_join n (given_by (answer_of call)) (given_by (answers_of calls))))
      ∙ ap (λ (l : List Entry). entries ++ own n l) (sym (flat_map-append (λ (answer : Answer). given_in answer.list) (answer_of call) (answers_of calls))))
      rest)

  pub went_keep : (k : ℕ) → IsKept (k + 1) Shown P → (old new : View) (answers : List Answer) (said : List Message)
      (entries : List Entry) (messages : List (List ℕ)) → Went old new answers said → new.broke ≡ false → AllShown Shown answers
      → P (side old.seats k) entries messages
      → P (side new.seats k) (entries ++ own (k + 1) (given_by answers)) (messages ++ messages_to (k + 1) said)
  went_keep k kept old new answers said entries messages went whole shown p =
      let all = whole_calls went.calls old new went.did whole in
      subst (λ (l : List Message). P (side new.seats k) (entries ++ own (k + 1) (given_by answers)) (messages ++ messages_to (k + 1) l)) went.messages_are
      (subst (λ (l : List Answer). P (side new.seats k) (entries ++ own (k + 1) (given_by l)) (messages ++ messages_to (k + 1) (messages_of went.calls)))
      went.answers_are
      (calls_keep k kept went.calls old new entries messages went.did all.0
      (subst (λ (l : List Answer). AllShown Shown l) (sym went.answers_are) shown) p))

-- ---- a fact of one session, all along a run

-- In a turn of a world with these entries this is shown.
pub record IsShown (p : Plan) (w : World) (lists : List (List Entry)) (entries : List Entry) (there : List Session) (list : List Entry) : Type 0 where
  pub sessions : there ≡ (after_turns p w lists).sessions
  pub list_is : list ≡ filter is_of_session entries

-- What makes a fact of a session, and of the lists so far, hold all along a run.
pub record HoldsAlong (k : ℕ) (p : Plan) (w : World) (P : List (List Entry) → Side → List Entry → List (List ℕ) → Type 0) : Type 0 where
  pub turn_keeps : (lists : List (List Entry)) (entries : List Entry) → IsKept (k + 1) (IsShown p w lists entries) (P (lists ++ entries ∷ []))
  pub last_keeps : (lists : List (List Entry)) → IsKept (k + 1) (λ there list. ⊥) (P lists)
  pub more : (lists : List (List Entry)) (entries : List Entry) (s : Side) (mine : List Entry) (messages : List (List ℕ))
      → P lists s mine messages → P (lists ++ entries ∷ []) s mine messages

module _ {P : List (List Entry) → Side → List Entry → List (List ℕ) → Type 0} where
  turn_keep : (k : ℕ) (p : Plan) (w : World) → HoldsAlong k p w P → (lists : List (List Entry)) (entries : List Entry)
      (before gave now : View) → Went before gave (list_answer false (after_turns p w lists) entries) []
      → Went gave now [] (turn p (after_turns p w lists) entries).said → now.broke ≡ false
      → P lists (side before.seats k) (own (k + 1) (all_entries lists)) (messages_to (k + 1) (turns_said p w lists))
      → P (lists ++ entries ∷ []) (side now.seats k) (own (k + 1) (all_entries (lists ++ entries ∷ [])))
      (messages_to (k + 1) (turns_said p w (lists ++ entries ∷ [])))
  turn_keep k p w holds lists entries before gave now gives said whole so =
      let n = k + 1 in
      let all = lists ++ entries ∷ [] in
      let kept = holds.turn_keeps lists entries in
      let more = holds.more lists entries (side before.seats k) (own n (all_entries lists)) (messages_to n (turns_said p w lists)) so in
      let first = went_keep k kept before gave (list_answer false (after_turns p w lists) entries) [] (own n (all_entries lists))
      (messages_to n (turns_said p w lists)) gives (whole_before gave now [] _ said whole)
      (record { sessions = refl; list_is = refl }, tt) more in
      let second = went_keep k kept gave now [] (turn p (after_turns p w lists) entries).said
      (own n (all_entries lists) ++ own n (filter is_of_session entries ++ [])) (messages_to n (turns_said p w lists) ++ []) said whole tt first in
      subst (λ (l : List (List ℕ)). P all (side now.seats k) (own n (all_entries all)) l)
      (ap (λ (l : List (List ℕ)). l ++ messages_to n (turn p (after_turns p w lists) entries).said) (append-nil (messages_to n (turns_said p w lists)))
      ∙ sym (messages_join n (turns_said p w lists) (turn p (after_turns p w lists) entries).said)
      ∙ ap (λ (l : List Message). messages_to n (turns_said p w lists ++ l)) (sym (append-nil (turn p (after_turns p w lists) entries).said))
      ∙ ap (messages_to n) (sym (runs_join.said p w lists (entries ∷ []))))
      (subst (λ (l : List Entry). P all (side now.seats k) l
      ((messages_to n (turns_said p w lists) ++ []) ++ messages_to n (turn p (after_turns p w lists) entries).said))
      (append-nil (own n (all_entries lists) ++ own n (filter is_of_session entries ++ []))
      ∙ ap (λ (l : List Entry). own n (all_entries lists) ++ own n l) (append-nil (filter is_of_session entries))
      ∙ ap (λ (l : List Entry). own n (all_entries lists) ++ l) (own_given n entries)
      ∙ sym (own_join n (all_entries lists) entries)
      ∙ ap (λ (l : List Entry). own n (all_entries lists ++ l)) (sym (append-nil entries))
      ∙ ap (own n) (sym (flat_map-append (λ (l : List Entry). l) lists (entries ∷ []))))
      second)

  -- A fact that holds along a run and at its start holds at each point of it.
  pub serves_keep : (k : ℕ) (p : Plan) (w : World) → HoldsAlong k p w P → (lists : List (List Entry)) (old new : View)
      → Serves p w lists old new → new.broke ≡ false → P [] (side old.seats k) [] []
      → P lists (side new.seats k) (own (k + 1) (all_entries lists)) (messages_to (k + 1) (turns_said p w lists))
  serves_keep k p w holds all old new (no_turn v) whole start = start
  serves_keep k p w holds all old new (one_more lists entries one before gave now early gives said) whole start =
      turn_keep k p w holds lists entries before gave now gives said whole
      (serves_keep k p w holds lists one before early
      (whole_before before gave _ [] gives (whole_before gave now [] _ said whole)) start)

  -- and also after the last answers, which give no list
  pub run_keeps : (k : ℕ) (p : Plan) (w : World) → HoldsAlong k p w P → (lists : List (List Entry)) (old mid new : View)
      (last : List Answer) → Serves p w lists old mid → Went mid new last [] → AllShown (λ there list. ⊥) last → new.broke ≡ false
      → P [] (side old.seats k) [] []
      → P lists (side new.seats k) (own (k + 1) (all_entries lists) ++ own (k + 1) (given_by last)) (messages_to (k + 1) (turns_said p w lists) ++ [])
  run_keeps k p w holds lists old mid new last serves ends none whole start =
      went_keep k (holds.last_keeps lists) mid new last [] (own (k + 1) (all_entries lists)) (messages_to (k + 1) (turns_said p w lists))
      ends whole none
      (serves_keep k p w holds lists old mid serves (whole_before mid new last [] ends whole) start)
