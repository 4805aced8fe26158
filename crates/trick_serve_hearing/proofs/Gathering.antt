-- A list that is gathered from many sessions.
use Rattle.std.proofs.Common.{◌≡◌, ◌≢◌, ◌∙◌, ◌⊎◌, ⊎_elim, inl, inr, ℕ, ◌+◌, ◌-◌, ◌<◌, ◌≤◌, Bool, true, false, cond, eqb, List, [], ◌∷◌, ◌++◌, Some, ap, append_assoc, append-nil, arith, length, refl, slice_index_or, slice_set, subst, sym}
use Rattle.std.proofs.Math.Bool.{or-false}
use Rattle.std.proofs.lemmas.Bool.{and_from, false≢true}
use Rattle.std.proofs.lemmas.Bool.Decides.{eqb_tells, nat_tests}
use Rattle.std.proofs.lemmas.List.{length-set, length_push}
use Rattle.std.proofs.lemmas.List.Elements.{All-filter, filter-append}
use Rattle.std.proofs.lemmas.List.Folds.{list_any-append, list_any_at}
use Rattle.std.specs.List.{filter, list_any}
use Rattle.std.specs.Prelude.{not, ◌&&◌, ◌||◌, nat_le, nat_lt}
use Rattle.trick_base.proofs.Numbers.{equal_to_itself}
use Rattle.trick_model.specs.Journal.{is_session}
use Rattle.trick_model.specs.Session.{is_empty}
use Rattle.trick_model.specs.declared.entry.Cause.TheVariants as cause
use Rattle.trick_model.specs.declared.entry.Entry.{Entry}
use Rattle.trick_model.specs.declared.entry.Entry.TheVariants.{Join, Leave}
use Rattle.trick_model.specs.declared.session.Session.{Session}
use Rattle.trick_serve_hearing.proofs.Keeping.{keeps_all, keeps_leave, keeps_more, keeps_none, without_if}
use Rattle.trick_serve_hearing.proofs.Living.{left_stays, lives_more, lives_none, other, own_all, own_all_other, own_leave, own_leave_other, own_more, own_more_other, own_pair, listed_same}
use Rattle.trick_serve_hearing.proofs.Placing.{among_filter, filter_all, filter_twice, live_left, live_push, live_same, side_after, side_at, side_before, side_other, side_past, side_push, side_set}
use Rattle.trick_serve_hearing.specs.Gathering.{Gathers, HasListed, HasLooked}
use Rattle.trick_serve_hearing.specs.Life.{Goes, Happening, HangsUp, IsSeated, Lives, is_idle, entries_of, entries_of_all, own}
use Rattle.trick_serve_hearing.specs.Rules.{AreSeated, Keeps, is_live, sessions_by}
use Rattle.trick_serve_hearing.specs.Sides.{Side, nobody, queues_of, side, side_of}
use Rattle.trick_serve_hearing.specs.declared.seat.Seat.{Seat}
use Rattle.trick_exec_sources.specs.Turns.{Sessions, after_entry, in_next, is_among}
use Rattle.trick_wire.specs.Ends.{put_by, taken_by}

-- ---- a list begins

pub gathers_none : (there : List Session) (seats : List Seat) (live : List ℕ) → Gathers there seats live seats live [] true
gathers_none there seats live = record {
  count = omega arith;
  fresh = λ d k past. refl;
  lives = λ k. ([], lives_none (k + 1) there (side seats k), λ d. refl);
  keeps = λ d. keeps_none (sessions_by seats live live);
}

-- the sessions as a list begins
pub begins : (seats : List Seat) (live reached : List ℕ) → AreSeated live seats
    → sessions_by seats (filter (is_live seats) live) (filter (is_live seats) live) ≡ in_next (sessions_by seats live reached)
begins seats live reached seated = λ i. record {
  highest = length seats;
  live = filter_twice (λ m. (0 < m) × (m ≤ length seats)) (is_live seats) live seated i;
  reached = filter (is_live seats) live;
}

-- ---- numbers

apart_numbers : (i k : ℕ) → k ≢ i → i + 1 ≢ k + 1
apart_numbers i k apart = λ same. apart (omega (arith, same))

pub is_number : (n : ℕ) → 0 < n → n ≤ 4294967295 → is_session n ≡ true
is_number n low high = and_from (nat_le 1 n) (nat_le n 4294967295) (grind (arith, nat_tests)) (grind (arith, nat_tests))

-- ---- one session, of which something is listed

pub sessions_stay : (seats : List Seat) (live : List ℕ) (i : ℕ) (d seat : Seat) → i < length seats → seat.left ≡ (slice_index_or seats i d).left
    → sessions_by seats live live ≡ sessions_by (slice_set seats i seat) live live
sessions_stay seats live i d seat there same = λ j. record {
  highest = sym (length-set seats i seat) j;
  live = sym (live_same seats (slice_set seats i seat) live (λ k. ⊎_elim
      (λ yes. subst (λ (m : ℕ). (side (slice_set seats i seat) m).left ≡ (side seats m).left) (sym yes.1)
      (ap (λ (s : Side). s.left) (side_set seats i seat there) ∙ same ∙ sym (ap (λ (s : Side). s.left) (side_at seats i d there))))
      (λ no. ap (λ (s : Side). s.left) (side_other seats i k seat no.1))
      (eqb_tells k i))) j;
  reached = live;
}

sessions_set : (seats : List Seat) (live : List ℕ) (n i : ℕ) (d seat : Seat) (left : Bool) → n ≡ i + 1 → i < length seats → AreSeated live seats
    → (slice_index_or seats i d).left ≡ false → seat.left ≡ left
    → without_if left n (sessions_by seats live live) ≡ sessions_by (slice_set seats i seat) live live
sessions_set seats live n i d seat true is there seated stays left = λ j. record {
  highest = sym (length-set seats i seat) j;
  live = sym (live_left seats (slice_set seats i seat) live n i is seated (ap (λ (s : Side). s.left) (side_set seats i seat there) ∙ left)
      (λ k apart. ap (λ (s : Side). s.left) (side_other seats i k seat apart))) j;
  reached = live;
}
sessions_set seats live n i d seat false is there seated stays left = sessions_stay seats live i d seat there (left ∙ sym stays)

-- Entries are added to the list for one session, whose place changes.
pub gathers_place : (there : List Session) (was : List Seat) (known : List ℕ) (seats : List Seat) (live : List ℕ) (list late more : List Entry)
    (i : ℕ) (seat : Seat) (done : Bool) → Gathers there was known seats live list true → i < length seats
    → (done ≡ true → late ≡ list ++ more) → own (i + 1) more ≡ more → ((k : ℕ) → k ≢ i → own (k + 1) more ≡ [])
    → ((mine : List Entry) → Lives (i + 1) there (side was i) (side seats i) mine → mine ≡ own (i + 1) list
    → Lives (i + 1) there (side was i) (side_of seat) (mine ++ more))
    → (done ≡ true → Keeps (sessions_by was known known) late (sessions_by (slice_set seats i seat) live live))
    → Gathers there was known (slice_set seats i seat) live late done
gathers_place there was known seats live list late more i seat done so inside is mine_own none_other lives keeps = record {
  count = omega (arith, so.count, length-set seats i seat);
  fresh = λ d k past. added k (apart k past) d ∙ so.fresh refl k (before k past);
  lives = λ k. ⊎_elim
      (λ yes. subst (λ (m : ℕ). (mine : List Entry) × Lives (m + 1) there (side was m) (side (slice_set seats i seat) m) mine × (done ≡ true → mine ≡ own (m + 1) late)) (sym yes.1) here)
      (λ no. let old = so.lives k in
      (old.0, subst (λ (s : Side). Lives (k + 1) there (side was k) s old.0) (sym (side_other seats i k seat no.1)) old.1, λ d. old.2 refl ∙ sym (added k no.1 d)))
      (eqb_tells k i);
  keeps = keeps;
}
  where
    before : (k : ℕ) → length (slice_set seats i seat) ≤ k → length seats ≤ k
    before k past = omega (arith, past, length-set seats i seat)

    apart : (k : ℕ) → length (slice_set seats i seat) ≤ k → k ≢ i
    apart k past = let low : length seats ≤ k = before k past in λ same. absurd (no low same)
      where
        no : length seats ≤ k → k ≡ i → ⊥
        no low same = omega (arith, low, same, inside)

    added : (k : ℕ) → k ≢ i → done ≡ true → own (k + 1) late ≡ own (k + 1) list
    added k other d =
        ap (own (k + 1)) (is d) ∙ own_pair (k + 1) list more (own (k + 1) list) [] refl (none_other k other) ∙ append-nil (own (k + 1) list)

    here : (mine : List Entry) × Lives (i + 1) there (side was i) (side (slice_set seats i seat) i) mine × (done ≡ true → mine ≡ own (i + 1) late)
    here = let old = so.lives i in (
      old.0 ++ more,
      subst (λ (s : Side). Lives (i + 1) there (side was i) s (old.0 ++ more)) (sym (side_set seats i seat inside)) (lives old.0 old.1 (old.2 refl)),
      λ d. ap (λ (l : List Entry). l ++ more) (old.2 refl) ∙ sym (ap (own (i + 1)) (is d) ∙ own_pair (i + 1) list more (own (i + 1) list) more refl mine_own),
    )

-- What came of one session is listed.
pub gathers_listed : (there : List Session) (was : List Seat) (known : List ℕ) (seats : List Seat) (live : List ℕ) (list late : List Entry)
    (n i : ℕ) (d seat : Seat) (done : Bool) → Gathers there was known seats live list true → n ≡ i + 1 → i < length seats → AreSeated live seats
    → n ≤ 4294967295 → is_among n live ≡ true → HasListed n (side_of (slice_index_or seats i d)) (side_of seat) list late done
    → Gathers there was known (slice_set seats i seat) live late done
gathers_listed there was known seats live list late n i d seat done so is inside seated high among did =
    gathers_place there was known seats live list late (entries_of_all n hs) i seat done so inside did.listed
    (subst (λ (m : ℕ). own m (entries_of_all n hs) ≡ entries_of_all n hs) is (own_all n hs))
    (λ k apart. own_all_other (k + 1) n hs (λ same. apart (omega (arith, same, is))))
    (λ mine lives same. by_left (slice_index_or seats i d).left refl mine lives)
    (λ d'. keeps_left (slice_index_or seats i d).left refl d')
  where
    hs : List Happening
    hs = did.happened

    low : 0 < n
    low = omega (arith, is)

    at : side seats i ≡ side_of (slice_index_or seats i d)
    at = side_at seats i d inside

    by_left : (left : Bool) → (slice_index_or seats i d).left ≡ left → (mine : List Entry) → Lives (i + 1) there (side was i) (side seats i) mine
        → Lives (i + 1) there (side was i) (side_of seat) (mine ++ entries_of_all n hs)
    by_left true left mine lives =
        let stuck = left_stays hs (side_of (slice_index_or seats i d)) (side_of seat) (queues_of (slice_index_or seats i d)) refl left did.happens in
        let none : mine ≡ mine ++ entries_of_all n hs = sym (append-nil mine) ∙ ap (λ (l : List Happening). mine ++ entries_of_all n l) (sym stuck.0) in
        subst (λ (l : List Entry). Lives (i + 1) there (side was i) (side_of seat) l) none
        (subst (λ (s : Side). Lives (i + 1) there (side was i) s mine) (at ∙ sym stuck.1) lives)
    by_left false stays mine lives =
        subst (λ (m : ℕ). Lives (i + 1) there (side was i) (side_of seat) (mine ++ entries_of_all m hs)) (sym is)
        (lives_more (i + 1) there (side was i) (side_of (slice_index_or seats i d)) (side_of seat) mine hs
        (subst (λ (s : Side). Lives (i + 1) there (side was i) s mine) at lives) stays did.happens)

    keeps_left : (left : Bool) → (slice_index_or seats i d).left ≡ left → done ≡ true
        → Keeps (sessions_by was known known) late (sessions_by (slice_set seats i seat) live live)
    keeps_left true left d' =
        let stuck = left_stays hs (side_of (slice_index_or seats i d)) (side_of seat) (queues_of (slice_index_or seats i d)) refl left did.happens in
        let same : list ≡ late = sym (append-nil list) ∙ ap (λ (l : List Happening). list ++ entries_of_all n l) (sym stuck.0) ∙ sym (did.listed d') in
        subst (λ (l : List Entry). Keeps (sessions_by was known known) l (sessions_by (slice_set seats i seat) live live)) same
        (subst (λ (s : Sessions). Keeps (sessions_by was known known) list s)
        (sessions_stay seats live i d seat inside (ap (λ (s : Side). s.left) stuck.1)) (so.keeps refl))
    keeps_left false stays d' =
        subst (λ (l : List Entry). Keeps (sessions_by was known known) l (sessions_by (slice_set seats i seat) live live)) (sym (did.listed d'))
        (subst (λ (s : Sessions). Keeps (sessions_by was known known) (list ++ entries_of_all n hs) s)
        (sessions_set seats live n i d seat seat.left is inside seated stays refl)
        (keeps_all n (sessions_by was known known) (sessions_by seats live live) list hs (side_of (slice_index_or seats i d)) (side_of seat)
        (is_number n low high) live_there
        (record { queues = queues_of (slice_index_or seats i d); seated = refl; stays = stays }) did.happens (so.keeps refl)))
      where
        live_there : is_among n (filter (is_live seats) live) ≡ true
        live_there = among_filter n (is_live seats) live
            (ap not (ap (λ (k : ℕ). (side seats k).left) (place n is) ∙ ap (λ (s : Side). s.left) at ∙ stays)) among
          where
            place : (n : ℕ) → n ≡ i + 1 → n - 1 ≡ i
            place n is = omega (arith, is)

-- ---- hanging up

-- A session of which nothing was listed yet hangs up, or nothing happens to it.
pub gathers_looked : (there : List Session) (one : Session) (was : List Seat) (known : List ℕ) (seats : List Seat) (live : List ℕ) (list late : List Entry)
    (n i : ℕ) (d seat : Seat) → Gathers there was known seats live list true → n ≡ i + 1 → i < length seats → AreSeated live seats
    → n ≤ 4294967295 → is_among n live ≡ true → (is_idle n (one ∷ []) ≡ true → is_idle n there ≡ true)
    → ((slice_index_or seats i d).left ≡ false → (side seats i ≡ side was i) × (own (i + 1) list ≡ []))
    → HasLooked n (one ∷ []) (side_of (slice_index_or seats i d)) (side_of seat) list late
    → Gathers there was known (slice_set seats i seat) live late true
gathers_looked there one was known seats live list late n i d seat so is inside seated high among shown quiet did = ⊎_elim
    (λ yes. let up = yes.0 in let stays = up.here.stays in let still = quiet stays in
    let at : side seats i ≡ side_of (slice_index_or seats i d) = side_at seats i d inside in
    let hangs : HangsUp n there (side_of (slice_index_or seats i d)) (side_of seat) (Leave n cause.HungUp ∷ []) =
    record { here = up.here; ended = up.ended; idle = shown up.idle; is = up.is; entries = refl } in
    gathers_place there was known seats live list late (Leave n cause.HungUp ∷ []) i seat true so inside (λ d'. yes.1)
    (subst (λ (m : ℕ). own m (Leave n cause.HungUp ∷ []) ≡ Leave n cause.HungUp ∷ []) is (own_leave n (Some cause.HungUp)))
    (λ k apart. own_leave_other (k + 1) n (Some cause.HungUp) (λ same. apart (omega (arith, same, is))))
    (λ mine lives same. inl (subst (λ (l : List Entry). HangsUp (i + 1) there (side was i) (side_of seat) (l ++ Leave n cause.HungUp ∷ [])) (sym (same ∙ still.1))
    (subst (λ (s : Side). HangsUp (i + 1) there s (side_of seat) (Leave n cause.HungUp ∷ [])) (sym at ∙ still.0)
    (subst (λ (m : ℕ). HangsUp m there (side_of (slice_index_or seats i d)) (side_of seat) (Leave n cause.HungUp ∷ [])) is hangs))))
    (λ d'. subst (λ (l : List Entry). Keeps (sessions_by was known known) l (sessions_by (slice_set seats i seat) live live)) (sym yes.1)
    (subst (λ (s : Sessions). Keeps (sessions_by was known known) (list ++ Leave n cause.HungUp ∷ []) s)
    (sessions_set seats live n i d seat true is inside seated stays (ap (λ (s : Side). s.left) up.is))
    (keeps_leave n (sessions_by was known known) (sessions_by seats live live) list (Some cause.HungUp) (is_number n (low is) high)
    (live_there at stays) (so.keeps refl)))))
    (λ no. gathers_listed there was known seats live list late n i d seat true so is inside seated high among
    (listed_same n (side_of (slice_index_or seats i d)) (side_of seat) list late true no.0 no.1))
    did.looked
  where
    low : n ≡ i + 1 → 0 < n
    low is = omega (arith, is)

    live_there : side seats i ≡ side_of (slice_index_or seats i d) → (slice_index_or seats i d).left ≡ false → is_among n (filter (is_live seats) live) ≡ true
    live_there at stays = among_filter n (is_live seats) live
        (ap not (ap (λ (k : ℕ). (side seats k).left) (place is) ∙ ap (λ (s : Side). s.left) at ∙ stays)) among
      where
        place : n ≡ i + 1 → n - 1 ≡ i
        place is = omega (arith, is)

-- Of the sessions that have not left nothing was listed.
abbrev pub AreQuiet : List Seat → List Seat → List Entry → Type 0
AreQuiet was seats list = (k : ℕ) → (side seats k).left ≡ false → (side seats k ≡ side was k) × (own (k + 1) list ≡ [])

pub quiet_none : (seats : List Seat) → AreQuiet seats seats []
quiet_none seats = λ k stays. (refl, refl)

pub quiet_looked : (there : List Session) (was seats : List Seat) (list late : List Entry) (n i : ℕ) (d seat : Seat) → n ≡ i + 1 → i < length seats
    → AreQuiet was seats list → HasLooked n there (side_of (slice_index_or seats i d)) (side_of seat) list late
    → AreQuiet was (slice_set seats i seat) late
quiet_looked there was seats list late n i d seat is inside quiet did = ⊎_elim
    (λ yes k. ⊎_elim
    (λ here stays. absurd (false≢true (sym stays ∙ ap (λ (m : ℕ). (side (slice_set seats i seat) m).left) here.1
    ∙ ap (λ (s : Side). s.left) (side_set seats i seat inside ∙ yes.0.is))))
    (λ far stays. let same : side (slice_set seats i seat) k ≡ side seats k = side_other seats i k seat far.1 in
    let old = quiet k (sym (ap (λ (s : Side). s.left) same) ∙ stays) in (
      same ∙ old.0,
      ap (own (k + 1)) yes.1
          ∙ own_pair (k + 1) list (Leave n cause.HungUp ∷ []) (own (k + 1) list) [] refl (own_leave_other (k + 1) n (Some cause.HungUp) (λ e. far.1 (omega (arith, e, is))))
          ∙ append-nil (own (k + 1) list) ∙ old.1,
    ))
    (eqb_tells k i))
    (λ no k stays. let same = stays_as k no.0 in
    let old = quiet k (sym (ap (λ (s : Side). s.left) same) ∙ stays) in (same ∙ old.0, ap (own (k + 1)) no.1 ∙ old.1))
    did.looked
  where
    stays_as : (k : ℕ) → side_of seat ≡ side_of (slice_index_or seats i d) → side (slice_set seats i seat) k ≡ side seats k
    stays_as k same = ⊎_elim
        (λ here. subst (λ (m : ℕ). side (slice_set seats i seat) m ≡ side seats m) (sym here.1)
        (side_set seats i seat inside ∙ same ∙ sym (side_at seats i d inside)))
        (λ far. side_other seats i k seat far.1)
        (eqb_tells k i)

-- ---- a client is seated

-- Nothing has gone through the ends of its queues, and it has left already where a thread was refused to it.
pub record IsFreshSeat (seat : Seat) : Type 0 where
  pub no_line : taken_by seat.inbox ≡ []
  pub no_message : put_by seat.outbox ≡ []
  pub no_cause : taken_by seat.causes ≡ []
  pub refused : seat.refused ≡ seat.left

pub gathers_joined : (there : List Session) (was : List Seat) (known : List ℕ) (seats : List Seat) (live : List ℕ) (list late : List Entry)
    (n : ℕ) (seat : Seat) → Gathers there was known seats live list true → n ≡ length seats + 1 → AreSeated live seats → n ≤ 4294967295
    → seat.slow ≡ false → IsFreshSeat seat → late ≡ list ++ (Join n ∷ cond seat.left (Leave n cause.NoThread ∷ []) [])
    → Gathers there was known (seats ++ seat ∷ []) (live ++ n ∷ []) late true
gathers_joined there was known seats live list late n seat so is seated high slow new added = record {
  count = omega (arith, so.count, length_push seats seat);
  fresh = λ d k past. far k (past_one k past) ∙ so.fresh refl k (past_two k past);
  lives = λ k. ⊎_elim (λ here. subst At (sym here.1) at_new) (λ no. at_other k no.1) (eqb_tells k (length seats));
  keeps = λ d. subst (λ (l : List Entry). Keeps (sessions_by was known known) l (sessions_by (seats ++ seat ∷ []) (live ++ n ∷ []) (live ++ n ∷ []))) (sym added)
      (by_left seat.left refl);
}
  where
    hs : List Happening
    hs = IsSeated (side_of seat) seat.left ∷ []

    all_added : late ≡ list ++ entries_of_all n hs
    all_added = added ∙ ap (λ (l : List Entry). list ++ l) (sym (append-nil (entries_of n (IsSeated (side_of seat) seat.left))))

    past_one : (k : ℕ) → length (seats ++ seat ∷ []) ≤ k → k ≢ length seats
    past_one k past = λ same. absurd (no past same)
      where
        no : length (seats ++ seat ∷ []) ≤ k → k ≡ length seats → ⊥
        no past same = omega (arith, past, same, length_push seats seat)

    past_two : (k : ℕ) → length (seats ++ seat ∷ []) ≤ k → length seats ≤ k
    past_two k past = omega (arith, past, length_push seats seat)

    far : (k : ℕ) → k ≢ length seats → own (k + 1) late ≡ own (k + 1) list
    far k apart = own_more_other (k + 1) n hs list late (λ same. apart (omega (arith, same, is))) all_added

    At : ℕ → Type 0
    At k = (mine : List Entry) × Lives (k + 1) there (side was k) (side (seats ++ seat ∷ []) k) mine × (true ≡ true → mine ≡ own (k + 1) late)

    first : side was (length seats) ≡ nobody
    first = side_past was (length seats) so.count

    goes : Goes n (side was (length seats)) (side (seats ++ seat ∷ []) (length seats)) (entries_of_all n hs)
    goes = record {
      happened = hs;
      happens = (record { first = first; seated = λ i. record (side_of seat) { slow = slow i }; fresh = (new.no_line, new.no_cause, new.no_message); client = (queues_of seat, refl, new.refused) }, side_push seats seat (length seats) refl);
      entries = refl;
    }

    at_new : At (length seats)
    at_new = (
      entries_of_all n hs,
      inr (subst (λ (m : ℕ). Goes m (side was (length seats)) (side (seats ++ seat ∷ []) (length seats)) (entries_of_all n hs)) is goes),
      λ d. sym (ap (λ (m : ℕ). own m late) (sym is) ∙ own_more n hs list late all_added
          ∙ ap (λ (l : List Entry). l ++ entries_of_all n hs) (ap (λ (m : ℕ). own m list) is ∙ so.fresh refl (length seats) (omega arith))),
    )

    at_other : (k : ℕ) → k ≢ length seats → At k
    at_other k apart = let old = so.lives k in
        (old.0, subst (λ (s : Side). Lives (k + 1) there (side was k) s old.0) (sym (side_same k apart)) old.1, λ d. old.2 refl ∙ sym (far k apart))
      where
        side_same : (k : ℕ) → k ≢ length seats → side (seats ++ seat ∷ []) k ≡ side seats k
        side_same k apart = ⊎_elim (λ (low : k < length seats). side_before seats seat k low) (λ (up : length seats < k). side_after seats seat k up) (cases k apart)
          where
            cases : (k : ℕ) → k ≢ length seats → (k < length seats) ⊎ (length seats < k)
            cases k apart = grind arith

    mid : Sessions
    mid = sessions_by seats live live

    joined : Sessions
    joined = after_entry (Join n) mid

    one : Keeps (sessions_by was known known) (list ++ Join n ∷ []) joined
    one = keeps_more (sessions_by was known known) mid joined list (Join n) (so.keeps refl) refl (is_number n (omega (arith, is)) high) (rises is) refl
      where
        rises : n ≡ length seats + 1 → nat_lt (length seats) n ≡ true
        rises is = grind (arith, nat_tests)

    among : is_among n joined.live ≡ true
    among = list_any-append (λ s. eqb s n) mid.live (n ∷ []) ∙ right (list_any (λ s. eqb s n) mid.live) (eqb n n) (equal_to_itself n)
      where
        right : (b c : Bool) → c ≡ true → (b || (c || false)) ≡ true
        right true c is = refl
        right false c is = ap (λ (x : Bool). x || false) is

    -- what the sessions are after it
    becomes : (left : Bool) → seat.left ≡ left → filter (is_live (seats ++ seat ∷ [])) (live ++ n ∷ []) ≡ mid.live ++ cond (not left) (n ∷ []) []
    becomes left l = live_push seats seat live n is seated ∙ ap (λ (b : Bool). mid.live ++ cond (not b) (n ∷ []) []) l

    others_stay : filter (λ m. not (eqb m n)) mid.live ≡ mid.live
    others_stay = filter_all (λ m. (0 < m) × (m ≤ length seats)) (λ m. not (eqb m n)) (λ m h. ap not (other n m (below m h.1))) mid.live
        (All-filter (is_live seats) (λ m. (0 < m) × (m ≤ length seats)) live seated)
      where
        below : (m : ℕ) → m ≤ length seats → m ≢ n
        below m low = λ same. absurd (no low same)
          where
            no : m ≤ length seats → m ≡ n → ⊥
            no low same = omega (arith, low, same, is)

    without_new : filter (λ m. not (eqb m n)) (mid.live ++ n ∷ []) ≡ mid.live ++ []
    without_new =
        filter-append (λ m. not (eqb m n)) mid.live (n ∷ [])
        ∙ (λ i. others_stay i ++ cond (not (equal_to_itself n i)) (n ∷ []) [])

    by_left : (left : Bool) → seat.left ≡ left
        → Keeps (sessions_by was known known) (list ++ (Join n ∷ cond seat.left (Leave n cause.NoThread ∷ []) []))
        (sessions_by (seats ++ seat ∷ []) (live ++ n ∷ []) (live ++ n ∷ []))
    by_left true left =
        subst (λ (b : Bool). Keeps (sessions_by was known known) (list ++ (Join n ∷ cond b (Leave n cause.NoThread ∷ []) [])) (sessions_by (seats ++ seat ∷ []) (live ++ n ∷ []) (live ++ n ∷ []))) (sym left)
        (subst (λ (s : Sessions). Keeps (sessions_by was known known) (list ++ (Join n ∷ Leave n cause.NoThread ∷ [])) s)
        (λ j. record { highest = (is ∙ sym (length_push seats seat)) j; live = (without_new ∙ sym (becomes true left)) j; reached = live ++ n ∷ [] })
        (subst (λ (l : List Entry). Keeps (sessions_by was known known) l (without_if true n joined)) (append_assoc list (Join n ∷ []) (Leave n cause.NoThread ∷ []))
        (keeps_leave n (sessions_by was known known) joined (list ++ Join n ∷ []) (Some cause.NoThread) (is_number n (omega (arith, is)) high) among one)))
    by_left false left =
        subst (λ (b : Bool). Keeps (sessions_by was known known) (list ++ (Join n ∷ cond b (Leave n cause.NoThread ∷ []) [])) (sessions_by (seats ++ seat ∷ []) (live ++ n ∷ []) (live ++ n ∷ []))) (sym left)
        (subst (λ (s : Sessions). Keeps (sessions_by was known known) (list ++ Join n ∷ []) s)
        (λ j. record { highest = (is ∙ sym (length_push seats seat)) j; live = sym (becomes false left) j; reached = live ++ n ∷ [] })
        one)

-- ---- the same, where memory was wanting, and along equal lists

pub gathers_any : (there : List Session) (was : List Seat) (known : List ℕ) (seats : List Seat) (live : List ℕ) (list : List Entry) (done : Bool)
    → Gathers there was known seats live list true → Gathers there was known seats live list done
gathers_any there was known seats live list done so = record {
  count = so.count;
  fresh = λ d. so.fresh refl;
  lives = λ k. let one = so.lives k in (one.0, one.1, λ d. one.2 refl);
  keeps = λ d. so.keeps refl;
}

pub gathers_same : (there : List Session) (was : List Seat) (known : List ℕ) (seats seats' : List Seat) (live live' : List ℕ) (list list' : List Entry) (done : Bool)
    → seats' ≡ seats → live' ≡ live → list' ≡ list → Gathers there was known seats live list true → Gathers there was known seats' live' list' done
gathers_same there was known seats seats' live live' list list' done same_seats same_live same_list so =
    gathers_any there was known seats' live' list' done
    (subst (λ (l : List Entry). Gathers there was known seats' live' l true) (sym same_list)
    (subst (λ (l : List ℕ). Gathers there was known seats' l list true) (sym same_live)
    (subst (λ (l : List Seat). Gathers there was known l live list true) (sym same_seats) so)))

-- one of those that are shown
pub idle_there : (n : ℕ) (there : List Session) (at : ℕ) (one : Session) → at < length there → one ≡ slice_index_or there at one
    → is_idle n (one ∷ []) ≡ true → is_idle n there ≡ true
idle_there n there at one inside is idle =
    list_any_at (λ s. eqb s.number n && (s.paused || is_empty s.variables)) there at one inside
    (subst (λ (s : Session). (eqb s.number n && (s.paused || is_empty s.variables)) ≡ true) is (sym (or-false (eqb one.number n && (one.paused || is_empty one.variables))) ∙ idle))

pub among_at : (n : ℕ) (live : List ℕ) (at : ℕ) → at < length live → n ≡ slice_index_or live at 0 → is_among n live ≡ true
among_at n live at inside is =
    list_any_at (λ s. eqb s n) live at 0 inside (subst (λ (m : ℕ). eqb m n ≡ true) is (equal_to_itself n))
