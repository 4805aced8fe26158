-- Which sessions join in a run.
use Rattle.std.proofs.Common.{◌≡◌, ◌≢◌, ◌∙◌, ◌⊎◌, inl, inr, ⊎_elim, ℕ, zero, suc, ◌+◌, ◌<◌, ◌≤◌, Bool, true, false, cond, eqb, List, [], ◌∷◌, ◌++◌, Option, Some, None, ap, append_assoc, arith, length, map, refl, slice_index_or, subst, sym}
use Rattle.std.proofs.lemmas.Bool.{and_parts, cases_lt, eq-eqb, ltb-true, ne_eqb}
use Rattle.std.specs.List.{filter}
use Rattle.std.specs.Prelude.{◌&&◌}
use Rattle.trick_model_sessions.specs.Silence.{newcomers}
use Rattle.trick_model.specs.Journal.{is_entry, may_follow}
use Rattle.trick_model.specs.declared.entry.Cause.{Cause}
use Rattle.trick_model.specs.declared.entry.Entry.{Entry}
use Rattle.trick_model.specs.declared.entry.Entry.TheVariants.{Join, Said, Leave, Publish}
use Rattle.trick_exec_meaning.specs.Answers.{given}
use Rattle.trick_serve_hearing.proofs.Placing.{side_at, side_past}
use Rattle.trick_serve_hearing.specs.Life.{leave_of, own}
use Rattle.trick_serve_hearing.specs.Sides.{Queues, Side, nobody, queues_of, side, side_of}
use Rattle.trick_serve_hearing.specs.declared.seat.Seat.{Seat}
use Rattle.trick_serve_facts.proofs.Clients.{lives_at_end}
use Rattle.trick_serve_facts.specs.Joins.{JoinsAreInOrder, numbers_from}
use Rattle.trick_serve_facts.specs.Life.{HasEntries, life}
use Rattle.trick_serve_facts.specs.Serves.{all_entries}
use Rattle.trick_exec_sources.specs.Turns.{Sessions, after_entries, after_entry, in_next, is_succession, may_all_come, may_come, no_sessions}

-- ---- joins of one session

pub joins_join : (early late : List Entry) → newcomers (early ++ late) ≡ newcomers early ++ newcomers late
joins_join [] late = refl
joins_join (Join session ∷ early) late = ap (λ (l : List ℕ). session ∷ l) (joins_join early late)
joins_join (Said session line ∷ early) late = joins_join early late
joins_join (Leave session why ∷ early) late = joins_join early late
joins_join (Publish thread ∷ early) late = joins_join early late

same_joins : (b : Bool) (entry : Entry) (some : List Entry) → newcomers (entry ∷ some) ≡ newcomers some → newcomers (cond b (entry ∷ some) some) ≡ newcomers some
same_joins true entry some is = is
same_joins false entry some is = refl

own_joins : (n : ℕ) (entries : List Entry) → newcomers (own n entries) ≡ filter (λ m. eqb m n) (newcomers entries)
own_joins n [] = refl
own_joins n (Join session ∷ entries) = by (eqb session n) (own_joins n entries)
  where
    by : (b : Bool) → newcomers (own n entries) ≡ filter (λ m. eqb m n) (newcomers entries)
        → newcomers (cond b (Join session ∷ own n entries) (own n entries))
        ≡ cond b (session ∷ filter (λ m. eqb m n) (newcomers entries)) (filter (λ m. eqb m n) (newcomers entries))
    by true more = ap (λ (l : List ℕ). session ∷ l) more
    by false more = more
own_joins n (Said session line ∷ entries) = same_joins (eqb session n) (Said session line) (own n entries) refl ∙ own_joins n entries
own_joins n (Leave session why ∷ entries) = same_joins (eqb session n) (Leave session why) (own n entries) refl ∙ own_joins n entries
own_joins n (Publish thread ∷ entries) = own_joins n entries

said_joins : (n : ℕ) (lines : List (List ℕ)) (leave : Option Cause) → newcomers (map (λ (line : List ℕ). Said n line) lines ++ leave_of n leave) ≡ []
said_joins n [] None = refl
said_joins n [] (Some why) = refl
said_joins n (line ∷ lines) leave = said_joins n lines leave

life_joins : (n : ℕ) (lines : List (List ℕ)) (leave : Option Cause) → newcomers (life n lines leave) ≡ n ∷ []
life_joins n lines leave = ap (λ (l : List ℕ). n ∷ l) (said_joins n lines leave)

-- ---- numbers that rise

-- These numbers rise, and are above a first one.
abbrev pub RiseAbove : ℕ → List ℕ → Type 0
RiseAbove a [] = Unit {0}
RiseAbove a (n ∷ ns) = (a < n) × RiseAbove n ns

pub rise_lower : (a b : ℕ) (ns : List ℕ) → a ≤ b → RiseAbove b ns → RiseAbove a ns
rise_lower a b [] low rise = tt
rise_lower a b (n ∷ ns) low rise = (omega (arith, low, rise.0), rise.1)

-- a number below them is none of them
none_below : (n a : ℕ) (ns : List ℕ) → n ≤ a → RiseAbove a ns → filter (λ m. eqb m n) ns ≡ []
none_below n a [] low rise = refl
none_below n a (m ∷ ns) low rise =
    ap (λ (b : Bool). cond b (m ∷ filter (λ x. eqb x n) ns) (filter (λ x. eqb x n) ns)) (ne_eqb m n (λ is. omega (arith, low, rise.0, is)))
    ∙ none_below n m ns (omega (arith, low, rise.0)) rise.1

-- one of them stands in the list once
first_kept : (n : ℕ) (ns : List ℕ) → filter (λ m. eqb m n) (n ∷ ns) ≡ n ∷ filter (λ m. eqb m n) ns
first_kept n ns = ap (λ (b : Bool). cond b (n ∷ filter (λ x. eqb x n) ns) (filter (λ x. eqb x n) ns)) (eq-eqb n n refl)

other_dropped : (n m : ℕ) (ns : List ℕ) → m ≢ n → filter (λ x. eqb x n) (m ∷ ns) ≡ filter (λ x. eqb x n) ns
other_dropped n m ns apart = ap (λ (b : Bool). cond b (m ∷ filter (λ x. eqb x n) ns) (filter (λ x. eqb x n) ns)) (ne_eqb m n apart)

not_both : (n : ℕ) (some : List ℕ) → some ≡ [] → some ≡ n ∷ [] → ⊥
not_both n some none one = cc

some_first : (n : ℕ) (ns : List ℕ) → n ∷ ns ≡ [] → ⊥
some_first n ns is = cc

-- Numbers that rise above a first one, and are all those up to a last one, are those between.
all_between : (count a : ℕ) (ns : List ℕ) → RiseAbove a ns
    → ((n : ℕ) → a < n → n ≤ a + count → filter (λ m. eqb m n) ns ≡ n ∷ [])
    → ((n : ℕ) → a + count < n → filter (λ m. eqb m n) ns ≡ []) → ns ≡ numbers_from (a + 1) count
all_between zero a [] rise there away = refl
all_between zero a (n ∷ ns) rise there away =
    absurd (some_first n (filter (λ m. eqb m n) ns) (sym (first_kept n ns) ∙ away n (omega (arith, rise.0))))
all_between (suc count) a [] rise there away = absurd (not_both (a + 1) [] refl (there (a + 1) (omega arith) (omega arith)))
all_between (suc count) a (n ∷ ns) rise there away = ⊎_elim
    (λ next.
    let low : n ≤ a + 1 = next in
    let is : n ≡ a + 1 = omega (arith, low, rise.0) in
    (λ i. is i ∷ ns) ∙ ap (λ (l : List ℕ). (a + 1) ∷ l)
    (all_between count (a + 1) ns (subst (λ (m : ℕ). RiseAbove m ns) is rise.1)
    (λ m above within. sym (other_dropped m n ns (λ same. omega (arith, same, is, above))) ∙ there m (omega (arith, above)) (omega (arith, within)))
    (λ m above. sym (other_dropped m n ns (λ same. omega (arith, same, is, above))) ∙ away m (omega (arith, above)))))
    (λ far. absurd (not_both (a + 1) (filter (λ m. eqb m (a + 1)) (n ∷ ns))
    (none_below (a + 1) (a + 1) (n ∷ ns) (omega arith) (far, rise.1)) (there (a + 1) (omega arith) (omega arith))))
    (split n (a + 1))
  where
    split : (x y : ℕ) → (x ≤ y) ⊎ (y < x)
    split x y = ⊎_elim (λ below. inr below) (λ above. inl above) (cases_lt y x)

-- ---- joins rise

one_rises : (entry : Entry) (s : Sessions) (rest : List ℕ) → may_come entry s ≡ true → RiseAbove (after_entry entry s).highest rest
    → RiseAbove s.highest (newcomers (entry ∷ []) ++ rest)
one_rises (Join session) s rest comes rise = (ltb-true s.highest session comes, rise)
one_rises (Said session line) s rest comes rise = rise
one_rises (Leave session why) s rest comes rise = rise
one_rises (Publish thread) s rest comes rise = rise

pub joins_rise : (entries : List Entry) (s : Sessions) (rest : List ℕ) → may_all_come entries s ≡ true
    → RiseAbove (after_entries entries s).highest rest → RiseAbove s.highest (newcomers entries ++ rest)
joins_rise [] s rest come rise = rise
joins_rise (entry ∷ []) s rest come rise = one_rises entry s rest (and_parts (is_entry entry) (may_come entry s) come).1 rise
joins_rise (entry ∷ other ∷ entries) s rest come rise =
    let one = and_parts (is_entry entry) (may_come entry s && (may_follow entry other && may_all_come (other ∷ entries) (after_entry entry s))) come in
    let two = and_parts (may_come entry s) (may_follow entry other && may_all_come (other ∷ entries) (after_entry entry s)) one.1 in
    let three = and_parts (may_follow entry other) (may_all_come (other ∷ entries) (after_entry entry s)) two.1 in
    subst (λ (l : List ℕ). RiseAbove s.highest l)
    (sym (append_assoc (newcomers (entry ∷ [])) (newcomers (other ∷ entries)) rest)
    ∙ ap (λ (l : List ℕ). l ++ rest) (sym (joins_join (entry ∷ []) (other ∷ entries))))
    (one_rises entry s (newcomers (other ∷ entries) ++ rest) two.0 (joins_rise (other ∷ entries) (after_entry entry s) rest three.1 rise))

pub given_joins : (entries : List Entry) → newcomers (given false entries) ≡ newcomers entries
given_joins [] = refl
given_joins (Join session ∷ entries) = ap (λ (l : List ℕ). session ∷ l) (given_joins entries)
given_joins (Said session line ∷ entries) = given_joins entries
given_joins (Leave session why ∷ entries) = given_joins entries
given_joins (Publish thread ∷ entries) = given_joins entries

lists_rise : (lists : List (List Entry)) (s : Sessions) → is_succession (map (given false) lists) s ≡ true
    → RiseAbove s.highest (newcomers (all_entries lists))
lists_rise [] s right = tt
lists_rise (entries ∷ lists) s right =
    let both = and_parts (may_all_come (given false entries) (in_next s)) (is_succession (map (given false) lists) (after_entries (given false entries) (in_next s))) right in
    subst (λ (l : List ℕ). RiseAbove s.highest l)
    (ap (λ (l : List ℕ). l ++ newcomers (all_entries lists)) (given_joins entries) ∙ sym (joins_join entries (all_entries lists)))
    (joins_rise (given false entries) (in_next s) (newcomers (all_entries lists)) both.0
    (lists_rise lists (after_entries (given false entries) (in_next s)) both.1))

-- ---- the law

some_none : (q : Queues) → Some q ≡ None → ⊥
some_none q is = cc

none_joined : (n : ℕ) (s : Side) (entries : List Entry) → s ≡ nobody → HasEntries n s entries → newcomers entries ≡ []
none_joined n s entries none (inl so) = ap newcomers so.1
none_joined n s entries none (inr lived) = absurd (some_none lived.queues (sym lived.seated ∙ ap (λ (t : Side). t.queues) none))

one_joined : (n : ℕ) (s : Side) (seat : Seat) (entries : List Entry) → s ≡ side_of seat → HasEntries n s entries → newcomers entries ≡ n ∷ []
one_joined n s seat entries is (inl so) =
    absurd (some_none (queues_of seat) (ap (λ (t : Side). t.queues) (sym is ∙ so.0)))
one_joined n s seat entries is (inr lived) = ap newcomers lived.entries_are ∙ life_joins n lived.lines lived.leave

-- a number above 0 as one more than a place
pub place_of : (n : ℕ) → 0 < n → (k : ℕ) × (k + 1 ≡ n)
place_of zero above = (zero, omega (arith, above))
place_of (suc k) above = (k, omega arith)

nothing_within : (k : ℕ) → k < zero → ⊥
nothing_within k within = omega (arith, within)

seat_at : (seats : List Seat) (k : ℕ) → k < length seats → (seat : Seat) × (side seats k ≡ side_of seat)
seat_at [] k within = absurd (nothing_within k within)
seat_at (seat ∷ seats) k within = (slice_index_or (seat ∷ seats) k seat, side_at (seat ∷ seats) k seat within)

pub joins_in_order : JoinsAreInOrder
joins_in_order p s lists old new run right =
    all_between (length new.seats) 0 (newcomers (all_entries lists)) (lists_rise lists no_sessions right)
    (λ n above within.
    let k = (place_of n above).0 in
    let is = (place_of n above).1 in
    let seat = seat_at new.seats k (omega (arith, within, is)) in
    subst (λ (m : ℕ). filter (λ x. eqb x m) (newcomers (all_entries lists)) ≡ m ∷ []) is
    (sym (own_joins (k + 1) (all_entries lists))
    ∙ one_joined (k + 1) (side new.seats k) seat.0 (own (k + 1) (all_entries lists)) seat.1 (lives_at_end p s lists old new k run)))
    (λ n above.
    let k = (place_of n (omega (arith, above))).0 in
    let is = (place_of n (omega (arith, above))).1 in
    subst (λ (m : ℕ). filter (λ x. eqb x m) (newcomers (all_entries lists)) ≡ []) is
    (sym (own_joins (k + 1) (all_entries lists))
    ∙ none_joined (k + 1) (side new.seats k) (own (k + 1) (all_entries lists)) (side_past new.seats k (omega (arith, above, is)))
    (lives_at_end p s lists old new k run)))
