-- Sessions one by one: those that are there at a start join by rising number, and the rules stay.
use Rattle.std.proofs.Common.{◌≡◌, ◌⊎◌, inl, inr, ℕ, zero, suc, ◌+◌, ◌<◌, ◌≤◌, Bool, true, false, cond, List, [], ◌∷◌, ◌++◌, append_assoc, append-nil, map, refl, sym, ap, subst, ◌∙◌, arith}
use Rattle.std.proofs.lemmas.Bool.{and_from, and_parts}
use Rattle.std.proofs.lemmas.Bool.Decides.{nat_tests}
use Rattle.std.specs.BTreeMap.{is_at}
use Rattle.std.specs.BTreeSet.{insert_key}
use Rattle.std.specs.List.{list_all, list_any}
use Rattle.std.specs.Ordering.{match_ordering, nat_cmp}
use Rattle.std.specs.Set.{remove_key}
use Rattle.std.specs.declared.cmp.Ordering.{Ordering}
use Rattle.std.specs.declared.cmp.Ordering.TheVariants.{Greater}
use Rattle.std.specs.Prelude.{◌&&◌, ◌||◌, ◌==◌, IsTrue, filter, nat_le, nat_lt, not}
use Rattle.trick_exec_sources.proofs.TurnEntries.{late_first, none_within, range_since, rising_since, rising_tail, since_all, since_late, since_one, since_within, step_up, within_head, within_since}
use Rattle.trick_exec_sources.specs.Due.{MayCome, before, is_line, joins_at, live_with, may_go_on, resumed, rise_between, since}
use Rattle.trick_model.specs.Journal.{Noted, are_in_range, are_joined, are_rising, are_within, is_entry, is_session, live_after, live_before, may_follow}
use Rattle.trick_model.specs.Time.{last_turn}
use Rattle.trick_model.specs.declared.entry.Entry.{Entry}
use Rattle.trick_model.specs.declared.entry.Entry.TheVariants.{Join, Said, Leave, Publish}
use Rattle.trick_exec_sources.specs.Turns.{Sessions, no_sessions}

-- ---- numbers that rise

rise_push : (low high session : ℕ) (live : List ℕ) → rise_between low live high ≡ true → high < session
    → rise_between low (live ++ session ∷ []) session ≡ true
rise_push low high session [] rise up = grind (arith, nat_tests)
rise_push low high session (k ∷ live) rise up =
    and_from _ _ (and_parts _ _ rise).0 (rise_push k high session live (and_parts _ _ rise).1 up)

rise_lower : (low above high : ℕ) (live : List ℕ) → low ≤ above → rise_between above live high ≡ true → rise_between low live high ≡ true
rise_lower low above high [] up rise = grind (arith, nat_tests)
rise_lower low above high (k ∷ live) up rise =
    let here : nat_lt above k ≡ true = (and_parts _ _ rise).0 in
    let low : nat_lt low k ≡ true = grind (arith, nat_tests) in
    and_from _ _ low (and_parts _ _ rise).1

rise_filter : (p : ℕ → Bool) (low high : ℕ) (live : List ℕ) → rise_between low live high ≡ true → rise_between low (filter p live) high ≡ true
rise_filter p low high [] rise = rise
rise_filter p low high (k ∷ live) rise = go (p k) (rise_filter p k high live (and_parts _ _ rise).1)
  where
    go : (b : Bool) → rise_between k (filter p live) high ≡ true → rise_between low (cond b (k ∷ filter p live) (filter p live)) high ≡ true
    go true more = and_from _ _ (and_parts _ _ rise).0 more
    go false more =
        let here : nat_lt low k ≡ true = (and_parts _ _ rise).0 in
        let up : low ≤ k = grind (arith, nat_tests) in
        rise_lower low k high (filter p live) up more

-- the first number is not above the last one
rise_top : (low high : ℕ) (live : List ℕ) → rise_between low live high ≡ true → low ≤ high
rise_top low high [] rise = grind (arith, nat_tests)
rise_top low high (k ∷ live) rise =
    let here : nat_lt low k ≡ true = (and_parts _ _ rise).0 in
    let below : low < k = grind (arith, nat_tests) in
    omega (arith, rise_top k high live (and_parts _ _ rise).1)

-- ---- one entry

-- sessions that join after a lower one
lower : (low high : ℕ) (live : List ℕ) (es : List Noted) → low ≤ high → are_joined high live es ≡ true → are_joined low live es ≡ true
lower low high live [] up h = refl
lower low high live ((t, Join session) ∷ es) up h =
    let here : nat_lt high session ≡ true = (and_parts _ _ h).0 in
    let up : nat_lt low session ≡ true = grind (arith, nat_tests) in
    and_from _ _ up (and_parts _ _ h).1
lower low high live ((t, Said session line) ∷ es) up h =
    and_from _ _ (and_parts _ _ h).0 (lower low high live es up (and_parts _ _ h).1)
lower low high live ((t, Leave session cause) ∷ es) up h =
    and_from _ _ (and_parts _ _ h).0 (lower low high (filter (λ s. not (s == session)) live) es up (and_parts _ _ h).1)
lower low high live ((t, Publish thread) ∷ es) up h = lower low high live es up h

-- The sessions that are there rise to a highest one, and what is left may follow them.
pub record Follows (live : List ℕ) (es : List Noted) : Type 0 where
  pub highest : ℕ
  pub rise : rise_between 0 live highest ≡ true
  pub joined : are_joined highest live es ≡ true

pub comes : (live : List ℕ) (e : Noted) (es : List Noted) → Follows live (e ∷ es) → MayCome live e.1
comes live (t, Join session) es f = (f.highest, f.rise, (and_parts _ _ f.joined).0)
comes live (t, Said session line) es f = (f.highest, f.rise, (and_parts _ _ f.joined).0)
comes live (t, Leave session cause) es f = (f.highest, f.rise, (and_parts _ _ f.joined).0)
comes live (t, Publish thread) es f = (f.highest, f.rise, refl)

pub follows_more : (live : List ℕ) (e : Noted) (es : List Noted) → Follows live (e ∷ es) → Follows (live_with e.1 live) es
follows_more live (t, Join session) es f =
    let here : nat_lt f.highest session ≡ true = (and_parts _ _ f.joined).0 in
    let up : f.highest < session = grind (arith, nat_tests) in
    record { highest = session; rise = rise_push 0 f.highest session live f.rise up; joined = (and_parts _ _ f.joined).1 }
follows_more live (t, Said session line) es f =
    record { highest = f.highest; rise = f.rise; joined = (and_parts _ _ f.joined).1 }
follows_more live (t, Leave session cause) es f = record {
  highest = f.highest;
  rise = rise_filter (λ s. not (s == session)) 0 f.highest live f.rise;
  joined = (and_parts _ _ f.joined).1;
}
follows_more live (t, Publish thread) es f = record { highest = f.highest; rise = f.rise; joined = f.joined }

-- ---- the sessions at a start

pub passed : (start : ℕ) (e : Noted) (live : List ℕ) → e.0 < start → live_after start e live ≡ live_with e.1 live
passed start (t, entry) live low = let h : nat_lt t start ≡ true = grind (arith, nat_tests) in go entry h
  where
    go : (entry : Entry) → nat_lt t start ≡ true → live_after start (t, entry) live ≡ live_with entry live
    go (Join session) h = rw (h, live_after) refl
    go (Said session line) h = rw (h, live_after) refl
    go (Leave session cause) h = rw (h, live_after) refl
    go (Publish thread) h = rw (h, live_after) refl

stays : (start : ℕ) (e : Noted) (live : List ℕ) → start ≤ e.0 → live_after start e live ≡ live
stays start e live up = let late : nat_lt e.0 start ≡ false = grind (arith, nat_tests) in rw (late, live_after) refl

pub all_stay : (start : ℕ) (e : Noted) (es : List Noted) (live : List ℕ) → are_rising (e ∷ es) ≡ true → start ≤ e.0
    → live_before start (e ∷ es) live ≡ live
all_stay start e [] live r up = stays start e live up
all_stay start e (f ∷ es) live r up =
    let more : start ≤ f.0 = omega (arith, step_up e f (and_parts _ _ r).0) in
    ap (live_before start (f ∷ es)) (stays start e live up) ∙ all_stay start f es live (and_parts _ _ r).1 more

-- where no entry is below the start, the sessions stay
pub none_before : (start : ℕ) (es : List Noted) (live : List ℕ) → are_rising es ≡ true → before start es ≡ [] → live_before start es live ≡ live
none_before start [] live r h = refl
none_before start (e ∷ es) live r h = all_stay start e es live r (late_first start e es h)

pub follows_start : (start : ℕ) (es : List Noted) (live : List ℕ) → are_rising es ≡ true → Follows live es
    → Follows (live_before start es live) (since start es)
follows_start start [] live r f = f
follows_start start (e ∷ es) live r f =
    go (nat_lt e.0 start) refl (follows_start start es (live_with e.1 live) (rising_tail e es r) (follows_more live e es f))
  where
    go : (b : Bool) → nat_lt e.0 start ≡ b → Follows (live_before start es (live_with e.1 live)) (since start es)
        → Follows (live_before start (e ∷ es) live) (cond b (since start es) (e ∷ es))
    go true h more =
        let low : e.0 < start = grind (arith, nat_tests) in
        subst (λ (l : List ℕ). Follows (live_before start es l) (since start es)) (sym (passed start e live low)) more
    go false h more =
        let up : start ≤ e.0 = grind (arith, nat_tests) in
        subst (λ (l : List ℕ). Follows l (e ∷ es)) (sym (all_stay start e es live r up)) f

-- ---- ranges of the sessions at a start

all_push : (live : List ℕ) (session : ℕ) → list_all is_session live ≡ true → is_session session ≡ true
    → list_all is_session (live ++ session ∷ []) ≡ true
all_push [] session all here = and_from _ _ here refl
all_push (k ∷ live) session all here = and_from _ _ (and_parts _ _ all).0 (all_push live session (and_parts _ _ all).1 here)

all_filter : (p : ℕ → Bool) (live : List ℕ) → list_all is_session live ≡ true → list_all is_session (filter p live) ≡ true
all_filter p [] all = refl
all_filter p (k ∷ live) all = go (p k) (all_filter p live (and_parts _ _ all).1)
  where
    go : (b : Bool) → list_all is_session (filter p live) ≡ true → list_all is_session (cond b (k ∷ filter p live) (filter p live)) ≡ true
    go true more = and_from _ _ (and_parts _ _ all).0 more
    go false more = more

all_with : (entry : Entry) (live : List ℕ) → is_entry entry ≡ true → list_all is_session live ≡ true → list_all is_session (live_with entry live) ≡ true
all_with (Join session) live here all = all_push live session all here
all_with (Said session line) live here all = all
all_with (Leave session cause) live here all = all_filter (λ s. not (s == session)) live all
all_with (Publish thread) live here all = all

sessions_start : (start : ℕ) (es : List Noted) (live : List ℕ) → are_in_range es ≡ true → list_all is_session live ≡ true
    → list_all is_session (live_before start es live) ≡ true
sessions_start start [] live range all = all
sessions_start start (e ∷ es) live range all =
    sessions_start start es (live_after start e live) (and_parts _ _ (and_parts _ _ range).1).1 (go (nat_lt e.0 start) refl)
  where
    here : is_entry e.1 ≡ true
    here = (and_parts (is_entry e.1) (are_in_range es) (and_parts (nat_le e.0 last_turn) (is_entry e.1 && are_in_range es) range).1).0

    go : (b : Bool) → nat_lt e.0 start ≡ b → list_all is_session (live_after start e live) ≡ true
    go true h =
        let low : e.0 < start = grind (arith, nat_tests) in
        subst (λ (l : List ℕ). list_all is_session l ≡ true) (sym (passed start e live low)) (all_with e.1 live here all)
    go false h =
        let up : start ≤ e.0 = grind (arith, nat_tests) in
        subst (λ (l : List ℕ). list_all is_session l ≡ true) (sym (stays start e live up)) all

-- ---- the joins at the first turn

joined_joins : (start highest top : ℕ) (first live : List ℕ) (es : List Noted) → rise_between highest live top ≡ true
    → are_joined top (first ++ live) es ≡ true → are_joined highest first (joins_at start live ++ es) ≡ true
joined_joins start highest top first [] es rise joined =
    let up : highest ≤ top = grind (arith, nat_tests) in
    lower highest top first es up (subst (λ (l : List ℕ). are_joined top l es ≡ true) (append-nil first) joined)
joined_joins start highest top first (session ∷ live) es rise joined =
    and_from _ _ (and_parts _ _ rise).0
    (joined_joins start session top (first ++ session ∷ []) live es (and_parts _ _ rise).1
    (subst (λ (l : List ℕ). are_joined top l es ≡ true) (sym (append_assoc first (session ∷ []) live)) joined))

range_joins : (start : ℕ) (live : List ℕ) (es : List Noted) → start ≤ last_turn → list_all is_session live ≡ true
    → are_in_range es ≡ true → are_in_range (joins_at start live ++ es) ≡ true
range_joins start [] es low all range = range
range_joins start (session ∷ live) es low all range =
    let here : nat_le start last_turn ≡ true = grind (arith, nat_tests) in
    and_from _ _ here (and_from _ _ (and_parts _ _ all).0 (range_joins start live es low (and_parts _ _ all).1 range))

rising_joins : (start end : ℕ) (live : List ℕ) (es : List Noted) → are_rising es ≡ true → are_within start end es ≡ true
    → are_rising (joins_at start live ++ es) ≡ true
rising_joins start end [] es r w = r
rising_joins start end (session ∷ []) [] r w = refl
rising_joins start end (session ∷ []) (e ∷ es) r w =
    let up = (within_head start end e es w).0 in
    let step : (nat_lt start e.0 || ((start == e.0) && true)) ≡ true = grind (arith, nat_tests) in
    and_from _ _ step r
rising_joins start end (session ∷ other ∷ live) es r w =
    let step : (nat_lt start start || ((start == start) && true)) ≡ true = grind (arith, nat_tests) in
    and_from _ _ step (rising_joins start end (other ∷ live) es r w)

within_joins : (start end : ℕ) (live : List ℕ) (es : List Noted) → start < end → are_within start end es ≡ true
    → are_within start end (joins_at start live ++ es) ≡ true
within_joins start end [] es up w = w
within_joins start end (session ∷ live) es up w =
    let here : nat_le start start ≡ true = grind (arith, nat_tests) in
    let below : nat_lt start end ≡ true = grind (arith, nat_tests) in
    and_from _ _ here (and_from _ _ below (within_joins start end live es up w))

-- The rules of a journal.
pub record IsJournal (from end : ℕ) (es : List Noted) : Type 0 where
  pub in_range : are_in_range es ≡ true
  pub rising : are_rising es ≡ true
  pub within : are_within from end es ≡ true
  pub joined : are_joined 0 [] es ≡ true

pub follows_first : (es : List Noted) → are_joined 0 [] es ≡ true → Follows [] es
follows_first es h = record { highest = 0; rise = refl; joined = h }

-- what a run that starts below the end is given keeps the rules
pub resumes : (start from end : ℕ) (es : List Noted) → IsJournal from end es → end ≤ last_turn → start < end
    → may_go_on start end no_sessions (joins_at start (live_before start es []) ++ since start es) ≡ true
resumes start from end es j right up =
    let live = live_before start es [] in
    let f = follows_start start es [] j.rising (follows_first es j.joined) in
    let w = within_since start from end es j.rising j.within in
    let r = rising_since start es j.rising in
    and_from _ _ (range_joins start live (since start es) (omega arith) (sessions_start start es [] j.in_range refl) (range_since start es j.in_range))
    (and_from _ _ (rising_joins start end live (since start es) r w)
    (and_from _ _ (within_joins start end live (since start es) up w) (joined_joins start 0 f.highest [] live (since start es) f.rise f.joined)))

-- after the end nothing is left
pub nothing_left : (start from end : ℕ) (es : List Noted) → IsJournal from end es → end ≤ start → since start es ≡ []
nothing_left start from end es j up = none_within start end (since start es) up (within_since start from end es j.rising j.within)

-- ---- the sessions as an ordered set

insert_above : (low high session : ℕ) (live : List ℕ) → rise_between low live high ≡ true → high < session
    → insert_key nat_cmp live session ≡ live ++ session ∷ []
insert_above low high session [] rise up = refl
insert_above low high session (k ∷ live) rise up =
    let more = insert_above k high session live (and_parts _ _ rise).1 up in
    let below : k < session = omega (arith, rise_top k high live (and_parts _ _ rise).1) in
    let greater : nat_cmp session k ≡ Greater = grind (arith, nat_tests) in
    ap (λ (o : Ordering). match_ordering o (session ∷ k ∷ live) (k ∷ live) (k ∷ insert_key nat_cmp live session)) greater
    ∙ ap (λ (l : List ℕ). k ∷ l) more

-- a session that joins is put after the others
pub insert_last : (session : ℕ) (live : List ℕ) → MayCome live (Join session) → insert_key nat_cmp live session ≡ live ++ session ∷ []
insert_last session live may =
    let above : nat_lt may.0 session ≡ true = may.2 in
    let up : may.0 < session = grind (arith, nat_tests) in
    insert_above 0 may.0 session live may.1 up

filter_above : (low high session : ℕ) (live : List ℕ) → rise_between low live high ≡ true → session ≤ low
    → filter (λ s. not (s == session)) live ≡ live
filter_above low high session [] rise up = refl
filter_above low high session (k ∷ live) rise up =
    let here : nat_lt low k ≡ true = (and_parts _ _ rise).0 in
    let other : (k == session) ≡ false = grind (arith, nat_tests) in
    let more : session ≤ k = grind (arith, nat_tests) in
    ap (λ (b : Bool). cond (not b) (k ∷ filter (λ s. not (s == session)) live) (filter (λ s. not (s == session)) live)) other
    ∙ ap (λ (l : List ℕ). k ∷ l) (filter_above k high session live (and_parts _ _ rise).1 more)

remove_between : (low high session : ℕ) (live : List ℕ) → rise_between low live high ≡ true
    → remove_key (is_at (nat_cmp session)) live ≡ filter (λ s. not (s == session)) live
remove_between low high session [] rise = refl
remove_between low high session (k ∷ live) rise = go (k == session) refl (remove_between k high session live (and_parts _ _ rise).1)
  where
    go : (b : Bool) → (k == session) ≡ b → remove_key (is_at (nat_cmp session)) live ≡ filter (λ s. not (s == session)) live
        → remove_key (is_at (nat_cmp session)) (k ∷ live)
        ≡ cond (not b) (k ∷ filter (λ s. not (s == session)) live) (filter (λ s. not (s == session)) live)
    go true h more =
        let found : is_at (nat_cmp session) k ≡ true = grind (arith, nat_tests) in
        let here : session ≤ k = grind (arith, nat_tests) in
        ap (λ (b : Bool). cond b live (k ∷ remove_key (is_at (nat_cmp session)) live)) found
        ∙ sym (filter_above k high session live (and_parts _ _ rise).1 here)
    go false h more =
        let other : is_at (nat_cmp session) k ≡ false = grind (arith, nat_tests) in
        ap (λ (b : Bool). cond b live (k ∷ remove_key (is_at (nat_cmp session)) live)) other ∙ ap (λ (l : List ℕ). k ∷ l) more

-- a session that leaves is taken out
pub remove_one : (session : ℕ) (entry : Entry) (live : List ℕ) → MayCome live entry
    → remove_key (is_at (nat_cmp session)) live ≡ filter (λ s. not (s == session)) live
remove_one session entry live may = remove_between 0 may.0 session live may.1

-- a line and a publication leave the sessions as they are
pub quiet : (entry : Entry) (live : List ℕ)
    → ((session : ℕ) × (line : List ℕ) × (entry ≡ Said session line)) ⊎ ((thread : ℕ) × (entry ≡ Publish thread))
    → live_with entry live ≡ live
quiet entry live (inl h) = ap (λ (e : Entry). live_with e live) h.2
quiet entry live (inr h) = ap (λ (e : Entry). live_with e live) h.1

-- ---- skipping

-- Entries before a start are skipped: what is left, with the sessions that are there.
pub record Skips (start : ℕ) (all es : List Noted) (live : List ℕ) : Type 0 where
  pub follows : Follows live es
  pub rising : are_rising es ≡ true
  pub live_is : live_before start es live ≡ live_before start all []
  pub left : since start es ≡ since start all

pub skips_first : (start : ℕ) (all : List Noted) (live : List ℕ) → live ≡ [] → are_rising all ≡ true → are_joined 0 [] all ≡ true
    → Skips start all all live
skips_first start all live none rising joined = record {
  follows = subst (λ (l : List ℕ). Follows l all) (sym none) (follows_first all joined);
  rising = rising;
  live_is = ap (live_before start all) none;
  left = refl;
}

pub skips_comes : (start : ℕ) (all es rest : List Noted) (live : List ℕ) (e : Noted) → es ≡ e ∷ rest → Skips start all es live → MayCome live e.1
skips_comes start all es rest live e taken s = comes live e rest (subst (λ (xs : List Noted). Follows live xs) taken s.follows)

pub skips_more : (start : ℕ) (all es rest : List Noted) (live next : List ℕ) (e : Noted) → es ≡ e ∷ rest → e.0 < start
    → next ≡ live_with e.1 live → Skips start all es live → Skips start all rest next
skips_more start all es rest live next e taken low is s = record {
  follows = subst (λ (l : List ℕ). Follows l rest) (sym is) (follows_more live e rest (subst (λ (xs : List Noted). Follows live xs) taken s.follows));
  rising = rising_tail e rest (subst (λ (xs : List Noted). are_rising xs ≡ true) taken s.rising);
  live_is = ap (live_before start rest) (is ∙ sym (passed start e live low))
      ∙ sym (ap (λ (xs : List Noted). live_before start xs live) taken) ∙ s.live_is;
  left = sym (since_one start e rest low) ∙ sym (ap (since start) taken) ∙ s.left;
}

pub skips_last : (start : ℕ) (all es : List Noted) (live : List ℕ) → before start es ≡ [] → Skips start all es live
    → (live ≡ live_before start all []) × (es ≡ since start all)
skips_last start all es live none s =
    (sym (none_before start es live s.rising none) ∙ s.live_is, sym (since_all start es none) ∙ s.left)

-- ---- what a run from a start is given

pub resumed_by : (start end : ℕ) (frozen : Bool) (es : List Noted) (b c : Bool) → nat_lt start end ≡ b
    → (frozen && not (list_any is_line (since start es))) ≡ c
    → resumed start end frozen es ≡ cond (b && not c) (joins_at start (live_before start es []) ++ since start es) (since start es)
resumed_by start end frozen es b c up none =
    ap (λ (d : Bool). cond (d && not (frozen && not (list_any is_line (since start es))))
    (joins_at start (live_before start es []) ++ since start es) (since start es)) up
    ∙ ap (λ (d : Bool). cond (b && not d) (joins_at start (live_before start es []) ++ since start es) (since start es)) none

-- publications may come whoever is there
joined_quiet : (highest : ℕ) (live : List ℕ) (es : List Noted) → list_any is_line es ≡ false → are_joined highest live es ≡ true
joined_quiet highest live [] none = refl
joined_quiet highest live ((turn, Join session) ∷ es) none = cc none
joined_quiet highest live ((turn, Said session line) ∷ es) none = cc none
joined_quiet highest live ((turn, Leave session cause) ∷ es) none = cc none
joined_quiet highest live ((turn, Publish thread) ∷ es) none = joined_quiet highest live es none

-- where no line is left nobody has to join
quiet_keeps : (start from end : ℕ) (es : List Noted) → IsJournal from end es → list_any is_line (since start es) ≡ false
    → may_go_on start end no_sessions (since start es) ≡ true
quiet_keeps start from end es j none =
    and_from _ _ (range_since start es j.in_range)
    (and_from _ _ (rising_since start es j.rising)
    (and_from _ _ (within_since start from end es j.rising j.within) (joined_quiet 0 [] (since start es) none)))

pub resumed_keeps : (start from end : ℕ) (frozen : Bool) (es : List Noted) → IsJournal from end es → end ≤ last_turn
    → may_go_on start end no_sessions (resumed start end frozen es) ≡ true
resumed_keeps start from end frozen es j right =
    go (nat_lt start end) (frozen && not (list_any is_line (since start es))) refl refl
  where
    some_line : (b c : Bool) → (b && not c) ≡ true → c ≡ false
    some_line b false h = refl
    some_line true true h = cc h
    some_line false true h = cc h

    go : (b c : Bool) → nat_lt start end ≡ b → (frozen && not (list_any is_line (since start es))) ≡ c
        → may_go_on start end no_sessions (resumed start end frozen es) ≡ true
    go true false up none =
        let below : start < end = grind (arith, nat_tests) in
        subst (λ (xs : List Noted). may_go_on start end no_sessions xs ≡ true) (sym (resumed_by start end frozen es true false up none))
        (resumes start from end es j right below)
    go true true up none =
        subst (λ (xs : List Noted). may_go_on start end no_sessions xs ≡ true) (sym (resumed_by start end frozen es true true up none))
        (quiet_keeps start from end es j (some_line frozen (list_any is_line (since start es)) none))
    go false c up none =
        let over : end ≤ start = grind (arith, nat_tests) in
        subst (λ (xs : List Noted). may_go_on start end no_sessions xs ≡ true) (sym (resumed_by start end frozen es false c up none))
        (quiet_keeps start from end es j (ap (list_any is_line) (nothing_left start from end es j over)))
