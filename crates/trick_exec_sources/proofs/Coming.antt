-- The list of a turn may come after those before it, and what is left may follow.
use Rattle.std.proofs.Common.{◌≡◌, ℕ, zero, suc, ◌+◌, ◌<◌, ◌≤◌, Bool, true, false, cond, List, [], ◌∷◌, ◌++◌, refl, sym, ap, subst, ◌∙◌, arith}
use Rattle.std.proofs.lemmas.Bool.{and_from, and_parts}
use Rattle.std.proofs.lemmas.Bool.Decides.{nat_tests}
use Rattle.std.specs.Prelude.{◌&&◌, ◌||◌, ◌==◌, nat_le, nat_lt}
use Rattle.trick_exec_sources.proofs.TurnEntries.{range_since, rising_since, rising_tail, step_up, within_head, within_since, within_tail}
use Rattle.trick_exec_sources.specs.Due.{before, may_go_on, since}
use Rattle.trick_model.specs.Journal.{Noted, are_in_range, are_joined, are_rising, are_within, is_entry, may_follow}
use Rattle.trick_model.specs.Time.{last_turn}
use Rattle.trick_model.specs.declared.entry.Entry.{Entry}
use Rattle.trick_model.specs.declared.entry.Entry.TheVariants.{Join, Said, Leave, Publish}
use Rattle.trick_exec_sources.specs.Turns.{Sessions, after_entries, after_entry, in_next, may_all_come, may_come}

-- the first entry of a list may follow one
abbrev follows_head : Entry → List Entry → Bool
follows_head entry [] = true
follows_head entry (other ∷ list) = may_follow entry other

one_more : (entry : Entry) (list : List Entry) (s : Sessions) → is_entry entry ≡ true → may_come entry s ≡ true
    → follows_head entry list ≡ true → may_all_come list (after_entry entry s) ≡ true → may_all_come (entry ∷ list) s ≡ true
one_more entry [] s range comes follows more = and_from _ _ range comes
one_more entry (other ∷ list) s range comes follows more = and_from _ _ range (and_from _ _ comes (and_from _ _ follows more))

head_follows : (at : ℕ) (e : Noted) (es : List Noted) → at ≤ e.0 → are_rising (e ∷ es) ≡ true
    → follows_head e.1 (before (at + 1) es) ≡ true
head_follows at e [] low r = refl
head_follows at e (f ∷ es) low r = go (nat_lt f.0 (at + 1)) refl
  where
    last : (b : Bool) → (nat_lt e.0 f.0 || ((e.0 == f.0) && b)) ≡ true → f.0 ≤ at → b ≡ true
    last true h below = refl
    last false h below = grind (arith, nat_tests)

    go : (b : Bool) → nat_lt f.0 (at + 1) ≡ b → follows_head e.1 (cond b (f.1 ∷ before (at + 1) es) []) ≡ true
    go true h = let below : f.0 ≤ at = grind (arith, nat_tests) in last (may_follow e.1 f.1) (and_parts _ _ r).0 below
    go false h = refl

joined_one : (s : Sessions) (e : Noted) (es : List Noted) → are_joined s.highest s.live (e ∷ es) ≡ true
    → (may_come e.1 s ≡ true) × (are_joined (after_entry e.1 s).highest (after_entry e.1 s).live es ≡ true)
joined_one s (t, Join session) es h = and_parts _ _ h
joined_one s (t, Said session line) es h = and_parts _ _ h
joined_one s (t, Leave session cause) es h = and_parts _ _ h
joined_one s (t, Publish thread) es h = (refl, h)

list_comes : (at end : ℕ) (es : List Noted) (s : Sessions) → are_in_range es ≡ true → are_rising es ≡ true
    → are_within at end es ≡ true → are_joined s.highest s.live es ≡ true
    → (may_all_come (before (at + 1) es) s ≡ true)
    × (are_joined (after_entries (before (at + 1) es) s).highest (after_entries (before (at + 1) es) s).live (since (at + 1) es) ≡ true)
list_comes at end [] s range r w joined = (refl, refl)
list_comes at end (e ∷ es) s range r w joined =
    go (nat_lt e.0 (at + 1))
    (list_comes at end es (after_entry e.1 s) (and_parts _ _ (and_parts _ _ range).1).1 (rising_tail e es r) (within_tail at end e es w)
    (joined_one s e es joined).1)
  where
    here : is_entry e.1 ≡ true
    here = (and_parts (is_entry e.1) (are_in_range es) (and_parts (nat_le e.0 last_turn) (is_entry e.1 && are_in_range es) range).1).0

    go : (b : Bool) → (may_all_come (before (at + 1) es) (after_entry e.1 s) ≡ true)
        × (are_joined (after_entries (before (at + 1) es) (after_entry e.1 s)).highest (after_entries (before (at + 1) es) (after_entry e.1 s)).live (since (at + 1) es) ≡ true)
        → (may_all_come (cond b (e.1 ∷ before (at + 1) es) []) s ≡ true)
        × (are_joined (after_entries (cond b (e.1 ∷ before (at + 1) es) []) s).highest (after_entries (cond b (e.1 ∷ before (at + 1) es) []) s).live (cond b (since (at + 1) es) (e ∷ es)) ≡ true)
    go true more =
        (one_more e.1 (before (at + 1) es) s here (joined_one s e es joined).0 (head_follows at e es (within_head at end e es w).0 r) more.0, more.1)
    go false more = (refl, joined)

-- the four parts of the rules together
all_keep : (at end : ℕ) (s : Sessions) (es : List Noted) → are_in_range es ≡ true → are_rising es ≡ true
    → are_within at end es ≡ true → are_joined s.highest s.live es ≡ true → may_go_on at end s es ≡ true
all_keep at end s es range r w joined =
    and_from (are_in_range es) (are_rising es && (are_within at end es && are_joined s.highest s.live es)) range
    (and_from (are_rising es) (are_within at end es && are_joined s.highest s.live es) r
    (and_from (are_within at end es) (are_joined s.highest s.live es) w joined))

-- the list of a turn may come, and from the next turn on the rules keep
pub goes_on : (at end : ℕ) (s : Sessions) (es : List Noted) → may_go_on at end s es ≡ true
    → (may_all_come (before (at + 1) es) (in_next s) ≡ true)
    × (may_go_on (at + 1) end (after_entries (before (at + 1) es) (in_next s)) (since (at + 1) es) ≡ true)
goes_on at end s es h =
    let one = and_parts (are_in_range es) (are_rising es && (are_within at end es && are_joined s.highest s.live es)) h in
    let two = and_parts (are_rising es) (are_within at end es && are_joined s.highest s.live es) one.1 in
    let three = and_parts (are_within at end es) (are_joined s.highest s.live es) two.1 in
    let range : are_in_range es ≡ true = one.0 in
    let r : are_rising es ≡ true = two.0 in
    let w : are_within at end es ≡ true = three.0 in
    let joined : are_joined (in_next s).highest (in_next s).live es ≡ true = three.1 in
    let list = list_comes at end es (in_next s) range r w joined in
    let after : Sessions = after_entries (before (at + 1) es) (in_next s) in
    let within : are_within (at + 1) end (since (at + 1) es) ≡ true = within_since (at + 1) at end es r w in
    (list.0, all_keep (at + 1) end after (since (at + 1) es) (range_since (at + 1) es range) (rising_since (at + 1) es r) within list.1)

-- the parts of the rules
pub within_of : (at end : ℕ) (s : Sessions) (es : List Noted) → may_go_on at end s es ≡ true → are_within at end es ≡ true
within_of at end s es h =
    let one = and_parts (are_in_range es) (are_rising es && (are_within at end es && are_joined s.highest s.live es)) h in
    let two = and_parts (are_rising es) (are_within at end es && are_joined s.highest s.live es) one.1 in
    (and_parts (are_within at end es) (are_joined s.highest s.live es) two.1).0

pub rising_of : (at end : ℕ) (s : Sessions) (es : List Noted) → may_go_on at end s es ≡ true → are_rising es ≡ true
rising_of at end s es h =
    let one = and_parts (are_in_range es) (are_rising es && (are_within at end es && are_joined s.highest s.live es)) h in
    (and_parts (are_rising es) (are_within at end es && are_joined s.highest s.live es) one.1).0
