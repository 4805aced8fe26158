-- Entries of turns are the entries of a journal.
use Rattle.std.proofs.Common.{◌≡◌, ◌∙◌, ℕ, zero, suc, ◌+◌, ◌<◌, ◌≤◌, ◌==◌, List, [], ◌∷◌, ◌++◌, Bool, true, false, not, ◌&&◌, ap, append_assoc, arith, length, refl, sym, nat_lt}
use Rattle.std.proofs.lemmas.Bool.{and_from, and_parts, le-leb, lt-ltb}
use Rattle.std.proofs.lemmas.Bool.Decides.{nat_tests}
use Rattle.std.specs.Prelude.{◌||◌, filter, nat_le}
use Rattle.trick_exec_own_journal.proofs.Coming.{KeepRules, comes}
use Rattle.trick_exec_own_journal.specs.Rules.{noted_at, noted_from}
use Rattle.trick_model.specs.Journal.{Noted, are_in_range, are_joined, are_rising, are_within, entries_at, entry_line, entry_lines, is_entry, lists_from, live_after, live_before, may_follow, noted_lines}
use Rattle.trick_model.specs.JournalText.{all_may_publish, may_publish}
use Rattle.trick_model.specs.Plan.{Plan}
use Rattle.trick_model.specs.Time.{last_turn}
use Rattle.trick_model.specs.declared.entry.Entry.{Entry}
use Rattle.trick_model.specs.declared.entry.Entry.TheVariants.{Join, Said, Leave, Publish}
use Rattle.trick_exec_sources.specs.Turns.{Sessions, after_entries, after_entry, in_next, is_among, may_all_come}

-- ---- turns

-- no entry is of a turn below this one
abbrev pub all_since : ℕ → List Noted → Bool
all_since turn [] = true
all_since turn (e ∷ es) = nat_le turn e.0 && all_since turn es

since_at : (low turn : ℕ) (entries : List Entry) (rest : List Noted) → nat_le low turn ≡ true → all_since low rest ≡ true
    → all_since low (noted_at turn entries ++ rest) ≡ true
since_at low turn [] rest less all = all
since_at low turn (entry ∷ entries) rest less all =
    and_from (nat_le low turn) (all_since low (noted_at turn entries ++ rest)) less (since_at low turn entries rest less all)

one_higher : (a b : ℕ) → a ≤ b → a ≤ b + 1
one_higher a b less = omega (arith, less)

next_turn : (turn count end : ℕ) → turn + suc count ≤ end → (turn + 1) + count ≤ end
next_turn turn count end most = omega (arith, most)

this_turn : (turn count end : ℕ) → turn + suc count ≤ end → turn < end
this_turn turn count end most = omega (arith, most)

pub all_of_turns : (low turn : ℕ) (lists : List (List Entry)) → low ≤ turn → all_since low (noted_from turn lists) ≡ true
all_of_turns low turn [] less = refl
all_of_turns low turn (entries ∷ lists) less =
    since_at low turn entries (noted_from (turn + 1) lists) (le-leb low turn less)
    (all_of_turns low (turn + 1) lists (one_higher low turn less))

-- what is after a turn is of the next one at least
later_turns : (turn : ℕ) (lists : List (List Entry)) → all_since (turn + 1) (noted_from (turn + 1) lists) ≡ true
later_turns turn lists = all_of_turns (turn + 1) (turn + 1) lists (itself (turn + 1))
  where
    itself : (n : ℕ) → n ≤ n
    itself n = omega arith

first_later : (turn : ℕ) (e : Noted) (es : List Noted) → all_since (turn + 1) (e ∷ es) ≡ true → turn < e.0
first_later turn e es all = less_of turn e.0 (and_parts (nat_le (turn + 1) e.0) (all_since (turn + 1) es) all).0
  where
    less_of : (a b : ℕ) → nat_le (a + 1) b ≡ true → a < b
    less_of a b e = grind (arith, nat_tests, e)

others_later : (turn : ℕ) (e : Noted) (es : List Noted) → all_since (turn + 1) (e ∷ es) ≡ true → all_since (turn + 1) es ≡ true
others_later turn e es all = (and_parts (nat_le (turn + 1) e.0) (all_since (turn + 1) es) all).1

-- ---- ranges

ranged_at : (turn : ℕ) (entries : List Entry) (rest : List Noted) (s : Sessions) → nat_le turn last_turn ≡ true → may_all_come entries s ≡ true
    → are_in_range rest ≡ true → are_in_range (noted_at turn entries ++ rest) ≡ true
ranged_at turn [] rest s low all right = right
ranged_at turn (entry ∷ entries) rest s low all right =
    let first = comes entry entries s all in
    let more = are_in_range (noted_at turn entries ++ rest) in
    and_from (nat_le turn last_turn) (is_entry entry && more) low
    (and_from (is_entry entry) more first.ranged (ranged_at turn entries rest (after_entry entry s) low first.rest right))

pub ranged : (turn : ℕ) (lists : List (List Entry)) (s : Sessions) → turn + length lists ≤ last_turn → KeepRules lists s
    → are_in_range (noted_from turn lists) ≡ true
ranged turn [] s most keep = refl
ranged turn (entries ∷ lists) s most keep =
    ranged_at turn entries (noted_from (turn + 1) lists) (in_next s)
    (le-leb turn last_turn (low turn (length lists) last_turn most)) keep.0
    (ranged (turn + 1) lists (after_entries entries (in_next s)) (next_turn turn (length lists) last_turn most) keep.1)
  where
    low : (turn count end : ℕ) → turn + suc count ≤ end → turn ≤ end
    low turn count end most = omega (arith, most)

within_at : (from end turn : ℕ) (entries : List Entry) (rest : List Noted) → nat_le from turn ≡ true → nat_lt turn end ≡ true
    → are_within from end rest ≡ true → are_within from end (noted_at turn entries ++ rest) ≡ true
within_at from end turn [] rest low high right = right
within_at from end turn (entry ∷ entries) rest low high right =
    let more = are_within from end (noted_at turn entries ++ rest) in
    and_from (nat_le from turn) (nat_lt turn end && more) low
    (and_from (nat_lt turn end) more high (within_at from end turn entries rest low high right))

pub within : (from turn end : ℕ) (lists : List (List Entry)) → from ≤ turn → turn + length lists ≤ end
    → are_within from end (noted_from turn lists) ≡ true
within from turn end [] low most = refl
within from turn end (entries ∷ lists) low most =
    within_at from end turn entries (noted_from (turn + 1) lists) (le-leb from turn low)
    (lt-ltb turn end (this_turn turn (length lists) end most))
    (within from (turn + 1) end lists (one_higher from turn low) (next_turn turn (length lists) end most))

-- ---- order

-- the test of two entries, one after another
abbrev steps_up : Noted → Noted → Bool
steps_up e f = nat_lt e.0 f.0 || ((e.0 == f.0) && may_follow e.1 f.1)

up_later : (e f : Noted) → e.0 < f.0 → steps_up e f ≡ true
up_later e f less = ap (λ (b : Bool). b || ((e.0 == f.0) && may_follow e.1 f.1)) (lt-ltb e.0 f.0 less)

up_within : (turn : ℕ) (entry next : Entry) → may_follow entry next ≡ true → steps_up (turn, entry) (turn, next) ≡ true
up_within turn entry next follows =
    by (nat_lt turn turn) ((turn == turn) && may_follow entry next)
    (and_from (turn == turn) (may_follow entry next) (same turn) follows)
  where
    same : (n : ℕ) → (n == n) ≡ true
    same n = grind (arith, nat_tests)

    by : (a b : Bool) → b ≡ true → (a || b) ≡ true
    by true b e = refl
    by false b e = e

rising_at : (turn : ℕ) (entries : List Entry) (rest : List Noted) (s : Sessions) → may_all_come entries s ≡ true → all_since (turn + 1) rest ≡ true
    → are_rising rest ≡ true → are_rising (noted_at turn entries ++ rest) ≡ true
rising_at turn [] rest s all later right = right
rising_at turn (entry ∷ []) [] s all later right = refl
rising_at turn (entry ∷ []) (f ∷ rest) s all later right =
    and_from (steps_up (turn, entry) f) (are_rising (f ∷ rest)) (up_later (turn, entry) f (first_later turn f rest later)) right
rising_at turn (entry ∷ next ∷ entries) rest s all later right =
    let first = comes entry (next ∷ entries) s all in
    and_from (steps_up (turn, entry) (turn, next)) (are_rising (noted_at turn (next ∷ entries) ++ rest)) (up_within turn entry next first.follows)
    (rising_at turn (next ∷ entries) rest (after_entry entry s) first.rest later right)

pub rising : (turn : ℕ) (lists : List (List Entry)) (s : Sessions) → KeepRules lists s → are_rising (noted_from turn lists) ≡ true
rising turn [] s keep = refl
rising turn (entries ∷ lists) s keep =
    rising_at turn entries (noted_from (turn + 1) lists) (in_next s) keep.0 (later_turns turn lists)
    (rising (turn + 1) lists (after_entries entries (in_next s)) keep.1)

-- ---- sessions

joined_at : (turn : ℕ) (entries : List Entry) (rest : List Noted) (s : Sessions) → may_all_come entries s ≡ true
    → are_joined (after_entries entries s).highest (after_entries entries s).live rest ≡ true
    → are_joined s.highest s.live (noted_at turn entries ++ rest) ≡ true
joined_at turn [] rest s all right = right
joined_at turn (Join session ∷ entries) rest s all right =
    let first = comes (Join session) entries s all in
    and_from (nat_lt s.highest session) (are_joined session (s.live ++ session ∷ []) (noted_at turn entries ++ rest)) first.may
    (joined_at turn entries rest (after_entry (Join session) s) first.rest right)
joined_at turn (Said session line ∷ entries) rest s all right =
    let first = comes (Said session line) entries s all in
    and_from (is_among session s.live) (are_joined s.highest s.live (noted_at turn entries ++ rest)) first.may
    (joined_at turn entries rest s first.rest right)
joined_at turn (Leave session cause ∷ entries) rest s all right =
    let first = comes (Leave session cause) entries s all in
    and_from (is_among session s.live)
    (are_joined s.highest (filter (λ (other : ℕ). not (other == session)) s.live) (noted_at turn entries ++ rest)) first.may
    (joined_at turn entries rest (after_entry (Leave session cause) s) first.rest right)
joined_at turn (Publish thread ∷ entries) rest s all right =
    joined_at turn entries rest s (comes (Publish thread) entries s all).rest right

pub joined : (turn : ℕ) (lists : List (List Entry)) (s : Sessions) → KeepRules lists s
    → are_joined s.highest s.live (noted_from turn lists) ≡ true
joined turn [] s keep = refl
joined turn (entries ∷ lists) s keep =
    joined_at turn entries (noted_from (turn + 1) lists) (in_next s) keep.0
    (joined (turn + 1) lists (after_entries entries (in_next s)) keep.1)

-- nobody is there before the first turn
before_one : (start : ℕ) (e : Noted) (live : List ℕ) → nat_le start e.0 ≡ true → live_after start e live ≡ live
before_one start e live low =
    ap (λ (b : Bool). let now : List ℕ = elim b [
      | false ↦ live
      | true ↦ elim (e.1) [
        | Join session ↦ live ++ session ∷ []
        | Said session line ↦ live
        | Leave session cause ↦ filter (λ (s : ℕ). not (s == session)) live
        | Publish thread ↦ live
      ]
    ] in now) (not_less start e.0 low)
  where
    not_less : (a b : ℕ) → nat_le a b ≡ true → nat_lt b a ≡ false
    not_less a b e = grind (arith, nat_tests, e)

pub nobody_before : (start : ℕ) (es : List Noted) (live : List ℕ) → all_since start es ≡ true → live_before start es live ≡ live
nobody_before start [] live all = refl
nobody_before start (e ∷ es) live all =
    let parts = and_parts (nat_le start e.0) (all_since start es) all in
    ap (live_before start es) (before_one start e live parts.0) ∙ nobody_before start es live parts.1

-- ---- the entries of a turn

at_one : (turn : ℕ) (e : Noted) (es : List Noted) (b : Bool) → (e.0 == turn) ≡ b
    → entries_at turn (e ∷ es) ≡ (let some : List Entry = elim b [ true ↦ e.1 ∷ entries_at turn es | false ↦ entries_at turn es ] in some)
at_one turn e es b is = ap (λ (c : Bool). let some : List Entry = elim c [ true ↦ e.1 ∷ entries_at turn es | false ↦ entries_at turn es ] in some) is

at_no_turn : (turn : ℕ) (es : List Noted) → all_since (turn + 1) es ≡ true → entries_at turn es ≡ []
at_no_turn turn [] all = refl
at_no_turn turn (e ∷ es) all =
    at_one turn e es false (apart e.0 turn (first_later turn e es all)) ∙ at_no_turn turn es (others_later turn e es all)
  where
    apart : (a b : ℕ) → b < a → (a == b) ≡ false
    apart a b less = grind (arith, nat_tests, less)

at_its_turn : (turn : ℕ) (entries : List Entry) (rest : List Noted) → all_since (turn + 1) rest ≡ true
    → entries_at turn (noted_at turn entries ++ rest) ≡ entries
at_its_turn turn [] rest later = at_no_turn turn rest later
at_its_turn turn (entry ∷ entries) rest later =
    at_one turn (turn, entry) (noted_at turn entries ++ rest) true (same turn)
    ∙ ap (λ (es : List Entry). entry ∷ es) (at_its_turn turn entries rest later)
  where
    same : (n : ℕ) → (n == n) ≡ true
    same n = grind (arith, nat_tests)

at_later : (turn later : ℕ) (entries : List Entry) (rest : List Noted) → turn < later
    → entries_at later (noted_at turn entries ++ rest) ≡ entries_at later rest
at_later turn later [] rest less = refl
at_later turn later (entry ∷ entries) rest less =
    at_one later (turn, entry) (noted_at turn entries ++ rest) false (apart turn later less) ∙ at_later turn later entries rest less
  where
    apart : (a b : ℕ) → a < b → (a == b) ≡ false
    apart a b less = grind (arith, nat_tests, less)

lists_later : (turn later count : ℕ) (entries : List Entry) (rest : List Noted) → turn < later
    → lists_from later count (noted_at turn entries ++ rest) ≡ lists_from later count rest
lists_later turn later zero entries rest less = refl
lists_later turn later (suc count) entries rest less =
    ap (λ (es : List Entry). es ∷ lists_from (later + 1) count (noted_at turn entries ++ rest)) (at_later turn later entries rest less)
    ∙ ap (λ (lists : List (List Entry)). entries_at later rest ∷ lists) (lists_later turn (later + 1) count entries rest (more turn later less))
  where
    more : (a b : ℕ) → a < b → a < b + 1
    more a b less = omega (arith, less)

-- read back, turn by turn, they are the lists
pub lists_same : (turn : ℕ) (lists : List (List Entry)) → lists_from turn (length lists) (noted_from turn lists) ≡ lists
lists_same turn [] = refl
lists_same turn (entries ∷ lists) =
    let rest = noted_from (turn + 1) lists in
    ap (λ (es : List Entry). es ∷ lists_from (turn + 1) (length lists) (noted_at turn entries ++ rest))
    (at_its_turn turn entries rest (later_turns turn lists))
    ∙ ap (λ (ls : List (List Entry)). entries ∷ ls)
    (lists_later turn (turn + 1) (length lists) entries rest (up turn) ∙ lists_same (turn + 1) lists)
  where
    up : (n : ℕ) → n < n + 1
    up n = omega arith

-- ---- texts

pub lines_at : (turn : ℕ) (entries : List Entry) (rest : List Noted)
    → noted_lines (noted_at turn entries ++ rest) ≡ entry_lines turn entries ++ noted_lines rest
lines_at turn [] rest = refl
lines_at turn (entry ∷ entries) rest =
    ap (λ (bytes : List ℕ). entry_line turn entry ++ bytes) (lines_at turn entries rest)
    ∙ sym (append_assoc (entry_line turn entry) (entry_lines turn entries) (noted_lines rest))

-- ---- publications

-- all entries of a turn may be published, where they are publications
abbrev pub entries_may_publish : Plan → List Entry → Bool
entries_may_publish p [] = true
entries_may_publish p (entry ∷ entries) = may_publish p entry && entries_may_publish p entries

publish_at : (p : Plan) (turn : ℕ) (entries : List Entry) (rest : List Noted) → entries_may_publish p entries ≡ true
    → all_may_publish p rest ≡ true → all_may_publish p (noted_at turn entries ++ rest) ≡ true
publish_at p turn [] rest all right = right
publish_at p turn (entry ∷ entries) rest all right =
    let parts = and_parts (may_publish p entry) (entries_may_publish p entries) all in
    and_from (may_publish p entry) (all_may_publish p (noted_at turn entries ++ rest)) parts.0 (publish_at p turn entries rest parts.1 right)

-- so it is with each list
abbrev pub AllMayPublish : Plan → List (List Entry) → Type 0
AllMayPublish p [] = Unit {0}
AllMayPublish p (entries ∷ lists) = (entries_may_publish p entries ≡ true) × AllMayPublish p lists

pub all_publish : (p : Plan) (turn : ℕ) (lists : List (List Entry)) → AllMayPublish p lists → all_may_publish p (noted_from turn lists) ≡ true
all_publish p turn [] all = refl
all_publish p turn (entries ∷ lists) all =
    publish_at p turn entries (noted_from (turn + 1) lists) all.0 (all_publish p (turn + 1) lists all.1)
