-- The entries that are left, and the sessions that join at the first turn.
use Rattle.std.specs.List.{list_any}
use Rattle.std.specs.Prelude.{ℕ, ◌-◌, ◌<◌, ◌==◌, nat_le, nat_lt, Bool, true, ◌&&◌, not, cond, IsTrue, List, [], ◌∷◌, ◌++◌, count_by, filter, map}
use Rattle.trick_model.specs.Journal.{Noted, are_in_range, are_joined, are_rising, are_within, is_of_session, lists_from, live_before}
use Rattle.trick_model.specs.Time.{last_turn}
use Rattle.trick_model.specs.declared.entry.Entry.{Entry}
use Rattle.trick_model.specs.declared.entry.Entry.TheVariants.{Join, Said, Leave, Publish}
use Rattle.trick_exec_sources.specs.Joins.{is_join}
use Rattle.trick_exec_sources.specs.Turns.{Sessions, after_lists, in_next, may_come, no_sessions}

-- ---- entries by their turns

-- the entries of turns below one, at the head of a list
abbrev pub before : ℕ → List Noted → List Entry
before turn [] = []
before turn (e ∷ es) = cond (nat_lt e.0 turn) (e.1 ∷ before turn es) []

-- what stands after these
abbrev pub since : ℕ → List Noted → List Noted
since turn [] = []
since turn (e ∷ es) = cond (nat_lt e.0 turn) (since turn es) (e ∷ es)

-- whether an entry with its turn is a join, a line or a leave
abbrev pub is_line : Noted → Bool
is_line e = is_of_session e.1

-- how many joins, lines and leaves there are
abbrev pub lines_of : List Noted → ℕ
lines_of es = count_by is_line es

-- how many joins there are
abbrev pub joins_in : List Noted → ℕ
joins_in es = count_by (λ e. is_join e.1) es

-- ---- sessions

-- the sessions that are there after an entry
abbrev pub live_with : Entry → List ℕ → List ℕ
live_with (Join session) live = live ++ session ∷ []
live_with (Said session line) live = live
live_with (Leave session cause) live = filter (λ s. not (s == session)) live
live_with (Publish thread) live = live

-- the numbers rise from above the first number to the last one at most
abbrev pub rise_between : ℕ → List ℕ → ℕ → Bool
rise_between low [] high = nat_le low high
rise_between low (k ∷ ks) high = nat_lt low k && rise_between k ks high

-- An entry may come where these sessions are there, in rising number, and one number is the highest
-- that joined.
abbrev pub MayCome : List ℕ → Entry → Type 0
MayCome live entry = (highest : ℕ) × IsTrue (rise_between 0 live highest)
    × IsTrue (may_come entry (record { highest = highest; live = live; reached = [] }))

-- these sessions join at a turn
abbrev pub joins_at : ℕ → List ℕ → List Noted
joins_at turn live = map (λ session. (turn, Join session)) live

-- whether the sessions that are there join at a start, in Freeze or not, where these entries are left: below the
-- end, but not in Freeze where no line is left
abbrev pub they_join : (start end : ℕ) → Bool → List Noted → Bool
they_join start end frozen left = nat_lt start end && not (frozen && not (list_any is_line left))

-- What is left for a run from a start, in Freeze or not: the entries from there on, and in front the joins of the
-- sessions that are there then.
abbrev pub resumed : (start end : ℕ) → Bool → List Noted → List Noted
resumed start end frozen es =
    let left = since start es in
    cond (they_join start end frozen left) (joins_at start (live_before start es []) ++ left) left

-- the sessions by the lists of the turns from the first on and below another one
abbrev pub sessions_at : (start at : ℕ) → List Noted → Sessions
sessions_at start at es = after_lists (lists_from start (at - start) es) no_sessions

-- the same, or where a list after the end was given too
abbrev pub sessions_so_far : Bool → (start at : ℕ) → List Noted → Sessions
sessions_so_far over start at es = cond over (in_next (sessions_at start at es)) (sessions_at start at es)

-- the rules of a journal keep from a turn on, where the sessions are these
abbrev pub may_go_on : (at end : ℕ) → Sessions → List Noted → Bool
may_go_on at end s es =
    are_in_range es && (are_rising es && (are_within at end es && are_joined s.highest s.live es))
