-- Journals that differ in publications alone give lists that do.
use Rattle.std.proofs.Common.{◌≡◌, ◌∙◌, ℕ, zero, suc, ◌+◌, ◌-◌, ◌==◌, nat_lt, List, [], ◌∷◌, ◌++◌, length, map, Bool, true, false, not, ◌&&◌, cond, ap, refl, subst, sym}
use Rattle.std.proofs.lemmas.List.Elements.{filter-append}
use Rattle.std.specs.Prelude.{filter}
use Rattle.trick_model.specs.Journal.{Noted, entries_at, is_of_session, lists_from, live_after, live_before, with_joins}
use Rattle.trick_model.specs.Run.{has_session_entry, lists_of}
use Rattle.trick_model.specs.Turn.{is_frozen}
use Rattle.trick_model.specs.declared.entry.Entry.{Entry}
use Rattle.trick_model.specs.declared.entry.Entry.TheVariants.{Join, Said, Leave, Publish}
use Rattle.trick_model.specs.declared.mode.Mode.{Mode}
use Rattle.trick_model_publications.proofs.Runs.{left_same}
use Rattle.trick_model_publications.specs.Publications.{DifferInPublications, JournalsDifferInPublications, lines_of}

-- the joins, lines and leaves of a journal
abbrev lines_in : List Noted → List Noted
lines_in entries = filter (λ (e : Noted). is_of_session e.1) entries

-- ---- the entries of a turn

entry_by : (b c : Bool) (e : Noted) (turn : ℕ) (es : List Noted) (xs : List Entry) → (e.0 == turn) ≡ b → is_of_session e.1 ≡ c
    → lines_of xs ≡ entries_at turn es → lines_of (elim b [ true ↦ e.1 ∷ xs | false ↦ xs ]) ≡ entries_at turn (cond c (e ∷ es) es)
entry_by true true e turn es xs now line h =
    ap (λ (d : Bool). cond d (e.1 ∷ lines_of xs) (lines_of xs)) line ∙ ap (λ (l : List Entry). e.1 ∷ l) h
    ∙ sym (ap (λ (d : Bool). elim d [ true ↦ e.1 ∷ entries_at turn es | false ↦ entries_at turn es ]) now)
entry_by true false e turn es xs now line h = ap (λ (d : Bool). cond d (e.1 ∷ lines_of xs) (lines_of xs)) line ∙ h
entry_by false true e turn es xs now line h =
    h ∙ sym (ap (λ (d : Bool). elim d [ true ↦ e.1 ∷ entries_at turn es | false ↦ entries_at turn es ]) now)
entry_by false false e turn es xs now line h = h

lines_at : (turn : ℕ) (entries : List Noted) → lines_of (entries_at turn entries) ≡ entries_at turn (lines_in entries)
lines_at turn [] = refl
lines_at turn (e ∷ entries) =
    entry_by (e.0 == turn) (is_of_session e.1) e turn (lines_in entries) (entries_at turn entries) refl refl (lines_at turn entries)

same_at : (turn : ℕ) (one other : List Noted) → JournalsDifferInPublications one other → lines_of (entries_at turn one) ≡ lines_of (entries_at turn other)
same_at turn one other differ = lines_at turn one ∙ ap (entries_at turn) differ ∙ sym (lines_at turn other)

-- ---- the sessions that are there before the start

publication_leaves : (b : Bool) (x : Entry) (live : List ℕ) → is_of_session x ≡ false → (elim b [
  | false ↦ live
  | true ↦ elim x [
    | Join session ↦ live ++ session ∷ []
    | Said session line ↦ live
    | Leave session cause ↦ filter (λ s. not (s == session)) live
    | Publish thread ↦ live
  ]
]) ≡ live
publication_leaves false x live h = refl
publication_leaves true (Join session) live h = cc h
publication_leaves true (Said session line) live h = cc h
publication_leaves true (Leave session cause) live h = cc h
publication_leaves true (Publish thread) live h = refl

live_by : (c : Bool) (start : ℕ) (e : Noted) (es fs : List Noted) (live : List ℕ) → is_of_session e.1 ≡ c
    → ((l : List ℕ) → live_before start es l ≡ live_before start fs l)
    → live_before start es (live_after start e live) ≡ live_before start (cond c (e ∷ fs) fs) live
live_by true start e es fs live line h = h (live_after start e live)
live_by false start e es fs live line h =
    ap (λ (l : List ℕ). live_before start es l) (publication_leaves (nat_lt e.0 start) e.1 live line) ∙ h live

live_lines : (start : ℕ) (entries : List Noted) (live : List ℕ) → live_before start entries live ≡ live_before start (lines_in entries) live
live_lines start [] live = refl
live_lines start (e ∷ entries) live =
    live_by (is_of_session e.1) start e entries (lines_in entries) live refl (live_lines start entries)

live_same : (start : ℕ) (one other : List Noted) → JournalsDifferInPublications one other → live_before start one [] ≡ live_before start other []
live_same start one other differ =
    live_lines start one [] ∙ ap (λ (es : List Noted). live_before start es []) differ ∙ sym (live_lines start other [])

-- ---- the lists

from_same : (turn count : ℕ) (one other : List Noted) → JournalsDifferInPublications one other
    → DifferInPublications (lists_from turn count one) (lists_from turn count other)
from_same turn zero one other differ k = refl
from_same turn (suc count) one other differ zero = same_at turn one other differ
from_same turn (suc count) one other differ (suc k) = from_same (turn + 1) count one other differ k

joined_same : (turn count : ℕ) (live : List ℕ) (one other : List Noted) → JournalsDifferInPublications one other
    → DifferInPublications (with_joins live (lists_from turn count one)) (with_joins live (lists_from turn count other))
joined_same turn zero live one other differ k = refl
joined_same turn (suc count) live one other differ zero =
    let joins : List Entry = map (λ session. Join session) live in
    filter-append is_of_session joins (entries_at turn one)
    ∙ ap (λ (lines : List Entry). lines_of joins ++ lines) (same_at turn one other differ)
    ∙ sym (filter-append is_of_session joins (entries_at turn other))
joined_same turn (suc count) live one other differ (suc k) = from_same (turn + 1) count one other differ k

all_joined : (one other : List Noted) (end start : ℕ) → JournalsDifferInPublications one other
    → DifferInPublications (with_joins (live_before start one []) (lists_from start (end - start) one))
    (with_joins (live_before start other []) (lists_from start (end - start) other))
all_joined one other end start differ =
    subst (λ (live : List ℕ). DifferInPublications (with_joins (live_before start one []) (lists_from start (end - start) one))
    (with_joins live (lists_from start (end - start) other)))
    (live_same start one other differ) (joined_same start (end - start) (live_before start one []) one other differ)

-- with the joins in front, or without
some_joined : (b : Bool) (one other : List Noted) (end start : ℕ) → JournalsDifferInPublications one other
    → DifferInPublications
    (elim b [ true ↦ lists_from start (end - start) one | false ↦ with_joins (live_before start one []) (lists_from start (end - start) one) ])
    (elim b [ true ↦ lists_from start (end - start) other | false ↦ with_joins (live_before start other []) (lists_from start (end - start) other) ])
some_joined true one other end start differ = from_same start (end - start) one other differ
some_joined false one other end start differ = all_joined one other end start differ

-- in Freeze a line is left in both or in neither
none_left : (one other : List Noted) (end start : ℕ) (begun : Mode) → JournalsDifferInPublications one other
    → (is_frozen begun && not (has_session_entry (lists_from start (end - start) one)))
    ≡ (is_frozen begun && not (has_session_entry (lists_from start (end - start) other)))
none_left one other end start begun differ =
    ap (λ (b : Bool). is_frozen begun && not b)
    (left_same (lists_from start (end - start) one) (lists_from start (end - start) other) (from_same start (end - start) one other differ))

pub lists_same : (one other : List Noted) (end start : ℕ) (begun : Mode) → JournalsDifferInPublications one other
    → DifferInPublications (lists_of one end start begun) (lists_of other end start begun)
lists_same one other end start begun differ =
    subst (λ (b : Bool). DifferInPublications (lists_of one end start begun)
    (elim b [ true ↦ lists_from start (end - start) other | false ↦ with_joins (live_before start other []) (lists_from start (end - start) other) ]))
    (none_left one other end start begun differ)
    (some_joined (is_frozen begun && not (has_session_entry (lists_from start (end - start) one))) one other end start differ)

from_many : (turn count : ℕ) (one other : List Noted) → length (lists_from turn count one) ≡ length (lists_from turn count other)
from_many turn zero one other = refl
from_many turn (suc count) one other = ap suc (from_many (turn + 1) count one other)

-- joins make no list more
joins_many : (b : Bool) (live : List ℕ) (lists : List (List Entry))
    → length {A = List Entry} (elim b [ true ↦ lists | false ↦ with_joins live lists ]) ≡ length lists
joins_many true live lists = refl
joins_many false live [] = refl
joins_many false live (entries ∷ lists) = refl

pub lists_many : (one other : List Noted) (end start : ℕ) (begun : Mode)
    → length (lists_of one end start begun) ≡ length (lists_of other end start begun)
lists_many one other end start begun =
    let left = lists_from start (end - start) one in
    let also = lists_from start (end - start) other in
    joins_many (is_frozen begun && not (has_session_entry left)) (live_before start one []) left
    ∙ from_many start (end - start) one other
    ∙ sym (joins_many (is_frozen begun && not (has_session_entry also)) (live_before start other []) also)
