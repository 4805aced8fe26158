-- How many sessions left since a thread was refused to their clients.
use Rattle.std.proofs.Common.{◌≡◌, ◌∙◌, inl, inr, ⊎_elim, ℕ, suc, ◌+◌, ◌<◌, ◌≤◌, Bool, true, false, cond, eqb, nat_le, List, [], ◌∷◌, ◌++◌, Option, Some, None, ap, arith, length, map, refl, subst, sym}
use Rattle.std.proofs.lemmas.Bool.{and_parts, eq-eqb, false≢true, or_from}
use Rattle.std.proofs.lemmas.Bool.Decides.{eqb_tells, nat_tests}
use Rattle.std.proofs.lemmas.List.Sums.{sum_by-cons}
use Rattle.std.specs.Prelude.{◌&&◌, count_by, nat_lt}
use Rattle.trick_base.proofs.Numbers.{zero_at_most}
use Rattle.trick_model.specs.Journal.{is_entry, may_follow}
use Rattle.trick_model.specs.declared.entry.Cause.{Cause}
use Rattle.trick_model.specs.declared.entry.Cause.TheVariants as cause
use Rattle.trick_model.specs.declared.entry.Entry.{Entry}
use Rattle.trick_model.specs.declared.entry.Entry.TheVariants.{Join, Said, Leave, Publish}
use Rattle.trick_exec_meaning.specs.Answers.{given}
use Rattle.trick_serve_hearing.proofs.Placing.{side_past}
use Rattle.trick_serve_hearing.specs.Life.{is_of, leave_of, own}
use Rattle.trick_serve_hearing.specs.Sides.{Queues, Side, side}
use Rattle.trick_serve_hearing.specs.declared.seat.Seat.{Seat}
use Rattle.trick_serve_facts.proofs.Clients.{lives_at_end}
use Rattle.trick_serve_facts.proofs.Joins.{place_of}
use Rattle.trick_serve_facts.proofs.Keeping.{own_given, own_join}
use Rattle.trick_serve_facts.proofs.Waits.{among_other, among_push}
use Rattle.trick_serve_facts.specs.Life.{HasEntries, HasReason}
use Rattle.trick_serve_facts.specs.NoThreads.{FewNoThreads, is_no_thread, refused_seats}
use Rattle.trick_serve_facts.specs.Serves.{all_entries}
use Rattle.trick_exec_sources.specs.Turns.{Sessions, after_entries, after_entry, in_next, is_among, is_succession, may_all_come, may_come, no_sessions}

-- ---- counts

-- one where a test holds
abbrev one_if : Bool → ℕ
one_if b = cond b 1 0

drop_zero : (n : ℕ) → 0 + n ≡ n
drop_zero n = omega arith

-- one for a leave for want of a thread
abbrev one_of : Entry → ℕ
one_of entry = cond (is_no_thread entry) 1 0

-- how many of these entries are leaves for want of a thread
abbrev refused_in : List Entry → ℕ
refused_in entries = count_by is_no_thread entries

refused_more : (entry : Entry) (entries : List Entry) → refused_in (entry ∷ entries) ≡ one_of entry + refused_in entries
refused_more entry entries = sum_by-cons (λ (e : Entry). cond (is_no_thread e) 1 0) entry entries

-- the session of an entry
abbrev session_in : Entry → ℕ
session_in (Join session) = session
session_in (Said session line) = session
session_in (Leave session why) = session
session_in (Publish thread) = 0

-- one for a leave for want of a thread of a session from a number on
abbrev one_from : ℕ → Entry → ℕ
one_from first entry = cond (is_no_thread entry && nat_le first (session_in entry)) 1 0

-- how many of these entries are such leaves
abbrev refused_from : ℕ → List Entry → ℕ
refused_from first [] = 0
refused_from first (entry ∷ entries) = one_from first entry + refused_from first entries

-- ---- sessions from a number on

none_more : (b : Bool) → 0 ≡ 0 + cond b 0 0
none_more true = refl
none_more false = refl

leave_from : (first session : ℕ) → cond (nat_le first session) 1 0 ≡ cond (nat_le (first + 1) session) 1 0 + cond (eqb session first) 1 0
leave_from first session = grind (arith, nat_tests)

-- those from a number on are those of that number and those from the next one on
from_next : (first : ℕ) (entry : Entry) → one_from first entry ≡ one_from (first + 1) entry + cond (is_of first entry) (one_of entry) 0
from_next first (Join session) = none_more (eqb session first)
from_next first (Said session line) = none_more (eqb session first)
from_next first (Leave session cause.Exit) = none_more (eqb session first)
from_next first (Leave session cause.HungUp) = none_more (eqb session first)
from_next first (Leave session cause.LinkFault) = none_more (eqb session first)
from_next first (Leave session cause.LongLine) = none_more (eqb session first)
from_next first (Leave session cause.Slow) = none_more (eqb session first)
from_next first (Leave session cause.NoThread) = leave_from first session
from_next first (Leave session cause.OutOfMemory) = none_more (eqb session first)
from_next first (Publish thread) = refl

own_more : (n : ℕ) (entry : Entry) (entries : List Entry) → refused_in (own n (entry ∷ entries)) ≡ cond (is_of n entry) (one_of entry) 0 + refused_in (own n entries)
own_more n entry entries = by (is_of n entry)
  where
    by : (b : Bool) → refused_in (cond b (entry ∷ own n entries) (own n entries)) ≡ cond b (one_of entry) 0 + refused_in (own n entries)
    by true = refused_more entry (own n entries)
    by false = sym (drop_zero (refused_in (own n entries)))

split_sum : (a b c d e f g : ℕ) → a ≡ c + e → b ≡ d + f → g ≡ e + f → a + b ≡ (c + d) + g
split_sum a b c d e f g one two three = omega (arith, one, two, three)

split_from : (first : ℕ) (entries : List Entry) → refused_from first entries ≡ refused_from (first + 1) entries + refused_in (own first entries)
split_from first [] = refl
split_from first (entry ∷ entries) =
    split_sum (one_from first entry) (refused_from first entries) (one_from (first + 1) entry) (refused_from (first + 1) entries)
    (cond (is_of first entry) (one_of entry) 0) (refused_in (own first entries)) (refused_in (own first (entry ∷ entries)))
    (from_next first entry) (split_from first entries) (own_more first entry entries)

above_none : (session : ℕ) → one_if true ≡ one_if (nat_le 0 session)
above_none session = ap one_if (above session)
  where
    above : (n : ℕ) → true ≡ nat_le 0 n
    above n = grind (arith, nat_tests)

all_from_one : (entry : Entry) → one_of entry ≡ one_from 0 entry
all_from_one (Join session) = refl
all_from_one (Said session line) = refl
all_from_one (Leave session cause.Exit) = refl
all_from_one (Leave session cause.HungUp) = refl
all_from_one (Leave session cause.LinkFault) = refl
all_from_one (Leave session cause.LongLine) = refl
all_from_one (Leave session cause.Slow) = refl
all_from_one (Leave session cause.NoThread) = above_none session
all_from_one (Leave session cause.OutOfMemory) = refl
all_from_one (Publish thread) = refl

all_from : (entries : List Entry) → refused_in entries ≡ refused_from 0 entries
all_from [] = refl
all_from (entry ∷ entries) = refused_more entry entries ∙ (λ i. all_from_one entry i + all_from entries i)

-- ---- sessions past the last one

first_not : (b : Bool) (entry : Entry) (some : List Entry) → cond b (entry ∷ some) some ≡ [] → (b ≡ false) × (some ≡ [])
first_not true entry some e = cc e
first_not false entry some e = (refl, e)

no_leave : (first session : ℕ) → (nat_le first session ≡ true → ⊥) → one_if (nat_le first session) ≡ one_if false
no_leave first session never = by (nat_le first session) never
  where
    by : (b : Bool) → (b ≡ true → ⊥) → one_if b ≡ one_if false
    by true is = absurd (is refl)
    by false is = refl

-- an entry of no session from a number on
past_one : (first : ℕ) (entry : Entry) → ((n : ℕ) → first ≤ n → is_of n entry ≡ false) → one_from first entry ≡ 0
past_one first (Join session) none = refl
past_one first (Said session line) none = refl
past_one first (Leave session cause.Exit) none = refl
past_one first (Leave session cause.HungUp) none = refl
past_one first (Leave session cause.LinkFault) none = refl
past_one first (Leave session cause.LongLine) none = refl
past_one first (Leave session cause.Slow) none = refl
past_one first (Leave session cause.NoThread) none =
    no_leave first session (λ within. false≢true (sym (none session (at_least within)) ∙ eq-eqb session session refl))
  where
    at_least : nat_le first session ≡ true → first ≤ session
    at_least within = grind (arith, nat_tests)
past_one first (Leave session cause.OutOfMemory) none = refl
past_one first (Publish thread) none = refl

none_both : (m n : ℕ) → m ≡ 0 → n ≡ 0 → m + n ≡ 0
none_both m n one two = omega (arith, one, two)

past_all : (first : ℕ) (entries : List Entry) → ((n : ℕ) → first ≤ n → own n entries ≡ []) → refused_from first entries ≡ 0
past_all first [] none = refl
past_all first (entry ∷ entries) none =
    none_both (one_from first entry) (refused_from first entries)
    (past_one first entry (λ n past. (first_not (is_of n entry) entry (own n entries) (none n past)).0))
    (past_all first entries (λ n past. (first_not (is_of n entry) entry (own n entries) (none n past)).1))

-- ---- nobody has the number 0

-- a session that is live has another number than one that is not
number_other : (session n : ℕ) (live : List ℕ) → is_among n live ≡ false → is_among session live ≡ true → eqb session n ≡ false
number_other session n live away here = ⊎_elim
    (λ yes. absurd (false≢true (sym away ∙ ap (λ (m : ℕ). is_among m live) (sym yes.1) ∙ here)))
    (λ no. no.0)
    (eqb_tells session n)

above_zero : (highest session : ℕ) → nat_lt highest session ≡ true → eqb session 0 ≡ false
above_zero highest session above = grind (arith, nat_tests)

zero_one : (entry : Entry) (s : Sessions) → is_among 0 s.live ≡ false → may_come entry s ≡ true
    → (is_of 0 entry ≡ false) × (is_among 0 (after_entry entry s).live ≡ false)
zero_one (Join session) s away comes =
    let other = above_zero s.highest session comes in (other, among_push 0 s.live session ∙ or_from (is_among 0 s.live) (eqb session 0) away other)
zero_one (Said session line) s away comes = (number_other session 0 s.live away comes, away)
zero_one (Leave session why) s away comes =
    let other = number_other session 0 s.live away comes in (other, among_other 0 session s.live other ∙ away)
zero_one (Publish thread) s away comes = (refl, away)

pub come_first : (entry : Entry) (entries : List Entry) (s : Sessions) → may_all_come (entry ∷ entries) s ≡ true
    → (may_come entry s ≡ true) × (may_all_come entries (after_entry entry s) ≡ true)
come_first entry [] s come = ((and_parts (is_entry entry) (may_come entry s) come).1, refl)
come_first entry (other ∷ entries) s come =
    let one = and_parts (is_entry entry) (may_come entry s && (may_follow entry other && may_all_come (other ∷ entries) (after_entry entry s))) come in
    let two = and_parts (may_come entry s) (may_follow entry other && may_all_come (other ∷ entries) (after_entry entry s)) one.1 in
    let three = and_parts (may_follow entry other) (may_all_come (other ∷ entries) (after_entry entry s)) two.1 in
    (two.0, three.1)

zero_all : (entries : List Entry) (s : Sessions) → is_among 0 s.live ≡ false → may_all_come entries s ≡ true
    → (own 0 entries ≡ []) × (is_among 0 (after_entries entries s).live ≡ false)
zero_all [] s away come = (refl, away)
zero_all (entry ∷ entries) s away come =
    let parts = come_first entry entries s come in
    let one = zero_one entry s away parts.0 in
    let rest = zero_all entries (after_entry entry s) one.1 parts.1 in
    (ap (λ (b : Bool). cond b (entry ∷ own 0 entries) (own 0 entries)) one.0 ∙ rest.0, rest.1)

zero_lists : (lists : List (List Entry)) (s : Sessions) → is_among 0 s.live ≡ false → is_succession (map (given false) lists) s ≡ true
    → own 0 (all_entries lists) ≡ []
zero_lists [] s away right = refl
zero_lists (entries ∷ lists) s away right =
    let list = given false entries in
    let both = and_parts (may_all_come list (in_next s)) (is_succession (map (given false) lists) (after_entries list (in_next s))) right in
    let now = zero_all list (in_next s) away both.0 in
    let rest = zero_lists lists (after_entries list (in_next s)) now.1 both.1 in
    own_join 0 entries (all_entries lists) ∙ (λ i. (sym (own_given 0 entries) ∙ now.0) i ++ rest i)

-- ---- one session

-- one for a client to which a thread was refused
abbrev refused_by : Option Queues → ℕ
refused_by None = 0
refused_by (Some queues) = cond queues.refused 1 0

same_above : (m n : ℕ) → m ≡ n → m ≤ n
same_above m n is = omega (arith, is)

leave_refused : (n : ℕ) (leave : Option Cause) (s : Side) → HasReason leave s → refused_in (leave_of n leave) ≤ refused_by s.queues
leave_refused n None s reason = zero_at_most (refused_by s.queues)
leave_refused n (Some cause.Exit) s reason = zero_at_most (refused_by s.queues)
leave_refused n (Some cause.HungUp) s reason = zero_at_most (refused_by s.queues)
leave_refused n (Some cause.LinkFault) s reason = zero_at_most (refused_by s.queues)
leave_refused n (Some cause.LongLine) s reason = zero_at_most (refused_by s.queues)
leave_refused n (Some cause.Slow) s reason = zero_at_most (refused_by s.queues)
leave_refused n (Some cause.NoThread) s reason =
    same_above 1 (refused_by s.queues) (sym (ap refused_by reason.seated ∙ ap (λ (b : Bool). cond b 1 0) reason.refused))
leave_refused n (Some cause.OutOfMemory) s reason = zero_at_most (refused_by s.queues)

lines_refused : (n : ℕ) (lines : List (List ℕ)) (leave : Option Cause)
    → refused_in (map (λ (line : List ℕ). Said n line) lines ++ leave_of n leave) ≡ refused_in (leave_of n leave)
lines_refused n [] leave = refl
lines_refused n (line ∷ lines) leave =
    let later = map (λ (l : List ℕ). Said n l) lines ++ leave_of n leave in
    refused_more (Said n line) later ∙ drop_zero (refused_in later) ∙ lines_refused n lines leave

entries_refused : (n : ℕ) (s : Side) (entries : List Entry) → HasEntries n s entries → refused_in entries ≤ refused_by s.queues
entries_refused n s entries (inl none) = subst (λ (l : List Entry). refused_in l ≤ refused_by s.queues) (sym none.1) (zero_at_most (refused_by s.queues))
entries_refused n s entries (inr lived) =
    let later = map (λ (line : List ℕ). Said n line) lived.lines ++ leave_of n lived.leave in
    subst (λ (m : ℕ). m ≤ refused_by s.queues)
    (sym (ap refused_in lived.entries_are ∙ refused_more (Join n) later ∙ drop_zero (refused_in later) ∙ lines_refused n lived.lines lived.leave))
    (leave_refused n lived.leave s lived.reason)

some_none : (q : Queues) → Some q ≡ None → ⊥
some_none q is = cc

away_none : (n : ℕ) (s : Side) (entries : List Entry) → s.queues ≡ None → HasEntries n s entries → entries ≡ []
away_none n s entries away (inl none) = none.1
away_none n s entries away (inr lived) = absurd (some_none lived.queues (sym lived.seated ∙ away))

-- ---- all seats

next_place : (k first : ℕ) → suc k + first ≡ k + (first + 1)
next_place k first = omega arith

few_more : (all rest mine one few : ℕ) → all ≡ rest + mine → mine ≤ one → rest ≤ few → all ≤ one + few
few_more all rest mine one few is low less = omega (arith, is, low, less)

seats_refused : (seats : List Seat) (first : ℕ) (entries : List Entry)
    → ((k : ℕ) → refused_in (own (k + first) entries) ≤ refused_by (side seats k).queues)
    → refused_from (length seats + first) entries ≡ 0 → refused_from first entries ≤ refused_seats seats
seats_refused [] first entries each none =
    same_above (refused_from first entries) 0 (subst (λ (n : ℕ). refused_from n entries ≡ 0) (drop_zero first) none)
seats_refused (seat ∷ seats) first entries each none =
    let one = one_if seat.refused in
    let mine : refused_in (own first entries) ≤ one =
    subst (λ (n : ℕ). refused_in (own n entries) ≤ one) (drop_zero first) (each 0) in
    subst (λ (n : ℕ). refused_from first entries ≤ n) (sym (sum_by-cons (λ (s : Seat). cond s.refused 1 0) seat seats))
    (few_more (refused_from first entries) (refused_from (first + 1) entries) (refused_in (own first entries)) one (refused_seats seats)
    (split_from first entries) mine
    (seats_refused seats (first + 1) entries
    (λ k. subst (λ (n : ℕ). refused_in (own n entries) ≤ refused_by (side seats k).queues) (next_place k first) (each (suc k)))
    (subst (λ (n : ℕ). refused_from n entries ≡ 0) (next_place (length seats) first) none)))

all_but_zero : (all from_one own_zero : ℕ) → all ≡ from_one + own_zero → own_zero ≡ 0 → all ≡ from_one
all_but_zero all from_one own_zero is none = omega (arith, is, none)

pub few_refused : FewNoThreads
few_refused p s lists old new run right =
    let entries = all_entries lists in
    subst (λ (n : ℕ). n ≤ refused_seats new.seats)
    (sym (all_from entries ∙ all_but_zero (refused_from 0 entries) (refused_from 1 entries) (refused_in (own 0 entries)) (split_from 0 entries)
    (ap refused_in (zero_lists lists no_sessions refl right))))
    (seats_refused new.seats 1 entries
    (λ k. entries_refused (k + 1) (side new.seats k) (own (k + 1) entries) (lives_at_end p s lists old new k run))
    (past_all (length new.seats + 1) entries (λ n past.
    let place = place_of n (positive n past) in
    subst (λ (m : ℕ). own m entries ≡ []) place.1
    (away_none (place.0 + 1) (side new.seats place.0) (own (place.0 + 1) entries)
    (ap (λ (t : Side). t.queues) (side_past new.seats place.0 (past_last n place.0 past place.1)))
    (lives_at_end p s lists old new place.0 run)))))
  where
    positive : (n : ℕ) → length new.seats + 1 ≤ n → 0 < n
    positive n past = omega (arith, past)

    past_last : (n k : ℕ) → length new.seats + 1 ≤ n → k + 1 ≡ n → length new.seats ≤ k
    past_last n k past is = omega (arith, past, is)
