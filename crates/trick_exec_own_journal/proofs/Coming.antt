-- The rules of entries, entry after entry.
use Rattle.std.proofs.Common.{◌≡◌, ◌∙◌, ℕ, ◌<◌, ◌≤◌, List, [], ◌∷◌, ◌++◌, Bool, true, false, not, ◌&&◌, arith, refl, nat_lt}
use Rattle.std.proofs.lemmas.Bool.{and_from, and_parts}
use Rattle.std.proofs.lemmas.Bool.Decides.{nat_tests}
use Rattle.std.specs.Prelude.{cond, filter, nat_le}
use Rattle.trick_model.specs.Journal.{is_entry, is_of_session, may_follow}
use Rattle.trick_model.specs.declared.entry.Entry.{Entry}
use Rattle.trick_model.specs.declared.entry.Entry.TheVariants.{Join, Said, Leave, Publish}
use Rattle.trick_exec_sources.specs.Turns.{Sessions, after_entries, after_entry, in_next, may_all_come, may_come}

-- Lists keep the rules of entries one after another, from these sessions on.
abbrev pub KeepRules : List (List Entry) → Sessions → Type 0
KeepRules [] s = Unit {0}
KeepRules (entries ∷ lists) s = (may_all_come entries (in_next s) ≡ true) × KeepRules lists (after_entries entries (in_next s))

-- ---- the first entry, and the others

-- Nothing comes after an entry, or what comes first may follow it.
abbrev pub head_follows : Entry → List Entry → Bool
head_follows entry [] = true
head_follows entry (next ∷ entries) = may_follow entry next

-- What the rules say of the first entry of a list, and of the others.
pub record Comes (entry : Entry) (entries : List Entry) (s : Sessions) : Type 0 where
  pub ranged : is_entry entry ≡ true
  pub may : may_come entry s ≡ true
  pub follows : head_follows entry entries ≡ true
  pub rest : may_all_come entries (after_entry entry s) ≡ true

pub comes : (entry : Entry) (entries : List Entry) (s : Sessions) → may_all_come (entry ∷ entries) s ≡ true → Comes entry entries s
comes entry [] s all =
    let parts = and_parts (is_entry entry) (may_come entry s) all in record { ranged = parts.0; may = parts.1; follows = refl; rest = refl }
comes entry (next ∷ entries) s all =
    let more = may_all_come (next ∷ entries) (after_entry entry s) in
    let one = and_parts (is_entry entry) (may_come entry s && (may_follow entry next && more)) all in
    let two = and_parts (may_come entry s) (may_follow entry next && more) one.1 in
    let three = and_parts (may_follow entry next) more two.1 in
    record { ranged = one.0; may = two.0; follows = three.0; rest = three.1 }

pub come : (entry : Entry) (entries : List Entry) (s : Sessions) → Comes entry entries s → may_all_come (entry ∷ entries) s ≡ true
come entry [] s all = and_from (is_entry entry) (may_come entry s) all.ranged all.may
come entry (next ∷ entries) s all =
    let more = may_all_come (next ∷ entries) (after_entry entry s) in
    and_from (is_entry entry) (may_come entry s && (may_follow entry next && more)) all.ranged
    (and_from (may_come entry s) (may_follow entry next && more) all.may (and_from (may_follow entry next) more all.follows all.rest))

-- after a join, a line or a leave anything may come
line_follows : (entry : Entry) (entries : List Entry) → is_of_session entry ≡ true → head_follows entry entries ≡ true
line_follows entry [] line = refl
line_follows (Join session) (next ∷ entries) line = refl
line_follows (Said session text) (next ∷ entries) line = refl
line_follows (Leave session cause) (next ∷ entries) line = refl
line_follows (Publish thread) (next ∷ entries) line = cc line

-- ---- lines, and publications

-- the joins, lines and leaves of a turn
abbrev pub lines_in : List Entry → List Entry
lines_in entries = filter is_of_session entries

-- its publications
abbrev pub others_in : List Entry → List Entry
others_in entries = filter (λ (entry : Entry). not (is_of_session entry)) entries

-- Publications of rising threads, from above the first number to the last one at most.
abbrev pub publish_between : ℕ → List Entry → ℕ → Bool
publish_between low [] high = nat_le low high
publish_between low (Join session ∷ entries) high = false
publish_between low (Said session line ∷ entries) high = false
publish_between low (Leave session cause ∷ entries) high = false
publish_between low (Publish thread ∷ entries) high = nat_lt low thread && publish_between thread entries high

pub between_parts : (low : ℕ) (thread : ℕ) (entries : List Entry) (high : ℕ) → publish_between low (Publish thread ∷ entries) high ≡ true
    → (nat_lt low thread ≡ true) × (publish_between thread entries high ≡ true)
between_parts low thread entries high all = and_parts (nat_lt low thread) (publish_between thread entries high) all

-- the first number is not above the last one
pub between_low : (low : ℕ) (entries : List Entry) (high : ℕ) → publish_between low entries high ≡ true → low ≤ high
between_low low [] high all = grind (arith, nat_tests, all)
between_low low (Join session ∷ entries) high all = absurd (cc all)
between_low low (Said session line ∷ entries) high all = absurd (cc all)
between_low low (Leave session cause ∷ entries) high all = absurd (cc all)
between_low low (Publish thread ∷ entries) high all =
    let parts = between_parts low thread entries high all in
    le_lt (less_of low thread parts.0) (between_low thread entries high parts.1)
  where
    less_of : (a b : ℕ) → nat_lt a b ≡ true → a < b
    less_of a b e = grind (arith, nat_tests, e)

    le_lt : {a b c : ℕ} → a < b → b ≤ c → a ≤ c
    le_lt one two = omega arith

-- a publication's thread is in its range
thread_ranged : (low thread : ℕ) → nat_lt low thread ≡ true → thread ≤ 15 → is_entry (Publish thread) ≡ true
thread_ranged low thread less most =
    and_from (nat_le 1 thread) (nat_le thread 15) (some (less_of low thread less)) (not_above most)
  where
    less_of : (a b : ℕ) → nat_lt a b ≡ true → a < b
    less_of a b e = grind (arith, nat_tests, e)

    some : {a b : ℕ} → a < b → nat_le 1 b ≡ true
    some less = grind (arith, nat_tests, less)

    not_above : {a : ℕ} → a ≤ 15 → nat_le a 15 ≡ true
    not_above most = grind (arith, nat_tests, most)

next_follows : (thread : ℕ) (entries : List Entry) → publish_between thread entries 15 ≡ true → head_follows (Publish thread) entries ≡ true
next_follows thread [] all = refl
next_follows thread (Join session ∷ entries) all = cc all
next_follows thread (Said session line ∷ entries) all = cc all
next_follows thread (Leave session cause ∷ entries) all = cc all
next_follows thread (Publish next ∷ entries) all = (between_parts thread next entries 15 all).0

-- publications of rising threads may come
pub publications_come : (low : ℕ) (entries : List Entry) (s : Sessions) → publish_between low entries 15 ≡ true → may_all_come entries s ≡ true
publications_come low [] s all = refl
publications_come low (Join session ∷ entries) s all = cc all
publications_come low (Said session line ∷ entries) s all = cc all
publications_come low (Leave session cause ∷ entries) s all = cc all
publications_come low (Publish thread ∷ entries) s all =
    let parts = between_parts low thread entries 15 all in
    come (Publish thread) entries s (record {
      ranged = thread_ranged low thread parts.0 (between_low thread entries 15 parts.1);
      may = refl;
      follows = next_follows thread entries parts.1;
      rest = publications_come thread entries s parts.1;
    })

-- they change no session
pub publications_after : (low : ℕ) (entries : List Entry) (high : ℕ) (s : Sessions) → publish_between low entries high ≡ true → after_entries entries s ≡ s
publications_after low [] high s all = refl
publications_after low (Join session ∷ entries) high s all = cc all
publications_after low (Said session line ∷ entries) high s all = cc all
publications_after low (Leave session cause ∷ entries) high s all = cc all
publications_after low (Publish thread ∷ entries) high s all =
    publications_after thread entries high s (between_parts low thread entries high all).1

-- ---- publications after lines

pub come_apart : (low : ℕ) (entries others : List Entry) (s : Sessions) → may_all_come (lines_in entries) s ≡ true
    → publish_between low others 15 ≡ true → may_all_come (lines_in entries ++ others) s ≡ true
come_apart low [] others s lines all = publications_come low others s all
come_apart low (Join session ∷ entries) others s lines all =
    let first = comes (Join session) (lines_in entries) s lines in
    come (Join session) (lines_in entries ++ others) s (record {
      ranged = first.ranged;
      may = first.may;
      follows = line_follows (Join session) (lines_in entries ++ others) refl;
      rest = come_apart low entries others (after_entry (Join session) s) first.rest all;
    })
come_apart low (Said session line ∷ entries) others s lines all =
    let first = comes (Said session line) (lines_in entries) s lines in
    come (Said session line) (lines_in entries ++ others) s (record {
      ranged = first.ranged;
      may = first.may;
      follows = line_follows (Said session line) (lines_in entries ++ others) refl;
      rest = come_apart low entries others s first.rest all;
    })
come_apart low (Leave session cause ∷ entries) others s lines all =
    let first = comes (Leave session cause) (lines_in entries) s lines in
    come (Leave session cause) (lines_in entries ++ others) s (record {
      ranged = first.ranged;
      may = first.may;
      follows = line_follows (Leave session cause) (lines_in entries ++ others) refl;
      rest = come_apart low entries others (after_entry (Leave session cause) s) first.rest all;
    })
come_apart low (Publish thread ∷ entries) others s lines all = come_apart low entries others s lines all

after_append : (early late : List Entry) (s : Sessions) → after_entries (early ++ late) s ≡ after_entries late (after_entries early s)
after_append [] late s = refl
after_append (entry ∷ early) late s = after_append early late (after_entry entry s)

pub after_apart : (low : ℕ) (lines others : List Entry) (high : ℕ) (s : Sessions) → publish_between low others high ≡ true
    → after_entries (lines ++ others) s ≡ after_entries lines s
after_apart low lines others high s all = after_append lines others s ∙ publications_after low others high (after_entries lines s) all

-- ---- a list whose entries are all given

pub lines_come : (entries : List Entry) (s : Sessions) → may_all_come entries s ≡ true → may_all_come (lines_in entries) s ≡ true
lines_come [] s all = refl
lines_come (Join session ∷ entries) s all =
    let first = comes (Join session) entries s all in
    come (Join session) (lines_in entries) s (record {
      ranged = first.ranged;
      may = first.may;
      follows = line_follows (Join session) (lines_in entries) refl;
      rest = lines_come entries (after_entry (Join session) s) first.rest;
    })
lines_come (Said session line ∷ entries) s all =
    let first = comes (Said session line) entries s all in
    come (Said session line) (lines_in entries) s (record {
      ranged = first.ranged;
      may = first.may;
      follows = line_follows (Said session line) (lines_in entries) refl;
      rest = lines_come entries s first.rest;
    })
lines_come (Leave session cause ∷ entries) s all =
    let first = comes (Leave session cause) entries s all in
    come (Leave session cause) (lines_in entries) s (record {
      ranged = first.ranged;
      may = first.may;
      follows = line_follows (Leave session cause) (lines_in entries) refl;
      rest = lines_come entries (after_entry (Leave session cause) s) first.rest;
    })
lines_come (Publish thread ∷ entries) s all = lines_come entries s (comes (Publish thread) entries s all).rest

pub lines_after : (entries : List Entry) (s : Sessions) → after_entries (lines_in entries) s ≡ after_entries entries s
lines_after [] s = refl
lines_after (Join session ∷ entries) s = lines_after entries (after_entry (Join session) s)
lines_after (Said session line ∷ entries) s = lines_after entries s
lines_after (Leave session cause ∷ entries) s = lines_after entries (after_entry (Leave session cause) s)
lines_after (Publish thread ∷ entries) s = lines_after entries s

-- the numbers of a publication's range
thread_most : (thread : ℕ) → is_entry (Publish thread) ≡ true → (nat_lt 0 thread ≡ true) × (thread ≤ 15)
thread_most thread ranged =
    let parts = and_parts (nat_le 1 thread) (nat_le thread 15) ranged in (first thread parts.0, last thread parts.1)
  where
    first : (n : ℕ) → nat_le 1 n ≡ true → nat_lt 0 n ≡ true
    first n e = grind (arith, nat_tests, e)

    last : (n : ℕ) → nat_le n 15 ≡ true → n ≤ 15
    last n e = grind (arith, nat_tests, e)

-- what comes after a publication are publications of larger threads
publications_rise : (thread : ℕ) (entries : List Entry) (s : Sessions) → is_entry (Publish thread) ≡ true → head_follows (Publish thread) entries ≡ true
    → may_all_come entries s ≡ true → publish_between thread (others_in entries) 15 ≡ true
publications_rise thread [] s ranged follows all = not_above (thread_most thread ranged).1
  where
    not_above : {a : ℕ} → a ≤ 15 → nat_le a 15 ≡ true
    not_above most = grind (arith, nat_tests, most)
publications_rise thread (Join session ∷ entries) s ranged follows all = cc follows
publications_rise thread (Said session line ∷ entries) s ranged follows all = cc follows
publications_rise thread (Leave session cause ∷ entries) s ranged follows all = cc follows
publications_rise thread (Publish next ∷ entries) s ranged follows all =
    let first = comes (Publish next) entries s all in
    and_from (nat_lt thread next) (publish_between next (others_in entries) 15) follows
    (publications_rise next entries s first.ranged first.follows first.rest)

pub others_rise : (entries : List Entry) (s : Sessions) → may_all_come entries s ≡ true → publish_between 0 (others_in entries) 15 ≡ true
others_rise [] s all = refl
others_rise (Join session ∷ entries) s all = others_rise entries (after_entry (Join session) s) (comes (Join session) entries s all).rest
others_rise (Said session line ∷ entries) s all = others_rise entries s (comes (Said session line) entries s all).rest
others_rise (Leave session cause ∷ entries) s all =
    others_rise entries (after_entry (Leave session cause) s) (comes (Leave session cause) entries s all).rest
others_rise (Publish thread ∷ entries) s all =
    let first = comes (Publish thread) entries s all in
    and_from (nat_lt 0 thread) (publish_between thread (others_in entries) 15) (thread_most thread first.ranged).0
    (publications_rise thread entries s first.ranged first.follows first.rest)

-- ---- fewer publications

pub between_lower : (low lower : ℕ) (entries : List Entry) (high : ℕ) → lower ≤ low → publish_between low entries high ≡ true
    → publish_between lower entries high ≡ true
between_lower low lower [] high less all = lower_still low lower high less all
  where
    lower_still : (low lower high : ℕ) → lower ≤ low → nat_le low high ≡ true → nat_le lower high ≡ true
    lower_still low lower high less all = grind (arith, nat_tests, less, all)
between_lower low lower (Join session ∷ entries) high less all = cc all
between_lower low lower (Said session line ∷ entries) high less all = cc all
between_lower low lower (Leave session cause ∷ entries) high less all = cc all
between_lower low lower (Publish thread ∷ entries) high less all =
    let parts = between_parts low thread entries high all in
    and_from (nat_lt lower thread) (publish_between thread entries high) (lower_still low lower thread less parts.0) parts.1
  where
    lower_still : (low lower thread : ℕ) → lower ≤ low → nat_lt low thread ≡ true → nat_lt lower thread ≡ true
    lower_still low lower thread less all = grind (arith, nat_tests, less, all)

pub between_fewer : (test : Entry → Bool) (low : ℕ) (entries : List Entry) (high : ℕ) → publish_between low entries high ≡ true
    → publish_between low (filter test entries) high ≡ true
between_fewer test low [] high all = all
between_fewer test low (Join session ∷ entries) high all = cc all
between_fewer test low (Said session line ∷ entries) high all = cc all
between_fewer test low (Leave session cause ∷ entries) high all = cc all
between_fewer test low (Publish thread ∷ entries) high all =
    let parts = between_parts low thread entries high all in
    let more = between_fewer test thread entries high parts.1 in
    by (test (Publish thread)) parts.0 more
  where
    lower : (a b : ℕ) → nat_lt a b ≡ true → a ≤ b
    lower a b e = grind (arith, nat_tests, e)

    by : (b : Bool) → nat_lt low thread ≡ true → publish_between thread (filter test entries) high ≡ true
        → publish_between low (cond b (Publish thread ∷ filter test entries) (filter test entries)) high ≡ true
    by true first more = and_from (nat_lt low thread) (publish_between thread (filter test entries) high) first more
    by false first more = between_lower thread low (filter test entries) high (lower low thread first) more

-- ---- one publication more

pub between_higher : (low : ℕ) (entries : List Entry) (high higher : ℕ) → high ≤ higher → publish_between low entries high ≡ true
    → publish_between low entries higher ≡ true
between_higher low [] high higher less all = higher_still low high higher less all
  where
    higher_still : (low high higher : ℕ) → high ≤ higher → nat_le low high ≡ true → nat_le low higher ≡ true
    higher_still low high higher less all = grind (arith, nat_tests, less, all)
between_higher low (Join session ∷ entries) high higher less all = cc all
between_higher low (Said session line ∷ entries) high higher less all = cc all
between_higher low (Leave session cause ∷ entries) high higher less all = cc all
between_higher low (Publish thread ∷ entries) high higher less all =
    let parts = between_parts low thread entries high all in
    and_from (nat_lt low thread) (publish_between thread entries higher) parts.0 (between_higher thread entries high higher less parts.1)

pub between_more : (low : ℕ) (entries : List Entry) (high thread : ℕ) → high < thread → publish_between low entries high ≡ true
    → publish_between low (entries ++ Publish thread ∷ []) thread ≡ true
between_more low [] high thread less all =
    and_from (nat_lt low thread) (nat_le thread thread) (above low high thread less all) (itself thread)
  where
    above : (low high thread : ℕ) → high < thread → nat_le low high ≡ true → nat_lt low thread ≡ true
    above low high thread less all = grind (arith, nat_tests, less, all)

    itself : (n : ℕ) → nat_le n n ≡ true
    itself n = grind (arith, nat_tests)
between_more low (Join session ∷ entries) high thread less all = cc all
between_more low (Said session line ∷ entries) high thread less all = cc all
between_more low (Leave session cause ∷ entries) high thread less all = cc all
between_more low (Publish first ∷ entries) high thread less all =
    let parts = between_parts low first entries high all in
    and_from (nat_lt low first) (publish_between first (entries ++ Publish thread ∷ []) thread) parts.0
    (between_more first entries high thread less parts.1)
