-- From rows to the answer for a whole text.
use Rattle.std.proofs.Common.{◌≡◌, ◌≢◌, ℕ, zero, suc, ◌+◌, ◌≤◌, ◌<◌, Bool, true, false, List, [], ◌∷◌, ◌++◌, length, Option, Some, None, Result, Ok, Err, refl, sym, ap, ◌∙◌, subst, append_assoc, arith}
use Rattle.std.proofs.lemmas.Bool.{and_from, and_parts}
use Rattle.std.proofs.lemmas.Bool.Decides.{nat_tests}
use Rattle.std.proofs.lemmas.List.{append-nil, length-append}
use Rattle.std.specs.Prelude.{codes, decimal, nat_le, ◌&&◌}
use Rattle.trick_codes.specs.Lines.{first_line}
use Rattle.trick_journal.proofs.Entries.{publish_more}
use Rattle.trick_journal.proofs.Lines.{turn_once}
use Rattle.trick_journal.specs.Fronts.{AreRight, Front, IsFront, ended, front_text, going, is_in_place, nothing, rises_with, rows_of, titled}
use Rattle.trick_journal.specs.Refusals.{AtLine, InPlace, IsOutOfPlace, IsRefused, Reads, ReadsBegin, ReadsTitle, Stands}
use Rattle.trick_journal.specs.Rows.{Row, Says, begin, finish, is_row, note, row_text, title}
use Rattle.trick_journal.specs.Rules.{Breaks, Finishes, Keeps}
use Rattle.trick_journal.specs.Told.{SaysNone, TurnSaid}
use Rattle.trick_journal.specs.declared.journal_fault.JournalFault.{JournalFault}
use Rattle.trick_journal.specs.declared.journal_fault.JournalFault.TheVariants as fault
use Rattle.trick_journal.specs.declared.rows.Rows.{Rows}
use Rattle.trick_model.specs.Journal.{Noted, are_within, entry_line, first_lines, journal_text, last_line, noted_lines}
use Rattle.trick_model.specs.JournalText.{IsJournal, all_may_publish, may_publish}
use Rattle.trick_model.specs.Plan.{Plan}
use Rattle.trick_model.specs.Time.{last_turn}
use Rattle.trick_model.specs.declared.journal.Journal.{Journal}

noted_more : (es : List Noted) (e : Noted) → noted_lines (es ++ e ∷ []) ≡ noted_lines es ++ entry_line e.0 e.1
noted_more [] e = append-nil (entry_line e.0 e.1)
noted_more (f ∷ es) e =
    ap (λ (us : List ℕ). entry_line f.0 f.1 ++ us) (noted_more es e)
    ∙ sym (append_assoc (entry_line f.0 f.1) (noted_lines es) (entry_line e.0 e.1))

-- the text so far, with the line of an entry more
pub front_more : (ts : List ℕ) (from : ℕ) (es : List Noted) (here line rest : List ℕ) (e : Noted)
    → ts ≡ front_text (going from es) ++ here → here ≡ line ++ rest → line ≡ entry_line e.0 e.1
    → ts ≡ front_text (going from (es ++ e ∷ [])) ++ rest
front_more ts from es here line rest e so_far all is =
    let front = first_lines from in
    let lines = noted_lines es in
    let more = entry_line e.0 e.1 in
    so_far
    ∙ ap (λ (us : List ℕ). (front ++ lines) ++ us) (all ∙ ap (λ (us : List ℕ). us ++ rest) is)
    ∙ sym (append_assoc (front ++ lines) more rest)
    ∙ ap (λ (us : List ℕ). us ++ rest) (append_assoc front lines more ∙ ap (λ (us : List ℕ). front ++ us) (sym (noted_more es e)))

module _ (p : Plan) (start : ℕ) (ts : List ℕ) where
  -- a line after right rows is the one of this number
  stands : (front : Front) (rest : List ℕ) (number : ℕ) → ts ≡ front_text front ++ rest → rest ≢ [] → IsFront p start front
      → number ≡ rows_of front + 1 → Stands p start ts number front (first_line rest)
  stands front rest number e some right n =
      record { rest = rest; text = e; some = some; first = refl; right = right; counted = n }

  module _ (from : ℕ) (es : List Noted) (here : List ℕ) (so_far : ts ≡ front_text (going from es) ++ here)
      (right : IsFront p start (going from es)) where
    -- no row in its place
    pub bad_line : (number : ℕ) → here ≢ [] → number ≡ length es + 3 → SaysNone (first_line here) → IsRefused p start ts (fault.BadLine number)
    bad_line number some n none =
        (going from es, first_line here, stands (going from es) here number so_far some right (omega arith), out)
      where
        out : IsOutOfPlace start (going from es) (first_line here)
        out title s at = absurd cc
        out (begin turn) s at = absurd cc
        out (note e) s at = none.note e s
        out (finish turn) s at = none.finish turn s

    -- an entry that breaks a rule
    pub broken : (number : JournalFault) (e : Noted) → here ≢ [] → Says (first_line here) (note e) → Breaks p from es (note e) number → IsRefused p start ts number
    broken fault.OutOfMemory e some s b = tt
    broken (fault.BadLine n) e some s b = absurd b
    broken (fault.NotRising n) e some s b = (
      going from es,
      first_line here,
      stands (going from es) here n so_far some right (omega (arith, b.0)),
      (from, es, note e, refl, s, refl, b.1),
    )
    broken (fault.NotJoined n) e some s b = (
      going from es,
      first_line here,
      stands (going from es) here n so_far some right (omega (arith, b.0)),
      (from, es, note e, refl, s, refl, (b.1, b.2)),
    )
    broken (fault.NotAsync n) e some s b = (
      going from es,
      first_line here,
      stands (going from es) here n so_far some right (omega (arith, b.0)),
      (from, es, note e, refl, s, refl, (b.1, b.2, b.3)),
    )
    broken (fault.NoEnd n) e some s b = absurd b

    -- no end
    pub no_end : (number : ℕ) → here ≡ [] → number ≡ length es + 3 → IsRefused p start ts (fault.NoEnd number)
    no_end number none n = (
      going from es,
      so_far ∙ ap (λ (us : List ℕ). front_text (going from es) ++ us) none ∙ append-nil (front_text (going from es)),
      right,
      (λ f entries end e. absurd cc),
      omega arith,
    )

    -- the front with the end
    whole : (end : ℕ) (rest : List ℕ) → here ≡ first_line here ++ rest → Says (first_line here) (finish end) → ts ≡ journal_text from es end ++ rest
    whole end rest all s =
        so_far ∙ ap (λ (us : List ℕ). front_text (going from es) ++ us) (all ∙ ap (λ (us : List ℕ). us ++ rest) s.text)
        ∙ sym (append_assoc (front_text (going from es)) (last_line end) rest)

    ended_right : (end : ℕ) → Says (first_line here) (finish end) → rises_with from es (finish end) ≡ true → IsFront p start (ended from es end)
    ended_right end s rises =
        let low : end ≤ last_turn = grind (arith, nat_tests, s.in_range) in
        let parts = and_parts (nat_le from end) (are_within from end es) rises in
        let test : nat_le from end ≡ true = parts.0 in
        let forward : from ≤ end = grind (arith, nat_tests) in
        (right.0, low, forward, parts.1, right.2, right.3)

    -- the end, and the answer that its line gives
    pub finished : (rows : Rows) (end : ℕ) (rest : List ℕ) (answer : Result Journal JournalFault) → rows.from ≡ from → rows.entries ≡ es
        → here ≢ [] → here ≡ first_line here ++ rest → Says (first_line here) (finish end) → Finishes rows end rest answer → Reads p start ts answer
    finished rows end rest (Ok journal) f g some all s h =
        let from_is = h.0 ∙ f in
        let entries_are = h.1 ∙ g in
        record {
          text = whole end rest all s ∙ ap (λ (us : List ℕ). journal_text from es end ++ us) h.3 ∙ append-nil (journal_text from es end)
              ∙ ap (λ (n : ℕ). journal_text n es end) (sym from_is) ∙ ap (λ (xs : List Noted). journal_text journal.from xs end) (sym entries_are)
              ∙ ap (λ (n : ℕ). journal_text journal.from journal.entries n) (sym h.2);
          not_later = subst (λ (n : ℕ). n ≤ start) (sym from_is) right.0;
          published = subst (λ (xs : List Noted). all_may_publish p xs ≡ true) (sym entries_are) right.3;
        }
    finished rows end rest (Err fault.OutOfMemory) f g some all s h = absurd h
    finished rows end rest (Err (fault.BadLine n)) f g some all s h =
        let rises : rises_with from es (finish end) ≡ true =
        subst (λ (xs : List Noted). rises_with from xs (finish end) ≡ true) g (subst (λ (k : ℕ). rises_with k rows.entries (finish end) ≡ true) f h.2) in
        let number : n ≡ length es + 4 = h.0 ∙ ap (λ (xs : List Noted). length xs + 4) g in (
          ended from es end,
          first_line rest,
          stands (ended from es end) rest n (whole end rest all s) h.1 (ended_right end s rises) (omega arith),
          (λ row said at. absurd cc),
        )
    finished rows end rest (Err (fault.NotRising n)) f g some all s h =
        let falls : rises_with from es (finish end) ≡ false =
        subst (λ (xs : List Noted). rises_with from xs (finish end) ≡ false) g (subst (λ (k : ℕ). rises_with k rows.entries (finish end) ≡ false) f h.1) in
        let number : n ≡ length es + 3 = h.0 ∙ ap (λ (xs : List Noted). length xs + 3) g in
        (going from es, first_line here, stands (going from es) here n so_far some right (omega arith), (from, es, finish end, refl, s, refl, falls))
    finished rows end rest (Err (fault.NotJoined n)) f g some all s h = absurd h
    finished rows end rest (Err (fault.NotAsync n)) f g some all s h = absurd h
    finished rows end rest (Err (fault.NoEnd n)) f g some all s h = absurd h

-- ---- the first two lines

module _ (p : Plan) (start : ℕ) (text : List ℕ) where
  pub empty_text : text ≡ [] → IsRefused p start text (fault.NoEnd 1)
  empty_text e = (nothing, e, tt, (λ f entries end e. absurd cc), refl)

  pub no_title : text ≢ [] → first_line text ≢ codes "tricks journal 1\n" → IsRefused p start text (fault.BadLine 1)
  no_title some apart =
      (nothing, first_line text, stands p start text nothing text 1 refl some tt refl, out)
    where
      out : IsOutOfPlace start nothing (first_line text)
      out title s at = apart s.text
      out (begin turn) s at = absurd cc
      out (note e) s at = absurd cc
      out (finish turn) s at = absurd cc

  abbrev all : List ℕ
  all = front_text titled ++ text

  pub title_alone : text ≡ [] → IsRefused p start all (fault.NoEnd 2)
  title_alone e = (titled, ap (λ (us : List ℕ). front_text titled ++ us) e ∙ append-nil (front_text titled), tt, (λ f entries end e. absurd cc), refl)

  -- no turn, or one above the start
  pub no_begin : text ≢ [] → ((turn : ℕ) → turn ≤ last_turn → first_line text ≡ codes "from " ++ (decimal turn ++ codes "\n") → nat_le turn start ≡ true → ⊥)
      → IsRefused p start all (fault.BadLine 2)
  no_begin some never =
      (titled, first_line text, stands p start all titled text 2 refl some tt refl, out)
    where
      out : IsOutOfPlace start titled (first_line text)
      out title s at = absurd cc
      out (begin turn) s at = let low : turn ≤ last_turn = grind (arith, nat_tests, s.in_range) in never turn low s.text at
      out (note e) s at = absurd cc
      out (finish turn) s at = absurd cc

  pub late_begin : (from : ℕ) → text ≢ [] → from ≤ last_turn → first_line text ≡ codes "from " ++ (decimal from ++ codes "\n") → start < from
      → IsRefused p start all (fault.BadLine 2)
  late_begin from some low is late =
      no_begin some (λ turn lim same at.
      let one : turn ≡ from = turn_once (codes "from ") (first_line text) turn from lim low same is in
      let below : turn ≤ start = grind (arith, nat_tests) in omega arith)

  pub no_from : text ≢ [] → TurnSaid (codes "from ") (first_line text) None → IsRefused p start all (fault.BadLine 2)
  no_from some none = no_begin some (λ turn low same at. none turn low same)

  pub begun : (from : ℕ) (rest : List ℕ) → text ≡ first_line text ++ rest → first_line text ≡ codes "from " ++ (decimal from ++ codes "\n")
      → all ≡ front_text (going from []) ++ rest
  begun from rest e is =
      ap (λ (us : List ℕ). front_text titled ++ us) (e ∙ ap (λ (us : List ℕ). us ++ rest) is)
      ∙ sym (append_assoc (front_text titled) (codes "from " ++ (decimal from ++ codes "\n")) rest)
      ∙ ap (λ (us : List ℕ). us ++ rest) (sym (append-nil (first_lines from)))

-- ---- the loop over rows

-- what the reader keeps is a right front
pub right_of : (p : Plan) (start from : ℕ) (rows : Rows) → Keeps rows → rows.from ≡ from → all_may_publish p rows.entries ≡ true
    → from ≤ start → from ≤ last_turn → IsFront p start (going from rows.entries)
right_of p start from rows keeps is published early low =
    (early, low, subst (λ (n : ℕ). AreRight n rows.entries) is keeps.right, published)

-- a publication that was allowed
pub published_more : (p : Plan) (es grown : List Noted) (e : Noted) → all_may_publish p es ≡ true → may_publish p e.1 ≡ true
    → grown ≡ es ++ e ∷ [] → all_may_publish p grown ≡ true
published_more p es grown e all one g =
    ap (all_may_publish p) g ∙ publish_more p es e ∙ and_from (all_may_publish p es) (may_publish p e.1) all one

-- each entry takes at least a byte of the text
pub room_more : (es grown : List Noted) (e : Noted) (here line rest : List ℕ) (total : ℕ) → grown ≡ es ++ e ∷ [] → here ≡ line ++ rest
    → 1 ≤ length line → length es + length here ≤ total → length grown + length rest ≤ total
room_more es grown e here line rest total g all some room =
    let one : length grown ≡ length es + 1 = ap length g ∙ length-append es (e ∷ []) in
    let both : length here ≡ length line + length rest = ap length all ∙ length-append line rest in
    omega (arith, one, both, some, room)

pub some_bytes : (ts : List ℕ) → 1 ≤ length ts → ts ≢ []
some_bytes [] le e = omega (arith, le)
some_bytes (t ∷ ts) le e = absurd cc

pub no_bytes : (ts : List ℕ) → length ts < 1 → ts ≡ []
no_bytes [] lt = refl
no_bytes (t ∷ ts) lt = absurd (omega (arith, lt))
