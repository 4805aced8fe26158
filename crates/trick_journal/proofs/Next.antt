-- What stands after a front of a journal: its next row.
use Rattle.std.proofs.Common.{◌≡◌, ◌≢◌, ℕ, ◌≤◌, true, List, [], ◌∷◌, ◌++◌, refl, sym, ap, ◌∙◌, subst, append_assoc, arith}
use Rattle.std.proofs.lemmas.Bool.{and_from, and_parts}
use Rattle.std.proofs.lemmas.Bool.Decides.{nat_tests}
use Rattle.std.proofs.lemmas.List.{append-nil}
use Rattle.std.specs.Prelude.{codes, decimal, nat_le, nat_lt, ◌&&◌}
use Rattle.trick_codes.proofs.Base.{good_is}
use Rattle.trick_codes.proofs.Codes.{back}
use Rattle.trick_codes.specs.Code.{read}
use Rattle.trick_codes.specs.declared.miss.Miss.{Miss}
use Rattle.trick_journal.proofs.Entries.{publish_more, range_more, within_more}
use Rattle.trick_journal.proofs.IsSound.{turn_sound}
use Rattle.trick_journal.proofs.Texts.{end_fits, note_fits}
use Rattle.trick_journal.specs.Codes.{turn_code}
use Rattle.trick_journal.specs.Fronts.{Front, IsFront, ended, front_text, going, is_in_place, joins_with, nothing, publishes_right, rises_with, titled}
use Rattle.trick_journal.specs.Rows.{Row, begin, finish, is_row, note, row_text, title}
use Rattle.trick_journal.proofs.Front.{joined_front, publish_front, range_front, rising_front, within_front}
use Rattle.trick_journal.proofs.OneLine.{end_row, note_row, right_is, same_row}
use Rattle.trick_model.specs.Journal.{Noted, are_in_range, are_joined, are_rising, are_within, entry_line, first_lines, is_entry, last_line, noted_lines}
use Rattle.trick_model.specs.JournalText.{IsJournal, all_may_publish, may_publish}
use Rattle.trick_model.specs.Plan.{Plan}
use Rattle.trick_model.specs.Time.{last_turn}
use Rattle.trick_model.specs.declared.journal.Journal.{Journal}

-- a row that may stand after a front, and what stands after it
pub record IsNext (p : Plan) (start : ℕ) (front : Front) (rest : List ℕ) : Type 0 where
  pub row : Row
  pub others : List ℕ
  pub text : rest ≡ row_text row ++ others
  pub ranged : is_row row ≡ true
  pub placed : is_in_place start front row ≡ true
  pub rises : (from : ℕ) (entries : List Noted) → front ≡ going from entries → rises_with from entries row ≡ true
  pub joins : (from : ℕ) (entries : List Noted) → front ≡ going from entries → joins_with entries row ≡ true
  pub publishes : publishes_right p row ≡ true

-- ---- the first two lines

behind_title : (us vs : List ℕ) → codes "tricks journal 1\n" ++ us ≡ codes "tricks journal 1\n" ++ vs → us ≡ vs
behind_title us vs e = cc

same_begin : (m n : ℕ) (us vs : List ℕ) → m ≤ last_turn → n ≤ last_turn → first_lines m ++ us ≡ first_lines n ++ vs → (m ≡ n) × (us ≡ vs)
same_begin m n us vs low lim e =
    let word = codes "tricks journal 1\nfrom " in
    good_is {E = Miss} m n us vs
    (sym (back (turn_code word) m us (turn_sound word) ((tt, (omega arith, low)), refl))
    ∙ ap (read (turn_code word)) e
    ∙ back (turn_code word) n vs (turn_sound word) ((tt, (omega arith, lim)), refl))

-- ---- entries

range_first : (e : Noted) (es : List Noted) → are_in_range (e ∷ es) ≡ true → (nat_le e.0 last_turn && is_entry e.1) ≡ true
range_first e es h =
    let outer = and_parts (nat_le e.0 last_turn) (is_entry e.1 && are_in_range es) h in
    and_from (nat_le e.0 last_turn) (is_entry e.1) outer.0 (and_parts (is_entry e.1) (are_in_range es) outer.1).0

range_others : (e : Noted) (es : List Noted) → are_in_range (e ∷ es) ≡ true → are_in_range es ≡ true
range_others e es h =
    (and_parts (is_entry e.1) (are_in_range es) (and_parts (nat_le e.0 last_turn) (is_entry e.1 && are_in_range es) h).1).1

-- Entries at the front of others with an end: the others go on after them.
pub record IsRest (end : ℕ) (es fs : List Noted) (rest : List ℕ) : Type 0 where
  pub more : List Noted
  pub all : fs ≡ es ++ more
  pub text : rest ≡ noted_lines more ++ last_line end

follow : (es fs : List Noted) (end : ℕ) (rest : List ℕ) → are_in_range es ≡ true → are_in_range fs ≡ true → end ≤ last_turn
    → noted_lines es ++ rest ≡ noted_lines fs ++ last_line end → IsRest end es fs rest
follow [] fs end rest a b low e = record { more = fs; all = refl; text = e }
follow (d ∷ es) [] end rest a b low e =
    let same = same_row (note_row d) (end_row end) (noted_lines es ++ rest) [] (note_fits d (range_first d es a)) (end_fits end low)
    (sym (append_assoc (entry_line d.0 d.1) (noted_lines es) rest) ∙ e ∙ sym (append-nil (last_line end))) in
    let g = same.0 in absurd cc
follow (d ∷ es) (f ∷ fs) end rest a b low e =
    let same = same_row (note_row d) (note_row f) (noted_lines es ++ rest) (noted_lines fs ++ last_line end)
    (note_fits d (range_first d es a)) (note_fits f (range_first f fs b))
    (sym (append_assoc (entry_line d.0 d.1) (noted_lines es) rest) ∙ e ∙ append_assoc (entry_line f.0 f.1) (noted_lines fs) (last_line end)) in
    let rest_of = follow es fs end rest (range_others d es a) (range_others f fs b) low same.1 in
    record {
      more = rest_of.more;
      all = ap (λ (x : Noted). x ∷ fs) (sym (right_is d f same.0)) ∙ ap (λ (xs : List Noted). d ∷ xs) rest_of.all;
      text = rest_of.text;
    }

module _ (p : Plan) (start : ℕ) (ts : List ℕ) (journal : Journal) (is : IsJournal p start ts journal) where
  abbrev rows : List ℕ
  rows = noted_lines journal.entries ++ last_line journal.end

  low : journal.from ≤ last_turn
  low = omega (arith, journal.forward, journal.end_right)

  text : ts ≡ first_lines journal.from ++ rows
  text = is.text ∙ append_assoc (first_lines journal.from) (noted_lines journal.entries) (last_line journal.end)

  -- after right entries the others go on, and the journal begins at the same turn
  pub behind_entries : (from : ℕ) (entries : List Noted) (rest : List ℕ) → from ≤ last_turn → are_in_range entries ≡ true → ts ≡ front_text (going from entries) ++ rest
      → (journal.from ≡ from) × IsRest journal.end entries journal.entries rest
  behind_entries from entries rest lim ranged e =
      let begins = same_begin from journal.from (noted_lines entries ++ rest) rows lim low
      (sym (append_assoc (first_lines from) (noted_lines entries) rest) ∙ sym e ∙ text) in
      (sym begins.0, follow entries journal.entries journal.end rest ranged journal.in_range journal.end_right begins.1)

  -- the title
  behind_nothing : (rest : List ℕ) → ts ≡ rest → IsNext p start nothing rest
  behind_nothing rest e = record {
    row = title;
    others = (codes "from " ++ decimal journal.from ++ codes "\n") ++ rows;
    text = sym e ∙ text;
    ranged = refl;
    placed = refl;
    rises = λ from entries g. refl;
    joins = λ from entries g. refl;
    publishes = refl;
  }

  -- where it begins
  pub rest_of_title : (rest : List ℕ) → ts ≡ front_text titled ++ rest → rest ≡ row_text (begin journal.from) ++ rows
  rest_of_title rest e = behind_title rest (row_text (begin journal.from) ++ rows) (sym e ∙ text)

  behind_titled : (rest : List ℕ) → ts ≡ front_text titled ++ rest → IsNext p start titled rest
  behind_titled rest e =
      let early : nat_le journal.from start ≡ true = grind (arith, nat_tests, is.not_later) in
      let ranged : nat_le journal.from last_turn ≡ true = grind (arith, nat_tests, low) in
      record {
        row = begin journal.from;
        others = rows;
        text = rest_of_title rest e;
        ranged = ranged;
        placed = early;
        rises = λ from entries g. refl;
        joins = λ from entries g. refl;
        publishes = refl;
      }

  -- an entry or the end
  module _ (entries : List Noted) (rest : List ℕ) where
    next_end : journal.entries ≡ entries ++ [] → rest ≡ last_line journal.end → IsNext p start (going journal.from entries) rest
    next_end all e =
        let same : journal.entries ≡ entries = all ∙ append-nil entries in
        let forward : nat_le journal.from journal.end ≡ true = grind (arith, nat_tests, journal.forward) in
        let ranged : nat_le journal.end last_turn ≡ true = grind (arith, nat_tests, journal.end_right) in
        let within : are_within journal.from journal.end entries ≡ true = subst (λ (es : List Noted). are_within journal.from journal.end es ≡ true) same journal.within in
        record {
          row = finish journal.end;
          others = [];
          text = e ∙ sym (append-nil (last_line journal.end));
          ranged = ranged;
          placed = refl;
          rises = λ from others g.
              let from_is : journal.from ≡ from = cc in
              let entries_are : entries ≡ others = cc in
              subst (λ (n : ℕ). rises_with n others (finish journal.end) ≡ true) from_is
              (subst (λ (es : List Noted). rises_with journal.from es (finish journal.end) ≡ true) entries_are (and_from _ _ forward within));
          joins = λ from others g. refl;
          publishes = refl;
        }

    next_note : (e : Noted) (more : List Noted) → journal.entries ≡ entries ++ e ∷ more → rest ≡ (entry_line e.0 e.1 ++ noted_lines more) ++ last_line journal.end
        → IsNext p start (going journal.from entries) rest
    next_note e more all is_rest =
        let grown = entries ++ e ∷ [] in
        let split : journal.entries ≡ grown ++ more = all ∙ sym (append_assoc entries (e ∷ []) more) in
        let ranged = range_front grown more (subst (λ (es : List Noted). are_in_range es ≡ true) split journal.in_range) in
        let rising = rising_front grown more (subst (λ (es : List Noted). are_rising es ≡ true) split journal.rising) in
        let within = within_front journal.from journal.end grown more (subst (λ (es : List Noted). are_within journal.from journal.end es ≡ true) split journal.within) in
        let joined = joined_front 0 [] grown more (subst (λ (es : List Noted). are_joined 0 [] es ≡ true) split journal.joined) in
        let published = publish_front p grown more (subst (λ (es : List Noted). all_may_publish p es ≡ true) split is.published) in
        let here : (nat_le e.0 last_turn && is_entry e.1) ≡ true = (and_parts (are_in_range entries) _ (sym (range_more entries e) ∙ ranged)).1 in
        let inside : (nat_le journal.from e.0 && nat_lt e.0 journal.end) ≡ true = (and_parts (are_within journal.from journal.end entries) _ (sym (within_more journal.from journal.end entries e) ∙ within)).1 in
        let early = (and_parts (nat_le journal.from e.0) (nat_lt e.0 journal.end) inside).0 in
        record {
          row = note e;
          others = noted_lines more ++ last_line journal.end;
          text = is_rest ∙ append_assoc (entry_line e.0 e.1) (noted_lines more) (last_line journal.end);
          ranged = here;
          placed = refl;
          rises = λ from others g.
              let from_is : journal.from ≡ from = cc in
              let entries_are : entries ≡ others = cc in
              subst (λ (n : ℕ). rises_with n others (note e) ≡ true) from_is
              (subst (λ (es : List Noted). rises_with journal.from es (note e) ≡ true) entries_are (and_from _ _ early rising));
          joins = λ from others g.
              let entries_are : entries ≡ others = cc in
              subst (λ (es : List Noted). joins_with es (note e) ≡ true) entries_are joined;
          publishes = (and_parts (all_may_publish p entries) (may_publish p e.1) (sym (publish_more p entries e) ∙ published)).1;
        }

    next_rest : (more : List Noted) → journal.entries ≡ entries ++ more → rest ≡ noted_lines more ++ last_line journal.end → IsNext p start (going journal.from entries) rest
    next_rest [] all e = next_end all e
    next_rest (e ∷ more) all is_rest = next_note e more all is_rest

  behind_going : (from : ℕ) (entries : List Noted) (rest : List ℕ) → ts ≡ front_text (going from entries) ++ rest → IsFront p start (going from entries)
      → IsNext p start (going from entries) rest
  behind_going from entries rest e right =
      let found = behind_entries from entries rest right.1 right.2.in_range e in
      subst (λ (n : ℕ). IsNext p start (going n entries) rest) found.0 (next_rest entries rest found.1.more found.1.all found.1.text)

  -- nothing stands after the end
  none_behind : (end : ℕ) (rest : List ℕ) (more : List Noted) → end ≤ last_turn → are_in_range more ≡ true → last_line end ++ rest ≡ noted_lines more ++ last_line journal.end → rest ≡ []
  none_behind end rest [] lim ranged e = (same_row (end_row end) (end_row journal.end) rest [] (end_fits end lim) (end_fits journal.end journal.end_right) (e ∙ sym (append-nil (last_line journal.end)))).1
  none_behind end rest (f ∷ more) lim ranged e =
      let same = same_row (end_row end) (note_row f) rest (noted_lines more ++ last_line journal.end) (end_fits end lim) (note_fits f (range_first f more ranged))
      (e ∙ append_assoc (entry_line f.0 f.1) (noted_lines more) (last_line journal.end)) in
      let g = same.0 in absurd cc

  range_late : (es fs : List Noted) → are_in_range (es ++ fs) ≡ true → are_in_range fs ≡ true
  range_late [] fs h = h
  range_late (e ∷ es) fs h = range_late es fs (range_others e (es ++ fs) h)

  behind_ended : (from : ℕ) (entries : List Noted) (end : ℕ) (rest : List ℕ) → ts ≡ front_text (ended from entries end) ++ rest → IsFront p start (ended from entries end) → rest ≡ []
  behind_ended from entries end rest e right =
      let lim : from ≤ last_turn = omega (arith, right.1, right.2) in
      let found = behind_entries from entries (last_line end ++ rest) lim right.4.in_range (e ∙ append_assoc (first_lines from ++ noted_lines entries) (last_line end) rest) in
      let others = found.1 in
      none_behind end rest others.more right.1 (range_late entries others.more (subst (λ (es : List Noted). are_in_range es ≡ true) others.all journal.in_range)) others.text

  -- after a front that is not all of it stands the next row
  pub next : (front : Front) (rest : List ℕ) → ts ≡ front_text front ++ rest → IsFront p start front → rest ≢ [] → IsNext p start front rest
  next nothing rest e right some = behind_nothing rest e
  next titled rest e right some = behind_titled rest e
  next (going from entries) rest e right some = behind_going from entries rest e right
  next (ended from entries end) rest e right some = absurd (some (behind_ended from entries end rest e right))
