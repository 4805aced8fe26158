-- A text that is refused is no journal.
use Rattle.std.proofs.Common.{◌≡◌, ◌≢◌, ℕ, true, false, List, [], ◌∷◌, ◌++◌, refl, sym, ap, ◌∙◌, subst}
use Rattle.std.proofs.lemmas.List.{append-nil}
use Rattle.std.specs.Prelude.{codes, decimal}
use Rattle.trick_codes.specs.Lines.{first_line}
use Rattle.trick_journal.specs.Fronts.{Front, IsFront, ended, front_text, going, is_in_place, joins_with, nothing, publishes_right, rises_with, titled}
use Rattle.trick_journal.specs.Refusals.{InPlace, IsOpen, IsOutOfPlace, IsRefused, Stands}
use Rattle.trick_journal.specs.Rows.{Row, Says, begin, finish, note, title}
use Rattle.trick_journal.specs.declared.journal_fault.JournalFault.TheVariants as fault
use Rattle.trick_journal.specs.declared.journal_fault.JournalFault.{JournalFault}
use Rattle.trick_journal.proofs.Next.{IsNext, behind_entries, next, rest_of_title}
use Rattle.trick_journal.proofs.OneLine.{one_line, same_text}
use Rattle.trick_journal.specs.Facts.{RefusedIsNone}
use Rattle.trick_model.specs.Journal.{Noted, last_line, noted_lines}
use Rattle.trick_model.specs.JournalText.{IsJournal}
use Rattle.trick_model.specs.Plan.{Plan}
use Rattle.trick_model.specs.declared.journal.Journal.{Journal}

-- what ends with a byte is not empty
not_empty : (us vs : List ℕ) (b : ℕ) → us ++ b ∷ vs ≡ [] → ⊥
not_empty [] vs b e = cc
not_empty (u ∷ us) vs b e = cc

-- a row in its place after entries is an entry or the end
no_title : (start : ℕ) (front : Front) (from : ℕ) (entries : List Noted) (row : Row) → front ≡ going from entries → is_in_place start front row ≡ true → row ≡ title → ⊥
no_title start nothing from entries row g at e = cc
no_title start titled from entries row g at e = cc
no_title start (ended a es b) from entries row g at e = cc
no_title start (going a es) from entries title g at e = cc
no_title start (going a es) from entries (begin turn) g at e = cc
no_title start (going a es) from entries (note x) g at e = cc
no_title start (going a es) from entries (finish turn) g at e = cc

no_begin : (start : ℕ) (front : Front) (from : ℕ) (entries : List Noted) (row : Row) → front ≡ going from entries → is_in_place start front row ≡ true → (turn : ℕ) → row ≡ begin turn → ⊥
no_begin start nothing from entries row g at turn e = cc
no_begin start titled from entries row g at turn e = cc
no_begin start (ended a es b) from entries row g at turn e = cc
no_begin start (going a es) from entries title g at turn e = cc
no_begin start (going a es) from entries (begin other) g at turn e = cc
no_begin start (going a es) from entries (note x) g at turn e = cc
no_begin start (going a es) from entries (finish other) g at turn e = cc

module _ (p : Plan) (start : ℕ) (ts : List ℕ) (journal : Journal) (is : IsJournal p start ts journal) where
  -- a line after right lines says the journal's next row
  module _ (number : ℕ) (front : Front) (line : List ℕ) (stands : Stands p start ts number front line) where
    now : IsNext p start front stands.rest
    now = next p start ts journal is front stands.rest stands.text stands.right stands.some

    said : Says line now.row
    said = record {
      in_range = now.ranged;
      text = stands.first ∙ ap first_line now.text ∙ one_line now.row now.others now.ranged;
    }

    -- and no other row in its place
    one_row : (from : ℕ) (entries : List Noted) (row : Row) → front ≡ going from entries → Says line row → is_in_place start front row ≡ true → now.row ≡ row
    one_row from entries row g s at =
        same_text now.row row (no_title start front from entries now.row g now.placed) (no_begin start front from entries now.row g now.placed)
        (no_title start front from entries row g at) (no_begin start front from entries row g at) now.ranged s.in_range (sym said.text ∙ s.text)

    no_row : IsOutOfPlace start front line → ⊥
    no_row out = out now.row said now.placed

    rising : InPlace start front line (λ from entries row. rises_with from entries row ≡ false) → ⊥
    rising (from, entries, row, g, s, at, falls) =
        let one = one_row from entries row g s at in
        let holds : rises_with from entries row ≡ true = subst (λ (r : Row). rises_with from entries r ≡ true) one (now.rises from entries g) in
        cc

    joined : (from : ℕ) (entries : List Noted) (row : Row) → front ≡ going from entries → Says line row → is_in_place start front row ≡ true → joins_with entries row ≡ false → ⊥
    joined from entries row g s at falls =
        let one = one_row from entries row g s at in
        let holds : joins_with entries row ≡ true = subst (λ (r : Row). joins_with entries r ≡ true) one (now.joins from entries g) in
        cc

    published : (from : ℕ) (entries : List Noted) (row : Row) → front ≡ going from entries → Says line row → is_in_place start front row ≡ true → publishes_right p row ≡ false → ⊥
    published from entries row g s at falls =
        let one = one_row from entries row g s at in
        let holds : publishes_right p row ≡ true = subst (λ (r : Row). publishes_right p r ≡ true) one now.publishes in
        cc

  -- a journal has its end
  more_behind : (end : ℕ) (more : List Noted) → [] ≡ noted_lines more ++ last_line end → ⊥
  more_behind end more e = not_empty (noted_lines more) (codes "nd " ++ decimal end ++ codes "\n") 101 (sym e)

  has_end : (front : Front) → ts ≡ front_text front → IsFront p start front → IsOpen front → ⊥
  has_end nothing e right no_end = let text = sym e ∙ is.text in absurd cc
  has_end titled e right no_end =
      let rest = rest_of_title p start ts journal is [] (e ∙ sym (append-nil (front_text titled))) in
      absurd cc
  has_end (going from entries) e right no_end =
      let found = behind_entries p start ts journal is from entries [] right.1 right.2.in_range (e ∙ sym (append-nil (front_text (going from entries)))) in
      let others = found.1 in
      more_behind journal.end others.more others.text
  has_end (ended from entries end) e right no_end = no_end from entries end refl

  refused : (why : JournalFault) → IsRefused p start ts why → why ≢ fault.OutOfMemory → ⊥
  refused fault.OutOfMemory r known = known refl
  refused (fault.BadLine n) (front, line, stands, out) known = no_row n front line stands out
  refused (fault.NotRising n) (front, line, stands, breaks) known = rising n front line stands breaks
  refused (fault.NotJoined n) (front, line, stands, (from, entries, row, g, s, at, both)) known = joined n front line stands from entries row g s at both.1
  refused (fault.NotAsync n) (front, line, stands, (from, entries, row, g, s, at, all)) known = published n front line stands from entries row g s at all.2
  refused (fault.NoEnd n) (front, e, right, no_end, line) known = has_end front e right no_end

pub refused_is_none : RefusedIsNone
refused_is_none p start text why journal r known is = refused p start text journal is why r known
