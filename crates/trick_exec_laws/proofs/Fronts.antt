-- Fronts of writes, and writes of other names.
use Rattle.std.proofs.Common.{◌≡◌, ◌∙◌, ℕ, List, [], ◌∷◌, ◌++◌, Bool, false, cond, Some, unwrap_or, ap, append-nil, append_assoc, inl, inr, refl, subst, sym}
use Rattle.std.specs.Prelude.{◌⊎◌, Option}
use Rattle.trick_base.proofs.ListLemmas.{same_first}
use Rattle.trick_base.specs.Content.{IsKept, content, same_name}
use Rattle.trick_base.specs.Files.{Append, Create, Write}
use Rattle.trick_base.specs.Fronts.{IsFrontOf, IsPrefix}
use Rattle.trick_model.specs.Files.{journal_name, note}
use Rattle.trick_model.specs.Journal.{entry_line, entry_lines}
use Rattle.trick_model.specs.declared.entry.Entry.{Entry}
use Rattle.trick_model_remainder.specs.Remainder.{added}
use Rattle.trick_exec_laws.specs.Left.{IsShort, IsTorn}

-- ---- fronts of two parts

-- A front of two parts is one of the first, or all of the first and a front of the second.
abbrev pub InTwo : List Write → List Write → List Write → Type 0
InTwo front early late = IsFrontOf front early ⊎ ((rest : List Write) × (front ≡ early ++ rest) × IsFrontOf rest late)

one_later : (write first : Write) (front early late : List Write) → write ≡ first → InTwo front early late → InTwo (write ∷ front) (first ∷ early) late
one_later write first front early late is (inl so) = inl (inl (is, so))
one_later write first front early late is (inr (rest, all, so)) =
    inr (rest, ap (λ (w : Write). w ∷ front) is ∙ ap (λ (ws : List Write). first ∷ ws) all, so)

pub in_two : (front early late : List Write) → IsFrontOf front (early ++ late) → InTwo front early late
in_two front [] late is = inr (front, refl, is)
in_two [] (first ∷ early) late is = inl tt
in_two (write ∷ front) (first ∷ early) late (inl is) = one_later write first front early late is.0 (in_two front early late is.1)
in_two (write ∷ front) (first ∷ early) late (inr is) = inl (inr is)

-- ---- writes of other names

-- None of these writes is of a name.
abbrev pub NoneOf : List ℕ → List Write → Type 0
NoneOf name [] = Unit {0}
NoneOf name (Create other ∷ writes) = (same_name name other ≡ false) × NoneOf name writes
NoneOf name (Append other bytes ∷ writes) = (same_name name other ≡ false) × NoneOf name writes

pub none_append : (name : List ℕ) (early late : List Write) → NoneOf name early → NoneOf name late → NoneOf name (early ++ late)
none_append name [] late one two = two
none_append name (Create other ∷ early) late one two = (one.0, none_append name early late one.1 two)
none_append name (Append other bytes ∷ early) late one two = (one.0, none_append name early late one.1 two)

-- a front of them is of other names too
pub none_front : (name : List ℕ) (front writes : List Write) → IsFrontOf front writes → NoneOf name writes → NoneOf name front
none_front name [] writes is none = tt
none_front name (write ∷ front) [] is none = absurd is
none_front name (write ∷ front) (Create other ∷ writes) (inl is) none =
    subst (λ (w : Write). NoneOf name (w ∷ front)) (sym is.0) (none.0, none_front name front writes is.1 none.1)
none_front name (write ∷ front) (Append other bytes ∷ writes) (inl is) none =
    subst (λ (w : Write). NoneOf name (w ∷ front)) (sym is.0) (none.0, none_front name front writes is.1 none.1)
none_front name (Create mine ∷ front) (Create other ∷ writes) (inr is) none = absurd is.0
none_front name (Append mine bytes ∷ front) (Create other ∷ writes) (inr is) none = absurd is.0
none_front name (Create mine ∷ front) (Append other whole ∷ writes) (inr is) none = absurd is.0
none_front name (Append mine bytes ∷ front) (Append other whole ∷ writes) (inr is) none =
    subst (λ (ws : List Write). NoneOf name (Append mine bytes ∷ ws)) (sym is.1)
    (ap (same_name name) is.0.0 ∙ none.0, tt)

skipped : {A : Type 0} (t : Bool) (a b : A) → t ≡ false → cond t a b ≡ b
skipped t a b e = ap (λ c. cond c a b) e

-- they leave the file
pub none_content : (name : List ℕ) (writes : List Write) (before : Option (List ℕ)) → NoneOf name writes → content name writes before ≡ before
none_content name [] before none = refl
none_content name (Create other ∷ writes) before none =
    ap (content name writes) (skipped (same_name name other) (Some []) before none.0) ∙ none_content name writes before none.1
none_content name (Append other bytes ∷ writes) before none =
    ap (content name writes) (skipped (same_name name other) (Some (unwrap_or before [] ++ bytes)) before none.0) ∙ none_content name writes before none.1

pub none_added : (name : List ℕ) (writes : List Write) → NoneOf name writes → added name writes ≡ []
none_added name [] none = refl
none_added name (Create other ∷ writes) none = none_added name writes none.1
none_added name (Append other bytes ∷ writes) none =
    ap (λ (more : List ℕ). more ++ added name writes) (skipped (same_name name other) bytes [] none.0) ∙ none_added name writes none.1

pub none_kept : (name : List ℕ) (writes : List Write) → NoneOf name writes → IsKept name writes
none_kept name [] none = tt
none_kept name (Create other ∷ writes) none = (none.0, none_kept name writes none.1)
none_kept name (Append other bytes ∷ writes) none = none_kept name writes none.1

-- ---- lines that were added in part

empty_of : (bytes rest : List ℕ) → [] ≡ bytes ++ rest → bytes ≡ []
empty_of [] rest e = refl
empty_of (byte ∷ bytes) rest e = cc e

tails : (a b : ℕ) (xs ys : List ℕ) → a ∷ xs ≡ b ∷ ys → xs ≡ ys
tails a b xs ys e = cc e

abbrev Parted : List ℕ → List ℕ → List ℕ → Type 0
Parted part one other = IsShort part one ⊎ ((rest : List ℕ) × (part ≡ one ++ rest) × IsPrefix rest other)

one_byte : (byte other : ℕ) (part one two : List ℕ) → other ≡ byte → Parted part one two → Parted (byte ∷ part) (other ∷ one) two
one_byte byte other part one two same (inl (next, rest, e)) =
    inl (next, rest, ap (λ (b : ℕ). b ∷ one) same ∙ ap (λ (bs : List ℕ). byte ∷ bs) e)
one_byte byte other part one two same (inr (rest, e, more)) =
    inr (rest, ap (λ (b : ℕ). b ∷ part) (sym same) ∙ ap (λ (bs : List ℕ). other ∷ bs) e, more)

-- a prefix of two texts
parted : (part one other : List ℕ) → IsPrefix part (one ++ other) → Parted part one other
parted part [] other is = inr (part, refl, is)
parted [] (byte ∷ one) other is = inl (byte, one, refl)
parted (mine ∷ part) (byte ∷ one) other (rest, e) =
    one_byte mine byte part one other (same_first byte mine (one ++ other) (part ++ rest) e)
    (parted part one other (rest, tails byte mine (one ++ other) (part ++ rest) e))

-- bytes that are the lines of the first of these entries, and what is torn
pub record InLines (turn : ℕ) (entries : List Entry) (bytes : List ℕ) : Type 0 where
  pub front : List Entry
  pub rest : List Entry
  pub torn : List ℕ
  pub all : entries ≡ front ++ rest
  pub are : bytes ≡ entry_lines turn front ++ torn
  pub is_torn : IsTorn turn rest torn

pub in_lines : (turn : ℕ) (entries : List Entry) (bytes : List ℕ) → IsPrefix bytes (entry_lines turn entries) → InLines turn entries bytes
in_lines turn [] bytes (rest, e) = record { front = []; rest = []; torn = []; all = refl; are = empty_of bytes rest e; is_torn = inl refl }
in_lines turn (entry ∷ entries) bytes is =
    by (λ rest more. in_lines turn entries rest more) (parted bytes (entry_line turn entry) (entry_lines turn entries) is)
  where
    by : ((rest : List ℕ) → IsPrefix rest (entry_lines turn entries) → InLines turn entries rest)
        → Parted bytes (entry_line turn entry) (entry_lines turn entries) → InLines turn (entry ∷ entries) bytes
    by later (inl short) = record { front = []; rest = entry ∷ entries; torn = bytes; all = refl; are = refl; is_torn = inr (entry, entries, refl, short) }
    by later (inr (rest, e, more)) =
        let so = later rest more in
        record {
          front = entry ∷ so.front;
          rest = so.rest;
          torn = so.torn;
          all = ap (λ (es : List Entry). entry ∷ es) so.all;
          are = e ∙ ap (λ (bs : List ℕ). entry_line turn entry ++ bs) so.are
              ∙ sym (append_assoc (entry_line turn entry) (entry_lines turn so.front) so.torn);
          is_torn = so.is_torn;
        }

pub lines_append : (turn : ℕ) (early late : List Entry) → entry_lines turn (early ++ late) ≡ entry_lines turn early ++ entry_lines turn late
lines_append turn [] late = refl
lines_append turn (entry ∷ early) late =
    ap (λ (bs : List ℕ). entry_line turn entry ++ bs) (lines_append turn early late)
    ∙ sym (append_assoc (entry_line turn entry) (entry_lines turn early) (entry_lines turn late))

-- ---- one note

pub note_none : (name : List ℕ) (turn : ℕ) (entries : List Entry) → same_name name journal_name ≡ false → NoneOf name (note turn entries)
note_none name turn [] other = tt
note_none name turn (entry ∷ entries) other = (other, tt)

pub note_adds : (turn : ℕ) (entries : List Entry) → added journal_name (note turn entries) ≡ entry_lines turn entries
note_adds turn [] = refl
note_adds turn (entry ∷ entries) = append-nil (entry_lines turn (entry ∷ entries))

-- a part of a note adds the first of its lines
pub note_cut : (turn : ℕ) (entries : List Entry) (front : List Write) → IsFrontOf front (note turn entries) → InLines turn entries (added journal_name front)
note_cut turn [] [] is = record { front = []; rest = []; torn = []; all = refl; are = refl; is_torn = inl refl }
note_cut turn [] (write ∷ front) is = absurd is
note_cut turn (entry ∷ entries) [] is = record { front = []; rest = entry ∷ entries; torn = []; all = refl; are = refl; is_torn = inl refl }
note_cut turn (entry ∷ entries) (write ∷ []) (inl is) =
    subst (λ (w : Write). InLines turn (entry ∷ entries) (added journal_name (w ∷ []))) (sym is.0)
    (record {
      front = entry ∷ entries;
      rest = [];
      torn = [];
      all = sym (append-nil (entry ∷ entries));
      are = refl;
      is_torn = inl refl;
    })
note_cut turn (entry ∷ entries) (write ∷ other ∷ front) (inl is) = absurd is.1
note_cut turn (entry ∷ entries) (Create name ∷ front) (inr is) = absurd is.0
note_cut turn (entry ∷ entries) (Append name bytes ∷ front) (inr is) =
    subst (λ (ws : List Write). InLines turn (entry ∷ entries) (added journal_name (Append name bytes ∷ ws))) (sym is.1)
    (subst (λ (n : List ℕ). InLines turn (entry ∷ entries) (added journal_name (Append n bytes ∷ []))) (sym is.0.0)
    (subst (InLines turn (entry ∷ entries)) (sym (append-nil bytes)) (in_lines turn (entry ∷ entries) bytes is.0.1)))

-- ---- what makes no file anew

pub kept_front : (name : List ℕ) (front writes : List Write) → IsFrontOf front writes → IsKept name writes → IsKept name front
kept_front name [] writes is kept = tt
kept_front name (write ∷ front) [] is kept = absurd is
kept_front name (write ∷ front) (Create other ∷ writes) (inl is) kept =
    subst (λ (w : Write). IsKept name (w ∷ front)) (sym is.0) (kept.0, kept_front name front writes is.1 kept.1)
kept_front name (write ∷ front) (Append other bytes ∷ writes) (inl is) kept =
    subst (λ (w : Write). IsKept name (w ∷ front)) (sym is.0) (kept_front name front writes is.1 kept)
kept_front name (Create mine ∷ front) (Create other ∷ writes) (inr is) kept = absurd is.0
kept_front name (Append mine bytes ∷ front) (Create other ∷ writes) (inr is) kept = absurd is.0
kept_front name (Create mine ∷ front) (Append other whole ∷ writes) (inr is) kept = absurd is.0
kept_front name (Append mine bytes ∷ front) (Append other whole ∷ writes) (inr is) kept =
    subst (λ (ws : List Write). IsKept name (Append mine bytes ∷ ws)) (sym is.1) tt
