-- The reads that are left, place after place.
use Rattle.std.proofs.Common.{◌≡◌, ◌≢◌, ◌∙◌, ℕ, zero, suc, ◌+◌, ◌-◌, ◌<◌, ◌≤◌, List, ◌∷◌, Bool, true, false, ap, arith, drop, get_or, inl, inr, length, refl, set, subst, sym}
use Rattle.std.proofs.lemmas.Bool.Decides.{nat_tests}
use Rattle.std.proofs.lemmas.List.{at_drop_all, get_or-set_other, get_or-set_same, length-set}
use Rattle.std.specs.Prelude.{cond, nat_lt, ◌==◌}
use Rattle.trick_event.proofs.Steps.{reads_next}
use Rattle.trick_event.specs.Due.{AreLeft, no_read, tic_left, tic_of}
use Rattle.trick_event.specs.Event.{read_done}
use Rattle.trick_model.specs.Events.{Asking, act_all, reads_done}
use Rattle.trick_base.specs.Time.{tic_limit}
use Rattle.trick_model.specs.declared.read_at.ReadAt.{ReadAt}
use Rattle.trick_queue.proofs.Trees.{below_or, same_or}
use Rattle.trick_queue.specs.Tree.{AreLater, IsFirst, never}

-- ---- what is left of one read

pub left_passed : (from tic : ℕ) → tic < from → tic_left from tic ≡ never
left_passed from tic h =
    let test : nat_lt tic from ≡ true = grind arith in ap (λ (b : Bool). cond b never tic) test

pub left_kept : (from tic : ℕ) → from ≤ tic → tic_left from tic ≡ tic
left_kept from tic h =
    let test : nat_lt tic from ≡ false = grind arith in ap (λ (b : Bool). cond b never tic) test

-- what is left is not before the first tic that is not passed
pub left_late : (from tic : ℕ) → from ≤ never → from ≤ tic_left from tic
left_late from tic fits = elim (below_or tic from) [
  | inl h ↦ let e = left_passed from tic h in omega (arith, e)
  | inr h ↦ let e = left_kept from tic h in omega (arith, e)
]

-- a read that is later stays as it is
pub left_later : (before tic t : ℕ) → before ≤ tic → tic < tic_left before t → tic_left before t ≡ tic_left (tic + 1) t
left_later before tic t le late = elim (below_or t before) [
  | inl h ↦ left_passed before t h ∙ sym (left_passed (tic + 1) t (omega arith))
  | inr h ↦ let e = left_kept before t h in e ∙ sym (left_kept (tic + 1) t (omega (arith, e)))
]

-- and it is not one of the tic
pub left_other : (before tic t : ℕ) → before ≤ tic → tic < tic_left before t → t ≢ tic
left_other before tic t le late same = elim (below_or t before) [
  | inl h ↦ omega arith
  | inr h ↦ let e = left_kept before t h in omega (arith, e)
]

-- a read that is not later is not passed
pub left_now : (before tic t : ℕ) → tic ≤ tic_limit → tic_left before t ≤ tic → (before ≤ t) × (t ≤ tic)
left_now before tic t in_range now = elim (below_or t before) [
  | inl h ↦ let e = left_passed before t h in absurd (omega (arith, e))
  | inr h ↦ let e = left_kept before t h in (h, omega (arith, e))
]

-- ---- place after place

-- The first places have passed the tic, the others are as they were before.
pub record IsPassing (before : ℕ) (reads : List ReadAt) (tics : List ℕ) (tic passed : ℕ) : Type 0 where
  pub as_many : length tics ≡ length reads
  pub early : (k : ℕ) → k < passed → get_or tics k never ≡ tic_left (tic + 1) (tic_of reads k)
  pub late : (k : ℕ) → passed ≤ k → k < length reads → get_or tics k never ≡ tic_left before (tic_of reads k)
  pub bound : passed ≤ length reads

pub passing_starts : (before : ℕ) (reads : List ReadAt) (tics : List ℕ) (tic : ℕ) → AreLeft before reads tics → IsPassing before reads tics tic 0
passing_starts before reads tics tic left = record {
  as_many = left.as_many;
  early = λ k less. absurd (omega arith);
  late = λ k first less. left.left k less;
  bound = omega arith;
}

-- no earlier place is found again
passing_on : (before : ℕ) (reads : List ReadAt) (tics : List ℕ) (tic passed place : ℕ) → tic ≤ tic_limit
    → IsPassing before reads tics tic passed → IsFirst tics tic place → passed ≤ place
passing_on before reads tics tic passed place in_range p first = elim (below_or place passed) [
  | inl h ↦
      let here : get_or tics place never ≤ tic = first.here in
      let is = p.early place h in
      let late = left_late (tic + 1) (tic_of reads place) (omega arith) in
      absurd (omega (arith, is))
  | inr h ↦ h
]

-- the places that are left out are later
pub passing_between : (before : ℕ) (reads : List ReadAt) (tics : List ℕ) (tic passed to : ℕ) → to ≤ length reads
    → IsPassing before reads tics tic passed → AreLater tics tic to
    → (k : ℕ) → passed ≤ k → k < to → tic < tic_left before (tic_of reads k)
passing_between before reads tics tic passed to fits p later k low high =
    subst (λ (n : ℕ). tic < n) (p.late k low (omega arith)) (later k high)

pub passing_more : (before : ℕ) (reads : List ReadAt) (tics : List ℕ) (tic passed place : ℕ) → before ≤ tic → tic ≤ tic_limit
    → IsPassing before reads tics tic passed → IsFirst tics tic place → IsPassing before reads (set tics place never) tic (place + 1)
passing_more before reads tics tic passed place le in_range p first =
    let as_many : length tics ≡ length reads = p.as_many in
    let there : place < length tics = first.in_list in
    let low : passed ≤ place = passing_on before reads tics tic passed place in_range p first in
    let now = left_now before tic (tic_of reads place) in_range (subst (λ (n : ℕ). n ≤ tic) (p.late place low (omega arith)) first.here) in
    let here : get_or (set tics place never) place never ≡ tic_left (tic + 1) (tic_of reads place) =
    get_or-set_same tics place never never there ∙ sym (left_passed (tic + 1) (tic_of reads place) (omega (arith, now.1))) in
    let other : (k : ℕ) → k ≢ place → get_or (set tics place never) k never ≡ get_or tics k never =
    λ k ne. get_or-set_other tics place k never never ne in
    record {
      as_many = length-set tics place never ∙ as_many;
      early = λ k less. elim (same_or k place) [
        | inl e ↦ subst (λ (i : ℕ). get_or (set tics place never) i never ≡ tic_left (tic + 1) (tic_of reads i)) (sym e) here
        | inr ne ↦ other k ne ∙ (elim (below_or k passed) [
          | inl h ↦ p.early k h
          | inr h ↦ p.late k h (omega arith)
              ∙ left_later before tic (tic_of reads k) le (passing_between before reads tics tic passed place (omega arith) p first.before k h (omega arith))
        ])
      ];
      late = λ k first_k less. other k (omega arith) ∙ p.late k (omega arith) less;
      bound = omega arith;
    }

-- no place that is left is of the tic or before it
pub passing_stops : (before : ℕ) (reads : List ReadAt) (tics : List ℕ) (tic passed : ℕ) → before ≤ tic
    → IsPassing before reads tics tic passed → AreLater tics tic (length tics) → AreLeft (tic + 1) reads tics
passing_stops before reads tics tic passed le p later =
    let as_many : length tics ≡ length reads = p.as_many in
    record {
      as_many = as_many;
      left = λ k less. elim (below_or k passed) [
        | inl h ↦ p.early k h
        | inr h ↦ p.late k h less
            ∙ left_later before tic (tic_of reads k) le
            (passing_between before reads tics tic passed (length reads) (omega arith) p (subst (λ (n : ℕ). AreLater tics tic n) as_many later) k h less)
      ];
    }

-- no place is left
pub passing_ends : (before : ℕ) (reads : List ReadAt) (tics : List ℕ) (tic passed : ℕ)
    → IsPassing before reads tics tic passed → length reads ≤ passed → AreLeft (tic + 1) reads tics
passing_ends before reads tics tic passed p all = record {
  as_many = p.as_many;
  left = λ k less. p.early k (omega arith);
}

-- ---- reads that are left out

-- a read of another tic does nothing
other_read : (tic : ℕ) (read : ReadAt) (a : Asking) → read.tic ≢ tic → read_done tic read a ≡ a
other_read tic read a ne =
    let test : (read.tic == tic) ≡ false = grind (arith, nat_tests) in
    ap (λ (b : Bool). elim b [ true ↦ act_all tic read.actions a | false ↦ a ]) test

skip : (tic : ℕ) (reads : List ReadAt) (a all : Asking) (from n : ℕ) → from + n ≤ length reads
    → ((k : ℕ) → from ≤ k → k < from + n → tic_of reads k ≢ tic)
    → reads_done tic (drop from reads) a ≡ all → reads_done tic (drop (from + n) reads) a ≡ all
skip tic reads a all from zero fits none told =
    let e : from + zero ≡ from = omega arith in ap (λ (i : ℕ). reads_done tic (drop i reads) a) e ∙ told
skip tic reads a all from (suc n) fits none told =
    let e : from + suc n ≡ (from + n) + 1 = omega arith in
    let before = skip tic reads a all from n (omega arith) (λ k low high. none k low (omega arith)) told in
    let next = reads_next tic (from + n) reads no_read a all (omega arith) before in
    let same = other_read tic (get_or reads (from + n) no_read) a (none (from + n) (omega arith) (omega arith)) in
    ap (λ (i : ℕ). reads_done tic (drop i reads) a) e
    ∙ sym (ap (λ (b : Asking). reads_done tic (drop (from + n + 1) reads) b) same) ∙ next

pub skip_to : (tic : ℕ) (reads : List ReadAt) (a all : Asking) (from to : ℕ) → from ≤ to → to ≤ length reads
    → ((k : ℕ) → from ≤ k → k < to → tic_of reads k ≢ tic)
    → reads_done tic (drop from reads) a ≡ all → reads_done tic (drop to reads) a ≡ all
skip_to tic reads a all from to le fits none told =
    let e : to ≡ from + (to - from) = omega arith in
    ap (λ (i : ℕ). reads_done tic (drop i reads) a) e
    ∙ skip tic reads a all from (to - from) (omega arith) (λ k low high. none k low (omega arith)) told

-- one more read that is found
pub found_next : (before : ℕ) (reads : List ReadAt) (tics : List ℕ) (tic passed place : ℕ) (a all : Asking) → before ≤ tic → tic ≤ tic_limit
    → IsPassing before reads tics tic passed → IsFirst tics tic place
    → reads_done tic (drop passed reads) a ≡ all
    → reads_done tic (drop (place + 1) reads) (read_done tic (get_or reads place no_read) a) ≡ all
found_next before reads tics tic passed place a all le in_range passing first told =
    let as_many : length tics ≡ length reads = passing.as_many in
    let there : place < length tics = first.in_list in
    let low : passed ≤ place = passing_on before reads tics tic passed place in_range passing first in
    reads_next tic place reads no_read a all (omega arith)
    (skip_to tic reads a all passed place low (omega arith)
    (λ k first_k last. left_other before tic (tic_of reads k) le (passing_between before reads tics tic passed place (omega arith) passing first.before k first_k last)) told)

-- where none is found, none that is left is of the tic
pub none_next : (before : ℕ) (reads : List ReadAt) (tics : List ℕ) (tic passed : ℕ) (a all : Asking) → before ≤ tic
    → IsPassing before reads tics tic passed → AreLater tics tic (length tics)
    → reads_done tic (drop passed reads) a ≡ all → a ≡ all
none_next before reads tics tic passed a all le passing later told =
    let as_many : length tics ≡ length reads = passing.as_many in
    sym (at_drop_all (λ (xs : List ReadAt). reads_done tic xs a) reads (length reads) (omega arith))
    ∙ skip_to tic reads a all passed (length reads) passing.bound (omega arith)
    (λ k first_k last. left_other before tic (tic_of reads k) le
    (passing_between before reads tics tic passed (length reads) (omega arith) passing (subst (λ (n : ℕ). AreLater tics tic n) as_many later) k first_k last)) told
