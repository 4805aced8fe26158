-- Cells that are written one after another, and flags that are set.
use Rattle.std.proofs.Common.{◌≡◌, ◌≢◌, ◌⊎◌, ◌∙◌, inl, inr, ℕ, zero, suc, ◌+◌, ◌<◌, ◌≤◌, ◌==◌, ◌&&◌, ◌||◌, ℤ, pos, Bool, true, false, IsTrue, List, [], ◌∷◌, ◌++◌, length, take, refl, sym, ap, subst, arith}
use Rattle.std.proofs.Math.Bool.{or-false, or-true}
use Rattle.std.proofs.lemmas.Bool.{eq-eqb, ne_eqb}
use Rattle.std.proofs.lemmas.Bool.Decides.{nat_tests}
use Rattle.std.proofs.lemmas.List.{get_or-set_other, get_or-set_same, length-replicate, length-set, take_more}
use Rattle.std.proofs.lemmas.List.Folds.{list_any-append}
use Rattle.std.specs.List.{list_any, slice_index_or}
use Rattle.std.specs.Prelude.{cond, map, nat_le, nat_lt, replicate, slice_set}
use Rattle.trick_eval.specs.Bench.{covers}
use Rattle.trick_lang.specs.Access.{is_in}
use Rattle.trick_lang.specs.Effect.{scalars_of, writes}
use Rattle.trick_lang.specs.Wrap.{IsInRange}
use Rattle.trick_lang.specs.declared.cells.Cell.{Cell}
use Rattle.trick_lang.specs.declared.job.JobId.{JobId}
use Rattle.trick_lang.specs.declared.range.CellRange.{CellRange}
use Rattle.trick_lang.specs.declared.scalar.Scalar.{Scalar}
use Rattle.trick_lang.specs.declared.variable.Variable.{Variable}
use Rattle.trick_model.proofs.Ranges.{replicate_each, zero_in_range}
use Rattle.trick_model.specs.Beside.{flag_in}
use Rattle.trick_model.specs.Laws.{is_among}
use Rattle.trick_model.specs.State.{number_at}
use Rattle.trick_model.specs.Valid.{ids}
use Rattle.trick_model.specs.ValidState.{AreNumbersOf}
use Rattle.trick_model.specs.declared.plan.Plan.{Plan as PlanValue}
use Rattle.trick_post_trays.proofs.Finish.{wanted_of}
use Rattle.trick_post_trays.specs.Calendars.{has_work}
use Rattle.trick_post_trays.specs.Scratch.{AreStored, IsWritten, cell_ids}
use Rattle.trick_post_trays.specs.Trays.{AreSet}
use Rattle.trick_post_work.specs.declared.posts.Job1.{Job1}
use Rattle.trick_queue.proofs.Trees.{same_or}
use Rattle.trick_queue.specs.Line.{no_id}

-- ---- cells

pub none_written : (others old : List ℤ) → IsWritten (λ c. false) others old old
none_written others old = record { many = refl; at = λ c less. refl }

-- the same choice, told otherwise
pub written_same : (chosen wanted : ℕ → Bool) (others old new : List ℤ) → ((c : ℕ) → chosen c ≡ wanted c) → IsWritten chosen others old new → IsWritten wanted others old new
written_same chosen wanted others old new same written = record {
  many = written.many;
  at = λ c less. written.at c less ∙ ap (λ (b : Bool). cond b (number_at others c) (number_at old c)) (same c);
}

-- one cell more
pub written_more : (chosen wanted : ℕ → Bool) (others old mid : List ℤ) (cell : ℕ) (n : ℤ) → IsWritten chosen others old mid → cell < length mid
    → n ≡ number_at others cell → ((c : ℕ) → wanted c ≡ (chosen c || (cell == c))) → IsWritten wanted others old (slice_set mid cell n)
written_more chosen wanted others old mid cell n written there is more = record {
  many = length-set mid cell n ∙ written.many;
  at = λ c less. by_cell c less (same_or c cell);
}
  where
    by_cell : (c : ℕ) → c < length old → (c ≡ cell) ⊎ (c ≢ cell)
        → number_at (slice_set mid cell n) c ≡ cond (wanted c) (number_at others c) (number_at old c)
    by_cell c less (inl e) =
        let is_wanted : wanted c ≡ true = more c ∙ ap (λ (b : Bool). chosen c || b) (eq-eqb cell c (sym e)) ∙ or-true (chosen c) in
        ap (λ (i : ℕ). number_at (slice_set mid cell n) i) e ∙ get_or-set_same mid cell n (pos 0) there ∙ is
        ∙ ap (number_at others) (sym e) ∙ sym (ap (λ (b : Bool). cond b (number_at others c) (number_at old c)) is_wanted)
    by_cell c less (inr ne) =
        let same : wanted c ≡ chosen c = more c ∙ ap (λ (b : Bool). chosen c || b) (ne_eqb cell c (λ e. ne (sym e))) ∙ or-false (chosen c) in
        get_or-set_other mid cell c n (pos 0) ne ∙ written.at c less ∙ sym (ap (λ (b : Bool). cond b (number_at others c) (number_at old c)) same)

both_cond : (a b : Bool) (x y : ℤ) → cond b x (cond a x y) ≡ cond (a || b) x y
both_cond true true x y = refl
both_cond true false x y = refl
both_cond false true x y = refl
both_cond false false x y = refl

-- some cells, and then others
pub written_join : (a b wanted : ℕ → Bool) (others old mid new : List ℤ) → IsWritten a others old mid → IsWritten b others mid new
    → ((c : ℕ) → (a c || b c) ≡ wanted c) → IsWritten wanted others old new
written_join a b wanted others old mid new first second is = record {
  many = second.many ∙ first.many;
  at = λ c less. second.at c (omega (arith, first.many))
      ∙ ap (λ (n : ℤ). cond (b c) (number_at others c) n) (first.at c less)
      ∙ both_cond (a c) (b c) (number_at others c) (number_at old c)
      ∙ ap (λ (w : Bool). cond w (number_at others c) (number_at old c)) (is c);
}

-- where it is wanted
pub written_wanted : (wanted : Bool) (chosen : ℕ → Bool) (others old new : List ℤ) → (wanted ≡ true → IsWritten chosen others old new) → (wanted ≡ false → new ≡ old)
    → IsWritten (λ c. wanted && chosen c) others old new
written_wanted true chosen others old new here other = here refl
written_wanted false chosen others old new here other = subst (IsWritten (λ c. false) others old) (sym (other refl)) (none_written others old)

-- ---- ranges

-- the cells of a range below one
abbrev pub covers_below : CellRange → ℕ → ℕ → Bool
covers_below r end c = nat_le (r.first).0 c && nat_lt c end

pub below_none : (r : CellRange) (c : ℕ) → false ≡ covers_below r (r.first).0 c
below_none r c = by_tests (nat_le (r.first).0 c) (nat_lt c (r.first).0) refl refl
  where
    by_tests : (a b : Bool) → nat_le (r.first).0 c ≡ a → nat_lt c (r.first).0 ≡ b → false ≡ (a && b)
    by_tests false b x y = refl
    by_tests true false x y = refl
    by_tests true true x y = let low : (r.first).0 ≤ c = grind (arith, nat_tests) in let high : c < (r.first).0 = grind (arith, nat_tests) in absurd (omega arith)

pub below_more : (r : CellRange) (end c : ℕ) → (r.first).0 ≤ end → covers_below r (end + 1) c ≡ (covers_below r end c || (end == c))
below_more r end c low = elim (same_or end c) [
  | inl e ↦
      let from : nat_le (r.first).0 c ≡ true = grind (arith, nat_tests) in
      let to : nat_lt c (end + 1) ≡ true = grind (arith, nat_tests) in
      ap (λ (a : Bool). a && nat_lt c (end + 1)) from ∙ to ∙ sym (ap (λ (b : Bool). covers_below r end c || b) (eq-eqb end c e) ∙ or-true (covers_below r end c))
  | inr ne ↦
      let same : nat_lt c (end + 1) ≡ nat_lt c end = grind (arith, nat_tests) in
      ap (λ (b : Bool). nat_le (r.first).0 c && b) same ∙ sym (ap (λ (b : Bool). covers_below r end c || b) (ne_eqb end c ne) ∙ or-false (covers_below r end c))
]

pub below_all : (r : CellRange) (end c : ℕ) → end ≡ (r.last).0 + 1 → covers_below r end c ≡ covers r c
below_all r end c is = ap (λ (b : Bool). nat_le (r.first).0 c && b) (by_end (nat_lt c end) (nat_le c (r.last).0) refl refl)
  where
    by_end : (a b : Bool) → nat_lt c end ≡ a → nat_le c (r.last).0 ≡ b → nat_lt c end ≡ nat_le c (r.last).0
    by_end true true x y = x ∙ sym y
    by_end false false x y = x ∙ sym y
    by_end true false x y =
        let less : c < end = grind (arith, nat_tests) in
        let past : (r.last).0 < c = grind (arith, nat_tests) in
        absurd (omega arith)
    by_end false true x y =
        let past : end ≤ c = grind (arith, nat_tests) in
        let near : c ≤ (r.last).0 = grind (arith, nat_tests) in
        absurd (omega arith)

-- ---- ranges one after another

pub in_more : (rs : List CellRange) (r : CellRange) (c : ℕ) → (is_in rs c || covers r c) ≡ is_in (rs ++ r ∷ []) c
in_more [] r c = sym (or-false (covers r c))
in_more (q ∷ rs) r c = assoc (covers q c) (is_in rs c) (covers r c) ∙ ap (λ (b : Bool). covers q c || b) (in_more rs r c)
  where
    assoc : (a b d : Bool) → ((a || b) || d) ≡ (a || (b || d))
    assoc true b d = refl
    assoc false b d = refl

-- ---- a copy that is made

pub zeros_stored : (scalars : List Scalar) (n : ℕ) → length scalars ≡ n → n ≤ 65536 → AreStored scalars (replicate n (pos 0))
zeros_stored scalars n many few = record {
  numbered = length-replicate n (pos 0) ∙ sym many;
  few = omega arith;
  in_range = replicate_each (IsInRange scalars) (pos 0) n (zero_in_range scalars);
}

more : (i : ℕ) → suc (i + 1) ≡ suc i + 1
more i = omega arith

pub taken_scalar : (cells : List Variable) (i : ℕ) (v : Variable) → i < length cells → slice_index_or cells i v ≡ v
    → scalars_of (take i cells) ++ v.scalar ∷ [] ≡ scalars_of (take (i + 1) cells)
taken_scalar [] i v there is = absurd (omega (arith, there))
taken_scalar (x ∷ xs) zero v there is = ap (λ (w : Variable). w.scalar ∷ []) (sym is)
taken_scalar (x ∷ xs) (suc i) v there is =
    ap (λ (scalars : List Scalar). x.scalar ∷ scalars) (taken_scalar xs i v (omega (arith, there)) is)
    ∙ ap (λ (k : ℕ). scalars_of (take k (x ∷ xs))) (more i)

-- ---- flags

-- one flag more, in front
pub set_more : (j : ℕ) (js : List ℕ) (flag : Bool) (flags : List Bool) (on : List Bool) → j < length on → AreSet js flags (record { on = on })
    → AreSet (j ∷ js) (flag ∷ flags) (record { on = slice_set on j flag })
set_more j js flag flags on there set k among = by_job (same_or k j)
  where
    apart : (k j : ℕ) → (k ≡ j → ⊥) → (j == k) ≡ false
    apart k j ne = ne_eqb j k (λ e. ne (sym e))

    rest : (b : Bool) → b ≡ false → IsTrue (b || is_among k js) → IsTrue (is_among k js)
    rest false e h = h
    rest true e h = let off : true ≡ false = e in cc

    by_job : (k ≡ j) ⊎ (k ≢ j) → slice_index_or (slice_set on j flag) k false ≡ elim (j == k) [ true ↦ flag | false ↦ flag_in js flags k ]
    by_job (inl e) =
        ap (λ (i : ℕ). slice_index_or (slice_set on j flag) i false) e ∙ get_or-set_same on j flag false there
        ∙ sym (ap (λ (b : Bool). pick b) (eq-eqb j k (sym e)))
      where
        pick : Bool → Bool
        pick b = elim b [ true ↦ flag | false ↦ flag_in js flags k ]
    by_job (inr ne) =
        get_or-set_other on j k flag false ne ∙ set k (rest (j == k) (apart k j ne) among)
        ∙ sym (ap (λ (b : Bool). pick b) (apart k j ne))
      where
        pick : Bool → Bool
        pick b = elim b [ true ↦ flag | false ↦ flag_in js flags k ]

-- ---- jobs

ids_more : (all : List JobId) (i : ℕ) → i < length all → ids (take (i + 1) all) ≡ ids (take i all) ++ (slice_index_or all i no_id).0 ∷ []
ids_more all i less = ap ids (take_more all i no_id less) ∙ ids_join (take i all) (slice_index_or all i no_id)
  where
    ids_join : (xs : List JobId) (job : JobId) → ids (xs ++ job ∷ []) ≡ ids xs ++ job.0 ∷ []
    ids_join [] job = refl
    ids_join (x ∷ xs) job = ap (λ (l : List ℕ). x.0 ∷ l) (ids_join xs job)

-- what one job more may write
pub wanted_more : (plan : PlanValue) (all : List JobId) (i : ℕ) (w : Job1) (c : ℕ) → i < length all
    → (wanted_of plan (ids (take i all)) w c || (has_work plan.program.jobs w (slice_index_or all i no_id).0
    && is_in (writes plan.program (slice_index_or all i no_id)) c)) ≡ wanted_of plan (ids (take (i + 1) all)) w c
wanted_more plan all i w c less =
    let test = λ (k : ℕ). has_work plan.program.jobs w k && is_in (writes plan.program (record { 0 = k })) c in
    let k = (slice_index_or all i no_id).0 in
    ap (λ (b : Bool). list_any test (ids (take i all)) || b) (sym (or-false (test k)))
    ∙ sym (list_any-append test (ids (take i all)) (k ∷ []))
    ∙ ap (list_any test) (sym (ids_more all i less))

-- ---- numbers that are read

pub gathered : (scalars : List Scalar) (cells : List Cell) (i : ℕ) (d : Cell) (ns : List ℤ) (n : ℤ) → i < length cells
    → AreNumbersOf scalars (cell_ids (take i cells)) ns → IsInRange scalars (slice_index_or cells i d).0 n
    → AreNumbersOf scalars (cell_ids (take (i + 1) cells)) (ns ++ n ∷ [])
gathered scalars [] i d ns n less are right = absurd (omega arith)
gathered scalars (cell ∷ cells) zero d [] n less are right = (right, tt)
gathered scalars (cell ∷ cells) zero d (m ∷ ns) n less are right = absurd are
gathered scalars (cell ∷ cells) (suc i) d [] n less are right = absurd are
gathered scalars (cell ∷ cells) (suc i) d (m ∷ ns) n less are right =
    subst (λ (k : ℕ). AreNumbersOf scalars (cell_ids (take k (cell ∷ cells))) (m ∷ (ns ++ n ∷ []))) (more i)
    (are.0, gathered scalars cells i d ns n (omega arith) are.1 right)

pub gathered_numbers : (memory : List ℤ) (cells : List Cell) (i : ℕ) (d : Cell) (ns : List ℤ) → i < length cells
    → ns ≡ map (number_at memory) (cell_ids (take i cells))
    → ns ++ number_at memory (slice_index_or cells i d).0 ∷ [] ≡ map (number_at memory) (cell_ids (take (i + 1) cells))
gathered_numbers memory cells i d ns less is =
    ap (λ (l : List ℤ). l ++ number_at memory (slice_index_or cells i d).0 ∷ []) is
    ∙ joined (take i cells) (slice_index_or cells i d) ∙ sym (ap (λ (cs : List Cell). map (number_at memory) (cell_ids cs)) (take_more cells i d less))
  where
    joined : (cs : List Cell) (c : Cell)
        → map (number_at memory) (cell_ids cs) ++ number_at memory c.0 ∷ [] ≡ map (number_at memory) (cell_ids (cs ++ c ∷ []))
    joined [] c = refl
    joined (x ∷ cs) c = ap (λ (l : List ℤ). number_at memory x.0 ∷ l) (joined cs c)
