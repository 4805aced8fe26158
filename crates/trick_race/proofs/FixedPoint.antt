-- The fixed point of the asynchronous reach.
use Rattle.std.proofs.Common.{◌≡◌, ℕ, zero, suc, ◌<◌, Bool, true, false, ◌⊎◌, inl, inr, ◌↔◌, IsTrue, List, length, get_or, replicate, slice_set, Option, Some, None, is_some, MatchOption, MatchBool, refl, sym, ap, subst, ◌∙◌, arith}
use Rattle.std.proofs.lemmas.Bool.{cases_eq, cases_Bool}
use Rattle.std.proofs.lemmas.List.{get_or-set_other, length-set}
use Rattle.trick_access.specs.declared.cells.Access.{Access}
use Rattle.trick_lang.specs.Access.{is_in}
use Rattle.trick_lang.specs.declared.cells.Cell.{Cell}
use Rattle.trick_lang.specs.declared.range.CellRange.{CellRange}
use Rattle.trick_model.specs.Acceptance.{AreApart}
use Rattle.trick_model.specs.Access.{IsReached, Source, Passed, reads_cell, writes_cell}
use Rattle.trick_model.specs.Plan.{Plan, is_on_async}
use Rattle.trick_race.proofs.Firsts.{read_at}
use Rattle.trick_race.proofs.Sets.{has_there}
use Rattle.trick_race.specs.Accesses.{AreAccesses, Feeds, IsWrittenBy, has}
use Rattle.trick_access.specs.Accesses.{no_access, reads_of, writes_of}
use Rattle.trick_race.specs.Reached.{AddsFed, AreReaching, AreTaken, IsWaiting, IsWrittenIn}

pub none_has : (n k : ℕ) → has (replicate n false) k ≡ false
none_has zero k = refl
none_has (suc n) zero = refl
none_has (suc n) (suc k) = none_has n k

-- what a job may read or write, by its ranges and by the plan
pub to_write : (cells : ℕ) (p : Plan) (accesses : List Access) → AreAccesses cells p accesses → (k c : ℕ)
    → k < length p.jobs
    → IsTrue (is_in (writes_of accesses k) c) → IsTrue (writes_cell p k c)
to_write cells p accesses are k c there h = sym ((are.writes k there).exact c) ∙ h

pub of_write : (cells : ℕ) (p : Plan) (accesses : List Access) → AreAccesses cells p accesses → (k c : ℕ)
    → k < length p.jobs
    → IsTrue (writes_cell p k c) → IsTrue (is_in (writes_of accesses k) c)
of_write cells p accesses are k c there h = (are.writes k there).exact c ∙ h

pub to_read : (cells : ℕ) (p : Plan) (accesses : List Access) → AreAccesses cells p accesses → (k c : ℕ)
    → k < length p.jobs
    → IsTrue (is_in (reads_of accesses k) c) → IsTrue (reads_cell p k c)
to_read cells p accesses are k c there h = sym ((are.reads k there).exact c) ∙ h

pub of_read : (cells : ℕ) (p : Plan) (accesses : List Access) → AreAccesses cells p accesses → (k c : ℕ)
    → k < length p.jobs
    → IsTrue (reads_cell p k c) → IsTrue (is_in (reads_of accesses k) c)
of_read cells p accesses are k c there h = (are.reads k there).exact c ∙ h

-- a job of a set of jobs is there
job_there : (p : Plan) (set : List Bool) (k : ℕ) → length set ≡ length p.jobs → IsTrue (has set k) → k < length p.jobs
job_there p set k many h = let there = has_there set k h in omega (arith, there, many)

-- ---- at the start

pub started : (p : Plan) (accesses : List Access) (taken : List Bool) (n : ℕ) → length taken ≡ length p.jobs
    → n ≡ length p.jobs
    → length (replicate n false) ≡ n
    → ((k : ℕ) → k < length p.jobs → has taken k ≡ is_on_async p.jobs p.threads k)
    → AreTaken p accesses taken (replicate n false)
started p accesses taken n many size long are = record {
  many = many;
  many_followed = long ∙ size;
  sources = λ k there h. are k there ∙ h;
  sound = λ k cell h w. let there = job_there p taken k many h in Source k cell there (sym (are k there) ∙ h) w;
  closed = λ k j h there feeds. absurd (nothing k h);
  followed_taken = λ k h. absurd (nothing k h);
}
  where
    nothing : (k : ℕ) → IsTrue (has (replicate n false) k) → ⊥
    nothing k h = let out = none_has n k in cc

-- ---- at each step

-- a job that is followed is one more, or was followed before
pub followed_cases : (followed : List Bool) (job k : ℕ) → IsTrue (has (slice_set followed job true) k)
    → (k ≡ job) ⊎ IsTrue (has followed k)
followed_cases followed job k h = elim (cases_eq k job) [
  | inl here ↦ inl here
  | inr other ↦ inr (sym (get_or-set_other followed job k true false other) ∙ h)
]

pub followed_more : (cells : ℕ) (p : Plan) (accesses : List Access) (taken followed after : List Bool) (job : ℕ)
    → AreAccesses cells p accesses → AreTaken p accesses taken followed → IsWaiting taken followed job
    → AddsFed accesses job taken after
    → AreTaken p accesses after (slice_set followed job true)
followed_more cells p accesses taken followed after job are at waiting adds = record {
  many = adds.size ∙ at.many;
  many_followed = length-set followed job true ∙ at.many_followed;
  sources = λ k there h. adds.kept k (at.sources k there h);
  sound = λ k cell h w. elim (adds.only k h) [
    | inl before ↦ at.sound k cell before w
    | inr feeds ↦
        let here = job_there p taken job at.many waiting.0 in
        let there = job_there p after k (adds.size ∙ at.many) h in
        Passed k feeds.0 cell there (at.sound job feeds.0 waiting.0
        (to_write cells p accesses are job feeds.0 here feeds.1))
        (to_read cells p accesses are k feeds.0 there feeds.2) w
  ];
  closed = λ k j h there feeds. elim (followed_cases followed job k h) [
    | inl here ↦ adds.fed j (let many = are.many in omega (arith, there, many))
        (subst (λ n. Feeds accesses n j) here feeds)
    | inr before ↦ adds.kept j (at.closed k j before there feeds)
  ];
  followed_taken = λ k h. elim (followed_cases followed job k h) [
    | inl here ↦ subst (λ n. IsTrue (has after n)) (sym here) (adds.kept job waiting.0)
    | inr before ↦ adds.kept k (at.followed_taken k before)
  ];
}

-- ---- at the end

pub all_followed : (cells : ℕ) (p : Plan) (accesses : List Access) (taken followed : List Bool)
    → AreAccesses cells p accesses → AreTaken p accesses taken followed → ((k : ℕ) → IsWaiting taken followed k → ⊥)
    → AreReaching p taken
all_followed cells p accesses taken followed are at none = record {
  many = at.many;
  reached = λ cell. (written cell, λ w. at.sound w.0 cell w.1 w.2);
}
  where
    follows : (k : ℕ) → IsTrue (has taken k) → IsTrue (has followed k)
    follows k h = elim (cases_Bool (has followed k)) [ inl in_set ↦ in_set | inr out ↦ absurd (none k (h, out)) ]

    written : (cell : ℕ) → IsReached p cell → IsWrittenIn p taken cell
    written cell (Source k _ there h w) = (k, at.sources k there h, w)
    written cell (Passed k from _ there r reads w) =
        let before = written from r in
        let here = job_there p taken before.0 at.many before.1 in (
          k,
          at.closed before.0 k (follows before.0 before.1) there (
            from,
            of_write cells p accesses are before.0 from here before.2,
            of_read cells p accesses are k from there
                reads,
          ),
          w,
        )

-- the cells that the jobs of the set may write, by their ranges
pub reach_is : (cells : ℕ) (p : Plan) (accesses : List Access) (jobs : List Bool) (c : ℕ) (b : Bool)
    → AreAccesses cells p accesses → AreReaching p jobs → IsTrue b ↔ IsWrittenBy accesses jobs c
    → IsTrue b ↔ IsReached p c
reach_is cells p accesses jobs c b are reaching told = (
  (λ h. let w = told.0 h in (reaching.reached c).1
      (w.0, w.1, to_write cells p accesses are w.0 c (job_there p jobs w.0 reaching.many w.1) w.2)),
  λ r. let w = (reaching.reached c).0 r in told.1
      (w.0, w.1, of_write cells p accesses are w.0 c (job_there p jobs w.0 reaching.many w.1) w.2),
)

-- a common cell of what one writes and the other reads
pub feeds_is : (accesses : List Access) (one other : ℕ) (x y : Access) (writes reads : List CellRange)
    (found : Option Cell) (b : Bool)
    → one < length accesses → other < length accesses → x ≡ get_or accesses one x → y ≡ get_or accesses other y
    → writes ≡ x.writes → reads ≡ y.reads
    → MatchOption found (AreApart (is_in writes) (is_in reads))
    (λ cell. IsTrue (is_in writes cell.0) × IsTrue (is_in reads cell.0))
    → b ≡ is_some found → MatchBool b (Feeds accesses one other) (Feeds accesses one other → ⊥)
feeds_is accesses one other x y writes reads found b one_there other_there x_is y_is writes_is reads_is told is =
    subst (λ b. MatchBool b (Feeds accesses one other) (Feeds accesses one other → ⊥)) (sym is) (by_cases found told)
  where
    same_writes : writes_of accesses one ≡ writes
    same_writes = ap (λ (a : Access). a.writes) (read_at accesses one no_access x one_there ∙ sym x_is) ∙ sym writes_is

    same_reads : reads_of accesses other ≡ reads
    same_reads = ap (λ (a : Access). a.reads) (read_at accesses other no_access y other_there ∙ sym y_is) ∙ sym reads_is

    by_cases : (found : Option Cell) → MatchOption found (AreApart (is_in writes) (is_in reads))
        (λ cell. IsTrue (is_in writes cell.0) × IsTrue (is_in reads cell.0))
        → MatchBool (is_some found) (Feeds accesses one other) (Feeds accesses one other → ⊥)
    by_cases None apart = λ f. apart f.0 (subst (λ (rs : List CellRange). IsTrue (is_in rs f.0)) same_writes f.1)
        (subst (λ (rs : List CellRange). IsTrue (is_in rs f.0)) same_reads f.2)
    by_cases (Some cell) both = (
      cell.0,
      subst (λ (rs : List CellRange). IsTrue (is_in rs cell.0))
          (sym same_writes) both.0,
      subst (λ (rs : List CellRange). IsTrue (is_in rs cell.0)) (sym same_reads) both.1,
    )
