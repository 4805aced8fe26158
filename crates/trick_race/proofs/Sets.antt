-- Sets of cells and of jobs.
use Rattle.std.proofs.Common.{◌≡◌, ℕ, zero, suc, ◌+◌, ◌<◌, Bool, true, false, ◌||◌, inl, inr, ◌↔◌, IsTrue, List, [], ◌∷◌, length, get_or, sym, ap, subst, ◌∙◌, arith}
use Rattle.std.proofs.lemmas.Bool.{cases_lt, or_left, or_right}
use Rattle.trick_access.specs.declared.cells.Access.{Access}
use Rattle.trick_lang.specs.Access.{is_in}
use Rattle.trick_race.proofs.Firsts.{read_at}
use Rattle.trick_race.proofs.Merging.{either}
use Rattle.trick_race.specs.Accesses.{IsWrittenBefore, has}
use Rattle.trick_access.specs.Accesses.{no_access, writes_of}

-- what is in a set is one of so many
pub has_there : (set : List Bool) (k : ℕ) → IsTrue (has set k) → k < length set
has_there [] k h = cc
has_there (b ∷ set) zero h = omega arith
has_there (b ∷ set) (suc k) h = let rest = has_there set k h in omega arith

writes_item : (accesses : List Access) (k : ℕ) (item : Access) → k < length accesses → item ≡ get_or accesses k item
    → writes_of accesses k ≡ item.writes
writes_item accesses k item there is = ap (λ (a : Access). a.writes) (read_at accesses k no_access item there ∙ sym is)

-- the cells that one job more may write
pub writes_more : (accesses : List Access) (jobs : List Bool) (job c : ℕ) (item : Access) (old new : Bool)
    → new ≡ (is_in item.writes c || old) → IsTrue (has jobs job) → job < length accesses
    → item ≡ get_or accesses job item
    → IsTrue old ↔ IsWrittenBefore accesses jobs job c → IsTrue new ↔ IsWrittenBefore accesses jobs (job + 1) c
writes_more accesses jobs job c item old new is chosen there item_is told =
    let same : writes_of accesses job ≡ item.writes = writes_item accesses job item there item_is in (
      λ h. elim (either (is_in item.writes c) old (sym is ∙ h)) [
        | inl here ↦ (job, omega arith, chosen, subst (λ rs. IsTrue (is_in rs c)) (sym same) here)
        | inr before ↦ let w = told.0 before in let low = w.1 in (w.0, omega arith, w.2, w.3)
      ],
      λ w. is ∙ (elim (cases_lt w.0 job) [
        | inl less ↦ or_right (is_in item.writes c) old (told.1 (w.0, less, w.2, w.3))
        | inr more ↦
            let low = w.1 in
            let here : w.0 ≡ job = omega arith in
            or_left (is_in item.writes c) old (subst (λ rs. IsTrue (is_in rs c))
            (ap (writes_of accesses) here ∙ same) w.3)
      ]),
    )

-- a job that is not of the set writes nothing of it
pub writes_same : (accesses : List Access) (jobs : List Bool) (job c : ℕ) (old : Bool) → has jobs job ≡ false
    → IsTrue old ↔ IsWrittenBefore accesses jobs job c → IsTrue old ↔ IsWrittenBefore accesses jobs (job + 1) c
writes_same accesses jobs job c old out told = (
  λ h. let w = told.0 h in let low = w.1 in (w.0, omega arith, w.2, w.3),
  λ w. elim (cases_lt w.0 job) [
    | inl less ↦ told.1 (w.0, less, w.2, w.3)
    | inr more ↦
        let low = w.1 in
        let here : w.0 ≡ job = omega arith in
        let no : true ≡ false = sym w.2 ∙ ap (has jobs) here ∙ out in cc
  ],
)
