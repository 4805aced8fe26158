-- Steps that were taken, with the calls that were made for them.
use Rattle.std.proofs.Common.{◌≡◌, ◌∙◌, List, [], ◌++◌, false, Err, IsOk, ap, refl, subst, sym}
use Rattle.std.proofs.lemmas.Bool.{false_from_ne_true}
use Rattle.std.specs.Prelude.{Result, IsErrOf}
use Rattle.trick_base.proofs.Results.{not_ok}
use Rattle.trick_outside.proofs.CallLemmas.{ends-append, fails-late, part_of_early, part_of_late}
use Rattle.trick_outside.proofs.DoesLemmas.{Joins, handed_on, ok_not_fault, went_none, went_then}
use Rattle.trick_outside.specs.Calls.{Call, fails}
use Rattle.trick_outside.specs.Does.{Does, IsPartOf}
use Rattle.trick_outside.specs.declared.shelf.Shelf.{Ghosts}
use Rattle.trick_outside.specs.declared.stop.Stop.TheVariants.{Shelf}
use Rattle.trick_outside.specs.declared.stop.Stop.{Stop}

-- the same steps, in other words
pub did_of : {S T : Type 0} {shelf : Ghosts S} {old new : S} {result : Result T Stop} {one other calls : List Call} → one ≡ other
    → (does : Does shelf old new result one) × (does.calls ≡ calls) → (does : Does shelf old new result other) × (does.calls ≡ calls)
did_of {shelf = shelf} {old = old} {new = new} {result = result} {calls = calls} same did =
    subst (λ (steps : List Call). (does : Does shelf old new result steps) × (does.calls ≡ calls)) same did

-- nothing was called, and it is not done, as for want of memory
pub did_none : {S T : Type 0} {shelf : Ghosts S} (s : S) (result : Result T Stop) (steps : List Call)
    → shelf.called s [] s → (IsOk result → ⊥) → (IsErrOf result Shelf → ⊥) → (does : Does shelf s s result steps) × (does.calls ≡ [])
did_none s result steps none not_done never = (
  record {
    calls = [];
    went = went_none s none;
    part = tt;
    whole = λ ok. absurd (not_done ok);
    failed = λ f. absurd (never f);
    fault = λ e. cc;
    ends = tt;
  },
  refl,
)

-- the same steps under another result
pub did_as : {S T U : Type 0} {shelf : Ghosts S} {old new : S} {first : Result T Stop} {steps : List Call} (result : Result U Stop) (did : Does shelf old new first steps)
    → (IsOk result → IsOk first) → (IsErrOf result Shelf → IsErrOf first Shelf) → (IsErrOf first Shelf → IsErrOf result Shelf)
    → (does : Does shelf old new result steps) × (does.calls ≡ did.calls)
did_as result did ok there back = (
  record {
    calls = did.calls;
    went = did.went;
    part = did.part;
    whole = λ d. did.whole (ok d);
    failed = λ f. did.failed (there f);
    fault = λ e. back (did.fault e);
    ends = did.ends;
  },
  refl,
)

pub did_fail : {S T U : Type 0} {shelf : Ghosts S} {old new : S} {first : Result T Stop} {steps : List Call} (result : Result U Stop) (e f : Stop) (did : Does shelf old new first steps)
    → first ≡ Err e → result ≡ Err f → f ≡ e → (does : Does shelf old new result steps) × (does.calls ≡ did.calls)
did_fail {first = first} result e f did at is same =
    did_as result did (λ ok. absurd (not_ok result f is ok)) (handed_on first result e f at is same) (handed_on result first f e is at (sym same))

-- it stopped among the first steps: the same error, handed on
pub did_err : {S T U : Type 0} {shelf : Ghosts S} {old new : S} {first : Result T Stop} {early : List Call} (result : Result U Stop) (e f : Stop) (late : List Call)
    (did : Does shelf old new first early) → first ≡ Err e → result ≡ Err f → f ≡ e
    → (does : Does shelf old new result (early ++ late)) × (does.calls ≡ did.calls)
did_err {first = first} {early = early} result e f late did at is same = (
  record {
    calls = did.calls;
    went = did.went;
    part = part_of_early did.calls early late did.part;
    whole = λ ok. absurd (not_ok result f is ok);
    failed = λ shelf. did.failed (handed_on first result e f at is same shelf);
    fault = λ fails. handed_on result first f e is at (sym same) (did.fault fails);
    ends = did.ends;
  },
  refl,
)

-- the first steps were taken, and the others after them
pub did_then : {S T U : Type 0} {shelf : Ghosts S} {old mid new : S} {first : Result T Stop} {result : Result U Stop} {early late : List Call}
    → Joins shelf → Does shelf old mid first early → IsOk first → (more : Does shelf mid new result late)
    → (does : Does shelf old new result (early ++ late)) × (does.calls ≡ early ++ more.calls)
did_then {first = first} {early = early} {late = late} join did ok more =
    let quiet : fails did.calls ≡ false = false_from_ne_true (fails did.calls) (λ e. ok_not_fault first ok (did.fault e)) in
    let same : fails (did.calls ++ more.calls) ≡ fails more.calls = fails-late did.calls more.calls quiet in
    let begins : did.calls ++ more.calls ≡ early ++ more.calls = ap (λ c. c ++ more.calls) (did.whole ok) in (
      record {
        calls = did.calls ++ more.calls;
        went = went_then join did.went more.went;
        part = subst (λ c. IsPartOf c (early ++ late)) (sym begins) (part_of_late early more.calls late more.part);
        whole = λ d. begins ∙ ap (λ c. early ++ c) (more.whole d);
        failed = λ f. same ∙ more.failed f;
        fault = λ e. more.fault (sym same ∙ e);
        ends = ends-append did.calls more.calls quiet more.ends;
      },
      begins,
    )
