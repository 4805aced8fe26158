-- `Does`, one step after another.
use Rattle.std.proofs.Common.{inl, inr, ◌≡◌, List, [], ◌∷◌, ◌++◌, refl, sym, ◌∙◌, ap, subst, Ok, Err, IsOk, false}
use Rattle.std.proofs.lemmas.Bool.{false_from_ne_true}
use Rattle.std.specs.Prelude.{Result, IsErrOf}
use Rattle.trick_base.proofs.Results.{not_ok}
use Rattle.trick_outside.proofs.CallLemmas.{calls_none, calls_then, ends-append, fails-late, part_of_early, part_of_late}
use Rattle.trick_outside.specs.Calls.{Call, Done, Put, Stopped, fails, write_call}
use Rattle.trick_outside.specs.Does.{Does, IsPartOf, Went}
use Rattle.trick_base.specs.Files.{Write}
use Rattle.trick_outside.specs.declared.shelf.Shelf.{Ghosts}
use Rattle.trick_outside.specs.declared.shelf.Wrote.{Wrote}
use Rattle.trick_outside.specs.declared.shelf.Wrote.TheVariants as wrote
use Rattle.trick_outside.specs.declared.stop.Stop.TheVariants.{Shelf}
use Rattle.trick_outside.specs.declared.stop.Stop.{Stop}

-- the law `called_join` of a shelf
abbrev pub Joins : {S : Type 0} → Ghosts S → Type 0
Joins {S = S} shelf = (first second third : S) (early late : List Call) → shelf.called first early second → shelf.called second late third → shelf.called first (early ++ late) third

pub ok_not_fault : {T : Type 0} (result : Result T Stop) → IsOk result → IsErrOf result Shelf → ⊥
ok_not_fault (Ok x) ok is = cc
ok_not_fault (Err f) ok is = cc

-- two results with one error fail with the shelf together
pub handed_on : {T U : Type 0} (first : Result T Stop) (result : Result U Stop) (e f : Stop) → first ≡ Err e → result ≡ Err f → f ≡ e → IsErrOf result Shelf → IsErrOf first Shelf
handed_on first result e f at is same shelf = at ∙ ap Err (sym same ∙ same_error result f Shelf is shelf)
  where
    same_error : {T : Type 0} (result : Result T Stop) (e f : Stop) → result ≡ Err e → result ≡ Err f → e ≡ f
    same_error result e f is at = cc

pub went_none : {S : Type 0} {shelf : Ghosts S} (s : S) → shelf.called s [] s → Went shelf s s []
went_none {shelf = shelf} s none = record { told = none; went = calls_none (shelf.holds s) (shelf.failures s) }

pub went_then : {S : Type 0} {shelf : Ghosts S} {old mid new : S} {early late : List Call} → Joins shelf → Went shelf old mid early → Went shelf mid new late → Went shelf old new (early ++ late)
went_then {old = old} {mid = mid} {new = new} {early = early} {late = late} join first more =
    record { told = join old mid new early late first.told more.told; went = calls_then first.went more.went }

-- nothing was called
pub does_nothing : {S T : Type 0} {shelf : Ghosts S} (s : S) (result : Result T Stop) → shelf.called s [] s → (IsErrOf result Shelf → ⊥) → Does shelf s s result []
does_nothing s result none never = record {
  calls = [];
  went = went_none s none;
  part = tt;
  whole = λ d. refl;
  failed = λ f. absurd (never f);
  fault = λ e. cc;
  ends = tt;
}

-- one write
pub does_put : {S T : Type 0} {shelf : Ghosts S} {old new : S} (result : Result T Stop) (write : Write) (answer : Wrote) → Went shelf old new (write_call write answer ∷ [])
    → (IsOk result → answer ≡ wrote.Done) → (IsErrOf result Shelf → answer ≡ wrote.Failed) → (answer ≡ wrote.Failed → IsErrOf result Shelf) → Does shelf old new result (Done write ∷ [])
does_put result write wrote.Done went ok failed fault = record {
  calls = Done write ∷ [];
  went = went;
  part = inl (refl, tt);
  whole = λ d. refl;
  failed = λ f. absurd (no (failed f));
  fault = λ e. cc;
  ends = (λ e. cc, tt);
}
  where
    no : wrote.Done ≡ wrote.Failed → ⊥
    no e = cc
does_put result write wrote.Failed went ok failed fault = record {
  calls = Stopped (Put write) Shelf ∷ [];
  went = went;
  part = inr (Shelf, refl, refl);
  whole = λ d. absurd (no (ok d));
  failed = λ f. refl;
  fault = λ e. fault refl;
  ends = (λ e. refl, tt);
}
  where
    no : wrote.Failed ≡ wrote.Done → ⊥
    no e = cc
does_put result write wrote.OutOfMemory went ok failed fault = record {
  calls = _ ∷ [];
  went = went;
  part = inr (_, refl, refl);
  whole = λ d. absurd (no (ok d));
  failed = λ f. absurd (nor (failed f));
  fault = λ e. cc;
  ends = (λ e. cc, tt);
}
  where
    no : wrote.OutOfMemory ≡ wrote.Done → ⊥
    no e = cc

    nor : wrote.OutOfMemory ≡ wrote.Failed → ⊥
    nor e = cc

-- it stopped among the first steps
pub does_stop : {S T U : Type 0} {shelf : Ghosts S} {old new : S} {first : Result T Stop} {early : List Call} (result : Result U Stop) (late : List Call)
    → Does shelf old new first early → (IsOk result → ⊥) → (IsErrOf result Shelf → IsErrOf first Shelf) → (IsErrOf first Shelf → IsErrOf result Shelf) → Does shelf old new result (early ++ late)
does_stop {early = early} result late did never there back = record {
  calls = did.calls;
  went = did.went;
  part = part_of_early did.calls early late did.part;
  whole = λ d. absurd (never d);
  failed = λ f. did.failed (there f);
  fault = λ e. back (did.fault e);
  ends = did.ends;
}

-- the first steps were taken, and the others after them
pub does_then : {S T U : Type 0} {shelf : Ghosts S} {old mid new : S} {first : Result T Stop} {result : Result U Stop} {early late : List Call}
    → Joins shelf → Does shelf old mid first early → IsOk first → Does shelf mid new result late → Does shelf old new result (early ++ late)
does_then {first = first} {result = result} {early = early} {late = late} join did ok more =
    let quiet : fails did.calls ≡ false = false_from_ne_true (fails did.calls) (λ e. ok_not_fault first ok (did.fault e)) in
    let same : fails (did.calls ++ more.calls) ≡ fails more.calls = fails-late did.calls more.calls quiet in
    record {
      calls = did.calls ++ more.calls;
      went = went_then join did.went more.went;
      part = subst (λ c. IsPartOf (c ++ more.calls) (early ++ late)) (sym (did.whole ok)) (part_of_late early more.calls late more.part);
      whole = λ d. ap (λ c. c ++ more.calls) (did.whole ok) ∙ ap (λ c. early ++ c) (more.whole d);
      failed = λ f. same ∙ more.failed f;
      fault = λ e. more.fault (sym same ∙ e);
      ends = ends-append did.calls more.calls quiet more.ends;
    }

-- the exit of a `?` at the first steps: the same error, handed on
pub does_err : {S T U : Type 0} {shelf : Ghosts S} {old new : S} {first : Result T Stop} {early : List Call} (result : Result U Stop) (e f : Stop) (late : List Call)
    → Does shelf old new first early → first ≡ Err e → result ≡ Err f → f ≡ e → Does shelf old new result (early ++ late)
does_err {first = first} result e f late did at is same =
    does_stop result late did (not_ok result f is) (handed_on first result e f at is same) (handed_on result first f e is at (sym same))

-- nothing was called, and it is not done, as for want of memory
pub does_none : {S T : Type 0} {shelf : Ghosts S} (s : S) (result : Result T Stop) (steps : List Call)
    → shelf.called s [] s → (IsOk result → ⊥) → (IsErrOf result Shelf → ⊥) → Does shelf s s result steps
does_none s result steps none not_done never = does_stop result steps (does_nothing s result none never) not_done (λ f. f) (λ f. f)

-- the same steps under another result
pub does_as : {S T U : Type 0} {shelf : Ghosts S} {old new : S} {first : Result T Stop} {steps : List Call} (result : Result U Stop)
    → Does shelf old new first steps → (IsOk result → IsOk first) → (IsErrOf result Shelf → IsErrOf first Shelf) → (IsErrOf first Shelf → IsErrOf result Shelf) → Does shelf old new result steps
does_as result did ok there back = record {
  calls = did.calls;
  went = did.went;
  part = did.part;
  whole = λ d. did.whole (ok d);
  failed = λ f. did.failed (there f);
  fault = λ e. back (did.fault e);
  ends = did.ends;
}

pub does_fail : {S T U : Type 0} {shelf : Ghosts S} {old new : S} {first : Result T Stop} {steps : List Call} (result : Result U Stop) (e f : Stop)
    → Does shelf old new first steps → first ≡ Err e → result ≡ Err f → f ≡ e → Does shelf old new result steps
does_fail {first = first} result e f did at is same =
    does_as result did (λ ok. absurd (not_ok result f is ok)) (handed_on first result e f at is same) (handed_on result first f e is at (sym same))

-- nothing was called, since there is nothing to do
pub does_idle : {S T : Type 0} {shelf : Ghosts S} (s : S) (result : Result T Stop) (steps : List Call) → shelf.called s [] s → (IsErrOf result Shelf → ⊥) → steps ≡ [] → Does shelf s s result steps
does_idle {shelf = shelf} s result steps none never is = subst (λ c. Does shelf s s result c) (sym is) (does_nothing s result none never)

-- the same steps, under another value
pub does_ok : {S T U : Type 0} {shelf : Ghosts S} {old new : S} {first : Result T Stop} {steps : List Call} (value : U) → Does shelf old new first steps → IsOk first → Does {T = U} shelf old new (Ok value) steps
does_ok {U = U} {first = first} value did ok =
    let result : Result U Stop = Ok value in
    does_as result did (λ d. ok) (λ f. absurd (ok_not_fault result refl f)) (λ f. absurd (ok_not_fault first ok f))
