-- Calls, one after another.
use Rattle.std.proofs.Common.{◌≡◌, ℕ, List, [], ◌∷◌, ◌++◌, refl, sym, ◌∙◌, ap, subst, Some, Bool, true, false, ◌||◌, arith, inl, inr}
use Rattle.std.proofs.Math.Bool.{or-false, or_assoc}
use Rattle.std.proofs.lemmas.Bool.{or_parts}
use Rattle.std.specs.Prelude.{Option}
use Rattle.trick_base.specs.Files.{Files}
use Rattle.trick_outside.specs.Calls.{AllLeave, Call, Calls, EndAtFault, Leaves, fails, is_fault}
use Rattle.trick_outside.specs.Causes.{HasCause}
use Rattle.trick_outside.specs.Does.{IsPartOf}

pub not_both : (b : Bool) → b ≡ false → b ≡ true → ⊥
not_both b one two = cc

-- a failure in one of two parts of the calls has its cause in that part
pub cause_of_part : (a b : Bool) (before mid now : ℕ) → HasCause before mid (a ≡ true) → HasCause mid now (b ≡ true) → HasCause before now ((a || b) ≡ true)
cause_of_part true b before mid now one two =
    record { later = (let a = one.later in let b = two.later in omega arith); failed = λ e. (let r = one.failed refl in let b = two.later in omega arith) }
cause_of_part false b before mid now one two =
    record { later = (let a = one.later in let b = two.later in omega arith); failed = λ e. (let a = one.later in let r = two.failed e in omega arith) }

pub fails-append : (early late : List Call) → fails (early ++ late) ≡ (fails early || fails late)
fails-append [] late = refl
fails-append (call ∷ early) late = ap (λ b. is_fault call || b) (fails-append early late) ∙ sym (or_assoc (is_fault call) (fails early) (fails late))

-- after calls of which none failed the others decide
pub fails-late : (early late : List Call) → fails early ≡ false → fails (early ++ late) ≡ fails late
fails-late early late none = fails-append early late ∙ ap (λ b. b || fails late) none

pub ends-append : (early late : List Call) → fails early ≡ false → EndAtFault late → EndAtFault (early ++ late)
ends-append [] late none ends = ends
ends-append (call ∷ early) late none ends =
    let parts = or_parts (is_fault call) (fails early) none in
    (λ fault. absurd (not_both (is_fault call) parts.0 fault), ends-append early late parts.1 ends)

pub leave-append : (early late : List Call) (files mid now : Files) → AllLeave early files mid → AllLeave late mid now → AllLeave (early ++ late) files now
leave-append [] late files mid now is more = subst (λ f. AllLeave late f now) is more
leave-append (call ∷ early) late files mid now is more = (is.0, is.1, leave-append early late is.0 mid now is.2 more)

pub calls_none : (held : Option Files) (count : ℕ) → Calls held held count count []
calls_none held count = record { cause = record { later = omega arith; failed = λ e. cc }; left = λ files e. (files, e, refl) }

pub calls_then : {old mid new : Option Files} {before then now : ℕ} {early late : List Call} → Calls old mid before then early → Calls mid new then now late → Calls old new before now (early ++ late)
calls_then {before = before} {then = then} {now = now} {early = early} {late = late} first more = record {
  cause = subst (λ b. HasCause before now (b ≡ true)) (sym (fails-append early late)) (cause_of_part (fails early) (fails late) before then now first.cause more.cause);
  left = λ files e.
      let one = first.left files e in
      let two = more.left one.0 one.1 in
      (two.0, two.1, leave-append early late files one.0 two.0 one.2 two.2);
}

-- one call, of a shelf that tells what it holds
pub told_call : (old new : Files) (before now : ℕ) (call : Call) → HasCause before now (is_fault call ≡ true) → Leaves call old new → Calls (Some old) (Some new) before now (call ∷ [])
told_call old new before now call cause leaves = record {
  cause = subst (λ b. HasCause before now (b ≡ true)) (sym (or-false (is_fault call))) cause;
  left = λ files e. (new, refl, (new, subst (λ f. Leaves call f new) (same_some old files e) leaves, refl));
}
  where
    same_some : (x y : Files) → Some x ≡ Some y → x ≡ y
    same_some x y e = cc

pub part_of_all : (steps : List Call) → IsPartOf steps steps
part_of_all [] = tt
part_of_all (step ∷ steps) = inl (refl, part_of_all steps)

pub part_of_early : (part early late : List Call) → IsPartOf part early → IsPartOf part (early ++ late)
part_of_early [] early late is = tt
part_of_early (call ∷ part) [] late is = absurd is
part_of_early (call ∷ part) (first ∷ early) late (inl is) = inl (is.0, part_of_early part early late is.1)
part_of_early (call ∷ part) (first ∷ early) late (inr is) = inr is

pub part_of_late : (early part late : List Call) → IsPartOf part late → IsPartOf (early ++ part) (early ++ late)
part_of_late [] part late is = is
part_of_late (call ∷ early) part late is = inl (refl, part_of_late early part late is)

-- in a part of steps that do not fail there is no call after one that failed
pub part_ends : (part whole : List Call) → IsPartOf part whole → fails whole ≡ false → EndAtFault part
part_ends [] whole is none = tt
part_ends (call ∷ part) [] is none = absurd is
part_ends (call ∷ part) (first ∷ whole) (inl is) none =
    let parts = or_parts (is_fault first) (fails whole) none in
    (λ fault. absurd (not_both (is_fault first) parts.0 (ap is_fault (sym is.0) ∙ fault)), part_ends part whole is.1 parts.1)
part_ends (call ∷ part) (first ∷ whole) (inr is) none = (λ fault. is.2, subst EndAtFault (sym is.2) tt)
