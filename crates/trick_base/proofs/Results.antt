-- What a result says, where something is known of it.
use Rattle.std.proofs.Common.{◌≡◌, Result, Ok, Err, IsOk, IfOk, OnOk}

-- what follows from what holds where all went well
pub on_ok : {A E P Q : Type 0} (r : Result A E) → (P → Q) → OnOk r P → OnOk r Q
on_ok (Ok a) f h = f h
on_ok (Err e) f h = tt

-- what holds of an answer, where something holds of it that says so
pub if_ok : {A E : Type 0} {P Q : A → Type 0} (r : Result A E) → ((a : A) → P a → Q a) → IfOk r P → IfOk r Q
if_ok (Ok a) f h = f a h
if_ok (Err e) f h = h

-- an error is no answer
pub not_ok : {A E : Type 0} (r : Result A E) (e : E) → r ≡ Err e → IsOk r → ⊥
not_ok (Ok a) e is ok = cc
not_ok (Err f) e is ok = cc
