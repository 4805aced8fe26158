-- What stands before the rest.
use Rattle.std.proofs.Common.{◌≡◌, ◌-◌, List, ◌++◌, length, take, ap, ◌∙◌, arith, length-append}
use Rattle.std.proofs.Math.Seq.{take-append_seam}

pub front_is : {A : Type 0} (ts front rest : List A) → ts ≡ front ++ rest → take (length ts - length rest) ts ≡ front
front_is ts front rest is =
    let n : length ts - length rest ≡ length front = omega (arith, ap length is, length-append front rest) in
    ap (λ k. take k ts) n ∙ ap (λ (us : List _). take (length front) us) is ∙ take-append_seam front rest
