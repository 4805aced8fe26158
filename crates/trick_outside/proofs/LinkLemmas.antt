-- What links gave and took, call after call.
use Rattle.std.proofs.Common.{◌≡◌, ◌≤◌, ◌+◌, ◌-◌, ℕ, List, [], ◌++◌, length, take, drop, Some, refl, sym, ap, ◌∙◌, subst, append_assoc, append-nil, arith, length-drop, take-append-drop}
use Rattle.std.proofs.Math.Seq.{take-length}
use Rattle.std.proofs.lemmas.List.{drop-drop, length-take-le, take-append-le, take_all}
use Rattle.std.specs.Option.{unwrap_or}
use Rattle.std.specs.Prelude.{Option}
use Rattle.trick_outside.specs.Links.{Gave, Took}

-- a call that gives nothing
pub gave_none : (old : Option (List ℕ)) → Gave old old []
gave_none old = record { left = λ all e. (all, e, refl) }

-- bytes that are given one after another are given
pub gave_then : (old mid new : Option (List ℕ)) (early late : List ℕ) → Gave old mid early → Gave mid new late → Gave old new (early ++ late)
gave_then old mid new early late one two = record {
  left = λ all e. (let first = one.left all e in let then = two.left first.0 first.1 in
      (then.0, then.1, first.2 ∙ ap (λ bytes. early ++ bytes) then.2 ∙ sym (append_assoc early late then.0)));
}

-- a call that takes nothing
pub took_none : (old : Option (List ℕ)) → Took old old []
took_none old = record { more = λ all e. e ∙ ap Some (sym (append-nil all)) }

-- bytes that are taken one after another are taken
pub took_then : (old mid new : Option (List ℕ)) (early late : List ℕ) → Took old mid early → Took mid new late → Took old new (early ++ late)
took_then old mid new early late one two = record { more = λ all e. two.more (all ++ early) (one.more all e) ∙ ap Some (append_assoc all early late) }

some_is : {one other : List ℕ} → Some one ≡ Some other → one ≡ other
some_is e = ap (λ told. unwrap_or told []) e

-- the next bytes of a script that stand at the front of a buffer are given
pub gave_piece : (count at : ℕ) (bytes slice piece tail : List ℕ) → slice ≡ bytes → count ≤ length (take (length slice - at) (drop at slice))
    → piece ≡ take count (take (length slice - at) (drop at slice)) → Gave (Some (drop at bytes)) (Some (drop (at + count) bytes)) (take count (piece ++ tail))
gave_piece count at bytes slice piece tail same within cut =
    let rest : take (length slice - at) (drop at slice) ≡ drop at bytes = take_all _ _ (omega (arith, length-drop at slice)) ∙ ap (λ l. drop at l) same in
    let less : count ≤ length (drop at bytes) = subst (λ l. count ≤ length l) rest within in
    let is : piece ≡ take count (drop at bytes) = cut ∙ ap (λ l. take count l) rest in
    let long : length piece ≡ count = ap length is ∙ length-take-le count (drop at bytes) less in
    let front : take count (piece ++ tail) ≡ piece = take-append-le count piece tail (omega (arith, long)) ∙ ap (λ n. take n piece) (sym long) ∙ take-length piece in
    record {
      left = λ all e. (
        drop (at + count) bytes,
        refl,
        sym (some_is e) ∙ sym (take-append-drop count (drop at bytes)) ∙ (λ k. sym (front ∙ is) k ++ drop-drop count at bytes k),
      );
    }
