-- What a writer writes, message after message.
use Rattle.std.proofs.Common.{◌≡◌, ◌≢◌, ◌<◌, ◌≤◌, ◌+◌, ◌-◌, length, length-append, ℕ, Result, Ok, Err, OnErr, OnOk, List, [], ◌∷◌, ◌++◌, Option, take, drop, arith, sym, refl, ap, ◌∙◌, subst, append_assoc, append-nil, take-append-drop, take-add}
use Rattle.std.proofs.lemmas.List.{length-drop}
use Rattle.std.proofs.Math.Seq.{take-length}
use Rattle.trick_outside.specs.Causes.{Rose}
use Rattle.trick_outside.specs.Links.{Took}
use Rattle.trick_outside.proofs.LinkLemmas.{took_then}
use Rattle.trick_wire.specs.Ends.{HasWaiting}
use Rattle.trick_wire.specs.HasWritten.{HasWritten, IsUnwritten, cause_of, text_of}
use Rattle.trick_wire.specs.declared.heard.WriteStop.{WriteStop}
use Rattle.trick_wire.specs.declared.heard.WriteStop.TheVariants.{Closed, LinkFault, OutOfMemory}

pub text_of-append : (early late : List (List ℕ)) → text_of (early ++ late) ≡ text_of early ++ text_of late
text_of-append [] late = refl
text_of-append (message ∷ early) late = ap (λ text. message ++ text) (text_of-append early late) ∙ sym (append_assoc message (text_of early) (text_of late))

-- ---- one message

pub took_more : (old mid new : Option (List ℕ)) (at count : ℕ) (message : List ℕ) → Took old mid (take at message) → Took mid new (take count (take (length message - at) (drop at message))) → Took old new (take (at + count) message)
took_more old mid new at count message before more = subst (λ bytes. Took old new bytes) (sym (take-add at count message)) (took_then old mid new (take at message) (take count (drop at message)) before
    (subst (λ bytes. Took mid new (take count bytes)) (ap (λ n. take n (drop at message)) (sym (length-drop at message)) ∙ take-length (drop at message)) more))

pub rose_later : (first before now : ℕ) → first ≤ before → Rose before now → Rose first now
rose_later first before now less rose = omega arith

-- the link took no more of this message
pub wrote_part : (old mid new : Option (List ℕ)) (first before now : ℕ) (stop : WriteStop) (at : ℕ) (message : List ℕ) → Took old mid (take at message) → first ≤ before → Took mid new [] → before ≤ now
    → IsUnwritten (drop at message) (Rose first now) stop → HasWritten old new first now stop (message ∷ [])
wrote_part old mid new first before now stop at message took less none more unwritten = record {
  part = take at message;
  rest = drop at message;
  text_is = append-nil message ∙ sym (take-append-drop at message);
  took = subst (λ bytes. Took old new bytes) (append-nil (take at message)) (took_then old mid new (take at message) [] took none);
  later = omega arith;
  unwritten = unwritten;
}

-- ---- one message after others

unwritten_later : (rest : List ℕ) (first before now : ℕ) (stop : WriteStop) → first ≤ before → IsUnwritten rest (Rose before now) stop → IsUnwritten rest (Rose first now) stop
unwritten_later rest first before now Closed less unwritten = unwritten
unwritten_later rest first before now LinkFault less unwritten = rose_later first before now less unwritten
unwritten_later rest first before now OutOfMemory less unwritten = unwritten

-- the messages before, and this one up to where it stopped
pub wrote_then : (old mid new : Option (List ℕ)) (first before now : ℕ) (stop : WriteStop) (messages after : List (List ℕ)) (message : List ℕ) → Took old mid (text_of messages) → first ≤ before
    → HasWritten mid new before now stop (message ∷ []) → after ≡ messages ++ message ∷ [] → HasWritten old new first now stop after
wrote_then old mid new first before now stop messages after message took less w is = record {
  part = text_of messages ++ w.part;
  rest = w.rest;
  text_is = ap text_of is ∙ text_of-append messages (message ∷ []) ∙ ap (λ text. text_of messages ++ text) w.text_is ∙ sym (append_assoc (text_of messages) w.part w.rest);
  took = took_then old mid new (text_of messages) w.part took w.took;
  later = (let more = w.later in omega arith);
  unwritten = unwritten_later w.rest first before now stop less w.unwritten;
}

-- all of one message more
pub wrote_more : (old mid new : Option (List ℕ)) (first before now : ℕ) (stop : WriteStop) (messages after : List (List ℕ)) (message : List ℕ) → Took old mid (text_of messages) → first ≤ before
    → HasWritten mid new before now stop (message ∷ []) → stop ≡ Closed → after ≡ messages ++ message ∷ [] → Took old new (text_of after) × (first ≤ now)
unfolding wrote_then
wrote_more old mid new first before now stop messages after message took less w closed is =
    let none : w.rest ≡ [] = subst (λ s. IsUnwritten w.rest (Rose before now) s) closed w.unwritten in let all = wrote_then old mid new first before now stop messages after message took less w is in
    (subst (λ text. Took old new text) (sym (append-nil all.part) ∙ ap (λ text. all.part ++ text) (sym none) ∙ sym all.text_is) all.took, all.later)

-- the link is hung up
pub wrote_hung : (old mid new : Option (List ℕ)) (first before now : ℕ) (stop : WriteStop) (messages : List (List ℕ)) → HasWritten old mid first before stop messages → Took mid new [] → before ≤ now → HasWritten old new first now stop messages
wrote_hung old mid new first before now stop messages w none more = record {
  part = w.part;
  rest = w.rest;
  text_is = w.text_is;
  took = subst (λ bytes. Took old new bytes) (append-nil w.part) (took_then old mid new w.part [] w.took none);
  later = (let less = w.later in omega arith);
  unwritten = unwritten_on stop w.unwritten;
}
  where
    unwritten_on : (s : WriteStop) → IsUnwritten w.rest (Rose first before) s → IsUnwritten w.rest (Rose first now) s
    unwritten_on Closed unwritten = unwritten
    unwritten_on LinkFault unwritten = omega arith
    unwritten_on OutOfMemory unwritten = unwritten

-- ---- the cause of a stop

told_cause : (stop : WriteStop) → stop ≢ Closed → stop ∷ [] ≡ cause_of stop
told_cause Closed other = absurd (other refl)
told_cause LinkFault other = refl
told_cause OutOfMemory other = refl

-- a queue into which nothing was put is not full
not_full : (put : List WriteStop) (room : ℕ) → put ≡ [] → 0 < room → HasWaiting put room → ⊥
not_full put room none some waiting = let counts = ap length (sym waiting.3 ∙ none) in let items = waiting.2 in omega (arith, length-append waiting.0 waiting.1)

pub cause_put : (pushed : Result (Unit {0}) WriteStop) (stop : WriteStop) (old new : List WriteStop) (room : ℕ) → OnOk pushed (new ≡ old ++ stop ∷ []) → OnErr pushed (HasWaiting old room) → 0 < room → stop ≢ Closed → old ≡ [] → new ≡ cause_of stop
cause_put (Ok done) stop old new room put full some other none = put ∙ ap (λ causes. causes ++ stop ∷ []) none ∙ told_cause stop other
cause_put (Err back) stop old new room put full some other none = absurd (not_full old room none some full)
