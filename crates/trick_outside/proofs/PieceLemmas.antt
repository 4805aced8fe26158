-- Bytes that are put piece after piece.
use Rattle.std.proofs.Common.{◌≡◌, ℕ, ◌+◌, ◌-◌, ◌≤◌, List, [], ◌∷◌, ◌++◌, Bool, true, false, ◌||◌, length, take, drop, refl, sym, ◌∙◌, ap, subst, Some, append_assoc, append-nil, arith, length-drop}
use Rattle.std.proofs.Math.Bool.{or-false, or_assoc}
use Rattle.std.proofs.Math.Seq.{take-add}
use Rattle.std.proofs.lemmas.List.{drop-drop, take_all}
use Rattle.std.specs.Prelude.{Option}
use Rattle.trick_outside.proofs.CallLemmas.{cause_of_part}
use Rattle.trick_outside.specs.Causes.{HasCause}
use Rattle.trick_outside.specs.Pieces.{Failed, OutOfMemory, Piece, Pieces, Took, fails, is_fault, stops, taken_of}
use Rattle.trick_outside.specs.Puts.{ArePiecesOf, Puts}
use Rattle.trick_outside.specs.declared.print.Printed.TheVariants as printed
use Rattle.trick_outside.specs.declared.print.Printed.{Printed}
use Rattle.trick_outside.specs.declared.sink.Sink.{Ghosts}

-- the law `called_join` of a sink
abbrev pub Joins : {O : Type 0} → Ghosts O → Type 0
Joins {O = O} sink = (first second third : O) (early late : List Piece) → sink.called first early second → sink.called second late third → sink.called first (early ++ late) third

fails-append : (early late : List Piece) → fails (early ++ late) ≡ (fails early || fails late)
fails-append [] late = refl
fails-append (piece ∷ early) late = ap (λ b. is_fault piece || b) (fails-append early late) ∙ sym (or_assoc (is_fault piece) (fails early) (fails late))

taken-append : (early late : List Piece) → taken_of (early ++ late) ≡ taken_of early ++ taken_of late
taken-append [] late = refl
taken-append (Took piece count ∷ early) late = ap (λ b. take count piece ++ b) (taken-append early late) ∙ sym (append_assoc (take count piece) (taken_of early) (taken_of late))
taken-append (Failed piece ∷ early) late = taken-append early late
taken-append (OutOfMemory piece ∷ early) late = taken-append early late

pub pieces_then : {old mid new : Option (List ℕ)} {before then now : ℕ} {early late : List Piece} → Pieces old mid before then early → Pieces mid new then now late → Pieces old new before now (early ++ late)
pieces_then {before = before} {then = then} {now = now} {early = early} {late = late} first more = record {
  cause = subst (λ b. HasCause before now (b ≡ true)) (sym (fails-append early late)) (cause_of_part (fails early) (fails late) before then now first.cause more.cause);
  left = λ bytes e. more.left (bytes ++ taken_of early) (first.left bytes e) ∙ ap Some (append_assoc bytes (taken_of early) (taken_of late) ∙ ap (λ t. bytes ++ t) (sym (taken-append early late)));
}

-- the pieces so far: all taken, the first `at` bytes in all
abbrev pub AllTook : List Piece → ℕ → List ℕ → Type 0
AllTook [] at bytes = at ≡ 0
AllTook (Took piece count ∷ pieces) at bytes = (piece ≡ bytes) × (count ≤ at) × AllTook pieces (at - count) (drop count bytes)
AllTook (Failed piece ∷ pieces) at bytes = ⊥
AllTook (OutOfMemory piece ∷ pieces) at bytes = ⊥

none_failed : (pieces : List Piece) (at : ℕ) (bytes : List ℕ) → AllTook pieces at bytes → fails pieces ≡ false
none_failed [] at bytes all = refl
none_failed (Took piece count ∷ pieces) at bytes all = none_failed pieces (at - count) (drop count bytes) all.2
none_failed (Failed piece ∷ pieces) at bytes all = absurd all
none_failed (OutOfMemory piece ∷ pieces) at bytes all = absurd all

fails-then : (pieces : List Piece) (last : Piece) (at : ℕ) (bytes : List ℕ) → AllTook pieces at bytes → fails (pieces ++ last ∷ []) ≡ is_fault last
fails-then pieces last at bytes all = fails-append pieces (last ∷ []) ∙ ap (λ b. b || fails (last ∷ [])) (none_failed pieces at bytes all) ∙ or-false (is_fault last)

dropped : (n at : ℕ) (bytes : List ℕ) → n ≤ at → drop (at - n) (drop n bytes) ≡ drop at bytes
dropped n at bytes less = drop-drop (at - n) n bytes ∙ ap (λ k. drop k bytes) (omega arith)

-- one more is taken, of what is left
all_took-more : (pieces : List Piece) (at count : ℕ) (bytes : List ℕ) → AllTook pieces at bytes → AllTook (pieces ++ Took (drop at bytes) count ∷ []) (at + count) bytes
all_took-more [] at count bytes all = subst (λ n. AllTook (Took (drop n bytes) count ∷ []) (n + count) bytes) (sym all) (refl, omega arith, omega arith)
all_took-more (Took piece n ∷ pieces) at count bytes all =
    let later = all_took-more pieces (at - n) count (drop n bytes) all.2 in (
      all.0,
      omega (arith, all.1),
      subst (λ k. AllTook (pieces ++ Took (drop at bytes) count ∷ []) k (drop n bytes)) (minus-more n at count all.1)
          (subst (λ d. AllTook (pieces ++ Took d count ∷ []) ((at - n) + count) (drop n bytes)) (dropped n at bytes all.1) later),
    )
  where
    minus-more : (n at count : ℕ) → n ≤ at → (at - n) + count ≡ (at + count) - n
    minus-more n at count less = omega arith
all_took-more (Failed piece ∷ pieces) at count bytes all = absurd all
all_took-more (OutOfMemory piece ∷ pieces) at count bytes all = absurd all

are_pieces : (pieces : List Piece) (at : ℕ) (bytes : List ℕ) → AllTook pieces at bytes → ArePiecesOf bytes pieces
are_pieces [] at bytes all = tt
are_pieces (Took piece count ∷ pieces) at bytes all = (all.0, are_pieces pieces (at - count) (drop count bytes) all.2)
are_pieces (Failed piece ∷ pieces) at bytes all = absurd all
are_pieces (OutOfMemory piece ∷ pieces) at bytes all = absurd all

-- a piece of which nothing is taken, and what is then answered
abbrev pub stopped_at : Bool → List ℕ → Piece
stopped_at true piece = Failed piece
stopped_at false piece = OutOfMemory piece

abbrev pub stop_answer : Bool → Printed
stop_answer true = printed.Failed
stop_answer false = printed.OutOfMemory

stops-then : (pieces : List Piece) (fault : Bool) (piece : List ℕ) → stops (pieces ++ stopped_at fault piece ∷ []) ≡ true
stops-then [] true piece = refl
stops-then [] false piece = refl
stops-then (Took first count ∷ pieces) fault piece = stops-then pieces fault piece
stops-then (Failed first ∷ pieces) fault piece = refl
stops-then (OutOfMemory first ∷ pieces) fault piece = refl

last_piece : (fault : Bool) (piece bytes : List ℕ) → piece ≡ bytes → ArePiecesOf bytes (stopped_at fault piece ∷ [])
last_piece true piece bytes is = (is, refl)
last_piece false piece bytes is = (is, refl)

are_pieces-stop : (pieces : List Piece) (at : ℕ) (bytes : List ℕ) (fault : Bool) → AllTook pieces at bytes → ArePiecesOf bytes (pieces ++ stopped_at fault (drop at bytes) ∷ [])
are_pieces-stop [] at bytes fault all = last_piece fault (drop at bytes) bytes (ap (λ n. drop n bytes) all)
are_pieces-stop (Took piece n ∷ pieces) at bytes fault all =
    let later = are_pieces-stop pieces (at - n) (drop n bytes) fault all.2 in
    (all.0, subst (λ d. ArePiecesOf (drop n bytes) (pieces ++ stopped_at fault d ∷ [])) (dropped n at bytes all.1) later)
are_pieces-stop (Failed piece ∷ pieces) at bytes fault all = absurd all
are_pieces-stop (OutOfMemory piece ∷ pieces) at bytes fault all = absurd all

-- the first `at` bytes were taken
pub record IsPutting {O : Type 0} (sink : Ghosts O) (old new : O) (bytes : List ℕ) (at : ℕ) (pieces : List Piece) : Type 0 where
  pub told : sink.called old pieces new
  pub went : Pieces (sink.holds old) (sink.holds new) (sink.failures old) (sink.failures new) pieces
  pub all : AllTook pieces at bytes
  pub taken : taken_of pieces ≡ take at bytes
  pub within : at ≤ length bytes

pub putting_none : {O : Type 0} {sink : Ghosts O} (o : O) (bytes : List ℕ) → sink.called o [] o → IsPutting sink o o bytes 0 []
putting_none o bytes none = record {
  told = none;
  went = record { cause = record { later = omega arith; failed = λ e. cc }; left = λ held e. e ∙ ap Some (sym (append-nil held)) };
  all = refl;
  taken = refl;
  within = omega arith;
}

pub putting_more : {O : Type 0} {sink : Ghosts O} {old mid new : O} {bytes : List ℕ} {at : ℕ} {pieces : List Piece} (piece : List ℕ) (count : ℕ) → Joins sink → IsPutting sink old mid bytes at pieces
    → piece ≡ drop at bytes → count ≤ length piece → sink.called mid (Took piece count ∷ []) new
    → Pieces (sink.holds mid) (sink.holds new) (sink.failures mid) (sink.failures new) (Took piece count ∷ [])
    → IsPutting sink old new bytes (at + count) (pieces ++ Took piece count ∷ [])
putting_more {old = old} {mid = mid} {new = new} {bytes = bytes} {at = at} {pieces = pieces} piece count join so is less told went = record {
  told = join old mid new pieces (Took piece count ∷ []) so.told told;
  went = pieces_then so.went went;
  all = subst (λ d. AllTook (pieces ++ Took d count ∷ []) (at + count) bytes) (sym is) (all_took-more pieces at count bytes so.all);
  taken = taken-append pieces (Took piece count ∷ []) ∙ ap (λ t. t ++ (take count piece ++ [])) so.taken ∙ ap (λ t. take at bytes ++ t) (append-nil (take count piece) ∙ ap (take count) is) ∙ sym (take-add at count bytes);
  within = (let w = so.within in let long : length piece ≡ length bytes - at = ap length is ∙ length-drop at bytes in omega arith);
}

-- all of them were taken
pub puts_all : {O : Type 0} {sink : Ghosts O} {old new : O} {bytes : List ℕ} {at : ℕ} {pieces : List Piece} → IsPutting sink old new bytes at pieces → length bytes ≤ at
    → Puts sink old new printed.Done bytes
puts_all {bytes = bytes} {at = at} {pieces = pieces} so all = record {
  pieces = pieces;
  told = so.told;
  went = so.went;
  are = are_pieces pieces at bytes so.all;
  whole = λ d. so.taken ∙ take_all at bytes all;
  stopped = λ never. absurd (never refl);
  failed = λ e. cc;
  fault = λ e. (let n = none_failed pieces at bytes so.all in cc);
}

-- the sink took nothing of the next piece
pub puts_stop : {O : Type 0} {sink : Ghosts O} {old mid new : O} {bytes : List ℕ} {at : ℕ} {pieces : List Piece} (fault : Bool) (piece : List ℕ) → Joins sink → IsPutting sink old mid bytes at pieces
    → piece ≡ drop at bytes → sink.called mid (stopped_at fault piece ∷ []) new → Pieces (sink.holds mid) (sink.holds new) (sink.failures mid) (sink.failures new) (stopped_at fault piece ∷ [])
    → Puts sink old new (stop_answer fault) bytes
puts_stop {old = old} {mid = mid} {new = new} {bytes = bytes} {at = at} {pieces = pieces} fault piece join so is told went =
    let last = fails-then pieces (stopped_at fault piece) at bytes so.all in
    record {
      pieces = pieces ++ stopped_at fault piece ∷ [];
      told = join old mid new pieces (stopped_at fault piece ∷ []) so.told told;
      went = pieces_then so.went went;
      are = subst (λ d. ArePiecesOf bytes (pieces ++ stopped_at fault d ∷ [])) (sym is) (are_pieces-stop pieces at bytes fault so.all);
      whole = λ d. absurd (not_done fault d);
      stopped = λ never. stops-then pieces fault piece;
      failed = λ e. last ∙ is_failed fault e;
      fault = λ e. back fault (sym last ∙ e);
    }
  where
    not_done : (fault : Bool) → stop_answer fault ≡ printed.Done → ⊥
    not_done true e = cc
    not_done false e = cc

    is_failed : (fault : Bool) → stop_answer fault ≡ printed.Failed → is_fault (stopped_at fault piece) ≡ true
    is_failed true e = refl
    is_failed false e = cc

    back : (fault : Bool) → is_fault (stopped_at fault piece) ≡ true → stop_answer fault ≡ printed.Failed
    back true e = refl
    back false e = cc
