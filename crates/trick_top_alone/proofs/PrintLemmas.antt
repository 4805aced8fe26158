-- How a verdict is printed.
use Rattle.std.proofs.Common.{◌≡◌, ◌≢◌, ◌++◌, ℕ, zero, suc, List, inl, inr, refl, sym, ◌∙◌, ap, Some, arith, true}
use Rattle.std.specs.Prelude.{◌⊎◌}
use Rattle.trick_outside.specs.Pieces.{Piece, Pieces, fails, stops}
use Rattle.trick_outside.specs.Puts.{ArePiecesOf}
use Rattle.trick_outside.specs.declared.sink.Sink.{Ghosts}
use Rattle.trick_top_alone.specs.Printed.{Prints, cut_off, no_line, not_printed, printed}
use Rattle.trick_top_alone.specs.Status.{EndsWith, TookLine}
use Rattle.trick_top_alone.specs.Verdict.{Ended, Generated, Served, ShelfFault, Verdict, ended_status, is_made, line_of, status_of}

-- a run that came to its end has status 0 or 4
pub not_ended : (faults due : ℕ) → due ≢ 0 → due ≢ 4 → ended_status faults ≡ due → ⊥
not_ended zero due none four e = none (sym e)
not_ended (suc faults) due none four e = four (sym e)

-- no verdict has status 8
no_eight : (verdict : Verdict) → status_of verdict ≡ 8 → ⊥
no_eight (Ended ended sessions) e = not_ended ended.faults 8 (λ e. omega (arith, e)) (λ e. omega (arith, e)) e
no_eight (Generated objects ended sessions) e = not_ended ended.faults 8 (λ e. omega (arith, e)) (λ e. omega (arith, e)) e
no_eight (Served ended sessions door_failed) e = not_ended ended.faults 8 (λ e. omega (arith, e)) (λ e. omega (arith, e)) e
no_eight verdict e = omega arith

-- what was given to the sink, and what the status is
pub record Given {O : Type 0} (sink : Ghosts O) (old new : O) (verdict : Verdict) (status : ℕ) : Type 0 where
  pub shown : Verdict
  pub pieces : List Piece
  pub told : sink.called old pieces new
  pub took : Pieces (sink.holds old) (sink.holds new) (sink.failures old) (sink.failures new) pieces
  pub one_line : ArePiecesOf (line_of shown) pieces
  pub failed : status ≡ 8 → fails pieces ≡ true
  pub fault : fails pieces ≡ true → status ≡ 8
  pub shelf_fault : verdict ≡ ShelfFault → (status ≡ 5) ⊎ (stops pieces ≡ true)
  pub result : ((status ≡ status_of verdict) × TookLine (sink.holds old) (sink.holds new) (line_of verdict)) ⊎ ((status ≡ 6) ⊎ (status ≡ 8))

pub given : {O : Type 0} {sink : Ghosts O} {old new : O} {verdict : Verdict} {status : ℕ} → Prints sink old new verdict status → Given sink old new verdict status
given {verdict = verdict} (printed puts) = record {
  shown = verdict;
  pieces = puts.pieces;
  told = puts.told;
  took = puts.went;
  one_line = puts.are;
  failed = λ e. absurd (no_eight verdict e);
  fault = λ e. (let not_done = puts.fault e in cc);
  shelf_fault = λ is. inl (ap status_of is);
  result = inl (refl, λ taken e. puts.went.left taken e ∙ ap (λ more. Some (taken ++ more)) (puts.whole refl));
}
given {verdict = verdict} (not_printed puts) = record {
  shown = verdict;
  pieces = puts.pieces;
  told = puts.told;
  took = puts.went;
  one_line = puts.are;
  failed = λ e. puts.failed refl;
  fault = λ e. refl;
  shelf_fault = λ is. inr (puts.stopped (λ e. cc));
  result = inr (inr refl);
}
given {verdict = verdict} (cut_off puts) = record {
  shown = verdict;
  pieces = puts.pieces;
  told = puts.told;
  took = puts.went;
  one_line = puts.are;
  failed = λ e. absurd (omega (arith, e));
  fault = λ e. (let failed = puts.fault e in cc);
  shelf_fault = λ is. inr (puts.stopped (λ e. cc));
  result = inr (inl refl);
}
given (no_line made prints) =
    let so = given prints in
    record {
      shown = so.shown;
      pieces = so.pieces;
      told = so.told;
      took = so.took;
      one_line = so.one_line;
      failed = so.failed;
      fault = so.fault;
      shelf_fault = λ is. (let not_made = sym (ap is_made is) ∙ made in cc);
      result = inr (elim so.result [ inl both ↦ inl both.0 | inr other ↦ other ]);
    }

-- any status but 6 and 8 is the verdict's, and its line was taken
pub decided : {O : Type 0} {sink : Ghosts O} {old new : O} {verdict : Verdict} {status : ℕ} → Given sink old new verdict status → (due : ℕ) → status ≡ due → due ≢ 6 → due ≢ 8
    → (status_of verdict ≡ due) × TookLine (sink.holds old) (sink.holds new) (line_of verdict)
decided so due is six eight = elim so.result [
  | inl both ↦ (sym both.0 ∙ is, both.1)
  | inr (inl same) ↦ absurd (six (sym is ∙ same))
  | inr (inr same) ↦ absurd (eight (sym is ∙ same))
]

-- the status is the one that is due, unless there was no memory or the sink failed
pub ends_with : {O : Type 0} {sink : Ghosts O} {old new : O} {verdict : Verdict} {status : ℕ} → Given sink old new verdict status → (due : ℕ)
    → (status_of verdict ≡ due) ⊎ (status_of verdict ≡ 6) → EndsWith status due
ends_with so due is = elim so.result [
  | inl both ↦ elim is [ inl one ↦ inl (both.0 ∙ one) | inr none ↦ inr (inl (both.0 ∙ none)) ]
  | inr other ↦ inr other
]
