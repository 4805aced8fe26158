-- The answer for a whole text is exact.
use Rattle.std.proofs.Common.{Bor, ℕ, List, Result, Ok, Err, refl, sym, subst}
use Rattle.trick_codes.proofs.Lines.{cut_off, refused_at, read_all, read_more}
use Rattle.trick_codes.specs.Gives.{Gives, Stops, Concludes, fault_of}
use Rattle.trick_codes.specs.Lines.{Lines, SoundLines, read_lines}
use Rattle.trick_codes.specs.Loads.{Loads, Refuses}
use Rattle.trick_codes.specs.declared.kind.Kind.TheVariants.{BadLine, WrongPlan, OutOfRange}
use Rattle.trick_codes.specs.declared.load_fault.LoadFault.{LoadFault}
use Rattle.trick_codes.specs.declared.stop.LineStop.{LineStop}
use Rattle.trick_codes.specs.declared.stop.LineStop.TheVariants.{Memory, Cut, Wrong}

module _ {A : Type 0} (c : Lines A) (sound : SoundLines c) (ts : List ℕ) where
  pub refuses : (stop : LineStop) → Stops stop (read_lines c ts) → Refuses c ts (fault_of ts stop)
  refuses Memory s = tt
  refuses Cut s = (refl, cut_off c sound ts s)
  refuses (Wrong BadLine rest) s = refused_at c sound ts BadLine (rest.now) s
  refuses (Wrong WrongPlan rest) s = refused_at c sound ts WrongPlan (rest.now) s
  refuses (Wrong OutOfRange rest) s = refused_at c sound ts OutOfRange (rest.now) s

  -- what a reader of the lines gives at the front of a text is an exact answer for the text
  pub loads : {X : Type 0} (view : X → A) (read : Result (X × Bor (List ℕ)) LineStop) (answer : Result X LoadFault) → Gives (λ x. (view x.0, x.1.now)) read (read_lines c ts) → Concludes ts read answer → Loads view c ts answer
  loads view (Ok p) (Ok x) g h = let r = read_all c sound ts (view p.0) (p.1.now) g h.1 in subst (λ y. Loads view c ts (Ok y)) (sym h.0) r
  loads view (Ok p) (Err e) g h = subst (Refuses c ts) (sym h.0) (read_more c sound ts (view p.0) (p.1.now) g h.1)
  loads view (Err stop) (Ok x) g h = absurd h
  loads view (Err stop) (Err e) g h = subst (Refuses c ts) (sym h) (refuses stop g)
