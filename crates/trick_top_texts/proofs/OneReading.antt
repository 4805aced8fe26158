-- An input has one list of lines, or one refusal.
use Rattle.std.proofs.Common.{◌≡◌, ℕ, List, Option, Result, Ok, Err, inl, inr, refl, sym, subst}
use Rattle.std.specs.Global.{Global}
use Rattle.std.specs.declared.vec.Vec.{Vec}
use Rattle.trick_input.specs.Answers.{Answers, IsInput, Refuses, fault_of_text}
use Rattle.trick_input.specs.Lines.{Calls, calls_of, lines}
use Rattle.trick_input.specs.declared.call.Call.{Call}
use Rattle.trick_input.specs.declared.fault.InputFault.{InputFault}
use Rattle.trick_input.specs.declared.fault.InputFault.TheVariants as faults
use Rattle.trick_top_texts.proofs.Uncut.{cut_and_uncut, uncut_once}
use Rattle.trick_top_texts.specs.Readings.{HasOneReading}
use Rattle.trick_text.proofs.Unique.{one_cut}
use Rattle.trick_text.specs.Tokens.{IsCut, IsUncut}
use Rattle.trick_text.specs.declared.fault.FirstFault.{FirstFault}
use Rattle.trick_text.specs.declared.fault.TextFault.{TextFault}
use Rattle.trick_text.specs.declared.fault.TextFault.TheVariants as texts
use Rattle.trick_text.specs.declared.token.Style.TheVariants as style
use Rattle.trick_text.specs.declared.token.Token.{Token}

-- a refusal but a want of memory
refuses_by : (reading : Calls) (fault : InputFault) → (fault ≡ faults.OutOfMemory → ⊥) → Refuses reading fault
    → reading ≡ Err fault
refuses_by reading faults.OutOfMemory known refuses = absurd (known refl)
refuses_by reading fault known refuses = refuses

not_both : (reading : Calls) (calls : List Call) (fault : InputFault) → reading ≡ Ok calls → reading ≡ Err fault → ⊥
not_both reading calls fault a b = cc (a, b)

read_or_refused : (reading : Calls) (calls : List Call) (fault : InputFault) → reading ≡ Ok calls
    → Refuses reading fault → fault ≡ faults.OutOfMemory
read_or_refused reading calls faults.OutOfMemory read refuses = refl
read_or_refused reading calls fault read refuses = absurd (not_both reading calls _ read refuses)

same_lines : (reading : Calls) (calls other : List Call) → reading ≡ Ok calls → reading ≡ Ok other → calls ≡ other
same_lines reading calls other a b = cc (a, b)

same_fault : (reading : Calls) (fault other : InputFault) → reading ≡ Err fault → reading ≡ Err other → fault ≡ other
same_fault reading fault other a b = cc (a, b)

no_lines : (calls : Vec Call Global) (fault : InputFault) (answer : Result (Vec Call Global) InputFault)
    → answer ≡ Ok calls → answer ≡ Err fault → ⊥
no_lines calls fault answer a b = cc (a, b)

by_fault : (fault other : InputFault) (answer : Result (Vec Call Global) InputFault)
    → answer ≡ Err fault → answer ≡ Err other → fault ≡ other
by_fault fault other answer a b = cc (a, b)

-- a fault of the text alone is a want of memory as it is
of_memory : (fault : TextFault) → fault ≡ texts.OutOfMemory → fault_of_text fault ≡ faults.OutOfMemory
of_memory fault is = subst (λ f. fault_of_text f ≡ faults.OutOfMemory) (sym is) refl

known_text : (fault : TextFault) (told : InputFault) → told ≡ fault_of_text fault → (told ≡ faults.OutOfMemory → ⊥)
    → fault ≡ texts.OutOfMemory → ⊥
known_text fault told same known is = let e = of_memory fault is in known (cc (same, e))

module _ (text : List ℕ) where
  -- two answers by lines are of one reading
  other_lines : (answer : Result (Vec Call Global) InputFault) (ts us : List Token) (f g : Option FirstFault)
      → IsCut style.Input text ts f → IsCut style.Input text us g → Answers (calls_of text g (lines us)) answer
      → Answers (calls_of text f (lines ts)) answer
  other_lines answer ts us f g p q has =
      let same = one_cut style.Input text ts us f g p q in
      subst (λ h. Answers (calls_of text h (lines ts)) answer) (sym same.1)
      (subst (λ vs. Answers (calls_of text g (lines vs)) answer) (sym same.0) has)

  -- where the text is cut, a fault of the whole is a want of memory
  whole : (ts : List Token) (f : Option FirstFault) → IsCut style.Input text ts f → (fault : TextFault)
      → IsUncut text fault → (told : InputFault) → told ≡ fault_of_text fault → told ≡ faults.OutOfMemory
  whole ts f cut fault uncut told same =
      let e = of_memory fault (cut_and_uncut style.Input text ts f fault cut uncut) in cc (same, e)

  one_list : (calls other : Vec Call Global) → IsInput text (Ok calls) → IsInput text (Ok other)
      → calls.items ≡ other.items
  one_list calls other (inl a) (inl b) =
      same_lines _ calls.items other.items a.3 (other_lines (Ok other) a.0 b.0 a.1 b.1 a.2 b.2 b.3)
  one_list calls other (inr a) b = absurd (no_lines calls _ (Ok calls) refl a.2)
  one_list calls other (inl a) (inr b) = absurd (no_lines other _ (Ok other) refl b.2)

  read : (calls : Vec Call Global) (fault : InputFault) → IsInput text (Ok calls) → IsInput text (Err fault)
      → fault ≡ faults.OutOfMemory
  read calls fault (inl a) (inl b) =
      read_or_refused _ calls.items fault a.3 (other_lines (Err fault) a.0 b.0 a.1 b.1 a.2 b.2 b.3)
  read calls fault (inl a) (inr b) =
      whole a.0 a.1 a.2 b.0 b.1 fault (by_fault fault _ (Err fault) refl b.2)
  read calls fault (inr a) b = absurd (no_lines calls _ (Ok calls) refl a.2)

  one_fault : (fault other : InputFault) → (fault ≡ faults.OutOfMemory → ⊥) → (other ≡ faults.OutOfMemory → ⊥)
      → IsInput text (Err fault) → IsInput text (Err other) → fault ≡ other
  one_fault fault other x y (inl a) (inl b) = same_fault _ fault other
      (refuses_by _ fault x a.3)
      (refuses_by _ other y (other_lines (Err other) a.0 b.0 a.1 b.1 a.2 b.2 b.3))
  one_fault fault other x y (inl a) (inr b) =
      absurd (y (whole a.0 a.1 a.2 b.0 b.1 other (by_fault other _ (Err other) refl b.2)))
  one_fault fault other x y (inr a) (inl b) =
      absurd (x (whole b.0 b.1 b.2 a.0 a.1 fault (by_fault fault _ (Err fault) refl a.2)))
  one_fault fault other x y (inr a) (inr b) =
      let p : fault ≡ fault_of_text a.0 = by_fault fault _ (Err fault) refl a.2 in
      let q : other ≡ fault_of_text b.0 = by_fault other _ (Err other) refl b.2 in
      let same = uncut_once text a.0 b.0 (known_text a.0 fault p x) (known_text b.0 other q y) a.1 b.1 in
      cc (p, q, same)

  pub one_reading : HasOneReading text
  one_reading = record { lines = one_list; read = read; refused = one_fault }
