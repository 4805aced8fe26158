-- What a reader in code returns, beside what the codes tell.
use Rattle.std.proofs.Common.{Bor}
use Rattle.std.specs.Prelude.{◌≡◌, ◌≢◌, ℕ, List, [], length, map, Option, Some, None, Result, Ok, Err}
use Rattle.trick_codes.specs.Lines.{Halt, cut, wrong}
use Rattle.trick_codes.specs.Loads.{front_of, line_behind}
use Rattle.trick_codes.specs.declared.kind.Kind.TheVariants.{BadLine, WrongPlan, OutOfRange}
use Rattle.trick_codes.specs.declared.load_fault.LoadFault.{LoadFault}
use Rattle.trick_codes.specs.declared.load_fault.LoadFault.TheVariants as fault
use Rattle.trick_codes.specs.declared.miss.Miss.{Miss}
use Rattle.trick_codes.specs.declared.stop.LineStop.{LineStop}
use Rattle.trick_codes.specs.declared.stop.LineStop.TheVariants.{Memory, Cut, Wrong}

-- the rest after a text with no value of its own
abbrev pub alone : Bor (List ℕ) → Unit {0} × List ℕ
alone rest = (tt, rest.now)

-- a value, and the rest after its text
abbrev pub beside : {A : Type 0} → A × Bor (List ℕ) → A × List ℕ
beside x = (x.0, x.1.now)

-- a reader within a line gives what the code tells, both ways
abbrev pub Reads : {X Y : Type 0} → (X → Y) → Result X Miss → Result Y Miss → Type 0
Reads view (Ok x) told = told ≡ Ok (view x)
Reads view (Err e) told = told ≡ Err e

-- a reader of lines stopped where the lines say so, or memory ran out
abbrev pub Stops : {Y : Type 0} → LineStop → Result Y Halt → Type 0
Stops Memory seen = Unit {0}
Stops Cut seen = seen ≡ Err cut
Stops (Wrong kind rest) seen = seen ≡ Err (wrong kind rest.now)

-- a reader of lines gives what the lines tell, both ways, or memory ran out
abbrev pub Gives : {X Y : Type 0} → (X → Y) → Result X LineStop → Result Y Halt → Type 0
Gives view (Ok x) seen = seen ≡ Ok (view x)
Gives view (Err e) seen = Stops e seen

-- what stands after a word in code
abbrev pub IsBehind : Option (Bor (List ℕ)) → Option (List ℕ) → Type 0
IsBehind None q = q ≡ None
IsBehind (Some rest) q = q ≡ Some (rest.now)

-- the bytes of words in code
abbrev pub bytes_of : List (Bor (List ℕ)) → List (List ℕ)
bytes_of words = map (λ (w : Bor (List ℕ)). w.now) words

-- the refusal of a text at which reading stopped so
abbrev pub fault_of : List ℕ → LineStop → LoadFault
fault_of ts Memory = fault.OutOfMemory
fault_of ts Cut = fault.Truncated (length ts)
fault_of ts (Wrong BadLine rest) = fault.BadLine (line_behind (front_of ts (rest.now)))
fault_of ts (Wrong WrongPlan rest) = fault.WrongPlan (line_behind (front_of ts (rest.now)))
fault_of ts (Wrong OutOfRange rest) = fault.OutOfRange (line_behind (front_of ts (rest.now)))

-- the answer for a whole text: what was read from its front is all of it, or it is refused
abbrev pub Concludes : {X : Type 0} → List ℕ → Result (X × Bor (List ℕ)) LineStop → Result X LoadFault → Type 0
Concludes ts (Ok p) (Ok x) = (x ≡ p.0) × (p.1.now ≡ [])
Concludes ts (Ok p) (Err e) = (e ≡ fault.Trailing (length (front_of ts (p.1.now)))) × (p.1.now ≢ [])
Concludes ts (Err stop) (Ok x) = ⊥
Concludes ts (Err stop) (Err e) = e ≡ fault_of ts stop
