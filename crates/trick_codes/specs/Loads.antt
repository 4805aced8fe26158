-- What loading a text of lines answers.
use Rattle.std.specs.Prelude.{◌≡◌, ◌≢◌, ℕ, ◌+◌, ◌-◌, List, [], ◌++◌, length, take, ◌==◌, Result, Ok, Err}
use Rattle.std.specs.List.{count_by}
use Rattle.trick_codes.specs.Lines.{Lines, text, Holds, IsPrefix, IsDue, first_line}
use Rattle.trick_codes.specs.declared.kind.Kind.{Kind}
use Rattle.trick_codes.specs.declared.kind.Kind.TheVariants.{BadLine, WrongPlan, OutOfRange}
use Rattle.trick_codes.specs.declared.load_fault.LoadFault.{LoadFault}
use Rattle.trick_codes.specs.declared.load_fault.LoadFault.TheVariants as fault

-- the bytes of a text before this rest of it
abbrev pub front_of : List ℕ → List ℕ → List ℕ
front_of ts rest = take (length ts - length rest) ts

-- the number, from 1, of the line that stands after these bytes
abbrev pub line_behind : List ℕ → ℕ
line_behind front = count_by (λ b. b == 10) front + 1

-- The text is refused at this line, the first at which it stops being a prefix of a value's text: with the lines
-- before it is one, with this line too it is none. The line that is due there says that this one is wrong so.
abbrev pub IsRefusedAt : {A : Type 0} → Lines A → List ℕ → Kind → ℕ → Type 0
IsRefusedAt c ts kind number =
    (front : List ℕ) × (rest : List ℕ) × (ts ≡ front ++ rest) × IsPrefix c front
    × (IsPrefix c (front ++ first_line rest) → ⊥)
    × (number ≡ line_behind front) × (k : List ℕ → Kind) × IsDue c front k × (kind ≡ k (first_line rest))

-- the text is a prefix of a value's text, and no value's text
abbrev pub IsProperPrefix : {A : Type 0} → Lines A → List ℕ → Type 0
IsProperPrefix {A} c ts = IsPrefix c ts × ((x : A) → Holds c x → ts ≡ text c x → ⊥)

-- a value's text, and something after it, at this place
abbrev pub GoesOnBehind : {A : Type 0} → Lines A → List ℕ → ℕ → Type 0
GoesOnBehind {A} c ts at = (x : A) × (rest : List ℕ) × Holds c x × (ts ≡ text c x ++ rest) × (rest ≢ [])
    × (at ≡ length (text c x))

-- why the text is not loaded; where memory ran out, nothing is said of it
abbrev pub Refuses : {A : Type 0} → Lines A → List ℕ → LoadFault → Type 0
Refuses c ts fault.OutOfMemory = Unit {0}
Refuses c ts (fault.BadLine line) = IsRefusedAt c ts BadLine line
Refuses c ts (fault.WrongPlan line) = IsRefusedAt c ts WrongPlan line
Refuses c ts (fault.OutOfRange line) = IsRefusedAt c ts OutOfRange line
Refuses c ts (fault.Truncated at) = (at ≡ length ts) × IsProperPrefix c ts
Refuses c ts (fault.Trailing at) = GoesOnBehind c ts at

-- the value is seen as the one whose text this is, or the text is refused
abbrev pub Loads : {X A : Type 0} → (X → A) → Lines A → List ℕ → Result X LoadFault → Type 0
Loads view c ts (Ok x) = (ts ≡ text c (view x)) × Holds c (view x)
Loads view c ts (Err e) = Refuses c ts e
