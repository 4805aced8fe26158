-- Texts of lines as data: each line has a code of its own, and how many lines there are, and which, may depend on
-- the values of earlier ones. After each front of a text one line is due, and it says what is wrong with another
-- line in its place.
use Rattle.std.specs.Prelude.{◌≡◌, ◌⊎◌, ℕ, zero, suc, ◌+◌, Bool, true, ◌&&◌, not, nat_eq, List, [], ◌∷◌, ◌++◌, Result, Ok, Err, if◌then◌else◌}
use Rattle.trick_codes.specs.Code.{Code, literal, sequence, read_as, spell, Fits, read, Sound, Told, ◌>>=◌}
use Rattle.trick_codes.specs.declared.kind.Kind.{Kind}
use Rattle.trick_codes.specs.declared.miss.Miss.TheVariants.{Ends, Differs}

-- A text of lines, of values of a type.
pub data Lines : Type 0 → Type 1 where
  -- no line
  no_line : {A : Type 0} → A → Lines A
  -- a line, without its line feed, and what is wrong with another line in its place
  line : {A : Type 0} → (List ℕ → Kind) → Code A → Lines A
  -- lines, and those after them, which may depend on their value
  and_then : {A B : Type 0} → Lines A → (A → Lines B) → Lines (A × B)
  -- the same texts for other values: what is read goes through the first function, what has a
  -- text through the second
  seen_as : {A B : Type 0} → (A → B) → (B → A) → Lines A → Lines B

-- the text of a value
abbrev pub text : {A : Type 0} → Lines A → A → List ℕ
text (no_line y) x = []
text (line k c) x = spell c x ++ 10 ∷ []
text (and_then c f) x = text c x.0 ++ text (f x.0) x.1
text (seen_as f g c) x = text c (g x)

-- the value has a text
abbrev pub Holds : {A : Type 0} → Lines A → A → Type 0
Holds (no_line y) x = x ≡ y
Holds (line k c) x = Fits c x
Holds (and_then c f) x = Holds c x.0 × Holds (f x.0) x.1
Holds (seen_as f g c) x = Holds c (g x) × (f (g x) ≡ x)

-- these bytes are a prefix of some value's text
abbrev pub IsPrefix : {A : Type 0} → Lines A → List ℕ → Type 0
IsPrefix {A} c ts = (x : A) × (more : List ℕ) × Holds c x × (text c x ≡ ts ++ more)

-- the line that is due after this front says so what is wrong with another in its place
abbrev pub IsDue : {A : Type 0} → Lines A → List ℕ → (List ℕ → Kind) → Type 0
IsDue (no_line y) front k = ⊥
IsDue (line j c) front k = (front ≡ []) × (j ≡ k)
IsDue (and_then {A} c f) front k = IsDue c front k
    ⊎ ((x : A) × (more : List ℕ) × Holds c x × (front ≡ text c x ++ more) × IsDue (f x) more k)
IsDue (seen_as f g c) front k = IsDue c front k

-- up to and with the first line feed, or all
abbrev pub first_line : List ℕ → List ℕ
first_line [] = []
first_line (t ∷ ts) = if nat_eq t 10 then t ∷ [] else t ∷ first_line ts

-- Where reading lines stopped.
pub data Halt : Type 0 where
  -- the text ends, and it is a prefix of a value's text
  cut : Halt
  -- the line with which the rest begins is wrong, and what is wrong with it
  wrong : Kind → List ℕ → Halt

-- What reading lines at the front of a text tells: a value and what stands after its text, or where reading stopped.
abbrev pub Seen : Type 0 → Type 0
Seen A = Result (A × List ℕ) Halt

-- what a code tells of a line, with what is wrong with the line
abbrev pub judged : {A : Type 0} → (List ℕ → Kind) → List ℕ → Told A → Seen A
judged k ts (Ok p) = Ok p
judged k ts (Err Ends) = Err cut
judged k ts (Err Differs) = Err (wrong (k (first_line ts)) ts)

-- a line with its line feed
abbrev pub fed : {A : Type 0} → Code A → Code A
fed c = read_as (λ v. v.0) (λ x. (x, tt)) (sequence c (λ x. literal (10 ∷ [])))

-- reading a value from the front of a text
abbrev pub read_lines : {A : Type 0} → Lines A → List ℕ → Seen A
read_lines (no_line y) ts = Ok (y, ts)
read_lines (line k c) ts = judged k ts (read (fed c) ts)
read_lines (and_then c f) ts = read_lines c ts >>= λ x. read_lines (f x.0) x.1 >>= λ y. Ok ((x.0, y.0), y.1)
read_lines (seen_as f g c) ts = read_lines c ts >>= λ x. Ok (f x.0, x.1)

-- no byte is a line feed
abbrev pub is_one_line : List ℕ → Bool
is_one_line [] = true
is_one_line (b ∷ bs) = not (nat_eq b 10) && is_one_line bs

-- What makes reading exact: each code is sound, no line has a line feed inside, and each value of other values
-- comes back.
abbrev pub SoundLines : {A : Type 0} → Lines A → Type 0
SoundLines (no_line y) = Unit {0}
SoundLines (line {A} k c) = Sound c × ((x : A) → Fits c x → is_one_line (spell c x) ≡ true)
SoundLines (and_then {A} c f) = SoundLines c × ((x : A) → Holds c x → SoundLines (f x))
SoundLines (seen_as {A} f g c) = SoundLines c × ((x : A) → Holds c x → g (f x) ≡ x)

-- the first item and the others; of no items, the given one
abbrev pub split_first : {A : Type 0} → A → List A → A × List A
split_first d [] = (d, [])
split_first d (x ∷ xs) = (x, xs)

-- for each key the lines that the function says, one after the other; the value has an item for each
abbrev pub each : {K A : Type 0} → A → (K → Lines A) → List K → Lines (List A)
each d c [] = no_line []
each d c (k ∷ ks) = seen_as (λ p. p.0 ∷ p.1) (split_first d) (and_then (c k) (λ x. each d c ks))

-- so many of the lines that the function says of a place, from this place on; the value has an item for each
abbrev pub numbered : {A : Type 0} → A → (ℕ → Lines A) → (from count : ℕ) → Lines (List A)
numbered d c from zero = no_line []
numbered d c from (suc count) =
    seen_as (λ p. p.0 ∷ p.1) (split_first d) (and_then (c from) (λ x. numbered d c (from + 1) count))
