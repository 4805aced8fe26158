-- Prefix codes as data: a code says which values have a text, which text a value has, and how a text is read
-- from the left. No text of a value of a code is a proper prefix of another's.
use Rattle.std.specs.Char.{is_ascii_digit}
use Rattle.std.specs.Fmt.{decimal, signed_decimal}
use Rattle.std.specs.Prelude.{◌≡◌, ℕ, zero, suc, ◌+◌, ◌-◌, ◌*◌, ◌≤◌, ◌<◌, ℤ, pos, negsuc, Bool, true, false, not, ◌||◌, ◌&&◌, nat_eq, nat_le, List, [], ◌∷◌, ◌++◌, length, get_or, Result, Ok, Err, Option, Some, None, if◌then◌else◌}
use Rattle.trick_codes.specs.declared.miss.Miss.{Miss}
use Rattle.trick_codes.specs.declared.miss.Miss.TheVariants.{Ends, Differs}

-- a value of the first type, or one of the second
pub data Either (A B : Type 0) : Type 0 where
  left : A → Either A B
  right : B → Either A B

-- A code of values of a type.
pub data Code : Type 0 → Type 1 where
  -- no bytes
  nothing : {A : Type 0} → A → Code A
  -- these bytes
  literal : List ℕ → Code (Unit {0})
  -- a number from the least to the most in decimal, and this byte after it; the least is 0 or 1
  number : (least most end : ℕ) → Code ℕ
  -- a number from minus `below` to `above` in decimal, and this byte after it
  integer : (below above end : ℕ) → Code ℤ
  -- bytes without this one, so many at most, and this byte after them
  free : (most end : ℕ) → Code (List ℕ)
  -- one of these words; its value is its place in the list
  one_of : List (List ℕ) → Code ℕ
  -- the first where the next byte is this one, and else the second
  choice : {A B : Type 0} → ℕ → Code A → Code B → Code (Either A B)
  -- a value, and then one of a code that may depend on it
  sequence : {A B : Type 0} → Code A → (A → Code B) → Code (A × B)
  -- the same texts for other values: what is read goes through the first function, what has a
  -- text through the second
  read_as : {A B : Type 0} → (A → B) → (B → A) → Code A → Code B

-- the text of a value
abbrev pub spell : {A : Type 0} → Code A → A → List ℕ
spell (nothing y) x = []
spell (literal bs) x = bs
spell (number least most end) x = decimal x ++ end ∷ []
spell (integer below above end) x = signed_decimal x ++ end ∷ []
spell (free most end) x = x ++ end ∷ []
spell (one_of ws) x = get_or ws x []
spell (choice b c d) (left x) = spell c x
spell (choice b c d) (right y) = spell d y
spell (sequence c f) x = spell c x.0 ++ spell (f x.0) x.1
spell (read_as f g c) x = spell c (g x)

-- the number is from minus `below` to `above`
abbrev pub IsWithin : (below above : ℕ) → ℤ → Type 0
IsWithin below above (pos n) = n ≤ above
IsWithin below above (negsuc n) = suc n ≤ below

-- none of the bytes is this one
abbrev pub is_free : (end : ℕ) → List ℕ → Bool
is_free end [] = true
is_free end (b ∷ bs) = if nat_eq b end then false else is_free end bs

-- the value has a text
abbrev pub Fits : {A : Type 0} → Code A → A → Type 0
Fits (nothing y) x = x ≡ y
Fits (literal bs) x = Unit {0}
Fits (number least most end) x = (least ≤ x) × (x ≤ most)
Fits (integer below above end) x = IsWithin below above x
Fits (free most end) x = (length x ≤ most) × (is_free end x ≡ true)
Fits (one_of ws) x = x < length ws
Fits (choice b c d) (left x) = Fits c x
Fits (choice b c d) (right y) = Fits d y
Fits (sequence c f) x = Fits c x.0 × Fits (f x.0) x.1
Fits (read_as f g c) x = Fits c (g x) × (f (g x) ≡ x)

-- these bytes are a prefix of some value's text
abbrev pub Begins : {A : Type 0} → Code A → List ℕ → Type 0
Begins {A} c ts = (x : A) × (more : List ℕ) × Fits c x × (spell c x ≡ ts ++ more)

-- What reading at the front of a text tells: a value and what stands after its text, or a miss.
abbrev pub Told : Type 0 → Type 0
Told A = Result (A × List ℕ) Miss

-- a value is read, and what stands after it is read on
infixl 10 ◌>>=◌
abbrev pub ◌>>=◌ : {A B E : Type 0} → Result (A × List ℕ) E → (A × List ℕ → Result (B × List ℕ) E)
    → Result (B × List ℕ) E
(Ok x) >>= f = f x
(Err e) >>= f = Err e

abbrev pub literal_at : List ℕ → List ℕ → Told (Unit {0})
literal_at [] ts = Ok (tt, ts)
literal_at (b ∷ bs) [] = Err Ends
literal_at (b ∷ bs) (t ∷ ts) = if nat_eq t b then literal_at bs ts else Err Differs

-- the digits after those of v, and the end
abbrev pub digits_at : (most end v : ℕ) → List ℕ → Told ℕ
digits_at most end v [] = Err Ends
digits_at most end v (t ∷ ts) =
    if nat_eq t end then Ok (v, ts)
    else if is_ascii_digit t && nat_le (v * 10 + (t - 48)) most then digits_at most end (v * 10 + (t - 48)) ts
    else Err Differs

-- the end after a single 0, where the least number is 0
abbrev pub zero_at : (least end : ℕ) → List ℕ → Told ℕ
zero_at zero end [] = Err Ends
zero_at zero end (t ∷ ts) = if nat_eq t end then Ok (0, ts) else Err Differs
zero_at (suc k) end ts = Err Differs

abbrev pub number_at : (least most end : ℕ) → List ℕ → Told ℕ
number_at least most end [] = Err Ends
number_at least most end (t ∷ ts) =
    if nat_eq t 48 then zero_at least end ts
    else if is_ascii_digit t && nat_le (t - 48) most then digits_at most end (t - 48) ts
    else Err Differs

-- the number with a minus
abbrev pub minus : ℕ → ℤ
minus zero = pos 0
minus (suc n) = negsuc n

-- what is told of a number, for the same one with a minus, and for it as it is
abbrev pub negative_of : Told ℕ → Told ℤ
negative_of told = told >>= λ x. Ok (minus x.0, x.1)

abbrev pub positive_of : Told ℕ → Told ℤ
positive_of told = told >>= λ x. Ok (pos x.0, x.1)

abbrev pub integer_at : (below above end : ℕ) → List ℕ → Told ℤ
integer_at below above end [] = Err Ends
integer_at below above end (t ∷ ts) =
    if nat_eq t 45 && nat_le 1 below then negative_of (number_at 1 below end ts)
    else positive_of (number_at 0 above end (t ∷ ts))

abbrev pub free_at : (most end : ℕ) → List ℕ → Told (List ℕ)
free_at most end [] = Err Ends
free_at zero end (t ∷ ts) = if nat_eq t end then Ok ([], ts) else Err Differs
free_at (suc most) end (t ∷ ts) = if nat_eq t end then Ok ([], ts) else (free_at most end ts >>= λ x. Ok (t ∷ x.0, x.1))

-- what stands after a word at the front of a text
abbrev pub behind : List ℕ → List ℕ → Option (List ℕ)
behind [] ts = Some ts
behind (b ∷ bs) [] = None
behind (b ∷ bs) (t ∷ ts) = if nat_eq t b then behind bs ts else None

abbrev pub is_there : {A : Type 0} → Option A → Bool
is_there (Some x) = true
is_there None = false

-- whether the text is a prefix of one of these words
abbrev pub begins_word : List (List ℕ) → List ℕ → Bool
begins_word [] ts = false
begins_word (w ∷ ws) ts = is_there (behind ts w) || begins_word ws ts

-- the miss where no word stands at the front
abbrev pub no_word : Bool → Miss
no_word true = Ends
no_word false = Differs

abbrev pub this_or : ℕ → Option (List ℕ) → Told ℕ → Told ℕ
this_or k (Some rest) others = Ok (k, rest)
this_or k None others = others

-- the first of these words at the front, counted from k
abbrev pub word_from : ℕ → List (List ℕ) → Miss → List ℕ → Told ℕ
word_from k [] miss ts = Err miss
word_from k (w ∷ ws) miss ts = this_or k (behind w ts) (word_from (suc k) ws miss ts)

-- reading a value from the front of a text
abbrev pub read : {A : Type 0} → Code A → List ℕ → Told A
read (nothing y) ts = Ok (y, ts)
read (literal bs) ts = literal_at bs ts
read (number least most end) ts = number_at least most end ts
read (integer below above end) ts = integer_at below above end ts
read (free most end) ts = free_at most end ts
read (one_of ws) ts = word_from 0 ws (no_word (begins_word ws ts)) ts
read (choice b c d) [] = Err Ends
read (choice b c d) (t ∷ ts) =
    if nat_eq t b then (read c (t ∷ ts) >>= λ x. Ok (left (x.0), x.1))
    else (read d (t ∷ ts) >>= λ y. Ok (right (y.0), y.1))
read (sequence c f) ts = read c ts >>= λ x. read (f x.0) x.1 >>= λ y. Ok ((x.0, y.0), y.1)
read (read_as f g c) ts = read c ts >>= λ x. Ok (f x.0, x.1)

-- none of the words is a prefix of another
abbrev pub ArePrefixFree : List (List ℕ) → Type 0
ArePrefixFree ws = (i j : ℕ) → i < length ws → j < length ws → (more : List ℕ)
    → get_or ws j [] ≡ get_or ws i [] ++ more → i ≡ j

-- the largest number that a code reads
abbrev pub largest : ℕ
largest = 18446744073709551615

-- What makes reading exact: numbers fit in 64 bits and end with a byte that no number has, no
-- word is a prefix of another, the two of a choice differ in their first byte, and each value of
-- other values comes back.
abbrev pub Sound : {A : Type 0} → Code A → Type 0
Sound (nothing y) = Unit {0}
Sound (literal bs) = Unit {0}
Sound (number least most end) = (least ≤ 1) × (least ≤ most) × (most ≤ largest) × (is_ascii_digit end ≡ false)
Sound (integer below above end) = (below ≤ largest) × (above ≤ largest) × (is_ascii_digit end ≡ false)
    × (nat_eq end 45 ≡ false)
Sound (free most end) = Unit {0}
Sound (one_of ws) = (0 < length ws) × ArePrefixFree ws
Sound (choice {A} {B} b c d) = Sound c × Sound d
    × ((x : A) → Fits c x → (more : List ℕ) × (spell c x ≡ b ∷ more))
    × ((y : B) → Fits d y → (t : ℕ) × (more : List ℕ) × (spell d y ≡ t ∷ more) × (nat_eq t b ≡ false))
Sound (sequence {A} c f) = Sound c × ((x : A) → Fits c x → Sound (f x))
Sound (read_as {A} f g c) = Sound c × ((x : A) → Fits c x → g (f x) ≡ x)

-- neither of two words is a prefix of the other
abbrev pub are_apart : List ℕ → List ℕ → Bool
are_apart v w = not (is_there (behind v w) || is_there (behind w v))

abbrev pub is_apart_from : List ℕ → List (List ℕ) → Bool
is_apart_from w [] = true
is_apart_from w (v ∷ vs) = are_apart w v && is_apart_from w vs

-- a test of words that are written out
abbrev pub all_apart : List (List ℕ) → Bool
all_apart [] = true
all_apart (w ∷ ws) = is_apart_from w ws && all_apart ws
