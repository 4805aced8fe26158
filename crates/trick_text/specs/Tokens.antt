-- The tokens of a text, and its first fault.
use Rattle.std.specs.Prelude.{◌≡◌, ℕ, ◌+◌, ◌-◌, ◌<◌, ◌≤◌, Bool, true, false, List, [], ◌∷◌, length, take, drop, ◌==◌, count_by, Option, Some, None}
use Rattle.trick_text.specs.Pieces.{front}
use Rattle.trick_text.specs.declared.fault.FirstFault.{FirstFault}
use Rattle.trick_text.specs.declared.fault.TextFault.{TextFault}
use Rattle.trick_text.specs.declared.fault.TextFault.TheVariants as faults
use Rattle.trick_text.specs.declared.piece.Piece.{Piece}
use Rattle.trick_text.specs.declared.piece.Piece.TheVariants as pieces
use Rattle.trick_text.specs.declared.token.Style.{Style}
use Rattle.trick_text.specs.declared.token.Token.{Token}

-- how many bytes a text may have, two to the power of 24
abbrev pub text_limit : ℕ
text_limit = 16777216

-- the bytes of a token
abbrev pub spelling : List ℕ → Token → List ℕ
spelling text t = take (t.end - t.start) (drop t.start text)

-- what stands between the first byte and the last one, as between a string's quotes
abbrev pub inner : List ℕ → List ℕ
inner bytes = take (length bytes - 2) (drop 1 bytes)

-- the line, from 1, of the byte at i: lines end at line feeds
abbrev pub line_of : List ℕ → ℕ → ℕ
line_of text i = 1 + count_by (λ b. b == 10) (take i text)

-- the line of the last byte; a text that ends with a line feed has no line after it
abbrev pub last_line : List ℕ → ℕ
last_line text = line_of text (length text - 1)

-- what stands at its place, with its kind and all of its bytes, on its line
pub record IsToken (style : Style) (text : List ℕ) (t : Token) : Type 0 where
  pub longest : front style (drop t.start text) ≡ pieces.Token t.kind (t.end - t.start)
  pub forward : t.start < t.end
  pub inside : t.end ≤ length text
  pub line : t.line ≡ line_of text t.start

-- what stands at its place reads as this token in one of the styles; it need not be one of the text's
-- tokens, since a name stands inside many a string
abbrev pub ReadsAsToken : List ℕ → Token → Type 0
ReadsAsToken text t = (style : Style) × IsToken style text t

-- it has a byte at least, and all of its bytes stand in the text
abbrev pub LiesIn : List ℕ → Token → Type 0
LiesIn text t = (t.start < t.end) × (t.end ≤ length text)

-- white space and comments alone, one after the other, from i up to j
pub data AreBlanks (style : Style) (text : List ℕ) : ℕ → ℕ → Type 0 where
  nothing : {i : ℕ} → AreBlanks style text i i
  blank : {i j n : ℕ} → AreBlanks style text i j → front style (drop j text) ≡ pieces.Blank n
      → AreBlanks style text i (j + n)

-- from i up to j these tokens stand, with white space and comments alone round them
abbrev pub AreTokens : Style → List ℕ → ℕ → List Token → ℕ → Type 0
AreTokens style text i [] j = AreBlanks style text i j
AreTokens style text i (t ∷ ts) j = AreBlanks style text i t.start × IsToken style text t
    × AreTokens style text t.end ts j

-- these are the tokens of a text that is not too long, all of them and no others
abbrev pub AreAllTokens : Style → List ℕ → List Token → Type 0
AreAllTokens style text ts = (length text ≤ text_limit) × AreTokens style text 0 ts (length text)

-- the fault that the piece at this place is; none where it is white space, a comment or a token
abbrev pub fault_of : Piece → ℕ → Option TextFault
fault_of (pieces.Blank n) at = None
fault_of (pieces.Token kind n) at = None
fault_of (pieces.BadByte n) at = Some (faults.BadByte (at + n))
fault_of pieces.OpenComment at = Some (faults.OpenComment at)
fault_of pieces.LongNumber at = Some (faults.LongNumber at)

-- the piece at its place is this fault, on its line
pub record IsFault (style : Style) (text : List ℕ) (first : FirstFault) : Type 0 where
  pub inside : first.start < length text
  pub fault : fault_of (front style (drop first.start text)) first.start ≡ Some first.fault
  pub line : first.line ≡ line_of text first.start

-- What a text that is not too long holds: the tokens before its first fault, with that fault; or all
-- of its tokens, where it has none.
abbrev pub IsCut : Style → List ℕ → List Token → Option FirstFault → Type 0
IsCut style text ts None = AreAllTokens style text ts
IsCut style text ts (Some first) = (length text ≤ text_limit) × AreTokens style text 0 ts first.start
    × IsFault style text first

-- the text is cut off by this fault
abbrev pub IsCutOff : Style → List ℕ → TextFault → Type 0
IsCutOff style text fault = (ts : List Token) × (first : FirstFault) × IsCut style text ts (Some first)
    × (first.fault ≡ fault)

-- it has more bytes than a text may have, and is refused with that limit
abbrev pub IsTooLong : List ℕ → ℕ → Type 0
IsTooLong text limit = (text_limit < length text) × (limit ≡ text_limit)

-- the first fault of the text; a want of memory may come at any time
abbrev pub IsRefused : Style → List ℕ → TextFault → Type 0
IsRefused style text (faults.LongText limit) = IsTooLong text limit
IsRefused style text (faults.BadByte at) = IsCutOff style text (faults.BadByte at)
IsRefused style text (faults.OpenComment at) = IsCutOff style text (faults.OpenComment at)
IsRefused style text (faults.LongNumber at) = IsCutOff style text (faults.LongNumber at)
IsRefused style text faults.OutOfMemory = Unit {0}

-- a text that is too long has no cut, and a want of memory may come at any time; no other fault does
abbrev pub IsUncut : List ℕ → TextFault → Type 0
IsUncut text (faults.LongText limit) = IsTooLong text limit
IsUncut text (faults.BadByte at) = ⊥
IsUncut text (faults.OpenComment at) = ⊥
IsUncut text (faults.LongNumber at) = ⊥
IsUncut text faults.OutOfMemory = Unit {0}
