-- A text that is cut is not refused as a whole, but for a want of memory.
use Rattle.std.proofs.Common.{◌≡◌, ◌<◌, ◌≤◌, ℕ, List, Option, Some, None, arith, length, refl}
use Rattle.trick_text.specs.Tokens.{IsCut, IsUncut, text_limit}
use Rattle.trick_text.specs.declared.fault.FirstFault.{FirstFault}
use Rattle.trick_text.specs.declared.fault.TextFault.{TextFault}
use Rattle.trick_text.specs.declared.fault.TextFault.TheVariants as texts
use Rattle.trick_text.specs.declared.token.Style.{Style}
use Rattle.trick_text.specs.declared.token.Token.{Token}

cut_is_short : (style : Style) (text : List ℕ) (ts : List Token) (f : Option FirstFault) → IsCut style text ts f
    → length text ≤ text_limit
cut_is_short style text ts None cut = cut.0
cut_is_short style text ts (Some first) cut = cut.0

apart : (n limit : ℕ) → n ≤ limit → limit < n → ⊥
apart n limit short long = omega arith

of_short : (text : List ℕ) (fault : TextFault) → length text ≤ text_limit → IsUncut text fault
    → fault ≡ texts.OutOfMemory
of_short text (texts.LongText limit) short uncut = absurd (apart (length text) text_limit short uncut.0)
of_short text (texts.BadByte at) short uncut = absurd uncut
of_short text (texts.OpenComment at) short uncut = absurd uncut
of_short text (texts.LongNumber at) short uncut = absurd uncut
of_short text texts.OutOfMemory short uncut = refl

pub cut_and_uncut : (style : Style) (text : List ℕ) (ts : List Token) (f : Option FirstFault) (fault : TextFault)
    → IsCut style text ts f → IsUncut text fault → fault ≡ texts.OutOfMemory
cut_and_uncut style text ts f fault cut uncut = of_short text fault (cut_is_short style text ts f cut) uncut

-- Two faults of a text that is not cut, none of them a want of memory, are one.
pub uncut_once : (text : List ℕ) (a b : TextFault) → (a ≡ texts.OutOfMemory → ⊥) → (b ≡ texts.OutOfMemory → ⊥)
    → IsUncut text a → IsUncut text b → a ≡ b
uncut_once text (texts.LongText n) (texts.LongText m) x y p q =
    let same : n ≡ m = let e = p.1 in let f = q.1 in cc (e, f) in cc same
uncut_once text (texts.LongText n) (texts.BadByte at) x y p q = absurd q
uncut_once text (texts.LongText n) (texts.OpenComment at) x y p q = absurd q
uncut_once text (texts.LongText n) (texts.LongNumber at) x y p q = absurd q
uncut_once text (texts.LongText n) texts.OutOfMemory x y p q = absurd (y refl)
uncut_once text (texts.BadByte at) b x y p q = absurd p
uncut_once text (texts.OpenComment at) b x y p q = absurd p
uncut_once text (texts.LongNumber at) b x y p q = absurd p
uncut_once text texts.OutOfMemory b x y p q = absurd (x refl)
