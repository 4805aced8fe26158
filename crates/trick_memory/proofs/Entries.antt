-- The text that JSON's writer gives for the cells.
use Rattle.std.proofs.Common.{◌≡◌, ◌≢◌, ◌<◌, ◌++◌, ◌∷◌, ◌+◌, [], ℕ, List, true, false, refl, codes, arith, append_assoc, sym, ap, ap₂, ◌∙◌, nat_lt, encode_utf8_all, IsTrue}
use Rattle.std.proofs.lemmas.Bool.{ne_eqb, and_parts}
use Rattle.std.proofs.lemmas.Bool.Decides.{leb_tells, Decides-eqb}
use Rattle.std.proofs.lemmas.Str.{encode_ascii}
use Rattle.json.specs.Print.{escape, escape_byte, escape_letter, quoted}
use Rattle.serde_json.proofs.OnLiterals.{serde_json_on_literals}
use Rattle.serde_json.specs.Data.{Data, array, number, unsigned, string, object, member, no_members}
use Rattle.serde_json.specs.View.{items_of}
use Rattle.serde_json.specs.Written.{compact_text, items_have_float, items_text}
use Rattle.std.specs.List.{list_all}
use Rattle.trick_lang.specs.declared.scalar.Scalar.{Scalar}
use Rattle.trick_lang.specs.declared.scalar.Scalar.TheVariants as scalar
use Rattle.trick_lang.specs.declared.variable.Variable.{Variable}
use Rattle.trick_memory.specs.Laws.{is_name_byte}
use Rattle.trick_memory.specs.Listing.{entry_text, later_entries, listing_text, name_text, scalar_text}

-- ---- plain names

-- what the bytes of a plain name are not
name_byte : (b : ℕ) → is_name_byte b ≡ true → (45 < b) × (b < 128) × (b ≢ 92)
name_byte b h = grind (arith, h, leb_tells, Decides-eqb)

-- a byte that stands for itself
plain_byte : (b : ℕ) → 45 < b → b ≢ 92 → escape_byte b ≡ b ∷ []
unfolding escape_byte
plain_byte b low other =
    let letter : escape_letter b ≡ 0 = rw (ne_eqb b 34 (λ e. omega (arith, e)), ne_eqb b 92 other, ne_eqb b 8 (λ e. omega (arith, e)), ne_eqb b 12 (λ e. omega (arith, e)), ne_eqb b 10 (λ e. omega (arith, e)), ne_eqb b 13 (λ e. omega (arith, e)), ne_eqb b 9 (λ e. omega (arith, e))) refl in
    let high : nat_lt b 32 ≡ false = grind (arith, leb_tells, low) in
    rw (letter, high) refl

pub plain_stands : (name : List ℕ) → IsTrue (list_all is_name_byte name) → name_text name ≡ name
plain_stands [] h = refl
plain_stands (b ∷ bs) h =
    let parts = and_parts (is_name_byte b) (list_all is_name_byte bs) h in
    let (low, ascii, other) = name_byte b parts.0 in
    let single : encode_utf8_all (b ∷ bs) ≡ b ∷ encode_utf8_all bs = ap (λ (front : List ℕ). front ++ encode_utf8_all bs) (encode_ascii b ascii) in
    ap escape single
    ∙ (ap (λ (front : List ℕ). front ++ escape (encode_utf8_all bs)) (plain_byte b low other)
    ∙ ap (λ (rest : List ℕ). b ∷ rest) (plain_stands bs parts.1))

-- ---- the cells

-- the data of a cell
abbrev pub data_of : ℕ → Variable → Data
data_of i cell = object (member (codes "cell") (number (unsigned i))
    (member (codes "name") (string (encode_utf8_all cell.name))
    (member (codes "type") (string (scalar_text cell.scalar)) no_members)))

unfoldable pub datas : ℕ → List Variable → List Data
datas i [] = []
datas i (cell ∷ rest) = data_of i cell ∷ datas (i + 1) rest

pub datas_next : (i : ℕ) (cell : Variable) (rest : List Variable) → datas i (cell ∷ rest) ≡ data_of i cell ∷ datas (i + 1) rest
unfolding datas
datas_next i cell rest = refl

pub datas_end : (i : ℕ) → datas i [] ≡ []
unfolding datas
datas_end i = refl

kind_plain : (s : Scalar) → escape (scalar_text s) ≡ scalar_text s
unfolding escape_byte
kind_plain scalar.Bool = refl
kind_plain scalar.Char = refl
kind_plain scalar.UChar = refl
kind_plain scalar.Short = refl
kind_plain scalar.UShort = refl
kind_plain scalar.Int = refl
kind_plain scalar.UInt = refl
kind_plain scalar.Long = refl

-- a text between quotes, and then more
quoted_then : (s t more : List ℕ) → escape s ≡ t → quoted s ++ more ≡ 34 ∷ (t ++ (34 ∷ more))
quoted_then s t more e = rw e (ap (λ (t : List ℕ). 34 ∷ t) (append_assoc t (34 ∷ []) more))

-- the text of one cell
entry_written : (i : ℕ) (cell : Variable) → compact_text (data_of i cell) ≡ entry_text i cell
unfolding serde_json_on_literals
entry_written i cell =
    let kind = quoted_then (scalar_text cell.scalar) (scalar_text cell.scalar) (125 ∷ []) (kind_plain cell.scalar) in
    let name = quoted_then (encode_utf8_all cell.name) (name_text cell.name) (44 ∷ (quoted (codes "type") ++ 58 ∷ (quoted (scalar_text cell.scalar) ++ 125 ∷ []))) refl in
    rw (name, kind) refl

-- the texts of the cells after the first, with the closing bracket
later_written : (i : ℕ) (cells : List Variable)
    → items_text true (items_of (datas i cells)) ≡ later_entries i cells ++ codes "]"
unfolding datas later_entries
later_written i [] = refl
later_written i (cell ∷ rest) =
    ap₂ (λ (a b : List ℕ). 44 ∷ (a ++ b)) (entry_written i cell) (later_written (i + 1) rest)
    ∙ (ap (λ (t : List ℕ). 44 ∷ t) (sym (append_assoc (entry_text i cell) (later_entries (i + 1) rest) (codes "]"))))

pub listing_written : (cells : List Variable) → compact_text (array (items_of (datas 0 cells))) ≡ listing_text cells
unfolding datas
listing_written [] = refl
listing_written (cell ∷ rest) =
    ap₂ (λ (a b : List ℕ). 91 ∷ (a ++ b)) (entry_written 0 cell) (later_written 1 rest)
    ∙ (ap (λ (t : List ℕ). 91 ∷ t) (sym (append_assoc (entry_text 0 cell) (later_entries 1 rest) (codes "]"))))

pub listing_no_float : (i : ℕ) (cells : List Variable) → items_have_float (items_of (datas i cells)) ≡ false
unfolding datas
listing_no_float i [] = refl
listing_no_float i (cell ∷ rest) = listing_no_float (i + 1) rest
