-- Rows of numbers, as they are printed.
use Rattle.std.proofs.Common.{◌≡◌, ℕ, List, [], ◌∷◌, ◌++◌, refl, sym, ap, ◌∙◌, append_assoc}
use Rattle.std.specs.Fmt.{signed_decimal}
use Rattle.std.specs.Prelude.{ℤ, codes}
use Rattle.trick_codes.specs.Named.{others_text, row_text}
use Rattle.trick_model.specs.Checkpoint.{with_commas}

others_with_commas : (n : ℤ) (ns : List ℤ) → signed_decimal n ++ others_text ns ≡ with_commas (n ∷ ns) ++ codes ";"
others_with_commas n [] = refl
others_with_commas n (m ∷ ns) =
    ap (λ (us : List ℕ). signed_decimal n ++ (codes "," ++ us)) (others_with_commas m ns)
    ∙ sym (append_assoc (signed_decimal n ++ codes ",") (with_commas (m ∷ ns)) (codes ";")
    ∙ append_assoc (signed_decimal n) (codes ",") (with_commas (m ∷ ns) ++ codes ";"))

pub row_with_commas : (ns : List ℤ) → row_text ns ≡ with_commas ns ++ codes ";"
row_with_commas [] = refl
row_with_commas (n ∷ ns) = others_with_commas n ns

-- a row and the end of its line are numbers with commas between, and the end of a line
pub row_line : (ns : List ℤ) → row_text ns ++ codes "\n" ≡ with_commas ns ++ codes ";\n"
row_line ns = ap (λ (us : List ℕ). us ++ codes "\n") (row_with_commas ns)
    ∙ append_assoc (with_commas ns) (codes ";") (codes "\n")
