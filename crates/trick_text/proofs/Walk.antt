-- One piece more.
use Rattle.std.proofs.Common.{◌≡◌, ℕ, ◌+◌, ◌≤◌, List, [], ◌∷◌, ◌++◌, length, take, drop, arith, ap, ◌∙◌, if◌then◌else◌}
use Rattle.std.specs.Prelude.{◌==◌, count_by}
use Rattle.std.proofs.Math.Seq.{take-add}
use Rattle.std.proofs.lemmas.List.{drop-drop, length-drop}
use Rattle.std.proofs.lemmas.List.Sums.{sum_by-append, count_by-le-length}
use Rattle.trick_text.specs.declared.piece.Piece.TheVariants as pieces
use Rattle.trick_text.specs.declared.token.Style.{Style}
use Rattle.trick_text.specs.declared.token.Token.{Token}
use Rattle.trick_text.specs.Pieces.{front}
use Rattle.trick_text.specs.Tokens.{line_of, nothing, blank, IsToken, AreTokens}

-- the line after n more bytes
pub line_more : (text : List ℕ) (i n : ℕ) → line_of text i + count_by (λ b. b == 10) (take n (drop i text)) ≡ line_of text (i + n)
line_more text i n =
    let e = ap (count_by (λ b. b == 10)) (take-add i n text) ∙ sum_by-append (λ b. if b == 10 then 1 else 0) (take i text) (take n (drop i text)) in
    omega (arith, e)

pub blank_more : (style : Style) (text : List ℕ) (ts : List Token) (i j n : ℕ) → AreTokens style text i ts j → front style (drop j text) ≡ pieces.Blank n → AreTokens style text i ts (j + n)
blank_more style text [] i j n h e = blank h e
blank_more style text (t ∷ ts) i j n h e = (h.0, h.1, blank_more style text ts t.end j n h.2 e)

pub token_more : (style : Style) (text : List ℕ) (ts : List Token) (i : ℕ) (t : Token) → AreTokens style text i ts t.start → IsToken style text t → AreTokens style text i (ts ++ t ∷ []) t.end
token_more style text [] i t h k = (h, k, nothing)
token_more style text (u ∷ ts) i t h k = (h.0, h.1, token_more style text ts u.end t h.2 k)

-- what a step of n bytes keeps
pub record Step (text : List ℕ) (at line n : ℕ) (after : List ℕ) (more : ℕ) : Type 0 where
  pub place : at + n + length after ≡ length text
  pub here : after ≡ drop (at + n) text
  pub lines : line + more ≤ at + n + 1
  pub line_is : line + more ≡ line_of text (at + n)

pub step : (text rest : List ℕ) (at line n : ℕ) (body after : List ℕ) (more : ℕ) → at + length rest ≡ length text → rest ≡ drop at text → line ≤ at + 1 → line ≡ line_of text at → n ≤ length rest → body ≡ take n rest → after ≡ drop n rest → length body ≡ n → more ≡ count_by (λ b. b == 10) body → Step text at line n after more
step text rest at line n body after more place here lines line_is le front back len count =
    let few = count_by-le-length (λ b. b == 10) body in
    let back_len = ap length back in
    let rest_len = length-drop n rest in
    let counted : more ≡ count_by (λ b. b == 10) (take n (drop at text)) = count ∙ ap (count_by (λ b. b == 10)) (front ∙ ap (take n) here) in
    record {
      place = omega arith;
      here = back ∙ ap (drop n) here ∙ drop-drop n at text;
      lines = omega arith;
      line_is = omega (arith, line_more text at n);
    }
