-- An index in a full name.
use Rattle.std.proofs.Common.{◌≡◌, ℕ, ◌≤◌, get_or, true, List, [], ◌∷◌, ◌++◌, length, drop, Some, refl, sym, ◌∙◌, subst, arith}
use Rattle.std.specs.Prelude.{codes, decimal}
use Rattle.trick_command.specs.Seen.{lexeme_in, lexemes_in}
use Rattle.trick_command.specs.declared.lexeme.CommandLexeme.{CommandLexeme}
use Rattle.trick_model.specs.Forms.{is_word, read_index, read_members, whole_of}

pub index_read : (name new : List ℕ) (words : List CommandLexeme) (w close : CommandLexeme) (index : ℕ) → 2 ≤ length words → w ≡ get_or words 0 w → close ≡ get_or words 1 close
    → w.whole ≡ Some index → is_word (codes "]") (lexeme_in close) ≡ true → new ≡ name ++ codes "[" ++ decimal index ++ codes "]"
    → read_members new (lexemes_in (drop 2 words)) ≡ read_index name (lexemes_in words)
index_read name new [] w close index le first second whole bracket is = absurd (omega (arith, le))
index_read name new (x ∷ []) w close index le first second whole bracket is = absurd (omega (arith, le))
index_read name new (x ∷ y ∷ ws) w close index le first second whole bracket is =
    let h : x.whole ≡ Some index = subst (λ (l : CommandLexeme). l.whole ≡ Some index) first whole in
    let k : whole_of (lexeme_in x) ≡ Some index = sym x.whole_is ∙ h in
    let b : is_word (codes "]") (lexeme_in y) ≡ true = subst (λ (l : CommandLexeme). is_word (codes "]") (lexeme_in l) ≡ true) second bracket in
    rw (is, k, b, read_index) refl
