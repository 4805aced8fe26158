-- The words of a text are its tokens.
use Rattle.std.proofs.Common.{rules, ◌≡◌, ℕ, zero, suc, ◌+◌, ◌-◌, ◌≤◌, ◌<◌, Bool, true, false, List, [], ◌∷◌, length, map, take, drop, nat_le, Option, Some, None, Err, refl, sym, ap, ◌∙◌, subst, arith, if◌then◌else◌}
use Rattle.std.proofs.lemmas.List.{at_drop_all, drop-drop, length-drop}
use Rattle.std.specs.Char.{is_ascii_digit}
use Rattle.std.specs.List.{prefix_len}
use Rattle.std.specs.Prelude.{codes, nat_lt}
use Rattle.trick_text.specs.Numbers.{whole_limit, whole_value}
use Rattle.trick_command.specs.Answers.{Answers, actions_in, actions_of_words, fault_of as fault_of_text}
use Rattle.trick_command.specs.Lexemes.{bytes_of, lexemes_of}
use Rattle.trick_model.specs.Commands.{actions_of, command_in, command_of}
use Rattle.trick_model.specs.declared.command.Command.TheVariants as command
use Rattle.trick_model.specs.Words.{Lexeme, with_word, words, words_behind, words_within}
use Rattle.trick_text.specs.Pieces.{begins, begins_mark, begins_name, begins_number, decimal_front, front, hexadecimal_digits, is_in_name, is_in_text, is_quote, is_white, mark_len, name_front, number_front, text_front, whole_front}
use Rattle.trick_text.specs.Tokens.{AreAllTokens, AreBlanks, AreTokens, IsCutOff, IsRefused, IsToken, blank, fault_of, nothing, text_limit}
use Rattle.trick_text.specs.declared.fault.TextFault.{TextFault}
use Rattle.trick_text.specs.declared.fault.TextFault.TheVariants as faults
use Rattle.trick_text.specs.declared.piece.Piece.{Piece}
use Rattle.trick_text.specs.declared.piece.Piece.TheVariants as pieces
use Rattle.trick_text.specs.declared.token.Style.TheVariants.{Command}
use Rattle.trick_text.specs.declared.token.Token.{Token}
use Rattle.trick_text.specs.declared.token.TokenKind.{TokenKind}
use Rattle.trick_text.specs.declared.token.TokenKind.TheVariants as kinds

-- ---- white space has a byte at least

abbrev is_blank : Piece → Bool
is_blank (pieces.Blank n) = true
is_blank (pieces.Token kind n) = false
is_blank (pieces.BadByte n) = false
is_blank pieces.OpenComment = false
is_blank pieces.LongNumber = false

either : (c : Bool) (x y : Piece) → is_blank x ≡ false → is_blank y ≡ false → is_blank (if c then x else y) ≡ false
either true x y p q = p
either false x y p q = q

names : (text : List ℕ) → is_blank (name_front text) ≡ false
unfolding name_front
names text = either (nat_lt 64 (prefix_len is_in_name text)) (pieces.BadByte 64) (pieces.Token kinds.Name (prefix_len is_in_name text)) refl refl

wholes : (n : ℕ) (text : List ℕ) → is_blank (whole_front n text) ≡ false
wholes n text = either (nat_le (whole_value (take n text)) whole_limit) (pieces.Token kinds.Whole n) pieces.LongNumber refl refl

decimals : (n : ℕ) → is_blank (decimal_front n) ≡ false
decimals n = either (nat_le n 40) (pieces.Token kinds.Decimal n) pieces.LongNumber refl refl

abbrev digits : List ℕ → ℕ
digits text = prefix_len is_ascii_digit text

abbrev places : List ℕ → ℕ
places text = digits text + 1 + prefix_len is_ascii_digit (drop (digits text + 1) text)

numbers : (text : List ℕ) → is_blank (number_front text) ≡ false
unfolding number_front
numbers text =
    either (nat_lt 0 (hexadecimal_digits text)) (whole_front (2 + hexadecimal_digits text) text)
    (if begins (codes ".") (drop (digits text) text) then decimal_front (places text) else whole_front (digits text) text)
    (wholes (2 + hexadecimal_digits text) text)
    (either (begins (codes ".") (drop (digits text) text)) (decimal_front (places text)) (whole_front (digits text) text) (decimals (places text)) (wholes (digits text) text))

texts : (b : ℕ) (bs : List ℕ) → is_blank (text_front b bs) ≡ false
unfolding text_front
texts b bs =
    let n = prefix_len (is_in_text b) bs in
    either (begins (b ∷ []) (drop n bs)) (pieces.Token kinds.Text (n + 2)) (pieces.BadByte 0) refl refl

abbrev mark_or : ℕ → List ℕ → Piece
mark_or b bs = if begins_mark b then pieces.Token kinds.Mark (mark_len (b ∷ bs)) else pieces.BadByte 0

abbrev text_or : ℕ → List ℕ → Piece
text_or b bs = if is_quote Command b then text_front b bs else mark_or b bs

abbrev number_or : ℕ → List ℕ → Piece
number_or b bs = if begins_number (b ∷ bs) then number_front (b ∷ bs) else text_or b bs

no_blank : (b : ℕ) (bs : List ℕ) → is_white b ≡ false → is_blank (front Command (b ∷ bs)) ≡ false
unfolding front
no_blank b bs e = rw e
    (either (begins_name b) (name_front (b ∷ bs)) (number_or b bs) (names (b ∷ bs))
    (either (begins_number (b ∷ bs)) (number_front (b ∷ bs)) (text_or b bs) (numbers (b ∷ bs))
    (either (is_quote Command b) (text_front b bs) (mark_or b bs) (texts b bs)
    (either (begins_mark b) (pieces.Token kinds.Mark (mark_len (b ∷ bs))) (pieces.BadByte 0) refl refl))))

white_is : (b : ℕ) (bs : List ℕ) → is_white b ≡ true → front Command (b ∷ bs) ≡ pieces.Blank (prefix_len is_white (b ∷ bs))
unfolding front
white_is b bs e = rw e refl

one_white : (b : ℕ) (bs : List ℕ) → is_white b ≡ true → 1 ≤ prefix_len is_white (b ∷ bs)
one_white b bs e = rw e (omega arith)

width_is : (m n : ℕ) → pieces.Blank m ≡ pieces.Blank n → m ≡ n
width_is m n e = cc

wide : (b : ℕ) (bs : List ℕ) (n : ℕ) → front Command (b ∷ bs) ≡ pieces.Blank n → 1 ≤ n
wide b bs n e = by (is_white b) refl
  where
    by : (c : Bool) → is_white b ≡ c → 1 ≤ n
    by true w = omega (arith, one_white b bs w, width_is _ _ (sym (white_is b bs w) ∙ e))
    by false w = absurd (neither (sym (no_blank b bs w) ∙ ap is_blank e))
      where
        neither : false ≡ true → ⊥
        neither h = cc

nil_front : front Command [] ≡ pieces.BadByte 0
unfolding front
nil_front = refl

-- ---- one piece further

-- so many pieces are enough for a text
abbrev Past : ℕ → List ℕ → List ℕ → Type 0
Past count text rest = (k : ℕ) × (words_within count text ≡ words_within k rest) × (length rest ≤ k)

past_blank : (k n : ℕ) (text : List ℕ) → front Command text ≡ pieces.Blank n → length text ≤ k → Past k text (drop n text)
past_blank k n [] e le = absurd (neither (sym nil_front ∙ e))
  where
    neither : pieces.BadByte 0 ≡ pieces.Blank n → ⊥
    neither h = cc
past_blank zero n (b ∷ bs) e le = absurd (omega (arith, le))
past_blank (suc k) n (b ∷ bs) e le = (k, ap (words_behind (λ text. words_within k text) (b ∷ bs)) e, omega (arith, le, wide b bs n e, length-drop n (b ∷ bs)))

-- a token further
abbrev PastToken : ℕ → List ℕ → Lexeme → List ℕ → Type 0
PastToken count text word rest = (k : ℕ) × (words_within count text ≡ with_word word (words_within k rest)) × (length rest ≤ k)

past_token : (k n : ℕ) (kind : TokenKind) (text : List ℕ) → front Command text ≡ pieces.Token kind n → 0 < n → length text ≤ k → PastToken k text (record { kind = kind; bytes = take n text }) (drop n text)
past_token k n kind [] e lt le = absurd (neither (sym nil_front ∙ e))
  where
    neither : pieces.BadByte 0 ≡ pieces.Token kind n → ⊥
    neither h = cc
past_token zero n kind (b ∷ bs) e lt le = absurd (omega (arith, le))
past_token (suc k) n kind (b ∷ bs) e lt le = (k, ap (words_behind (λ text. words_within k text) (b ∷ bs)) e, omega (arith, le, lt, length-drop n (b ∷ bs)))

-- ---- along a text

module _ (text : List ℕ) where
  blanks : (count i j : ℕ) → AreBlanks Command text i j → length (drop i text) ≤ count → Past count (drop i text) (drop j text)
  blanks count i _ nothing le = (count, refl, le)
  blanks count i _ (blank {j} {n} b e) le =
      let r = blanks count i j b le in
      let s = past_blank r.0 n (drop j text) e r.2 in
      let there = drop-drop n j text in
      (s.0, r.1 ∙ s.1 ∙ ap (words_within s.0) there, subst (λ rest. length rest ≤ s.0) there s.2)

  token : (count : ℕ) (t : Token) → IsToken Command text t → length (drop t.start text) ≤ count → PastToken count (drop t.start text) (bytes_of text t) (drop t.end text)
  token count t is le =
      let n = t.end - t.start in
      let s = past_token count n t.kind (drop t.start text) is.longest (omega (arith, is.forward)) le in
      let there : drop n (drop t.start text) ≡ drop t.end text = drop-drop n t.start text ∙ ap (λ k. drop k text) (together t.start t.end is.forward) in
      (s.0, s.1 ∙ ap (λ rest. with_word (bytes_of text t) (words_within s.0 rest)) there, subst (λ rest. length rest ≤ s.0) there s.2)
    where
      together : (a b : ℕ) → a < b → a + (b - a) ≡ b
      together a b h = omega (arith, h)

  nothing_left : (k : ℕ) → words_within k [] ≡ Some []
  nothing_left zero = refl
  nothing_left (suc k) = refl

  all_words_from : (count i : ℕ) (ts : List Token) → AreTokens Command text i ts (length text) → length (drop i text) ≤ count → words_within count (drop i text) ≡ Some (lexemes_of text ts)
  all_words_from count i [] is le =
      let r = blanks count i (length text) is le in
      r.1 ∙ at_drop_all (words_within r.0) text (length text) (omega arith) ∙ nothing_left r.0
  all_words_from count i (t ∷ ts) is le =
      let r = blanks count i t.start is.0 le in
      let s = token r.0 t is.1 r.2 in
      r.1 ∙ s.1 ∙ ap (with_word (bytes_of text t)) (all_words_from s.0 t.end ts is.2 s.2)

  stuck : (k at : ℕ) (rest : List ℕ) (fault : TextFault) → 0 < length rest → fault_of (front Command rest) at ≡ Some fault → words_within k rest ≡ None
  stuck k at [] fault lt e = absurd (omega (arith, lt))
  stuck zero at (b ∷ bs) fault lt e = refl
  stuck (suc k) at (b ∷ bs) fault lt e = by (front Command (b ∷ bs)) e
    where
      by : (p : Piece) → fault_of p at ≡ Some fault → words_behind (λ text. words_within k text) (b ∷ bs) p ≡ None
      by (pieces.Blank n) e = absurd cc
      by (pieces.Token kind n) e = absurd cc
      by (pieces.BadByte n) e = refl
      by pieces.OpenComment e = refl
      by pieces.LongNumber e = refl

  no_words_from : (count i j : ℕ) (ts : List Token) (fault : TextFault) → AreTokens Command text i ts j → j < length text → fault_of (front Command (drop j text)) j ≡ Some fault → length (drop i text) ≤ count → words_within count (drop i text) ≡ None
  no_words_from count i j [] fault is lt e le =
      let r = blanks count i j is le in
      r.1 ∙ stuck r.0 j (drop j text) fault (omega (arith, lt, length-drop j text)) e
  no_words_from count i j (t ∷ ts) fault is lt e le =
      let r = blanks count i t.start is.0 le in
      let s = token r.0 t is.1 r.2 in
      r.1 ∙ s.1 ∙ ap (with_word (bytes_of text t)) (no_words_from s.0 t.end j ts fault is.2 lt e s.2)

  all_words : (ts : List Token) → AreAllTokens Command text ts → words text ≡ Some (lexemes_of text ts)
  all_words ts is = all_words_from (length text) 0 ts is.1 (omega arith)

  no_words : (fault : TextFault) → IsCutOff Command text fault → words text ≡ None
  no_words fault is = no_words_from (length text) 0 is.1.start is.0 is.1.fault is.2.1 is.2.2.inside is.2.2.fault (omega arith)

  le_true : (a b : ℕ) → a ≤ b → nat_le a b ≡ true
  le_true a b h = search rules

  le_false : (a b : ℕ) → b < a → nat_le a b ≡ false
  le_false a b h = search rules

  pub tokens_say : (ts : List Token) → AreAllTokens Command text ts → actions_in text ≡ actions_of_words (lexemes_of text ts)
  tokens_say ts is = rw (le_true (length text) text_limit is.0, all_words ts is, actions_of) refl

  cut_says : (fault : TextFault) → IsCutOff Command text fault → actions_in text ≡ None
  cut_says fault is = by (nat_le (length text) text_limit)
    where
      says : actions_of text ≡ None
      says = rw (no_words fault is, actions_of) refl

      by : (c : Bool) → (if c then actions_of text else None) ≡ None
      by true = says
      by false = refl

  long_says : text_limit < length text → actions_in text ≡ None
  long_says lt = rw (le_false (length text) text_limit lt) refl

  pub refused_says : (fault : TextFault) → IsRefused Command text fault → Answers (actions_in text) (Err (fault_of_text fault))
  refused_says (faults.LongText limit) is = long_says is.0
  refused_says (faults.BadByte at) is = cut_says (faults.BadByte at) is
  refused_says (faults.OpenComment at) is = cut_says (faults.OpenComment at) is
  refused_says (faults.LongNumber at) is = cut_says (faults.LongNumber at) is
  refused_says faults.OutOfMemory is = tt

  -- ---- lines of clients

  pub tokens_command : (ts : List Token) → AreAllTokens Command text ts → command_of text ≡ command_in (lexemes_of text ts)
  tokens_command ts is = rw (all_words ts is, command_of) refl

  cut_command : (fault : TextFault) → IsCutOff Command text fault → command_of text ≡ command.Bad
  cut_command fault is = rw (no_words fault is, command_of) refl

  pub refused_command : (fault : TextFault) → IsRefused Command text fault → (fault ≡ faults.OutOfMemory → ⊥) → length text ≤ text_limit → command_of text ≡ command.Bad
  refused_command (faults.LongText limit) is some le = absurd (omega (arith, is.0, le))
  refused_command (faults.BadByte at) is some le = cut_command (faults.BadByte at) is
  refused_command (faults.OpenComment at) is some le = cut_command (faults.OpenComment at) is
  refused_command (faults.LongNumber at) is some le = cut_command (faults.LongNumber at) is
  refused_command faults.OutOfMemory is some le = absurd (some refl)
