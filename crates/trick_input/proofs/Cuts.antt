-- The first line of the tokens, and the calls of all lines.
use Rattle.std.proofs.Common.{rules, ◌≡◌, ℕ, suc, ◌+◌, ◌-◌, ◌≤◌, ◌<◌, get_or, All, Bool, true, false, nat_eq, List, [], ◌∷◌, ◌++◌, length, take, drop, Result, Ok, Err, Option, Some, None, refl, sym, ap, ◌∙◌, subst, arith, append_assoc, length-drop}
use Rattle.std.proofs.lemmas.Bool.{eqb-true}
use Rattle.std.proofs.lemmas.List.Elements.{All-drop, All-take}
use Rattle.std.specs.List.{prefix_len}
use Rattle.trick_input.specs.Answers.{IsCall, Refuses}
use Rattle.trick_input.specs.Forms.{outcome_of}
use Rattle.trick_input.specs.Lexemes.{Lexeme, classes, line_of_words}
use Rattle.trick_input.specs.Lines.{Calls, before, call_of, calls_of, cut_fault, fault_at, joined, line_call, line_of, lines, then_calls}
use Rattle.trick_input.specs.Says.{form_of}
use Rattle.trick_input.specs.declared.call.Call.{Call}
use Rattle.trick_input.specs.declared.call.Form.{Form}
use Rattle.trick_input.specs.declared.fault.InputFault.{InputFault}
use Rattle.trick_input.specs.declared.fault.InputFault.TheVariants as faults
use Rattle.trick_input.specs.declared.form.Row.{Row}
use Rattle.trick_input.specs.declared.line.Place.{Place}
use Rattle.trick_text.proofs.Unique.{all_are}
use Rattle.trick_text.specs.Tokens.{IsCut, ReadsAsToken}
use Rattle.trick_text.specs.declared.token.Style.TheVariants as style
use Rattle.trick_text.specs.declared.fault.FirstFault.{FirstFault}
use Rattle.trick_text.specs.declared.token.Token.{Token}

abbrev pub beside : ℕ → List Token → ℕ
beside line ts = prefix_len (λ (t : Token). nat_eq t.line line) ts

one_more : (n : ℕ) → 1 + n ≡ suc n
one_more n = omega arith

cut_one : (n : ℕ) (x : Token) (xs : List Token) → (x ∷ take n xs) ∷ lines (drop n xs) ≡ take (1 + n) (x ∷ xs) ∷ lines (drop (1 + n) (x ∷ xs))
cut_one n x xs = ap (λ k. take k (x ∷ xs) ∷ lines (drop k (x ∷ xs))) (sym (one_more n))

join_one : (t : Token) (n : ℕ) (x : Token) (xs : List Token) → (t ∷ x ∷ take n xs) ∷ lines (drop n xs) ≡ (t ∷ take (1 + n) (x ∷ xs)) ∷ lines (drop (1 + n) (x ∷ xs))
join_one t n x xs = ap (λ k. (t ∷ take k (x ∷ xs)) ∷ lines (drop k (x ∷ xs))) (sym (one_more n))

pub lines_front : (t : Token) (ts : List Token) → lines (t ∷ ts) ≡ (t ∷ take (beside t.line ts) ts) ∷ lines (drop (beside t.line ts) ts)
lines_front t [] = refl
lines_front t (u ∷ us) = by (nat_eq u.line t.line) refl (lines_front u us)
  where
    by : (b : Bool) → nat_eq u.line t.line ≡ b → lines (u ∷ us) ≡ (u ∷ take (beside u.line us) us) ∷ lines (drop (beside u.line us) us)
        → joined t (lines (u ∷ us)) ≡ (t ∷ take (beside t.line (u ∷ us)) (u ∷ us)) ∷ lines (drop (beside t.line (u ∷ us)) (u ∷ us))
    by true e h = let k : beside u.line us ≡ beside t.line us = ap (λ n. beside n us) (eqb-true u.line t.line e) in
        ap (joined t) h ∙ rw (e, k) (join_one t (beside t.line us) u us)
    by false e h = ap (joined t) h ∙ (rw e (ap (λ (ls : List (List Token)). (t ∷ []) ∷ ls) (sym h)))

line_again : (t : Token) (n : ℕ) → nat_eq n n ≡ true
line_again t n = search rules

-- the first line, as many tokens as stand beside the first one, and the lines after it
lines_cut : (t : Token) (us ts : List Token) → us ≡ t ∷ ts → lines us ≡ take (beside t.line us) us ∷ lines (drop (beside t.line us) us)
lines_cut t us ts e = rw e (rw (line_again t t.line) (lines_front t ts ∙ cut_one (beside t.line ts) t ts))

beside_some : (t : Token) (us ts : List Token) → us ≡ t ∷ ts → 1 ≤ beside t.line us
beside_some t us ts e = rw e (rw (line_again t t.line) (omega arith))

first_is : (us : List Token) (d : Token) → 0 < length us → us ≡ get_or us 0 d ∷ drop 1 us
first_is [] d h = absurd (omega (arith, h))
first_is (t ∷ ts) d h = refl

pub front_is : (us a b : List Token) (d : Token) (n : ℕ) → 0 < length us → n ≡ beside (get_or us 0 d).line us → a ≡ take n us → b ≡ drop n us → lines us ≡ a ∷ lines b
front_is us a b d n h e p q = rw (p, q, e) (lines_cut (get_or us 0 d) us (drop 1 us) (first_is us d h))

pub shorter_is : (us b : List Token) (d : Token) (n : ℕ) → 0 < length us → n ≡ beside (get_or us 0 d).line us → b ≡ drop n us → length b < length us
shorter_is us b d n h e q =
    let k = beside_some (get_or us 0 d) us (drop 1 us) (first_is us d h) in
    let m : length b ≡ length us - n = ap length q ∙ length-drop n us in
    omega (arith, h, k, m, e)

-- both parts of a cut keep what holds of each token
pub both : (text : List ℕ) (us a b : List Token) (n : ℕ) → a ≡ take n us → b ≡ drop n us → All (ReadsAsToken text) us → All (ReadsAsToken text) a × All (ReadsAsToken text) b
both text us a b n p q h =
    (subst (All (ReadsAsToken text)) (sym p) (All-take (ReadsAsToken text) n us h), subst (All (ReadsAsToken text)) (sym q) (All-drop (ReadsAsToken text) n us h))

-- ---- steps of the reader

-- what is refused by a fault is so elsewhere too, where the one refusal is the other
pub carried : {A B : Type 0} (r : Result A InputFault) (s : Result B InputFault) (f : InputFault) → Refuses r f → ((g : InputFault) → r ≡ Err g → s ≡ Err g) → Refuses s f
carried r s faults.OutOfMemory h go = tt
carried r s f h go = go _ h

module _ (text : List ℕ) (cut : Option FirstFault) where
  pub refused_here : (found : List Call) (us l more : List Token) (total : Calls) (f : InputFault) → lines us ≡ l ∷ lines more
      → Refuses (line_call text cut l) f → then_calls found (calls_of text cut (lines us)) ≡ total → Refuses total f
  refused_here found us l more total f e r h = carried (line_call text cut l) total f r (λ g k. sym h ∙ rw (e, k) refl)

  two_more : (found : List Call) (c : Call) (r : Calls) → then_calls found (then_calls (c ∷ []) r) ≡ then_calls (found ++ c ∷ []) r
  two_more found c (Ok cs) = ap (λ (xs : List Call). Ok xs) (sym (append_assoc found (c ∷ []) cs))
  two_more found c (Err f) = refl

  pub read_on : (found more_found : List Call) (us l more : List Token) (total : Calls) (k : Call) → lines us ≡ l ∷ lines more
      → line_call text cut l ≡ Ok k → more_found ≡ found ++ k ∷ [] → then_calls found (calls_of text cut (lines us)) ≡ total
      → then_calls more_found (calls_of text cut (lines more)) ≡ total
  read_on found more_found us l more total k e r p h = rw p (sym (two_more found k (calls_of text cut (lines more)))) ∙ sym step ∙ h
    where
      step : then_calls found (calls_of text cut (lines us)) ≡ then_calls found (then_calls (k ∷ []) (calls_of text cut (lines more)))
      step = rw (e, r) refl

-- ---- tokens before a fault

pub all_read : (text : List ℕ) (ts : List Token) (f : Option FirstFault) → IsCut style.Input text ts f → All (ReadsAsToken text) ts
all_read text ts None is = all_are style.Input text 0 (length text) ts is.1
all_read text ts (Some fault) is = all_are style.Input text 0 fault.start ts is.1

-- ---- one line

pub refuses : {A : Type 0} (r : Result A InputFault) (f : InputFault) → r ≡ Err f → Refuses r f
refuses r faults.OutOfMemory h = tt
refuses r f h = h

pub call_is : (text : List ℕ) (ts : List Token) (ls : List Lexeme) (r : Row) (f : Form) (n : ℕ) → ls ≡ line_of_words text false ts → outcome_of (classes ls) ≡ Ok r → f ≡ form_of r ls → n ≡ line_of ts
    → call_of text ts ≡ Ok (record { form = f; line = n })
call_is text ts ls r f n is read says number = rw (sym is, read, says, number) refl

no_call : (text : List ℕ) (ts : List Token) (ls : List Lexeme) (p : Place) → ls ≡ line_of_words text false ts → outcome_of (classes ls) ≡ Err p
    → call_of text ts ≡ Err (fault_at (line_of ts) (classes ls) p)
no_call text ts ls p is read = rw (sym is, read) refl

told : (f : InputFault) (ls : List Lexeme) (p : Place) (n m : ℕ) → f ≡ fault_at n (classes ls) p → n ≡ m → fault_at m (classes ls) p ≡ f
told f ls p n m says number = sym (says ∙ ap (λ k. fault_at k (classes ls) p) number)

pub refused_is : (text : List ℕ) (ts : List Token) (ls : List Lexeme) (p : Place) (f : InputFault) (n : ℕ) → ls ≡ line_of_words text false ts → outcome_of (classes ls) ≡ Err p → f ≡ fault_at n (classes ls) p → n ≡ line_of ts
    → Refuses (call_of text ts) f
refused_is text ts ls p f n is read says number = refuses (call_of text ts) f (no_call text ts ls p is read ∙ ap (λ (g : InputFault). Err g) (told f ls p n (line_of ts) says number))

not_zero : (n : ℕ) → (n ≡ 0 → ⊥) → nat_eq n 0 ≡ false
not_zero n h = by (nat_eq n 0) refl
  where
    by : (b : Bool) → nat_eq n 0 ≡ b → nat_eq n 0 ≡ false
    by true e = absurd (h (eqb-true n 0 e))
    by false e = e

cut_at : (text : List ℕ) (first : FirstFault) (ts : List Token) (ls : List Lexeme) (p : Place) → ls ≡ line_of_words text true ts → outcome_of (classes ls) ≡ Err p → nat_eq p.left 0 ≡ false
    → cut_fault text first ts ≡ fault_at (line_of ts) (classes ls) p
cut_at text first ts ls p is read some = rw (sym is, read, some) refl

pub cut_is : (text : List ℕ) (first : FirstFault) (ts : List Token) (ls : List Lexeme) (p : Place) (f : InputFault) (n : ℕ) → ls ≡ line_of_words text true ts → outcome_of (classes ls) ≡ Err p
    → (p.left ≡ 0 → ⊥) → f ≡ fault_at n (classes ls) p → n ≡ line_of ts → IsCall (Err (cut_fault text first ts)) (Err f)
cut_is text first ts ls p f n is read some says number =
    refuses (Err (cut_fault text first ts)) f (ap (λ (g : InputFault). Err g) (cut_at text first ts ls p is read (not_zero p.left some) ∙ told f ls p n (line_of ts) says number))
