-- A text has no other tokens, and no tokens past its first fault.
use Rattle.std.proofs.Common.{◌≡◌, ◌≢◌, ℕ, zero, suc, ◌+◌, ◌≤◌, List, [], ◌∷◌, ◌-◌, add-one, Option, Some, None, ◌⊎◌, inl, inr, All, length, drop, slice_get, arith, refl, sym, ap, ◌∙◌, subst}
use Rattle.std.proofs.lemmas.List.{at_drop_all}
use Rattle.trick_text.proofs.Walk.{line_more}
use Rattle.trick_text.specs.declared.fault.FirstFault.{FirstFault}
use Rattle.trick_text.specs.declared.fault.TextFault.{TextFault}
use Rattle.trick_text.specs.declared.fault.TextFault.TheVariants as faults
use Rattle.trick_text.specs.declared.piece.Piece.TheVariants.{Blank, Token, BadByte}
use Rattle.trick_text.specs.declared.token.Style.{Style}
use Rattle.trick_text.specs.declared.token.Token as declared
use Rattle.trick_text.specs.declared.token.TokenKind.{TokenKind}
use Rattle.trick_text.specs.Pieces.{front}
use Rattle.trick_text.specs.Tokens.{line_of, AreBlanks, nothing, blank, IsToken, ReadsAsToken, AreTokens, AreAllTokens, LiesIn, fault_of, IsFault, IsCut, IsCutOff, IsTooLong, IsRefused}

module _ (style : Style) (text : List ℕ) where
  -- white space and comments, seen from their front
  data Ahead : ℕ → ℕ → Type 0 where
    here : {i : ℕ} → Ahead i i
    step : {i j n : ℕ} → front style (drop i text) ≡ Blank n → Ahead (i + n) j → Ahead i j

  one_more : {i j n : ℕ} → Ahead i j → front style (drop j text) ≡ Blank n → Ahead i (j + n)
  one_more here e = step e here
  one_more (step f a) e = step f (one_more a e)

  ahead : {i j : ℕ} → AreBlanks style text i j → Ahead i j
  ahead nothing = here
  ahead (blank b e) = one_more (ahead b) e

  -- no white space and no comment stands at j
  abbrev IsStop : ℕ → Type 0
  IsStop j = (n : ℕ) → front style (drop j text) ≡ Blank n → ⊥

  -- nor does a token
  abbrev IsEnd : ℕ → Type 0
  IsEnd j = IsStop j × ((kind : TokenKind) (n : ℕ) → front style (drop j text) ≡ Token kind n → ⊥)

  width_is : (m n : ℕ) → Blank m ≡ Blank n → m ≡ n
  width_is m n e = cc

  same_place : {i j k : ℕ} → Ahead i j → Ahead i k → IsStop j → IsStop k → j ≡ k
  same_place here here p q = refl
  same_place here (step f h) p q = absurd (p _ f)
  same_place (step f h) here p q = absurd (q _ f)
  same_place {i} {j} {k} (step {n = w} f h) (step {n = v} g l) p q =
      same_place h (subst (λ z. Ahead (i + z) k) (sym (width_is w v (sym f ∙ g))) l) p q

  not_both : (n m : ℕ) (kind : TokenKind) → Token kind m ≡ Blank n → ⊥
  not_both n m kind e = cc

  token_stops : (t : declared.Token) → IsToken style text t → IsStop t.start
  token_stops t p n e = not_both n _ _ (sym p.longest ∙ e)

  parts : (a b : TokenKind) (m n : ℕ) → Token a m ≡ Token b n → (a ≡ b) × (m ≡ n)
  parts a b m n e = (cc, cc)

  same_token : (t u : declared.Token) → IsToken style text t → IsToken style text u → t.start ≡ u.start → t ≡ u
  same_token t u p q s =
      let e = parts _ _ _ _ (sym p.longest ∙ ap (λ i. front style (drop i text)) s ∙ q.longest) in
      let ends : t.end ≡ u.end = omega (arith, e.1, p.forward, q.forward) in
      let lines : t.line ≡ u.line = p.line ∙ ap (line_of text) s ∙ sym q.line in
      λ k. record { kind = e.0 k; start = s k; end = ends k; line = lines k }

  no_token : (j : ℕ) (t : declared.Token) → IsEnd j → IsToken style text t → j ≡ t.start → ⊥
  no_token j t end p s = end.1 _ _ (ap (λ i. front style (drop i text)) s ∙ p.longest)

  -- two walks from one place go over the same tokens to the same end
  same_walk : (i j k : ℕ) (ts us : List declared.Token) → AreTokens style text i ts j → AreTokens style text i us k → IsEnd j → IsEnd k → (ts ≡ us) × (j ≡ k)
  same_walk i j k [] [] p q a b = (refl, same_place (ahead p) (ahead q) a.0 b.0)
  same_walk i j k [] (u ∷ us) p q a b = absurd (no_token j u a q.1 (same_place (ahead p) (ahead q.0) a.0 (token_stops u q.1)))
  same_walk i j k (t ∷ ts) [] p q a b = absurd (no_token k t b p.1 (same_place (ahead q) (ahead p.0) b.0 (token_stops t p.1)))
  same_walk i j k (t ∷ ts) (u ∷ us) p q a b =
      let s = same_place (ahead p.0) (ahead q.0) (token_stops t p.1) (token_stops u q.1) in
      let e = same_token t u p.1 q.1 s in
      let others = same_walk t.end j k ts us p.2 (subst (λ v. AreTokens style text v.end us k) (sym e) q.2) a b in
      (λ i. e i ∷ others.0 i, others.1)

  -- where a fault stands there is neither
  fault_is_end : (j i : ℕ) (fault : TextFault) → fault_of (front style (drop j text)) i ≡ Some fault → IsEnd j
  fault_is_end j i fault e = (λ n f. none (sym (ap (λ p. fault_of p i) f) ∙ e), λ kind n f. none (sym (ap (λ p. fault_of p i) f) ∙ e))
    where
      none : None ≡ Some fault → ⊥
      none f = cc

  text_ends : front style (drop (length text) text) ≡ BadByte 0
  unfolding front
  text_ends = at_drop_all (front style) text (length text) (omega arith)

  end_is_end : IsEnd (length text)
  end_is_end = fault_is_end (length text) 0 (faults.BadByte (0 + 0)) (ap (λ p. fault_of p 0) text_ends)

  first_is_end : (f : FirstFault) → IsFault style text f → IsEnd f.start
  first_is_end f p = fault_is_end f.start f.start f.fault p.fault

  same_fault : (f g : FirstFault) → IsFault style text f → IsFault style text g → f.start ≡ g.start → f ≡ g
  same_fault f g p q s =
      let faults : f.fault ≡ g.fault = some_is _ _ (sym p.fault ∙ ap (λ i. fault_of (front style (drop i text)) i) s ∙ q.fault) in
      let lines : f.line ≡ g.line = p.line ∙ ap (line_of text) s ∙ sym q.line in
      λ k. record { fault = faults k; start = s k; line = lines k }
    where
      some_is : (a b : TextFault) → Some a ≡ Some b → a ≡ b
      some_is a b e = cc

  pub one_cut : (ts us : List declared.Token) (f g : Option FirstFault) → IsCut style text ts f → IsCut style text us g → (ts ≡ us) × (f ≡ g)
  one_cut ts us None None p q = ((same_walk 0 _ _ ts us p.1 q.1 end_is_end end_is_end).0, refl)
  one_cut ts us None (Some g) p q = let e = (same_walk 0 _ _ ts us p.1 q.1 end_is_end (first_is_end g q.2)).1 in absurd (omega (arith, e, q.2.inside))
  one_cut ts us (Some f) None p q = let e = (same_walk 0 _ _ ts us p.1 q.1 (first_is_end f p.2) end_is_end).1 in absurd (omega (arith, e, p.2.inside))
  one_cut ts us (Some f) (Some g) p q =
      let e = same_walk 0 _ _ ts us p.1 q.1 (first_is_end f p.2) (first_is_end g q.2) in
      (e.0, ap (λ h. Some h) (same_fault f g p.2 q.2 e.1))

  pub one_list : (ts us : List declared.Token) → AreAllTokens style text ts → AreAllTokens style text us → ts ≡ us
  one_list ts us p q = (one_cut ts us None None p q).0

  cut_off_has_none : (fault : TextFault) (us : List declared.Token) → IsCutOff style text fault → AreAllTokens style text us → ⊥
  cut_off_has_none fault us r q = absurd (none (one_cut r.0 us (Some r.1) None r.2 q).1)
    where
      none : Some r.1 ≡ None → ⊥
      none e = cc

  pub refused_has_none : (fault : TextFault) (ts : List declared.Token) → fault ≢ faults.OutOfMemory → IsRefused style text fault → AreAllTokens style text ts → ⊥
  refused_has_none (faults.LongText limit) ts ne r q = omega (arith, r.0, q.0)
  refused_has_none (faults.BadByte at) ts ne r q = cut_off_has_none _ ts r q
  refused_has_none (faults.OpenComment at) ts ne r q = cut_off_has_none _ ts r q
  refused_has_none (faults.LongNumber at) ts ne r q = cut_off_has_none _ ts r q
  refused_has_none faults.OutOfMemory ts ne r q = ne refl

  -- a fault that is no want of memory: the text is too long, or it is cut off there
  abbrev HasOne : TextFault → Type 0
  HasOne fault = (limit : ℕ) × (fault ≡ faults.LongText limit) × IsTooLong text limit

  has_one : (fault : TextFault) → fault ≢ faults.OutOfMemory → IsRefused style text fault → HasOne fault ⊎ IsCutOff style text fault
  has_one (faults.LongText limit) ne r = inl (limit, refl, r)
  has_one (faults.BadByte at) ne r = inr r
  has_one (faults.OpenComment at) ne r = inr r
  has_one (faults.LongNumber at) ne r = inr r
  has_one faults.OutOfMemory ne r = absurd (ne refl)

  pub one_fault : (f g : TextFault) → f ≢ faults.OutOfMemory → g ≢ faults.OutOfMemory → IsRefused style text f → IsRefused style text g → f ≡ g
  one_fault f g a b r s = by (has_one f a r) (has_one g b s)
    where
      by : HasOne f ⊎ IsCutOff style text f → HasOne g ⊎ IsCutOff style text g → f ≡ g
      by (inl p) (inl q) = p.1 ∙ ap (λ k. faults.LongText k) (p.2.1 ∙ sym q.2.1) ∙ sym q.1
      by (inl p) (inr q) = absurd (omega (arith, p.2.0, q.2.0))
      by (inr p) (inl q) = absurd (omega (arith, p.2.0, q.2.0))
      by (inr p) (inr q) = sym p.3 ∙ first_is _ _ (one_cut p.0 q.0 (Some p.1) (Some q.1) p.2 q.2).1 ∙ q.3
        where
          first_is : (x y : FirstFault) → Some x ≡ Some y → x.fault ≡ y.fault
          first_is x y e = cc

  same_some : (t u : declared.Token) → Some t ≡ Some u → t ≡ u
  same_some t u e = cc

  pub each : (i j : ℕ) (ts : List declared.Token) (k : ℕ) (t : declared.Token) → AreTokens style text i ts j → slice_get ts k ≡ Some t → IsToken style text t
  each i j [] k t p e = absurd (cc)
  each i j (u ∷ us) zero t p e = subst (IsToken style text) (same_some u t e) p.1
  each i j (u ∷ us) (suc k) t p e = each u.end j us k t p.2 e

  pub all_are : (i j : ℕ) (ts : List declared.Token) → AreTokens style text i ts j → All (ReadsAsToken text) ts
  all_are i j [] p k d h = absurd (omega arith)
  all_are i j (t ∷ ts) p zero d h = (style, p.1)
  all_are i j (t ∷ ts) p (suc k) d h = all_are t.end j ts p.2 k d (omega arith)

  pub all_lie : (i j : ℕ) (ts : List declared.Token) → AreTokens style text i ts j → All (LiesIn text) ts
  all_lie i j [] p k d h = absurd (omega arith)
  all_lie i j (t ∷ ts) p zero d h = (p.1.forward, p.1.inside)
  all_lie i j (t ∷ ts) p (suc k) d h = all_lie t.end j ts p.2 k d (omega arith)

  rise : {i j : ℕ} → AreBlanks style text i j → i ≤ j
  rise nothing = omega arith
  rise (blank b e) = omega (arith, rise b)

  line_rises : (i j : ℕ) → i ≤ j → line_of text i ≤ line_of text j
  line_rises i j h =
      let together : i + (j - i) ≡ j = omega arith in
      omega (arith, line_more text i (j - i), ap (line_of text) together)

  -- the token at k ends where the one after it begins, or before that
  next_starts : (i j : ℕ) (ts : List declared.Token) (k : ℕ) (t u : declared.Token) → AreTokens style text i ts j → slice_get ts k ≡ Some t → slice_get ts (suc k) ≡ Some u → t.end ≤ u.start
  next_starts i j [] k t u p e f = absurd (cc)
  next_starts i j (v ∷ []) zero t u p e f = absurd (cc)
  next_starts i j (v ∷ w ∷ ws) zero t u p e f =
      let t_is = same_some v t e in
      let u_is = same_some w u f in
      let le : v.end ≤ w.start = rise p.2.0 in
      omega (arith, ap (λ x. x.end) t_is, ap (λ x. x.start) u_is)
  next_starts i j (v ∷ vs) (suc k) t u p e f = next_starts v.end j vs k t u p.2 e f

  walk_rises : (i j : ℕ) (ts : List declared.Token) → AreTokens style text i ts j → i ≤ j
  walk_rises i j [] p = rise p
  walk_rises i j (t ∷ ts) p = omega (arith, rise p.0, p.1.forward, walk_rises t.end j ts p.2)

  -- and each ends at the walk's end, or before that
  ends_inside : (i j : ℕ) (ts : List declared.Token) (k : ℕ) (t : declared.Token) → AreTokens style text i ts j → slice_get ts k ≡ Some t → t.end ≤ j
  ends_inside i j [] k t p e = absurd (cc)
  ends_inside i j (v ∷ vs) zero t p e = omega (arith, ap (λ x. x.end) (same_some v t e), walk_rises v.end j vs p.2)
  ends_inside i j (v ∷ vs) (suc k) t p e = ends_inside v.end j vs k t p.2 e

  -- where the tokens of a cut end
  abbrev cut_end : Option FirstFault → ℕ
  cut_end None = length text
  cut_end (Some f) = f.start

  walk_of : (ts : List declared.Token) (f : Option FirstFault) → IsCut style text ts f → AreTokens style text 0 ts (cut_end f)
  walk_of ts None p = p.1
  walk_of ts (Some f) p = p.1

  module _ (ts : List declared.Token) (f : Option FirstFault) (cut : IsCut style text ts f) where
    pub each_of_cut : (k : ℕ) (t : declared.Token) → slice_get ts k ≡ Some t → IsToken style text t
    each_of_cut k t e = each 0 (cut_end f) ts k t (walk_of ts f cut) e

    pub all_lie_in_cut : All (LiesIn text) ts
    all_lie_in_cut = all_lie 0 (cut_end f) ts (walk_of ts f cut)

    pub in_order : (k : ℕ) (t u : declared.Token) → slice_get ts k ≡ Some t → slice_get ts (k + 1) ≡ Some u → t.end ≤ u.start
    in_order k t u at_k next = next_starts 0 (cut_end f) ts k t u (walk_of ts f cut) at_k (subst (λ n. slice_get ts n ≡ Some u) (add-one k) next)

    pub lines_rise : (k : ℕ) (t u : declared.Token) → slice_get ts k ≡ Some t → slice_get ts (k + 1) ≡ Some u → t.line ≤ u.line
    lines_rise k t u at_k next =
        let first = each_of_cut k t at_k in
        let second = each_of_cut (k + 1) u next in
        let le : t.start ≤ u.start = omega (arith, in_order k t u at_k next, first.forward) in
        omega (arith, line_rises t.start u.start le, first.line, second.line)

  pub fault_is_behind : (ts : List declared.Token) (f : FirstFault) (k : ℕ) (t : declared.Token) → IsCut style text ts (Some f) → slice_get ts k ≡ Some t → t.end ≤ f.start
  fault_is_behind ts f k t cut at_k = ends_inside 0 f.start ts k t cut.1 at_k

  pub fault_line : (ts : List declared.Token) (f : FirstFault) (k : ℕ) (t : declared.Token) → IsCut style text ts (Some f) → slice_get ts k ≡ Some t → t.line ≤ f.line
  fault_line ts f k t cut at_k =
      let is = each_of_cut ts (Some f) cut k t at_k in
      let le : t.start ≤ f.start = omega (arith, fault_is_behind ts f k t cut at_k, is.forward) in
      omega (arith, line_rises t.start f.start le, is.line, cut.2.line)
