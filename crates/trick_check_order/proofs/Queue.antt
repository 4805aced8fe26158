-- The steps of a search from one method.
use Rattle.std.proofs.Common.{◌≡◌, ℕ, zero, suc, ◌+◌, ◌<◌, ◌≤◌, Bool, true, false, List, [], ◌∷◌, ◌++◌, length, get_or, set, ◌⊎◌, inl, inr, refl, ap, sym, ◌∙◌, subst, arith}
use Rattle.std.proofs.Math.ListN.{length-append, length-set}
use Rattle.std.proofs.lemmas.Bool.{and_from, and_parts, cases_eq, cases_lt}
use Rattle.std.proofs.lemmas.List.{get_or-set_same, get_or-set_other, append_assoc, append-nil}
use Rattle.trick_check_order.proofs.Has.{has_push, has_kept, has_other, has_split, all_in_has, all_in_more, get_front, place_of}
use Rattle.trick_check_order.specs.Calls.{AreCallees, has, all_in, callees, Reaches}
use Rattle.trick_check_order.specs.Reached.{unseen, Adds, Reached}

seen_less : (seen : List Bool) (c : ℕ) → c < length seen → get_or seen c false ≡ false → suc (unseen (set seen c true)) ≡ unseen seen
seen_less [] c h e = absurd (omega arith)
seen_less (true ∷ bs) zero h e = absurd (cc e)
seen_less (false ∷ bs) zero h e = refl
seen_less (true ∷ bs) (suc c) h e = seen_less bs c (omega arith) e
seen_less (false ∷ bs) (suc c) h e = ap suc (seen_less bs c (omega arith) e)

pub adds_none : (seen : List Bool) (queue : List ℕ) → ((k : ℕ) → get_or seen k false ≡ has queue k) → Adds [] seen queue seen queue
adds_none seen queue is = record {
  size = refl;
  seen_is = is;
  behind = ([], sym (append-nil queue));
  all = refl;
  only = λ k h. inl h;
  weighs = refl;
}

pub adds_seen : (c : ℕ) (seen : List Bool) (queue : List ℕ) → ((k : ℕ) → get_or seen k false ≡ has queue k) → get_or seen c false ≡ true → Adds (c ∷ []) seen queue seen queue
adds_seen c seen queue is e = record {
  size = refl;
  seen_is = is;
  behind = ([], sym (append-nil queue));
  all = and_from _ _ (sym (is c) ∙ e) refl;
  only = λ k h. inl h;
  weighs = refl;
}

pub adds_new : (c : ℕ) (seen : List Bool) (queue : List ℕ) → c < length seen → ((k : ℕ) → get_or seen k false ≡ has queue k) → get_or seen c false ≡ false → Adds (c ∷ []) seen queue (set seen c true) (queue ++ c ∷ [])
adds_new c seen queue h is e = record {
  size = length-set seen c true;
  seen_is = λ k. elim (cases_eq c k) [ inl p ↦ subst (λ j. get_or (set seen c true) j false ≡ has (queue ++ c ∷ []) j) p (get_or-set_same seen c true false h ∙ sym (has_push queue c)) | inr p ↦ get_or-set_other seen c k true false (λ q. p (sym q)) ∙ (is k ∙ sym (has_other queue c k p)) ];
  behind = (c ∷ [], refl);
  all = and_from _ _ (has_push queue c) refl;
  only = λ k q. was k (has_split queue c k q);
  weighs = omega (arith, seen_less seen c h e, length-append queue (c ∷ []));
} where
  was : (k : ℕ) → (has queue k ≡ true) ⊎ (c ≡ k) → (has queue k ≡ true) ⊎ (has (c ∷ []) k ≡ true)
  was k (inl p) = inl p
  was k (inr p) = inr (subst (λ j. has (c ∷ []) j ≡ true) p (has_push [] c))

-- one list, and then one more
pub adds_then : (cs : List ℕ) (c : ℕ) (s t u : List Bool) (p q r : List ℕ) → Adds cs s p t q → Adds (c ∷ []) t q u r → Adds (cs ++ c ∷ []) s p u r
adds_then cs c s t u p q r a b = record {
  size = b.size ∙ a.size;
  seen_is = b.seen_is;
  behind = (a.behind.0 ++ b.behind.0, b.behind.1 ∙ (ap (λ xs. xs ++ b.behind.0) a.behind.1 ∙ append_assoc p a.behind.0 b.behind.0));
  all = all_push cs c r (all_in_more cs q r (kept q r b.behind.0 b.behind.1) a.all) (and_parts _ _ b.all).0;
  only = λ k h. join k (b.only k h);
  weighs = b.weighs ∙ a.weighs;
} where
  kept : (q r more : List ℕ) → r ≡ q ++ more → (k : ℕ) → has q k ≡ true → has r k ≡ true
  kept q r more e k h = subst (λ xs. has xs k ≡ true) (sym e) (has_kept q more k h)

  all_push : (cs : List ℕ) (c : ℕ) (r : List ℕ) → all_in cs r ≡ true → has r c ≡ true → all_in (cs ++ c ∷ []) r ≡ true
  all_push [] c r a h = and_from _ _ h refl
  all_push (x ∷ cs) c r a h = and_from _ _ (and_parts _ _ a).0 (all_push cs c r (and_parts _ _ a).1 h)

  last : (k : ℕ) → has (c ∷ []) k ≡ true → has (cs ++ c ∷ []) k ≡ true
  last k h = elim (has_split [] c k h) [ inl x ↦ absurd (cc x) | inr x ↦ subst (λ j. has (cs ++ c ∷ []) j ≡ true) x (has_push cs c) ]

  early : (k : ℕ) → (has p k ≡ true) ⊎ (has cs k ≡ true) → (has p k ≡ true) ⊎ (has (cs ++ c ∷ []) k ≡ true)
  early k (inl x) = inl x
  early k (inr x) = inr (has_kept cs (c ∷ []) k x)

  join : (k : ℕ) → (has q k ≡ true) ⊎ (has (c ∷ []) k ≡ true) → (has p k ≡ true) ⊎ (has (cs ++ c ∷ []) k ≡ true)
  join k (inl x) = early k (a.only k x)
  join k (inr x) = inr (last k x)

-- ---- reaching

pub reaches_then : (g : List (List ℕ)) (n a b c : ℕ) → Reaches g n a b → has (callees g b) c ≡ true → Reaches g (suc n) a c
reaches_then g zero a b c r h = (b, r, h)
reaches_then g (suc n) a b c r h = (r.0, r.1, reaches_then g n r.0 b c r.2 h)

pub reached_start : (g : List (List ℕ)) (method : ℕ) (s t : List Bool) (q : List ℕ) → length s ≡ length g → Adds (callees g method) s [] t q → Reached g method t q 0
reached_start g method s t q size a = record {
  size = a.size ∙ size;
  seen_is = a.seen_is;
  reached = λ k h. elim (a.only k h) [ inl x ↦ absurd (cc x) | inr x ↦ (0, x) ];
  started = a.all;
  closed = λ i h. absurd (omega arith);
  within = omega arith;
}

pub reached_next : (g : List (List ℕ)) (method head : ℕ) (s t : List Bool) (p q : List ℕ) → Reached g method s p head → head < length p → Adds (callees g (get_or p head 0)) s p t q → Reached g method t q (head + 1)
reached_next g method head s t p q r h a = record {
  size = a.size ∙ r.size;
  seen_is = a.seen_is;
  reached = λ k x. elim (a.only k x) [ inl y ↦ r.reached k y | inr y ↦ further k y (r.reached (get_or p head 0) (has_at' p head h)) ];
  started = all_in_more _ p q kept r.started;
  closed = λ i x. elim (cases_lt i head) [ inl y ↦ subst (λ m. all_in (callees g m) q ≡ true) (same i (omega arith)) (all_in_more _ p q kept (r.closed i y)) | inr y ↦ here i (omega arith) ];
  within = omega (arith, longer);
} where
  has_at' : (xs : List ℕ) (i : ℕ) → i < length xs → has xs (get_or xs i 0) ≡ true
  has_at' xs i h = Rattle.trick_check_order.proofs.Has.has_at xs i h

  kept : (k : ℕ) → has p k ≡ true → has q k ≡ true
  kept k x = subst (λ xs. has xs k ≡ true) (sym a.behind.1) (has_kept p a.behind.0 k x)

  same : (i : ℕ) → i < length p → get_or p i 0 ≡ get_or q i 0
  same i x = sym (ap (λ xs. get_or xs i 0) a.behind.1 ∙ get_front p a.behind.0 i x)

  longer : length p ≤ length q
  longer = omega (arith, ap length a.behind.1, length-append p a.behind.0)

  further : (k : ℕ) → has (callees g (get_or p head 0)) k ≡ true → (n : ℕ) × Reaches g n method (get_or p head 0) → (n : ℕ) × Reaches g n method k
  further k y (n, z) = (suc n, reaches_then g n method (get_or p head 0) k z y)

  here : (i : ℕ) → i ≡ head → all_in (callees g (get_or q i 0)) q ≡ true
  here i e = subst (λ m. all_in (callees g m) q ≡ true) (same head h ∙ ap (λ j. get_or q j 0) (sym e)) a.all

-- at the end all that is called is in the queue
called_all : (g : List (List ℕ)) (method head : ℕ) (s : List Bool) (q : List ℕ) → Reached g method s q head → length q ≤ head → (a b : ℕ) → has q a ≡ true → has (callees g a) b ≡ true → has q b ≡ true
called_all g method head s q r past a b h x = let p = place_of q a h in all_in_has (callees g a) q b (subst (λ m. all_in (callees g m) q ≡ true) p.2 (r.closed p.0 (omega (arith, p.1)))) x

-- and so all that is reached
pub reached_all : (g : List (List ℕ)) (method head : ℕ) (s : List Bool) (q : List ℕ) → Reached g method s q head → length q ≤ head → (n a b : ℕ) → has q a ≡ true → Reaches g n a b → has q b ≡ true
reached_all g method head s q r past zero a b h x = called_all g method head s q r past a b h x
reached_all g method head s q r past (suc n) a b h x = reached_all g method head s q r past n x.0 b (called_all g method head s q r past a x.0 h x.1) x.2

pub reached_end : (g : List (List ℕ)) (method head : ℕ) (s : List Bool) (q : List ℕ) → Reached g method s q head → length q ≤ head → (n : ℕ) → Reaches g n method method → has q method ≡ true
reached_end g method head s q r past zero x = all_in_has (callees g method) q method r.started x
reached_end g method head s q r past (suc n) x = reached_all g method head s q r past n x.0 method (all_in_has (callees g method) q x.0 r.started x.1) x.2

-- what is reached is there
pub reaches_below : (g : List (List ℕ)) → AreCallees g → (n a b : ℕ) → Reaches g n a b → b < length g
reaches_below g are zero a b r = are a b r
reaches_below g are (suc n) a b r = reaches_below g are n r.0 b r.2
