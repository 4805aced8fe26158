-- The outcome over a table.
use Rattle.std.proofs.Common.{rules, ◌≡◌, ◌⊎◌, inl, inr, ℕ, ◌-◌, ◌≤◌, Bool, true, false, nat_lt, List, [], ◌∷◌, ◌++◌, length, take, drop, Result, Ok, Err, refl, sym, ap, ◌∙◌, subst, arith, ap₂, append_assoc, length-drop, take-append-drop}
use Rattle.std.proofs.Math.Bool.{or-true}
use Rattle.std.proofs.lemmas.Bool.{ltb-true, or_cases}
use Rattle.trick_input.specs.Forms.{HasForm, Walk, arrived, stands, walk, pieces, further, decided, outcome, outcome_of, rows}
use Rattle.trick_input.specs.Exact.{IsRow, GoesOn, IsFirst, IsRefused, IsExact}
use Rattle.trick_input.proofs.Steps.{left_of, some_line, arrives, arrived_has, far, there, due_back, due_there}
use Rattle.trick_input.specs.declared.class.Class.{Class}
use Rattle.trick_input.specs.declared.class.Class.TheVariants as the
use Rattle.trick_input.specs.declared.form.Row.{Row}
use Rattle.trick_input.specs.declared.form.Row.TheVariants as row
use Rattle.trick_input.specs.declared.line.Place.{Place}

-- what is known of the furthest place
pub record Furthest (rs : List Row) (ws : List Class) (p q : Place) : Type 0 where
  below : q.left ≤ p.left
  kept : p.left ≡ q.left → p.due ≡ true → q.due ≡ true
  each : (r : Row) → IsRow rs r → (l : ℕ) × (d : Bool) × (walk (pieces r) ws ≡ stands l d) × (q.left ≤ l) × (l ≡ q.left → d ≡ true → q.due ≡ true)
  some : (q.left ≡ p.left) ⊎ ((r : Row) × (d : Bool) × IsRow rs r × (walk (pieces r) ws ≡ stands q.left d))
  due : q.due ≡ true → ((q.left ≡ p.left) × (p.due ≡ true)) ⊎ ((r : Row) × IsRow rs r × (walk (pieces r) ws ≡ stands q.left true))

-- one step: the nearer of two places is no matter
record Nearer (p : Place) (l : ℕ) (d : Bool) (m : Place) : Type 0 where
  before : m.left ≤ p.left
  beside : m.left ≤ l
  keeps : p.left ≡ m.left → p.due ≡ true → m.due ≡ true
  takes : l ≡ m.left → d ≡ true → m.due ≡ true
  which : (m.left ≡ p.left) ⊎ (m.left ≡ l)
  from : m.due ≡ true → ((m.left ≡ p.left) × (p.due ≡ true)) ⊎ ((m.left ≡ l) × (d ≡ true))

lt_false : (a b : ℕ) → nat_lt a b ≡ false → b ≤ a
lt_false a b h = search rules

nearer : (p : Place) (l : ℕ) (d : Bool) → Nearer p l d (further p l d)
nearer p l d = by (nat_lt l p.left) refl (nat_lt p.left l) refl
  where
    by : (a : Bool) → nat_lt l p.left ≡ a → (b : Bool) → nat_lt p.left l ≡ b → Nearer p l d (further p l d)
    by true e b f = let lt = ltb-true _ _ e in rw e (record { before = omega (arith, lt); beside = omega arith; keeps = λ h k. absurd (omega (arith, lt, h)); takes = λ h k. k; which = inr refl; from = λ h. inr (refl, h) })
    by false e true f = let lt = ltb-true _ _ f in rw (e, f) (record { before = omega arith; beside = omega (arith, lt); keeps = λ h k. k; takes = λ h k. absurd (omega (arith, lt, h)); which = inl refl; from = λ h. inl (refl, h) })
    by false e false f =
        let same : p.left ≡ l = omega (arith, lt_false _ _ e, lt_false _ _ f) in
        rw (e, f) (record { before = omega arith; beside = omega (arith, same); keeps = λ h k. rw k refl; takes = λ h k. rw k (or-true p.due); which = inl refl; from = λ h. choose same (or_cases p.due d h) })
      where
        choose : p.left ≡ l → (p.due ≡ true) ⊎ (d ≡ true) → ((p.left ≡ p.left) × (p.due ≡ true)) ⊎ ((p.left ≡ l) × (d ≡ true))
        choose same (inl h) = inl (refl, h)
        choose same (inr h) = inr (same, h)

step : (r : Row) (rs : List Row) (ws : List Class) (p q : Place) (l : ℕ) (d : Bool) → walk (pieces r) ws ≡ stands l d → Furthest rs ws (further p l d) q → Furthest (r ∷ rs) ws p q
step r rs ws p q l d at f =
    let n = nearer p l d in
    record {
      below = omega (arith, n.before, f.below);
      kept = λ h k. f.kept (omega (arith, n.before, f.below, h)) (n.keeps (omega (arith, n.before, f.below, h)) k);
      each = λ s is. each_row s is;
      some = some_row f.some n.which;
      due = λ h. due_row (f.due h);
    }
  where
    m : Place
    m = further p l d

    each_row : (s : Row) → IsRow (r ∷ rs) s → (k : ℕ) × (e : Bool) × (walk (pieces s) ws ≡ stands k e) × (q.left ≤ k) × (k ≡ q.left → e ≡ true → q.due ≡ true)
    each_row s (inl is) =
        let n = nearer p l d in
        (l, d, subst (λ t. walk (pieces t) ws ≡ stands l d) is at, omega (arith, n.beside, f.below), λ h k. f.kept (omega (arith, n.beside, f.below, h)) (n.takes (omega (arith, n.beside, f.below, h)) k))
    each_row s (inr is) = f.each s is

    some_row : (q.left ≡ (further p l d).left) ⊎ ((s : Row) × (e : Bool) × IsRow rs s × (walk (pieces s) ws ≡ stands q.left e)) → ((further p l d).left ≡ p.left) ⊎ ((further p l d).left ≡ l)
        → (q.left ≡ p.left) ⊎ ((s : Row) × (e : Bool) × IsRow (r ∷ rs) s × (walk (pieces s) ws ≡ stands q.left e))
    some_row (inl h) (inl k) = inl (h ∙ k)
    some_row (inl h) (inr k) = inr (r, d, inl refl, at ∙ ap (λ i. stands i d) (sym (h ∙ k)))
    some_row (inr h) k = inr (h.0, h.1, inr h.2, h.3)

    due_row : ((q.left ≡ (further p l d).left) × ((further p l d).due ≡ true)) ⊎ ((s : Row) × IsRow rs s × (walk (pieces s) ws ≡ stands q.left true))
        → ((q.left ≡ p.left) × (p.due ≡ true)) ⊎ ((s : Row) × IsRow (r ∷ rs) s × (walk (pieces s) ws ≡ stands q.left true))
    due_row (inl h) = from_here h.0 ((nearer p l d).from h.1)
      where
        from_here : q.left ≡ (further p l d).left → (((further p l d).left ≡ p.left) × (p.due ≡ true)) ⊎ (((further p l d).left ≡ l) × (d ≡ true))
            → ((q.left ≡ p.left) × (p.due ≡ true)) ⊎ ((s : Row) × IsRow (r ∷ rs) s × (walk (pieces s) ws ≡ stands q.left true))
        from_here h (inl k) = inl (h ∙ k.0, k.1)
        from_here h (inr k) = inr (r, inl refl, at ∙ ap₂ (λ i e. stands i e) (sym (h ∙ k.0)) k.1)
    due_row (inr h) = inr (h.0, inr h.1, h.2)

pub furthest : (rs : List Row) (ws : List Class) (p q : Place) → outcome rs ws p ≡ Err q → Furthest rs ws p q
furthest [] ws p q h =
    let e : p ≡ q = cc in
    record { below = rw e (omega arith); kept = λ i k. subst (λ t. t.due ≡ true) e k; each = λ r is. absurd is; some = inl (ap (λ (t : Place). t.left) (sym e)); due = λ k. inl (ap (λ (t : Place). t.left) (sym e), subst (λ t. t.due ≡ true) (sym e) k) }
furthest (r ∷ rs) ws p q h = by (λ m. furthest rs ws m q) (walk (pieces r) ws) refl h
  where
    by : ((m : Place) → outcome rs ws m ≡ Err q → Furthest rs ws m q) → (w : Walk) → walk (pieces r) ws ≡ w → decided w r p (λ m. outcome rs ws m) ≡ Err q → Furthest (r ∷ rs) ws p q
    by rec arrived e k = absurd cc
    by rec (stands l d) e k = step r rs ws p q l d e (rec (further p l d) k)

pub first_row : (rs : List Row) (ws : List Class) (p : Place) (r : Row) → outcome rs ws p ≡ Ok r → IsFirst rs r ws
first_row [] ws p r h = absurd cc
first_row (q ∷ rs) ws p r h = by (λ m. first_row rs ws m r) (walk (pieces q) ws) refl h
  where
    by : ((m : Place) → outcome rs ws m ≡ Ok r → IsFirst rs r ws) → (w : Walk) → walk (pieces q) ws ≡ w → decided w q p (λ m. outcome rs ws m) ≡ Ok r → IsFirst (q ∷ rs) r ws
    by rec arrived e k = let is : q ≡ r = cc in inl (is, subst (λ t. HasForm (pieces t) ws) is (arrived_has (pieces q) ws e))
    by rec (stands l d) e k = inr ((λ has. not_both l d (sym (arrives (pieces q) ws has) ∙ e)), rec (further p l d) k)
      where
        not_both : (l : ℕ) (d : Bool) → arrived ≡ stands l d → ⊥
        not_both l d e = cc

not_arrived : (l : ℕ) (d : Bool) → arrived ≡ stands l d → ⊥
not_arrived l d e = cc

front_again : (front : List Class) (w : Class) (more : List Class) → (front ++ w ∷ []) ++ more ≡ front ++ w ∷ more
front_again front w more = append_assoc front (w ∷ []) more

pub refused : (r : Row) (rs : List Row) (ws : List Class) (q : Place) → outcome (r ∷ rs) ws (record { left = length ws; due = false }) ≡ Err q → IsRefused (r ∷ rs) ws q
refused r rs ws q h =
    let f = furthest (r ∷ rs) ws (record { left = length ws; due = false }) q h in
    made f (sym (take-append-drop (length ws - q.left) ws)) (dropped f)
  where
    front : List Class
    front = take (length ws - q.left) ws

    rest : List Class
    rest = drop (length ws - q.left) ws

    dropped : Furthest (r ∷ rs) ws (record { left = length ws; due = false }) q → length rest ≡ q.left
    dropped f = let k = length-drop (length ws - q.left) ws in let b = f.below in omega (arith, k, b)

    made : Furthest (r ∷ rs) ws (record { left = length ws; due = false }) q → ws ≡ front ++ rest → length rest ≡ q.left → IsRefused (r ∷ rs) ws q
    made f parts left = record {
      front = front;
      rest = rest;
      parts = parts;
      left = left;
      goes_on = goes f.some;
      stops = λ w more is g. beyond w more is g;
      outside = λ s is has. let e = f.each s is in not_arrived e.0 e.1 (sym (arrives (pieces s) ws has) ∙ e.2);
      literal = (λ due. due_goes (f.due due), λ g. goes_due g);
    }
      where
        walks : (s : Row) (l : ℕ) (d : Bool) → walk (pieces s) ws ≡ stands l d → l ≡ q.left → walk (pieces s) (front ++ rest) ≡ stands (length rest) d
        walks s l d e same = subst (λ us. walk (pieces s) us ≡ stands l d) parts e ∙ ap (λ i. stands i d) (same ∙ sym left)

        all_left : q.left ≡ length ws → front ≡ []
        all_left e = ap (λ n. take n ws) (zero_of (length ws) q.left e)
          where
            zero_of : (n m : ℕ) → m ≡ n → n - m ≡ 0
            zero_of n m e = omega (arith, e)

        goes : (q.left ≡ length ws) ⊎ ((s : Row) × (d : Bool) × IsRow (r ∷ rs) s × (walk (pieces s) ws ≡ stands q.left d)) → GoesOn (r ∷ rs) front
        goes (inl e) = let k = some_line (pieces r) in (r, k.0, inl refl, subst (λ us. HasForm (pieces r) (us ++ k.0)) (sym (all_left e)) k.1)
        goes (inr e) = let k = there (pieces e.0) front rest e.1 (walks e.0 q.left e.1 e.3 refl) in (e.0, k.0, e.2, k.1)

        beyond : (w : Class) (more : List Class) → rest ≡ w ∷ more → GoesOn (r ∷ rs) (front ++ w ∷ []) → ⊥
        beyond w more is g =
            let e = f.each g.0 g.2 in
            let has : HasForm (pieces g.0) ((front ++ w ∷ []) ++ g.1) = g.3 in
            let short = far (pieces g.0) (front ++ w ∷ []) g.1 more has in
            let here : (front ++ w ∷ []) ++ more ≡ ws = front_again front w more ∙ (ap (λ us. front ++ us) (sym is) ∙ sym parts) in
            let less : e.0 ≤ length more = subst (λ t. left_of t ≤ length more) e.2 (subst (λ us. left_of (walk (pieces g.0) us) ≤ length more) here short) in
            let count : length rest ≡ length (w ∷ more) = ap length is in
            omega (arith, less, count, e.3, left)

        due_goes : ((q.left ≡ length ws) × (false ≡ true)) ⊎ ((s : Row) × IsRow (r ∷ rs) s × (walk (pieces s) ws ≡ stands q.left true)) → GoesOn (r ∷ rs) (front ++ the.Zero ∷ [])
        due_goes (inl e) = absurd (nothing e.1)
          where
            nothing : false ≡ true → ⊥
            nothing e = cc
        due_goes (inr e) = let k = due_back (pieces e.0) front rest (walks e.0 q.left true e.2 refl) in (e.0, k.0, e.1, k.1)

        goes_due : GoesOn (r ∷ rs) (front ++ the.Zero ∷ []) → q.due ≡ true
        goes_due g =
            let e = f.each g.0 g.2 in
            let short = far (pieces g.0) front ((the.Zero ∷ []) ++ g.1) rest (subst (λ us. HasForm (pieces g.0) us) (append_assoc front (the.Zero ∷ []) g.1) g.3) in
            let less : e.0 ≤ length rest = subst (λ t. left_of t ≤ length rest) e.2 (subst (λ us. left_of (walk (pieces g.0) us) ≤ length rest) (sym parts) short) in
            let same : e.0 ≡ q.left = omega (arith, less, e.3, left) in
            e.4 same (due_there (pieces g.0) front rest g.1 e.1 g.3 (walks g.0 e.0 e.1 e.2 same))

pub exact : (ws : List Class) (res : Result Row Place) → outcome_of ws ≡ res → IsExact rows ws res
exact ws (Ok r) h = first_row rows ws (record { left = length ws; due = false }) r h
exact ws (Err q) h = refused row.ThisOwn _ ws q h
