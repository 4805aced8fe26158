-- What a form's pieces take, one token at a time.
use Rattle.std.proofs.Common.{◌≡◌, ℕ, ◌+◌, ◌≤◌, Bool, true, false, nat_eq, List, [], ◌∷◌, ◌++◌, length, Option, Some, None, is_some, refl, sym, ap, ◌∙◌, subst, arith, if◌then◌else◌}
use Rattle.std.proofs.lemmas.Bool.{eqb-true}
use Rattle.trick_base.proofs.Numbers.{equal_to_itself}
use Rattle.trick_input.specs.Classes.{is, number_of}
use Rattle.trick_input.specs.Forms.{fits, HasForm, PathTo, assigned, member, index, after, is_due, Walk, arrived, stands, walk, onward}
use Rattle.trick_input.specs.declared.class.Class.{Class}
use Rattle.trick_input.specs.declared.class.Class.TheVariants as the
use Rattle.trick_input.specs.declared.form.Sort.{Sort}
use Rattle.trick_input.specs.declared.form.Sort.TheVariants.{Is, Head, Variable, Name, Number, Time, Literal, Quoted, Process, Recording}
use Rattle.trick_input.specs.declared.form.Piece.{Piece}
use Rattle.trick_input.specs.declared.form.Piece.TheVariants.{One, Path}

-- a class that is this one is not that other one
apart : (w u v : Class) → is w u ≡ true → is u v ≡ false → is w v ≡ false
apart w u v h k = subst (λ n. nat_eq n (number_of v) ≡ false) (sym (eqb-true (number_of w) (number_of u) h)) k

-- a form with a token taken from its front
abbrev pub Taken : List Piece → Class → List Class → Type 0
Taken f w ws = (g : List Piece) × (after f w ≡ Some g) × HasForm g ws

head_is : {A : Type 0} {x y : A} {xs ys : List A} → x ∷ xs ≡ y ∷ ys → (x ≡ y) × (xs ≡ ys)
head_is h = (cc, cc)

path_taken : (f : List Piece) (rest us : List Class) (w : Class) (ws : List Class) → PathTo rest us → HasForm f rest → us ≡ w ∷ ws → Taken (Path ∷ f) w ws
path_taken f rest [] w ws path more e = elim path [ ]
path_taken f rest (v ∷ vs) w ws (assigned a) more e =
    let p = head_is e in
    let h : is w the.Assign ≡ true = subst (λ u. is u the.Assign ≡ true) p.0 a in
    (f, rw (apart w the.Assign the.Dot h refl, apart w the.Assign the.OpenBracket h refl, h) refl, subst (λ us. HasForm f us) p.1 more)
path_taken f rest (d ∷ n ∷ vs) w ws (member a b path) more e =
    let p = head_is e in
    let h : is w the.Dot ≡ true = subst (λ u. is u the.Dot ≡ true) p.0 a in
    (One Name ∷ Path ∷ f, rw h refl, (n, vs, sym p.1, b, (rest, path, more)))
path_taken f rest (d ∷ n ∷ c ∷ vs) w ws (index a b k path) more e =
    let p = head_is e in
    let h : is w the.OpenBracket ≡ true = subst (λ u. is u the.OpenBracket ≡ true) p.0 a in
    (One Number ∷ One (Is the.CloseBracket) ∷ Path ∷ f, rw (apart w the.OpenBracket the.Dot h refl, h) refl, (n, c ∷ vs, sym p.1, b, (c, vs, refl, k, (rest, path, more))))

-- a line of the form begins with a token that the form takes
pub taken : (f : List Piece) (w : Class) (ws : List Class) → HasForm f (w ∷ ws) → Taken f w ws
taken [] w ws h = absurd cc
taken (One s ∷ f) w ws h =
    let p = head_is h.2 in
    (f, rw (subst (λ u. fits s u ≡ true) (sym p.0) h.3) refl, subst (λ us. HasForm f us) (sym p.1) h.4)
taken (Path ∷ f) w ws h = path_taken f h.0 (w ∷ ws) w ws h.1 h.2 refl

some_is : {A : Type 0} {x y : A} → Some x ≡ Some y → x ≡ y
some_is h = cc

path_back : (f : List Piece) (w : Class) (g : List Piece) (ws : List Class) (d b a : Bool) → is w the.Dot ≡ d → is w the.OpenBracket ≡ b → is w the.Assign ≡ a
    → (if d then Some (One Name ∷ Path ∷ f) else if b then Some (One Number ∷ One (Is the.CloseBracket) ∷ Path ∷ f) else if a then Some f else None) ≡ Some g
    → HasForm g ws → HasForm (Path ∷ f) (w ∷ ws)
path_back f w g ws true b a di bi ai e h =
    let k : HasForm (One Name ∷ Path ∷ f) ws = subst (λ q. HasForm q ws) (sym (some_is e)) h in
    (k.4.0, subst (λ us. PathTo k.4.0 (w ∷ us)) (sym k.2) (member di k.3 k.4.1), k.4.2)
path_back f w g ws false true a di bi ai e h =
    let k : HasForm (One Number ∷ One (Is the.CloseBracket) ∷ Path ∷ f) ws = subst (λ q. HasForm q ws) (sym (some_is e)) h in
    (k.4.4.0, subst (λ us. PathTo k.4.4.0 (w ∷ us)) (sym (k.2 ∙ ap (λ us. k.0 ∷ us) k.4.2)) (index bi k.3 k.4.3 k.4.4.1), k.4.4.2)
path_back f w g ws false false true di bi ai e h = (ws, assigned ai, subst (λ q. HasForm q ws) (sym (some_is e)) h)
path_back f w g ws false false false di bi ai e h = absurd cc

-- and what follows a token that is taken makes a line of the form
pub put_back : (f : List Piece) (w : Class) (g : List Piece) (ws : List Class) → after f w ≡ Some g → HasForm g ws → HasForm f (w ∷ ws)
put_back [] w g ws e h = absurd cc
put_back (One s ∷ f) w g ws e h = by (fits s w) refl e
  where
    by : (b : Bool) → fits s w ≡ b → (if b then Some f else None) ≡ Some g → HasForm (One s ∷ f) (w ∷ ws)
    by true fit k = (w, ws, refl, fit, subst (λ q. HasForm q ws) (sym (some_is k)) h)
    by false fit k = absurd cc
put_back (Path ∷ f) w g ws e h = path_back f w g ws (is w the.Dot) (is w the.OpenBracket) (is w the.Assign) refl refl refl e h

-- a token of each sort
abbrev sample : Sort → Class
sample (Is v) = v
sample Head = the.Name
sample Variable = the.Name
sample Name = the.Name
sample Number = the.Zero
sample Time = the.Zero
sample Literal = the.Zero
sample Quoted = the.Text
sample Process = the.ScheduledType
sample Recording = the.Always

sample_fits : (s : Sort) → fits s (sample s) ≡ true
sample_fits (Is v) = equal_to_itself (number_of v)
sample_fits s = refl

-- each form has a line
pub some_line : (f : List Piece) → (ws : List Class) × HasForm f ws
some_line [] = ([], refl)
some_line (One s ∷ f) = let k = some_line f in (sample s ∷ k.0, (sample s, k.0, refl, sample_fits s, k.1))
some_line (Path ∷ f) = let k = some_line f in (the.Assign ∷ k.0, (k.0, assigned refl, k.1))

-- ---- walks

abbrev pub left_of : Walk → ℕ
left_of arrived = 0
left_of (stands left due) = left

pub short : (f : List Piece) (ws : List Class) → left_of (walk f ws) ≤ length ws
short [] [] = omega arith
short (p ∷ f) [] = omega arith
short f (w ∷ ws) = by (after f w) (λ g. short g ws)
  where
    by : (o : Option (List Piece)) → ((g : List Piece) → left_of (walk g ws) ≤ length ws) → left_of (onward o (stands (length (w ∷ ws)) (is_due f)) (λ g. walk g ws)) ≤ length (w ∷ ws)
    by None rec = omega arith
    by (Some g) rec = let k = rec g in omega (arith, k)

pub arrives : (f : List Piece) (ws : List Class) → HasForm f ws → walk f ws ≡ arrived
arrives [] [] h = refl
arrives (One s ∷ f) [] h = absurd cc
arrives (Path ∷ f) [] h = absurd (no_path f h.0 [] h.1 refl)
  where
    no_path : (f : List Piece) (rest us : List Class) → PathTo rest us → us ≡ [] → ⊥
    no_path f rest [] path e = elim path [ ]
    no_path f rest (v ∷ vs) (assigned a) e = cc
    no_path f rest (d ∷ n ∷ vs) (member a b path) e = cc
    no_path f rest (d ∷ n ∷ c ∷ vs) (index a b k path) e = cc
arrives f (w ∷ ws) h =
    let k = taken f w ws h in
    rw k.1 (arrives k.0 ws k.2)

pub arrived_has : (f : List Piece) (ws : List Class) → walk f ws ≡ arrived → HasForm f ws
arrived_has [] [] h = refl
arrived_has (p ∷ f) [] h = absurd cc
arrived_has f (w ∷ ws) h = by (λ g. arrived_has g ws) (after f w) refl h
  where
    by : ((g : List Piece) → walk g ws ≡ arrived → HasForm g ws) → (o : Option (List Piece)) → after f w ≡ o → onward o (stands (length (w ∷ ws)) (is_due f)) (λ g. walk g ws) ≡ arrived → HasForm f (w ∷ ws)
    by rec None e k = absurd cc
    by rec (Some g) e k = put_back f w g ws e (rec g k)

-- where a line begins as one of the form, the walk goes as far
pub far : (f : List Piece) (front more ws : List Class) → HasForm f (front ++ more) → left_of (walk f (front ++ ws)) ≤ length ws
far f [] more ws h = short f ws
far f (w ∷ front) more ws h =
    let k = taken f w (front ++ more) h in
    rw k.1 (far k.0 front more ws k.2)

abbrev pub Goes : List Piece → List Class → Type 0
Goes f front = (more : List Class) × HasForm f (front ++ more)

too_far : (f : List Piece) (ws : List Class) (n : ℕ) (d : Bool) → walk f ws ≡ stands n d → n ≤ length ws
too_far f ws n d h = subst (λ q. left_of q ≤ length ws) h (short f ws)

left_same : (m n : ℕ) (a b : Bool) → stands m a ≡ stands n b → (m ≡ n) × (a ≡ b)
left_same m n a b h = (cc, cc)

append_length : (front rest : List Class) → length (front ++ rest) ≡ length front + length rest
append_length [] rest = omega arith
append_length (w ∷ front) rest = let k = append_length front rest in omega (arith, k)

-- where the walk stands, a line of the form begins with what it passed
pub there : (f : List Piece) (front rest : List Class) (d : Bool) → walk f (front ++ rest) ≡ stands (length rest) d → Goes f front
there f [] rest d h = some_line f
there f (w ∷ front) rest d h = by (λ g. there g front rest d) (after f w) refl h
  where
    by : ((g : List Piece) → walk g (front ++ rest) ≡ stands (length rest) d → Goes g front) → (o : Option (List Piece)) → after f w ≡ o → onward o (stands (length (w ∷ (front ++ rest))) (is_due f)) (λ g. walk g (front ++ rest)) ≡ stands (length rest) d → Goes f (w ∷ front)
    by rec None e k = let n = (left_same _ _ _ _ k).0 in let a = append_length front rest in absurd (omega (arith, n, a))
    by rec (Some g) e k = let m = rec g k in (m.0, put_back f w g (front ++ m.0) e m.1)

-- and a literal is due exactly where one goes on
due_here : (f : List Piece) → is_due f ≡ true → Goes f (the.Zero ∷ [])
due_here f h = by (after f the.Zero) refl h
  where
    by : (o : Option (List Piece)) → after f the.Zero ≡ o → is_some o ≡ true → Goes f (the.Zero ∷ [])
    by None e k = absurd cc
    by (Some g) e k = let m = some_line g in (m.0, put_back f the.Zero g m.0 e m.1)

stands_here : (f : List Piece) (ws : List Class) (d : Bool) → walk f ws ≡ stands (length ws) d → is_due f ≡ d
stands_here [] [] d h = absurd cc
stands_here (p ∷ f) [] d h = (left_same _ _ _ _ h).1
stands_here f (w ∷ ws) d h = by (after f w) h
  where
    by : (o : Option (List Piece)) → onward o (stands (length (w ∷ ws)) (is_due f)) (λ g. walk g ws) ≡ stands (length (w ∷ ws)) d → is_due f ≡ d
    by None k = (left_same _ _ _ _ k).1
    by (Some g) k = let n = too_far g ws (length (w ∷ ws)) d k in absurd (omega (arith, n))

pub due_back : (f : List Piece) (front rest : List Class) → walk f (front ++ rest) ≡ stands (length rest) true → Goes f (front ++ the.Zero ∷ [])
due_back f [] rest h = due_here f (stands_here f rest true h)
due_back f (w ∷ front) rest h = by (λ g. due_back g front rest) (after f w) refl h
  where
    by : ((g : List Piece) → walk g (front ++ rest) ≡ stands (length rest) true → Goes g (front ++ the.Zero ∷ [])) → (o : Option (List Piece)) → after f w ≡ o → onward o (stands (length (w ∷ (front ++ rest))) (is_due f)) (λ g. walk g (front ++ rest)) ≡ stands (length rest) true → Goes f (w ∷ (front ++ the.Zero ∷ []))
    by rec None e k = let n = (left_same _ _ _ _ k).0 in let a = append_length front rest in absurd (omega (arith, n, a))
    by rec (Some g) e k = let m = rec g k in (m.0, put_back f w g ((front ++ the.Zero ∷ []) ++ m.0) e m.1)

pub due_there : (f : List Piece) (front rest more : List Class) (d : Bool) → HasForm f ((front ++ the.Zero ∷ []) ++ more) → walk f (front ++ rest) ≡ stands (length rest) d → d ≡ true
due_there f [] rest more d h k =
    let t = taken f the.Zero more h in
    sym (stands_here f rest d k) ∙ rw t.1 refl
due_there f (w ∷ front) rest more d h k =
    let t = taken f w ((front ++ the.Zero ∷ []) ++ more) h in
    due_there t.0 front rest more d t.2 (rw t.1 at k)
