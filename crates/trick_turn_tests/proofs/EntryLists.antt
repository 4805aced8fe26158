-- One more entry, and what the chief's own entries say of the board.
use Rattle.std.proofs.Common.{◌≡◌, ℕ, Bool, true, false, ◌⊎◌, inl, inr, ⊎_elim, cond, eqb, filter, eq-eqb, Option, Some, None, IsSome, List, [], ◌∷◌, ◌++◌, refl, sym, ap, ◌∙◌, subst, slice_set}
use Rattle.std.specs.Option.{option_map}
use Rattle.trick_turn_tests.specs.declared.board.Entry.{Entry}
use Rattle.trick_turn_tests.specs.declared.board.Entry.TheVariants.{Open, Store, Close}
use Rattle.trick_turn_tests.specs.Entries.{seat_of}
use Rattle.trick_turn_tests.specs.Histories.{step, after, May, IsLegal, Stands, Opening, entry_of, opened_from, opened_at, AreStores, Leaves}

abbrev Left : Type 0
Left = Option (List ℕ)

pub after_more : (left : Left) (log : List Entry) (e : Entry) → after left (log ++ e ∷ []) ≡ step (after left log) e
after_more left [] e = refl
after_more left (x ∷ xs) e = after_more (step left x) xs e

pub legal_more : (left : Left) (log : List Entry) (e : Entry) → IsLegal left log → May (after left log) e → IsLegal left (log ++ e ∷ [])
legal_more left [] e legal may = (may, tt)
legal_more left (x ∷ xs) e (first, legal) may = (first, legal_more (step left x) xs e legal may)

pub stands_more : (left next : Left) (log : List Entry) (e : Entry) → Stands left log → May left e → next ≡ step left e → Stands next (log ++ e ∷ [])
stands_more left next log e (is, legal) may now =
    (now ∙ (ap (λ (m : Left). step m e) is ∙ sym (after_more None log e)), legal_more None log e legal (subst (λ (m : Left). May m e) is may))

after_both : (left : Left) (xs ys : List Entry) → after left (xs ++ ys) ≡ after (after left xs) ys
after_both left [] ys = refl
after_both left (x ∷ xs) ys = after_both (step left x) xs ys

-- the chief's entries
abbrev chiefs : List Entry → List Entry
chiefs log = filter (λ e. eqb (seat_of e) 1) log

-- an entry of the chief's is one of them
here : (e : Entry) (log : List Entry) → seat_of e ≡ 1 → chiefs (e ∷ log) ≡ e ∷ chiefs log
here e log is = ap (λ (b : Bool). cond b (e ∷ chiefs log) (chiefs log)) (eq-eqb (seat_of e) 1 is)

-- a store opens and closes nothing, whoever stored
skips : (x : Option Opening) (seat cell number : ℕ) (log : List Entry) → opened_from x (chiefs (Store seat cell number ∷ log)) ≡ opened_from x (chiefs log)
skips x seat cell number log = elim (eqb seat 1) as (λ b. opened_from x (cond b (Store seat cell number ∷ chiefs log) (chiefs log)) ≡ opened_from x (chiefs log)) [ true ↦ refl | false ↦ refl ]

some_same : (o u : Opening) → Some o ≡ Some u → o ≡ u
some_same o u e = cc

abbrev SinceOpening : Opening → List Entry → Type 0
SinceOpening o log = (before : List Entry) × (stores : List Entry) × (log ≡ before ++ entry_of o ∷ stores) × AreStores stores

later : (o : Opening) (e : Entry) (log : List Entry) → SinceOpening o log → SinceOpening o (e ∷ log)
later o e log (before, stores, is, all) = (e ∷ before, stores, ap (λ l. e ∷ l) is, all)

-- where the last opening is not closed there were only stores since then
since : (o : Opening) (x : Option Opening) (left : Left) (log : List Entry) → IsLegal left log → opened_from x (chiefs log) ≡ Some o → ((x ≡ Some o) × AreStores log) ⊎ SinceOpening o log
since o x left [] legal is = inl (is, tt)
since o x left (Open seat numbers flags tic ∷ es) (may, legal) is = let u : Opening = record { numbers = numbers; flags = flags; tic = tic } in ⊎_elim
    (λ (t : (Some u ≡ Some o) × AreStores es). let same = some_same u o t.0 in inr ([], es, (λ i. Open (may.1 i) (same i).numbers (same i).flags (same i).tic ∷ es), t.1))
    (λ t. inr (later o (Open seat numbers flags tic) es t))
    (since o (Some u) (Some numbers) es legal (ap (opened_from x) (sym (here (Open seat numbers flags tic) es may.1)) ∙ is))
since o x left (Store seat cell number ∷ es) (may, legal) is = ⊎_elim (λ (t : (x ≡ Some o) × AreStores es). inl t) (λ t. inr (later o (Store seat cell number) es t))
    (since o x (step left (Store seat cell number)) es legal (sym (skips x seat cell number es) ∙ is))
since o x left (Close seat ∷ es) (may, legal) is = ⊎_elim (λ (t : (None ≡ Some o) × AreStores es). absurd (let e = t.0 in cc)) (λ t. inr (later o (Close seat) es t))
    (since o None None es legal (ap (opened_from x) (sym (here (Close seat) es may.1)) ∙ is))

pub some_mapped : {A B : Type 0} (f : A → B) (x : Option A) → IsSome x → IsSome (option_map f x)
some_mapped f (Some a) is = refl
some_mapped f None is = is

stays_open : (left : Left) (es : List Entry) → AreStores es → IsSome left → IsSome (after left es)
stays_open left [] all is = is
stays_open left (Open seat numbers flags tic ∷ es) all is = absurd all
stays_open left (Store seat cell number ∷ es) all is = stays_open (step left (Store seat cell number)) es all (some_mapped (λ xs. slice_set xs cell number) left is)
stays_open left (Close seat ∷ es) all is = absurd all

-- where the chief's own entries say that the board is open it is, and has what the stores since then leave
pub leaves_from : (o : Opening) (log own : List Entry) → IsLegal None log → chiefs log ≡ own → opened_at own ≡ Some o → IsSome (after None log) × ((numbers : List ℕ) → after None log ≡ Some numbers → Leaves log o numbers)
leaves_from o log own legal mine is = ⊎_elim (λ (t : (None ≡ Some o) × AreStores log). absurd (let e = t.0 in cc))
    (λ (t : SinceOpening o log).
    let end : after None log ≡ after (Some o.numbers) t.1 = ap (after None) t.2 ∙ after_both None t.0 (entry_of o ∷ t.1) in
    (subst IsSome (sym end) (stays_open (Some o.numbers) t.1 t.3 refl), λ numbers now. record { before = t.0; stores = t.1; whole = t.2; all = t.3; left = sym end ∙ now }))
    (since o None None log legal (ap opened_at mine ∙ is))

-- and where they say that it is closed it is
pub is_closed : (x : Option Opening) (left : Left) (log : List Entry) → IsLegal left log → (x ≡ None → left ≡ None) → opened_from x (chiefs log) ≡ None → after left log ≡ None
is_closed x left [] legal off is = off is
is_closed x left (Open seat numbers flags tic ∷ es) (may, legal) off is = is_closed (Some record { numbers = numbers; flags = flags; tic = tic }) (Some numbers) es legal (λ e. absurd (cc)) (ap (opened_from x) (sym (here (Open seat numbers flags tic) es may.1)) ∙ is)
is_closed x left (Store seat cell number ∷ es) (may, legal) off is = is_closed x (step left (Store seat cell number)) es legal (λ e. ap (option_map (λ xs. slice_set xs cell number)) (off e)) (sym (skips x seat cell number es) ∙ is)
is_closed x left (Close seat ∷ es) (may, legal) off is = is_closed None None es legal (λ e. refl) (ap (opened_from x) (sym (here (Close seat) es may.1)) ∙ is)

pub opened_more : (x : Option Opening) (log : List Entry) (seat : ℕ) (numbers : List ℕ) (flags : List Bool) (tic : ℕ) → opened_from x (log ++ Open seat numbers flags tic ∷ []) ≡ Some record { numbers = numbers; flags = flags; tic = tic }
opened_more x [] seat numbers flags tic = refl
opened_more x (Open seat' numbers' flags' tic' ∷ es) seat numbers flags tic = opened_more (Some record { numbers = numbers'; flags = flags'; tic = tic' }) es seat numbers flags tic
opened_more x (Store seat' cell number ∷ es) seat numbers flags tic = opened_more x es seat numbers flags tic
opened_more x (Close seat' ∷ es) seat numbers flags tic = opened_more None es seat numbers flags tic

-- an option that has something has it
pub something : {A : Type 0} (x : Option A) → IsSome x → (a : A) × (x ≡ Some a)
something (Some a) is = (a, refl)
something None is = absurd (cc)

pub some_before : {A B : Type 0} (f : A → B) (x : Option A) → IsSome (option_map f x) → IsSome x
some_before f (Some a) is = refl
some_before f None is = is
