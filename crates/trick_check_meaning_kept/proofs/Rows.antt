-- Local variables in their slots.
use Rattle.std.proofs.Common.{◌≡◌, ◌≢◌, ℕ, zero, suc, ◌+◌, ◌<◌, ◌≤◌, ℤ, pos, Bool, true, false, if◌then◌else◌, is_some, [], ◌∷◌, ◌++◌, length, take, Option, Some, None, unwrap_or, refl, ap, sym, ◌∙◌, subst, arith, get_or-set_other, get_or-set_same}
use Rattle.std.specs.Str.{bytes_eq}
use Rattle.trick_base.proofs.ListLemmas.{own_bytes}
use Rattle.trick_check_blocks.specs.declared.start.Local.{Local as InSlot}
use Rattle.trick_lang.specs.Run.{State as Resolved, local_of, with_local}
use Rattle.trick_lang.specs.SyntaxTree.{Name}
use Rattle.trick_check_meaning.specs.Meaning.{Local as ByName, with_number}
use Rattle.trick_check_meaning_kept.specs.Alike.{AreRows, IsSameLocal}
use Rattle.trick_check_names.specs.Names.{Names, meaning_of, with_name}
use Rattle.trick_check_names.specs.declared.tables.Local.{Local as Declared}

-- ---- what names mean

pub rows_same : (slot : ℕ) (number : ℕ → ℤ) (slots : Names InSlot) (bs : Names Declared) (cs : Names ByName) → AreRows slot number slots bs cs → (name : Name) → IsSameLocal number (meaning_of name slots) (meaning_of name bs) (meaning_of name cs)
rows_same slot number [] [] [] rows name = tt
rows_same slot number [] [] (c ∷ cs) rows name = absurd rows
rows_same slot number [] (b ∷ bs) cs rows name = absurd rows
rows_same slot number (a ∷ slots) [] cs rows name = absurd rows
rows_same slot number (a ∷ slots) (b ∷ bs) [] rows name = absurd rows
rows_same slot number (a ∷ slots) (b ∷ bs) (c ∷ cs) rows name =
    subst (λ q. IsSameLocal number (if bytes_eq name a.0 then Some a.1 else meaning_of name slots) (if bytes_eq name q then Some b.1 else meaning_of name bs) (if bytes_eq name c.0 then Some c.1 else meaning_of name cs)) (sym rows.0.declared_as)
    (subst (λ q. IsSameLocal number (if bytes_eq name a.0 then Some a.1 else meaning_of name slots) (if bytes_eq name a.0 then Some b.1 else meaning_of name bs) (if bytes_eq name q then Some c.1 else meaning_of name cs)) (sym rows.0.named_as)
    (by (bytes_eq name a.0) (rows_same (suc slot) number slots bs cs rows.1 name))) where
      by : (t : Bool) → IsSameLocal number (meaning_of name slots) (meaning_of name bs) (meaning_of name cs) → IsSameLocal number (if t then Some a.1 else meaning_of name slots) (if t then Some b.1 else meaning_of name bs) (if t then Some c.1 else meaning_of name cs)
      by true rest = (ap number rows.0.slot_is ∙ rows.0.number_is, rows.0.scalar_is, rows.0.loop_is)
      by false rest = rest

-- as many are known
pub rows_declared : (slot : ℕ) (number : ℕ → ℤ) (slots : Names InSlot) (bs : Names Declared) (cs : Names ByName) → AreRows slot number slots bs cs → length bs ≡ length slots
rows_declared slot number [] [] cs rows = refl
rows_declared slot number [] (b ∷ bs) cs rows = absurd rows
rows_declared slot number (a ∷ slots) [] cs rows = absurd rows
rows_declared slot number (a ∷ slots) (b ∷ bs) [] rows = absurd rows
rows_declared slot number (a ∷ slots) (b ∷ bs) (c ∷ cs) rows = ap suc (rows_declared (suc slot) number slots bs cs rows.1)

pub rows_named : (slot : ℕ) (number : ℕ → ℤ) (slots : Names InSlot) (bs : Names Declared) (cs : Names ByName) → AreRows slot number slots bs cs → length cs ≡ length slots
rows_named slot number [] [] [] rows = refl
rows_named slot number [] [] (c ∷ cs) rows = absurd rows
rows_named slot number [] (b ∷ bs) cs rows = absurd rows
rows_named slot number (a ∷ slots) [] cs rows = absurd rows
rows_named slot number (a ∷ slots) (b ∷ bs) [] rows = absurd rows
rows_named slot number (a ∷ slots) (b ∷ bs) (c ∷ cs) rows = ap suc (rows_named (suc slot) number slots bs cs rows.1)

-- a slot of a known name is one of them
pub slot_of : (slot : ℕ) (number : ℕ → ℤ) (slots : Names InSlot) (bs : Names Declared) (cs : Names ByName) → AreRows slot number slots bs cs → (name : Name) (a : InSlot) → meaning_of name slots ≡ Some a → (slot ≤ a.slot) × (a.slot < slot + length slots)
slot_of slot number [] bs cs rows name a is = absurd (cc is)
slot_of slot number (e ∷ slots) [] cs rows name a is = absurd rows
slot_of slot number (e ∷ slots) (b ∷ bs) [] rows name a is = absurd rows
slot_of slot number (e ∷ slots) (b ∷ bs) (c ∷ cs) rows name a is = by (bytes_eq name e.0) (λ h. slot_of (suc slot) number slots bs cs rows.1 name a h) is where
  by : (t : Bool) → (meaning_of name slots ≡ Some a → (suc slot ≤ a.slot) × (a.slot < suc slot + length slots)) → (if t then Some e.1 else meaning_of name slots) ≡ Some a → (slot ≤ a.slot) × (a.slot < slot + suc (length slots))
  by true rest h =
      let one : e.1 ≡ a = cc h in
      let here : a.slot ≡ slot = ap (λ (l : InSlot). l.slot) (sym one) ∙ rows.0.slot_is in
      (omega (arith, here), omega (arith, here))
  by false rest h = let far = rest h in (omega (arith, far.0), omega (arith, far.1))

-- ---- other numbers

pub rows_kept : (slot : ℕ) (number other : ℕ → ℤ) (slots : Names InSlot) (bs : Names Declared) (cs : Names ByName) → ((j : ℕ) → slot ≤ j → j < slot + length slots → other j ≡ number j) → AreRows slot number slots bs cs → AreRows slot other slots bs cs
rows_kept slot number other [] [] [] same rows = tt
rows_kept slot number other [] [] (c ∷ cs) same rows = absurd rows
rows_kept slot number other [] (b ∷ bs) cs same rows = absurd rows
rows_kept slot number other (a ∷ slots) [] cs same rows = absurd rows
rows_kept slot number other (a ∷ slots) (b ∷ bs) [] same rows = absurd rows
rows_kept slot number other (a ∷ slots) (b ∷ bs) (c ∷ cs) same rows = (
  record {
    declared_as = rows.0.declared_as;
    named_as = rows.0.named_as;
    slot_is = rows.0.slot_is;
    scalar_is = rows.0.scalar_is;
    loop_is = rows.0.loop_is;
    number_is = same slot (omega arith) (omega arith) ∙ rows.0.number_is;
  },
  rows_kept (suc slot) number other slots bs cs (λ j low high. same j (omega (arith, low)) (omega (arith, high))) rows.1,
)

-- one more
pub rows_new : (slot : ℕ) (number : ℕ → ℤ) (slots : Names InSlot) (bs : Names Declared) (cs : Names ByName) (name : Name) (a : InSlot) (b : Declared) (c : ByName) → a.slot ≡ slot + length slots → a.scalar ≡ c.scalar → a.is_loop ≡ b.is_loop → number a.slot ≡ c.number → AreRows slot number slots bs cs → AreRows slot number (slots ++ (name, a) ∷ []) (bs ++ (name, b) ∷ []) (cs ++ (name, c) ∷ [])
rows_new slot number [] [] [] name a b c at scalar loop is rows =
    let here : a.slot ≡ slot = omega (arith, at) in
    (record { declared_as = refl; named_as = refl; slot_is = here; scalar_is = scalar; loop_is = loop; number_is = ap number (sym here) ∙ is }, tt)
rows_new slot number [] [] (d ∷ cs) name a b c at scalar loop is rows = absurd rows
rows_new slot number [] (e ∷ bs) cs name a b c at scalar loop is rows = absurd rows
rows_new slot number (d ∷ slots) [] cs name a b c at scalar loop is rows = absurd rows
rows_new slot number (d ∷ slots) (e ∷ bs) [] name a b c at scalar loop is rows = absurd rows
rows_new slot number (d ∷ slots) (e ∷ bs) (f ∷ cs) name a b c at scalar loop is rows =
    (rows.0, rows_new (suc slot) number slots bs cs name a b c (omega (arith, at)) scalar loop is rows.1)

-- the first so many
pub rows_front : (slot : ℕ) (number : ℕ → ℤ) (k : ℕ) (slots : Names InSlot) (bs : Names Declared) (cs : Names ByName) → AreRows slot number slots bs cs → AreRows slot number (take k slots) (take k bs) (take k cs)
rows_front slot number zero slots bs cs rows = tt
rows_front slot number (suc k) [] [] [] rows = tt
rows_front slot number (suc k) [] [] (c ∷ cs) rows = absurd rows
rows_front slot number (suc k) [] (b ∷ bs) cs rows = absurd rows
rows_front slot number (suc k) (a ∷ slots) [] cs rows = absurd rows
rows_front slot number (suc k) (a ∷ slots) (b ∷ bs) [] rows = absurd rows
rows_front slot number (suc k) (a ∷ slots) (b ∷ bs) (c ∷ cs) rows = (rows.0, rows_front (suc slot) number k slots bs cs rows.1)

-- one number is another
pub rows_set : (slot : ℕ) (number other : ℕ → ℤ) (slots : Names InSlot) (bs : Names Declared) (cs : Names ByName) (name : Name) (a : InSlot) (v : ℤ) → meaning_of name slots ≡ Some a → ((j : ℕ) → j ≢ a.slot → other j ≡ number j) → other a.slot ≡ v → AreRows slot number slots bs cs → AreRows slot other slots bs (with_number name v cs)
rows_set slot number other [] bs cs name a v is same new rows = absurd (cc is)
rows_set slot number other (d ∷ slots) [] cs name a v is same new rows = absurd rows
rows_set slot number other (d ∷ slots) (e ∷ bs) [] name a v is same new rows = absurd rows
rows_set slot number other (d ∷ slots) (e ∷ bs) (f ∷ cs) name a v is same new rows =
    subst (λ q. AreRows slot other (d ∷ slots) (e ∷ bs) (if bytes_eq name q then (f.0, record { scalar = f.1.scalar; number = v }) ∷ cs else f ∷ with_number name v cs)) (sym rows.0.named_as)
    (by (bytes_eq name d.0) (λ h. rows_set (suc slot) number other slots bs cs name a v h same new rows.1) is) where
      by : (t : Bool) → (meaning_of name slots ≡ Some a → AreRows (suc slot) other slots bs (with_number name v cs)) → (if t then Some d.1 else meaning_of name slots) ≡ Some a → AreRows slot other (d ∷ slots) (e ∷ bs) (if t then (f.0, record { scalar = f.1.scalar; number = v }) ∷ cs else f ∷ with_number name v cs)
      by true rest h =
          let one : d.1 ≡ a = cc h in
          let here : a.slot ≡ slot = ap (λ (l : InSlot). l.slot) (sym one) ∙ rows.0.slot_is in (
            record {
              declared_as = rows.0.declared_as;
              named_as = rows.0.named_as;
              slot_is = rows.0.slot_is;
              scalar_is = rows.0.scalar_is;
              loop_is = rows.0.loop_is;
              number_is = ap other (sym here) ∙ new;
            },
            rows_kept (suc slot) number other slots bs cs (λ j low high. same j (λ e. absurd (omega (arith, low, here, e)))) rows.1,
          )
      by false rest h =
          let far = slot_of (suc slot) number slots bs cs rows.1 name a h in (
            record {
              declared_as = rows.0.declared_as;
              named_as = rows.0.named_as;
              slot_is = rows.0.slot_is;
              scalar_is = rows.0.scalar_is;
              loop_is = rows.0.loop_is;
              number_is = same slot (λ e. absurd (omega (arith, far.0, e))) ∙ rows.0.number_is;
            },
            rest h,
          )

-- ---- one slot

pub slot_set : (s : Resolved) (slot : ℕ) (v : ℤ) → slot < length s.locals → local_of (with_local s slot v) slot ≡ v
slot_set s slot v less = ap (λ o. unwrap_or o (pos 0)) (get_or-set_same s.locals slot (Some v) None less)

pub slot_other : (s : Resolved) (slot j : ℕ) (v : ℤ) → j ≢ slot → local_of (with_local s slot v) j ≡ local_of s j
slot_other s slot j v other = ap (λ o. unwrap_or o (pos 0)) (get_or-set_other s.locals slot j (Some v) None other)

-- ---- names that are added

pub name_added : {T : Type 0} (name : Name) (l : T) (names : Names T) → meaning_of name names ≡ None → with_name name l names ≡ names ++ (name, l) ∷ []
name_added {T} name l names none = ap (λ (o : Option T). if is_some o then names else names ++ (name, l) ∷ []) none

-- a name that was added means what it was added with
pub added_means : {T : Type 0} (name : Name) (l : T) (names : Names T) → meaning_of name names ≡ None → meaning_of name (names ++ (name, l) ∷ []) ≡ Some l
added_means {T} name l [] none = ap (λ b. if b then Some l else None) (own_bytes name)
added_means {T} name l (e ∷ es) none = by (bytes_eq name e.0) (added_means name l es) none where
  by : (b : Bool) → (meaning_of name es ≡ None → meaning_of name (es ++ (name, l) ∷ []) ≡ Some l) → (if b then Some e.1 else meaning_of name es) ≡ None → (if b then Some e.1 else meaning_of name (es ++ (name, l) ∷ [])) ≡ Some l
  by true rest h = absurd (cc h)
  by false rest h = rest h
