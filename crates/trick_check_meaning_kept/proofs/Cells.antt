-- Cells and their full names: no two cells have one name, and the cell that a path means has the type of the
-- variable there.
use Rattle.std.proofs.Common.{rules, ◌≡◌, ℕ, zero, suc, ◌+◌, ◌<◌, ℤ, pos, negsuc, Bool, true, false, not, if◌then◌else◌, nat_lt, List, [], ◌∷◌, ◌++◌, length, Option, Some, None, Result, Ok, Err, refl, ap, sym, ◌∙◌, subst, arith}
use Rattle.std.proofs.lemmas.Bool.{and_parts, ltb-true}
use Rattle.std.proofs.lemmas.List.{append_assoc}
use Rattle.std.proofs.lemmas.Slice.Eq.{bytes_eq-Decides}
use Rattle.std.specs.List.{list_all}
use Rattle.std.specs.Str.{bytes_eq}
use Rattle.trick_check_blocks.specs.Places as by_cell
use Rattle.trick_check_blocks.specs.declared.spot.Spot.{Spot}
use Rattle.trick_check_blocks.specs.declared.scope.ClassScope.{ClassScope}
use Rattle.trick_check_cells.specs.Cells.{base_cells, bracket, cells_at, dotted, each, member_cells, members_cells, place_cells, under}
use Rattle.trick_lang.specs.Effect.{scalars_of}
use Rattle.trick_lang.specs.Names.{are_apart, of_one_name}
use Rattle.trick_lang.specs.Numbers.{and_then}
use Rattle.trick_lang.specs.SyntaxTree.{Name, Parts, NoPart, Member, Index}
use Rattle.trick_lang.specs.Wrap.{scalar_at}
use Rattle.trick_lang.specs.declared.fault.FaultKind.{FaultKind}
use Rattle.trick_lang.specs.declared.fault.FaultKind.TheVariants.{IndexOutOfRange}
use Rattle.trick_lang.specs.declared.scalar.Scalar.{Scalar}
use Rattle.trick_lang.specs.declared.variable.Variable.{Variable}
use Rattle.trick_check_meaning.specs.Meaning.{Place, Setting, State, checked, led, length_of, value}
use Rattle.trick_check_meaning_kept.proofs.Following.{Walks, groups_same, on_one}
use Rattle.trick_check_meaning_kept.specs.Alike.{AreSameTables}
use Rattle.trick_check_names.specs.Names.{Names, meaning_of}
use Rattle.trick_check_names.specs.Places as by_name
use Rattle.trick_check_names.specs.Places.{member_in, member_of, single}
use Rattle.trick_check_names.specs.declared.follow.State.TheVariants.{Stands}
use Rattle.trick_check_names.specs.declared.tables.Base.{Base}
use Rattle.trick_check_names.specs.declared.tables.Base.TheVariants.{Single, Group}
use Rattle.trick_check_names.specs.declared.tables.Lengths.{Lengths}
use Rattle.trick_check_names.specs.declared.tables.Lengths.TheVariants.{Plain, One, Two}
use Rattle.trick_check_names.specs.declared.tables.Member.{Member as InGroup}
use Rattle.trick_check_names.specs.declared.tables.Member.TheVariants.{Variable as Holds, Method}
use Rattle.trick_check_names.specs.declared.tables.Shape.{Shape}
use Rattle.trick_check_bodies.specs.Named.{HasAt, IsNamed}

-- ---- entries of a list

-- this variable is the cell of that number
abbrev pub IsAt : List Variable → ℕ → Variable → Type 0
IsAt [] c v = ⊥
IsAt (u ∷ us) zero v = u ≡ v
IsAt (u ∷ us) (suc c) v = IsAt us c v

at_behind : (before behind : List Variable) (v : Variable) → IsAt (before ++ v ∷ behind) (length before) v
at_behind [] behind v = refl
at_behind (u ∷ us) behind v = at_behind us behind v

pub is_at : (all : List Variable) (c : ℕ) (v : Variable) → HasAt all c (v ∷ []) → IsAt all c v
is_at all c v h = subst (λ us. IsAt us c v) (sym h.is) (subst (λ k. IsAt (h.before ++ v ∷ h.behind) k v) h.at (at_behind h.before h.behind v))

pub at_below : (all : List Variable) (c : ℕ) (v : Variable) → IsAt all c v → c < length all
at_below [] c v h = absurd h
at_below (u ∷ us) zero v h = omega arith
at_below (u ∷ us) (suc c) v h = let less = at_below us c v h in omega (arith, less)

pub at_scalar : (all : List Variable) (c : ℕ) (v : Variable) → IsAt all c v → scalar_at (scalars_of all) c ≡ v.scalar
at_scalar [] c v h = absurd h
at_scalar (u ∷ us) zero v h = ap (λ (q : Variable). q.scalar) h
at_scalar (u ∷ us) (suc c) v h = at_scalar us c v h

pub one_entry : (all : List Variable) (c : ℕ) (u v : Variable) → IsAt all c u → IsAt all c v → u ≡ v
one_entry [] c u v at there = absurd at
one_entry (z ∷ zs) zero u v at there = sym at ∙ there
one_entry (z ∷ zs) (suc c) u v at there = one_entry zs c u v at there

-- ---- no two cells of one name

pub one_name : (p q : Name) → p ≡ q → bytes_eq p q ≡ true
one_name p q h = subst (λ r. bytes_eq p r ≡ true) h (same p) where
  same : (r : Name) → bytes_eq r r ≡ true
  same r = search (rules, bytes_eq-Decides)

passes_at : (p : Variable → Bool) (all : List Variable) (c : ℕ) (v : Variable) → list_all p all ≡ true → IsAt all c v → p v ≡ true
passes_at p [] c v h at = absurd at
passes_at p (u ∷ us) zero v h at = subst (λ q. p q ≡ true) at (and_parts (p u) (list_all p us) h).0
passes_at p (u ∷ us) (suc c) v h at = passes_at p us c v (and_parts (p u) (list_all p us) h).1 at

not_alike : (u v : Variable) → not (of_one_name u v) ≡ true → u.name ≡ v.name → ⊥
not_alike u v h same = let no : not true ≡ true = subst (λ b. not b ≡ true) (one_name u.name v.name same) h in cc no

pub one_cell : (all : List Variable) → are_apart of_one_name all ≡ true → (c d : ℕ) (u v : Variable) → IsAt all c u → IsAt all d v → u.name ≡ v.name → (c ≡ d) × (u ≡ v)
one_cell [] apart c d u v at there same = absurd at
one_cell (z ∷ zs) apart zero zero u v at there same = (refl, sym at ∙ there)
one_cell (z ∷ zs) apart zero (suc d) u v at there same =
    absurd (not_alike z v (passes_at (λ y. not (of_one_name z y)) zs d v (and_parts _ _ apart).0 there) (ap (λ (q : Variable). q.name) at ∙ same))
one_cell (z ∷ zs) apart (suc c) zero u v at there same =
    absurd (not_alike z u (passes_at (λ y. not (of_one_name z y)) zs c u (and_parts _ _ apart).0 at) (ap (λ (q : Variable). q.name) there ∙ sym same))
one_cell (z ∷ zs) apart (suc c) (suc d) u v at there same =
    let rest = one_cell zs (and_parts _ _ apart).1 c d u v at there same in
    (ap suc rest.0, rest.1)

-- ---- what is among these cells

abbrev pub IsAmong : List Variable → Variable → Type 0
IsAmong all v = (c : ℕ) × IsAt all c v

among_first : (xs ys : List Variable) (v : Variable) → IsAmong xs v → IsAmong (xs ++ ys) v
among_first [] ys v h = absurd h.1
among_first (z ∷ xs) ys v h = by h.0 h.1 (λ c at. among_first xs ys v (c, at)) where
  by : (c : ℕ) → IsAt (z ∷ xs) c v → ((c : ℕ) → IsAt xs c v → IsAmong (xs ++ ys) v) → IsAmong (z ∷ (xs ++ ys)) v
  by zero at further = (0, at)
  by (suc c) at further = let rest = further c at in (suc rest.0, rest.1)

among_rest : (xs ys : List Variable) (v : Variable) → IsAmong ys v → IsAmong (xs ++ ys) v
among_rest [] ys v h = h
among_rest (z ∷ xs) ys v h = let rest = among_rest xs ys v h in (suc rest.0, rest.1)

abbrev pub named_under : Name → Variable → Variable
named_under p v = record { name = p ++ v.name; scalar = v.scalar }

among_under : (p : Name) (cs : List Variable) (v : Variable) → IsAmong cs v → IsAmong (under p cs) (named_under p v)
among_under p [] v h = absurd h.1
among_under p (u ∷ us) v h = by h.0 h.1 (λ c at. among_under p us v (c, at)) where
  by : (c : ℕ) → IsAt (u ∷ us) c v → ((c : ℕ) → IsAt us c v → IsAmong (under p us) (named_under p v)) → IsAmong (under p (u ∷ us)) (named_under p v)
  by zero at further = (0, ap (named_under p) at)
  by (suc c) at further = let rest = further c at in (suc rest.0, rest.1)

among_each : (from n k : ℕ) (cs : List Variable) (v : Variable) → k < n → IsAmong cs v → IsAmong (each from n cs) (named_under (bracket (from + k)) v)
among_each from zero k cs v less h = absurd (omega (arith, less))
among_each from (suc n) zero cs v less h =
    let same : from ≡ from + 0 = omega arith in
    subst (λ j. IsAmong (each from (suc n) cs) (named_under (bracket j) v)) same (among_first (under (bracket from) cs) (each (suc from) n cs) (named_under (bracket from) v) (among_under (bracket from) cs v h))
among_each from (suc n) (suc k) cs v less h =
    let same : suc from + k ≡ from + suc k = omega arith in
    among_rest (under (bracket from) cs) (each (suc from) n cs) (named_under (bracket (from + suc k)) v)
    (subst (λ j. IsAmong (each (suc from) n cs) (named_under (bracket j) v)) same (among_each (suc from) n k cs v (omega (arith, less)) h))

among_member : (done : List (List Variable)) (ms : Names InGroup) (name : Name) (shape : Shape) (v : Variable) → meaning_of name ms ≡ Some (Holds shape) → IsAmong (place_cells done shape.lengths shape.base) v → IsAmong (members_cells done ms) (named_under (dotted name) v)
among_member done [] name shape v known h = absurd (cc known)
among_member done (m ∷ ms) name shape v known h = by (bytes_eq name m.0) refl (λ i. among_member done ms name shape v i h) known where
  by : (b : Bool) → bytes_eq name m.0 ≡ b → (meaning_of name ms ≡ Some (Holds shape) → IsAmong (members_cells done ms) (named_under (dotted name) v)) → (if b then Some m.1 else meaning_of name ms) ≡ Some (Holds shape) → IsAmong (members_cells done (m ∷ ms)) (named_under (dotted name) v)
  by true is rest i =
      let one : m.1 ≡ Holds shape = cc i in
      let named : name ≡ m.0 = search (rules, bytes_eq-Decides) in
      among_first (under (dotted m.0) (member_cells done m.1)) (members_cells done ms) (named_under (dotted name) v)
      (subst (λ q. IsAmong (under (dotted q) (member_cells done m.1)) (named_under (dotted name) v)) named
      (among_under (dotted name) (member_cells done m.1) v (subst (λ q. IsAmong (member_cells done q) v) (sym one) h)))
  by false is rest i = among_rest (under (dotted m.0) (member_cells done m.1)) (members_cells done ms) (named_under (dotted name) v) (rest i)

among_has : (all : List Variable) (first : ℕ) (part : List Variable) (v : Variable) → HasAt all first part → IsAmong part v → IsAmong all v
among_has all first part v h at = subst (λ us. IsAmong us v) (sym h.is) (among_rest h.before (part ++ h.behind) v (among_first part h.behind v at))

-- ---- what a path means is among the cells

module _ (w : ClassScope) (done : List (List Variable)) (memory : List Variable) (x : Setting) (s : State) (same : AreSameTables x.scope.tables w.layout done) where
  -- the cells of what is there have the full name in front
  abbrev pub Stand : Name → Shape → Type 0
  Stand full shape = (v : Variable) → IsAmong (place_cells done shape.lengths shape.base) v → IsAmong memory (named_under full v)

  longer : (p q : Name) (v : Variable) → IsAmong memory (named_under p (named_under q v)) → IsAmong memory (named_under (p ++ q) v)
  longer p q v h = subst (λ n. IsAmong memory (record { name = n; scalar = v.scalar })) (sym (append_assoc p q v.name)) h

  pub member_stands : (ls : Lengths) (base : Base) (name full : Name) (shape : Shape) → member_in ls base name x.scope ≡ Stands shape → Stand full (record { lengths = ls; base = base }) → Stand (full ++ dotted name) shape
  member_stands Plain (Group k) name full shape is stand v at = by (meaning_of name (by_name.members_at x.scope.tables.groups k)) refl is where
    by : (o : Option InGroup) → meaning_of name (by_name.members_at x.scope.tables.groups k) ≡ o → member_of o ≡ Stands shape → IsAmong memory (named_under (full ++ dotted name) v)
    by (Some (Holds other)) known i =
        let one : other ≡ shape = cc i in
        let cells : cells_at done k ≡ members_cells done (by_name.members_at x.scope.tables.groups k) = same.unfolds k ∙ ap (members_cells done) (groups_same x.scope.tables.groups k) in
        let here = among_member done (by_name.members_at x.scope.tables.groups k) name other v known (subst (λ (q : Shape). IsAmong (place_cells done q.lengths q.base) v) (sym one) at) in
        longer full (dotted name) v (stand (named_under (dotted name) v) (subst (λ cs. IsAmong cs (named_under (dotted name) v)) (sym cells) here))
    by (Some (Method j)) known i = absurd (cc i)
    by None known i = absurd (cc i)
  member_stands Plain (Single other) name full shape is stand v at = absurd (cc is)
  member_stands (One n) base name full shape is stand v at = absurd (cc is)
  member_stands (Two m n) base name full shape is stand v at = absurd (cc is)

  element_stands : (ls : Lengths) (base : Base) (k : ℕ) (full : Name) (shape : Shape) → nat_lt k (length_of ls) ≡ true → by_name.element_in ls base None ≡ Stands shape → Stand full (record { lengths = ls; base = base }) → Stand (full ++ bracket k) shape
  element_stands Plain base k full shape less is stand v at = absurd (cc is)
  element_stands (One n) base k full shape less is stand v at =
      let one : record { lengths = Plain; base = base } ≡ shape = cc is in
      let here : 0 + k ≡ k = omega arith in
      longer full (bracket k) v (stand (named_under (bracket k) v) (subst (λ j. IsAmong (each 0 n (base_cells done base)) (named_under (bracket j) v)) here (among_each 0 n k (base_cells done base) v (ltb-true k n less) (subst (λ (q : Shape). IsAmong (place_cells done q.lengths q.base) v) (sym one) at))))
  element_stands (Two m n) base k full shape less is stand v at =
      let one : record { lengths = One n; base = base } ≡ shape = cc is in
      let here : 0 + k ≡ k = omega arith in
      longer full (bracket k) v (stand (named_under (bracket k) v) (subst (λ j. IsAmong (each 0 m (each 0 n (base_cells done base))) (named_under (bracket j) v)) here (among_each 0 m k (each 0 n (base_cells done base)) v (ltb-true k m less) (subst (λ (q : Shape). IsAmong (place_cells done q.lengths q.base) v) (sym one) at))))

  index_case : (v : Result ℤ FaultKind) (length : ℕ) (go : ℕ → Result Place FaultKind) (p : Place) (P : Type 0) → and_then v (λ n. and_then (checked length n) go) ≡ Ok p → ((k : ℕ) → nat_lt k length ≡ true → go k ≡ Ok p → P) → P
  index_case (Err k) length go p P h f = absurd (cc h)
  index_case (Ok (negsuc n)) length go p P h f = absurd (cc h)
  index_case (Ok (pos n)) length go p P h f = by (nat_lt n length) refl h where
    by : (b : Bool) → nat_lt n length ≡ b → and_then (if b then Ok n else Err IndexOutOfRange) go ≡ Ok p → P
    by true is h = f n is h
    by false is h = absurd (cc h)

  pub parts_stand : (parts : Parts) (shape : Shape) (from at : Spot) (scalar : Scalar) (full : Name) (p : Place) → Walks w x.scope done same parts shape from scalar at → Stand full shape → led parts full (Stands shape) x s ≡ Ok p → Stand p.full (single scalar)
  parts_stand NoPart shape from at scalar full p walks stand is =
      let one : record { full = full; there = Stands shape } ≡ p = cc is in
      subst (λ (q : Place). Stand q.full (single scalar)) one (subst (λ q. Stand full q) walks.0 stand)
  parts_stand (Member line name rest) shape from at scalar full p walks stand is =
      parts_stand rest walks.0.shape (Rattle.trick_check_blocks.specs.Places.moved walks.0.field.offset walks.0.field.extent from) at scalar (full ++ dotted name) p walks.1 (member_stands shape.lengths shape.base name full walks.0.shape walks.0.by_names stand)
      (subst (λ r. led rest (full ++ dotted name) r x s ≡ Ok p) walks.0.by_names is)
  parts_stand (Index e rest) shape from at scalar full p walks stand is =
      index_case (value e x s) (length_of shape.lengths) (λ k. led rest (full ++ bracket k) (by_name.element_in shape.lengths shape.base None) x s) p (Stand p.full (single scalar)) is
      (λ k less i.
      parts_stand rest walks.0.shape (on_one (by_cell.literal_of e) walks.0.element from) at scalar (full ++ bracket k) p walks.1 (element_stands shape.lengths shape.base k full walks.0.shape less walks.0.by_names stand)
      (subst (λ r. led rest (full ++ bracket k) r x s ≡ Ok p) walks.0.by_names i))

  append_none : (p : Name) → p ++ [] ≡ p
  append_none [] = refl
  append_none (b ∷ bs) = ap (λ q. b ∷ q) (append_none bs)

  -- the cell of the full name has the type that is there
  pub type_is : (full : Name) (scalar : Scalar) (c : ℕ) → are_apart of_one_name memory ≡ true → Stand full (single scalar) → IsNamed memory c full → scalar_at (scalars_of memory) c ≡ scalar
  type_is full scalar c apart stand there =
      let found = stand (record { name = []; scalar = scalar }) (0, refl) in
      let here : Variable = record { name = full; scalar = there.scalar } in
      let at = is_at memory c here there.here in
      let same_one = one_cell memory apart c found.0 here (named_under full (record { name = []; scalar = scalar })) at found.1 (sym (append_none full)) in
      at_scalar memory c here at ∙ ap (λ (v : Variable). v.scalar) same_one.1

  -- an object stands in the memory, and so do its variables
  pub group_stands : (name : Name) (first k : ℕ) → HasAt memory first (under name (cells_at done k)) → Stand name (record { lengths = Plain; base = Group k })
  group_stands name first k h v at = among_has memory first (under name (cells_at done k)) (named_under name v) h (among_under name (cells_at done k) v at)
