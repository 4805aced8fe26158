-- What expressions become: a path leads to the cell whose full name is the one that it means, with the same
-- faults on the way.
use Rattle.std.proofs.Common.{◌≡◌, ℕ, ◌+◌, ◌*◌, ◌≤◌, ◌<◌, ℤ, pos, negsuc, Bool, true, false, if◌then◌else◌, nat_lt, List, [], ◌∷◌, ◌++◌, length, Option, Some, None, Result, Ok, Err, refl, ap, sym, ◌∙◌, subst, arith}
use Rattle.std.proofs.lemmas.Bool.{ltb-true}
use Rattle.std.proofs.lemmas.Int.{ints}
use Rattle.std.proofs.lemmas.List.{append-nil, append_assoc}
use Rattle.trick_check_blocks.specs.Places as by_cell
use Rattle.trick_check_blocks.specs.Terms as terms
use Rattle.trick_check_blocks.specs.Terms.{OfPlace, computed, goal_of, goal_term, link_terms, choice_terms, offset_of, path_goal, place_goal, span_of, steps, term}
use Rattle.trick_check_blocks.specs.declared.spot.Element.{Element}
use Rattle.trick_check_blocks.specs.declared.spot.Spot.{Spot}
use Rattle.trick_check_blocks.specs.declared.start.Local.{Local as InSlot}
use Rattle.trick_check_blocks.specs.declared.start.Meaning.{Meaning}
use Rattle.trick_check_blocks.specs.declared.start.Meaning.TheVariants as means
use Rattle.trick_check_blocks.specs.declared.scope.ClassScope.{ClassScope}
use Rattle.trick_check_cells.specs.Cells.{bracket, cells_at, dotted, under}
use Rattle.trick_lang.specs.Laws.{WrapsRight}
use Rattle.trick_lang.specs.Numbers.{and_then, is_true, joined, prefixed}
use Rattle.trick_lang.specs.SyntaxTree.{Name, Expression, Whole, Truth, Named, Prefixed, Chain, Choose, Links, NoLink, Link, Choices, Last, Choice, Path, path, Parts, NoPart, Member, Index}
use Rattle.trick_lang.specs.Tree as Tree
use Rattle.trick_lang.specs.Tree.{Term, Steps, NoStep, Step, spot}
use Rattle.trick_lang.specs.Value as resolved
use Rattle.trick_lang.specs.Value.{Sight, origin, stepped}
use Rattle.trick_lang.specs.declared.fault.FaultKind.{FaultKind}
use Rattle.trick_lang.specs.declared.fault.FaultKind.TheVariants.{IndexOutOfRange}
use Rattle.trick_lang.specs.declared.scalar.Scalar.{Scalar}
use Rattle.trick_lang.specs.declared.scalar.Scalar.TheVariants.{Long}
use Rattle.trick_lang.specs.declared.variable.Variable.{Variable}
use Rattle.trick_check_names.specs.Laid.{fields_at}
use Rattle.trick_check_names.specs.declared.layout.Dims.TheVariants as dims
use Rattle.trick_check_names.specs.declared.layout.Extent.{Extent}
use Rattle.trick_check_names.specs.declared.layout.Field.{Field}
use Rattle.trick_check_names.specs.declared.layout.Site.{Site}
use Rattle.trick_check_names.specs.declared.layout.Site.TheVariants as site
use Rattle.trick_check_meaning.specs.Meaning.{Local as ByName, Meant, OfPlace as OfVariable, Place, Setting, State, checked, chosen, global_meant, led, length_of, linked, local_meant, meant, member_meant, number_at, path_value, read, value}
use Rattle.trick_check_meaning_kept.proofs.Following.{IsBelow, Reaches, Stage, Walk, Walks, followed_is, group_many, has_cell, number_is, on_one, on_one_is, own_is, same_literal, walk}
use Rattle.trick_check_meaning_kept.specs.Alike.{AreSameTables, IsSameGlobal, IsSameLocal, IsSameMember, SeeTheSame}
use Rattle.trick_check_meaning_kept.proofs.Cells.{Stand, group_stands, member_stands, parts_stand}
use Rattle.trick_check_names.specs.BodyMistakes.{astray, ends, expression_mistakes, link_mistakes, choice_mistakes, part_mistakes, path_mistakes, unless_fixed}
use Rattle.trick_check_names.specs.Names.{Names, meaning_of}
use Rattle.trick_check_names.specs.Places as by_name
use Rattle.trick_check_names.specs.Places.{global_state, local_state, member_state, single}
use Rattle.trick_check_names.specs.declared.follow.State.{State as Reach}
use Rattle.trick_check_names.specs.declared.follow.State.TheVariants.{Stands, Astray, Misfit}
use Rattle.trick_check_names.specs.declared.tables.Base.{Base}
use Rattle.trick_check_names.specs.declared.tables.Base.TheVariants.{Single, Group}
use Rattle.trick_check_names.specs.declared.tables.Global.{Global}
use Rattle.trick_check_names.specs.declared.tables.Global.TheVariants as the
use Rattle.trick_check_names.specs.declared.tables.Lengths.{Lengths}
use Rattle.trick_check_names.specs.declared.tables.Lengths.TheVariants.{Plain, One, Two}
use Rattle.trick_check_names.specs.declared.tables.Local.{Local as Declared}
use Rattle.trick_check_names.specs.declared.tables.Member.{Member as InGroup}
use Rattle.trick_check_names.specs.declared.tables.Member.TheVariants.{Variable as Holds, Method}
use Rattle.trick_check_names.specs.declared.tables.Shape.{Shape}
use Rattle.trick_check_bodies.specs.Named.{AreNamed, HasAt, IsNamed, LeadToTheirNames, ObjectsHoldNames, cells_from, first_text, led_by, led_on, next_text, path_text}

-- ---- lists and results

pub none_left : {A : Type 0} (xs ys : List A) → xs ++ ys ≡ [] → xs ≡ []
none_left [] ys h = refl
none_left (z ∷ xs) ys h = absurd (cc h)

pub none_right : {A : Type 0} (xs ys : List A) → xs ++ ys ≡ [] → ys ≡ []
none_right [] ys h = h
none_right (z ∷ xs) ys h = absurd (cc h)

pub then_same : {A B E : Type 0} (r q : Result A E) (f g : A → Result B E) → r ≡ q → ((a : A) → f a ≡ g a) → and_then r f ≡ and_then q g
then_same {A} {B} {E} r q f g is each = ap (λ z. and_then z f) is ∙ by q where
  by : (q : Result A E) → and_then q f ≡ and_then q g
  by (Ok a) = each a
  by (Err k) = refl

pub if_same : {A : Type 0} (b : Bool) (p q r t : A) → p ≡ r → q ≡ t → (if b then p else q) ≡ (if b then r else t)
if_same true p q r t h i = h
if_same false p q r t h i = i

-- ---- what is led

-- the cell and the full name that a path leads to, by the same numbers in its computed indexes, or the same fault
abbrev pub IsLed : Steps → (List ℕ → Name) → ℕ → Name → Scalar → Result ℕ FaultKind → Result Place FaultKind → Type 0
IsLed st text from full scalar (Ok c) (Ok p) =
    (ns : List ℕ) × (more : ℕ) × (led_by st ns ≡ Some more) × (c ≡ from + more) × (p.full ≡ full ++ text ns) × (p.there ≡ Stands (single scalar))
IsLed st text from full scalar (Ok c) (Err b) = ⊥
IsLed st text from full scalar (Err a) (Ok p) = ⊥
IsLed st text from full scalar (Err a) (Err b) = a ≡ b

-- a longer text in front
further_text : (st : Steps) (text more : List ℕ → Name) (from : ℕ) (full front : Name) (scalar : Scalar) (q : Result ℕ FaultKind) (r : Result Place FaultKind) → ((ns : List ℕ) → more ns ≡ front ++ text ns) → IsLed st text from (full ++ front) scalar q r → IsLed st more from full scalar q r
further_text st text more from full front scalar (Ok c) (Ok p) is h =
    (h.0, h.1, h.2, h.3, h.4 ∙ (append_assoc full front (text h.0) ∙ ap (λ t. full ++ t) (sym (is h.0))), h.5)
further_text st text more from full front scalar (Ok c) (Err b) is h = h
further_text st text more from full front scalar (Err a) (Ok p) is h = h
further_text st text more from full front scalar (Err a) (Err b) is h = h

-- a computed index leads on
further_step : (st : Steps) (text : List ℕ → Name) (from n length stride : ℕ) (e : Term) (full : Name) (scalar : Scalar) (q : Result ℕ FaultKind) (r : Result Place FaultKind) → nat_lt n length ≡ true → IsLed st text (from + n * stride) (full ++ bracket n) scalar q r → IsLed (Step length stride e st) (next_text None text) from full scalar q r
further_step st text from n length stride e full scalar (Ok c) (Ok p) below h =
    (n ∷ h.0, n * stride + h.1, ap (λ b. if b then led_on (n * stride) (led_by st h.0) else None) below ∙ ap (led_on (n * stride)) h.2, omega (arith, h.3), h.4 ∙ append_assoc full (bracket n) (text h.0), h.5)
further_step st text from n length stride e full scalar (Ok c) (Err b) below h = h
further_step st text from n length stride e full scalar (Err a) (Ok p) below h = h
further_step st text from n length stride e full scalar (Err a) (Err b) below h = h

-- ---- what paths without mistakes reach

module _ (x : Setting) (declared : Names Declared) where
  -- what has no mistake does not go astray
  not_lost : (parts : Parts) (r : Reach) → astray 0 r ≡ [] → part_mistakes parts x.scope declared r ≡ [] → astray 0 (by_name.followed parts x.scope r) ≡ []
  not_lost NoPart r here none = here
  not_lost (Member line name rest) Astray here none = absurd (cc here)
  not_lost (Member line name rest) Misfit here none = not_lost rest Misfit refl none
  not_lost (Member line name rest) (Stands shape) here none = by (by_name.to_member name x.scope (Stands shape)) (λ r i. not_lost rest r i) none where
    by : (next : Reach) → ((r : Reach) → astray 0 r ≡ [] → part_mistakes rest x.scope declared r ≡ [] → astray 0 (by_name.followed rest x.scope r) ≡ []) → astray line next ++ part_mistakes rest x.scope declared next ≡ [] → astray 0 (by_name.followed rest x.scope next) ≡ []
    by (Stands other) further none = further (Stands other) refl none
    by Misfit further none = further Misfit refl none
    by Astray further none = absurd (cc none)
  not_lost (Index e rest) Astray here none = absurd (cc here)
  not_lost (Index e rest) Misfit here none = not_lost rest Misfit refl (none_right (expression_mistakes e x.scope declared) _ none)
  not_lost (Index e rest) (Stands shape) here none =
      by (by_name.to_element (by_name.literal_of e) (Stands shape)) (λ r i. not_lost rest r i) (none_right (expression_mistakes e x.scope declared) _ none) where
        by : (next : Reach) → ((r : Reach) → astray 0 r ≡ [] → part_mistakes rest x.scope declared r ≡ [] → astray 0 (by_name.followed rest x.scope r) ≡ []) → astray (Rattle.trick_check_names.specs.BodyMistakes.line_of e) next ++ part_mistakes rest x.scope declared next ≡ [] → astray 0 (by_name.followed rest x.scope next) ≡ []
        by (Stands other) further none = further (Stands other) refl none
        by Misfit further none = further Misfit refl none
        by Astray further none = absurd (cc none)

  -- and ends at a number
  number_end : (line : ℕ) (ls : Lengths) (base : Base) → Rattle.trick_check_names.specs.BodyMistakes.unless_single line ls base ≡ [] → (scalar : Scalar) × (record { lengths = ls; base = base } ≡ single scalar)
  number_end line Plain (Single scalar) h = (scalar, refl)
  number_end line Plain (Group k) h = absurd (cc h)
  number_end line (One n) base h = absurd (cc h)
  number_end line (Two m n) base h = absurd (cc h)

  reached : (line : ℕ) (r : Reach) → astray 0 r ≡ [] → ends line (unless_fixed false r) ≡ [] → (scalar : Scalar) × (r ≡ Stands (single scalar))
  reached line (Stands shape) there none = let one = number_end line shape.lengths shape.base none in (one.0, ap Stands one.1)
  reached line Astray there none = absurd (cc there)
  reached line Misfit there none = absurd (cc none)

  -- what a first name stands for does not go astray
  not_astray_at : (line : ℕ) (r : Reach) → astray line r ≡ [] → astray 0 r ≡ []
  not_astray_at line (Stands shape) h = refl
  not_astray_at line Misfit h = refl
  not_astray_at line Astray h = absurd (cc h)

module _ (w : ClassScope) (done : List (List Variable)) (memory : List Variable) (slots : Names InSlot) (declared : Names Declared) (sight : Sight) (x : Setting) (s : State)
    (named : AreNamed w.layout done memory) (same : AreSameTables x.scope.tables w.layout done) (see : SeeTheSame w slots declared memory sight x s)
    (places : LeadToTheirNames) (objects : ObjectsHoldNames) (wraps : WrapsRight) where
  -- ---- indexes

  literal_value : (e : Expression) (k : ℕ) → by_cell.literal_of e ≡ Some k → k ≤ 65536 → value e x s ≡ Ok (pos k)
  literal_value (Whole line n) k is small =
      let one : n ≡ k = cc is in
      ap Ok ((wraps.kept Long (pos n)).1 (omega (arith, ints), omega (arith, ints, one, small)) ∙ ap pos one)
  literal_value (Truth line true) k is small = let one : 1 ≡ k = cc is in ap (λ n. Ok (pos n)) one
  literal_value (Truth line false) k is small = let one : 0 ≡ k = cc is in ap (λ n. Ok (pos n)) one
  literal_value (Named p) k is small = absurd (cc is)
  literal_value (Prefixed o e) k is small = absurd (cc is)
  literal_value (Chain e links) k is small = absurd (cc is)
  literal_value (Choose choices) k is small = absurd (cc is)

  -- what the rest of a path leads to from here
  abbrev Leads : Parts → Shape → Spot → Scalar → Type 0
  Leads parts shape at scalar =
      (from : ℕ) (full : Name) → IsLed (steps parts w slots (Some at)) (path_text parts) from full scalar (resolved.led (steps parts w slots (Some at)) sight from) (led parts full (Stands shape) x s)

  computed_kept : (st : Steps) (text : List ℕ → Name) (scalar : Scalar) (el : Element) (e : Term) (v : Result ℤ FaultKind) (go : Name → Result Place FaultKind) (from : ℕ) (full : Name) → ((from : ℕ) (full : Name) → IsLed st text from full scalar (resolved.led st sight from) (go full)) → IsLed (Step el.dim.length el.dim.stride e st) (next_text None text) from full scalar (and_then v (λ n. and_then (stepped el.dim.length el.dim.stride from n) (λ next. resolved.led st sight next))) (and_then v (λ n. and_then (checked el.dim.length n) (λ k. go (full ++ bracket k))))
  computed_kept st text scalar el e (Err k) go from full further = refl
  computed_kept st text scalar el e (Ok (negsuc n)) go from full further = refl
  computed_kept st text scalar el e (Ok (pos n)) go from full further = by (nat_lt n el.dim.length) refl where
    by : (b : Bool) → nat_lt n el.dim.length ≡ b → IsLed (Step el.dim.length el.dim.stride e st) (next_text None text) from full scalar (and_then (if b then Ok (from + n * el.dim.stride) else Err IndexOutOfRange) (λ next. resolved.led st sight next)) (and_then (if b then Ok n else Err IndexOutOfRange) (λ k. go (full ++ bracket k)))
    by true below = further_step st text from n el.dim.length el.dim.stride e full scalar (resolved.led st sight (from + n * el.dim.stride)) (go (full ++ bracket n)) below (further (from + n * el.dim.stride) (full ++ bracket n))
    by false below = refl

  literal_kept : (k : ℕ) (st : Steps) (text : List ℕ → Name) (scalar : Scalar) (length : ℕ) (v : Result ℤ FaultKind) (go : Name → Result Place FaultKind) (from : ℕ) (full : Name) → v ≡ Ok (pos k) → nat_lt k length ≡ true → ((from : ℕ) (full : Name) → IsLed st text from full scalar (resolved.led st sight from) (go full)) → IsLed st (next_text (Some k) text) from full scalar (resolved.led st sight from) (and_then v (λ n. and_then (checked length n) (λ k. go (full ++ bracket k))))
  literal_kept k st text scalar length v go from full is below further =
      subst (λ r. IsLed st (next_text (Some k) text) from full scalar (resolved.led st sight from) (and_then r (λ n. and_then (checked length n) (λ k. go (full ++ bracket k))))) (sym is)
      (subst (λ b. IsLed st (next_text (Some k) text) from full scalar (resolved.led st sight from) (and_then (if b then Ok k else Err IndexOutOfRange) (λ k. go (full ++ bracket k)))) (sym below)
      (further_text st text (next_text (Some k) text) from full (bracket k) scalar (resolved.led st sight from) (go (full ++ bracket k)) (λ ns. refl) (further from (full ++ bracket k))))

  index_kept : (literal : Option ℕ) (st : Steps) (text : List ℕ → Name) (scalar : Scalar) (el : Element) (e : Term) (v : Result ℤ FaultKind) (go : Name → Result Place FaultKind) (from : ℕ) (full : Name) → resolved.value e sight ≡ v → ((k : ℕ) → literal ≡ Some k → k ≤ 65536 → v ≡ Ok (pos k)) → el.dim.length ≤ 65536 → IsBelow literal el.dim.length → ((from : ℕ) (full : Name) → IsLed st text from full scalar (resolved.led st sight from) (go full)) → IsLed (terms.stepped (computed literal (Some el)) e st) (next_text literal text) from full scalar (resolved.led (terms.stepped (computed literal (Some el)) e st) sight from) (and_then v (λ n. and_then (checked el.dim.length n) (λ k. go (full ++ bracket k))))
  index_kept (Some k) st text scalar el e v go from full is literal short below further =
      let less : k < el.dim.length = ltb-true k el.dim.length below in
      literal_kept k st text scalar el.dim.length v go from full (literal k refl (omega (arith, less, short))) below further
  index_kept None st text scalar el e v go from full is literal short below further =
      subst (λ r. IsLed (Step el.dim.length el.dim.stride e st) (next_text None text) from full scalar (and_then r (λ n. and_then (stepped el.dim.length el.dim.stride from n) (λ next. resolved.led st sight next))) (and_then v (λ n. and_then (checked el.dim.length n) (λ k. go (full ++ bracket k))))) (sym is)
      (computed_kept st text scalar el e v go from full further)

  -- ---- whole paths

  abbrev LeadsAll : Parts → Type 0
  LeadsAll parts = (shape : Shape) (from : Spot) (scalar : Scalar) (at : Spot) → Walks w x.scope done same parts shape from scalar at → part_mistakes parts x.scope declared (Stands shape) ≡ [] → Leads parts shape from scalar

  member_leads : (line : ℕ) (name : Name) (rest : Parts) → LeadsAll rest → LeadsAll (Member line name rest)
  member_leads line name rest further shape at scalar end walks none = λ from full.
      let next = Rattle.trick_check_blocks.specs.Places.moved walks.0.field.offset walks.0.field.extent at in
      let no_more : part_mistakes rest x.scope declared (Stands walks.0.shape) ≡ [] = subst (λ r. part_mistakes rest x.scope declared r ≡ []) walks.0.by_names (none_right _ _ none) in
      let told = further walks.0.shape next scalar end walks.1 no_more from (full ++ dotted name) in
      subst (λ o. IsLed (steps rest w slots (by_cell.on_field o at)) (path_text (Member line name rest)) from full scalar (resolved.led (steps rest w slots (by_cell.on_field o at)) sight from) (led rest (full ++ dotted name) (by_name.member_in shape.lengths shape.base name x.scope) x s)) (sym walks.0.by_cells)
      (subst (λ r. IsLed (steps rest w slots (Some next)) (path_text (Member line name rest)) from full scalar (resolved.led (steps rest w slots (Some next)) sight from) (led rest (full ++ dotted name) r x s)) (sym walks.0.by_names)
      (further_text (steps rest w slots (Some next)) (path_text rest) (path_text (Member line name rest)) from full (dotted name) scalar (resolved.led (steps rest w slots (Some next)) sight from) (led rest (full ++ dotted name) (Stands walks.0.shape) x s) (λ ns. refl) told))

  index_leads : (e : Expression) (rest : Parts) → (expression_mistakes e x.scope declared ≡ [] → resolved.value (term e w slots) sight ≡ value e x s) → LeadsAll rest → LeadsAll (Index e rest)
  index_leads e rest value_is further shape at scalar end walks none = λ from full.
      let step = walks.0 in
      let next = on_one (by_cell.literal_of e) step.element at in
      let on_next : by_cell.on_element (by_cell.literal_of e) (Some step.element) at ≡ Some next = on_one_is (by_cell.literal_of e) step.element at step.below in
      let behind = none_right (expression_mistakes e x.scope declared) _ none in
      let at_element : by_name.element_in shape.lengths shape.base (by_name.literal_of e) ≡ Stands step.shape = ap (by_name.element_in shape.lengths shape.base) (same_literal e) ∙ step.by_literal in
      let no_more : part_mistakes rest x.scope declared (Stands step.shape) ≡ [] = subst (λ r. part_mistakes rest x.scope declared r ≡ []) at_element (none_right _ _ behind) in
      let told : Leads rest step.shape next scalar = further step.shape next scalar end walks.1 no_more in
      let there = index_kept (by_cell.literal_of e) (steps rest w slots (Some next)) (path_text rest) scalar step.element (term e w slots) (value e x s) (λ q. led rest q (Stands step.shape) x s) from full (value_is (none_left (expression_mistakes e x.scope declared) _ none)) (λ k is small. literal_value e k is small) step.short step.below told in
      subst (λ o. IsLed (terms.stepped (computed (by_cell.literal_of e) o) (term e w slots) (steps rest w slots (by_cell.on_element (by_cell.literal_of e) o at))) (path_text (Index e rest)) from full scalar (resolved.led (terms.stepped (computed (by_cell.literal_of e) o) (term e w slots) (steps rest w slots (by_cell.on_element (by_cell.literal_of e) o at))) sight from) (led (Index e rest) full (Stands shape) x s)) (sym step.by_cells)
      (subst (λ q. IsLed (terms.stepped (computed (by_cell.literal_of e) (Some step.element)) (term e w slots) (steps rest w slots q)) (path_text (Index e rest)) from full scalar (resolved.led (terms.stepped (computed (by_cell.literal_of e) (Some step.element)) (term e w slots) (steps rest w slots q)) sight from) (led (Index e rest) full (Stands shape) x s)) (sym on_next)
      (subst (λ r. IsLed (terms.stepped (computed (by_cell.literal_of e) (Some step.element)) (term e w slots) (steps rest w slots (Some next))) (path_text (Index e rest)) from full scalar (resolved.led (terms.stepped (computed (by_cell.literal_of e) (Some step.element)) (term e w slots) (steps rest w slots (Some next))) sight from) (and_then (value e x s) (λ n. and_then (checked (length_of shape.lengths) n) (λ k. led rest (full ++ bracket k) r x s)))) (sym step.by_names)
      (subst (λ many. IsLed (terms.stepped (computed (by_cell.literal_of e) (Some step.element)) (term e w slots) (steps rest w slots (Some next))) (path_text (Index e rest)) from full scalar (resolved.led (terms.stepped (computed (by_cell.literal_of e) (Some step.element)) (term e w slots) (steps rest w slots (Some next))) sight from) (and_then (value e x s) (λ n. and_then (checked many n) (λ k. led rest (full ++ bracket k) (Stands step.shape) x s)))) step.long there)))

  end_leads : LeadsAll NoPart
  end_leads shape at scalar end walks none = λ from full.
      ([], 0, refl, omega arith, sym (append-nil full), ap Stands walks.0)

  -- ---- what is read

  read_kept : (st : Steps) (text : List ℕ → Name) (from : ℕ) (full : Name) (scalar : Scalar) (q : Result ℕ FaultKind) (r : Result Place FaultKind) → ((ns : List ℕ) (more : ℕ) → led_by st ns ≡ Some more → IsNamed memory (from + more) (full ++ text ns)) → IsLed st text from full scalar q r → and_then q (λ c. (let n : Result ℤ FaultKind = Ok (sight.cell c) in n)) ≡ and_then r (λ p. (let n : Result ℤ FaultKind = Ok (number_at p.full x s) in n))
  read_kept st text from full scalar (Ok c) (Ok p) there h =
      let is = see.cells (from + h.1) (full ++ text h.0) (there h.0 h.1 h.2) in
      ap Ok (ap sight.cell h.3 ∙ (is ∙ ap (λ q. number_at q x s) (sym h.4)))
  read_kept st text from full scalar (Ok c) (Err b) there h = absurd h
  read_kept st text from full scalar (Err a) (Ok p) there h = absurd h
  read_kept st text from full scalar (Err a) (Err b) there h = ap Err h

  abbrev by_cells : Parts → Meaning → Result ℤ FaultKind
  by_cells parts m = resolved.value (goal_term (goal_of m (by_cell.scalar_there (by_cell.followed parts w (by_cell.start_of m))) (by_cell.literal_count parts) (steps parts w slots (by_cell.start_of m)))) sight

  abbrev by_full_names : Parts → Meant → Result ℤ FaultKind
  by_full_names parts m = read m (λ full there. led parts full there x s) x s

  -- where a first name stands for a place, the cells of the place have the name in front
  abbrev Begins : Name → Spot → Name → Type 0
  Begins name from full = (cell : ℕ) (text : Name) → IsNamed (cells_from from.own done w.class memory) cell (first_text from.own name ++ text) → IsNamed memory (origin from.own sight.base + cell) (full ++ text)

  scalar_at : (at : Spot) (scalar : Scalar) → at.extent ≡ record { dims = dims.Plain; base = Single scalar } → by_cell.scalar_there (Some at) ≡ Some at
  scalar_at at scalar h = ap (λ (e : Extent). by_cell.scalar_in e.dims e.base at) h

  place_kept : (line : ℕ) (name : Name) (parts : Parts) (from : Spot) (shape : Shape) (scalar : Scalar) (full : Name) → LeadsAll parts → by_cell.named name w slots ≡ means.Stands from → Stage w x.scope done same shape from.extent → Reaches w x.scope done same parts (Stands shape) scalar → part_mistakes parts x.scope declared (Stands shape) ≡ [] → Begins name from full → by_cells parts (means.Stands from) ≡ by_full_names parts (OfVariable full (Stands shape))
  place_kept line name parts from shape scalar full leads is stage reaches none begins =
      let whole : Walk w x.scope done same parts shape from scalar = walk w x.scope done same parts shape from scalar stage reaches in
      let at = whole.0 in
      let st = steps parts w slots (Some from) in
      let count = by_cell.literal_count parts in
      let place : Tree.Spot = spot at.own at.first (span_of at.loose) (offset_of at.loose) count st in
      let there : by_cell.scalar_there (by_cell.followed parts w (Some from)) ≡ Some at = ap by_cell.scalar_there (followed_is w x.scope done same parts shape from scalar at whole.1) ∙ scalar_at at scalar (number_is w x.scope done same parts shape from scalar at whole.1) in
      let goal_is : path_goal (path line name parts) w slots ≡ OfPlace place =
      ap (λ m. goal_of m (by_cell.scalar_there (by_cell.followed parts w (by_cell.start_of m))) count (steps parts w slots (by_cell.start_of m))) is ∙ ap (λ o. place_goal o count st) there in
      let start = origin at.own sight.base + at.first + offset_of at.loose in
      let own = own_is w x.scope done same parts shape from scalar at whole.1 in
      let at_base : origin at.own sight.base ≡ origin from.own sight.base = ap (λ b. origin b sight.base) own in
      ap (λ o. resolved.value (goal_term (place_goal o count st)) sight) there
      ∙ read_kept st (path_text parts) start full scalar (resolved.led st sight start) (led parts full (Stands shape) x s)
      (λ ns more h.
      let here = places w done memory named line name parts slots place goal_is ns more h in
      let sum : origin from.own sight.base + (at.first + offset_of at.loose + more) ≡ start + more = omega (arith, at_base) in
      subst (λ i. IsNamed memory i (full ++ path_text parts ns)) sum
      (begins (at.first + offset_of at.loose + more) (path_text parts ns)
      (subst (λ b. IsNamed (cells_from b done w.class memory) (at.first + offset_of at.loose + more) (first_text b name ++ path_text parts ns)) own here)))
      (leads shape from scalar at whole.1 none start full)

  -- ---- first names

  abbrev NoMistake : ℕ → Parts → Reach → Type 0
  NoMistake line parts r = ends line (unless_fixed false (by_name.followed parts x.scope r)) ++ (astray line r ++ part_mistakes parts x.scope declared r) ≡ []

  no_part : (line : ℕ) (parts : Parts) (r : Reach) → NoMistake line parts r → part_mistakes parts x.scope declared r ≡ []
  no_part line parts r h = none_right (astray line r) _ (none_right (ends line (unless_fixed false (by_name.followed parts x.scope r))) _ h)

  no_stray : (line : ℕ) (parts : Parts) (r : Reach) → NoMistake line parts r → astray line r ≡ []
  no_stray line parts r h = none_left (astray line r) _ (none_right (ends line (unless_fixed false (by_name.followed parts x.scope r))) _ h)

  reaches_of : (line : ℕ) (parts : Parts) (r : Reach) → NoMistake line parts r → (scalar : Scalar) × Reaches w x.scope done same parts r scalar
  reaches_of line parts r h =
      reached x declared line (by_name.followed parts x.scope r)
      (not_lost x declared parts r (not_astray_at x declared line r (no_stray line parts r h)) (no_part line parts r h))
      (none_left (ends line (unless_fixed false (by_name.followed parts x.scope r))) _ h)

  global_kept : (line : ℕ) (name : Name) (parts : Parts) → LeadsAll parts → (g : Option Global) (q : Option Site) → meaning_of name x.scope.tables.names ≡ g → IsSameGlobal g q → NoMistake line parts (global_state g) → by_cell.named name w slots ≡ by_cell.site_meaning q → by_cells parts (by_cell.site_meaning q) ≡ by_full_names parts (global_meant name g)
  global_kept line name parts leads (Some (the.Item value)) (Some (site.Item other)) known agree none is = ap Ok agree
  global_kept line name parts leads (Some (the.Item value)) (Some (site.Object first class)) known agree none is = absurd agree
  global_kept line name parts leads (Some (the.Item value)) None known agree none is = absurd agree
  global_kept line name parts leads (Some (the.Object (Single scalar))) q known agree none is = absurd agree
  global_kept line name parts leads (Some (the.Object (Group k))) None known agree none is = absurd agree
  global_kept line name parts leads (Some (the.Object (Group k))) (Some (site.Item value)) known agree none is = absurd agree
  global_kept line name parts leads (Some (the.Object (Group k))) (Some (site.Object first class)) known agree none is =
      let shape : Shape = record { lengths = Plain; base = Group k } in
      let reach = reaches_of line parts (Stands shape) none in
      place_kept line name parts (record { own = false; first = first; loose = None; extent = record { dims = dims.Plain; base = Group class } }) shape reach.0 name leads is (record { is_same = (tt, ap Group agree); some = refl; small = same.small name k known }) reach.1 (no_part line parts (Stands shape) none)
      (λ cell text h. let sum : cell ≡ 0 + cell = omega arith in subst (λ i. IsNamed memory i (name ++ text)) sum h)
  global_kept line name parts leads (Some the.Enum) q known agree none is = absurd (cc (no_stray line parts Astray none))
  global_kept line name parts leads (Some (the.Struct k)) q known agree none is = absurd (cc (no_stray line parts Astray none))
  global_kept line name parts leads (Some (the.Class k)) q known agree none is = absurd (cc (no_stray line parts Astray none))
  global_kept line name parts leads None q known agree none is = absurd (cc (no_stray line parts Astray none))

  member_kept : (line : ℕ) (name : Name) (parts : Parts) → LeadsAll parts → (m : Option InGroup) (f : Option Field) → meaning_of name (by_name.members_at x.scope.tables.groups w.class) ≡ m → IsSameMember done m f → NoMistake line parts (member_state m (meaning_of name x.scope.tables.names)) → by_cell.named name w slots ≡ by_cell.field_meaning f (meaning_of name w.layout.sites) → by_cells parts (by_cell.field_meaning f (meaning_of name w.layout.sites)) ≡ by_full_names parts (member_meant x.object name m (meaning_of name x.scope.tables.names))
  member_kept line name parts leads (Some (Holds shape)) None known agree none is =
      let reach = reaches_of line parts (Stands shape) none in
      absurd (agree (has_cell w x.scope done same parts shape.lengths shape.base reach.0 (same.elements w.class name shape known) reach.1))
  member_kept line name parts leads (Some (Holds shape)) (Some field) known agree none is =
      let reach = reaches_of line parts (Stands shape) none in
      let some = same.elements w.class name shape known in
      let small = same.small x.object w.class see.known in
      place_kept line name parts (record { own = true; first = field.offset; loose = None; extent = field.extent }) shape reach.0 (x.object ++ dotted name) leads is
      (record {
        is_same = agree (has_cell w x.scope done same parts shape.lengths shape.base reach.0 some reach.1);
        some = some;
        small = omega (arith, small, group_many w x.scope done same w.class name shape known);
      }) reach.1 (no_part line parts (Stands shape) none)
      (λ cell text h.
      subst (λ q. IsNamed memory (sight.base + cell) q) (sym (append_assoc x.object (dotted name) text)) (objects w.layout done memory named x.object sight.base w.class see.object cell (dotted name ++ text) h))
  member_kept line name parts leads (Some (Method k)) (Some field) known agree none is = absurd agree
  member_kept line name parts leads (Some (Method k)) None known agree none is =
      global_kept line name parts leads (meaning_of name x.scope.tables.names) (meaning_of name w.layout.sites) refl (same.globals name) none is
  member_kept line name parts leads None (Some field) known agree none is = absurd agree
  member_kept line name parts leads None None known agree none is =
      global_kept line name parts leads (meaning_of name x.scope.tables.names) (meaning_of name w.layout.sites) refl (same.globals name) none is

  own_known : (name : Name) → by_name.own_member name x.scope ≡ meaning_of name (by_name.members_at x.scope.tables.groups w.class)
  own_known name = ap (λ k. meaning_of name (by_name.members_at x.scope.tables.groups k)) see.class

  local_kept : (line : ℕ) (name : Name) (parts : Parts) → LeadsAll parts → (a : Option InSlot) (b : Option Declared) (c : Option ByName) → meaning_of name slots ≡ a → IsSameLocal sight.local a b c → NoMistake line parts (local_state b (meaning_of name (by_name.members_at x.scope.tables.groups w.class)) (meaning_of name x.scope.tables.names)) → by_cells parts (by_cell.local_meaning a (meaning_of name (fields_at w.layout.groups w.class)) (meaning_of name w.layout.sites)) ≡ by_full_names parts (local_meant x.object name c (meaning_of name (by_name.members_at x.scope.tables.groups w.class)) (meaning_of name x.scope.tables.names))
  local_kept line name parts leads (Some a) (Some b) (Some c) known agree none = ap Ok agree.0
  local_kept line name parts leads (Some a) (Some b) None known agree none = absurd agree
  local_kept line name parts leads (Some a) None c known agree none = absurd agree
  local_kept line name parts leads None (Some b) c known agree none = absurd agree
  local_kept line name parts leads None None (Some c) known agree none = absurd agree
  local_kept line name parts leads None None None known agree none =
      member_kept line name parts leads (meaning_of name (by_name.members_at x.scope.tables.groups w.class)) (meaning_of name (fields_at w.layout.groups w.class)) refl (same.members w.class name (same.small x.object w.class see.known)) none
      (ap (λ o. by_cell.local_meaning o (meaning_of name (fields_at w.layout.groups w.class)) (meaning_of name w.layout.sites)) known)

  first_kept : (line : ℕ) (name : Name) (parts : Parts) → LeadsAll parts → path_mistakes (path line name parts) false x.scope declared ≡ [] → by_cells parts (by_cell.named name w slots) ≡ by_full_names parts (meant name x s)
  first_kept line name parts leads none =
      let none' = subst (λ m. NoMistake line parts (local_state (meaning_of name declared) m (meaning_of name x.scope.tables.names))) (own_known name) none in
      local_kept line name parts leads (meaning_of name slots) (meaning_of name declared) (meaning_of name s.locals) refl (see.locals name) none'
      ∙ ap (λ m. by_full_names parts (local_meant x.object name (meaning_of name s.locals) m (meaning_of name x.scope.tables.names))) (sym (own_known name))

  -- ---- expressions

  mutual
    pub value_kept : (e : Expression) → expression_mistakes e x.scope declared ≡ [] → resolved.value (term e w slots) sight ≡ value e x s
    value_kept (Whole line n) none = refl
    value_kept (Truth line b) none = refl
    value_kept (Named p) none = path_kept p none
    value_kept (Prefixed o e) none = ap (λ r. and_then r (λ n. (let q : Result ℤ FaultKind = Ok (prefixed o n) in q))) (value_kept e none)
    value_kept (Chain e links) none =
        then_same (resolved.value (term e w slots) sight) (value e x s) (λ n. resolved.linked (link_terms links w slots) n sight) (λ n. linked links n x s) (value_kept e (none_left (expression_mistakes e x.scope declared) _ none)) (λ n. link_kept links n (none_right (expression_mistakes e x.scope declared) _ none))
    value_kept (Choose choices) none = choice_kept choices none

    pub link_kept : (links : Links) (n : ℤ) → link_mistakes links x.scope declared ≡ [] → resolved.linked (link_terms links w slots) n sight ≡ linked links n x s
    link_kept NoLink n none = refl
    link_kept (Link o e rest) n none =
        then_same (joined o n (resolved.value (term e w slots) sight)) (joined o n (value e x s)) (λ m. resolved.linked (link_terms rest w slots) m sight) (λ m. linked rest m x s) (ap (joined o n) (value_kept e (none_left (expression_mistakes e x.scope declared) _ none))) (λ m. link_kept rest m (none_right (expression_mistakes e x.scope declared) _ none))

    pub choice_kept : (choices : Choices) → choice_mistakes choices x.scope declared ≡ [] → resolved.chosen (choice_terms choices w slots) sight ≡ chosen choices x s
    choice_kept (Last e) none = value_kept e none
    choice_kept (Choice test e rest) none =
        let behind = none_right (expression_mistakes test x.scope declared) _ none in
        then_same (resolved.value (term test w slots) sight) (value test x s) (λ t. if is_true t then resolved.value (term e w slots) sight else resolved.chosen (choice_terms rest w slots) sight) (λ t. if is_true t then value e x s else chosen rest x s) (value_kept test (none_left (expression_mistakes test x.scope declared) _ none)) (λ t. if_same (is_true t) (resolved.value (term e w slots) sight) (resolved.chosen (choice_terms rest w slots) sight) (value e x s) (chosen rest x s) (value_kept e (none_left (expression_mistakes e x.scope declared) _ behind)) (choice_kept rest (none_right (expression_mistakes e x.scope declared) _ behind)))

    pub path_kept : (p : Path) → path_mistakes p false x.scope declared ≡ [] → resolved.value (goal_term (path_goal p w slots)) sight ≡ path_value p x s
    path_kept (path line name parts) none = first_kept line name parts (parts_lead parts) none

    pub parts_lead : (parts : Parts) → LeadsAll parts
    parts_lead NoPart = end_leads
    parts_lead (Member line name rest) = member_leads line name rest (parts_lead rest)
    parts_lead (Index e rest) = index_leads e rest (value_kept e) (parts_lead rest)

  -- ---- what a path stands for

  -- a path that stands for a place, by cells and by names
  pub record PlaceView (line : ℕ) (name : Name) (parts : Parts) : Type 0 where
    pub spot_is : Tree.Spot
    pub steps_are : Steps
    pub from : ℕ
    pub shape : Shape
    pub full : Name
    pub scalar : Scalar
    pub by_cells_is : path_goal (path line name parts) w slots ≡ OfPlace spot_is
    pub cell_is : resolved.cell_of spot_is sight ≡ resolved.led steps_are sight from
    pub by_names_is : meant name x s ≡ OfVariable full (Stands shape)
    pub leads : IsLed steps_are (path_text parts) from full scalar (resolved.led steps_are sight from) (led parts full (Stands shape) x s)
    pub names : (ns : List ℕ) (more : ℕ) → led_by steps_are ns ≡ Some more → IsNamed memory (from + more) (full ++ path_text parts ns)
    pub types : (p : Place) → led parts full (Stands shape) x s ≡ Ok p → Stand w done memory x s same p.full (single scalar)

  place_view : (line : ℕ) (name : Name) (parts : Parts) (from : Spot) (shape : Shape) (scalar : Scalar) (full : Name) → LeadsAll parts → by_cell.named name w slots ≡ means.Stands from → meant name x s ≡ OfVariable full (Stands shape) → Stage w x.scope done same shape from.extent → Reaches w x.scope done same parts (Stands shape) scalar → part_mistakes parts x.scope declared (Stands shape) ≡ [] → Begins name from full → Stand w done memory x s same full shape → PlaceView line name parts
  place_view line name parts from shape scalar full leads is means_is stage reaches none begins stands =
      let whole : Walk w x.scope done same parts shape from scalar = walk w x.scope done same parts shape from scalar stage reaches in
      let at = whole.0 in
      let st = steps parts w slots (Some from) in
      let count = by_cell.literal_count parts in
      let place : Tree.Spot = spot at.own at.first (span_of at.loose) (offset_of at.loose) count st in
      let there : by_cell.scalar_there (by_cell.followed parts w (Some from)) ≡ Some at = ap by_cell.scalar_there (followed_is w x.scope done same parts shape from scalar at whole.1) ∙ scalar_at at scalar (number_is w x.scope done same parts shape from scalar at whole.1) in
      let goal_is : path_goal (path line name parts) w slots ≡ OfPlace place =
      ap (λ m. goal_of m (by_cell.scalar_there (by_cell.followed parts w (by_cell.start_of m))) count (steps parts w slots (by_cell.start_of m))) is ∙ ap (λ o. place_goal o count st) there in
      let start = origin at.own sight.base + at.first + offset_of at.loose in
      let own = own_is w x.scope done same parts shape from scalar at whole.1 in
      let at_base : origin at.own sight.base ≡ origin from.own sight.base = ap (λ b. origin b sight.base) own in
      record {
        spot_is = place;
        steps_are = st;
        from = start;
        shape = shape;
        full = full;
        scalar = scalar;
        by_cells_is = goal_is;
        cell_is = refl;
        by_names_is = means_is;
        leads = leads shape from scalar at whole.1 none start full;
        names = λ ns more h.
            let here = places w done memory named line name parts slots place goal_is ns more h in
            let sum : origin from.own sight.base + (at.first + offset_of at.loose + more) ≡ start + more = omega (arith, at_base) in
            subst (λ i. IsNamed memory i (full ++ path_text parts ns)) sum
            (begins (at.first + offset_of at.loose + more) (path_text parts ns)
            (subst (λ b. IsNamed (cells_from b done w.class memory) (at.first + offset_of at.loose + more) (first_text b name ++ path_text parts ns)) own here));
        types = λ p h. parts_stand w done memory x s same parts shape from at scalar full p whole.1 stands h;
      }

  -- a path of which nothing is wrong is a local variable, an item or a place
  module _ (line : ℕ) (name : Name) (parts : Parts) (leads : LeadsAll parts) (P : Type 0)
      (on_local : (a : InSlot) (b : Declared) (c : ByName) → meaning_of name slots ≡ Some a → meaning_of name declared ≡ Some b → meaning_of name s.locals ≡ Some c → IsSameLocal sight.local (Some a) (Some b) (Some c) → P)
      (on_item : by_name.is_fixed name x.scope declared ≡ true → P) (on_place : PlaceView line name parts → P) where
    global_view : (g : Option Global) (q : Option Site) → meaning_of name x.scope.tables.names ≡ g → IsSameGlobal g q → NoMistake line parts (global_state g) → by_cell.named name w slots ≡ by_cell.site_meaning q → meaning_of name w.layout.sites ≡ q → meant name x s ≡ global_meant name g → (g ≡ meaning_of name x.scope.tables.names → by_name.is_fixed name x.scope declared ≡ by_name.is_fixed_global g) → P
    global_view (Some (the.Item value)) q known agree none is at means_is fixed = on_item (fixed (sym known))
    global_view (Some (the.Object (Single scalar))) q known agree none is at means_is fixed = absurd agree
    global_view (Some (the.Object (Group k))) None known agree none is at means_is fixed = absurd agree
    global_view (Some (the.Object (Group k))) (Some (site.Item value)) known agree none is at means_is fixed = absurd agree
    global_view (Some (the.Object (Group k))) (Some (site.Object first class)) known agree none is at means_is fixed =
        let shape : Shape = record { lengths = Plain; base = Group k } in
        let reach = reaches_of line parts (Stands shape) none in
        on_place (place_view line name parts (record { own = false; first = first; loose = None; extent = record { dims = dims.Plain; base = Group class } }) shape reach.0 name leads is means_is (record { is_same = (tt, ap Group agree); some = refl; small = same.small name k known }) reach.1 (no_part line parts (Stands shape) none)
        (λ cell text h. let sum : cell ≡ 0 + cell = omega arith in subst (λ i. IsNamed memory i (name ++ text)) sum h)
        (group_stands w done memory x s same name first k (subst (λ j. HasAt memory first (under name (cells_at done j))) agree (named.objects name first class at))))
    global_view (Some the.Enum) q known agree none is at means_is fixed = absurd (cc (no_stray line parts Astray none))
    global_view (Some (the.Struct k)) q known agree none is at means_is fixed = absurd (cc (no_stray line parts Astray none))
    global_view (Some (the.Class k)) q known agree none is at means_is fixed = absurd (cc (no_stray line parts Astray none))
    global_view None q known agree none is at means_is fixed = absurd (cc (no_stray line parts Astray none))

    member_view : (m : Option InGroup) (f : Option Field) → meaning_of name (by_name.members_at x.scope.tables.groups w.class) ≡ m → IsSameMember done m f → NoMistake line parts (member_state m (meaning_of name x.scope.tables.names)) → by_cell.named name w slots ≡ by_cell.field_meaning f (meaning_of name w.layout.sites) → meant name x s ≡ member_meant x.object name m (meaning_of name x.scope.tables.names) → by_name.is_fixed name x.scope declared ≡ by_name.is_fixed_member m (meaning_of name x.scope.tables.names) → P
    member_view (Some (Holds shape)) None known agree none is means_is fixed =
        let reach = reaches_of line parts (Stands shape) none in
        absurd (agree (has_cell w x.scope done same parts shape.lengths shape.base reach.0 (same.elements w.class name shape known) reach.1))
    member_view (Some (Holds shape)) (Some field) known agree none is means_is fixed =
        let reach = reaches_of line parts (Stands shape) none in
        let some = same.elements w.class name shape known in
        let small = same.small x.object w.class see.known in
        on_place (place_view line name parts (record { own = true; first = field.offset; loose = None; extent = field.extent }) shape reach.0 (x.object ++ dotted name) leads is means_is
        (record {
          is_same = agree (has_cell w x.scope done same parts shape.lengths shape.base reach.0 some reach.1);
          some = some;
          small = omega (arith, small, group_many w x.scope done same w.class name shape known);
        }) reach.1 (no_part line parts (Stands shape) none)
        (λ cell text h.
        subst (λ q. IsNamed memory (sight.base + cell) q) (sym (append_assoc x.object (dotted name) text)) (objects w.layout done memory named x.object sight.base w.class see.object cell (dotted name ++ text) h))
        (member_stands w done memory x s same Plain (Group w.class) name x.object shape (ap by_name.member_of known) (group_stands w done memory x s same x.object sight.base w.class (named.objects x.object sight.base w.class see.object))))
    member_view (Some (Method k)) (Some field) known agree none is means_is fixed = absurd agree
    member_view (Some (Method k)) None known agree none is means_is fixed =
        global_view (meaning_of name x.scope.tables.names) (meaning_of name w.layout.sites) refl (same.globals name) none is refl means_is (λ e. fixed)
    member_view None (Some field) known agree none is means_is fixed = absurd agree
    member_view None None known agree none is means_is fixed =
        global_view (meaning_of name x.scope.tables.names) (meaning_of name w.layout.sites) refl (same.globals name) none is refl means_is (λ e. fixed)

    local_view : (a : Option InSlot) (b : Option Declared) (c : Option ByName) → meaning_of name slots ≡ a → meaning_of name declared ≡ b → meaning_of name s.locals ≡ c → IsSameLocal sight.local a b c → NoMistake line parts (local_state b (meaning_of name (by_name.members_at x.scope.tables.groups w.class)) (meaning_of name x.scope.tables.names)) → P
    local_view (Some a) (Some b) (Some c) known told has agree none = on_local a b c known told has agree
    local_view (Some a) (Some b) None known told has agree none = absurd agree
    local_view (Some a) None c known told has agree none = absurd agree
    local_view None (Some b) c known told has agree none = absurd agree
    local_view None None (Some c) known told has agree none = absurd agree
    local_view None None None known told has agree none =
        member_view (meaning_of name (by_name.members_at x.scope.tables.groups w.class)) (meaning_of name (fields_at w.layout.groups w.class)) refl (same.members w.class name (same.small x.object w.class see.known)) none
        (ap (λ o. by_cell.local_meaning o (meaning_of name (fields_at w.layout.groups w.class)) (meaning_of name w.layout.sites)) known)
        (ap (λ m. local_meant x.object name (meaning_of name s.locals) m (meaning_of name x.scope.tables.names)) (own_known name)
        ∙ ap (λ o. local_meant x.object name o (meaning_of name (by_name.members_at x.scope.tables.groups w.class)) (meaning_of name x.scope.tables.names)) has)
        (ap (λ m. by_name.is_fixed_local (meaning_of name declared) m (meaning_of name x.scope.tables.names)) (own_known name)
        ∙ ap (λ o. by_name.is_fixed_local o (meaning_of name (by_name.members_at x.scope.tables.groups w.class)) (meaning_of name x.scope.tables.names)) told)

    pub path_view : path_mistakes (path line name parts) false x.scope declared ≡ [] → P
    path_view none =
        let none' = subst (λ m. NoMistake line parts (local_state (meaning_of name declared) m (meaning_of name x.scope.tables.names))) (own_known name) none in
        local_view (meaning_of name slots) (meaning_of name declared) (meaning_of name s.locals) refl refl refl (see.locals name) none'

  -- what is assigned without a mistake is not fixed, and is read without one
  fixed_case : (line : ℕ) (parts : Parts) (r : Reach) (fixed : Bool) → ends line (unless_fixed fixed (by_name.followed parts x.scope r)) ++ (astray line r ++ part_mistakes parts x.scope declared r) ≡ [] → (fixed ≡ false) × NoMistake line parts r
  fixed_case line parts r false none = (refl, none)
  fixed_case line parts r true none =
      let behind = none_right (ends line (unless_fixed true (by_name.followed parts x.scope r))) _ none in
      let there = not_lost x declared parts r (not_astray_at x declared line r (none_left (astray line r) _ behind)) (none_right (astray line r) _ behind) in
      absurd (by (by_name.followed parts x.scope r) there (none_left (ends line (unless_fixed true (by_name.followed parts x.scope r))) _ none)) where
        by : (r : Reach) → astray 0 r ≡ [] → ends line (unless_fixed true r) ≡ [] → ⊥
        by (Stands shape) there h = cc h
        by Misfit there h = cc h
        by Astray there h = cc there

  pub assigned_path : (line : ℕ) (name : Name) (parts : Parts) → path_mistakes (path line name parts) true x.scope declared ≡ [] → (by_name.is_fixed name x.scope declared ≡ false) × (path_mistakes (path line name parts) false x.scope declared ≡ [])
  assigned_path line name parts none = fixed_case line parts (by_name.named name x.scope declared) (by_name.is_fixed name x.scope declared) none
