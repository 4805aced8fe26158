-- What paths become: a path that reaches a number by names reaches one by cells, through arrays of the
-- same lengths.
use Rattle.std.proofs.Common.{◌≡◌, ℕ, zero, suc, ◌+◌, ◌*◌, ◌≤◌, Bool, true, false, if◌then◌else◌, nat_lt, nat_le, List, [], ◌∷◌, length, Option, Some, None, refl, ap, sym, ◌∙◌, subst, arith}
use Rattle.std.proofs.Math.ListN.{length-append}
use Rattle.std.proofs.lemmas.Bool.{and_parts, leb-true}
use Rattle.std.proofs.lemmas.Nat.{mul-le}
use Rattle.std.specs.Str.{bytes_eq}
use Rattle.trick_base.proofs.Numbers.{factor_small}
use Rattle.trick_check_blocks.specs.Places as by_cell
use Rattle.trick_check_blocks.specs.Places.{field_in, moved, loosened, on_element, on_field}
use Rattle.trick_check_blocks.specs.declared.spot.Element.{Element}
use Rattle.trick_check_blocks.specs.declared.spot.Spot.{Spot}
use Rattle.trick_check_blocks.specs.declared.scope.ClassScope.{ClassScope}
use Rattle.trick_check_cells.proofs.Lists.{length_each, length_under}
use Rattle.trick_check_cells.specs.Cells.{base_cells, cells_at, dotted, each, member_cells, members_cells, under}
use Rattle.trick_check_cells.specs.Tables.{has_elements}
use Rattle.trick_check_cells.specs.Unfolding as unfolding_of
use Rattle.trick_lang.specs.SyntaxTree.{Name, Expression, Whole, Truth, Named, Prefixed, Chain, Choose, Parts, NoPart, Member, Index}
use Rattle.trick_lang.specs.declared.scalar.Scalar.{Scalar}
use Rattle.trick_lang.specs.declared.variable.Variable.{Variable}
use Rattle.trick_check_names.specs.Laid.{fields_at}
use Rattle.trick_check_names.specs.declared.layout.Dims.{Dims}
use Rattle.trick_check_names.specs.declared.layout.Dims.TheVariants as dims
use Rattle.trick_check_names.specs.declared.layout.Extent.{Extent}
use Rattle.trick_check_names.specs.declared.layout.Field.{Field}
use Rattle.trick_check_meaning.specs.Meaning.{length_of}
use Rattle.trick_check_meaning_kept.specs.Alike.{AreSameLengths, AreSameTables, IsSame, IsSameMember, many}
use Rattle.trick_check_names.specs.Names.{Names, meaning_of}
use Rattle.trick_check_names.specs.Places as by_name
use Rattle.trick_check_names.specs.Places.{in_array, member_in, member_of, single}
use Rattle.trick_check_names.specs.declared.follow.State.{State as Reach}
use Rattle.trick_check_names.specs.declared.follow.State.TheVariants.{Stands, Astray, Misfit}
use Rattle.trick_check_names.specs.declared.tables.Base.{Base}
use Rattle.trick_check_names.specs.declared.tables.Base.TheVariants.{Single, Group}
use Rattle.trick_check_names.specs.declared.tables.Lengths.{Lengths}
use Rattle.trick_check_names.specs.declared.tables.Lengths.TheVariants.{Plain, One, Two}
use Rattle.trick_check_names.specs.declared.tables.Member.{Member as InGroup}
use Rattle.trick_check_names.specs.declared.tables.Member.TheVariants.{Variable as Holds, Method}
use Rattle.trick_check_names.specs.declared.tables.Shape.{Shape}
use Rattle.trick_check_names.specs.declared.scope.FileScope.{FileScope as ByName}

-- ---- how many cells there are

pub member_many : (done : List (List Variable)) (ms : Names InGroup) (name : Name) (shape : Shape) → meaning_of name ms ≡ Some (Holds shape) → many done shape ≤ length (members_cells done ms)
member_many done [] name shape is = absurd (cc is)
member_many done (m ∷ ms) name shape is = by (bytes_eq name m.0) (λ h. member_many done ms name shape h) is where
  total : length (members_cells done (m ∷ ms)) ≡ length (member_cells done m.1) + length (members_cells done ms)
  total = length-append (under (dotted m.0) (member_cells done m.1)) (members_cells done ms) ∙ ap (λ k. k + length (members_cells done ms)) (length_under (dotted m.0) (member_cells done m.1))

  by : (b : Bool) → (meaning_of name ms ≡ Some (Holds shape) → many done shape ≤ length (members_cells done ms)) → (if b then Some m.1 else meaning_of name ms) ≡ Some (Holds shape) → many done shape ≤ length (members_cells done (m ∷ ms))
  by true rest h =
      let one : m.1 ≡ Holds shape = cc h in
      let here : length (member_cells done m.1) ≡ many done shape = ap (λ q. length (member_cells done q)) one in
      omega (arith, total, here)
  by false rest h = omega (arith, total, rest h)

pub groups_same : (gs : List (Names InGroup)) (k : ℕ) → unfolding_of.members_at gs k ≡ by_name.members_at gs k
groups_same [] k = refl
groups_same (g ∷ gs) zero = refl
groups_same (g ∷ gs) (suc k) = groups_same gs k

-- the whole array has the cells of so many elements
array_low : (n b : ℕ) → 1 ≤ n → 1 ≤ b → 1 ≤ n * b
array_low n b one some = let low : 1 * 1 ≤ n * b = mul-le 1 1 n b one some in omega (arith, low)

length_small : (n b : ℕ) → 1 ≤ b → n * b ≤ 65536 → n ≤ 65536
length_small n b some small =
    let low : n * 1 ≤ n * b = mul-le n 1 n b (omega arith) some in
    let one : n * 1 ≡ n = omega arith in
    omega (arith, low, one, small)

-- ---- literals

pub same_literal : (e : Expression) → by_name.literal_of e ≡ by_cell.literal_of e
same_literal (Whole line n) = refl
same_literal (Truth line b) = refl
same_literal (Named p) = refl
same_literal (Prefixed o e) = refl
same_literal (Chain e links) = refl
same_literal (Choose choices) = refl

-- a literal is below the length of its array
abbrev pub IsBelow : Option ℕ → ℕ → Type 0
IsBelow None n = Unit {0}
IsBelow (Some k) n = nat_lt k n ≡ true

array_in : (literal : Option ℕ) (n : ℕ) (inside : Reach) → IsBelow literal n → in_array n literal inside ≡ inside
array_in None n inside below = refl
array_in (Some k) n inside below = ap (λ b. if b then inside else Astray) below

-- the place of an element
abbrev pub on_one : Option ℕ → Element → Spot → Spot
on_one None el s = record { own = s.own; first = s.first; loose = loosened el.dim.cells s.loose; extent = el.inner }
on_one (Some k) el s = moved (k * el.dim.stride) el.inner s

pub on_one_is : (literal : Option ℕ) (el : Element) (s : Spot) → IsBelow literal el.dim.length → on_element literal (Some el) s ≡ Some (on_one literal el s)
on_one_is None el s below = refl
on_one_is (Some k) el s below = ap (λ b. if b then Some (moved (k * el.dim.stride) el.inner s) else None) below

pub on_one_extent : (literal : Option ℕ) (el : Element) (s : Spot) → (on_one literal el s).extent ≡ el.inner
on_one_extent None el s = refl
on_one_extent (Some k) el s = refl

pub on_one_own : (literal : Option ℕ) (el : Element) (s : Spot) → (on_one literal el s).own ≡ s.own
on_one_own None el s = refl
on_one_own (Some k) el s = refl

module _ (w : ClassScope) (x : ByName) (done : List (List Variable)) (same : AreSameTables x.tables w.layout done) where
  pub group_many : (k : ℕ) (name : Name) (shape : Shape) → meaning_of name (by_name.members_at x.tables.groups k) ≡ Some (Holds shape) → many done shape ≤ length (cells_at done k)
  group_many k name shape known =
      let all : length (cells_at done k) ≡ length (members_cells done (by_name.members_at x.tables.groups k)) = ap length (same.unfolds k) ∙ ap (λ ms. length (members_cells done ms)) (groups_same x.tables.groups k) in
      omega (arith, all, member_many done (by_name.members_at x.tables.groups k) name shape known)

  -- ---- what a path reaches by names

  strayed : (parts : Parts) → by_name.followed parts x Astray ≡ Astray
  strayed NoPart = refl
  strayed (Member line name rest) = strayed rest
  strayed (Index e rest) = strayed rest

  misfitted : (parts : Parts) → by_name.followed parts x Misfit ≡ Misfit
  misfitted NoPart = refl
  misfitted (Member line name rest) = misfitted rest
  misfitted (Index e rest) = misfitted rest

  abbrev pub Reaches : Parts → Reach → Scalar → Type 0
  Reaches parts there scalar = by_name.followed parts x there ≡ Stands (single scalar)

  not_astray : (parts : Parts) (scalar : Scalar) → Reaches parts Astray scalar → ⊥
  not_astray parts scalar h = cc (sym (strayed parts) ∙ h)

  not_misfit : (parts : Parts) (scalar : Scalar) → Reaches parts Misfit scalar → ⊥
  not_misfit parts scalar h = cc (sym (misfitted parts) ∙ h)

  -- an index that is a literal is below the length
  inside_of : (literal : Option ℕ) (n : ℕ) (inside : Reach) (rest : Parts) (scalar : Scalar) → Reaches rest (in_array n literal inside) scalar → Reaches rest inside scalar × IsBelow literal n
  inside_of None n inside rest scalar h = (h, tt)
  inside_of (Some k) n inside rest scalar h = by (nat_lt k n) refl h where
    by : (b : Bool) → nat_lt k n ≡ b → Reaches rest (if b then inside else Astray) scalar → Reaches rest inside scalar × (nat_lt k n ≡ true)
    by true is h = (h, is)
    by false is h = absurd (not_astray rest scalar h)

  -- what reaches a number has a cell
  pub has_cell : (parts : Parts) (ls : Lengths) (base : Base) (scalar : Scalar) → has_elements ls ≡ true → Reaches parts (Stands (record { lengths = ls; base = base })) scalar → 1 ≤ many done (record { lengths = ls; base = base })
  has_cell NoPart ls base scalar some h =
      let one : record { lengths = ls; base = base } ≡ single scalar = cc h in
      subst (λ q. 1 ≤ many done q) (sym one) (omega arith)
  has_cell (Member line name rest) Plain (Group k) scalar some h = by (meaning_of name (by_name.members_at x.tables.groups k)) refl h (λ ls base some h. has_cell rest ls base scalar some h) where
    by : (o : Option InGroup) → meaning_of name (by_name.members_at x.tables.groups k) ≡ o → Reaches rest (member_of o) scalar → ((ls : Lengths) (base : Base) → has_elements ls ≡ true → Reaches rest (Stands (record { lengths = ls; base = base })) scalar → 1 ≤ many done (record { lengths = ls; base = base })) → 1 ≤ length (cells_at done k)
    by (Some (Holds shape)) known h rest_has = omega (arith, group_many k name shape known, rest_has shape.lengths shape.base (same.elements k name shape known) h)
    by (Some (Method j)) known h rest_has = absurd (not_astray rest scalar h)
    by None known h rest_has = absurd (not_astray rest scalar h)
  has_cell (Member line name rest) Plain (Single other) scalar some h = absurd (not_astray rest scalar h)
  has_cell (Member line name rest) (One n) base scalar some h = absurd (not_astray rest scalar h)
  has_cell (Member line name rest) (Two m n) base scalar some h = absurd (not_astray rest scalar h)
  has_cell (Index e rest) Plain base scalar some h = absurd (not_misfit rest scalar h)
  has_cell (Index e rest) (One n) base scalar some h =
      let inner = has_cell rest Plain base scalar refl (inside_of (by_name.literal_of e) n (Stands (record { lengths = Plain; base = base })) rest scalar h).0 in
      subst (λ k. 1 ≤ k) (sym (length_each 0 n (base_cells done base))) (array_low n (length (base_cells done base)) (leb-true 1 n some) inner)
  has_cell (Index e rest) (Two m n) base scalar some h =
      let some_two = and_parts (nat_le 1 m) (nat_le 1 n) some in
      let inner = has_cell rest (One n) base scalar some_two.1 (inside_of (by_name.literal_of e) m (Stands (record { lengths = One n; base = base })) rest scalar h).0 in
      subst (λ k. 1 ≤ k) (sym (length_each 0 m (each 0 n (base_cells done base)))) (array_low m (length (each 0 n (base_cells done base))) (leb-true 1 m some_two.0) inner)

  -- ---- one step

  -- where a path has come to, by names and by cells
  pub record Stage (shape : Shape) (extent : Extent) : Type 0 where
    pub is_same : IsSame shape extent
    pub some : has_elements shape.lengths ≡ true
    pub small : many done shape ≤ 65536

  -- `.name`
  pub record MemberStep (name : Name) (ls : Lengths) (base : Base) (d : Dims) (b : Base) : Type 0 where
    pub shape : Shape
    pub field : Field
    pub by_names : member_in ls base name x ≡ Stands shape
    pub by_cells : field_in d b name w ≡ Some field
    pub stage : Stage shape field.extent

  member_step : (ls : Lengths) (base : Base) (d : Dims) (b : Base) (name : Name) (rest : Parts) (scalar : Scalar) → AreSameLengths ls d → b ≡ base → many done (record { lengths = ls; base = base }) ≤ 65536 → Reaches rest (member_in ls base name x) scalar → MemberStep name ls base d b
  member_step Plain (Group k) dims.Plain b name rest scalar lengths base small h = subst (MemberStep name Plain (Group k) dims.Plain) (sym base) (by (meaning_of name (by_name.members_at x.tables.groups k)) (meaning_of name (fields_at w.layout.groups k)) refl refl (same.members k name small) h) where
    by : (o : Option InGroup) (f : Option Field) → meaning_of name (by_name.members_at x.tables.groups k) ≡ o → meaning_of name (fields_at w.layout.groups k) ≡ f → IsSameMember done o f → Reaches rest (member_of o) scalar → MemberStep name Plain (Group k) dims.Plain (Group k)
    by (Some (Holds shape)) (Some f) known field agree h = record {
      shape = shape;
      field = f;
      by_names = ap member_of known;
      by_cells = field;
      stage = record {
        is_same = agree (has_cell rest shape.lengths shape.base scalar (same.elements k name shape known) h);
        some = same.elements k name shape known;
        small = omega (arith, group_many k name shape known, small);
      };
    }
    by (Some (Holds shape)) None known field agree h = absurd (agree (has_cell rest shape.lengths shape.base scalar (same.elements k name shape known) h))
    by (Some (Method j)) f known field agree h = absurd (not_astray rest scalar h)
    by None f known field agree h = absurd (not_astray rest scalar h)
  member_step Plain (Group k) (dims.One d) b name rest scalar lengths base small h = absurd lengths
  member_step Plain (Group k) (dims.Two d e) b name rest scalar lengths base small h = absurd lengths
  member_step Plain (Single other) d b name rest scalar lengths base small h = absurd (not_astray rest scalar h)
  member_step (One n) base d b name rest scalar lengths is small h = absurd (not_astray rest scalar h)
  member_step (Two m n) base d b name rest scalar lengths is small h = absurd (not_astray rest scalar h)

  -- `[e]`
  pub record ElementStep (literal : Option ℕ) (rest : Parts) (scalar : Scalar) (ls : Lengths) (base : Base) (d : Dims) (b : Base) : Type 0 where
    pub shape : Shape
    pub element : Element
    pub by_names : by_name.element_in ls base None ≡ Stands shape
    pub by_literal : by_name.element_in ls base literal ≡ Stands shape
    pub by_cells : by_cell.element_in d b ≡ Some element
    pub long : element.dim.length ≡ length_of ls
    pub short : element.dim.length ≤ 65536
    pub below : IsBelow literal element.dim.length
    pub further : Reaches rest (Stands shape) scalar
    pub stage : Stage shape element.inner

  element_step : (ls : Lengths) (base : Base) (d : Dims) (b : Base) (literal : Option ℕ) (rest : Parts) (scalar : Scalar) → AreSameLengths ls d → b ≡ base → has_elements ls ≡ true → many done (record { lengths = ls; base = base }) ≤ 65536 → Reaches rest (by_name.element_in ls base literal) scalar → ElementStep literal rest scalar ls base d b
  element_step Plain base d b literal rest scalar lengths is some small h = absurd (not_misfit rest scalar h)
  element_step (One n) base dims.Plain b literal rest scalar lengths is some small h = absurd lengths
  element_step (One n) base (dims.Two d e) b literal rest scalar lengths is some small h = absurd lengths
  element_step (One n) base (dims.One d) b literal rest scalar lengths is some small h =
      let inner : Shape = record { lengths = Plain; base = base } in
      let inside = inside_of literal n (Stands inner) rest scalar h in
      let cell = has_cell rest Plain base scalar refl inside.0 in
      let whole : n * length (base_cells done base) ≤ 65536 = subst (λ k. k ≤ 65536) (length_each 0 n (base_cells done base)) small in
      record {
        shape = inner;
        element = record { dim = d; inner = record { dims = dims.Plain; base = b } };
        by_names = refl;
        by_literal = array_in literal n (Stands inner) inside.1;
        by_cells = refl;
        long = lengths;
        short = omega (arith, lengths, length_small n (length (base_cells done base)) cell whole);
        below = subst (IsBelow literal) (sym lengths) inside.1;
        further = inside.0;
        stage = record { is_same = (tt, is); some = refl; small = factor_small n (length (base_cells done base)) (leb-true 1 n some) whole };
      }
  element_step (Two m n) base dims.Plain b literal rest scalar lengths is some small h = absurd lengths
  element_step (Two m n) base (dims.One d) b literal rest scalar lengths is some small h = absurd lengths
  element_step (Two m n) base (dims.Two d e) b literal rest scalar lengths is some small h =
      let inner : Shape = record { lengths = One n; base = base } in
      let some_two = and_parts (nat_le 1 m) (nat_le 1 n) some in
      let inside = inside_of literal m (Stands inner) rest scalar h in
      let cell = has_cell rest (One n) base scalar some_two.1 inside.0 in
      let row = each 0 n (base_cells done base) in
      let whole : m * length row ≤ 65536 = subst (λ k. k ≤ 65536) (length_each 0 m row) small in
      record {
        shape = inner;
        element = record { dim = d; inner = record { dims = dims.One e; base = b } };
        by_names = refl;
        by_literal = array_in literal m (Stands inner) inside.1;
        by_cells = refl;
        long = lengths.0;
        short = omega (arith, lengths.0, length_small m (length row) cell whole);
        below = subst (IsBelow literal) (sym lengths.0) inside.1;
        further = inside.0;
        stage = record { is_same = (lengths.1, is); some = some_two.1; small = factor_small m (length row) (leb-true 1 m some_two.0) whole };
      }

  -- ---- whole paths

  -- a path goes by names and by cells through the same members and elements up to a number
  abbrev pub Walks : Parts → Shape → Spot → Scalar → Spot → Type 0
  Walks NoPart shape s scalar at = (shape ≡ single scalar) × (s ≡ at) × (s.extent ≡ record { dims = dims.Plain; base = Single scalar })
  Walks (Member line name rest) shape s scalar at =
      (step : MemberStep name shape.lengths shape.base s.extent.dims s.extent.base)
      × Walks rest step.shape (moved step.field.offset step.field.extent s) scalar at
  Walks (Index e rest) shape s scalar at =
      (step : ElementStep (by_cell.literal_of e) rest scalar shape.lengths shape.base s.extent.dims s.extent.base)
      × Walks rest step.shape (on_one (by_cell.literal_of e) step.element s) scalar at

  abbrev pub Walk : Parts → Shape → Spot → Scalar → Type 0
  Walk parts shape s scalar = (at : Spot) × Walks parts shape s scalar at

  plain_extent : (d : Dims) (b : Base) (scalar : Scalar) → AreSameLengths Plain d → b ≡ Single scalar → ◌≡◌ {A = Extent} (record { dims = d; base = b }) (record { dims = dims.Plain; base = Single scalar })
  plain_extent dims.Plain b scalar lengths is = ap (λ q. record { dims = dims.Plain; base = q }) is
  plain_extent (dims.One d) b scalar lengths is = absurd lengths
  plain_extent (dims.Two d e) b scalar lengths is = absurd lengths

  pub walk : (parts : Parts) (shape : Shape) (s : Spot) (scalar : Scalar) → Stage shape s.extent → Reaches parts (Stands shape) scalar → Walk parts shape s scalar
  walk NoPart shape s scalar stage h =
      let one : shape ≡ single scalar = cc h in
      let is_same = subst (λ q. IsSame q s.extent) one stage.is_same in
      (s, (one, refl, plain_extent s.extent.dims s.extent.base scalar is_same.0 is_same.1))
  walk (Member line name rest) shape s scalar stage h =
      let step = member_step shape.lengths shape.base s.extent.dims s.extent.base name rest scalar stage.is_same.0 stage.is_same.1 stage.small h in
      let further = walk rest step.shape (moved step.field.offset step.field.extent s) scalar step.stage (subst (λ q. Reaches rest q scalar) step.by_names h) in
      (further.0, (step, further.1))
  walk (Index e rest) shape s scalar stage h =
      let h' : Reaches rest (by_name.element_in shape.lengths shape.base (by_cell.literal_of e)) scalar = subst (λ q. Reaches rest (by_name.element_in shape.lengths shape.base q) scalar) (same_literal e) h in
      let step = element_step shape.lengths shape.base s.extent.dims s.extent.base (by_cell.literal_of e) rest scalar stage.is_same.0 stage.is_same.1 stage.some stage.small h' in
      let next = on_one (by_cell.literal_of e) step.element s in
      let further = walk rest step.shape next scalar (subst (Stage step.shape) (sym (on_one_extent (by_cell.literal_of e) step.element s)) step.stage) step.further in
      (further.0, (step, further.1))

  -- so it leads to a number by cells
  pub followed_is : (parts : Parts) (shape : Shape) (s : Spot) (scalar : Scalar) (at : Spot) → Walks parts shape s scalar at → by_cell.followed parts w (Some s) ≡ Some at
  followed_is NoPart shape s scalar at walks = ap Some walks.1
  followed_is (Member line name rest) shape s scalar at walks =
      ap (λ o. by_cell.followed rest w (on_field o s)) walks.0.by_cells ∙ followed_is rest walks.0.shape (moved walks.0.field.offset walks.0.field.extent s) scalar at walks.1
  followed_is (Index e rest) shape s scalar at walks =
      ap (λ o. by_cell.followed rest w (on_element (by_cell.literal_of e) o s)) walks.0.by_cells
      ∙ (ap (λ o. by_cell.followed rest w o) (on_one_is (by_cell.literal_of e) walks.0.element s walks.0.below)
      ∙ followed_is rest walks.0.shape (on_one (by_cell.literal_of e) walks.0.element s) scalar at walks.1)

  pub number_is : (parts : Parts) (shape : Shape) (s : Spot) (scalar : Scalar) (at : Spot) → Walks parts shape s scalar at → at.extent ≡ record { dims = dims.Plain; base = Single scalar }
  number_is NoPart shape s scalar at walks = subst (λ (q : Spot). q.extent ≡ record { dims = dims.Plain; base = Single scalar }) walks.1 walks.2
  number_is (Member line name rest) shape s scalar at walks = number_is rest walks.0.shape (moved walks.0.field.offset walks.0.field.extent s) scalar at walks.1
  number_is (Index e rest) shape s scalar at walks = number_is rest walks.0.shape (on_one (by_cell.literal_of e) walks.0.element s) scalar at walks.1

  pub own_is : (parts : Parts) (shape : Shape) (s : Spot) (scalar : Scalar) (at : Spot) → Walks parts shape s scalar at → at.own ≡ s.own
  own_is NoPart shape s scalar at walks = ap (λ (q : Spot). q.own) (sym walks.1)
  own_is (Member line name rest) shape s scalar at walks = own_is rest walks.0.shape (moved walks.0.field.offset walks.0.field.extent s) scalar at walks.1
  own_is (Index e rest) shape s scalar at walks =
      own_is rest walks.0.shape (on_one (by_cell.literal_of e) walks.0.element s) scalar at walks.1 ∙ on_one_own (by_cell.literal_of e) walks.0.element s
