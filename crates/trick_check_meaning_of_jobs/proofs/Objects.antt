-- The objects of a file have the names, classes and cells that the tables tell.
use Rattle.std.proofs.Common.{◌≡◌, ℕ, zero, suc, ◌+◌, ◌==◌, Bool, true, false, if◌then◌else◌, List, [], ◌∷◌, ◌++◌, Some, None, slice_get, refl, ap, sym, ◌∙◌, subst, eq-eqb}
use Rattle.std.proofs.lemmas.Bool.{or_left, or_right}
use Rattle.std.specs.Str.{bytes_eq}
use Rattle.trick_base.proofs.ListLemmas.{own_bytes, same_bytes}
use Rattle.trick_check_cells.specs.Counts.{global_count}
use Rattle.trick_check_cells.specs.Tables.{narrow, object_row, object_rows, with_site, with_sites}
use Rattle.trick_check.specs.Walk.{has_object}
use Rattle.trick_lang.specs.SyntaxTree.{Name}
use Rattle.trick_lang.specs.declared.object.Object.{Object}
use Rattle.trick_check_names.specs.declared.layout.Site.{Site}
use Rattle.trick_check_names.specs.declared.layout.Site.TheVariants as site
use Rattle.trick_check_meaning_kept.proofs.Tabled.{Once, new_site, site_other, sites_none}
use Rattle.trick_check_names.specs.Names.{Names, meaning_of}
use Rattle.trick_check_names.specs.declared.tables.Base.TheVariants.{Single, Group}
use Rattle.trick_check_names.specs.declared.tables.Global.{Global}
use Rattle.trick_check_names.specs.declared.tables.Global.TheVariants as the

-- ---- names of objects

-- a name behind another one is another name
abbrev IsBehind : Name → Name × Global → Names Global → Global → Type 0
IsBehind name e es g = (bytes_eq name e.0 ≡ false) × (meaning_of name (e ∷ es) ≡ Some g)

behind : (name : Name) (e : Name × Global) (es : Names Global) (g : Global) → meaning_of e.0 es ≡ None
    → meaning_of name es ≡ Some g → IsBehind name e es g
behind name e es g new known = by (bytes_eq name e.0) refl where
  by : (b : Bool) → bytes_eq name e.0 ≡ b → (b ≡ false) × ((if b then Some e.1 else meaning_of name es) ≡ Some g)
  by false is = (refl, known)
  by true is = absurd (cc (sym (subst (λ q. meaning_of q es ≡ Some g) (same_bytes name e.0 is) known) ∙ new))

-- what is known of an object: what its name stands for, and where it lies
abbrev IsTold : List ℕ → ℕ → Names Global → Names Site → Object → Type 0
IsTold sizes first gs sites o =
    (meaning_of o.name gs ≡ Some (the.Object (Group o.class)))
    × (meaning_of o.name sites ≡ None → meaning_of o.name (with_sites sizes first gs sites) ≡ Some
    (site.Object o.first o.class))

further : (sizes : List ℕ) (first : ℕ) (e : Name × Global) (es : Names Global) (sites : Names Site) (o : Object)
    → meaning_of e.0 es ≡ None
    → IsTold sizes (narrow (first + global_count sizes e.1)) es (with_site first e.0 e.1 sites) o
    → IsTold sizes first (e ∷ es) sites o
further sizes first e es sites o new told =
    let here = behind o.name e es (the.Object (Group o.class)) new told.0 in
    (here.1, λ free. told.1 (site_other first o.name e.0 e.1 sites here.0 ∙ free))

first_told : (sizes : List ℕ) (first k : ℕ) (name : Name) (es : Names Global) (sites : Names Site)
    → meaning_of name es ≡ None
    → IsTold sizes first ((name, the.Object (Group k)) ∷ es) sites (record { name = name; class = k; first = first })
first_told sizes first k name es sites new = (
  ap (λ b. if b then Some (the.Object (Group k)) else meaning_of name es) (own_bytes name),
  λ free. sites_none sizes (narrow (first + global_count sizes (the.Object (Group k)))) name es
      (with_site first name (the.Object (Group k)) sites) new
      ∙ new_site name (site.Object first k) sites free,
)

told : (sizes : List ℕ) (first : ℕ) (gs : Names Global) (sites : Names Site) (i : ℕ) (o : Object) → Once gs
    → slice_get (object_rows sizes first gs) i ≡ Some o → IsTold sizes first gs sites o
told sizes first [] sites i o once there = absurd (cc there)
told sizes first (e ∷ es) sites i o once there =
    by e.1 i refl there
    (λ j h. further sizes first e es sites o once.0
    (told sizes (narrow (first + global_count sizes e.1)) es (with_site first e.0 e.1 sites) j o once.1 h)) where
      next : (g : Global) (i : ℕ) → e.1 ≡ g
          → slice_get (object_rows sizes (narrow (first + global_count sizes g)) es) i ≡ Some o
          → ((j : ℕ) → slice_get (object_rows sizes (narrow (first + global_count sizes e.1)) es) j ≡ Some o
          → IsTold sizes first (e ∷ es) sites o)
          → IsTold sizes first (e ∷ es) sites o
      next g i is there rest =
          rest i (subst (λ q. slice_get (object_rows sizes (narrow (first + global_count sizes q)) es) i ≡ Some o)
          (sym is) there)

      by : (g : Global) (i : ℕ) → e.1 ≡ g
          → slice_get (object_row first e.0 g ++ object_rows sizes (narrow (first + global_count sizes g)) es) i
          ≡ Some o
          → ((j : ℕ) → slice_get (object_rows sizes (narrow (first + global_count sizes e.1)) es) j ≡ Some o
          → IsTold sizes first (e ∷ es) sites o)
          → IsTold sizes first (e ∷ es) sites o
      by the.Enum i is there rest = next the.Enum i is there rest
      by (the.Struct k) i is there rest = next (the.Struct k) i is there rest
      by (the.Class k) i is there rest = next (the.Class k) i is there rest
      by (the.Item value) i is there rest = next (the.Item value) i is there rest
      by (the.Object (Single scalar)) i is there rest = next (the.Object (Single scalar)) i is there rest
      by (the.Object (Group k)) (suc i) is there rest = next (the.Object (Group k)) i is there rest
      by (the.Object (Group k)) zero is there rest =
          let row : record { name = e.0; class = k; first = first } ≡ o = cc there in
          subst (λ q. IsTold sizes first (e ∷ es) sites q) row
          (subst (λ g. IsTold sizes first ((e.0, g) ∷ es) sites (record { name = e.0; class = k; first = first }))
          (sym is)
          (first_told sizes first k e.0 es sites once.0))

-- an object of the file is one of its class, and lies where the tables say
pub object_told : (sizes : List ℕ) (gs : Names Global) (i : ℕ) (o : Object) → Once gs
    → slice_get (object_rows sizes 0 gs) i ≡ Some o
    → (meaning_of o.name gs ≡ Some (the.Object (Group o.class))) × (meaning_of o.name (with_sites sizes 0 gs []) ≡ Some
    (site.Object o.first o.class))
object_told sizes gs i o once there = let all = told sizes 0 gs [] i o once there in (all.0, all.1 refl)

-- its class has an object
pub class_used : (objects : List Object) (i : ℕ) (o : Object) → slice_get objects i ≡ Some o
    → has_object objects o.class ≡ true
class_used [] i o there = absurd (cc there)
class_used (z ∷ objects) zero o there =
    let is : z ≡ o = cc there in
    or_left (z.class == o.class) _ (eq-eqb z.class o.class (ap (λ (q : Object). q.class) is))
class_used (z ∷ objects) (suc i) o there = or_right (z.class == o.class) _ (class_used objects i o there)
