-- What a place of a body reaches: what its first name stands for, and where its further parts lead.
use Rattle.std.specs.Prelude.{ℕ, zero, suc, Bool, true, false, if◌then◌else◌, nat_lt, List, [], ◌∷◌, Option, Some, None}
use Rattle.trick_lang.specs.SyntaxTree.{Name, Expression, Whole, Truth, Parts, NoPart, Member, Index}
use Rattle.trick_lang.specs.declared.scalar.Scalar.{Scalar}
use Rattle.trick_lang.specs.declared.scalar.Scalar.TheVariants.{Int}
use Rattle.trick_check_names.specs.Names.{Names, meaning_of}
use Rattle.trick_check_names.specs.declared.follow.State.{State}
use Rattle.trick_check_names.specs.declared.follow.State.TheVariants.{Stands, Astray, Misfit}
use Rattle.trick_check_names.specs.declared.tables.Base.{Base}
use Rattle.trick_check_names.specs.declared.tables.Base.TheVariants.{Single, Group}
use Rattle.trick_check_names.specs.declared.tables.Global.{Global}
use Rattle.trick_check_names.specs.declared.tables.Global.TheVariants.{Item, Object}
use Rattle.trick_check_names.specs.declared.tables.Lengths.{Lengths}
use Rattle.trick_check_names.specs.declared.tables.Lengths.TheVariants.{Plain, One, Two}
use Rattle.trick_check_names.specs.declared.tables.Local.{Local}
use Rattle.trick_check_names.specs.declared.tables.Member.{Member as InGroup}
use Rattle.trick_check_names.specs.declared.tables.Member.TheVariants.{Variable, Method}
use Rattle.trick_check_names.specs.declared.tables.Shape.{Shape}
use Rattle.trick_check_names.specs.declared.scope.FileScope.{FileScope}

-- the members of a struct or class, by its number
abbrev pub members_at : List (Names InGroup) → ℕ → Names InGroup
members_at [] k = []
members_at (g ∷ gs) zero = g
members_at (g ∷ gs) (suc k) = members_at gs k

-- what a name is in the class of the body
abbrev pub own_member : Name → FileScope → Option InGroup
own_member name w = meaning_of name (members_at w.tables.groups w.own)

-- ---- the first name

abbrev pub single : Scalar → Shape
single scalar = record { lengths = Plain; base = Single scalar }

-- an item of an enum is an `int`, and an object is one of its class; types are no places
abbrev pub global_state : Option Global → State
global_state (Some (Item value)) = Stands (single Int)
global_state (Some (Object base)) = Stands (record { lengths = Plain; base = base })
global_state _ = Astray

-- a variable of the class hides items and objects; a method does not
abbrev pub member_state : Option InGroup → Option Global → State
member_state (Some (Variable shape)) global = Stands shape
member_state (Some (Method k)) global = global_state global
member_state None global = global_state global

-- a local hides all of them
abbrev pub local_state : Option Local → Option InGroup → Option Global → State
local_state (Some local) member global = Stands (single local.scalar)
local_state None member global = member_state member global

-- The first name of a place is a local, or else a member of the class, or else an item of an enum or
-- an object of the file, wherever in the file that is declared.
abbrev pub named : Name → FileScope → Names Local → State
named name w locals = local_state (meaning_of name locals) (own_member name w) (meaning_of name w.tables.names)

abbrev pub is_fixed_global : Option Global → Bool
is_fixed_global (Some (Item value)) = true
is_fixed_global _ = false

abbrev pub is_fixed_member : Option InGroup → Option Global → Bool
is_fixed_member (Some (Variable shape)) global = false
is_fixed_member (Some (Method k)) global = is_fixed_global global
is_fixed_member None global = is_fixed_global global

abbrev pub is_fixed_local : Option Local → Option InGroup → Option Global → Bool
is_fixed_local (Some local) member global = local.is_loop
is_fixed_local None member global = is_fixed_member member global

-- the name is that of an item or of a loop, which cannot be assigned
abbrev pub is_fixed : Name → FileScope → Names Local → Bool
is_fixed name w locals = is_fixed_local (meaning_of name locals) (own_member name w) (meaning_of name w.tables.names)

-- ---- what follows it

abbrev pub member_of : Option InGroup → State
member_of (Some (Variable shape)) = Stands shape
member_of _ = Astray

-- `.name`: only a struct and an object have members, and a method is none
abbrev pub member_in : Lengths → Base → Name → FileScope → State
member_in Plain (Group k) name w = member_of (meaning_of name (members_at w.tables.groups k))
member_in _ _ name w = Astray

-- a path stops at its first mistake
abbrev pub to_member : Name → FileScope → State → State
to_member name w (Stands shape) = member_in shape.lengths shape.base name w
to_member name w Astray = Astray
to_member name w Misfit = Misfit

-- a literal index is below the length of its array
abbrev pub in_array : ℕ → Option ℕ → State → State
in_array length None inside = inside
in_array length (Some k) inside = if nat_lt k length then inside else Astray

-- `[index]`: only an array has elements
abbrev pub element_in : Lengths → Base → Option ℕ → State
element_in Plain base literal = Misfit
element_in (One n) base literal = in_array n literal (Stands (record { lengths = Plain; base = base }))
element_in (Two m n) base literal = in_array m literal (Stands (record { lengths = One n; base = base }))

abbrev pub to_element : Option ℕ → State → State
to_element literal (Stands shape) = element_in shape.lengths shape.base literal
to_element literal Astray = Astray
to_element literal Misfit = Misfit

-- a literal index is a whole number or a truth value
abbrev pub literal_of : Expression → Option ℕ
literal_of (Whole line n) = Some n
literal_of (Truth line value) = Some (if value then 1 else 0)
literal_of _ = None

-- where the parts of a path lead
abbrev pub followed : Parts → FileScope → State → State
followed NoPart w s = s
followed (Member line name rest) w s = followed rest w (to_member name w s)
followed (Index e rest) w s = followed rest w (to_element (literal_of e) s)
