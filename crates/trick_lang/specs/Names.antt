-- The names of a program: how long they are, and which are met once alone.
use Rattle.std.specs.Char.{is_ascii_alphabetic, is_ascii_alphanumeric}
use Rattle.std.specs.List.{list_all}
use Rattle.std.specs.Prelude.{ℕ, ◌==◌, Bool, true, false, not, ◌&&◌, ◌||◌, ◌++◌, nat_le, List, [], ◌∷◌, length, slice_get, Option, Some, None}
use Rattle.std.specs.Str.{bytes_eq}
use Rattle.trick_lang.specs.declared.job.Job.{Job}
use Rattle.trick_lang.specs.declared.method.Method.{Method}
use Rattle.trick_lang.specs.declared.object.Object.{Object}
use Rattle.trick_lang.specs.declared.variable.EnumItem.{EnumItem}
use Rattle.trick_lang.specs.declared.variable.Variable.{Variable}

-- a name of a text has at most 64 bytes
abbrev pub is_short : List ℕ → Bool
is_short name = nat_le (length name) 64

-- a letter or `_`
abbrev pub is_letter : ℕ → Bool
is_letter b = is_ascii_alphabetic b || (b == 95)

-- a letter, a digit or `_`
abbrev pub is_letter_or_digit : ℕ → Bool
is_letter_or_digit b = is_ascii_alphanumeric b || (b == 95)

-- a name of a text has a letter first, and after it letters and digits
abbrev pub is_spelled : List ℕ → Bool
is_spelled [] = false
is_spelled (b ∷ bs) = is_letter b && list_all is_letter_or_digit bs

-- neither a space nor a line feed
abbrev pub is_plain_byte : ℕ → Bool
is_plain_byte b = not (b == 32) && not (b == 10)

-- such a name is one word of a line
abbrev pub is_plain : List ℕ → Bool
is_plain name = list_all is_plain_byte name

-- so are the full names of cells
abbrev pub are_plain_cells : List Variable → Bool
are_plain_cells cells = list_all (λ cell. is_plain cell.name) cells

-- and the names of objects and methods
abbrev pub are_plain_names : List Object → List Method → Bool
are_plain_names objects methods =
    list_all (λ object. is_plain object.name) objects && list_all (λ method. is_plain method.name) methods

abbrev pub are_short_names : List Object → List Method → List EnumItem → Bool
are_short_names objects methods items =
    list_all (λ object. is_short object.name) objects && (list_all (λ method. is_short method.name) methods
    && list_all (λ item. is_short item.name) items)

-- no two of a list are alike by the test
abbrev pub are_apart : {X : Type 0} → (X → X → Bool) → List X → Bool
are_apart alike [] = true
are_apart alike (x ∷ xs) = list_all (λ y. not (alike x y)) xs && are_apart alike xs

-- two cells of one full name
abbrev pub of_one_name : Variable → Variable → Bool
of_one_name a b = bytes_eq a.name b.name

-- two jobs of one object, with one number in their constructor
abbrev pub of_one_number : Job → Job → Bool
of_one_number a b = (a.object == b.object) && (a.number == b.number)

abbrev pub object_name : Option Object → List ℕ
object_name None = []
object_name (Some object) = object.name

abbrev pub method_name : Option Method → List ℕ
method_name None = []
method_name (Some method) = method.name

-- the byte of a dot
abbrev pub dot : ℕ
dot = 46

-- the name of a job: its object's, a dot, and its method's
abbrev pub job_name : List Object → List Method → Job → List ℕ
job_name objects methods job =
    object_name (slice_get objects job.object) ++ dot ∷ method_name (slice_get methods job.method)

-- two jobs of one name and instance
abbrev pub of_one_instance : List Object → List Method → Job → Job → Bool
of_one_instance objects methods a b =
    bytes_eq (job_name objects methods a) (job_name objects methods b) && (a.instance == b.instance)
