-- The table of forms, and how a line is read by it.
use Rattle.std.specs.Borrow.{Bor}
use Rattle.std.specs.Prelude.{◌≡◌, ℕ, Bool, true, false, ◌&&◌, ◌||◌, not, nat_lt, List, [], ◌∷◌, ◌++◌, length, Option, Some, None, is_some, Result, Ok, Err, if◌then◌else◌}
use Rattle.trick_input.specs.Classes.{is, is_name}
use Rattle.trick_input.specs.declared.class.Class.{Class}
use Rattle.trick_input.specs.declared.class.Class.TheVariants as the
use Rattle.trick_input.specs.declared.form.Sort.{Sort}
use Rattle.trick_input.specs.declared.form.Sort.TheVariants.{Is, Head, Variable, Name, Number, Time, Literal, Quoted, Process, Recording}
use Rattle.trick_input.specs.declared.form.Piece.{Piece}
use Rattle.trick_input.specs.declared.form.Piece.TheVariants.{One, Path}
use Rattle.trick_input.specs.declared.form.Row.{Row}
use Rattle.trick_input.specs.declared.line.Place.{Place}
use Rattle.trick_input.specs.declared.line.Inside.{Inside}
use Rattle.trick_input.specs.declared.line.Inside.TheVariants as inside
use Rattle.trick_input.specs.declared.form.Row.TheVariants as row

-- whether a token of the class is one of the sort
abbrev pub fits : Sort → Class → Bool
fits (Is v) w = is w v
fits Head w = is_name w && (not (is w the.Trick) && not (is w the.LeftOut))
fits Variable w = is_name w && not (is w the.LeftOut)
fits Name w = is_name w
fits Number w = is w the.Zero || is w the.Whole
fits Time w = is w the.Zero || (is w the.Whole || is w the.Decimal)
fits Literal w = is w the.Zero || (is w the.Whole || (is w the.True || is w the.False))
fits Quoted w = is w the.NameText || is w the.Text
fits Process w = is w the.ScheduledType || (is w the.AsyncType || is w the.AmfType)
fits Recording w = is w the.Always || is w the.Changes

-- ---- the table

-- a token of this class
abbrev pub word : Class → Piece
word w = One (Is w)

-- `-` and a whole number
abbrev pub negative : List Piece
negative = word the.Minus ∷ One Number ∷ []

-- `trick.` and a word
abbrev pub of_trick : Class → List Piece → List Piece
of_trick name others = word the.Trick ∷ word the.Dot ∷ word name ∷ others

-- the call of a word of `trick`
abbrev pub call : Class → List Piece → List Piece
call name arguments = of_trick name (word the.Open ∷ (arguments ++ word the.Close ∷ []))

-- a variable, a point and a word
abbrev pub of_variable : Class → List Piece → List Piece
of_variable name others = One Head ∷ word the.Dot ∷ word name ∷ others

-- the call of a word of a variable
abbrev pub method : Class → List Piece → List Piece
method name arguments = of_variable name (word the.Open ∷ (arguments ++ word the.Close ∷ []))

abbrev pub pieces : Row → List Piece
-- `v.thisown = LIT`
pieces row.ThisOwn = of_variable the.ThisOwn (word the.Assign ∷ One Literal ∷ [])
pieces row.ThisOwnMinus = of_variable the.ThisOwn (word the.Assign ∷ negative)
-- `PATH = LIT`
pieces row.Assign = One Head ∷ Path ∷ One Literal ∷ []
pieces row.AssignMinus = One Head ∷ Path ∷ negative
-- the same of `trick` and of its cells
pieces row.TrickAssign = word the.Trick ∷ word the.Assign ∷ One Literal ∷ []
pieces row.TrickAssignMinus = word the.Trick ∷ word the.Assign ∷ negative
pieces row.TrickIndexed =
    word the.Trick ∷ word the.OpenBracket ∷ One Number ∷ word the.CloseBracket ∷ Path ∷ One Literal ∷ []
pieces row.TrickIndexedMinus =
    word the.Trick ∷ word the.OpenBracket ∷ One Number ∷ word the.CloseBracket ∷ Path ∷ negative
-- `trick.exec_set_software_frame(TIME)`
pieces row.SoftwareFrame = call the.SoftwareFrame (One Time ∷ [])
-- `trick.stop(TIME)`
pieces row.Stop = call the.Stop (One Time ∷ [])
-- `trick.exec_set_terminate_time(TIME)`
pieces row.TerminateTime = call the.TerminateTime (One Time ∷ [])
-- `trick.freeze()`
pieces row.Freeze = call the.Freeze []
-- `trick.exec_set_thread_process_type(N, trick.PROCESS_TYPE_..)`
pieces row.ProcessType =
    call the.ProcessType (One Number ∷ word the.Comma ∷ word the.Trick ∷ word the.Dot ∷ One Process ∷ [])
-- `trick.exec_set_thread_amf_cycle_time(N, TIME)`
pieces row.AmfCycle = call the.AmfCycle (One Number ∷ word the.Comma ∷ One Time ∷ [])
-- `trick.exec_add_depends_on_job("target", I, "depended", J)`
pieces row.DependsOn =
    call the.DependsOn
    (One Quoted ∷ word the.Comma ∷ One Number ∷ word the.Comma ∷ One Quoted ∷ word the.Comma ∷ One Number ∷ [])
-- `trick.exec_set_job_onoff("job", I, LIT)`
pieces row.SetJob =
    call the.SetJob (One Quoted ∷ word the.Comma ∷ One Number ∷ word the.Comma ∷ One Literal ∷ [])
pieces row.SetJobMinus =
    call the.SetJob (One Quoted ∷ word the.Comma ∷ One Number ∷ word the.Comma ∷ negative)
-- `trick.TMM_declare_var_s("type name[n][m]")`
pieces row.Declare = call the.Declare (One Quoted ∷ [])
-- `trick.add_read(TIME, "actions")`
pieces row.AddRead = call the.AddRead (One Time ∷ word the.Comma ∷ One Quoted ∷ [])
-- `v = trick.DRAscii("name")`
pieces row.NewGroup = One Variable ∷ word the.Assign ∷ call the.NewGroup (word the.NameText ∷ [])
-- `v = trick.new_event("name")`
pieces row.NewEvent = One Variable ∷ word the.Assign ∷ call the.NewEvent (word the.NameText ∷ [])
-- `v.set_cycle(TIME)`
pieces row.SetCycle = method the.SetCycle (One Time ∷ [])
-- `v.add_variable("PATH")`
pieces row.AddVariable = method the.AddVariable (One Quoted ∷ [])
-- `v.enable()`
pieces row.Enable = method the.Enable []
-- `v.disable()`
pieces row.Disable = method the.Disable []
-- `v.freq = trick.DR_..`
pieces row.SetChanges =
    of_variable the.Frequency (word the.Assign ∷ word the.Trick ∷ word the.Dot ∷ One Recording ∷ [])
-- `trick.add_data_record_group(v)`
pieces row.AddGroup = call the.AddGroup (One Name ∷ [])
-- the same with a word on the buffer
pieces row.AddGroupBuffer =
    call the.AddGroup (One Name ∷ word the.Comma ∷ word the.Trick ∷ word the.Dot ∷ word the.Buffer ∷ [])
-- `v.condition(0, "expr")`
pieces row.SetCondition = method the.Condition (word the.Zero ∷ word the.Comma ∷ One Quoted ∷ [])
-- `v.action(K, "actions")`
pieces row.SetAction = method the.Action (One Number ∷ word the.Comma ∷ One Quoted ∷ [])
-- `v.activate()`
pieces row.Activate = method the.Activate []
-- `trick.add_event(v)`
pieces row.AddEvent = call the.AddEvent (One Name ∷ [])

-- its rows; where two have the form of a line, the first counts
abbrev pub rows : List Row
rows =
    row.ThisOwn ∷ row.ThisOwnMinus ∷ row.Assign ∷ row.AssignMinus ∷ row.TrickAssign ∷ row.TrickAssignMinus
    ∷ row.TrickIndexed ∷ row.TrickIndexedMinus ∷ row.SoftwareFrame ∷ row.Stop ∷ row.TerminateTime ∷ row.Freeze
    ∷ row.ProcessType ∷ row.AmfCycle ∷ row.DependsOn ∷ row.SetJob ∷ row.SetJobMinus ∷ row.Declare ∷ row.AddRead
    ∷ row.NewGroup ∷ row.NewEvent ∷ row.SetCycle ∷ row.AddVariable ∷ row.Enable ∷ row.Disable ∷ row.SetChanges
    ∷ row.AddGroup ∷ row.AddGroupBuffer ∷ row.SetCondition ∷ row.SetAction ∷ row.Activate ∷ row.AddEvent ∷ []

-- the rest of a path, and `=`: { "." NAME | "[" WHOLE "]" } "="
pub data PathTo (rest : List Class) : List Class → Type 0 where
  assigned : {w : Class} → is w the.Assign ≡ true → PathTo rest (w ∷ rest)
  member : {d n : Class} {ws : List Class} → is d the.Dot ≡ true → fits Name n ≡ true → PathTo rest ws
      → PathTo rest (d ∷ n ∷ ws)
  index : {b n e : Class} {ws : List Class} → is b the.OpenBracket ≡ true → fits Number n ≡ true
      → is e the.CloseBracket ≡ true → PathTo rest ws → PathTo rest (b ∷ n ∷ e ∷ ws)

-- the line has the form
abbrev pub HasForm : List Piece → List Class → Type 0
HasForm [] ws = ws ≡ []
HasForm (One s ∷ f) ws = (w : Class) × (rest : List Class) × (ws ≡ w ∷ rest) × (fits s w ≡ true) × HasForm f rest
HasForm (Path ∷ f) ws = (rest : List Class) × PathTo rest ws × HasForm f rest

-- ---- reading

-- what of a form is due after a token, if the token is right
abbrev pub after : List Piece → Class → Option (List Piece)
after [] w = None
after (One s ∷ f) w = if fits s w then Some f else None
after (Path ∷ f) w =
    if is w the.Dot then Some (One Name ∷ Path ∷ f)
    else if is w the.OpenBracket then Some (One Number ∷ One (Is the.CloseBracket) ∷ Path ∷ f)
    else if is w the.Assign then Some f
    else None

-- whether a literal is due
abbrev pub is_due : List Piece → Bool
is_due f = is_some (after f the.Zero)

-- how far a form goes on with a line: to its end, or so many tokens are left, and whether a literal is due there
pub data Walk : Type 0 where
  arrived : Walk
  stands : ℕ → Bool → Walk

abbrev pub onward : {A B : Type 0} → Option A → B → (A → B) → B
onward None b f = b
onward (Some a) b f = f a

abbrev pub at_end : List Piece → Walk
at_end [] = arrived
at_end (p ∷ f) = stands 0 (is_due (p ∷ f))

abbrev pub walk : List Piece → List Class → Walk
walk f [] = at_end f
walk f (w ∷ ws) = onward (after f w) (stands (length (w ∷ ws)) (is_due f)) (λ g. walk g ws)

-- of two places that of fewer tokens left
abbrev pub further : Place → ℕ → Bool → Place
further p left due =
    if nat_lt left p.left then record { left = left; due = due }
    else if nat_lt p.left left then p
    else record { left = p.left; due = p.due || due }

abbrev pub decided : {A : Type 0} → Walk → A → Place → (Place → Result A Place) → Result A Place
decided arrived r p go = Ok r
decided (stands left due) r p go = go (further p left due)

-- the first row that the line has the form of, or the furthest place at which a row stands
abbrev pub outcome : List Row → List Class → Place → Result Row Place
outcome [] ws p = Err p
outcome (r ∷ rs) ws p = decided (walk (pieces r) ws) r p (λ q. outcome rs ws q)

abbrev pub outcome_of : List Class → Result Row Place
outcome_of ws = outcome rows ws (record { left = length ws; due = false })

-- what is due inside a path, where a form stands in code
abbrev pub form_of : Inside → List Piece → List Piece
form_of inside.Nowhere f = f
form_of inside.Member f = One Name ∷ f
form_of inside.Index f = One Number ∷ One (Is the.CloseBracket) ∷ f
form_of inside.EndIndex f = One (Is the.CloseBracket) ∷ f

abbrev pub next_of : Option (Inside × Bor (List Piece)) → Option (List Piece)
next_of None = None
next_of (Some p) = Some (form_of p.0 p.1.now)

abbrev pub walk_of : Option Place → Walk
walk_of None = arrived
walk_of (Some p) = stands p.left p.due
