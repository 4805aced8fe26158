-- The bodies of a file without mistakes have none by all names of the file, and what they call is known.
use Rattle.std.proofs.Common.{◌≡◌, ℕ, Bool, true, false, ◌&&◌, is_some, nat_le, List, [], ◌++◌, Option, Some, None, refl, ap, sym, ◌∙◌}
use Rattle.std.proofs.lemmas.Bool.{and_parts}
use Rattle.trick_check_blocks.specs.declared.scope.ClassScope as blocks
use Rattle.trick_lang.specs.Locals.{bound_number}
use Rattle.trick_lang.specs.SyntaxTree.{Name, Expression, Whole, Truth, Named, Prefixed, Chain, Choose, Links, NoLink, Link, Choices, Last, Choice, Path, path, Parts, NoPart, Member, Index, TypeName, Basic, Custom, Change, Set, Update, Increase, Decrease, Statement, Empty, Block, Declare, Assign, If, For, Call, Branches, NoElse, Else, Test, Statements, NoStatement, Then}
use Rattle.trick_check_meaning_kept.proofs.Values.{none_left, none_right}
use Rattle.trick_check_meaning_kept.specs.Alike.{CanBranch, CanRun, CanRunAll}
use Rattle.trick_check_meaning_of_jobs.proofs.Known.{Grow}
use Rattle.trick_check_meaning_of_jobs.proofs.Lists.{all_in_two, none_both, two}
use Rattle.trick_lang.specs.Loops.{branches_have_short_loops, has_short_loops, are_short_loops}
use Rattle.trick_check_names.specs.BodyMistakes.{after, all_mistakes, astray, branch_mistakes, call_mistakes, change_mistakes, choice_mistakes, declared, ends, expression_mistakes, first_value_mistakes, line_of, link_mistakes, local_type_mistakes, loop_in, part_mistakes, path_mistakes, statement_mistakes, strays, type_mistakes, unless_fixed}
use Rattle.trick_check_names.specs.Calls.{all_calls, branch_calls, method_of, statement_calls}
use Rattle.trick_check_names.specs.Mistakes.{twice}
use Rattle.trick_check_names.specs.Names.{Names, meaning_of}
use Rattle.trick_check_names.specs.Places.{followed, is_fixed, literal_of, member_in, members_at, named, to_element, to_member}
use Rattle.trick_check_names.specs.declared.follow.State.{State}
use Rattle.trick_check_names.specs.declared.follow.State.TheVariants.{Stands, Astray, Misfit}
use Rattle.trick_check_names.specs.declared.tables.Base.{Base}
use Rattle.trick_check_names.specs.declared.tables.Base.TheVariants.{Single, Group}
use Rattle.trick_check_names.specs.declared.tables.Global.{Global}
use Rattle.trick_check_names.specs.declared.tables.Global.TheVariants as the
use Rattle.trick_check_names.specs.declared.tables.Lengths.{Lengths}
use Rattle.trick_check_names.specs.declared.tables.Lengths.TheVariants.{Plain, One, Two}
use Rattle.trick_check_names.specs.declared.tables.Local.{Local}
use Rattle.trick_check_names.specs.declared.tables.Member.{Member as InGroup}
use Rattle.trick_check_names.specs.declared.tables.Member.TheVariants.{Variable, Method}
use Rattle.trick_check_names.specs.declared.scope.FileScope.{FileScope}
use Rattle.trick_check_order.specs.Calls.{all_in, has}

-- ---- more names of types

-- what a body says of places is the same wherever in the file it stands
module _ (w : FileScope) (names : Names Global) where
  -- what it sees where these names are known
  abbrev pub whole : FileScope
  whole = record w { names = names }

  member_in_same : (ls : Lengths) (base : Base) (name : Name) → member_in ls base name w ≡ member_in ls base name whole
  member_in_same Plain (Group k) name = refl
  member_in_same Plain (Single scalar) name = refl
  member_in_same (One n) base name = refl
  member_in_same (Two m n) base name = refl

  member_same : (name : Name) (s : State) → to_member name w s ≡ to_member name whole s
  member_same name (Stands shape) = member_in_same shape.lengths shape.base name
  member_same name Astray = refl
  member_same name Misfit = refl

  followed_same : (parts : Parts) (s : State) → followed parts w s ≡ followed parts whole s
  followed_same NoPart s = refl
  followed_same (Member line name rest) s =
      followed_same rest (to_member name w s) ∙ ap (followed rest whole) (member_same name s)
  followed_same (Index e rest) s = followed_same rest (to_element (literal_of e) s)

  mutual
    expression_same : (e : Expression) (locals : Names Local)
        → expression_mistakes e w locals ≡ expression_mistakes e whole locals
    expression_same (Whole line n) locals = refl
    expression_same (Truth line value) locals = refl
    expression_same (Named p) locals = path_same p false locals
    expression_same (Prefixed o e) locals = expression_same e locals
    expression_same (Chain e links) locals = two (expression_same e locals) (links_same links locals)
    expression_same (Choose choices) locals = choices_same choices locals

    links_same : (links : Links) (locals : Names Local)
        → link_mistakes links w locals ≡ link_mistakes links whole locals
    links_same NoLink locals = refl
    links_same (Link o e rest) locals = two (expression_same e locals) (links_same rest locals)

    choices_same : (choices : Choices) (locals : Names Local)
        → choice_mistakes choices w locals ≡ choice_mistakes choices whole locals
    choices_same (Last e) locals = expression_same e locals
    choices_same (Choice test e rest) locals =
        two (expression_same test locals) (two (expression_same e locals) (choices_same rest locals))

    path_same : (p : Path) (assigned : Bool) (locals : Names Local)
        → path_mistakes p assigned w locals ≡ path_mistakes p assigned whole locals
    path_same (path line name parts) assigned locals =
        two (ap (λ s. ends line (unless_fixed (assigned && is_fixed name w locals) s))
        (followed_same parts (named name w locals)))
        (ap (λ q. astray line (named name w locals) ++ q) (parts_same parts locals (named name w locals)))

    parts_same : (parts : Parts) (locals : Names Local) (s : State)
        → part_mistakes parts w locals s ≡ part_mistakes parts whole locals s
    parts_same NoPart locals s = refl
    parts_same (Member line name rest) locals s =
        two (ap (strays line s) (member_same name s))
        (parts_same rest locals (to_member name w s) ∙ ap (part_mistakes rest whole locals) (member_same name s))
    parts_same (Index e rest) locals s =
        two (expression_same e locals) (ap (λ q. strays (line_of e) s (to_element (literal_of e) s) ++ q)
        (parts_same rest locals (to_element (literal_of e) s)))

  change_same : (change : Change) (locals : Names Local)
      → change_mistakes change w locals ≡ change_mistakes change whole locals
  change_same (Set e) locals = expression_same e locals
  change_same (Update o e) locals = expression_same e locals
  change_same Increase locals = refl
  change_same Decrease locals = refl

  first_same : (value : Option Expression) (locals : Names Local)
      → first_value_mistakes value w locals ≡ first_value_mistakes value whole locals
  first_same None locals = refl
  first_same (Some e) locals = expression_same e locals

  -- more names are known in the whole file
  module _ (grow : Grow w.names names) where
    local_type : (line : ℕ) (name : Name) (o : Option Global) → meaning_of name w.names ≡ o
        → local_type_mistakes line o ≡ [] → local_type_mistakes line (meaning_of name names) ≡ []
    local_type line name (Some the.Enum) is none = ap (local_type_mistakes line) (grow name the.Enum is)
    local_type line name o is none = absurd (cc none)

    type_none : (written : TypeName) → type_mistakes written w ≡ [] → type_mistakes written whole ≡ []
    type_none (Basic scalar) none = refl
    type_none (Custom line name) none = local_type line name (meaning_of name w.names) refl none

    mutual
      statement_none : (s : Statement) (locals : Names Local) → statement_mistakes s w locals ≡ []
          → statement_mistakes s whole locals ≡ []
      statement_none Empty locals none = refl
      statement_none (Block all) locals none = all_none all locals none
      statement_none (Declare line written name value) locals none =
          let rest = none_right (type_mistakes written w) _ none in
          none_both (type_mistakes written whole) _ (type_none written (none_left (type_mistakes written w) _ none))
          (none_both (twice name locals) _ (none_left (twice name locals) _ rest)
          (sym (first_same value (declared written name locals)) ∙ none_right (twice name locals) _ rest))
      statement_none (Assign line p change) locals none =
          none_both (path_mistakes p true whole locals) _
          (sym (path_same p true locals) ∙ none_left (path_mistakes p true w locals) _ none)
          (sym (change_same change locals) ∙ none_right (path_mistakes p true w locals) _ none)
      statement_none (If branches) locals none = branches_none branches locals none
      statement_none (For name from bound body) locals none =
          none_both (twice name locals) _ (none_left (twice name locals) _ none)
          (statement_none body (loop_in name locals) (none_right (twice name locals) _ none))
      statement_none (Call line name) locals none = none

      branches_none : (branches : Branches) (locals : Names Local) → branch_mistakes branches w locals ≡ []
          → branch_mistakes branches whole locals ≡ []
      branches_none NoElse locals none = refl
      branches_none (Else body) locals none = statement_none body locals none
      branches_none (Test line test body rest) locals none =
          let more = none_right (expression_mistakes test w locals) _ none in
          none_both (expression_mistakes test whole locals) _
          (sym (expression_same test locals) ∙ none_left (expression_mistakes test w locals) _ none)
          (none_both (statement_mistakes body whole locals) _
          (statement_none body locals (none_left (statement_mistakes body w locals) _ more))
          (branches_none rest locals (none_right (statement_mistakes body w locals) _ more)))

      pub all_none : (all : Statements) (locals : Names Local) → all_mistakes all w locals ≡ []
          → all_mistakes all whole locals ≡ []
      all_none NoStatement locals none = refl
      all_none (Then s rest) locals none =
          none_both (statement_mistakes s whole locals) _
          (statement_none s locals (none_left (statement_mistakes s w locals) _ none))
          (all_none rest (after s locals) (none_right (statement_mistakes s w locals) _ none))

-- ---- what a body calls

-- where each method of these numbers has a block
module _ (y : FileScope) (w : blocks.ClassScope) (seen : List ℕ)
    (made : (name : Name) (k : ℕ) → meaning_of name (members_at y.tables.groups y.own) ≡ Some (Method k)
    → has seen k ≡ true → is_some (meaning_of name w.methods) ≡ true) where
  abbrev own : Names InGroup
  own = members_at y.tables.groups y.own

  call_runs : (line : ℕ) (name : Name) (o : Option InGroup) → meaning_of name own ≡ o → call_mistakes line o ≡ []
      → all_in (method_of o) seen ≡ true → is_some (meaning_of name w.methods) ≡ true
  call_runs line name None is none calls = absurd (cc none)
  call_runs line name (Some (Variable shape)) is none calls = absurd (cc none)
  call_runs line name (Some (Method k)) is none calls = made name k is (and_parts (has seen k) true calls).0

  mutual
    statement_runs : (s : Statement) (locals : Names Local) → statement_mistakes s y locals ≡ []
        → all_in (statement_calls s own) seen ≡ true → has_short_loops s ≡ true → CanRun w s
    statement_runs Empty locals none calls short = tt
    statement_runs (Block all) locals none calls short = all_run all locals none calls short
    statement_runs (Declare line written name value) locals none calls short = tt
    statement_runs (Assign line p change) locals none calls short = tt
    statement_runs (If branches) locals none calls short = branches_run branches locals none calls short
    statement_runs (For name from bound body) locals none calls short =
        let shorts = and_parts (nat_le (bound_number bound) 1000000) (has_short_loops body) short in
        (shorts.0, statement_runs body (loop_in name locals) (none_right (twice name locals) _ none) calls shorts.1)
    statement_runs (Call line name) locals none calls short = call_runs line name (meaning_of name own) refl none calls

    branches_run : (branches : Branches) (locals : Names Local) → branch_mistakes branches y locals ≡ []
        → all_in (branch_calls branches own) seen ≡ true → branches_have_short_loops branches ≡ true
        → CanBranch w branches
    branches_run NoElse locals none calls short = tt
    branches_run (Else body) locals none calls short = statement_runs body locals none calls short
    branches_run (Test line test body rest) locals none calls short =
        let more = none_right (expression_mistakes test y locals) _ none in
        let shorts = and_parts (has_short_loops body) (branches_have_short_loops rest) short in
        let called = all_in_two (statement_calls body own) (branch_calls rest own) seen calls in (
          statement_runs body locals (none_left
              (statement_mistakes body y locals) _ more) called.0 shorts.0,
          branches_run rest locals
              (none_right (statement_mistakes body y locals) _ more) called.1 shorts.1,
        )

    pub all_run : (all : Statements) (locals : Names Local) → all_mistakes all y locals ≡ []
        → all_in (all_calls all own) seen ≡ true → are_short_loops all ≡ true → CanRunAll w all
    all_run NoStatement locals none calls short = tt
    all_run (Then s rest) locals none calls short =
        let shorts = and_parts (has_short_loops s) (are_short_loops rest) short in
        let called = all_in_two (statement_calls s own) (all_calls rest own) seen calls in (
          statement_runs s locals (none_left (statement_mistakes s y locals) _ none) called.0 shorts.0,
          all_run rest
              (after s locals) (none_right (statement_mistakes s y locals) _ none) called.1 shorts.1,
        )
