-- What statements become does what they mean.
use Rattle.std.proofs.Common.{rules, ◌≡◌, ◌≢◌, ℕ, zero, suc, ◌+◌, ◌<◌, ◌≤◌, ℤ, pos, Bool, true, false, if◌then◌else◌, nat_lt, is_some, List, [], ◌∷◌, ◌++◌, length, take, slice_set, Option, Some, None, unwrap_or, Result, Ok, Err, refl, ap, sym, ◌∙◌, subst, arith, get_or-set_other, get_or-set_same}
use Rattle.std.proofs.Math.Seq.{take-append_seam}
use Rattle.std.proofs.lemmas.Bool.{ltb-true}
use Rattle.std.proofs.lemmas.List.{append-nil, append_assoc, length-append, length-set, length_push}
use Rattle.std.proofs.lemmas.Slice.Eq.{bytes_eq-Decides}
use Rattle.std.specs.List.{slice_index_or}
use Rattle.std.specs.Str.{bytes_eq}
use Rattle.trick_check_blocks.specs.Codes as codes
use Rattle.trick_check_blocks.specs.Codes.{after, after_all, all_codes, all_count, all_inner, branch_codes, branch_count, branch_inner, call_code, change_term, code, count, declared_code, free_slot, goal_code, inner, loop_code, loop_in, new_slot, slot_behind, value_term}
use Rattle.trick_check_blocks.specs.Places as by_cell
use Rattle.trick_check_blocks.specs.Terms.{OfLocal as InLocal, goal_of, path_goal, steps, term}
use Rattle.trick_check_blocks.specs.declared.start.Local.{Local as InSlot}
use Rattle.trick_check_blocks.specs.declared.scope.ClassScope.{ClassScope}
use Rattle.trick_lang.specs.Blocks.{block_at}
use Rattle.trick_lang.specs.Laws.{WrapsRight}
use Rattle.trick_lang.specs.Numbers.{and_then, applied, is_true}
use Rattle.trick_lang.specs.Run as resolved
use Rattle.trick_lang.specs.Run.{Setting as InCells, State as Resolved, at_line, local_of, sight, turn_count}
use Rattle.trick_lang.specs.SyntaxTree.{Name, Expression, Path, path, Parts, TypeName, Basic, Custom, Change, Set, Update, Increase, Decrease, Statement, Empty, Block, Declare, Assign, If, For, Call, Branches, NoElse, Else, Test, Statements, NoStatement, Then}
use Rattle.trick_lang.specs.Tree as Tree
use Rattle.trick_lang.specs.Tree.{Code, Steps, Term}
use Rattle.trick_lang.specs.Value as values
use Rattle.trick_lang.specs.Wrap.{wrap, scalar_at}
use Rattle.trick_lang.specs.declared.bound.Bound.{Bound}
use Rattle.trick_lang.specs.declared.fault.FaultKind.{FaultKind}
use Rattle.trick_lang.specs.declared.fault.StatementFault.{StatementFault}
use Rattle.trick_lang.specs.declared.scalar.Scalar.{Scalar}
use Rattle.trick_lang.specs.declared.scalar.Scalar.TheVariants.{Int, Long}
use Rattle.trick_lang.specs.declared.variable.Variable.{Variable}
use Rattle.trick_check_names.specs.Laid.{fields_at}
use Rattle.trick_check_meaning.specs.Meaning as meaning
use Rattle.trick_check_meaning.specs.Meaning.{Local as ByName, OfLocal, OfPlace as OfVariable, Place, Setting, State, Stored, called, changed, declare, ended, first_value, led, local_meant, meant, number_at, path_assign, run, run_all, run_branch, turns, value, with_local, with_new, with_stored, within}
use Rattle.trick_check_meaning_kept.proofs.Cells.{IsAt, Stand, at_below, is_at, one_cell, one_entry, one_name, type_is}
use Rattle.trick_check_meaning_kept.proofs.Rows.{added_means, name_added, rows_declared, rows_front, rows_kept, rows_named, rows_new, rows_same, rows_set, slot_of, slot_other, slot_set}
use Rattle.trick_check_meaning_kept.proofs.Values.{IsLed, PlaceView, assigned_path, none_left, none_right, parts_lead, path_view, value_kept}
use Rattle.trick_check_meaning_kept.specs.Alike.{AreAlike, AreBelow, AreInOnePlace, AreRows, BlocksAreBelow, CallAlike, CanBranch, CanRun, CanRunAll, EndAlike, HasBlocks, IsSameLocal, KeepsFrom, RunBlocks, SeeTheSame, is_code_below}
use Rattle.trick_check_names.specs.BodyMistakes as names
use Rattle.trick_check_names.specs.BodyMistakes.{all_mistakes, branch_mistakes, change_mistakes, expression_mistakes, first_value_mistakes, path_mistakes, statement_mistakes, type_mistakes}
use Rattle.trick_check_names.specs.Mistakes.{twice}
use Rattle.trick_check_names.specs.Names.{Names, meaning_of, with_name}
use Rattle.trick_check_names.specs.Places as by_name
use Rattle.trick_check_names.specs.Places.{own_member, single}
use Rattle.trick_check_names.specs.declared.follow.State.TheVariants.{Stands}
use Rattle.trick_check_names.specs.declared.tables.Local.{Local as Declared}
use Rattle.trick_check_bodies.specs.Named.{IsNamed, LeadToTheirNames, ObjectsHoldNames, led_by, path_text}

-- ---- names that are known and new ones

-- what is known after a statement stands behind what was known
abbrev More : {T : Type 0} → Names T → Names T → Type 0
More {T} known all = (more : Names T) × (all ≡ known ++ more)

none_more : {T : Type 0} (known : Names T) → More known known
none_more known = ([], sym (append-nil known))

one_more : {T : Type 0} (name : Name) (l : T) (known : Names T) → More known (with_name name l known)
one_more {T} name l known = by (is_some (meaning_of name known)) where
  by : (b : Bool) → More known (if b then known else known ++ (name, l) ∷ [])
  by true = none_more known
  by false = ((name, l) ∷ [], refl)

more_again : {T : Type 0} (known all whole : Names T) → More known all → More all whole → More known whole
more_again known all whole a b = (a.0 ++ b.0, b.1 ∙ (ap (λ q. q ++ b.0) a.1 ∙ append_assoc known a.0 b.0))

front_is : {T : Type 0} (known all : Names T) → More known all → take (length known) all ≡ known
front_is known all h = ap (take (length known)) h.1 ∙ take-append_seam known h.0

after_more : (b : Statement) (w : ClassScope) (slots : Names InSlot) → More slots (after b w slots)
after_more Empty w slots = none_more slots
after_more (Block all) w slots = none_more slots
after_more (Declare line written name e) w slots = one_more name _ slots
after_more (Assign line p change) w slots = none_more slots
after_more (If branches) w slots = none_more slots
after_more (For name from bound body) w slots = none_more slots
after_more (Call line name) w slots = none_more slots

after_all_more : (all : Statements) (w : ClassScope) (slots : Names InSlot) → More slots (after_all all w slots)
after_all_more NoStatement w slots = none_more slots
after_all_more (Then b rest) w slots = more_again slots (after b w slots) (after_all rest w (after b w slots)) (after_more b w slots) (after_all_more rest w (after b w slots))

declared_more : (b : Statement) (declared : Names Declared) → More declared (names.after b declared)
declared_more Empty declared = none_more declared
declared_more (Block all) declared = none_more declared
declared_more (Declare line written name e) declared = one_more name _ declared
declared_more (Assign line p change) declared = none_more declared
declared_more (If branches) declared = none_more declared
declared_more (For name from bound body) declared = none_more declared
declared_more (Call line name) declared = none_more declared

declared_all_more : (all : Statements) (declared : Names Declared) → More declared (names.after_all all declared)
declared_all_more NoStatement declared = none_more declared
declared_all_more (Then b rest) declared = more_again declared (names.after b declared) (names.after_all rest (names.after b declared)) (declared_more b declared) (declared_all_more rest (names.after b declared))

-- a name that is not given twice was not known
pub not_known : {T : Type 0} (name : Name) (known : Names T) → twice name known ≡ [] → meaning_of name known ≡ None
not_known {T} name known none = by (meaning_of name known) none where
  by : (o : Option T) → (if is_some o then Rattle.trick_check_names.specs.Mistakes.Twice name ∷ [] else []) ≡ [] → o ≡ None
  by None h = refl
  by (Some l) h = absurd (cc h)

no_slot : (number : ℕ → ℤ) (a : Option InSlot) (b : Option Declared) (c : Option ByName) → IsSameLocal number a b c → b ≡ None → a ≡ None
no_slot number None b c same none = refl
no_slot number (Some a) (Some b) c same none = absurd (cc none)
no_slot number (Some a) None c same none = absurd same

-- ---- counting blocks

mutual
  inner_count : (b : Statement) (w : ClassScope) (slots : Names InSlot) (n : ℕ) → length (inner b w slots n) ≡ count b
  inner_count Empty w slots n = refl
  inner_count (Block all) w slots n = length_push (all_inner all w slots n) (all_codes all w slots n) ∙ ap (λ k. k + 1) (all_inner_count all w slots n)
  inner_count (Declare line written name e) w slots n = refl
  inner_count (Assign line p change) w slots n = refl
  inner_count (If branches) w slots n = branch_inner_count branches w slots n
  inner_count (For name from bound body) w slots n = length_push (inner body w (loop_in name w slots) n) (code body w (loop_in name w slots) n ∷ []) ∙ ap (λ k. k + 1) (inner_count body w (loop_in name w slots) n)
  inner_count (Call line name) w slots n = refl

  branch_inner_count : (b : Branches) (w : ClassScope) (slots : Names InSlot) (n : ℕ) → length (branch_inner b w slots n) ≡ branch_count b
  branch_inner_count NoElse w slots n = refl
  branch_inner_count (Else body) w slots n = length_push (inner body w slots n) (code body w slots n ∷ []) ∙ ap (λ k. k + 1) (inner_count body w slots n)
  branch_inner_count (Test line test body rest) w slots n =
      let first : List (List Code) = inner body w slots n ++ (code body w slots n ∷ []) ∷ [] in
      let here : length first ≡ count body + 1 = length_push (inner body w slots n) (code body w slots n ∷ []) ∙ ap (λ k. k + 1) (inner_count body w slots n) in
      let behind = branch_inner_count rest w slots (n + (count body + 1)) in
      let total = length-append first (branch_inner rest w slots (n + (count body + 1))) in
      omega (arith, here, behind, total)

  pub all_inner_count : (all : Statements) (w : ClassScope) (slots : Names InSlot) (n : ℕ) → length (all_inner all w slots n) ≡ all_count all
  all_inner_count NoStatement w slots n = refl
  all_inner_count (Then b rest) w slots n =
      let here = inner_count b w slots n in
      let behind = all_inner_count rest w (after b w slots) (n + count b) in
      let total = length-append (inner b w slots n) (all_inner rest w (after b w slots) (n + count b)) in
      omega (arith, here, behind, total)

module _ (all : List (List Code)) where
  pub has_front : (xs ys : List (List Code)) (n : ℕ) → HasBlocks all n (xs ++ ys) → HasBlocks all n xs
  has_front [] ys n h = tt
  has_front (z ∷ xs) ys n h = (h.0, has_front xs ys (suc n) h.1)

  pub has_behind : (xs ys : List (List Code)) (n : ℕ) → HasBlocks all n (xs ++ ys) → HasBlocks all (n + length xs) ys
  has_behind [] ys n h = let same : n ≡ n + 0 = omega arith in subst (λ k. HasBlocks all k ys) same h
  has_behind (z ∷ xs) ys n h =
      let same : suc n + length xs ≡ n + suc (length xs) = omega arith in
      subst (λ k. HasBlocks all k ys) same (has_behind xs ys (suc n) h.1)

pub below_front : (top : ℕ) (xs ys : List (List Code)) → BlocksAreBelow top (xs ++ ys) → BlocksAreBelow top xs
below_front top [] ys h = tt
below_front top (z ∷ xs) ys h = (h.0, below_front top xs ys h.1)

pub below_behind : (top : ℕ) (xs ys : List (List Code)) → BlocksAreBelow top (xs ++ ys) → BlocksAreBelow top ys
below_behind top [] ys h = h
below_behind top (z ∷ xs) ys h = below_behind top xs ys h.1

then_ok : {A E : Type 0} (r : Result A E) → and_then r (λ a. (let q : Result A E = Ok a in q)) ≡ r
then_ok (Ok a) = refl
then_ok (Err k) = refl

scalar_same : (written : TypeName) → codes.scalar_of written ≡ names.scalar_of written
scalar_same (Basic scalar) = refl
scalar_same (Custom line name) = refl

-- ---- runs

module _ (w : ClassScope) (done : List (List Variable)) (memory : List Variable) (size top : ℕ) (x : InCells) (y : Setting) (blocks : List (List Code))
    (place : AreInOnePlace w done memory size top x y) (runs : RunBlocks blocks x) (places : LeadToTheirNames) (objects : ObjectsHoldNames) (wraps : WrapsRight) where
  abbrev Alike : Names InSlot → Names Declared → Resolved → State → Type 0
  Alike slots declared a b = AreAlike w size top slots declared memory a b

  abbrev Ends : Names InSlot → Names Declared → Resolved → Result Resolved StatementFault → Result State StatementFault → Type 0
  Ends slots declared before q r = EndAlike w size top slots declared memory before q r

  sees : (slots : Names InSlot) (declared : Names Declared) (a : Resolved) (b : State) → Alike slots declared a b → SeeTheSame w slots declared memory (sight x a) y b
  sees slots declared a b h = record {
    class = place.class;
    object = place.object;
    known = place.known;
    cells = λ cell full there. ap (λ o. unwrap_or o (x.memory cell)) (h.stored cell full there) ∙ ap (λ n. unwrap_or (meaning_of full b.stored) n) (place.numbers cell full there);
    locals = λ name. rows_same w.slots (local_of a) slots declared b.locals h.rows name;
  }

  value_is : (slots : Names InSlot) (declared : Names Declared) (a : Resolved) (b : State) → Alike slots declared a b → (e : Expression) → expression_mistakes e y.scope declared ≡ [] → values.value (term e w slots) (sight x a) ≡ value e y b
  value_is slots declared a b h e none = value_kept w done memory slots declared (sight x a) y b place.named place.same (sees slots declared a b h) places objects wraps e none

  changed_is : (slots : Names InSlot) (declared : Names Declared) (a : Resolved) (b : State) → Alike slots declared a b → (change : Change) (old : ℤ) → change_mistakes change y.scope declared ≡ [] → resolved.changed (change_term change w slots) old (sight x a) ≡ changed change old y b
  changed_is slots declared a b h (Set e) old none = value_is slots declared a b h e none
  changed_is slots declared a b h (Update o e) old none = ap (λ r. and_then r (λ n. applied o old n)) (value_is slots declared a b h e none)
  changed_is slots declared a b h Increase old none = refl
  changed_is slots declared a b h Decrease old none = refl

  -- ---- going on

  widen : (slots : Names InSlot) (declared : Names Declared) (before a : Resolved) (q : Result Resolved StatementFault) (r : Result State StatementFault) → KeepsFrom top before a → Ends slots declared a q r → Ends slots declared before q r
  widen slots declared before a (Ok c) (Ok d) keeps h = (h.0, λ slot low. h.1 slot low ∙ keeps slot low)
  widen slots declared before a (Ok c) (Err d) keeps h = h
  widen slots declared before a (Err c) (Ok d) keeps h = h
  widen slots declared before a (Err c) (Err d) keeps h = h

  then_ends : (slots after_slots : Names InSlot) (declared after_declared : Names Declared) (before : Resolved) (q : Result Resolved StatementFault) (r : Result State StatementFault) (f : Resolved → Result Resolved StatementFault) (g : State → Result State StatementFault) → Ends slots declared before q r → ((a : Resolved) (b : State) → Alike slots declared a b → Ends after_slots after_declared a (f a) (g b)) → Ends after_slots after_declared before (and_then q f) (and_then r g)
  then_ends slots after_slots declared after_declared before (Ok a) (Ok b) f g h next = widen after_slots after_declared before a (f a) (g b) h.1 (next a b h.0)
  then_ends slots after_slots declared after_declared before (Ok a) (Err d) f g h next = absurd h
  then_ends slots after_slots declared after_declared before (Err c) (Ok b) f g h next = absurd h
  then_ends slots after_slots declared after_declared before (Err c) (Err d) f g h next = h

  line_ends : {A : Type 0} (slots : Names InSlot) (declared : Names Declared) (before : Resolved) (line : ℕ) (r q : Result A FaultKind) (f : A → Result Resolved StatementFault) (g : A → Result State StatementFault) → r ≡ q → ((n : A) → Ends slots declared before (f n) (g n)) → Ends slots declared before (at_line line r f) (at_line line q g)
  line_ends {A} slots declared before line r q f g is each = subst (λ z. Ends slots declared before (at_line line z f) (at_line line q g)) (sym is) (by q) where
    by : (q : Result A FaultKind) → Ends slots declared before (at_line line q f) (at_line line q g)
    by (Ok n) = each n
    by (Err k) = refl

  within_ends : (slots after_slots : Names InSlot) (declared after_declared : Names Declared) (start a : Resolved) (b : State) (q : Result Resolved StatementFault) (r : Result State StatementFault) → More slots after_slots → More declared after_declared → Alike slots declared start b → Ends after_slots after_declared a q r → Ends slots declared a q (within b r)
  within_ends slots after_slots declared after_declared start a b (Ok c) (Ok d) more also before h =
      let many = rows_named w.slots (local_of start) slots declared b.locals before.rows in
      let told = rows_declared w.slots (local_of start) slots declared b.locals before.rows in
      let front = rows_front w.slots (local_of c) (length slots) after_slots after_declared d.locals h.0.rows in
      let front_two = subst (λ q. AreRows w.slots (local_of c) q (take (length slots) after_declared) (take (length slots) d.locals)) (front_is slots after_slots more) front in
      let front_three = subst (λ q. AreRows w.slots (local_of c) slots q (take (length slots) d.locals)) (ap (λ k. take k after_declared) (sym told) ∙ front_is declared after_declared also) front_two in (
        record {
          cells = h.0.cells;
          stored = h.0.stored;
          room = h.0.room;
          fits = before.fits;
          rows = subst (λ k. AreRows w.slots (local_of c) slots declared (take k d.locals)) (sym many) front_three;
        },
        h.1,
      )
  within_ends slots after_slots declared after_declared start a b (Ok c) (Err d) more also before h = h
  within_ends slots after_slots declared after_declared start a b (Err c) (Ok d) more also before h = h
  within_ends slots after_slots declared after_declared start a b (Err c) (Err d) more also before h = h

  -- ---- local variables

  slot_below : (slots : Names InSlot) (declared : Names Declared) (a : Resolved) (b : State) → Alike slots declared a b → (name : Name) (l : InSlot) → meaning_of name slots ≡ Some l → l.slot < top
  slot_below slots declared a b h name l known = let here = slot_of w.slots (local_of a) slots declared b.locals h.rows name l known in let fits = h.fits in omega (arith, here.1, fits)

  room_set : (a : Resolved) (slot : ℕ) (v : ℤ) → size ≤ length a.locals → size ≤ length (slice_set a.locals slot (Some v))
  room_set a slot v room = omega (arith, room, length-set a.locals slot (Some v))

  far_kept : (a : Resolved) (slot : ℕ) (v : ℤ) → slot < top → KeepsFrom top a (resolved.with_local a slot v)
  far_kept a slot v less j low = slot_other a slot j v (λ e. absurd (omega (arith, less, low, e)))

  set_ends : (slots : Names InSlot) (declared : Names Declared) (a : Resolved) (b : State) (name : Name) (l : InSlot) (v : ℤ) → Alike slots declared a b → meaning_of name slots ≡ Some l → Ends slots declared a (Ok (resolved.with_local a l.slot v)) (Ok (with_local name v b))
  set_ends slots declared a b name l v h known =
      let less = slot_below slots declared a b h name l known in
      let room = h.room in
      let whole = place.room in (
        record {
          cells = h.cells;
          stored = h.stored;
          room = room_set a l.slot v h.room;
          fits = h.fits;
          rows = rows_set w.slots (local_of a) (local_of (resolved.with_local a l.slot v)) slots declared b.locals name l v known (λ j other. slot_other a l.slot j v other) (slot_set a l.slot v (omega (arith, less, room, whole))) h.rows;
        },
        far_kept a l.slot v less,
      )

  new_alike : (slots : Names InSlot) (declared : Names Declared) (a : Resolved) (b : State) (name : Name) (l : InSlot) (d : Declared) (v : ℤ) → l.slot ≡ w.slots + length slots → l.slot < top → l.is_loop ≡ d.is_loop → Alike slots declared a b → Alike (slots ++ (name, l) ∷ []) (declared ++ (name, d) ∷ []) (resolved.with_local a l.slot v) (with_new name l.scalar v b)
  new_alike slots declared a b name l d v at less loop h =
      let room = h.room in
      let whole = place.room in
      record {
        cells = h.cells;
        stored = h.stored;
        room = room_set a l.slot v h.room;
        fits = omega (arith, at, less, length_push slots (name, l));
        rows = rows_new w.slots (local_of (resolved.with_local a l.slot v)) slots declared b.locals name l d (record { scalar = l.scalar; number = v }) at refl loop (slot_set a l.slot v (omega (arith, less, room, whole)))
            (rows_kept w.slots (local_of a) (local_of (resolved.with_local a l.slot v)) slots declared b.locals (λ j low high. slot_other a l.slot j v (λ e. absurd (omega (arith, e, high, at)))) h.rows);
      }

  -- ---- stores

  store_ends : (slots : Names InSlot) (declared : Names Declared) (a : Resolved) (b : State) (c : ℕ) (full : Name) (v : ℤ) → Alike slots declared a b → IsNamed memory c full → Ends slots declared a (Ok (resolved.with_stored a c v)) (Ok (with_stored full v b))
  store_ends slots declared a b c full v h there =
      let here : Variable = record { name = full; scalar = there.scalar } in
      let at = is_at memory c here there.here in
      let less = at_below memory c here at in
      let many = h.cells in (
        record {
          cells = length-set a.stored c (Some v) ∙ h.cells;
          stored = λ cell other known.
              let other_here : Variable = record { name = other; scalar = known.scalar } in
              let other_at = is_at memory cell other_here known.here in
              by (bytes_eq other full) cell other refl (h.stored cell other known) (λ e. (one_cell memory place.apart cell c other_here here other_at at e).0) (λ e. same_name cell other c full known there e) (omega (arith, less, many));
          room = h.room;
          fits = h.fits;
          rows = h.rows;
        },
        λ slot low. refl,
      ) where
        same_name : (cell : ℕ) (other : Name) (c : ℕ) (full : Name) → IsNamed memory cell other → IsNamed memory c full → cell ≡ c → other ≡ full
        same_name cell other c full known there e =
            let one : Variable = record { name = other; scalar = known.scalar } in
            let two : Variable = record { name = full; scalar = there.scalar } in
            ap (λ (q : Variable). q.name) (one_entry memory c one two (subst (λ k. IsAt memory k one) e (is_at memory cell one known.here)) (is_at memory c two there.here))

        by : (t : Bool) → (cell : ℕ) (other : Name) → bytes_eq other full ≡ t → slice_index_or a.stored cell None ≡ meaning_of other b.stored → (other ≡ full → cell ≡ c) → (cell ≡ c → other ≡ full) → c < length a.stored → slice_index_or (slice_set a.stored c (Some v)) cell None ≡ (if t then Some v else meaning_of other b.stored)
        by true cell other is old to_cell to_name less =
            let same : other ≡ full = search (rules, bytes_eq-Decides) in
            ap (λ k. slice_index_or (slice_set a.stored c (Some v)) k None) (to_cell same) ∙ get_or-set_same a.stored c (Some v) None less
        by false cell other is old to_cell to_name less =
            let apart : cell ≢ c = λ e. absurd (cc (sym is ∙ one_name other full (to_name e))) in
            get_or-set_other a.stored c cell (Some v) None apart ∙ old

  -- ---- declarations

  new_known : (slots : Names InSlot) (declared : Names Declared) (a : Resolved) (b : State) (name : Name) → Alike slots declared a b → twice name declared ≡ [] → (meaning_of name declared ≡ None) × (meaning_of name slots ≡ None)
  new_known slots declared a b name h none =
      let told = not_known name declared none in
      (told, no_slot (local_of a) (meaning_of name slots) (meaning_of name declared) (meaning_of name b.locals) (rows_same w.slots (local_of a) slots declared b.locals h.rows name) told)

  first_is : (slots : Names InSlot) (declared : Names Declared) (a : Resolved) (b : State) → Alike slots declared a b → (e : Option Expression) → first_value_mistakes e y.scope declared ≡ [] → resolved.first_value (value_term e w slots) (sight x a) ≡ first_value e y b
  first_is slots declared a b h None none = refl
  first_is slots declared a b h (Some e) none = value_is slots declared a b h e none

  scalar_declares : (line : ℕ) (scalar : Scalar) (name : Name) (e : Option Expression) (slots : Names InSlot) (declared : Names Declared) (a : Resolved) (b : State) (l : InSlot) (d : Declared) → l ≡ record { slot = slot_behind w slots; scalar = scalar; is_loop = false } → d ≡ record { scalar = scalar; is_loop = false } → twice name declared ≡ [] → first_value_mistakes e y.scope (with_name name d declared) ≡ [] → is_code_below top (declared_code line (new_slot name w slots) scalar (value_term e w (with_name name l slots))) ≡ true → Alike slots declared a b → Ends (with_name name l slots) (with_name name d declared) a (resolved.run (declared_code line (new_slot name w slots) scalar (value_term e w (with_name name l slots))) x a) (declare line scalar name e y b)
  scalar_declares line scalar name e slots declared a b l d l_is d_is once none below h =
      let known = new_known slots declared a b name h once in
      let slot = slot_behind w slots in
      let slots_is : with_name name l slots ≡ slots ++ (name, l) ∷ [] = name_added name l slots known.1 in
      let declared_is : with_name name d declared ≡ declared ++ (name, d) ∷ [] = name_added name d declared known.0 in
      let slot_is : new_slot name w slots ≡ Some slot = ap (λ o. free_slot o slot) known.1 in
      let at : l.slot ≡ slot = ap (λ (q : InSlot). q.slot) l_is in
      let typed : l.scalar ≡ scalar = ap (λ (q : InSlot). q.scalar) l_is in
      let loops : l.is_loop ≡ d.is_loop = ap (λ (q : InSlot). q.is_loop) l_is ∙ ap (λ (q : Declared). q.is_loop) (sym d_is) in
      let below_two : nat_lt slot top ≡ true = ap (λ o. is_code_below top (declared_code line o scalar (value_term e w (with_name name l slots)))) (sym slot_is) ∙ below in
      let less : l.slot < top = subst (λ k. k < top) (sym at) (ltb-true slot top below_two) in
      let none_two : first_value_mistakes e y.scope (declared ++ (name, d) ∷ []) ≡ [] = subst (λ q. first_value_mistakes e y.scope q ≡ []) declared_is none in
      let zero_state = resolved.with_local a l.slot (pos 0) in
      let zero_named = with_new name l.scalar (pos 0) b in
      let begun = new_alike slots declared a b name l d (pos 0) at less loops h in
      let ends : Ends (slots ++ (name, l) ∷ []) (declared ++ (name, d) ∷ []) a (resolved.run (Tree.Declare line l.slot l.scalar (value_term e w (slots ++ (name, l) ∷ []))) x a) (declare line l.scalar name e y b) =
      line_ends (slots ++ (name, l) ∷ []) (declared ++ (name, d) ∷ []) a line (resolved.first_value (value_term e w (slots ++ (name, l) ∷ [])) (sight x zero_state)) (first_value e y zero_named) (λ n. Ok (resolved.with_local zero_state l.slot (wrap l.scalar n))) (λ n. Ok (with_local name (wrap l.scalar n) zero_named))
      (first_is (slots ++ (name, l) ∷ []) (declared ++ (name, d) ∷ []) zero_state zero_named begun e none_two)
      (λ n.
      widen (slots ++ (name, l) ∷ []) (declared ++ (name, d) ∷ []) a zero_state (Ok (resolved.with_local zero_state l.slot (wrap l.scalar n))) (Ok (with_local name (wrap l.scalar n) zero_named)) (far_kept a l.slot (pos 0) less)
      (set_ends (slots ++ (name, l) ∷ []) (declared ++ (name, d) ∷ []) zero_state zero_named name l (wrap l.scalar n) begun (added_means name l slots known.1))) in
      let ends_two = subst (λ k. Ends (slots ++ (name, l) ∷ []) (declared ++ (name, d) ∷ []) a (resolved.run (Tree.Declare line k l.scalar (value_term e w (slots ++ (name, l) ∷ []))) x a) (declare line l.scalar name e y b)) at ends in
      let ends_three = subst (λ k. Ends (slots ++ (name, l) ∷ []) (declared ++ (name, d) ∷ []) a (resolved.run (Tree.Declare line slot k (value_term e w (slots ++ (name, l) ∷ []))) x a) (declare line k name e y b)) typed ends_two in
      subst (λ o. Ends (with_name name l slots) (with_name name d declared) a (resolved.run (declared_code line o scalar (value_term e w (with_name name l slots))) x a) (declare line scalar name e y b)) (sym slot_is)
      (subst (λ q. Ends q (with_name name d declared) a (resolved.run (Tree.Declare line slot scalar (value_term e w q)) x a) (declare line scalar name e y b)) (sym slots_is)
      (subst (λ q. Ends (slots ++ (name, l) ∷ []) q a (resolved.run (Tree.Declare line slot scalar (value_term e w (slots ++ (name, l) ∷ []))) x a) (declare line scalar name e y b)) (sym declared_is) ends_three))

  declares : (line : ℕ) (written : TypeName) (name : Name) (e : Option Expression) (n : ℕ) (slots : Names InSlot) (declared : Names Declared) (a : Resolved) (b : State) → statement_mistakes (Declare line written name e) y.scope declared ≡ [] → is_code_below top (code (Declare line written name e) w slots n) ≡ true → Alike slots declared a b → Ends (after (Declare line written name e) w slots) (names.after (Declare line written name e) declared) a (resolved.run (code (Declare line written name e) w slots n) x a) (run (Declare line written name e) y b)
  declares line (Basic scalar) name e n slots declared a b none below h =
      scalar_declares line scalar name e slots declared a b (record { slot = slot_behind w slots; scalar = scalar; is_loop = false }) (record { scalar = scalar; is_loop = false }) refl refl (none_left (twice name declared) _ none) (none_right (twice name declared) _ none) below h
  declares line (Custom at type) name e n slots declared a b none below h =
      let behind = none_right (type_mistakes (Custom at type) y.scope) _ none in
      scalar_declares line Int name e slots declared a b (record { slot = slot_behind w slots; scalar = Int; is_loop = false }) (record { scalar = Int; is_loop = false }) refl refl (none_left (twice name declared) _ behind) (none_right (twice name declared) _ behind) below h

  -- ---- assignments

  local_assigns : (line at : ℕ) (name : Name) (parts : Parts) (change : Change) (slots : Names InSlot) (declared : Names Declared) (a : Resolved) (b : State) → Alike slots declared a b → change_mistakes change y.scope declared ≡ [] → by_name.is_fixed name y.scope declared ≡ false → (l : InSlot) (d : Declared) (c : ByName) → meaning_of name slots ≡ Some l → meaning_of name declared ≡ Some d → meaning_of name b.locals ≡ Some c → IsSameLocal (local_of a) (Some l) (Some d) (Some c) → Ends slots declared a (resolved.run (goal_code (path_goal (path at name parts) w slots) line (change_term change w slots)) x a) (path_assign (path at name parts) line change y b)
  local_assigns line at name parts change slots declared a b h none fixed l d c known told has same =
      let named_is : by_cell.named name w slots ≡ by_cell.local_meaning (Some l) (meaning_of name (fields_at w.layout.groups w.class)) (meaning_of name w.layout.sites) = ap (λ o. by_cell.local_meaning o (meaning_of name (fields_at w.layout.groups w.class)) (meaning_of name w.layout.sites)) known in
      let goal_is : path_goal (path at name parts) w slots ≡ InLocal l = ap (λ m. goal_of m (by_cell.scalar_there (by_cell.followed parts w (by_cell.start_of m))) (by_cell.literal_count parts) (steps parts w slots (by_cell.start_of m))) named_is in
      let means_is : meant name y b ≡ OfLocal c = ap (λ o. local_meant y.object name o (own_member name y.scope) (meaning_of name y.scope.tables.names)) has in
      let open_is : l.is_loop ≡ false = same.2 ∙ (sym (ap (λ o. by_name.is_fixed_local o (own_member name y.scope) (meaning_of name y.scope.tables.names)) told) ∙ fixed) in
      let ends : Ends slots declared a (resolved.run (Tree.SetLocal line l.slot l.scalar (change_term change w slots)) x a) (at_line line (changed change c.number y b) (λ n. Ok (with_local name (wrap l.scalar n) b))) =
      line_ends slots declared a line (resolved.changed (change_term change w slots) (local_of a l.slot) (sight x a)) (changed change c.number y b) (λ n. Ok (resolved.with_local a l.slot (wrap l.scalar n))) (λ n. Ok (with_local name (wrap l.scalar n) b))
      (changed_is slots declared a b h change (local_of a l.slot) none ∙ ap (λ n. changed change n y b) same.0) (λ n. set_ends slots declared a b name l (wrap l.scalar n) h known) in
      subst (λ g. Ends slots declared a (resolved.run (goal_code g line (change_term change w slots)) x a) (path_assign (path at name parts) line change y b)) (sym goal_is)
      (subst (λ t. Ends slots declared a (resolved.run (if t then Tree.Empty else Tree.SetLocal line l.slot l.scalar (change_term change w slots)) x a) (path_assign (path at name parts) line change y b)) (sym open_is)
      (subst (λ m. Ends slots declared a (resolved.run (Tree.SetLocal line l.slot l.scalar (change_term change w slots)) x a) (meaning.assign m line name parts change y b)) (sym means_is)
      (subst (λ q. Ends slots declared a (resolved.run (Tree.SetLocal line l.slot l.scalar (change_term change w slots)) x a) (at_line line (changed change c.number y b) (λ n. Ok (with_local name (wrap q n) b)))) same.1 ends)))

  -- what is stored where a path leads
  abbrev Stores : ℕ → Change → Names InSlot → Resolved → Result ℕ FaultKind → Result Resolved StatementFault
  Stores line change slots a q = at_line line (and_then q (λ c. and_then (resolved.changed (change_term change w slots) ((sight x a).cell c) (sight x a)) (λ n. (let r : Result (ℕ × ℤ) FaultKind = Ok (c, n) in r)))) (λ t. Ok (resolved.with_stored a t.0 (wrap (scalar_at x.scalars t.0) t.1)))

  abbrev StoresNamed : ℕ → Change → State → Result Place FaultKind → Result State StatementFault
  StoresNamed line change b r = at_line line (and_then r (λ p. and_then (changed change (number_at p.full y b) y b) (λ n. (let q : Result (Place × ℤ) FaultKind = Ok (p, n) in q)))) (λ t. Ok (with_stored t.0.full (wrap (meaning.scalar_there t.0.there) t.1) b))

  number_stored : (line : ℕ) (slots : Names InSlot) (declared : Names Declared) (a : Resolved) (b : State) (c : ℕ) (p : Place) (v u : Result ℤ FaultKind) → v ≡ u → Alike slots declared a b → IsNamed memory c p.full → scalar_at x.scalars c ≡ meaning.scalar_there p.there → Ends slots declared a (at_line line (and_then v (λ n. (let r : Result (ℕ × ℤ) FaultKind = Ok (c, n) in r))) (λ t. Ok (resolved.with_stored a t.0 (wrap (scalar_at x.scalars t.0) t.1)))) (at_line line (and_then u (λ n. (let q : Result (Place × ℤ) FaultKind = Ok (p, n) in q))) (λ t. Ok (with_stored t.0.full (wrap (meaning.scalar_there t.0.there) t.1) b)))
  number_stored line slots declared a b c p v u is h there typed =
      subst (λ z. Ends slots declared a (at_line line (and_then z (λ n. (let r : Result (ℕ × ℤ) FaultKind = Ok (c, n) in r))) (λ t. Ok (resolved.with_stored a t.0 (wrap (scalar_at x.scalars t.0) t.1)))) (at_line line (and_then u (λ n. (let q : Result (Place × ℤ) FaultKind = Ok (p, n) in q))) (λ t. Ok (with_stored t.0.full (wrap (meaning.scalar_there t.0.there) t.1) b)))) (sym is) (by u) where
        by : (u : Result ℤ FaultKind) → Ends slots declared a (at_line line (and_then u (λ n. (let r : Result (ℕ × ℤ) FaultKind = Ok (c, n) in r))) (λ t. Ok (resolved.with_stored a t.0 (wrap (scalar_at x.scalars t.0) t.1)))) (at_line line (and_then u (λ n. (let q : Result (Place × ℤ) FaultKind = Ok (p, n) in q))) (λ t. Ok (with_stored t.0.full (wrap (meaning.scalar_there t.0.there) t.1) b)))
        by (Ok n) = subst (λ k. Ends slots declared a (Ok (resolved.with_stored a c (wrap k n))) (Ok (with_stored p.full (wrap (meaning.scalar_there p.there) n) b))) (sym typed) (store_ends slots declared a b c p.full (wrap (meaning.scalar_there p.there) n) h there)
        by (Err k) = refl

  stores_alike : (line : ℕ) (change : Change) (slots : Names InSlot) (declared : Names Declared) (a : Resolved) (b : State) → Alike slots declared a b → change_mistakes change y.scope declared ≡ [] → (st : Steps) (text : List ℕ → Name) (from : ℕ) (full : Name) (scalar : Scalar) (q : Result ℕ FaultKind) (r : Result Place FaultKind) → ((ns : List ℕ) (more : ℕ) → led_by st ns ≡ Some more → IsNamed memory (from + more) (full ++ text ns)) → ((p : Place) → r ≡ Ok p → Stand w done memory y b place.same p.full (single scalar)) → IsLed st text from full scalar q r → Ends slots declared a (Stores line change slots a q) (StoresNamed line change b r)
  stores_alike line change slots declared a b h none st text from full scalar (Ok c) (Ok p) named types led =
      let there : IsNamed memory c p.full = subst (λ k. IsNamed memory k p.full) (sym led.3) (subst (λ t. IsNamed memory (from + led.1) t) (sym led.4) (named led.0 led.1 led.2)) in
      let typed : scalar_at x.scalars c ≡ meaning.scalar_there p.there =
      ap (λ q. scalar_at q c) place.scalars ∙ (type_is w done memory y b place.same p.full scalar c place.apart (types p refl) there ∙ ap meaning.scalar_there (sym led.5)) in
      let number : (sight x a).cell c ≡ number_at p.full y b = (sees slots declared a b h).cells c p.full there in
      number_stored line slots declared a b c p (resolved.changed (change_term change w slots) ((sight x a).cell c) (sight x a)) (changed change (number_at p.full y b) y b) (changed_is slots declared a b h change ((sight x a).cell c) none ∙ ap (λ n. changed change n y b) number) h there typed
  stores_alike line change slots declared a b h none st text from full scalar (Ok c) (Err e) named types led = absurd led
  stores_alike line change slots declared a b h none st text from full scalar (Err d) (Ok p) named types led = absurd led
  stores_alike line change slots declared a b h none st text from full scalar (Err d) (Err e) named types led = ap (λ k. record { kind = k; line = line }) led

  place_assigns : (line at : ℕ) (name : Name) (parts : Parts) (change : Change) (slots : Names InSlot) (declared : Names Declared) (a : Resolved) (b : State) → (h : Alike slots declared a b) → change_mistakes change y.scope declared ≡ [] → PlaceView w done memory slots declared (sight x a) y b place.named place.same (sees slots declared a b h) places objects wraps at name parts → Ends slots declared a (resolved.run (goal_code (path_goal (path at name parts) w slots) line (change_term change w slots)) x a) (path_assign (path at name parts) line change y b)
  place_assigns line at name parts change slots declared a b h none view =
      let stored = stores_alike line change slots declared a b h none view.steps_are (path_text parts) view.from view.full view.scalar (values.led view.steps_are (sight x a) view.from) (led parts view.full (Stands view.shape) y b) view.names view.types view.leads in
      subst (λ g. Ends slots declared a (resolved.run (goal_code g line (change_term change w slots)) x a) (path_assign (path at name parts) line change y b)) (sym view.by_cells_is)
      (subst (λ m. Ends slots declared a (resolved.run (Tree.Assign line view.spot_is (change_term change w slots)) x a) (meaning.assign m line name parts change y b)) (sym view.by_names_is)
      (subst (λ q. Ends slots declared a (Stores line change slots a q) (StoresNamed line change b (led parts view.full (Stands view.shape) y b))) (sym view.cell_is) stored))

  pub assigns : (line : ℕ) (p : Path) (change : Change) (n : ℕ) (slots : Names InSlot) (declared : Names Declared) (a : Resolved) (b : State) → statement_mistakes (Assign line p change) y.scope declared ≡ [] → Alike slots declared a b → Ends slots declared a (resolved.run (code (Assign line p change) w slots n) x a) (run (Assign line p change) y b)
  assigns line (path at name parts) change n slots declared a b none h =
      let right = none_right (path_mistakes (path at name parts) true y.scope declared) _ none in
      let view = sees slots declared a b h in
      let open_path = assigned_path w done memory slots declared (sight x a) y b place.named place.same view places objects wraps at name parts (none_left (path_mistakes (path at name parts) true y.scope declared) _ none) in
      path_view w done memory slots declared (sight x a) y b place.named place.same view places objects wraps at name parts (parts_lead w done memory slots declared (sight x a) y b place.named place.same view places objects wraps parts)
      (Ends slots declared a (resolved.run (goal_code (path_goal (path at name parts) w slots) line (change_term change w slots)) x a) (path_assign (path at name parts) line change y b))
      (λ l d c known told has same. local_assigns line at name parts change slots declared a b h right open_path.0 l d c known told has same)
      (λ fixed. absurd (cc (sym fixed ∙ open_path.0))) (λ there. place_assigns line at name parts change slots declared a b h right there) open_path.1

  -- ---- loops and calls

  turns_end : (slots : Names InSlot) (declared : Names Declared) (f : ℕ → Resolved → Result Resolved StatementFault) (g : ℕ → State → Result State StatementFault) → ((k : ℕ) (a : Resolved) (b : State) → Alike slots declared a b → Ends slots declared a (f k a) (g k b)) → (many k : ℕ) (a : Resolved) (b : State) → Alike slots declared a b → Ends slots declared a (resolved.turns f k many a) (turns g k many b)
  turns_end slots declared f g each zero k a b h = (h, λ slot low. refl)
  turns_end slots declared f g each (suc many) k a b h =
      then_ends slots slots declared declared a (f k a) (g k b) (resolved.turns f (k + 1) many) (turns g (k + 1) many) (each k a b h) (λ c d i. turns_end slots declared f g each many (k + 1) c d i)

  -- the block of one statement
  one_runs : (block : ℕ) (c : Code) (a : Resolved) → block_at blocks block ≡ c ∷ [] → x.blocks block a ≡ resolved.run c x a
  one_runs block c a is = runs block a ∙ (ap (λ cs. resolved.run_all cs x a) is ∙ then_ok (resolved.run c x a))

  calls_end : (line : ℕ) (name : Name) (slots : Names InSlot) (declared : Names Declared) (a : Resolved) (b : State) (o : Option ℕ) → meaning_of name w.methods ≡ o → is_some o ≡ true → Alike slots declared a b → Ends slots declared a (resolved.run (call_code o) x a) (called name y b)
  calls_end line name slots declared a b None known made h = absurd (cc made)
  calls_end line name slots declared a b (Some block) known made h = by (x.blocks block a) (y.calls name b.stored) (place.calls name block a b.stored known (record { cells = h.cells; stored = h.stored; room = h.room; fits = omega (arith, fits); rows = tt })) where
    fits : w.slots + length slots ≤ top
    fits = h.fits

    low_top : (slot : ℕ) → top ≤ slot → w.slots ≤ slot
    low_top slot low = omega (arith, fits, low)

    by : (q : Result Resolved StatementFault) (r : Result Stored StatementFault) → CallAlike w size top memory a q r → Ends slots declared a q (and_then r (λ stored. (let t : Result State StatementFault = Ok (record { stored = stored; locals = b.locals }) in t)))
    by (Ok c) (Ok stored) told = (
      record {
        cells = told.0.cells;
        stored = told.0.stored;
        room = told.0.room;
        fits = h.fits;
        rows = rows_kept w.slots (local_of a) (local_of c) slots declared b.locals (λ j low high. told.1 j low) h.rows;
      },
      λ slot low. told.1 slot (low_top slot low),
    )
    by (Ok c) (Err d) told = told
    by (Err c) (Ok stored) told = told
    by (Err c) (Err d) told = told

  if_ends : (slots : Names InSlot) (declared : Names Declared) (a : Resolved) (t : Bool) (p q : Result Resolved StatementFault) (r u : Result State StatementFault) → Ends slots declared a p r → Ends slots declared a q u → Ends slots declared a (if t then p else q) (if t then r else u)
  if_ends slots declared a true p q r u one two = one
  if_ends slots declared a false p q r u one two = two

  -- ---- what is asked of a statement, at its blocks

  abbrev IsKept : Statement → Type 0
  IsKept s = (n : ℕ) (slots : Names InSlot) (declared : Names Declared) (a : Resolved) (b : State) → statement_mistakes s y.scope declared ≡ [] → CanRun w s → HasBlocks blocks n (inner s w slots n) → is_code_below top (code s w slots n) ≡ true → BlocksAreBelow top (inner s w slots n) → Alike slots declared a b → Ends (after s w slots) (names.after s declared) a (resolved.run (code s w slots n) x a) (run s y b)

  -- a branch or a turn is the block of its one statement
  opened : (s : Statement) (n : ℕ) (slots : Names InSlot) (declared : Names Declared) (a : Resolved) (b : State) → IsKept s → statement_mistakes s y.scope declared ≡ [] → CanRun w s → HasBlocks blocks n (inner s w slots n ++ (code s w slots n ∷ []) ∷ []) → BlocksAreBelow top (inner s w slots n ++ (code s w slots n ∷ []) ∷ []) → Alike slots declared a b → Ends (after s w slots) (names.after s declared) a (x.blocks (n + count s) a) (run s y b)
  opened s n slots declared a b kept none can has below h =
      let last = has_behind blocks (inner s w slots n) ((code s w slots n ∷ []) ∷ []) n has in
      let here : block_at blocks (n + count s) ≡ code s w slots n ∷ [] = ap (λ k. block_at blocks (n + k)) (sym (inner_count s w slots n)) ∙ last.0 in
      let own = below_behind top (inner s w slots n) ((code s w slots n ∷ []) ∷ []) below in
      subst (λ q. Ends (after s w slots) (names.after s declared) a q (run s y b)) (sym (one_runs (n + count s) (code s w slots n) a here))
      (kept n slots declared a b none can (has_front blocks (inner s w slots n) ((code s w slots n ∷ []) ∷ []) n has) own.0.0 (below_front top (inner s w slots n) ((code s w slots n ∷ []) ∷ []) below) h)

  -- what becomes known in it ends with it
  body_ends : (s : Statement) (n : ℕ) (slots : Names InSlot) (declared : Names Declared) (a : Resolved) (b : State) → IsKept s → statement_mistakes s y.scope declared ≡ [] → CanRun w s → HasBlocks blocks n (inner s w slots n ++ (code s w slots n ∷ []) ∷ []) → BlocksAreBelow top (inner s w slots n ++ (code s w slots n ∷ []) ∷ []) → Alike slots declared a b → Ends slots declared a (x.blocks (n + count s) a) (within b (run s y b))
  body_ends s n slots declared a b kept none can has below h =
      within_ends slots (after s w slots) declared (names.after s declared) a a b (x.blocks (n + count s) a) (run s y b) (after_more s w slots) (declared_more s declared) h (opened s n slots declared a b kept none can has below h)

  turn_ends : (name : Name) (body : Statement) (n : ℕ) (slots : Names InSlot) (declared : Names Declared) (l : InSlot) (d : Declared) (k : ℕ) (a : Resolved) (b : State) → l ≡ record { slot = slot_behind w slots; scalar = Long; is_loop = true } → d ≡ record { scalar = Long; is_loop = true } → l.slot < top → IsKept body → statement_mistakes body y.scope (declared ++ (name, d) ∷ []) ≡ [] → CanRun w body → HasBlocks blocks n (inner body w (slots ++ (name, l) ∷ []) n ++ (code body w (slots ++ (name, l) ∷ []) n ∷ []) ∷ []) → BlocksAreBelow top (inner body w (slots ++ (name, l) ∷ []) n ++ (code body w (slots ++ (name, l) ∷ []) n ∷ []) ∷ []) → Alike slots declared a b → Ends slots declared a (x.blocks (n + count body) (resolved.with_local a l.slot (pos k))) (within b (run body y (with_new name l.scalar (pos k) b)))
  turn_ends name body n slots declared l d k a b l_is d_is less kept none can has below h =
      let at : l.slot ≡ w.slots + length slots = ap (λ (q : InSlot). q.slot) l_is in
      let loops : l.is_loop ≡ d.is_loop = ap (λ (q : InSlot). q.is_loop) l_is ∙ ap (λ (q : Declared). q.is_loop) (sym d_is) in
      let begun = new_alike slots declared a b name l d (pos k) at less loops h in
      let inside : Names InSlot = slots ++ (name, l) ∷ [] in
      let told : Names Declared = declared ++ (name, d) ∷ [] in
      let first = resolved.with_local a l.slot (pos k) in
      widen slots declared a first (x.blocks (n + count body) first) (within b (run body y (with_new name l.scalar (pos k) b))) (far_kept a l.slot (pos k) less)
      (within_ends slots (after body w inside) declared (names.after body told) a first b (x.blocks (n + count body) first) (run body y (with_new name l.scalar (pos k) b))
      (more_again slots inside (after body w inside) ((name, l) ∷ [], refl) (after_more body w inside)) (more_again declared told (names.after body told) ((name, d) ∷ [], refl) (declared_more body told)) h
      (opened body n inside told first (with_new name l.scalar (pos k) b) kept none can has below begun))

  loop_ends : (name : Name) (from : ℕ) (bound : Bound) (body : Statement) (n : ℕ) (slots : Names InSlot) (declared : Names Declared) (a : Resolved) (b : State) → IsKept body → statement_mistakes (For name from bound body) y.scope declared ≡ [] → CanRun w (For name from bound body) → HasBlocks blocks n (inner (For name from bound body) w slots n) → is_code_below top (code (For name from bound body) w slots n) ≡ true → BlocksAreBelow top (inner (For name from bound body) w slots n) → Alike slots declared a b → Ends slots declared a (resolved.run (code (For name from bound body) w slots n) x a) (run (For name from bound body) y b)
  loop_ends name from bound body n slots declared a b kept none can has below all_below h =
      let once = none_left (twice name declared) _ none in
      let known = new_known slots declared a b name h once in
      let slot = slot_behind w slots in
      let block = n + count body in
      let l : InSlot = record { slot = slot; scalar = Long; is_loop = true } in
      let d : Declared = record { scalar = Long; is_loop = true } in
      let slots_is : loop_in name w slots ≡ slots ++ (name, l) ∷ [] = name_added name l slots known.1 in
      let declared_is : names.loop_in name declared ≡ declared ++ (name, d) ∷ [] = name_added name d declared known.0 in
      let slot_is : codes.loop_slot name bound w slots ≡ Some slot = ap (λ t. if t then new_slot name w slots else None) can.0 ∙ ap (λ o. free_slot o slot) known.1 in
      let less : slot < top = ltb-true slot top (ap (λ o. is_code_below top (loop_code o from bound block)) (sym slot_is) ∙ below) in
      let body_none : statement_mistakes body y.scope (declared ++ (name, d) ∷ []) ≡ [] = subst (λ q. statement_mistakes body y.scope q ≡ []) declared_is (none_right (twice name declared) _ none) in
      let has_two = subst (λ q. HasBlocks blocks n (inner body w q n ++ (code body w q n ∷ []) ∷ [])) slots_is has in
      let below_two = subst (λ q. BlocksAreBelow top (inner body w q n ++ (code body w q n ∷ []) ∷ [])) slots_is all_below in
      subst (λ o. Ends slots declared a (resolved.run (loop_code o from bound block) x a) (run (For name from bound body) y b)) (sym slot_is)
      (turns_end slots declared (resolved.turn x slot block) (λ k t. within t (run body y (with_new name Long (pos k) t)))
      (λ k c t i. turn_ends name body n slots declared l d k c t refl refl less kept body_none can.1 has_two below_two i) (turn_count from bound) from a b h)

  -- ---- all statements

  mutual
    pub run_ends : (s : Statement) → IsKept s
    run_ends Empty n slots declared a b none can has below all_below h = (h, λ slot low. refl)
    run_ends (Block all) n slots declared a b none can has below all_below h =
        let last = has_behind blocks (all_inner all w slots n) (all_codes all w slots n ∷ []) n has in
        let here : block_at blocks (n + all_count all) ≡ all_codes all w slots n = ap (λ k. block_at blocks (n + k)) (sym (all_inner_count all w slots n)) ∙ last.0 in
        let own = below_behind top (all_inner all w slots n) (all_codes all w slots n ∷ []) all_below in
        let ends = all_end all n slots declared a b none can (has_front blocks (all_inner all w slots n) (all_codes all w slots n ∷ []) n has) own.0 (below_front top (all_inner all w slots n) (all_codes all w slots n ∷ []) all_below) h in
        subst (λ q. Ends slots declared a q (within b (run_all all y b))) (sym (runs (n + all_count all) a ∙ ap (λ cs. resolved.run_all cs x a) here))
        (within_ends slots (after_all all w slots) declared (names.after_all all declared) a a b (resolved.run_all (all_codes all w slots n) x a) (run_all all y b) (after_all_more all w slots) (declared_all_more all declared) h ends)
    run_ends (Declare line written name e) n slots declared a b none can has below all_below h = declares line written name e n slots declared a b none below h
    run_ends (Assign line p change) n slots declared a b none can has below all_below h = assigns line p change n slots declared a b none h
    run_ends (If branches) n slots declared a b none can has below all_below h = branch_ends branches n slots declared a b none can has all_below h
    run_ends (For name from bound body) n slots declared a b none can has below all_below h = loop_ends name from bound body n slots declared a b (run_ends body) none can has below all_below h
    run_ends (Call line name) n slots declared a b none can has below all_below h = calls_end line name slots declared a b (meaning_of name w.methods) refl can h

    pub branch_ends : (branches : Branches) (n : ℕ) (slots : Names InSlot) (declared : Names Declared) (a : Resolved) (b : State) → branch_mistakes branches y.scope declared ≡ [] → CanBranch w branches → HasBlocks blocks n (branch_inner branches w slots n) → BlocksAreBelow top (branch_inner branches w slots n) → Alike slots declared a b → Ends slots declared a (resolved.run_branch (branch_codes branches w slots n) x a) (run_branch branches y b)
    branch_ends NoElse n slots declared a b none can has below h = (h, λ slot low. refl)
    branch_ends (Else body) n slots declared a b none can has below h = body_ends body n slots declared a b (run_ends body) none can has below h
    branch_ends (Test line test body rest) n slots declared a b none can has below h =
        let first : List (List Code) = inner body w slots n ++ (code body w slots n ∷ []) ∷ [] in
        let many : length first ≡ count body + 1 = length_push (inner body w slots n) (code body w slots n ∷ []) ∙ ap (λ k. k + 1) (inner_count body w slots n) in
        let right = none_right (expression_mistakes test y.scope declared) _ none in
        let chosen = body_ends body n slots declared a b (run_ends body) (none_left (statement_mistakes body y.scope declared) _ right) can.0 (has_front blocks first (branch_inner rest w slots (n + (count body + 1))) n has) (below_front top first (branch_inner rest w slots (n + (count body + 1))) below) h in
        let rest_has = subst (λ k. HasBlocks blocks (n + k) (branch_inner rest w slots (n + (count body + 1)))) many (has_behind blocks first (branch_inner rest w slots (n + (count body + 1))) n has) in
        let others = branch_ends rest (n + (count body + 1)) slots declared a b (none_right (statement_mistakes body y.scope declared) _ right) can.1 rest_has (below_behind top first (branch_inner rest w slots (n + (count body + 1))) below) h in
        line_ends slots declared a line (values.value (term test w slots) (sight x a)) (value test y b) (λ n'. if is_true n' then x.blocks (n + count body) a else resolved.run_branch (branch_codes rest w slots (n + (count body + 1))) x a) (λ n'. if is_true n' then within b (run body y b) else run_branch rest y b)
        (value_is slots declared a b h test (none_left (expression_mistakes test y.scope declared) _ none))
        (λ n'. if_ends slots declared a (is_true n') (x.blocks (n + count body) a) (resolved.run_branch (branch_codes rest w slots (n + (count body + 1))) x a) (within b (run body y b)) (run_branch rest y b) chosen others)

    pub all_end : (all : Statements) (n : ℕ) (slots : Names InSlot) (declared : Names Declared) (a : Resolved) (b : State) → all_mistakes all y.scope declared ≡ [] → CanRunAll w all → HasBlocks blocks n (all_inner all w slots n) → AreBelow top (all_codes all w slots n) → BlocksAreBelow top (all_inner all w slots n) → Alike slots declared a b → Ends (after_all all w slots) (names.after_all all declared) a (resolved.run_all (all_codes all w slots n) x a) (run_all all y b)
    all_end NoStatement n slots declared a b none can has below all_below h = (h, λ slot low. refl)
    all_end (Then s rest) n slots declared a b none can has below all_below h =
        let next_slots = after s w slots in
        let next_declared = names.after s declared in
        let behind = all_inner rest w next_slots (n + count s) in
        let rest_has = subst (λ k. HasBlocks blocks (n + k) behind) (inner_count s w slots n) (has_behind blocks (inner s w slots n) behind n has) in
        then_ends next_slots (after_all rest w next_slots) next_declared (names.after_all rest next_declared) a (resolved.run (code s w slots n) x a) (run s y b) (λ t. resolved.run_all (all_codes rest w next_slots (n + count s)) x t) (λ t. run_all rest y t)
        (run_ends s n slots declared a b (none_left (statement_mistakes s y.scope declared) _ none) can.0 (has_front blocks (inner s w slots n) behind n has) below.0 (below_front top (inner s w slots n) behind all_below) h)
        (λ c d i. all_end rest (n + count s) next_slots next_declared c d (none_right (statement_mistakes s y.scope declared) _ none) can.1 rest_has below.1 (below_behind top (inner s w slots n) behind all_below) i)
