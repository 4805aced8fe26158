-- What the blocks of methods and jobs do is what their text says.
use Rattle.std.proofs.Common.{◌≡◌, ℕ, zero, suc, ◌<◌, ◌≤◌, ℤ, pos, Bool, true, is_some, List, [], ◌∷◌, length, slice_get, unwrap_or, Option, Some, None, Result, Ok, Err, refl, ap, sym, ◌∙◌, subst, arith}
use Rattle.std.proofs.lemmas.Bool.{and_parts, eqb-true}
use Rattle.std.proofs.lemmas.List.{append-nil, length-replicate}
use Rattle.std.specs.List.{list_all, slice_index_or}
use Rattle.trick_base.specs.Capped.{capped}
use Rattle.trick_check_blocks.specs.Held.{bodies_of}
use Rattle.trick_check_blocks.specs.Kept.{codes_in}
use Rattle.trick_check_blocks.specs.Methods.{Progress, progress, with_parts}
use Rattle.trick_check_cells.specs.Cells.{all_groups, group_cells, memory_cells}
use Rattle.trick_check_cells.specs.Counts.{counts, names_count}
use Rattle.trick_check_cells.specs.Unfolding.{Unfolds, are_declared_first}
use Rattle.trick_check.proofs.Calls.{callees_there, calls_many}
use Rattle.trick_check.proofs.Joining.{count_is}
use Rattle.trick_check.proofs.Walked.{first_layout}
use Rattle.trick_check.specs.Named.{IsNamed}
use Rattle.trick_check.specs.Parts.{calls_at, order_at, parts_at}
use Rattle.trick_check.specs.Walk.{all_made, file_layout, made_of_first, objects_of}
use Rattle.trick_lang.specs.Effect.{base_of, begun, body_of, effect, first_of, object_of, ran, scalars_of}
use Rattle.trick_lang.specs.Laws.{BlocksHold, WrapsRight}
use Rattle.trick_lang.specs.Names.{method_name, object_name}
use Rattle.trick_lang.specs.Numbers.{and_then}
use Rattle.trick_lang.specs.Run.{Setting as InCells, State as Resolved, block_runs}
use Rattle.trick_lang.specs.SyntaxTree as tree
use Rattle.trick_lang.specs.SyntaxTree.{HasMethod, Name, Part, SDefine}
use Rattle.trick_lang.specs.Tree.{Code}
use Rattle.trick_lang.specs.TreeOf.{code_list, codes_of}
use Rattle.trick_lang.specs.Valid.{block_of, job_stands, method_of, of_one_class}
use Rattle.trick_lang.specs.declared.fault.StatementFault.{StatementFault}
use Rattle.trick_lang.specs.declared.job.Job.{Job}
use Rattle.trick_lang.specs.declared.job.JobId.{JobId}
use Rattle.trick_lang.specs.declared.method.Method.{Method}
use Rattle.trick_lang.specs.declared.object.Object.{Object}
use Rattle.trick_lang.specs.declared.program.Program.{Program}
use Rattle.trick_lang.specs.declared.tree.Block.{Block}
use Rattle.trick_lang.specs.declared.variable.Variable.{Variable}
use Rattle.trick_check_names.specs.declared.layout.Layout.{Layout}
use Rattle.trick_check_names.specs.declared.layout.Site.TheVariants as site
use Rattle.trick_check_meaning.specs.Meaning.{Stored}
use Rattle.trick_check_meaning.specs.Methods.{class_does, class_of, does, method_does, world_of}
use Rattle.trick_check_meaning_kept.proofs.Tabled.{file_once}
use Rattle.trick_check_meaning_kept.specs.Alike.{AreSameTables}
use Rattle.trick_check_meaning_kept.specs.Kept.{TablesKeep}
use Rattle.trick_check_meaning_of_jobs.proofs.Along.{EndAsMeant, IsAlong, IsThere, StoreAlike, parts_along}
use Rattle.trick_check_meaning_of_jobs.proofs.Cells.{nothing_stored, number_is, stored_is}
use Rattle.trick_check_meaning_of_jobs.proofs.Classes.{IsMade, IsWithin, is_made, it_within, with_it}
use Rattle.trick_check_meaning_of_jobs.proofs.Lists.{order_short}
use Rattle.trick_check_meaning_of_jobs.proofs.Objects.{class_used, object_told}
use Rattle.trick_check_meaning_of_jobs.proofs.Parts.{calls_are, class_numbered, is_method, parts_are}
use Rattle.trick_check_meaning_of_jobs.specs.Jobs.{IsReadable, MethodsKeep, by_cell, meant, meant_by, number_named}
use Rattle.trick_check_names.specs.FileMistakes.{mistakes}
use Rattle.trick_check_names.specs.Mistakes.{Mistake, Twice, Unknown, NotScalar, fault_of, first_twice, first_unknown, twice_fault}
use Rattle.trick_check_names.specs.Names.{Names, meaning_of}
use Rattle.trick_check_names.specs.Places.{members_at}
use Rattle.trick_check_names.specs.Tables.{tables_of}
use Rattle.trick_check_names.specs.declared.tables.Base.TheVariants.{Group}
use Rattle.trick_check_names.specs.declared.tables.Global.TheVariants as the
use Rattle.trick_check_names.specs.declared.tables.Member.{Member}
use Rattle.trick_check_names.specs.declared.tables.Tables.{Tables}
use Rattle.trick_check_names.specs.declared.scope.FileScope as by_name
use Rattle.trick_check_order.specs.Calls.{AreCallees, IsOrderOf, ReachesItself, order_of}
use Rattle.trick_check_bodies.specs.Named.{AreNamed, LeadToTheirNames, ObjectsHoldNames, TablesTell}

-- ---- lists

codes_are : (bs : List Block) → codes_of bs ≡ codes_in (bodies_of bs)
codes_are [] = refl
codes_are (b ∷ bs) = ap (λ q. code_list b.statements ∷ q) (codes_are bs)

passes_at : {A : Type 0} (test : A → Bool) (xs : List A) (i : ℕ) (x : A) → list_all test xs ≡ true
    → slice_get xs i ≡ Some x → test x ≡ true
passes_at test [] i x all there = absurd (cc there)
passes_at test (z ∷ xs) zero x all there =
    let is : z ≡ x = cc there in subst (λ q. test q ≡ true) is (and_parts (test z) (list_all test xs) all).0
passes_at test (z ∷ xs) (suc i) x all there = passes_at test xs i x (and_parts (test z) (list_all test xs) all).1 there

get_below : {A : Type 0} (xs : List A) (i : ℕ) (x : A) → slice_get xs i ≡ Some x → i < length xs
get_below [] i x there = absurd (cc there)
get_below (z ∷ xs) zero x there = omega arith
get_below (z ∷ xs) (suc i) x there = let rest = get_below xs i x there in omega (arith, rest)

-- ---- right names are those without a mistake

unknown_tells : (x : Option Name) (line : ℕ) (o : Option ℕ) → twice_fault x (Some line) o ≡ None → ⊥
unknown_tells None line o e = cc
unknown_tells (Some name) line o e = cc

other_tells : (x : Option Name) (y : Option ℕ) (line : ℕ) → twice_fault x y (Some line) ≡ None → ⊥
other_tells None None line e = cc
other_tells None (Some k) line e = cc
other_tells (Some name) y line e = cc

no_mistakes : (ms : List Mistake) → fault_of ms ≡ None → ms ≡ []
no_mistakes [] e = refl
no_mistakes (Twice name ∷ ms) e = absurd cc
no_mistakes (Unknown line ∷ ms) e = absurd (unknown_tells (first_twice ms) line _ e)
no_mistakes (NotScalar line ∷ ms) e = absurd (other_tells (first_twice ms) (first_unknown ms) line e)

-- ---- the laws that all rests on

pub record Laws : Type 0 where
  pub wraps : WrapsRight
  pub places : LeadToTheirNames
  pub objects : ObjectsHoldNames
  pub tell : TablesTell
  pub keep : TablesKeep
  pub declared : (ds : SDefine) → are_declared_first 0 (tables_of ds).groups ≡ true
  pub unfolded : (groups : List (Names Member)) → are_declared_first 0 groups ≡ true
      → Unfolds groups (group_cells groups [])
  pub count : (tables : Tables)
      → capped (names_count (counts (all_groups tables)) tables.names) ≡ capped (length (memory_cells tables))
  pub blocks : BlocksHold
  pub order : (g : List (List ℕ)) → AreCallees g → ((k : ℕ) → ReachesItself g k → ⊥) → IsOrderOf g (order_of g)

-- both end with the same stored, or at the same fault
ends_as : (parts : List Part) (scope : by_name.FileScope) (object : Name) (memory : Name → ℤ) (done : List (List Variable))
    (cells : List Variable) (size : ℕ) (blocks : List (List Code)) (x : InCells) (slots : ℕ) (a : Resolved)
    (q : Result Resolved StatementFault) (r : Result Stored StatementFault)
    → EndAsMeant parts scope object memory done cells size blocks x slots a q r
    → and_then q (λ s. Ok s.stored) ≡ and_then r (λ stored. Ok (by_cell cells stored))
ends_as parts scope object memory done cells size blocks x slots a (Ok c) (Ok stored) h =
    ap Ok (stored_is cells c.stored stored h.0.many h.0.same)
ends_as parts scope object memory done cells size blocks x slots a (Ok c) (Err d) h = absurd h
ends_as parts scope object memory done cells size blocks x slots a (Err c) (Ok stored) h = absurd h
ends_as parts scope object memory done cells size blocks x slots a (Err c) (Err d) h = ap Err h

module _ (laws : Laws) (ds : SDefine) (p : Program) (named : IsNamed ds p) (readable : IsReadable ds) where
  -- ---- what the tables of the file tell

  none : mistakes ds ≡ []
  none = no_mistakes (mistakes ds) named.right.0.0.0.0

  abbrev done : List (List Variable)
  done = all_groups (tables_of ds)

  unfolds : Unfolds (tables_of ds).groups done
  unfolds = laws.unfolded (tables_of ds).groups (laws.declared ds)

  small : names_count (counts done) (tables_of ds).names ≤ 65536
  small = let all = count_is ds laws.count named.right.0 in let low = named.right.0.0.1 in omega (arith, all, low)

  are_named : AreNamed (file_layout ds) done p.cells
  are_named = subst (AreNamed (file_layout ds) done) (sym named.cells) (laws.tell (tables_of ds) done unfolds small)

  are_same : AreSameTables (tables_of ds) (file_layout ds) done
  are_same = laws.keep ds done none unfolds small readable.elements

  -- ---- the methods of one class in one object

  module _ (object : Object) (i : ℕ) (there : slice_get p.objects i ≡ Some object)
      (class_low : object.class < length ds) (numbers : List ℤ) where
    abbrev class : ℕ
    class = object.class

    abbrev parts : List Part
    parts = parts_at ds class

    abbrev scope : by_name.FileScope
    scope = world_of ds class

    abbrev memory : Name → ℤ
    memory = number_named p.cells numbers

    abbrev place : InCells
    place = record {
      scalars = scalars_of p.cells;
      base = object.first;
      memory = λ c. slice_index_or numbers c (pos 0);
      blocks = block_runs (scalars_of p.cells) object.first (λ c. slice_index_or numbers c (pos 0)) (codes_of p.blocks);
    }

    abbrev blocks : List (List Code)
    blocks = codes_of p.blocks

    object_there : slice_get (objects_of ds) i ≡ Some object
    object_there = subst (λ q. slice_get q i ≡ Some object) named.objects there

    told : (meaning_of object.name (tables_of ds).names ≡ Some (the.Object (Group class)))
        × (meaning_of object.name (file_layout ds).sites ≡ Some (site.Object object.first class))
    told =
        object_told (counts done) (tables_of ds).names i object
        (file_once ds (record { names = []; groups = [] }) tt tt).0 object_there

    -- before the first method of the class
    abbrev begins : Progress
    begins =
        progress (record (made_of_first ds (objects_of ds) class).progress.scope { class = class; methods = [] })
        (made_of_first ds (objects_of ds) class).progress.bodies

    layout_is : begins.scope.layout ≡ file_layout ds
    layout_is = first_layout ds (objects_of ds) class

    is_there : IsThere parts scope object.name memory done p.cells p.slots blocks place begins.scope
    is_there = record {
      named = subst (λ l. AreNamed l done p.cells) (sym layout_is) are_named;
      same = subst (λ l. AreSameTables (tables_of ds) l done) (sym layout_is) are_same;
      class = refl;
      object_is = subst (λ (l : Layout). meaning_of object.name l.sites ≡ Some (site.Object object.first class))
          (sym layout_is) told.1;
      known = told.0;
    }

    abbrev calls : List (List ℕ)
    calls = calls_at ds class

    abbrev order : List ℕ
    order = order_at ds class

    is_order : IsOrderOf calls order
    is_order = laws.order calls (callees_there ds class) (λ part loop. named.right.0.0.0.1 class class_low part loop)

    many : length calls ≡ length parts
    many = calls_many parts (members_at (tables_of ds).groups class)

    within : IsWithin ds (objects_of ds) blocks p.slots (with_it ds (objects_of ds) class)
    within =
        it_within ds (objects_of ds) blocks p.slots (length ds) class class_low
        (class_used (objects_of ds) i object object_there)
        (record {
          begin = (
            [],
            codes_are p.blocks ∙ ap codes_in named.blocks ∙ sym
                (append-nil (codes_in (all_made ds).progress.bodies)),
          );
          room = (let slots = named.slots in omega (arith, slots));
        })

    along : IsAlong parts scope object.name memory done p.cells p.slots blocks place order
        (with_parts order parts begins)
    along =
        parts_along parts scope object.name memory done p.cells p.slots blocks place
        (λ block s. laws.blocks.runs (scalars_of p.cells) object.first
        (λ c. slice_index_or numbers c (pos 0)) blocks block s p.in_order)
        p.cell_names refl (λ cell full is. number_is p.cells numbers cell full p.cell_names is)
        laws.places laws.objects laws.wraps calls
        (λ k m is. let r = is_method ds class k m none readable.loops is in
        record { none = r.none; found = r.found; short = r.short })
        (λ k m is. calls_are parts (members_at (tables_of ds).groups class) k m is)
        (class_numbered ds class)
        order [] begins is_order.0 within.begin within.room
        (record {
          there = is_there;
          are_seen = λ k m seen is. absurd (cc seen);
          are_meant = λ deep low name block a stored known h. absurd (cc known);
        })

    begun_alike : StoreAlike parts scope object.name memory done p.cells p.slots blocks place (begun p) []
    begun_alike = record {
      many = length-replicate (length p.cells) (let nothing : Option ℤ = None in nothing);
      same = λ cell full is. nothing_stored (length p.cells) cell;
      room = (let slots = length-replicate p.slots (let nothing : Option ℤ = None in nothing) in omega (arith, slots));
    }

    does_is : (name : Name)
        → does ds object.name name memory ≡ method_does (length parts) parts scope object.name memory name []
    does_is name =
        ap (λ o. class_does ds (class_of o) object.name name memory) told.0
        ∙ ap (λ q. method_does (length q) q scope object.name memory name []) (parts_are ds class)

    -- a method of the class
    of_part : (k : ℕ) (m : tree.Method) → slice_get parts k ≡ Some (HasMethod m) → (o : Option ℕ)
        → meaning_of m.name (with_parts order parts begins).scope.methods ≡ o
        → and_then (place.blocks (unwrap_or o 0) (begun p))
        (λ s. Ok s.stored) ≡ meant ds p.cells object.name m.name numbers
    of_part k m is None unknown =
        let low = get_below parts k (HasMethod m) is in
        let seen = along.are_seen k m (is_order.1 k (omega (arith, many, low))) is in
        absurd (cc (sym seen ∙ ap (λ (o : Option ℕ). is_some o) unknown))
    of_part k m is (Some block) known =
        let short = order_short calls (length parts) order is_order.0
        (λ j h. let low = is_order.2 j h in omega (arith, low, many)) in
        ends_as parts scope object.name memory done p.cells p.slots blocks place
        (with_parts order parts begins).scope.slots (begun p) (place.blocks block (begun p))
        (method_does (length parts) parts scope object.name memory m.name [])
        (along.are_meant (length parts) short m.name block (begun p) [] known begun_alike)
        ∙ ap (λ r. and_then r (λ stored. Ok (by_cell p.cells stored))) (sym (does_is m.name))

    pub method_keeps : (method : Method) → IsMade ds (objects_of ds) method (length ds) → method.class ≡ class
        → and_then (ran p object.first method.block numbers (begun p))
        (λ s. Ok s.stored) ≡ meant ds p.cells object.name method.name numbers
    method_keeps method made same =
        let of_it = subst (λ k. Rattle.trick_check_meaning_of_jobs.proofs.Classes.IsOfPart k
        (with_it ds (objects_of ds) k).scope.methods (parts_at ds k) method) same made.of_it in
        let m = of_it.1 in
        let known = meaning_of m.name (with_parts order parts begins).scope.methods in
        let block : method.block ≡ unwrap_or known 0 = ap (λ (q : Method). q.block) of_it.3 in
        let name : method.name ≡ m.name = ap (λ (q : Method). q.name) of_it.3 in
        ap (λ b. and_then (place.blocks b (begun p)) (λ s. Ok s.stored)) block
        ∙ (of_part of_it.0 m of_it.2 known refl ∙ ap (λ q. meant ds p.cells object.name q numbers) (sym name))

-- ---- all methods

pub methods_keep : Laws → MethodsKeep
methods_keep laws ds p named readable i k object method object_there method_there same numbers =
    let made = is_made ds (objects_of ds) (length ds) k method
    (subst (λ q. slice_get q k ≡ Some method) named.methods method_there) in
    let low : object.class < length ds = (let less = made.low in omega (arith, less, same)) in
    method_keeps laws ds p named readable object i object_there low numbers method made same

-- ---- jobs

-- the object and the method of a job are there
abbrev AreThere : Option Object → Option Method → Type 0
AreThere o m =
    (object : Object) × (method : Method) × (o ≡ Some object) × (m ≡ Some method) × (method.class ≡ object.class)

are_there : (o : Option Object) (m : Option Method) → of_one_class o m ≡ true → AreThere o m
are_there None m h = absurd (cc h)
are_there (Some object) None h = absurd (cc h)
are_there (Some object) (Some method) h = (object, method, refl, refl, sym (eqb-true object.class method.class h))

pub effects_meant : MethodsKeep → (ds : SDefine) (p : Program) → IsNamed ds p → IsReadable ds → (id : JobId) (job : Job)
    → slice_get p.jobs id.0 ≡ Some job → (numbers : List ℤ) → effect p id numbers ≡ meant_by ds p job numbers
effects_meant keep ds p named readable id job there numbers =
    let at = are_there (slice_get p.objects job.object) (slice_get p.methods job.method)
    (passes_at (job_stands p.objects p.methods) p.jobs id.0 job p.job_parts there) in
    let base : base_of p id ≡ at.0.first = ap (λ o. first_of (object_of p.objects o)) there ∙ ap first_of at.2 in
    let block : body_of p id ≡ at.1.block = ap (λ o. block_of (length p.blocks) (method_of p.methods o)) there ∙ ap
    (block_of (length p.blocks)) at.3 in
    ap (λ b. and_then (ran p b (body_of p id) numbers (begun p)) (λ s. Ok s.stored)) base
    ∙ (ap (λ b. and_then (ran p at.0.first b numbers (begun p)) (λ s. Ok s.stored)) block
    ∙ (keep ds p named readable job.object job.method at.0 at.1 at.2 at.3 at.4 numbers
    ∙ (ap (λ o. meant ds p.cells (object_name o) at.1.name numbers) (sym at.2)
    ∙ ap (λ o. meant ds p.cells (object_name (slice_get p.objects job.object)) (method_name o) numbers) (sym at.3))))
