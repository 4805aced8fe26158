-- Methods, each after those that it calls: the block of each does what its text says.
use Rattle.std.proofs.Common.{◌≡◌, ◌⊎◌, ℕ, zero, suc, ◌+◌, ◌≤◌, ℤ, true, is_some, List, [], ◌∷◌, ◌++◌, length, slice_get, Option, Some, None, Result, Ok, Err, inl, inr, refl, ap, sym, ◌∙◌, subst, arith}
use Rattle.std.proofs.lemmas.List.{append-nil, append_assoc, length-append}
use Rattle.std.specs.List.{slice_index_or}
use Rattle.trick_check_blocks.specs.Codes as codes
use Rattle.trick_check_blocks.specs.Codes.{all_codes, all_count, all_inner}
use Rattle.trick_check_blocks.specs.Kept.{codes_in}
use Rattle.trick_check_blocks.specs.Methods.{Progress, block_slots, body_blocks, with_method, with_part, with_parts}
use Rattle.trick_check_blocks.specs.declared.start.Local.{Local as InSlot}
use Rattle.trick_check_blocks.specs.declared.scope.ClassScope.{ClassScope}
use Rattle.trick_lang.specs.Blocks.{block_at}
use Rattle.trick_lang.specs.Effect.{scalars_of}
use Rattle.trick_lang.specs.Laws.{WrapsRight}
use Rattle.trick_lang.specs.Names.{are_apart, of_one_name}
use Rattle.trick_lang.specs.Numbers.{and_then}
use Rattle.trick_lang.specs.Run as resolved
use Rattle.trick_lang.specs.Run.{Setting as InCells, State as Resolved}
use Rattle.trick_lang.specs.SyntaxTree as tree
use Rattle.trick_lang.specs.SyntaxTree.{HasMethod, Name, Part}
use Rattle.trick_lang.specs.Tree.{Code}
use Rattle.trick_lang.specs.declared.fault.StatementFault.{StatementFault}
use Rattle.trick_lang.specs.declared.variable.Variable.{Variable}
use Rattle.trick_check_names.specs.declared.layout.Site.TheVariants as site
use Rattle.trick_check_meaning.specs.Meaning as meaning
use Rattle.trick_check_meaning.specs.Meaning.{Setting, State, Stored}
use Rattle.trick_check_meaning.specs.Methods.{body_does, body_in, method_does}
use Rattle.trick_check_meaning_kept.proofs.Statements.{all_end, all_inner_count, below_behind, below_front, has_behind, has_front}
use Rattle.trick_check_meaning_kept.specs.Alike.{AreInOnePlace, AreSameTables, BlocksAreBelow, CallAlike, CanRunAll, EndAlike, HasBlocks, KeepsFrom, RunBlocks}
use Rattle.trick_check_meaning_of_jobs.proofs.Bodies.{all_run}
use Rattle.trick_check_meaning_of_jobs.proofs.Known.{new_case, new_known, grows_with}
use Rattle.trick_check_meaning_of_jobs.proofs.Lists.{has_push, stand_first}
use Rattle.trick_check_meaning_of_jobs.proofs.Made.{Begin, begin_parts, blocks_below, codes_many, codes_with, has_made, parts_slots, slots_grow}
use Rattle.trick_check_meaning_of_jobs.proofs.Parts.{AreNumbered}
use Rattle.trick_lang.specs.Loops.{are_short_loops}
use Rattle.trick_check_names.specs.BodyMistakes as names
use Rattle.trick_check_names.specs.BodyMistakes.{all_mistakes}
use Rattle.trick_check_names.specs.Calls.{all_calls}
use Rattle.trick_check_names.specs.Names.{Names, meaning_of, with_name}
use Rattle.trick_check_names.specs.Places.{members_at}
use Rattle.trick_check_names.specs.declared.tables.Base.TheVariants.{Group}
use Rattle.trick_check_names.specs.declared.tables.Global.TheVariants as the
use Rattle.trick_check_names.specs.declared.tables.Local.{Local as Declared}
use Rattle.trick_check_names.specs.declared.tables.Member.TheVariants.{Method}
use Rattle.trick_check_names.specs.declared.scope.FileScope as by_name
use Rattle.trick_check_order.specs.Calls.{all_in, callees, has, stand_after}
use Rattle.trick_check_bodies.specs.Named.{AreNamed, IsNamed, LeadToTheirNames, ObjectsHoldNames}

-- In one object of a class: the parts of the class, what the file declares, the name of the object, the memory by
-- names, the cells of each struct and class and of all objects, how many slots there are, all blocks, and where they
-- run.
module _ (parts : List Part) (scope : by_name.FileScope) (object : Name) (memory : Name → ℤ) (done : List (List Variable))
    (cells : List Variable) (size : ℕ) (blocks : List (List Code)) (x : InCells) where
  -- ---- what was stored

  -- the same was stored by cells and by names, and there are so many slots
  pub record StoreAlike (a : Resolved) (stored : Stored) : Type 0 where
    pub many : length a.stored ≡ length cells
    pub same : (cell : ℕ) (full : Name) → IsNamed cells cell full
        → slice_index_or a.stored cell None ≡ meaning_of full stored
    pub room : size ≤ length a.locals

  -- a method ends with the same stored, or at the same fault, and keeps the numbers of slots from that one on
  abbrev pub EndAsMeant : ℕ → Resolved → Result Resolved StatementFault → Result Stored StatementFault → Type 0
  EndAsMeant slots before (Ok a) (Ok stored) = StoreAlike a stored × KeepsFrom slots before a
  EndAsMeant slots before (Ok a) (Err d) = ⊥
  EndAsMeant slots before (Err c) (Ok stored) = ⊥
  EndAsMeant slots before (Err c) (Err d) = c ≡ d

  ends_from_more : (slots more : ℕ) (before : Resolved) (q : Result Resolved StatementFault) (r : Result Stored StatementFault)
      → slots ≤ more → EndAsMeant slots before q r → EndAsMeant more before q r
  ends_from_more slots more before (Ok a) (Ok stored) low h = (h.0, λ slot far. h.1 slot (omega (arith, low, far)))
  ends_from_more slots more before (Ok a) (Err d) low h = h
  ends_from_more slots more before (Err c) (Ok stored) low h = h
  ends_from_more slots more before (Err c) (Err d) low h = h

  -- what a method's text says, where calls are nested less deep than so much
  abbrev pub says : ℕ → Name → Stored → Result Stored StatementFault
  says deep = method_does deep parts scope object memory

  -- the methods that are made do so
  abbrev pub AreMeant : ClassScope → ℕ → Type 0
  AreMeant w deep =
      (name : Name) (block : ℕ) (a : Resolved) (stored : Stored) → meaning_of name w.methods ≡ Some block
      → StoreAlike a stored → EndAsMeant w.slots a (x.blocks block a) (says deep name stored)

  -- the tables tell of this object
  pub record IsThere (w : ClassScope) : Type 0 where
    pub named : AreNamed w.layout done cells
    pub same : AreSameTables scope.tables w.layout done
    pub class : scope.own ≡ w.class
    pub object_is : meaning_of object w.layout.sites ≡ Some (site.Object x.base w.class)
    pub known : meaning_of object scope.tables.names ≡ Some (the.Object (Group w.class))

  -- what is known of each method of the class: its body has no mistake and short loops, and its name stands for it
  pub record IsRight (m : tree.Method) : Type 0 where
    pub none : all_mistakes m.body scope [] ≡ []
    pub found : body_in m.name parts ≡ m.body
    pub short : are_short_loops m.body ≡ true

  -- the methods of these parts are made
  abbrev AreSeen : List ℕ → ClassScope → Type 0
  AreSeen seen w =
      (k : ℕ) (m : tree.Method) → has seen k ≡ true → slice_get parts k ≡ Some (HasMethod m) → is_some
      (meaning_of m.name w.methods) ≡ true

  pub record IsAlong (seen : List ℕ) (p : Progress) : Type 0 where
    pub there : IsThere p.scope
    pub are_seen : AreSeen seen p.scope
    pub are_meant : (deep : ℕ) → length seen ≤ deep → AreMeant p.scope deep

  module _ (runs : RunBlocks blocks x) (apart : are_apart of_one_name cells ≡ true)
      (scalars : x.scalars ≡ scalars_of cells)
      (numbers : (cell : ℕ) (full : Name) → IsNamed cells cell full → x.memory cell ≡ memory full)
      (places : LeadToTheirNames) (objects : ObjectsHoldNames) (wraps : WrapsRight) where
    -- ---- one body

    call_alike : (w : ClassScope) (top : ℕ) → w.slots ≤ top
        → (a : Resolved) (q : Result Resolved StatementFault) (r : Result Stored StatementFault) → EndAsMeant w.slots a q r
        → CallAlike w size top cells a q r
    call_alike w top low a (Ok c) (Ok stored) h =
        (record { cells = h.0.many; stored = h.0.same; room = h.0.room; fits = omega (arith, low); rows = tt }, h.1)
    call_alike w top low a (Ok c) (Err d) h = h
    call_alike w top low a (Err c) (Ok stored) h = h
    call_alike w top low a (Err c) (Err d) h = h

    abbrev setting : ℕ → Setting
    setting deep = record { scope = scope; object = object; memory = memory; calls = says deep }

    in_one_place : (w : ClassScope) (top deep : ℕ) → IsThere w → w.slots ≤ top → top ≤ size → AreMeant w deep
        → AreInOnePlace w done cells size top x (setting deep)
    in_one_place w top deep there low room meant = record {
      room = room;
      named = there.named;
      same = there.same;
      apart = apart;
      class = there.class;
      object = there.object_is;
      known = there.known;
      scalars = scalars;
      numbers = numbers;
      calls = λ name block a stored is h.
          call_alike w top low a (x.blocks block a) (says deep name stored)
          (meant name block a stored is (record { many = h.cells; same = h.stored; room = h.room }));
    }

    ends_are : (w : ClassScope) (top : ℕ) (slots : Names InSlot) (declared : Names Declared) (a : Resolved)
        (q : Result Resolved StatementFault) (r : Result State StatementFault)
        → EndAlike w size top slots declared cells a q r → EndAsMeant top a q (and_then r (λ s. Ok s.stored))
    ends_are w top slots declared a (Ok c) (Ok d) h =
        (record { many = h.0.cells; same = h.0.stored; room = h.0.room }, h.1)
    ends_are w top slots declared a (Ok c) (Err d) h = h
    ends_are w top slots declared a (Err c) (Ok d) h = h
    ends_are w top slots declared a (Err c) (Err d) h = h

    body_ends : (body : tree.Statements) (w : ClassScope) (n top deep : ℕ) → IsThere w → w.slots ≤ top → top ≤ size
        → AreMeant w deep → all_mistakes body scope [] ≡ [] → CanRunAll w body
        → HasBlocks blocks n (body_blocks body w n) → BlocksAreBelow top (body_blocks body w n)
        → (a : Resolved) (stored : Stored) → StoreAlike a stored
        → EndAsMeant top a (x.blocks (n + all_count body) a) (body_does body scope object memory (says deep) stored)
    body_ends body w n top deep there low room meant none can has below a stored h =
        let begun : State = record { stored = stored; locals = [] } in
        let last = has_behind blocks (all_inner body w [] n) (all_codes body w [] n ∷ []) n has in
        let here : block_at blocks (n + all_count body) ≡ all_codes body w [] n = ap (λ k. block_at blocks (n + k))
        (sym (all_inner_count body w [] n)) ∙ last.0 in
        let own = below_behind top (all_inner body w [] n) (all_codes body w [] n ∷ []) below in
        let ends = all_end w done cells size top x (setting deep) blocks
        (in_one_place w top deep there low room meant) runs places objects wraps body n [] [] a begun none can
        (has_front blocks (all_inner body w [] n) (all_codes body w [] n ∷ []) n has) own.0
        (below_front top (all_inner body w [] n) (all_codes body w [] n ∷ []) below)
        (record { cells = h.many; stored = h.same; room = h.room; fits = omega (arith, low); rows = tt }) in
        subst (λ q. EndAsMeant top a q (body_does body scope object memory (says deep) stored))
        (sym (runs (n + all_count body) a ∙ ap (λ cs. resolved.run_all cs x a) here))
        (ends_are w top (codes.after_all body w []) (names.after_all body []) a
        (resolved.run_all (all_codes body w [] n) x a) (meaning.run_all body (setting deep) begun) ends)

    -- ---- one method after another

    one_more : (seen : List ℕ) (i : ℕ) → length (seen ++ i ∷ []) ≡ length seen + 1
    one_more seen i = length-append seen (i ∷ [])

    -- a method that is made does what its text says
    method_meant : (m : tree.Method) (p : Progress) (top d : ℕ)
        → top ≡ block_slots (body_blocks m.body p.scope (length p.bodies)) p.scope.slots → top ≤ size → IsRight m
        → IsThere p.scope → AreMeant p.scope d → AreMeant p.scope (suc d) → CanRunAll p.scope m.body
        → Begin blocks (codes_in (with_method m p).bodies) → (name : Name) (block : ℕ) (a : Resolved) (stored : Stored)
        → (meaning_of name p.scope.methods ≡ Some block)
        ⊎ ((name ≡ m.name) × (length p.bodies + all_count m.body ≡ block))
        → StoreAlike a stored → EndAsMeant top a (x.blocks block a) (says (suc d) name stored)
    method_meant m p top d top_is room right there meant meant_more can begin name block a stored (inl old) h =
        ends_from_more p.scope.slots top a (x.blocks block a) (says (suc d) name stored)
        (subst (λ k. p.scope.slots ≤ k) (sym top_is)
        (slots_grow (body_blocks m.body p.scope (length p.bodies)) p.scope.slots))
        (meant_more name block a stored old h)
    method_meant m p top d top_is room right there meant meant_more can begin name block a stored (inr new) h =
        let n = length p.bodies in
        let made = body_blocks m.body p.scope n in
        let low : p.scope.slots ≤ top = subst (λ k. p.scope.slots ≤ k) (sym top_is) (slots_grow made p.scope.slots) in
        let has = has_made blocks (codes_in p.bodies) made n (codes_many p.bodies)
        (subst (Begin blocks) (codes_with p.scope.class made p.bodies) begin) in
        let below = blocks_below made p.scope.slots top (omega (arith, top_is)) in
        let ends = body_ends m.body p.scope n top d there low room meant right.none can has below a stored h in
        let body_is : says (suc d) name stored ≡ body_does m.body scope object memory (says d) stored = ap
        (λ q. body_does (body_in q parts) scope object memory (says d) stored) new.0 ∙ ap
        (λ b. body_does b scope object memory (says d) stored) right.found in
        subst (λ k. EndAsMeant top a (x.blocks k a) (says (suc d) name stored)) new.1
        (subst (λ r. EndAsMeant top a (x.blocks (n + all_count m.body) a) r) (sym body_is) ends)

    module _ (calls : List (List ℕ))
        (right : (k : ℕ) (m : tree.Method) → slice_get parts k ≡ Some (HasMethod m) → IsRight m)
        (called : (k : ℕ) (m : tree.Method) → slice_get parts k ≡ Some (HasMethod m)
        → callees calls k ≡ all_calls m.body (members_at scope.tables.groups scope.own))
        (numbered : AreNumbered parts (members_at scope.tables.groups scope.own)) where
      -- what a method of the class calls is made before it
      can_run : (seen : List ℕ) (p : Progress) (i : ℕ) (m : tree.Method) → slice_get parts i ≡ Some (HasMethod m)
          → all_in (callees calls i) seen ≡ true → AreSeen seen p.scope → CanRunAll p.scope m.body
      can_run seen p i m is before are_seen =
          let r = right i m is in
          all_run scope p.scope seen made m.body [] r.none
          (subst (λ q. all_in q seen ≡ true) (called i m is) before) r.short where
            made : (name : Name) (k : ℕ) → meaning_of name (members_at scope.tables.groups scope.own) ≡ Some (Method k)
                → has seen k ≡ true → is_some (meaning_of name p.scope.methods) ≡ true
            made name k known in_seen =
                let at = numbered name k known in
                subst (λ q. is_some (meaning_of q p.scope.methods) ≡ true) at.2 (are_seen k at.0 in_seen at.1)

      -- another part makes none
      passed : (seen : List ℕ) (i : ℕ) (p : Progress) → ((m : tree.Method) → slice_get parts i ≡ Some (HasMethod m) → ⊥)
          → IsAlong seen p → IsAlong (seen ++ i ∷ []) p
      passed seen i p other along = record {
        there = along.there;
        are_seen = λ k m in_seen is. by k m is (has_push seen i k in_seen);
        are_meant = λ deep low. along.are_meant deep (omega (arith, low, one_more seen i));
      } where
        by : (k : ℕ) (m : tree.Method) → slice_get parts k ≡ Some (HasMethod m) → (has seen k ≡ true) ⊎ (i ≡ k)
            → is_some (meaning_of m.name p.scope.methods) ≡ true
        by k m is (inl old) = along.are_seen k m old is
        by k m is (inr new) = absurd (other m (ap (slice_get parts) new ∙ is))

      method_along : (seen : List ℕ) (i : ℕ) (p : Progress) (m : tree.Method) → slice_get parts i ≡ Some (HasMethod m)
          → all_in (callees calls i) seen ≡ true → Begin blocks (codes_in (with_method m p).bodies)
          → (with_method m p).scope.slots ≤ size → IsAlong seen p → IsAlong (seen ++ i ∷ []) (with_method m p)
      method_along seen i p m is before begin room along = record {
        there = record {
          named = along.there.named;
          same = along.there.same;
          class = along.there.class;
          object_is = along.there.object_is;
          known = along.there.known;
        };
        are_seen = λ k other in_seen there. by_seen k other there (has_push seen i k in_seen);
        are_meant = deeper;
      } where
        new_number : ℕ
        new_number = length p.bodies + all_count m.body

        by_seen : (k : ℕ) (other : tree.Method) → slice_get parts k ≡ Some (HasMethod other)
            → (has seen k ≡ true) ⊎ (i ≡ k)
            → is_some (meaning_of other.name
            (with_name m.name (length p.bodies + all_count m.body) p.scope.methods)) ≡ true
        by_seen k other there (inl old) =
            stays (meaning_of other.name p.scope.methods) refl (along.are_seen k other old there) where
              stays : (o : Option ℕ) → meaning_of other.name p.scope.methods ≡ o
                  → is_some (meaning_of other.name p.scope.methods) ≡ true
                  → is_some (meaning_of other.name
                  (with_name m.name (length p.bodies + all_count m.body) p.scope.methods)) ≡ true
              stays None e h = absurd (cc (sym h ∙ ap (λ (o : Option ℕ). is_some o) e))
              stays (Some block) e h =
                  ap (λ (o : Option ℕ). is_some o)
                  (grows_with m.name (length p.bodies + all_count m.body) p.scope.methods other.name block e)
        by_seen k other there (inr new) =
            let same : m ≡ other = cc (sym is ∙ (ap (slice_get parts) new ∙ there)) in
            subst (λ (q : tree.Method). is_some
            (meaning_of q.name (with_name m.name (length p.bodies + all_count m.body) p.scope.methods)) ≡ true) same
            (new_known m.name (length p.bodies + all_count m.body) p.scope.methods)

        deeper : (deep : ℕ) → length (seen ++ i ∷ []) ≤ deep → AreMeant (with_method m p).scope deep
        deeper zero low = absurd (omega (arith, low, one_more seen i))
        deeper (suc d) low = λ name block a stored known h.
            method_meant m p (with_method m p).scope.slots d refl room (right i m is) along.there
            (along.are_meant d (omega (arith, low, one_more seen i)))
            (along.are_meant (suc d) (omega (arith, low, one_more seen i)))
            (can_run seen p i m is before along.are_seen) begin name block a stored
            (new_case name m.name (length p.bodies + all_count m.body) block p.scope.methods known) h

      part_along : (seen : List ℕ) (i : ℕ) (p : Progress) (o : Option Part) → slice_get parts i ≡ o
          → all_in (callees calls i) seen ≡ true → Begin blocks (codes_in (with_part o p).bodies)
          → (with_part o p).scope.slots ≤ size → IsAlong seen p → IsAlong (seen ++ i ∷ []) (with_part o p)
      part_along seen i p None is before begin room along =
          passed seen i p (λ m here. absurd (cc (sym is ∙ here))) along
      part_along seen i p (Some tree.Public) is before begin room along =
          passed seen i p (λ m here. absurd (cc (sym is ∙ here))) along
      part_along seen i p (Some (tree.HasMembers ms)) is before begin room along =
          passed seen i p (λ m here. absurd (cc (sym is ∙ here))) along
      part_along seen i p (Some (HasMethod m)) is before begin room along =
          method_along seen i p m is before begin room along
      part_along seen i p (Some (tree.Constructor line name jobs)) is before begin room along =
          passed seen i p (λ m here. absurd (cc (sym is ∙ here))) along

      -- so do all methods of the class
      pub parts_along : (order seen : List ℕ) (p : Progress) → stand_after calls seen order ≡ true
          → Begin blocks (codes_in (with_parts order parts p).bodies) → (with_parts order parts p).scope.slots ≤ size
          → IsAlong seen p → IsAlong (seen ++ order) (with_parts order parts p)
      parts_along [] seen p stands begin room along = subst (λ q. IsAlong q p) (sym (append-nil seen)) along
      parts_along (i ∷ is) seen p stands begin room along =
          let first = stand_first calls seen i is stands in
          let next = with_part (slice_get parts i) p in
          let grown = parts_slots is parts next in
          let here = part_along seen i p (slice_get parts i) refl first.1 (begin_parts blocks is parts next begin)
          (omega (arith, room, grown)) along in
          subst (λ q. IsAlong q (with_parts is parts next)) (append_assoc seen (i ∷ []) is)
          (parts_along is (seen ++ i ∷ []) next first.2 begin room here)
