-- What is kept of blocks when more are made.
use Rattle.std.proofs.Common.{◌≡◌, ℕ, zero, suc, ◌+◌, ◌≤◌, ◌<◌, ◌++◌, ◌&&◌, nat_lt, nat_le, IsTrue, List, [], ◌∷◌, length, Option, Some, None, Bool, true, false, refl, ap, sym, ◌∙◌, subst, arith}
use Rattle.std.proofs.Math.ListN.{length-append}
use Rattle.std.proofs.lemmas.Bool.{and_from, le-leb}
use Rattle.std.proofs.lemmas.Bool.Decides.{nat_tests}
use Rattle.std.proofs.lemmas.List.{append-nil, append_assoc}
use Rattle.trick_base.proofs.Truths.{first_holds, second_holds}
use Rattle.trick_check_blocks.proofs.Grow.{bodies_grown}
use Rattle.trick_check_blocks.proofs.Passing.{each_passes}
use Rattle.trick_check_blocks.proofs.Running.{below, each_runs}
use Rattle.trick_check_blocks.specs.Bodies.{Body, all_depth, branch_depth, code_depth, depth_at, with_bodies, with_body}
use Rattle.trick_check_blocks.specs.Held.{bodies_of}
use Rattle.trick_check_blocks.specs.Kept.{Deepen, bodies_lie, bodies_run_own, class_in}
use Rattle.trick_lang.specs.Passes.{all_blocks, all_pass, branch_blocks, code_blocks}
use Rattle.trick_lang.specs.Tree.{Code, Empty, Declare, SetLocal, Assign, If, For, Run, Branches, NoElse, Else, Test}
use Rattle.trick_lang.specs.TreeOf.{code_list, codes_of}
use Rattle.trick_lang.specs.Valid.{all_fit, are_deep, are_in_order, cells_test, class_at, code_fits, deep_at, has_class, is_of, lie_in, run_own_class, span_test, stay_in_span}
use Rattle.trick_lang.specs.declared.tree.Block.{Block}
use Rattle.trick_check_names.specs.Laid.{size_at}

-- ---- spans and cells

pub spans_are : (bs : List (List Code)) → stay_in_span bs ≡ each_passes span_test bs
spans_are [] = refl
spans_are (b ∷ bs) = ap (λ q. all_pass span_test b && q) (spans_are bs)

case : (b c d : Bool) → (IsTrue c → IsTrue d) → IsTrue (b && c) → IsTrue (b && d)
case true c d f h = f h
case false c d f h = h

lie_one : (cells : ℕ) (sizes : List ℕ) (bodies : List Body) (b : Body) → IsTrue (bodies_lie cells sizes bodies) → IsTrue (all_pass (cells_test cells (size_at sizes b.class)) b.codes) → IsTrue (bodies_lie cells sizes (bodies ++ b ∷ []))
lie_one cells sizes [] b h k = and_from (all_pass (cells_test cells (size_at sizes b.class)) b.codes) true k refl
lie_one cells sizes (x ∷ bodies) b h k = case (all_pass (cells_test cells (size_at sizes x.class)) x.codes) (bodies_lie cells sizes bodies) (bodies_lie cells sizes (bodies ++ b ∷ [])) (λ t. lie_one cells sizes bodies b t k) h

pub lie_with : (cells : ℕ) (sizes : List ℕ) (class : ℕ) (bs : List (List Code)) (bodies : List Body) → IsTrue (bodies_lie cells sizes bodies) → IsTrue (each_passes (cells_test cells (size_at sizes class)) bs) → IsTrue (bodies_lie cells sizes (with_bodies class bs bodies))
lie_with cells sizes class [] bodies h k = h
lie_with cells sizes class (b ∷ bs) bodies h k =
    lie_with cells sizes class bs (with_body class b bodies) (lie_one cells sizes bodies _ h (first_holds _ _ k)) (second_holds (all_pass (cells_test cells (size_at sizes class)) b) _ k)

pub lie_blocks : (cells : ℕ) (sizes : List ℕ) (bs : List Block) → lie_in cells sizes bs ≡ bodies_lie cells sizes (bodies_of bs)
lie_blocks cells sizes [] = refl
lie_blocks cells sizes (b ∷ bs) = ap (λ q. all_pass (cells_test cells (size_at sizes b.class)) (code_list b.statements) && q) (lie_blocks cells sizes bs)

-- ---- classes

pub class_front : (xs ys : List Body) (k : ℕ) (class : ℕ) → class_in xs k ≡ Some class → class_in (xs ++ ys) k ≡ Some class
class_front [] ys k class h = cc
class_front (x ∷ xs) ys zero class h = h
class_front (x ∷ xs) ys (suc k) class h = class_front xs ys k class h

class_last : (xs : List Body) (b : Body) → class_in (xs ++ b ∷ []) (length xs) ≡ Some b.class
class_last [] b = refl
class_last (x ∷ xs) b = class_last xs b

-- what is made stands after what there was
pub with_behind : (class : ℕ) (bs : List (List Code)) (bodies : List Body) → (more : List Body) × (with_bodies class bs bodies ≡ bodies ++ more)
with_behind class [] bodies = ([], sym (append-nil bodies))
with_behind class (b ∷ bs) bodies =
    let made : Body = record { class = class; codes = b; deep = all_depth b bodies + 1 } in
    let rest = with_behind class bs (with_body class b bodies) in
    (made ∷ rest.0, rest.1 ∙ append_assoc bodies (made ∷ []) rest.0)

pub class_stays : (class : ℕ) (bs : List (List Code)) (bodies : List Body) (k other : ℕ) → class_in bodies k ≡ Some other → class_in (with_bodies class bs bodies) k ≡ Some other
class_stays class bs bodies k other h =
    let more = with_behind class bs bodies in
    subst (λ q. class_in q k ≡ Some other) (sym more.1) (class_front bodies more.0 k other h)

pub class_made : (class : ℕ) (bs : List (List Code)) (bodies : List Body) (k : ℕ) → length bodies ≤ k → k < length bodies + length bs → class_in (with_bodies class bs bodies) k ≡ Some class
class_made class [] bodies k low high = absurd (omega (arith, low, high))
class_made class (b ∷ bs) bodies k low high = by_case (nat_lt (length bodies) k) refl (class_made class bs (with_body class b bodies) k) where
  made : Body
  made = record { class = class; codes = b; deep = all_depth b bodies + 1 }

  one : length (with_body class b bodies) ≡ length bodies + 1
  one = omega (arith, length-append bodies (made ∷ []))

  by_case : (t : Bool) → nat_lt (length bodies) k ≡ t → (length (with_body class b bodies) ≤ k → k < length (with_body class b bodies) + length bs → class_in (with_bodies class bs (with_body class b bodies)) k ≡ Some class) → class_in (with_bodies class (b ∷ bs) bodies) k ≡ Some class
  by_case true e later =
      let less : length bodies < k = grind (arith, nat_tests, e) in
      later (omega (arith, one, less)) (omega (arith, one, high))
  by_case false e later =
      let here : k ≡ length bodies = grind (arith, nat_tests, e, low) in
      class_stays class bs (with_body class b bodies) k class (subst (λ q. class_in (with_body class b bodies) q ≡ Some class) (sym here) (class_last bodies made))

-- a test that passes more blocks passes where the other does
branch_mono : (p q : ℕ → Bool) → ((k : ℕ) → IsTrue (p k) → IsTrue (q k)) → (b : Branches) → IsTrue (branch_blocks p b) → IsTrue (branch_blocks q b)
branch_mono p q f NoElse h = refl
branch_mono p q f (Else k) h = f k h
branch_mono p q f (Test line test k rest) h = and_from _ _ (f k (first_holds _ _ h)) (branch_mono p q f rest (second_holds (p k) _ h))

code_mono : (p q : ℕ → Bool) → ((k : ℕ) → IsTrue (p k) → IsTrue (q k)) → (c : Code) → IsTrue (code_blocks p c) → IsTrue (code_blocks q c)
code_mono p q f Empty h = refl
code_mono p q f (Declare line slot scalar e) h = refl
code_mono p q f (SetLocal line slot scalar change) h = refl
code_mono p q f (Assign line place change) h = refl
code_mono p q f (If branches) h = branch_mono p q f branches h
code_mono p q f (For slot from bound k) h = f k h
code_mono p q f (Run k) h = f k h

all_mono : (p q : ℕ → Bool) → ((k : ℕ) → IsTrue (p k) → IsTrue (q k)) → (all : List Code) → IsTrue (all_blocks p all) → IsTrue (all_blocks q all)
all_mono p q f [] h = refl
all_mono p q f (c ∷ cs) h = and_from _ _ (code_mono p q f c (first_holds _ _ h)) (all_mono p q f cs (second_holds (code_blocks p c) _ h))

is_of_more : (class : ℕ) (o o' : Option ℕ) → ((other : ℕ) → o ≡ Some other → o' ≡ Some other) → IsTrue (is_of class o) → IsTrue (is_of class o')
is_of_more class None o' f h = absurd (cc h)
is_of_more class (Some other) o' f h = subst (λ q. IsTrue (is_of class q)) (sym (f other refl)) h

own_more : (all more : List Body) → ((k other : ℕ) → class_in all k ≡ Some other → class_in more k ≡ Some other) → (bodies : List Body) → IsTrue (bodies_run_own all bodies) → IsTrue (bodies_run_own more bodies)
own_more all more f [] h = refl
own_more all more f (b ∷ bs) h =
    and_from _ _ (all_mono (λ k. is_of b.class (class_in all k)) (λ k. is_of b.class (class_in more k)) (λ k t. is_of_more b.class (class_in all k) (class_in more k) (f k) t) b.codes (first_holds _ _ h))
    (own_more all more f bs (second_holds (all_blocks (λ k. is_of b.class (class_in all k)) b.codes) _ h))

own_one : (all bodies : List Body) (b : Body) → IsTrue (bodies_run_own all bodies) → IsTrue (all_blocks (λ k. is_of b.class (class_in all k)) b.codes) → IsTrue (bodies_run_own all (bodies ++ b ∷ []))
own_one all [] b h k = and_from (all_blocks (λ k. is_of b.class (class_in all k)) b.codes) true k refl
own_one all (x ∷ bodies) b h k = case (all_blocks (λ k. is_of x.class (class_in all k)) x.codes) (bodies_run_own all bodies) (bodies_run_own all (bodies ++ b ∷ [])) (λ t. own_one all bodies b t k) h

own_with : (all : List Body) (class : ℕ) (bs : List (List Code)) (bodies : List Body) → IsTrue (bodies_run_own all bodies) → IsTrue (each_runs (λ k. is_of class (class_in all k)) bs) → IsTrue (bodies_run_own all (with_bodies class bs bodies))
own_with all class [] bodies h k = h
own_with all class (b ∷ bs) bodies h k =
    own_with all class bs (with_body class b bodies) (own_one all bodies _ h (first_holds _ _ k)) (second_holds (all_blocks (λ k. is_of class (class_in all k)) b) _ k)

-- blocks of a class that run only blocks of the class
pub own_made : (class : ℕ) (bs : List (List Code)) (bodies : List Body) → IsTrue (bodies_run_own bodies bodies) → IsTrue (each_runs (λ k. is_of class (class_in (with_bodies class bs bodies) k)) bs) → IsTrue (bodies_run_own (with_bodies class bs bodies) (with_bodies class bs bodies))
own_made class bs bodies h k =
    let all = with_bodies class bs bodies in
    own_with all class bs bodies (own_more bodies all (λ j other is. class_stays class bs bodies j other is) bodies h) k

pub class_blocks : (bs : List Block) (k : ℕ) → class_at bs k ≡ class_in (bodies_of bs) k
class_blocks [] k = refl
class_blocks (b ∷ bs) zero = refl
class_blocks (b ∷ bs) (suc k) = class_blocks bs k

pub own_blocks : (all bs : List Block) → IsTrue (bodies_run_own (bodies_of all) (bodies_of bs)) → IsTrue (run_own_class all bs)
own_blocks all [] h = refl
own_blocks all (b ∷ bs) h =
    and_from _ _ (all_mono (λ k. is_of b.class (class_in (bodies_of all) k)) (has_class all b.class) (λ k t. subst (λ q. IsTrue (is_of b.class q)) (sym (class_blocks all k)) t) (code_list b.statements) (first_holds _ _ h))
    (own_blocks all bs (second_holds (all_blocks (λ k. is_of b.class (class_in (bodies_of all) k)) (code_list b.statements)) _ h))

-- ---- frames

deepen_more : (before xs : List Body) (class : ℕ) (codes : List Code) (d : ℕ) → d ≡ all_depth codes (before ++ xs) + 1 → Deepen before xs → Deepen before (xs ++ record { class = class; codes = codes; deep = d } ∷ [])
deepen_more before [] class codes d e h = (e ∙ ap (λ q. all_depth codes q + 1) (append-nil before), tt)
deepen_more before (b ∷ bs) class codes d e h =
    (h.0, deepen_more (before ++ b ∷ []) bs class codes d (e ∙ ap (λ q. all_depth codes q + 1) (sym (append_assoc before (b ∷ []) bs))) h.1)

pub deepen_with : (class : ℕ) (bs : List (List Code)) (bodies : List Body) → Deepen [] bodies → Deepen [] (with_bodies class bs bodies)
deepen_with class [] bodies h = h
deepen_with class (b ∷ bs) bodies h = deepen_with class bs (with_body class b bodies) (deepen_more [] bodies class b (all_depth b bodies + 1) refl h)

deep_front : (before more : List Block) (k : ℕ) → k < length before → deep_at (before ++ more) k ≡ depth_at (bodies_of before) k
deep_front [] more k h = absurd (omega (arith, h))
deep_front (b ∷ bs) more zero h = refl
deep_front (b ∷ bs) more (suc k) h = deep_front bs more k (omega (arith, h))

below_less : (m k : ℕ) → IsTrue (below m k) → k < m
below_less m k h = grind (arith, nat_tests)

lt_test : (m n : ℕ) → m < n → IsTrue (nat_lt m n)
lt_test m n h = grind (arith, nat_tests)

module _ (before more : List Block) where
  abbrev room : ℕ → ℕ → Bool
  room most block = nat_le (1 + deep_at (before ++ more) block) most

  branch_room : (b : Branches) (most : ℕ) → IsTrue (branch_blocks (below (length before)) b) → branch_depth b (bodies_of before) + 1 ≤ most → IsTrue (branch_blocks (room most) b)
  branch_room NoElse most h k = refl
  branch_room (Else block) most h k =
      let deep = deep_front before more block (below_less (length before) block h) in
      le-leb (1 + deep_at (before ++ more) block) most (omega (arith, deep, k))
  branch_room (Test line test block rest) most h k =
      let deep = deep_front before more block (below_less (length before) block (first_holds _ _ h)) in
      and_from _ _ (le-leb (1 + deep_at (before ++ more) block) most (omega (arith, deep, k)))
      (branch_room rest most (second_holds (below (length before) block) _ h) (omega (arith, k)))

  code_room : (c : Code) (most : ℕ) → IsTrue (code_blocks (below (length before)) c) → code_depth c (bodies_of before) + 1 ≤ most → IsTrue (code_fits (before ++ more) 1 most c)
  code_room Empty most h k = refl
  code_room (Declare line slot scalar e) most h k = refl
  code_room (SetLocal line slot scalar change) most h k = refl
  code_room (Assign line place change) most h k = refl
  code_room (If branches) most h k = branch_room branches most h k
  code_room (For slot from bound block) most h k =
      let deep = deep_front before more block (below_less (length before) block h) in
      lt_test (1 + deep_at (before ++ more) block) most (omega (arith, deep, k))
  code_room (Run block) most h k =
      let deep = deep_front before more block (below_less (length before) block h) in
      le-leb (1 + deep_at (before ++ more) block) most (omega (arith, deep, k))

  all_room : (all : List Code) (most : ℕ) → IsTrue (all_blocks (below (length before)) all) → all_depth all (bodies_of before) + 1 ≤ most → IsTrue (all_fit (before ++ more) 1 most all)
  all_room [] most h k = refl
  all_room (c ∷ cs) most h k = and_from _ _ (code_room c most (first_holds _ _ h) (omega (arith, k))) (all_room cs most (second_holds (code_blocks (below (length before)) c) _ h) (omega (arith, k)))

deep_rest : (before rest : List Block) → Deepen (bodies_of before) (bodies_of rest) → IsTrue (are_in_order (length before) (codes_of rest)) → IsTrue (are_deep (before ++ rest) rest)
deep_rest before [] h o = refl
deep_rest before (b ∷ bs) h o =
    let same : (before ++ b ∷ []) ++ bs ≡ before ++ (b ∷ bs) = append_assoc before (b ∷ []) bs in
    let longer : length (before ++ b ∷ []) ≡ suc (length before) = omega (arith, length-append before (b ∷ [])) in
    let next : Deepen (bodies_of (before ++ b ∷ [])) (bodies_of bs) = subst (λ q. Deepen q (bodies_of bs)) (sym (bodies_grown before b)) h.1 in
    let ordered : IsTrue (are_in_order (length (before ++ b ∷ [])) (codes_of bs)) = subst (λ q. IsTrue (are_in_order q (codes_of bs))) (sym longer) (second_holds (all_blocks (below (length before)) (code_list b.statements)) _ o) in
    and_from _ _
    (and_from (nat_lt 0 b.deep) (all_fit (before ++ (b ∷ bs)) 1 b.deep (code_list b.statements)) (lt_test 0 b.deep (omega (arith, h.0)))
    (all_room before (b ∷ bs) (code_list b.statements) b.deep (first_holds _ _ o) (omega (arith, h.0))))
    (subst (λ q. IsTrue (are_deep q bs)) same (deep_rest (before ++ b ∷ []) bs next ordered))

pub deep_blocks : (blocks : List Block) → Deepen [] (bodies_of blocks) → IsTrue (are_in_order 0 (codes_of blocks)) → IsTrue (are_deep blocks blocks)
deep_blocks blocks h o = deep_rest [] blocks h o
