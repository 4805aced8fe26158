-- Files by name: inserting twice, and reading.
use Rattle.std.proofs.Common.{◌≡◌, ◌≢◌, ℕ, List, [], ◌++◌, unwrap_or, refl, sym, ◌∙◌, ap, Bool, true, false, cond, Some}
use Rattle.std.specs.declared.cmp.Ordering.{Ordering}
use Rattle.std.specs.declared.cmp.Ordering.TheVariants.{Less, Equal, Greater}
use Rattle.std.specs.Ordering.{nat_cmp, is_eq, ordering_reverse}
use Rattle.std.specs.Cmp.Lexicographic.{slice_cmp, nat_list_cmp_total}
use Rattle.std.specs.FinMap.{get, insert, same_map, get-insert, slice_cmp-IsAntisymmetric, nat_cmp-IsAntisymmetric}
use Rattle.trick_base.specs.Content.{same_name}
use Rattle.trick_base.specs.Files.{Files, bytes_at}

-- only names that are one compare as equal
equal_of : (r : Ordering) → is_eq r ≡ true → r ≡ Equal
equal_of Less e = cc
equal_of Equal e = refl
equal_of Greater e = cc

is_eq_of : (r : Ordering) → r ≡ ordering_reverse r → is_eq r ≡ true
is_eq_of Less e = cc
is_eq_of Equal e = refl
is_eq_of Greater e = cc

not_true : (b : Bool) → (b ≡ true → ⊥) → b ≡ false
not_true true h = absurd (h refl)
not_true false h = refl

-- names that pass the test are one
pub names_equal : (a b : List ℕ) → same_name a b ≡ true → a ≡ b
names_equal a b e = slice_cmp-IsAntisymmetric nat_cmp-IsAntisymmetric a b (equal_of _ e)

-- a name passes the test with itself
pub name_itself : (a : List ℕ) → same_name a a ≡ true
name_itself a = is_eq_of (slice_cmp nat_cmp a a) (nat_list_cmp_total.antisymm a a)

-- names that differ do not pass the test
pub names_differ : (a b : List ℕ) → a ≢ b → same_name a b ≡ false
names_differ a b ne = not_true _ (λ e. ne (names_equal a b e))

-- files that answer alike are the same
pub same_files : (m n : Files) → ((q : List ℕ) → get m q ≡ get n q) → m ≡ n
same_files m n e = same_map nat_list_cmp_total (slice_cmp-IsAntisymmetric nat_cmp-IsAntisymmetric) m n e

cond_at : {A : Type 0} (b c : Bool) (x y : A) → b ≡ c → cond b x y ≡ cond c x y
cond_at b c x y e = ap (λ t. cond t x y) e

pub get-insert_same : (m : Files) (k v : List ℕ) → get (insert m k v) k ≡ Some v
get-insert_same m k v = get-insert nat_list_cmp_total m k v k ∙ cond_at _ true (Some v) (get m k) (name_itself k)

pub get-insert_other : (m : Files) (k v q : List ℕ) → q ≢ k → get (insert m k v) q ≡ get m q
get-insert_other m k v q ne = get-insert nat_list_cmp_total m k v q ∙ cond_at _ false (Some v) (get m q) (names_differ q k ne)

cond_twice : {A : Type 0} (b : Bool) (x y z : A) → cond b x (cond b y z) ≡ cond b x z
cond_twice true x y z = refl
cond_twice false x y z = refl

cond_swap : {A : Type 0} (b c : Bool) (x y z : A) → (b ≡ true → c ≡ true → ⊥) → cond b x (cond c y z) ≡ cond c y (cond b x z)
cond_swap true true x y z h = absurd (h refl refl)
cond_swap true false x y z h = refl
cond_swap false c x y z h = refl

-- the later of two writes under one name counts
pub insert-insert : (m : Files) (k v w : List ℕ) → insert (insert m k v) k w ≡ insert m k w
insert-insert m k v w = same_files _ _ (λ q.
    get-insert nat_list_cmp_total (insert m k v) k w q
    ∙ ap (cond (same_name q k) (Some w)) (get-insert nat_list_cmp_total m k v q)
    ∙ cond_twice (same_name q k) (Some w) (Some v) (get m q)
    ∙ sym (get-insert nat_list_cmp_total m k w q))

-- writes under two names commute
pub insert-commutes : (m : Files) (k v l w : List ℕ) → k ≢ l → insert (insert m k v) l w ≡ insert (insert m l w) k v
insert-commutes m k v l w ne = same_files _ _ (λ q.
    get-insert nat_list_cmp_total (insert m k v) l w q
    ∙ ap (cond (same_name q l) (Some w)) (get-insert nat_list_cmp_total m k v q)
    ∙ cond_swap (same_name q l) (same_name q k) (Some w) (Some v) (get m q) (λ b c. ne (sym (names_equal q k c) ∙ names_equal q l b))
    ∙ sym (get-insert nat_list_cmp_total (insert m l w) k v q
    ∙ ap (cond (same_name q k) (Some v)) (get-insert nat_list_cmp_total m l w q)))

held_cond : (m : Files) (k v q : List ℕ) (b : Bool) → (b ≡ true → q ≡ k) → get m k ≡ Some v → cond b (Some v) (get m q) ≡ get m q
held_cond m k v q true is e = sym (ap (get m) (is refl) ∙ e)
held_cond m k v q false is e = refl

-- to write what is held changes nothing
pub insert-held : (m : Files) (k v : List ℕ) → get m k ≡ Some v → insert m k v ≡ m
insert-held m k v e = same_files _ _ (λ q. get-insert nat_list_cmp_total m k v q ∙ held_cond m k v q (same_name q k) (names_equal q k) e)

-- a file that is made and then written has the bytes that were written
pub file_replaced : (old mid new : Files) (name other bytes : List ℕ) → mid ≡ insert old name [] → new ≡ insert mid name (bytes_at mid name ++ bytes) → name ≡ other
    → new ≡ insert old other bytes
file_replaced old mid new name other bytes made added same =
    let none : bytes_at (insert old name []) name ≡ [] = ap (λ o. unwrap_or o []) (get-insert_same old name []) in
    added
    ∙ ap (λ m. insert m name (bytes_at m name ++ bytes)) made
    ∙ ap (λ b. insert (insert old name []) name (b ++ bytes)) none
    ∙ insert-insert old name [] bytes
    ∙ ap (λ n. insert old n bytes) same
