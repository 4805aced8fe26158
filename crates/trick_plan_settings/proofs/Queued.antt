-- The jobs of a class, put in order.
use Rattle.std.proofs.Common.{rules, ◌≡◌, ◌∙◌, ℕ, suc, ◌+◌, ◌≤◌, ◌<◌, Bool, true, false, nat_lt, List, [], ◌∷◌, length, map, filter, cond, All, refl, sym, ap, subst, arith}
use Rattle.std.proofs.lemmas.Bool.{eqb-true, ltb-true}
use Rattle.std.proofs.lemmas.List.Sorted.{All-permutation}
use Rattle.std.specs.List.Sorted.{IsNonDecreasingBy, IsPermutation}
use Rattle.trick_lang.specs.Names.{are_apart, of_one_number}
use Rattle.trick_lang.specs.declared.class.Class.{Class}
use Rattle.trick_lang.specs.declared.job.Job.{Job}
use Rattle.trick_model.specs.Order.{in_key_order, is_of_class, jobs_in, precedes, put_in, rank}
use Rattle.trick_model.specs.Plan.{job_at, no_job, numbers_from}
use Rattle.trick_plan_settings.proofs.Jobs.{below_is, one_place, same_parts}
use Rattle.trick_plan_settings.proofs.Order.{Each, Least, Rising, all_each, each_all, hit, hits, rising, same_hits, same_items, same_keys}
use Rattle.trick_plan_settings.specs.Keys.{HasSmallKey, entry_of, jobs_of, key_number, key_of, numbers_of}
use Rattle.trick_plan_settings.specs.declared.queue.Entry.{Entry}

down : (a b : ℕ) → nat_lt a b ≡ false → b ≤ a
down a b e = search rules

least_below : (m n : ℕ) (xs : List Entry) → m ≤ n → Least key_of n xs → Least key_of m xs
least_below m n [] p h = tt
least_below m n (x ∷ xs) p h = (omega (arith, p, h.0), least_below m n xs p h.1)

-- the entries of jobs have their numbers
pub same_jobs : (jobs : List Job) (xs : List ℕ) → jobs_of (map (entry_of jobs) xs) ≡ xs
same_jobs jobs [] = refl
same_jobs jobs (x ∷ xs) = ap (λ (ns : List ℕ). x ∷ ns) (same_jobs jobs xs)

-- one job more in front of the first one with a larger key, by the comparison
abbrev put_by : List Job → ℕ → ℕ → List ℕ → Bool → List ℕ
put_by jobs k j js b = elim b [ true ↦ k ∷ j ∷ js | false ↦ j ∷ put_in jobs k js ]

-- how often a key stands in a list with one job more
hits_put : (jobs : List Job) (n k : ℕ) (xs : List ℕ) → hits key_of n (map (entry_of jobs) (put_in jobs k xs)) ≡ hit n (key_of (entry_of jobs k)) + hits key_of n (map (entry_of jobs) xs)
hits_put jobs n k [] = refl
hits_put jobs n k (j ∷ js) = by (precedes jobs k j) (hits_put jobs n k js)
  where
    by : (b : Bool) → hits key_of n (map (entry_of jobs) (put_in jobs k js)) ≡ hit n (key_of (entry_of jobs k)) + hits key_of n (map (entry_of jobs) js)
        → hits key_of n (map (entry_of jobs) (put_by jobs k j js b)) ≡ hit n (key_of (entry_of jobs k)) + (hit n (key_of (entry_of jobs j)) + hits key_of n (map (entry_of jobs) js))
    by true rest = refl
    by false rest = omega (arith, rest)

hits_sorted : (jobs : List Job) (n : ℕ) (ks : List ℕ) → hits key_of n (map (entry_of jobs) (in_key_order jobs ks)) ≡ hits key_of n (map (entry_of jobs) ks)
hits_sorted jobs n [] = refl
hits_sorted jobs n (k ∷ ks) = hits_put jobs n k (in_key_order jobs ks) ∙ ap (λ (m : ℕ). hit n (key_of (entry_of jobs k)) + m) (hits_sorted jobs n ks)

module _ (jobs : List Job) (class : Class) (small : All HasSmallKey jobs) where
  -- a job of the class
  abbrev Member : ℕ → Type 0
  Member k = (k < length jobs) × (is_of_class jobs class k ≡ true)

  -- ---- members

  kept : (n : ℕ) (rest : List ℕ) (b : Bool) → is_of_class jobs class n ≡ b → n < length jobs → Each Member rest → Each Member (cond b (n ∷ rest) rest)
  kept n rest true e there h = ((there, e), h)
  kept n rest false e there h = h

  members_from : (n : ℕ) (rest : List Job) → n + length rest ≡ length jobs → Each Member (filter (is_of_class jobs class) (numbers_from n rest))
  members_from n [] e = tt
  members_from n (x ∷ xs) e =
      kept n (filter (is_of_class jobs class) (numbers_from (suc n) xs)) (is_of_class jobs class n) refl (omega (arith, e)) (members_from (suc n) xs (omega (arith, e)))

  members_put : (k : ℕ) (xs : List ℕ) → Member k → Each Member xs → Each Member (put_in jobs k xs)
  members_put k [] m h = (m, tt)
  members_put k (j ∷ js) m h = by (precedes jobs k j) (members_put k js m h.1)
    where
      by : (b : Bool) → Each Member (put_in jobs k js) → Each Member (put_by jobs k j js b)
      by true rest = (m, h)
      by false rest = (h.0, rest)

  members_sorted : (ks : List ℕ) → Each Member ks → Each Member (in_key_order jobs ks)
  members_sorted [] h = tt
  members_sorted (k ∷ ks) h = members_put k (in_key_order jobs ks) h.0 (members_sorted ks h.1)

  -- ---- rising keys

  precedes_is : (a b : ℕ) → Member a → Member b → precedes jobs a b ≡ nat_lt (key_of (entry_of jobs a)) (key_of (entry_of jobs b))
  precedes_is a b m n =
      let p : rank (job_at jobs a).class ≡ rank class = eqb-true (rank (job_at jobs a).class) (rank class) m.1 in
      let q : rank (job_at jobs b).class ≡ rank class = eqb-true (rank (job_at jobs b).class) (rank class) n.1 in
      below_is (job_at jobs a) (job_at jobs b) (p ∙ sym q) (small a no_job m.0) (small b no_job n.0)

  least_put : (m k : ℕ) (xs : List ℕ) → m ≤ key_of (entry_of jobs k) → Least key_of m (map (entry_of jobs) xs) → Least key_of m (map (entry_of jobs) (put_in jobs k xs))
  least_put m k [] p h = (p, tt)
  least_put m k (j ∷ js) p h = by (precedes jobs k j) (least_put m k js p h.1)
    where
      by : (b : Bool) → Least key_of m (map (entry_of jobs) (put_in jobs k js)) → Least key_of m (map (entry_of jobs) (put_by jobs k j js b))
      by true rest = (p, h)
      by false rest = (h.0, rest)

  rising_put : (k : ℕ) (xs : List ℕ) → Member k → Each Member xs → Rising key_of (map (entry_of jobs) xs) → Rising key_of (map (entry_of jobs) (put_in jobs k xs))
  rising_put k [] m ms h = (tt, tt)
  rising_put k (j ∷ js) m ms h = by (precedes jobs k j) refl (rising_put k js m ms.1 h.1)
    where
      by : (b : Bool) → precedes jobs k j ≡ b → Rising key_of (map (entry_of jobs) (put_in jobs k js)) → Rising key_of (map (entry_of jobs) (put_by jobs k j js b))
      by true e rest =
          let less = ltb-true (key_of (entry_of jobs k)) (key_of (entry_of jobs j)) (sym (precedes_is k j m ms.0) ∙ e) in
          let first : key_of (entry_of jobs k) ≤ key_of (entry_of jobs j) = omega (arith, less) in
          ((first, least_below (key_of (entry_of jobs k)) (key_of (entry_of jobs j)) (map (entry_of jobs) js) first h.0), h)
      by false e rest =
          let more = down (key_of (entry_of jobs k)) (key_of (entry_of jobs j)) (sym (precedes_is k j m ms.0) ∙ e) in
          (least_put (key_of (entry_of jobs j)) k js more h.0, rest)

  rising_sorted : (ks : List ℕ) → Each Member ks → Rising key_of (map (entry_of jobs) (in_key_order jobs ks))
  rising_sorted [] h = tt
  rising_sorted (k ∷ ks) h = rising_put k (in_key_order jobs ks) h.0 (members_sorted ks h.1) (rising_sorted ks h.1)

  -- ---- entries

  -- the entry of a job
  abbrev Known : Entry → Type 0
  Known entry = (k : ℕ) × (k < length jobs) × (entry ≡ entry_of jobs k)

  known : (xs : List ℕ) → Each Member xs → Each Known (map (entry_of jobs) xs)
  known [] h = tt
  known (x ∷ xs) h = ((x, h.0.0, refl), known xs h.1)

  tells : are_apart of_one_number jobs ≡ true → (x y : Entry) → Known x → Known y → key_of x ≡ key_of y → x ≡ y
  tells apart x y k j e =
      let keys : key_number (job_at jobs k.0) ≡ key_number (job_at jobs j.0) = sym (ap key_of k.2) ∙ (e ∙ ap key_of j.2) in
      let parts = same_parts (job_at jobs k.0) (job_at jobs j.0) (small k.0 no_job k.1) (small j.0 no_job j.1) keys in
      let one : k.0 ≡ j.0 = one_place jobs apart k.0 j.0 k.1 j.1 parts.0 parts.1 in
      k.2 ∙ (ap (entry_of jobs) one ∙ sym j.2)

  -- The jobs of the class by rising keys are those in key order.
  pub in_order : are_apart of_one_number jobs ≡ true → (found sorted : List Entry) → found ≡ map (entry_of jobs) (numbers_of jobs class) → IsPermutation found sorted
      → IsNonDecreasingBy key_of sorted → jobs_of sorted ≡ jobs_in jobs class
  in_order apart found sorted is moved rise =
      let ks : List ℕ = numbers_of jobs class in
      let members : Each Member ks = members_from 0 jobs (omega arith) in
      let ordered : List ℕ = in_key_order jobs ks in
      let wanted : List Entry = map (entry_of jobs) ordered in
      let all_known : Each Known sorted =
      all_each Known sorted (All-permutation Known found sorted moved (subst (λ (es : List Entry). All Known es) (sym is) (each_all Known (map (entry_of jobs) ks) (known ks members)))) in
      let counts : (n : ℕ) → hits key_of n sorted ≡ hits key_of n wanted =
      λ n. same_hits key_of found sorted moved n ∙ (ap (λ (es : List Entry). hits key_of n es) is ∙ sym (hits_sorted jobs n ks)) in
      let keys : map key_of sorted ≡ map key_of wanted = same_keys key_of sorted wanted (rising key_of sorted rise) (rising_sorted ks members) counts in
      let one : sorted ≡ wanted = same_items key_of Known (tells apart) sorted wanted all_known (known ordered (members_sorted ks members)) keys in
      ap jobs_of one ∙ same_jobs jobs ordered
