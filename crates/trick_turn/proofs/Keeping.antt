-- Each kind of step keeps the rule.
use Rattle.std.proofs.Common.{◌≡◌, ◌≢◌, ℕ, zero, suc, ◌+◌, ◌<◌, ◌≤◌, Bool, true, false, cond, eqb, leb, List, [], ◌∷◌, ◌++◌, length, set, get_or, All, Option, Some, None, IfSome, refl, sym, ap, ◌∙◌, subst, ⊎_elim, arith, append-nil, length-set, get_or-set_same, eq-eqb, ne_eqb}
use mathlib.Core.Option.{none, some, some-injective, some-ne-none}
use mathlib.Core.Logic.{dite}
use mathlib.Core.List.{IsPrefix}
use native.Mathlib.Decide.{ℕ_discrete}
use lib.ListN.{get_elem?}
use lib.Seq.{set-get_or}
use prog.Atomic.{either}
use Rattle.atomic_table.specs.Table.{State, Me, step, keeps, takes, gives, Allows, Splits, Joins, opening}
use Rattle.atomic_table.proofs.Lists.{set_here, set_else, at_longer, set_again}
use Rattle.trick_turn.specs.declared.view.View.{View}
use Rattle.trick_turn.specs.Views.{fresh_view, spent_view, entries_told, longer_of, shorter_of, after_claim, after_miss, after_release, after_split, split_off, after_join}
use Rattle.trick_turn.specs.TurnRule.{SomeView, TurnRule, entries_of}
use Rattle.trick_turn.specs.Steps.{ClaimsOrMisses, HasReleased, HasLooked}
use Rattle.trick_turn.proofs.Facts.{Facts, facts_of, rule_of}
use Rattle.trick_turn.proofs.Lists.{set_at, same_at, at_end, prefix_self, prefix_none, prefix_more, prefix_on, prefix_whole, prefix_both, prefix_length, find_set, each_set}
use Rattle.std.proofs.lemmas.Bool.{le-leb}
use Rattle.std.proofs.lemmas.Bool.Decides.{leb_tells}
use Rattle.std.proofs.lemmas.List.Elements.{All-append, All-push, filter-append}

module _ {B E : Type 0} (stands : B → List E → Type 0) (seat : E → ℕ) where
  abbrev V : Type 0
  V = View E

  abbrev St : Type 0
  St = State (Option B) V

  abbrev Rule : St → Type 0
  Rule = TurnRule stands seat

  abbrev Kept : St → Type 0
  Kept = Facts stands seat

  abbrev Apart : List V → Type 0
  Apart vs = (i j : ℕ) (v w : V) → get_elem? vs i ≡ some v → get_elem? vs j ≡ some w → 0 < v.number → v.number ≡ w.number → i ≡ j

  -- what stood there before had the same number
  before : (vs : List V) (id : ℕ) (v w : V) → get_elem? vs id ≡ some v → w.number ≡ v.number → (i : ℕ) (a : V) → get_elem? (set vs id w) i ≡ some a → (b : V) × (get_elem? vs i ≡ some b) × (a.number ≡ b.number)
  before vs id v w at same = each_set (λ i a. (b : V) × (get_elem? vs i ≡ some b) × (a.number ≡ b.number)) vs id w (v, at, same) (λ i x ne e. (x, e, refl))

  apart_set : (vs : List V) (id : ℕ) (v w : V) → get_elem? vs id ≡ some v → w.number ≡ v.number → Apart vs → Apart (set vs id w)
  apart_set vs id v w at same apart i j a b ea eb pos eq = let x = before vs id v w at same i a ea in let y = before vs id v w at same j b eb in
      apart i j x.0 y.0 x.1 y.1 (subst (λ n. 0 < n) x.2 pos) (sym x.2 ∙ (eq ∙ y.2))

  abbrev First : List V → ℕ → Type 0
  First vs count = SomeView vs (λ v. (v.number ≡ 1) × (v.made ≡ count))

  -- the first seat stays where a view is set that is as much the first as it was
  stays_first : (vs : List V) (id : ℕ) (v w : V) (count : ℕ) → get_elem? vs id ≡ some v → ((v.number ≡ 1) × (v.made ≡ count) → (w.number ≡ 1) × (w.made ≡ count)) → First vs count → First (set vs id w) count
  stays_first vs id v w count at on f = find_set (λ (u : V). (u.number ≡ 1) × (u.made ≡ count)) vs id v w at on f.0 f.1 (ℕ_discrete f.0 id) f.2 f.3

  first_only : (P : ℕ → V → Type 0) (v : V) → P 0 v → (i : ℕ) (u : V) → get_elem? (v ∷ []) i ≡ some u → P i u
  first_only P v p zero u e = subst (P 0) (some-injective v u e) p
  first_only P v p (suc i) u e = absurd (some-ne-none u (sym e))

  first_index : (v : V) (i : ℕ) (u : V) → get_elem? (v ∷ []) i ≡ some u → i ≡ 0
  first_index v zero u e = refl
  first_index v (suc i) u e = absurd (some-ne-none u (sym e))

  begins : (value : B) → stands value [] → Kept (opening (0 ∷ []) (Some value ∷ []) (fresh_view 1 1 []))
  begins value h = let v : V = fresh_view 1 1 [] in record {
    log = [];
    count = 1;
    words = refl;
    slots = refl;
    first = (0, v, refl, (refl, refl));
    numbers = first_only (λ _ u. (u.number ≤ 1) × (u.number ≡ 1 → u.made ≡ 1)) v (omega arith, λ _. refl);
    apart = λ i j a b ea eb _ _. first_index v i a ea ∙ sym (first_index v j b eb);
    named = λ k d short. absurd (omega arith);
    prefixes = first_only (λ _ u. IsPrefix u.seen []) v (prefix_none []);
    besides = first_only (λ _ u. IsPrefix u.beside u.seen) v (prefix_none []);
    longest = (0, v, refl, refl);
    free = λ _. (value, refl, h);
    holders = first_only (λ _ u. u.holding ≡ true → (0 < u.number) × (u.number ≡ 0) × (u.seen ≡ [])) v (λ e. cc);
    held = λ busy. absurd (busy refl);
    own = first_only (λ _ u. 0 < u.number → entries_of seat u.number [] ≡ u.own) v (λ _. refl);
  }

  -- make
  pub make : (value : B) → stands value [] → Rule (opening (0 ∷ []) (Some value ∷ []) (fresh_view 1 1 []))
  make value h = rule_of stands seat (opening (0 ∷ []) (Some value ∷ []) (fresh_view 1 1 [])) (begins value h)

  miss : (s : St) (r : Kept s) (id n : ℕ) (v : V) → get_elem? s.views id ≡ some v → Kept record { words = set s.words 0 (get_or s.words 0 0); homes = s.homes; views = set s.views id (after_miss v n) }
  miss s r id n v at = subst (λ (ws : List ℕ). Kept record { words = ws; homes = s.homes; views = set s.views id (after_miss v n) }) (sym (set-get_or s.words 0 0)) record {
    log = r.log;
    count = r.count;
    words = r.words;
    slots = r.slots;
    first = stays_first s.views id v (after_miss v n) r.count at (λ h. h) r.first;
    numbers = each_set (λ _ (u : V). (u.number ≤ r.count) × (u.number ≡ 1 → u.made ≡ r.count)) s.views id (after_miss v n) (r.numbers id v at) (λ i u _ e. r.numbers i u e);
    apart = apart_set s.views id v (after_miss v n) at refl r.apart;
    named = r.named;
    prefixes = each_set (λ _ (u : V). IsPrefix u.seen r.log) s.views id (after_miss v n) (r.prefixes id v at) (λ i u _ e. r.prefixes i u e);
    besides = each_set (λ _ (u : V). IsPrefix u.beside u.seen) s.views id (after_miss v n) (r.besides id v at) (λ i u _ e. r.besides i u e);
    longest = let l = r.longest in find_set (λ (u : V). u.seen ≡ r.log) s.views id v (after_miss v n) at (λ h. h) l.0 l.1 (ℕ_discrete l.0 id) l.2 l.3;
    free = r.free;
    holders = each_set (λ _ (u : V). u.holding ≡ true → (0 < u.number) × (u.number ≡ get_or s.words 0 0) × (u.seen ≡ r.log)) s.views id (after_miss v n) (r.holders id v at) (λ i u _ e. r.holders i u e);
    held = λ busy. let l = r.held busy in find_set (λ (u : V). u.holding ≡ true) s.views id v (after_miss v n) at (λ h. h) l.0 l.1 (ℕ_discrete l.0 id) l.2 l.3;
    own = each_set (λ _ (u : V). 0 < u.number → entries_of seat u.number r.log ≡ u.own) s.views id (after_miss v n) (r.own id v at) (λ i u _ e. r.own i u e);
  }

  -- the seat has the turn
  hit : (s : St) (r : Kept s) (id : ℕ) (v : V) (n : ℕ) → get_elem? s.views id ≡ some v → n ≡ v.number → 0 < n → get_or s.words 0 0 ≡ 0
      → Kept record { words = set s.words 0 n; homes = set s.homes 0 none; views = set s.views id (after_claim v r.log) }
  hit s r id v n at is pos free =
      let w : V = after_claim v r.log in
      let now : get_or (set s.words 0 n) 0 0 ≡ n = get_or-set_same s.words 0 n 0 (omega (arith, r.words)) in
      let nobody : (i : ℕ) (u : V) → get_elem? s.views i ≡ some u → u.holding ≡ true → ⊥ = λ i u e on. (let h = r.holders i u e on in let a = h.0 in let b = h.1 in omega (arith, free)) in
      record {
        log = r.log;
        count = r.count;
        words = length-set s.words 0 n ∙ r.words;
        slots = length-set s.homes 0 none ∙ r.slots;
        first = stays_first s.views id v w r.count at (λ h. h) r.first;
        numbers = each_set (λ _ (u : V). (u.number ≤ r.count) × (u.number ≡ 1 → u.made ≡ r.count)) s.views id w (r.numbers id v at) (λ i u _ e. r.numbers i u e);
        apart = apart_set s.views id v w at refl r.apart;
        named = r.named;
        prefixes = each_set (λ _ (u : V). IsPrefix u.seen r.log) s.views id w (prefix_self r.log) (λ i u _ e. r.prefixes i u e);
        besides = each_set (λ _ (u : V). IsPrefix u.beside u.seen) s.views id w (prefix_none r.log) (λ i u _ e. r.besides i u e);
        longest = (id, w, set_at s.views id v w at, refl);
        free = λ z. absurd (omega (arith, now, z, pos));
        holders = each_set (λ _ (u : V). u.holding ≡ true → (0 < u.number) × (u.number ≡ get_or (set s.words 0 n) 0 0) × (u.seen ≡ r.log)) s.views id w
            (λ _. (subst (λ (k : ℕ). 0 < k) is pos, sym is ∙ sym now, refl)) (λ i u _ e on. absurd (nobody i u e on));
        held = λ _. (id, w, set_at s.views id v w at, refl);
        own = each_set (λ _ (u : V). 0 < u.number → entries_of seat u.number r.log ≡ u.own) s.views id w (r.own id v at) (λ i u _ e. r.own i u e);
      }

  -- claim, which takes the value out, or missed claim
  pub claim : (slots id n : ℕ) (v : V) (more : List (ℕ × Option B)) → n ≡ v.number → 0 < n
      → Allows Rule slots id (v, more) 0 (λ k. either (eqb k 0) n k) (ClaimsOrMisses stands seat (step slots 0 0 n none) (v, more))
  claim slots id n v more is pos s r wide at _ = let k : ℕ = get_or s.words 0 0 in let f = facts_of stands seat s r in
      dite (ℕ_discrete k 0)
      (λ free. let t = f.free free in let to : either (eqb k 0) n k ≡ n = ap (λ (b : Bool). either b n k) (eq-eqb k 0 free) in (
        after_claim v f.log,
        takes 0 (Some t.0),
        t.1,
        subst (λ (x : ℕ). Rule record { words = set s.words 0 x; homes = set s.homes 0 none; views = set s.views id (after_claim v f.log) }) (sym to) (rule_of stands seat _ (hit s f id v n at is pos free)),
        ((λ _. (f.log, t.0, refl, refl, t.2, (f.prefixes id v at, f.own id v at (subst (λ (x : ℕ). 0 < x) is pos)))), (λ ne. absurd (ne free))),
      ))
      (λ busy. let to : either (eqb k 0) n k ≡ k = ap (λ (b : Bool). either b n k) (ne_eqb k 0 busy) in (
        after_miss v k,
        keeps,
        tt,
        subst (λ (x : ℕ). Rule record { words = set s.words 0 x; homes = s.homes; views = set s.views id (after_miss v k) }) (sym to) (rule_of stands seat _ (miss s f id k v at)),
        ((λ free. absurd (busy free)), (λ _. (refl, refl))),
      ))

  added_own : (n : ℕ) (e : Option E) → IfSome e (λ x. seat x ≡ n) → entries_of seat n (entries_told e) ≡ entries_told e
  added_own n (Some x) h = ap (λ (b : Bool). cond b (x ∷ []) []) (eq-eqb (seat x) n h)
  added_own n None h = refl

  added_else : (n m : ℕ) (e : Option E) → IfSome e (λ x. seat x ≡ n) → m ≢ n → entries_of seat m (entries_told e) ≡ []
  added_else n m (Some x) h ne = ap (λ (b : Bool). cond b (x ∷ []) []) (ne_eqb (seat x) m (λ q. ne (sym q ∙ h)))
  added_else n m None h ne = refl

  added_named : (n k : ℕ) (e : Option E) → IfSome e (λ x. seat x ≡ n) → n ≤ k → All (λ x. seat x ≤ k) (entries_told e)
  added_named n k (Some x) h le = All-push (λ x. seat x ≤ k) [] x (λ i d short. absurd (omega arith)) (omega arith)
  added_named n k None h le = λ i d short. absurd (omega arith)

  freed : (s : St) (r : Kept s) (id : ℕ) (v : V) (value : B) (e : Option E) → get_elem? s.views id ≡ some v → v.holding ≡ true → stands value (v.seen ++ entries_told e) → IfSome e (λ x. seat x ≡ v.number)
      → Kept record { words = set s.words 0 0; homes = set s.homes 0 (some (Some value)); views = set s.views id (after_release v e) }
  freed s r id v value e at on keeps_to names =
      let w : V = after_release v e in
      let h = r.holders id v at on in
      let log' : List E = r.log ++ entries_told e in
      let grown : v.seen ++ entries_told e ≡ log' = ap (λ (l : List E). l ++ entries_told e) h.2 in
      let now : get_or (set s.words 0 0) 0 0 ≡ 0 = get_or-set_same s.words 0 0 0 (omega (arith, r.words)) in
      let others : (i : ℕ) (u : V) → i ≢ id → get_elem? s.views i ≡ some u → 0 < u.number → u.number ≢ v.number = λ i u ne eu pos same. ne (r.apart i id u v eu at pos same) in
      record {
        log = log';
        count = r.count;
        words = length-set s.words 0 0 ∙ r.words;
        slots = length-set s.homes 0 (some (Some value)) ∙ r.slots;
        first = stays_first s.views id v w r.count at (λ h. h) r.first;
        numbers = each_set (λ _ (u : V). (u.number ≤ r.count) × (u.number ≡ 1 → u.made ≡ r.count)) s.views id w (r.numbers id v at) (λ i u _ e. r.numbers i u e);
        apart = apart_set s.views id v w at refl r.apart;
        named = All-append (λ x. seat x ≤ r.count) r.log (entries_told e) r.named (added_named v.number r.count e names (r.numbers id v at).0);
        prefixes = each_set (λ _ (u : V). IsPrefix u.seen log') s.views id w (prefix_on v.seen r.log (entries_told e) h.2) (λ i u _ eu. prefix_more u.seen r.log (entries_told e) (r.prefixes i u eu));
        besides = each_set (λ _ (u : V). IsPrefix u.beside u.seen) s.views id w (prefix_none (v.seen ++ entries_told e)) (λ i u _ eu. r.besides i u eu);
        longest = (id, w, set_at s.views id v w at, grown);
        free = λ _. (value, set_here s.homes 0 (some (Some value)) (omega (arith, r.slots)), subst (λ (l : List E). stands value l) grown keeps_to);
        holders = each_set (λ _ (u : V). u.holding ≡ true → (0 < u.number) × (u.number ≡ get_or (set s.words 0 0) 0 0) × (u.seen ≡ log')) s.views id w
            (λ e. cc) (λ i u ne eu held. let g = r.holders i u eu held in absurd (others i u ne eu g.0 (g.1 ∙ sym h.1)));
        held = λ busy. absurd (busy now);
        own = each_set (λ _ (u : V). 0 < u.number → entries_of seat u.number log' ≡ u.own) s.views id w
            (λ pos. filter-append (λ x. eqb (seat x) v.number) r.log (entries_told e) ∙ (ap (λ (l : List E). l ++ entries_of seat v.number (entries_told e)) (r.own id v at pos) ∙ ap (λ (l : List E). v.own ++ l) (added_own v.number e names)))
            (λ i u ne eu pos. filter-append (λ x. eqb (seat x) u.number) r.log (entries_told e) ∙ (ap (λ (l : List E). entries_of seat u.number r.log ++ l) (added_else v.number u.number e names (others i u ne eu pos)) ∙ (append-nil (entries_of seat u.number r.log) ∙ r.own i u eu pos)));
      }

  -- release, after the value was put back
  pub release : (slots id : ℕ) (v : V) (value : B) (more : List (ℕ × Option B)) (e : Option E) → v.holding ≡ true → stands value (v.seen ++ entries_told e) → IfSome e (λ x. seat x ≡ v.number)
      → Allows Rule slots id (v, (0, Some value) ∷ more) 0 (λ _. 0) (λ _. HasReleased e (step slots 0 0 0 none) (v, (0, Some value) ∷ more) 0)
  release slots id v value more e on keeps_to names s r wide at _ = (after_release v e, gives, tt, rule_of stands seat _ (freed s (facts_of stands seat s r) id v value e at on keeps_to names), (refl, refl))

  each_more : (P : ℕ → V → Type 0) (vs : List V) (w : V) → P (length vs) w → ((i : ℕ) (v : V) → get_elem? vs i ≡ some v → P i v) → (i : ℕ) (v : V) → get_elem? (vs ++ w ∷ []) i ≡ some v → P i v
  each_more P vs w here others i v e = ⊎_elim (λ (t : get_elem? vs i ≡ some v). others i v t) (λ (t : (i ≡ length vs) × (w ≡ v)). subst (λ (z : ℕ × V). P z.0 z.1) (λ k. (sym t.0 k, t.1 k)) here) (at_end vs w v i e)

  apart_more : (vs : List V) (w : V) → ((i : ℕ) (v : V) → get_elem? vs i ≡ some v → v.number < w.number) → Apart vs → Apart (vs ++ w ∷ [])
  apart_more vs w above apart i j a b ea eb = each_more (λ i a. (j : ℕ) (b : V) → get_elem? (vs ++ w ∷ []) j ≡ some b → 0 < a.number → a.number ≡ b.number → i ≡ j) vs w
      (each_more (λ j b. 0 < w.number → w.number ≡ b.number → length vs ≡ j) vs w (λ _ _. refl) (λ j b eb pos eq. absurd (omega (arith, above j b eb))))
      (λ i a ea. each_more (λ j b. 0 < a.number → a.number ≡ b.number → i ≡ j) vs w (λ pos eq. absurd (omega (arith, above i a ea))) (λ j b eb. apart i j a b ea eb)) i a ea j b eb

  none_named : (n k : ℕ) (log : List E) → All (λ e. seat e ≤ k) log → k < n → entries_of seat n log ≡ []
  none_named n k [] h above = refl
  none_named n k (x ∷ xs) h above = ap (λ (b : Bool). cond b (x ∷ entries_of seat n xs) (entries_of seat n xs)) (ne_eqb (seat x) n (λ q. let a : seat x ≤ k = h 0 x (omega arith) in omega arith))
      ∙ none_named n k xs (λ i d short. h (suc i) d (omega arith)) above

  splits : (s : St) (r : Kept s) (id : ℕ) (v : V) → v.number ≡ 1 → get_elem? s.views id ≡ some v → Kept record { words = s.words; homes = s.homes; views = set s.views id (after_split v) ++ split_off v ∷ [] }
  splits s r id v one at =
      let w : V = after_split v in
      let u₀ : V = split_off v in
      let made : v.made ≡ r.count = (r.numbers id v at).1 one in
      let vs : List V = set s.views id w in
      let P : ℕ → V → Type 0 = λ _ u. (u.number ≤ r.count + 1) × (u.number ≡ 1 → u.made ≡ r.count + 1) in
      let below : (i : ℕ) (u : V) → get_elem? vs i ≡ some u → u.number < u₀.number = each_set (λ _ (u : V). u.number < u₀.number) s.views id w (let b = (r.numbers id v at).0 in omega arith) (λ i u _ eu. let b = (r.numbers i u eu).0 in omega arith) in
      record {
        log = r.log;
        count = r.count + 1;
        words = r.words;
        slots = r.slots;
        first = (id, w, at_longer vs (u₀ ∷ []) id w (set_at s.views id v w at), (one, ap (λ (n : ℕ). n + 1) made));
        numbers = each_more P vs u₀ (omega (arith, made), λ eq. absurd (let b = (r.numbers id v at).0 in omega arith))
            (each_set P s.views id w (let b = (r.numbers id v at).0 in (omega arith, λ _. omega arith))
            (λ i u ne eu. let b = (r.numbers i u eu).0 in (omega arith, λ eq. absurd (ne (r.apart i id u v eu at (omega arith) (eq ∙ sym one))))));
        apart = apart_more vs u₀ below (apart_set s.views id v w at refl r.apart);
        named = λ k d short. let b = r.named k d short in omega arith;
        prefixes = each_more (λ _ (u : V). IsPrefix u.seen r.log) vs u₀ (r.prefixes id v at) (each_set (λ _ (u : V). IsPrefix u.seen r.log) s.views id w (r.prefixes id v at) (λ i u _ eu. r.prefixes i u eu));
        besides = each_more (λ _ (u : V). IsPrefix u.beside u.seen) vs u₀ (prefix_none v.seen) (each_set (λ _ (u : V). IsPrefix u.beside u.seen) s.views id w (r.besides id v at) (λ i u _ eu. r.besides i u eu));
        longest = let l = r.longest in let f = find_set (λ (u : V). u.seen ≡ r.log) s.views id v w at (λ h. h) l.0 l.1 (ℕ_discrete l.0 id) l.2 l.3 in (f.0, f.1, at_longer vs (u₀ ∷ []) f.0 f.1 f.2, f.3);
        free = r.free;
        holders = let H : ℕ → V → Type 0 = λ _ u. u.holding ≡ true → (0 < u.number) × (u.number ≡ get_or s.words 0 0) × (u.seen ≡ r.log) in
            each_more H vs u₀ (λ e. cc) (each_set H s.views id w (r.holders id v at) (λ i u _ eu. r.holders i u eu));
        held = λ busy. let l = r.held busy in let f = find_set (λ (u : V). u.holding ≡ true) s.views id v w at (λ h. h) l.0 l.1 (ℕ_discrete l.0 id) l.2 l.3 in (f.0, f.1, at_longer vs (u₀ ∷ []) f.0 f.1 f.2, f.3);
        own = let O : ℕ → V → Type 0 = λ _ u. 0 < u.number → entries_of seat u.number r.log ≡ u.own in
            each_more O vs u₀ (λ _. none_named u₀.number r.count r.log r.named (omega (arith, made))) (each_set O s.views id w (r.own id v at) (λ i u _ eu. r.own i u eu));
      }

  -- split a seat
  pub split : (id : ℕ) (v : V) → v.number ≡ 1 → Splits Rule id v (after_split v) (split_off v)
  split id v one s r at = rule_of stands seat _ (splits s (facts_of stands seat s r) id v one at)

  -- the longer of two prefixes
  longer_prefix : (xs ys log : List E) → IsPrefix xs log → IsPrefix ys log → IsPrefix (longer_of xs ys) log
  longer_prefix xs ys log p q = elim (leb (length xs) (length ys)) as (λ b. IsPrefix (cond b ys xs) log) [ true ↦ q | false ↦ p ]

  longer_left : (xs ys log : List E) → IsPrefix ys log → xs ≡ log → longer_of xs ys ≡ log
  longer_left xs ys log q e = ⊎_elim (λ (t : (leb (length xs) (length ys) ≡ true) × (length xs ≤ length ys)). ap (λ (b : Bool). cond b ys xs) t.0 ∙ prefix_whole ys log q (subst (λ (l : List E). length l ≤ length ys) e t.1))
      (λ (t : (leb (length xs) (length ys) ≡ false) × (length ys < length xs)). ap (λ (b : Bool). cond b ys xs) t.0 ∙ e) (leb_tells (length xs) (length ys))

  longer_right : (xs ys log : List E) → IsPrefix xs log → ys ≡ log → longer_of xs ys ≡ log
  longer_right xs ys log p e = ap (λ (b : Bool). cond b ys xs) (le-leb (length xs) (length ys) (subst (λ (l : List E). length xs ≤ length l) (sym e) (prefix_length xs log p))) ∙ e

  shorter_longer : (xs ys log : List E) → IsPrefix xs log → IsPrefix ys log → IsPrefix (shorter_of xs ys) (longer_of xs ys)
  shorter_longer xs ys log p q = ⊎_elim
      (λ (t : (leb (length xs) (length ys) ≡ true) × (length xs ≤ length ys)). subst (λ (b : Bool). IsPrefix (cond b xs ys) (cond b ys xs)) (sym t.0) (prefix_both xs ys log p q t.1))
      (λ (t : (leb (length xs) (length ys) ≡ false) × (length ys < length xs)). subst (λ (b : Bool). IsPrefix (cond b xs ys) (cond b ys xs)) (sym t.0) (prefix_both ys xs log q p (let l = t.1 in omega arith)))
      (leb_tells (length xs) (length ys))

  apart_spent : (vs : List V) (id : ℕ) → Apart vs → Apart (set vs id spent_view)
  apart_spent vs id apart i j a b ea eb = each_set (λ i a. (j : ℕ) (b : V) → get_elem? (set vs id spent_view) j ≡ some b → 0 < a.number → a.number ≡ b.number → i ≡ j) vs id spent_view
      (λ j b eb pos eq. absurd (omega arith))
      (λ i a _ ea. each_set (λ j b. 0 < a.number → a.number ≡ b.number → i ≡ j) vs id spent_view (λ pos eq. absurd (omega arith)) (λ j b _ eb. apart i j a b ea eb)) i a ea j b eb

  joined : (s : St) (r : Kept s) (id other : ℕ) (v w : V) → w.holding ≡ false → v.number ≡ 1 → get_elem? s.views id ≡ some v → ¬ (other ≡ id) → get_elem? (set s.views id (after_join v w)) other ≡ some w
      → Kept record { words = s.words; homes = s.homes; views = set (set s.views id (after_join v w)) other spent_view }
  joined s r id other v w off one at ne at' =
      let both : V = after_join v w in
      let vs : List V = set s.views id both in
      let there : get_elem? s.views other ≡ some w = sym (set_else s.views id other both ne) ∙ at' in
      let pv = r.prefixes id v at in
      let pw = r.prefixes other w there in
      let twice : (P : V → Type 0) → P both → P spent_view → ((i : ℕ) (u : V) → get_elem? s.views i ≡ some u → i ≢ id → P u) → (i : ℕ) (u : V) → get_elem? (set vs other spent_view) i ≡ some u → P u =
      λ P hb hs others. each_set (λ _ u. P u) vs other spent_view hs (λ i u _ eu. each_set (λ _ u. P u) s.views id both hb (λ i u ni eu. others i u eu ni) i u eu) in
      let kept : get_elem? (set vs other spent_view) id ≡ some both = set_else vs other id spent_view (λ e. ne (sym e)) ∙ set_at s.views id v both at in
      record {
        log = r.log;
        count = r.count;
        words = r.words;
        slots = r.slots;
        first = (id, both, kept, (one, (r.numbers id v at).1 one));
        numbers = twice (λ (u : V). (u.number ≤ r.count) × (u.number ≡ 1 → u.made ≡ r.count)) (r.numbers id v at) (omega arith, λ e. absurd (omega arith)) (λ i u eu _. r.numbers i u eu);
        apart = apart_spent vs other (apart_set s.views id v both at refl r.apart);
        named = r.named;
        prefixes = twice (λ (u : V). IsPrefix u.seen r.log) (longer_prefix v.seen w.seen r.log pv pw) (prefix_none r.log) (λ i u eu _. r.prefixes i u eu);
        besides = twice (λ (u : V). IsPrefix u.beside u.seen) (shorter_longer v.seen w.seen r.log pv pw) (prefix_none []) (λ i u eu _. r.besides i u eu);
        longest = let l = r.longest in
            dite (ℕ_discrete l.0 other)
            (λ e. (id, both, kept, longer_right v.seen w.seen r.log pv (ap (λ (u : V). u.seen) (same_at s.views other w l.1 there (subst (λ (k : ℕ). get_elem? s.views k ≡ some l.1) e l.2)) ∙ l.3)))
            (λ no_other. dite (ℕ_discrete l.0 id)
            (λ e. (id, both, kept, longer_left v.seen w.seen r.log pw (ap (λ (u : V). u.seen) (same_at s.views id v l.1 at (subst (λ (k : ℕ). get_elem? s.views k ≡ some l.1) e l.2)) ∙ l.3)))
            (λ no_id. (l.0, l.1, set_else vs other l.0 spent_view no_other ∙ (set_else s.views id l.0 both no_id ∙ l.2), l.3)));
        free = r.free;
        holders = twice (λ (u : V). u.holding ≡ true → (0 < u.number) × (u.number ≡ get_or s.words 0 0) × (u.seen ≡ r.log))
            (λ on. let h = r.holders id v at on in (h.0, h.1, longer_left v.seen w.seen r.log pw h.2)) (λ e. cc) (λ i u eu _. r.holders i u eu);
        held = λ busy. let l = r.held busy in
            dite (ℕ_discrete l.0 other)
            (λ e. absurd (let same : l.1 ≡ w = same_at s.views other l.1 w (subst (λ (k : ℕ). get_elem? s.views k ≡ some l.1) e l.2) there in let on : w.holding ≡ true = subst (λ (u : V). u.holding ≡ true) same l.3 in cc))
            (λ no_other. dite (ℕ_discrete l.0 id)
            (λ e. (id, both, kept, subst (λ (u : V). u.holding ≡ true) (same_at s.views id l.1 v (subst (λ (k : ℕ). get_elem? s.views k ≡ some l.1) e l.2) at) l.3))
            (λ no_id. (l.0, l.1, set_else vs other l.0 spent_view no_other ∙ (set_else s.views id l.0 both no_id ∙ l.2), l.3)));
        own = twice (λ (u : V). 0 < u.number → entries_of seat u.number r.log ≡ u.own) (r.own id v at) (λ pos. absurd (omega arith)) (λ i u eu _. r.own i u eu);
      }

  -- join a seat
  pub join : (id other : ℕ) (v w : V) → w.holding ≡ false → v.number ≡ 1 → Joins Rule id v other w (after_join v w) spent_view
  join id other v w off one s r at ne at' = rule_of stands seat _ (joined s (facts_of stands seat s r) id other v w off one at ne at')

  -- a look, which changes nothing
  pub look : (slots id : ℕ) (m : Me (Option B) V) → Allows Rule slots id m 0 (λ n. n) (HasLooked (step slots 0 0 0 none) m)
  look slots id m s r wide at _ = (
    m.0,
    keeps,
    tt,
    subst (λ (ws : List ℕ). Rule record { words = ws; homes = s.homes; views = set s.views id m.0 }) (sym (set-get_or s.words 0 0))
        (subst (λ (vs : List V). Rule record { words = s.words; homes = s.homes; views = vs }) (sym (set_again s.views id m.0 at)) r),
    (refl, r.seen.beside id m.0 at),
  )
