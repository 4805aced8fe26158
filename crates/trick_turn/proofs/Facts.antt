-- The rule as facts of each view, which a step keeps one by one, and back.
use Rattle.std.proofs.Common.{◌≡◌, ◌≢◌, ℕ, ◌<◌, ◌≤◌, Bool, true, false, List, length, All, Option, Some, slice_index, refl, sym, ap, ◌∙◌, subst, arith}
use mathlib.Core.Option.{some}
use mathlib.Core.Logic.{dite}
use mathlib.Core.List.{IsPrefix}
use native.Mathlib.Decide.{ℕ_discrete}
use lib.ListN.{get_elem?}
use Rattle.atomic_table.specs.Table.{State}
use Rattle.trick_turn.specs.declared.view.View.{View}
use Rattle.trick_turn.specs.TurnRule.{EachView, SomeView, HaveDifferentNumbers, HaveOwnEntries, TurnRule}
use Rattle.trick_turn.proofs.Lists.{same_at}

module _ {B E : Type 0} (stands : B → List E → Type 0) (seat : E → ℕ) where
  pub record Facts (s : State (Option B) (View E)) : Type 0 where
    pub log : List E
    pub count : ℕ
    pub words : length s.words ≡ 1
    pub slots : length s.homes ≡ 1
    pub first : SomeView s.views (λ v. (v.number ≡ 1) × (v.made ≡ count))
    pub numbers : EachView s.views (λ v. (v.number ≤ count) × (v.number ≡ 1 → v.made ≡ count))
    pub apart : HaveDifferentNumbers s.views
    pub named : All (λ e. seat e ≤ count) log
    pub prefixes : EachView s.views (λ v. IsPrefix v.seen log)
    pub besides : EachView s.views (λ v. IsPrefix v.beside v.seen)
    pub longest : SomeView s.views (λ v. v.seen ≡ log)
    pub free : slice_index s.words 0 ≡ 0 → (value : B) × (get_elem? s.homes 0 ≡ some (some (Some value))) × stands value log
    pub holders : EachView s.views (λ v. v.holding ≡ true → (0 < v.number) × (v.number ≡ slice_index s.words 0) × (v.seen ≡ log))
    pub held : slice_index s.words 0 ≢ 0 → SomeView s.views (λ v. v.holding ≡ true)
    pub own : HaveOwnEntries seat s.views log

  not_holding : (b : Bool) → (b ≡ true → ⊥) → b ≡ false
  not_holding b = elim b as (λ b. (b ≡ true → ⊥) → b ≡ false) [ true ↦ λ no. absurd (no refl) | false ↦ λ no. refl ]

  pub facts_of : (s : State (Option B) (View E)) → TurnRule stands seat s → Facts s
  facts_of s r = record {
    log = r.history;
    count = r.count;
    words = r.one_word;
    slots = r.one_slot;
    first = r.numbered.first;
    numbers = λ i v e. (
      r.numbered.below i v e,
      λ one. let f = r.numbered.first in
          let here : f.0 ≡ i = r.numbered.different f.0 i f.1 v f.2 e (omega (arith, f.3.0)) (f.3.0 ∙ sym one) in
          ap (λ (u : View E). u.made) (same_at s.views i v f.1 e (subst (λ (k : ℕ). get_elem? s.views k ≡ some f.1) here f.2)) ∙ f.3.1,
    );
    apart = r.numbered.different;
    named = r.numbered.named;
    prefixes = r.seen.prefixes;
    besides = r.seen.beside;
    longest = r.seen.longest;
    free = λ z. (r.free z).home;
    holders = λ i v e on. dite (ℕ_discrete (slice_index s.words 0) 0)
        (λ z. absurd (let off = (r.free z).nobody i v e in cc))
        (λ busy. let h = r.held busy in dite (ℕ_discrete i h.index)
        (λ here. let same : h.holder ≡ v = same_at s.views i h.holder v (subst (λ (k : ℕ). get_elem? s.views k ≡ some h.holder) (sym here) h.there) e in
        subst (λ (u : View E). (0 < u.number) × (u.number ≡ slice_index s.words 0) × (u.seen ≡ r.history)) same (omega (arith, h.named, busy), h.named, h.seen))
        (λ other. absurd (let off = h.alone i v e other in cc)));
    held = λ busy. let h = r.held busy in (h.index, h.holder, h.there, h.holds);
    own = r.own;
  }

  pub rule_of : (s : State (Option B) (View E)) → Facts s → TurnRule stands seat s
  rule_of s f = record {
    history = f.log;
    count = f.count;
    one_word = f.words;
    one_slot = f.slots;
    numbered = record { different = f.apart; first = f.first; below = λ i v e. (f.numbers i v e).0; named = f.named };
    seen = record { prefixes = f.prefixes; longest = f.longest; beside = f.besides };
    free = λ z. record {
      nobody = λ i v e. not_holding v.holding (λ on. let h = f.holders i v e on in let a = h.0 in let b = h.1 in omega (arith, z));
      home = f.free z;
    };
    held = λ busy. let t = f.held busy in let h = f.holders t.0 t.1 t.2 t.3 in record {
      index = t.0;
      holder = t.1;
      there = t.2;
      named = h.1;
      holds = t.3;
      seen = h.2;
      alone = λ i v e other. not_holding v.holding (λ on. let g = f.holders i v e on in other (f.apart i t.0 v t.1 e t.2 g.0 (g.1 ∙ sym h.1)));
    };
    own = f.own;
  }
