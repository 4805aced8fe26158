-- Sessions that join and leave, with an entry more at the end.
use Rattle.std.proofs.Common.{◌≡◌, ℕ, zero, suc, Bool, true, false, cond, List, [], ◌∷◌, ◌++◌, if◌then◌else◌, refl, sym, ap, ◌∙◌, arith}
use Rattle.std.proofs.lemmas.Bool.Decides.{nat_tests}
use Rattle.std.specs.List.{list_any}
use Rattle.std.specs.Prelude.{◌&&◌, ◌||◌, ◌==◌, not, nat_lt, filter}
use Rattle.trick_journal.proofs.Entries.{and_regrouped, and_true}
use Rattle.trick_journal.specs.Rules.{highest_in, joins_after, live_in, live_with}
use Rattle.trick_model.specs.Journal.{Noted, are_joined}
use Rattle.trick_model.specs.declared.entry.Entry.{Entry}
use Rattle.trick_model.specs.declared.entry.Entry.TheVariants.{Join, Said, Leave, Publish}

pub highest_more : (highest : ℕ) (es : List Noted) (e : Noted)
    → highest_in highest (es ++ e ∷ []) ≡ highest_in (highest_in highest es) (e ∷ [])
highest_more highest [] e = refl
highest_more highest ((t, Join session) ∷ es) e = highest_more session es e
highest_more highest ((t, Said session line) ∷ es) e = highest_more highest es e
highest_more highest ((t, Leave session cause) ∷ es) e = highest_more highest es e
highest_more highest ((t, Publish thread) ∷ es) e = highest_more highest es e

live_more : (live : List ℕ) (es : List Noted) (e : Noted) → live_in live (es ++ e ∷ []) ≡ live_in (live_in live es) (e ∷ [])
live_more live [] e = refl
live_more live ((t, Join session) ∷ es) e = live_more (live ++ session ∷ []) es e
live_more live ((t, Said session line) ∷ es) e = live_more live es e
live_more live ((t, Leave session cause) ∷ es) e = live_more (filter (λ s. not (s == session)) live) es e
live_more live ((t, Publish thread) ∷ es) e = live_more live es e

-- the session is among these
abbrev is_among : List ℕ → ℕ → Bool
is_among live s = list_any (λ k. k == s) live

among_more : (live : List ℕ) (session s : ℕ) → is_among (live ++ session ∷ []) s ≡ ((session == s) || is_among live s)
among_more [] session s = refl
among_more (k ∷ live) session s = ap (λ (b : Bool). (k == s) || b) (among_more live session s) ∙ swapped (k == s) (session == s) (is_among live s)
  where
    swapped : (a b c : Bool) → (a || (b || c)) ≡ (b || (a || c))
    swapped true true c = refl
    swapped true false c = refl
    swapped false b c = refl

among_left : (live : List ℕ) (session s : ℕ)
    → is_among (filter (λ k. not (k == session)) live) s ≡ (if session == s then false else is_among live s)
among_left [] session s = go (session == s)
  where
    go : (b : Bool) → false ≡ (if b then false else false)
    go true = refl
    go false = refl
among_left (k ∷ live) session s = go (k == session) refl (among_left live session s)
  where
    go : (b : Bool) → (k == session) ≡ b → is_among (filter (λ k. not (k == session)) live) s ≡ (if session == s then false else is_among live s)
        → is_among (cond (not b) (k ∷ filter (λ k. not (k == session)) live) (filter (λ k. not (k == session)) live)) s
        ≡ (if session == s then false else ((k == s) || is_among live s))
    go true e h = h ∙ other (session == s) refl
      where
        other : (c : Bool) → (session == s) ≡ c → (if c then false else is_among live s) ≡ (if c then false else ((k == s) || is_among live s))
        other true f = refl
        other false f = let apart : (k == s) ≡ false = grind (arith, nat_tests) in ap (λ (b : Bool). b || is_among live s) (sym apart)
    go false e h = ap (λ (b : Bool). (k == s) || b) h ∙ other (session == s) refl
      where
        other : (c : Bool) → (session == s) ≡ c → ((k == s) || (if c then false else is_among live s)) ≡ (if c then false else ((k == s) || is_among live s))
        other true f = let apart : (k == s) ≡ false = grind (arith, nat_tests) in ap (λ (b : Bool). b || false) apart
        other false f = refl

-- who is there after an entry
pub live_after_entry : (live : List ℕ) (e : Noted) (s : ℕ) → is_among (live_in live (e ∷ [])) s ≡ live_with (is_among live) e.1 s
live_after_entry live (t, Join session) s = among_more live session s
live_after_entry live (t, Said session line) s = refl
live_after_entry live (t, Leave session cause) s = among_left live session s
live_after_entry live (t, Publish thread) s = refl

pub among_after : (es : List Noted) (e : Noted) (s : ℕ)
    → is_among (live_in [] (es ++ e ∷ [])) s ≡ live_with (is_among (live_in [] es)) e.1 s
among_after es e s = ap (λ (live : List ℕ). is_among live s) (live_more [] es e) ∙ live_after_entry (live_in [] es) e s

joined_one : (highest : ℕ) (live : List ℕ) (e : Noted) → are_joined highest live (e ∷ []) ≡ joins_after highest (is_among live) e.1
joined_one highest live (t, Join session) = and_true (nat_lt highest session)
joined_one highest live (t, Said session line) = and_true (is_among live session)
joined_one highest live (t, Leave session cause) = and_true (is_among live session)
joined_one highest live (t, Publish thread) = refl

pub joined_more : (highest : ℕ) (live : List ℕ) (es : List Noted) (e : Noted) → are_joined highest live (es ++ e ∷ [])
    ≡ (are_joined highest live es && joins_after (highest_in highest es) (is_among (live_in live es)) e.1)
joined_more highest live [] e = joined_one highest live e
joined_more highest live ((t, Join session) ∷ es) e =
    ap (λ (b : Bool). nat_lt highest session && b) (joined_more session (live ++ session ∷ []) es e)
    ∙ and_regrouped (nat_lt highest session) _ _
joined_more highest live ((t, Said session line) ∷ es) e =
    ap (λ (b : Bool). is_among live session && b) (joined_more highest live es e) ∙ and_regrouped (is_among live session) _ _
joined_more highest live ((t, Leave session cause) ∷ es) e =
    ap (λ (b : Bool). is_among live session && b) (joined_more highest (filter (λ s. not (s == session)) live) es e)
    ∙ and_regrouped (is_among live session) _ _
joined_more highest live ((t, Publish thread) ∷ es) e = joined_more highest live es e
