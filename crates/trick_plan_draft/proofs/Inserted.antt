-- A list of actions at its place by number.
use Rattle.std.proofs.Common.{◌≡◌, ◌∷◌, [], suc, Bool, true, false, nat_lt, List, refl, ap, if◌then◌else◌}
use Rattle.std.specs.List.{insert}
use Rattle.trick_plan_draft.specs.Lines.{Numbered, with_numbered}
use Rattle.trick_plan_draft.specs.Places.{place_for}

pub inserted : (new : Numbered) (lists : List Numbered) → insert lists (place_for new.0 lists) new
    ≡ with_numbered new lists
inserted new [] = refl
inserted new (list ∷ lists) = by (nat_lt new.0 list.0) (inserted new lists)
  where
    by : (b : Bool) → insert lists (place_for new.0 lists) new ≡ with_numbered new lists
        → insert (list ∷ lists) (if b then 0 else suc (place_for new.0 lists)) new
        ≡ (if b then new ∷ list ∷ lists else list ∷ with_numbered new lists)
    by true same = refl
    by false same = ap (λ (ls : List Numbered). list ∷ ls) same
