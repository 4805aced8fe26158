-- A line that is not refused: none of its tests holds, and what is after them is its answer.
use Rattle.std.proofs.Common.{◌≡◌, Bool, true, false, List, [], ◌∷◌, Option, Some, None, is_none, is_some, Ok, refl}
use Rattle.trick_plan_draft.specs.Lines.{unless}
use Rattle.trick_plan_draft.specs.declared.draft.Draft.{Draft}
use Rattle.trick_plan_draft.specs.declared.fault.LineFault.{LineFault}

pub first_passed : (t : Bool) (f : LineFault) (rest : List (Bool × LineFault)) (d e : Draft)
    → unless ((t, f) ∷ rest) d ≡ Ok e → (t ≡ false) × (unless rest d ≡ Ok e)
first_passed true f rest d e h = cc h
first_passed false f rest d e h = (refl, h)

pub is_answer : (d e : Draft) → unless [] d ≡ Ok e → d ≡ e
is_answer d e h = cc h

pub there : {T : Type 0} (o : Option T) → is_none o ≡ false → (x : T) × (o ≡ Some x)
there None h = cc h
there (Some x) h = (x, refl)

pub not_there : {T : Type 0} (o : Option T) → is_some o ≡ false → o ≡ None
not_there None h = refl
not_there (Some x) h = cc h
