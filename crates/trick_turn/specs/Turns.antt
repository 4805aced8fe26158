-- What clauses say of a turn and of a claim.
use Rattle.std.specs.Prelude.{◌≡◌, ℕ, ⊤, []}
use mir.Syntax.{named}
use Rattle.std.specs.Borrow.{GName, MutBor, Fml, RattleType, Lends, follows_so}
use mathlib.Core.Option.{Option, some, none}
use Rattle.trick_turn.specs.declared.pass.Pass.{Pass}
use Rattle.trick_turn.specs.declared.lock.TurnLock.{TurnLock}
use Rattle.trick_turn.specs.declared.turn.Turn.{Turn}
use Rattle.trick_turn.specs.declared.claim.Claim.{Claim}
use Rattle.trick_turn.specs.declared.claim.Claim.TheVariants.{Got, Busy}
use Rattle.trick_turn.specs.declared.keeps.Keeps.{Ghosts}
use Rattle.trick_turn.specs.contracts.pass.Pass.{the_row as pass_row}
use Rattle.trick_turn.specs.contracts.turn.Turn.{the_row as turn_row}
use Rattle.trick_turn.specs.Passes.{IsPassOf, Holds, Misses}

module _ {B E : Type 0} where
  abbrev pub value_of : Turn B E → B
  value_of t = t.value

  abbrev pub pass_of : Turn B E → Pass B E
  pass_of t = t.pass.now

  -- the pass as it is once its turn is over: of what is left of the turn, which is its lock, its pass and its value
  abbrev pub pass_left : {L V : Type 0} → L × (MutBor (Pass B E) × V) → Pass B E
  pass_left t = t.1.0.now

  -- its pass is a pass of its lock, and has the turn
  abbrev pub IsTurn : Turn B E → Type 0
  IsTurn t = IsPassOf t.lock.now t.pass.now × Holds t.pass.now

  -- a turn of this lock, with the pass that was lent
  abbrev pub IsTurnOf : TurnLock B E → GName → Turn B E → Type 0
  IsTurnOf l name t = (t.lock.now ≡ l) × (t.pass.ghost_name ≡ name) × IsTurn t

  abbrev pub IfGot : Claim B E → (Turn B E → Type 0) → Type 0
  IfGot (Got t) P = P t
  IfGot (Busy found) P = ⊤

  abbrev pub IfBusy : Claim B E → (ℕ → Type 0) → Type 0
  IfBusy (Got t) P = ⊤
  IfBusy (Busy found) P = P found

  -- the name of the loan that the pass is under, while it has the turn
  abbrev pub loan_of : Claim B E → Option GName
  loan_of (Got t) = some t.pass.ghost_name
  loan_of (Busy found) = none

-- the pass is lent to the turn, and ends as what the turn leaves; where the turn was held, it has counted a miss
abbrev pub LendsPass : (B E : RattleType) → MutBor (Pass B.Denot E.Denot) → Claim B.Denot E.Denot → Fml
LendsPass B E p c = follows_so (pass_row B E) (pass_row B E) p.ghost_name (loan_of c) (λ left last. IfGot c (λ _. last
    ≡ left)) (λ last. IfBusy c (Misses p.now last))

-- the value is lent, and stays the turn's as what was written to it
abbrev pub LendsValue : (B E : RattleType) → Ghosts B.Denot E.Denot → MutBor (Turn B.Denot E.Denot) → MutBor B.Denot
    → Fml
LendsValue B E keeps t r = Lends (turn_row (record { mir = named 1; lft = [] }) B E keeps) B t r
    (λ written. record t.now { value = written })
