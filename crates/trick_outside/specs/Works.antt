-- What is known of work that was started, and of its result.
use Rattle.std.specs.Prelude.{◌≡◌}
use Rattle.trick_outside.specs.declared.work.Begun.TheVariants.{Refused, Started}
use Rattle.trick_outside.specs.declared.work.Begun.{Begun}
use Rattle.trick_outside.specs.declared.work.Ran.TheVariants.{Back, Out}
use Rattle.trick_outside.specs.declared.work.Ran.{Ran}
use Rattle.trick_outside.specs.declared.work.Running.TheVariants.{Here, There}
use Rattle.trick_outside.specs.declared.work.Running.{Running}

-- The first holds of the result, or the second of the work that was given back.
abbrev pub MatchRan : {W O : Type 0} → Ran W O → (O → Type 0) → (W → Type 0) → Type 0
MatchRan (Out out) OfOut OfWork = OfOut out
MatchRan (Back work) OfOut OfWork = OfWork work

-- What runs is this work, so that its result keeps what the work promises.
abbrev pub Runs : {W O : Type 0} → (W → O → Type 0) → W → Running W O → Type 0
Runs promises work (There child) = child.promise.work.value ≡ work
Runs promises work (Here out) = promises work out

-- The first holds of what was started, or the second of the work that was refused.
abbrev pub MatchBegun : {W O : Type 0} → Begun W O → (Running W O → Type 0) → (W → Type 0) → Type 0
MatchBegun (Started running) OfRunning OfWork = OfRunning running
MatchBegun (Refused work) OfRunning OfWork = OfWork work

-- The start was refused.
abbrev pub IsRefused : {W O : Type 0} → Begun W O → Type 0
IsRefused (Started running) = ⊥
IsRefused (Refused work) = Unit {0}
