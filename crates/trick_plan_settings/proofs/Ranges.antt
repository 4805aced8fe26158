-- The ranges of what lines say of the run and of its threads.
use Rattle.std.proofs.Common.{◌≡◌, ℕ, zero, suc, ◌+◌, ◌≤◌, ◌==◌, ◌&&◌, Bool, true, false, nat_lt, nat_le, List, [], ◌∷◌, ◌++◌, All, Option, Some, None, Ok, unwrap_or, refl, subst, arith, if◌then◌else◌}
use Rattle.std.proofs.lemmas.Bool.{and_parts, leb-true, ltb-true}
use Rattle.std.specs.Option.{ForSome}
use Rattle.trick_input.specs.declared.call.Call.{Call}
use Rattle.trick_input.specs.declared.call.Form.{Form}
use Rattle.trick_input.specs.declared.call.Form.TheVariants as form
use Rattle.trick_input.specs.declared.call.RunForm.TheVariants as run
use Rattle.trick_base.specs.Time.{tic_limit}
use Rattle.trick_model.specs.Valid.{IsCycle, IsFrame}
use Rattle.trick_plan_settings.proofs.Lists.{Each, each_all}
use Rattle.trick_plan_settings.specs.Settings.{cycle_said, frame_of, frame_said, is_frame, later, latest, limit_of, limit_said, setting_of, settings_below, settings_by_number}
use Rattle.trick_plan_settings.specs.Threads.{HasCycle}

-- what may be said of a value that is there
abbrev IfThere : {A : Type 0} → (A → Type 0) → Option A → Type 0
IfThere P None = Unit {0}
IfThere P (Some x) = P x

there_some : {A : Type 0} (P : A → Type 0) (o : Option A) → IfThere P o → ForSome o P
there_some P None h x e = absurd (cc e)
there_some {A} P (Some y) h x e = moved e h
  where
    one : Some y ≡ Some x → y ≡ x
    one e = cc

    moved : Some y ≡ Some x → P y → P x
    moved e h = subst P (one e) h

latest_there : {A : Type 0} (P : A → Type 0) (said : Form → Option A) → ((f : Form) → IfThere P (said f)) → (before : Option A) → IfThere P before → (calls : List Call) → IfThere P (latest said before calls)
latest_there P said fits before h [] = h
latest_there {A} P said fits before h (call ∷ calls) = latest_there P said fits (later (said call.form) before) (by (said call.form) (fits call.form)) calls
  where
    by : (o : Option A) → IfThere P o → IfThere P (later o before)
    by None there = h
    by (Some x) there = there

or_else : (P : ℕ → Type 0) (o : Option ℕ) (d : ℕ) → IfThere P o → P d → P (unwrap_or o d)
or_else P None d there default = default
or_else P (Some x) d there default = there

-- ---- the run

frame_is : (tics : ℕ) → is_frame tics ≡ true → IsFrame tics
frame_is tics e =
    let parts = and_parts (nat_lt 0 tics) (nat_le tics 1000000000) e in
    let some = ltb-true 0 tics parts.0 in
    let few = leb-true tics 1000000000 parts.1 in
    record { some = omega (arith, some); in_range = omega (arith, few) }

frame_fits : (f : Form) → IfThere IsFrame (frame_said f)
frame_fits (form.Run (run.SoftwareFrame (Ok tics))) = by (is_frame tics) refl
  where
    by : (b : Bool) → is_frame tics ≡ b → IfThere IsFrame (let none : Option ℕ = None in if b then Some tics else none)
    by true e = frame_is tics e
    by false e = tt
frame_fits other = tt

pub frame_right : (calls : List Call) → IsFrame (frame_of calls)
frame_right calls =
    or_else IsFrame (latest frame_said None calls) 1000000 (latest_there IsFrame frame_said frame_fits None tt calls) (record { some = omega arith; in_range = omega arith })

abbrev IsLimit : ℕ → Type 0
IsLimit limit = limit ≤ tic_limit + 1

limit_fits : (f : Form) → IfThere IsLimit (limit_said f)
limit_fits (form.Run (run.Stop (Ok tics))) = by (nat_le tics tic_limit) refl
  where
    by : (b : Bool) → nat_le tics tic_limit ≡ b → IfThere IsLimit (let none : Option ℕ = None in if b then Some (tics + 1) else none)
    by true e = let few = leb-true tics tic_limit e in omega (arith, few)
    by false e = tt
limit_fits other = tt

pub limit_right : (calls : List Call) → limit_of calls ≤ tic_limit + 1
limit_right calls =
    or_else IsLimit (latest limit_said None calls) (tic_limit + 1) (latest_there IsLimit limit_said limit_fits None tt calls) (omega arith)

-- ---- threads

cycle_fits : (number : ℕ) (f : Form) → IfThere IsCycle (cycle_said number f)
cycle_fits number (form.Run (run.AmfCycle thread (Ok tics))) = by ((thread == number) && (nat_lt 0 tics && nat_le tics tic_limit)) refl
  where
    by : (b : Bool) → ((thread == number) && (nat_lt 0 tics && nat_le tics tic_limit)) ≡ b → IfThere IsCycle (let none : Option ℕ = None in if b then Some tics else none)
    by true e =
        let parts = and_parts (thread == number) (nat_lt 0 tics && nat_le tics tic_limit) e in
        let rest = and_parts (nat_lt 0 tics) (nat_le tics tic_limit) parts.1 in
        let some = ltb-true 0 tics rest.0 in
        let few = leb-true tics tic_limit rest.1 in
        record { some = omega (arith, some); in_range = few }
    by false e = tt
cycle_fits number other = tt

has_cycle : (calls : List Call) (number : ℕ) → HasCycle (setting_of calls number)
has_cycle calls number = there_some IsCycle (latest (cycle_said number) None calls) (latest_there IsCycle (cycle_said number) (cycle_fits number) None tt calls)

each_last : {X : Type 0} (P : X → Type 0) (xs : List X) (x : X) → Each P xs → P x → Each P (xs ++ x ∷ [])
each_last P [] x h l = (l, tt)
each_last P (y ∷ ys) x h l = (h.0, each_last P ys x h.1 l)

cycles_below : (calls : List Call) (count : ℕ) → Each HasCycle (settings_below calls count)
cycles_below calls zero = tt
cycles_below calls (suc count) = each_last HasCycle (settings_below calls count) (setting_of calls count) (cycles_below calls count) (has_cycle calls count)

pub cycles_right : (calls : List Call) → All HasCycle (settings_by_number calls)
cycles_right calls = each_all HasCycle (settings_by_number calls) (cycles_below calls 16)
