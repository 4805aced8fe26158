-- Lines one after another: what they say of each thread.
use Rattle.std.proofs.Common.{rules, ◌≡◌, ◌≢◌, ◌∙◌, ℕ, zero, suc, ◌+◌, ◌≤◌, ◌<◌, ◌==◌, ◌&&◌, Bool, true, false, nat_eq, nat_lt, nat_le, List, [], ◌∷◌, length, get_or, set, Option, Some, None, Ok, refl, sym, ap, ap₂, arith, if◌then◌else◌}
use Rattle.trick_base.specs.Time.{tic_limit}
use Rattle.trick_input.specs.declared.call.Call.{Call}
use Rattle.trick_input.specs.declared.call.Form.{Form}
use Rattle.trick_input.specs.declared.call.Form.TheVariants as form
use Rattle.trick_input.specs.declared.call.RunForm.TheVariants as run
use Rattle.trick_model.specs.declared.thread.Process.{Process}
use Rattle.trick_plan_settings.specs.Settings.{changed, cycle_said, frame_said, frozen_said, later, latest, limit_said, over, process_said, said_in, settings_by_number, threads_after}
use Rattle.trick_plan_settings.specs.declared.said.Said.{Said}
use Rattle.trick_plan_settings.specs.declared.setting.Setting.{Setting}

-- ---- an item that is changed

changed_at : (change : Setting → Setting) (settings : List Setting) (place : ℕ) (d : Setting) → place < length settings
    → set settings place (change (get_or settings place d)) ≡ changed change settings place
changed_at change [] place d there = absurd (omega (arith, there))
changed_at change (s ∷ settings) zero d there = refl
changed_at change (s ∷ settings) (suc place) d there =
    ap (λ (rest : List Setting). s ∷ rest) (changed_at change settings place d (omega (arith, there)))

pub is_changed : (change : Setting → Setting) (settings all after : List Setting) (place : ℕ) (d item : Setting)
    → all ≡ settings → after ≡ set settings place item → item ≡ change (get_or all place d) → place < length settings
    → after ≡ changed change settings place
is_changed change settings all after place d item same is now there =
    is
    ∙ (ap (λ (x : Setting). set settings place x) (now ∙ ap (λ (xs : List Setting). change (get_or xs place d)) same)
    ∙ changed_at change settings place d there)

pub changed_past : (change : Setting → Setting) (settings : List Setting) (place : ℕ) → length settings ≤ place
    → settings ≡ changed change settings place
changed_past change [] place past = refl
changed_past change (s ∷ settings) zero past = absurd (omega (arith, past))
changed_past change (s ∷ settings) (suc place) past =
    ap (λ (rest : List Setting). s ∷ rest) (changed_past change settings place (omega (arith, past)))

-- ---- what is said of each thread, by its number

-- what the lines say of threads from a number on, over what was said of them before
abbrev pub each_latest : ℕ → List Call → List Setting → List Setting
each_latest number calls [] = []
each_latest number calls (s ∷ settings) =
    record {
      process = latest (process_said number) s.process calls;
      cycle = latest (cycle_said number) s.cycle calls;
    } ∷ each_latest (suc number) calls settings

-- what is said of threads from a number on, over what was said of them before
abbrev each_over : (ℕ → Option Process) → (ℕ → Option ℕ) → ℕ → List Setting → List Setting
each_over process cycle number [] = []
each_over process cycle number (s ∷ settings) =
    over (record { process = process number; cycle = cycle number }) s ∷ each_over process cycle (suc number) settings

module _ (process : ℕ → Option Process) (cycle : ℕ → Option ℕ) where
  -- over which nothing is said
  silent : (number : ℕ) (s : Setting) → process number ≡ None → cycle number ≡ None
      → s ≡ over (record { process = process number; cycle = cycle number }) s
  silent number s p c = rw (p, c) refl

  unsaid : (number : ℕ) → ((n : ℕ) → number ≤ n → process n ≡ None) → ((n : ℕ) → number ≤ n → cycle n ≡ None)
      → (settings : List Setting) → settings ≡ each_over process cycle number settings
  unsaid number p c [] = refl
  unsaid number p c (s ∷ settings) =
      ap₂ (λ (x : Setting) (rest : List Setting). x ∷ rest)
      (silent number s (p number (omega arith)) (c number (omega arith)))
      (unsaid (suc number) (λ n h. p n (omega (arith, h))) (λ n h. c n (omega (arith, h))) settings)

  -- what is said of one thread alone
  said_of_one : (thread : ℕ) (said : Setting) → process thread ≡ said.process → cycle thread ≡ said.cycle
      → ((n : ℕ) → n ≢ thread → process n ≡ None) → ((n : ℕ) → n ≢ thread → cycle n ≡ None)
      → (number place : ℕ) → number + place ≡ thread → (settings : List Setting)
      → changed (over said) settings place ≡ each_over process cycle number settings
  said_of_one thread said is_p is_c p c number place at [] = refl
  said_of_one thread said is_p is_c p c number zero at (s ∷ settings) =
      ap₂ (λ (x : Setting) (rest : List Setting). x ∷ rest) here
      (unsaid (suc number) (λ n h. p n (λ e. omega (arith, h, e, at))) (λ n h. c n (λ e. omega (arith, h, e, at))) settings)
    where
      here_it_is : number ≡ thread
      here_it_is = omega (arith, at)

      here : over said s ≡ over (record { process = process number; cycle = cycle number }) s
      here = rw (here_it_is, is_p, is_c) refl
  said_of_one thread said is_p is_c p c number (suc place) at (s ∷ settings) =
      ap₂ (λ (x : Setting) (rest : List Setting). x ∷ rest)
      (silent number s (p number (λ e. omega (arith, e, at))) (c number (λ e. omega (arith, e, at))))
      (said_of_one thread said is_p is_c p c (suc number) place (omega (arith, at)) settings)

-- ---- one more line

same : (a : ℕ) → nat_eq a a ≡ true
same a = search rules

other : (a b : ℕ) → a ≢ b → nat_eq b a ≡ false
other a b h = search rules

-- what a line says of threads, by their numbers
after : (f : Form) (settings : List Setting)
    → threads_after f settings ≡ each_over (λ n. process_said n f) (λ n. cycle_said n f) 0 settings
after (form.Run (run.ProcessType thread process)) settings =
    said_of_one (λ n. process_said n (form.Run (run.ProcessType thread process))) (λ n. None) thread
    (record { process = Some process; cycle = None }) (rw (same thread) refl) refl
    (λ n h. rw (other n thread h) refl) (λ n h. refl) 0 thread (omega arith) settings
after (form.Run (run.AmfCycle thread (Ok tics))) settings = by (nat_lt 0 tics && nat_le tics tic_limit) refl
  where
    by : (b : Bool) → (nat_lt 0 tics && nat_le tics tic_limit) ≡ b
        → (if b then changed (over (record { process = None; cycle = Some tics })) settings thread else settings)
        ≡ each_over (λ n. None) (λ n. cycle_said n (form.Run (run.AmfCycle thread (Ok tics)))) 0 settings
    by true e =
        said_of_one (λ n. None) (λ n. cycle_said n (form.Run (run.AmfCycle thread (Ok tics)))) thread
        (record { process = None; cycle = Some tics }) refl (rw (same thread, e) refl) (λ n h. refl)
        (λ n h. rw (other n thread h) refl) 0 thread (omega arith) settings
    by false e =
        unsaid (λ n. None) (λ n. cycle_said n (form.Run (run.AmfCycle thread (Ok tics)))) 0 (λ n h. refl)
        (λ n h. nothing (thread == n) e) settings
      where
        nothing : (b : Bool) → (nat_lt 0 tics && nat_le tics tic_limit) ≡ false
            → (if b && (nat_lt 0 tics && nat_le tics tic_limit) then Some tics else None) ≡ None
        nothing true e = rw e refl
        nothing false e = refl
after f settings = unsaid (λ n. process_said n f) (λ n. cycle_said n f) 0 (λ n h. refl) (λ n h. refl) settings

one_line : (number : ℕ) (call : Call) (calls : List Call) (settings : List Setting)
    → each_latest number calls (each_over (λ n. process_said n call.form) (λ n. cycle_said n call.form) number settings)
    ≡ each_latest number (call ∷ calls) settings
one_line number call calls [] = refl
one_line number call calls (s ∷ settings) =
    ap (λ (rest : List Setting). record {
      process = latest (process_said number) (later (process_said number call.form) s.process) calls;
      cycle = latest (cycle_said number) (later (cycle_said number call.form) s.cycle) calls;
    } ∷ rest) (one_line (suc number) call calls settings)

-- where what is left of the lines says all, so it does after one more line
pub goes_on : {A : Type 0} (said : Form → Option A) (before now all : Option A) (call : Call) (calls rest : List Call)
    → rest ≡ call ∷ calls → now ≡ later (said call.form) before → latest said before rest ≡ all
    → latest said now calls ≡ all
goes_on {A} said before now all call calls rest next is left =
    ap (λ (o : Option A). latest said o calls) is ∙ (ap (λ (lines : List Call). latest said before lines) (sym next) ∙ left)

pub threads_go_on : (before now all : List Setting) (call : Call) (calls rest : List Call) → rest ≡ call ∷ calls
    → now ≡ threads_after call.form before → each_latest 0 rest before ≡ all → each_latest 0 calls now ≡ all
threads_go_on before now all call calls rest next is left =
    ap (λ (settings : List Setting). each_latest 0 calls settings) (is ∙ after call.form before)
    ∙ (one_line 0 call calls before ∙ (ap (λ (lines : List Call). each_latest 0 lines before) (sym next) ∙ left))

-- ---- the last line

no_more : (number : ℕ) (settings : List Setting) → each_latest number [] settings ≡ settings
no_more number [] = refl
no_more number (s ∷ settings) = ap (λ (rest : List Setting). s ∷ rest) (no_more (suc number) settings)

abbrev of : Option ℕ → Option ℕ → Option Bool → List Setting → Said
of frame limit frozen threads = record { frame = frame; limit = limit; frozen = frozen; threads = threads }

-- what was said after the last line is what all lines say
pub all_said : (s : Said) (calls rest : List Call) → rest ≡ []
    → latest frame_said s.frame rest ≡ latest frame_said None calls
    → latest limit_said s.limit rest ≡ latest limit_said None calls
    → latest frozen_said s.frozen rest ≡ latest frozen_said None calls
    → each_latest 0 rest s.threads ≡ settings_by_number calls → s ≡ said_in calls
all_said s calls rest none frame limit frozen threads =
    ap (λ (o : Option ℕ). of o s.limit s.frozen s.threads) (by frame_said s.frame frame)
    ∙ (ap (λ (o : Option ℕ). of (said_in calls).frame o s.frozen s.threads) (by limit_said s.limit limit)
    ∙ (ap (λ (o : Option Bool). of (said_in calls).frame (said_in calls).limit o s.threads) (by frozen_said s.frozen frozen)
    ∙ ap (λ (all : List Setting). of (said_in calls).frame (said_in calls).limit (said_in calls).frozen all)
    (sym (no_more 0 s.threads) ∙ (ap (λ (lines : List Call). each_latest 0 lines s.threads) (sym none) ∙ threads))))
  where
    by : {A : Type 0} (said : Form → Option A) (now : Option A) → latest said now rest ≡ latest said None calls
        → now ≡ latest said None calls
    by {A} said now left = ap (λ (lines : List Call). latest said now lines) (sym none) ∙ left
