use Rattle.std.proofs.Common.{◌≡◌, ◌∙◌, ◌+◌, ◌≤◌, ℕ, Bool, List, All, ap, ap₂, false, subst, sym, unwrap_or}
use Rattle.trick_base.specs.Time.{tic_limit}
use Rattle.trick_model.specs.Valid.{IsFrame}
use Rattle.trick_model.specs.declared.thread.Thread.{Thread}
use Rattle.trick_plan_settings.proofs.Ranges.{cycles_right, frame_right, limit_right}
use Rattle.trick_plan_settings.proofs.settings.settings_in.Goals as goal
use Rattle.trick_plan_settings.specs.Settings.{frame_of, frozen_of, limit_of, settings_by_number}
use Rattle.trick_plan_settings.specs.declared.said.Said.{Said}
use Rattle.trick_plan_settings.specs.declared.settings.Settings.{Settings}
use Rattle.trick_plan_settings.specs.Threads.{HasCycle, threads_of}
use Rattle.trick_plan_settings.specs.declared.setting.Setting.{Setting}

pub threads-requires-clause-frame : goal.threads-requires-clause-frame
threads-requires-clause-frame c =
    let frame : c.unwrap_or-frame.result ≡ frame_of c.args.calls.now =
    c.unwrap_or-frame.ensures ∙ ap (λ (said : Said). unwrap_or said.frame 1000000) c.in_ok-said.ensures in
    subst IsFrame (sym frame) (frame_right c.args.calls.now)

pub threads-requires-clause-cycles : goal.threads-requires-clause-cycles
threads-requires-clause-cycles c =
    let settings : c.as_slice.result.now ≡ settings_by_number c.args.calls.now =
    c.as_slice.ensures ∙ ap (λ (said : Said). said.threads) c.in_ok-said.ensures in
    subst (λ (all : List Setting). All HasCycle all) (sym settings) (cycles_right c.args.calls.now)

pub returns-clause-frame : goal.returns-clause-frame
returns-clause-frame c =
    let frame : c.unwrap_or-frame.result ≡ frame_of c.args.calls.now =
    c.unwrap_or-frame.ensures ∙ ap (λ (said : Said). unwrap_or said.frame 1000000) c.in_ok-said.ensures in
    subst IsFrame (sym frame) (frame_right c.args.calls.now)

pub returns-clause-limit : goal.returns-clause-limit
returns-clause-limit c =
    let limit : c.unwrap_or.result ≡ limit_of c.args.calls.now =
    c.unwrap_or.ensures ∙ ap (λ (said : Said). unwrap_or said.limit (tic_limit + 1)) c.in_ok-said.ensures in
    subst (λ (tic : ℕ). tic ≤ tic_limit + 1) (sym limit) (limit_right c.args.calls.now)

pub returns-clause-settings : goal.returns-clause-settings
returns-clause-settings c =
    let calls = c.args.calls.now in
    let jobs = c.args.program.now.jobs in
    let of : ℕ → ℕ → Bool → List Thread → Settings =
    λ frame limit frozen threads. record { frame = frame; limit = limit; frozen = frozen; threads = threads } in
    let found : List Thread = c.in_ok-threads.threads in
    let said = c.in_ok-said.ensures in
    let frame : c.unwrap_or-frame.result ≡ frame_of calls =
    c.unwrap_or-frame.ensures ∙ ap (λ (said : Said). unwrap_or said.frame 1000000) said in
    let limit : c.unwrap_or.result ≡ limit_of calls =
    c.unwrap_or.ensures ∙ ap (λ (said : Said). unwrap_or said.limit (tic_limit + 1)) said in
    let frozen : c.unwrap_or-2.result ≡ frozen_of calls =
    c.unwrap_or-2.ensures ∙ ap (λ (said : Said). unwrap_or said.frozen false) said in
    let settings : c.as_slice.result.now ≡ settings_by_number calls =
    c.as_slice.ensures ∙ ap (λ (said : Said). said.threads) said in
    let threads : found ≡ threads_of jobs (frame_of calls) (settings_by_number calls) =
    c.in_ok-threads.ensures.threads ∙ ap₂ (λ (f : ℕ) (all : List Setting). threads_of jobs f all) frame settings in
    ap (λ (f : ℕ). of f c.unwrap_or.result c.unwrap_or-2.result found) frame
    ∙ (ap (λ (l : ℕ). of (frame_of calls) l c.unwrap_or-2.result found) limit
    ∙ (ap (λ (z : Bool). of (frame_of calls) (limit_of calls) z found) frozen
    ∙ ap (λ (all : List Thread). of (frame_of calls) (limit_of calls) (frozen_of calls) all) threads))
