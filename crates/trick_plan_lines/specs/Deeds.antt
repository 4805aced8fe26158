-- What actions ask for at their lines, and after all lines.
use Rattle.std.specs.Prelude.{ℕ, List, take, Ok}
use Rattle.trick_plan_draft.specs.Jobs.{Jobs}
use Rattle.trick_plan_draft.specs.Laws.{KeepsDeeds}
use Rattle.trick_plan_draft.specs.declared.draft.Draft.{Draft}
use Rattle.trick_input.specs.declared.call.Call.{Call}
use Rattle.trick_plan_lines.specs.Drafted.{Drafted}
use Rattle.trick_plan_settings.specs.declared.settings.Settings.{Settings}

-- What an action asks for after some first lines it asks for after all of them, too: a name keeps what it stands for.
abbrev pub DeedsStay : Jobs → Settings → List Call → Draft → Draft → Type 0
DeedsStay jobs settings calls start last =
    (count : ℕ) (d : Draft) → Drafted jobs settings (take count calls) start (Ok d) → KeepsDeeds jobs d last
