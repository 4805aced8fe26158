use Rattle.std.proofs.Common.{◌≡◌, None, drop}
use Rattle.trick_plan_settings.proofs.Gathering.{each_latest}
use Rattle.trick_plan_settings.proofs.settings.said_in.Given as goal
use Rattle.trick_plan_settings.specs.Settings.{frame_said, frozen_said, latest, limit_said, settings_by_number}

-- what the lines that are left say, over what those before them say, is what all say
abbrev pub invariant-loop-call : goal.invariant-loop-call
invariant-loop-call l = record {
  frame : latest frame_said l.said.frame (drop l.call-index l.calls) ≡ latest frame_said None l.calls;
  limit : latest limit_said l.said.limit (drop l.call-index l.calls) ≡ latest limit_said None l.calls;
  frozen : latest frozen_said l.said.frozen (drop l.call-index l.calls) ≡ latest frozen_said None l.calls;
  threads : each_latest 0 (drop l.call-index l.calls) l.said.threads ≡ settings_by_number l.calls;
}
