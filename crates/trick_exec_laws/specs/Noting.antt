-- Turns do the same under what they note.
use Rattle.std.specs.Prelude.{◌≡◌, List}
use Rattle.trick_model.specs.Files.{turns_said, turns_writes}
use Rattle.trick_model.specs.Plan.{Plan}
use Rattle.trick_model.specs.Run.{after_turns}
use Rattle.trick_model.specs.State.{World}
use Rattle.trick_model.specs.declared.entry.Entry.{Entry}
use Rattle.trick_exec_laws.specs.Left.{journal_lists}

-- Turns that are given what they note in place of these lists come to the same world, and write and say the same.
pub record DoAsNoted (p : Plan) (w : World) (lists : List (List Entry)) : Type 0 where
  pub worlds : after_turns p w (journal_lists p w lists) ≡ after_turns p w lists
  pub writes : turns_writes p w (journal_lists p w lists) ≡ turns_writes p w lists
  pub said : turns_said p w (journal_lists p w lists) ≡ turns_said p w lists

-- So do all turns: publications that do not count, and the order of lines and publications, change nothing.
abbrev pub NotedDoSame : Type 0
NotedDoSame = (p : Plan) (w : World) (lists : List (List Entry)) → DoAsNoted p w lists
