use Rattle.std.proofs.Common.{◌≡◌, drop}
use Rattle.trick_lang.specs.Syntax.{all_members_of}
use Rattle.trick_check_names.proofs.members.add_all_members.Given as goal
use Rattle.trick_check_names.specs.FileMistakes.{all_members_mistakes}
use Rattle.trick_check_names.specs.Mistakes.{noted}
use Rattle.trick_check_names.specs.Tables.{with_all_members}

-- what is left adds and finds from here what all add and find from the start
abbrev pub invariant-loop-written : goal.invariant-loop-written
invariant-loop-written l =
    let rest = all_members_of (drop l.written-index l.all) in
    record {
      members : with_all_members rest l.names l.members ≡ with_all_members (all_members_of l.all) l.names l.fn.members;
      told : noted (all_members_mistakes rest l.names l.members) l.found ≡ noted (all_members_mistakes (all_members_of l.all) l.names l.fn.members) l.fn.found;
    }
