use Rattle.std.proofs.Common.{◌≡◌, drop, pos}
use Rattle.trick_lang.specs.Syntax.{items_of}
use Rattle.trick_check_names.proofs.members.add_items.Given as goal
use Rattle.trick_check_names.specs.FileMistakes.{item_mistakes}
use Rattle.trick_check_names.specs.Mistakes.{noted}
use Rattle.trick_check_names.specs.Tables.{with_items}

-- what is left adds and finds from here what all add and find from the start
abbrev pub invariant-loop-item : goal.invariant-loop-item
invariant-loop-item l =
    let rest = items_of (drop l.item-index l.items) in
    record {
      names : with_items rest l.next l.names ≡ with_items (items_of l.items) (pos 0) l.fn.names;
      told : noted (item_mistakes rest l.next l.names) l.found ≡ noted (item_mistakes (items_of l.items) (pos 0) l.fn.names) l.fn.found;
    }
