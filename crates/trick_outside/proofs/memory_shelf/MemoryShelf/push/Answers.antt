use Rattle.std.proofs.Common.{rules, ◌≡◌}
use Rattle.trick_outside.proofs.memory_shelf.MemoryShelf.push.Goals as goal

pub returns-clause-ok : goal.returns-clause-ok
returns-clause-ok c =
    let named : c.in_ok-name.name ≡ c.args.name.now = search rules in
    let copied : c.in_ok-bytes.bytes.items ≡ c.args.bytes.now = search rules in
    (record { name = c.in_ok-name.name; bytes = c.in_ok-bytes.bytes }, c.in_ok-push.ensures.items, named, copied)
