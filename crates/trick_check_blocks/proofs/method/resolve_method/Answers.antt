use Rattle.std.proofs.Common.{◌≡◌, ◌+◌, ◌-◌, length, take, drop, ap, sym, ◌∙◌}
use Rattle.trick_check_blocks.proofs.Rows.{bodies_many, codes_new, take_rest}
use Rattle.trick_check_blocks.proofs.method.resolve_method.Goals as goal
use Rattle.trick_check_blocks.specs.Bodies.{with_bodies}
use Rattle.trick_check_blocks.specs.Codes.{all_count}
use Rattle.trick_check_blocks.specs.Held.{bodies_of}
use Rattle.trick_check_blocks.specs.Methods.{block_slots, body_blocks, progress, world_with}
use Rattle.trick_lang.specs.Syntax.{method_of, statements_of_list}
use Rattle.trick_lang.specs.TreeOf.{codes_of}
use Rattle.trick_check_names.specs.Names.{with_name}

pub returns : goal.returns
returns c =
    let w = c.args.scope.now in
    let old = c.args.blocks.now.items in
    let new = c.add_body.new.blocks.items in
    let m = method_of c.args.method.now in
    let n = length old in
    let body = ap statements_of_list c.as_slice.ensures in
    let blocks : bodies_of new ≡ with_bodies w.class (body_blocks m.body w n) (bodies_of old) = c.in_ok-number.ensures.blocks ∙ ap (λ q. with_bodies w.class (body_blocks q w n) (bodies_of old)) body in
    let behind : take (length c.deref.result.now - c.count_of-first.result) (drop c.count_of-first.result c.deref.result.now) ≡ drop n new =
    ap (λ xs. take (length xs - c.count_of-first.result) (drop c.count_of-first.result xs)) c.deref.ensures.value
    ∙ (ap (λ k. take (length new - k) (drop k new)) c.count_of-first.ensures ∙ take_rest n new) in
    let slots : c.in_ok-slots.slots ≡ block_slots (body_blocks m.body w n) w.slots =
    c.in_ok-slots.ensures ∙ ap (λ xs. block_slots xs w.slots) (ap codes_of behind ∙ codes_new w.class (body_blocks m.body w n) old new blocks) in
    let methods : c.add.new.self ≡ with_name m.name (n + all_count m.body) w.methods =
    c.in_ok-add.ensures.known ∙ ap (λ k. with_name m.name k w.methods) (c.in_ok-number.ensures.number ∙ ap (λ q. n + all_count q) body) in
    ap (λ q. progress (record w { methods = q; slots = c.in_ok-slots.slots }) (bodies_of new)) methods
    ∙ (ap (λ q. progress (record w { methods = with_name m.name (n + all_count m.body) w.methods; slots = q }) (bodies_of new)) slots
    ∙ (ap (progress (world_with m w n)) blocks
    ∙ ap (λ k. progress (world_with m w k) (with_bodies w.class (body_blocks m.body w k) (bodies_of old))) (sym (bodies_many old))))
