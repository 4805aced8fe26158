use Rattle.std.proofs.Common.{rules, ◌≡◌, ◌∙◌, ◌+◌, ◌-◌, ◌^◌, ◌<◌, ◌≤◌, ◌++◌, ◌∷◌, [], ap, take, length, slice_index_or, arith}
use Rattle.std.proofs.lemmas.List.{length-replicate, take_all}
use Rattle.trick_lang.specs.Effect.{scalars_of}
use Rattle.trick_memory.proofs.Found.{new_at}
use Rattle.trick_memory.proofs.Held.{few_bytes, offsets_more, parts_held, parts_seen, zeros_more}
use Rattle.trick_memory.proofs.Stores.{taken_name, taken_scalar}
use Rattle.trick_memory.proofs.memory.Memory.new.Goals as goal
use Rattle.trick_memory.specs.Packed.{room_of, width}
use Rattle.trick_model.specs.Valid.{cell_names}

pub push-requires : goal.push-requires
push-requires c =
    let cells = c.args.plan.now.program.cells in
    let i = c.loop-variable.variable-index in
    let variable = c.variable-item.result in
    let there : i < length cells = search (rules, c.loop-variable-test.true) in
    let cell : slice_index_or cells i variable ≡ variable = search rules in
    rw c.loop-variable.invariant.names (new_at cells i variable there cell c.args.plan.now.program.cell_names)

pub overflow_cast-start : goal.overflow_cast-start
overflow_cast-start c =
    let cells = c.args.plan.now.program.cells in
    let ss = c.loop-variable.scalars.items in
    let bytes = c.loop-variable.bytes.items in
    let long : room_of ss ≤ 524288 = rw c.loop-variable.invariant.scalars (few_bytes cells c.loop-variable.variable-index c.args.plan.now.program.cell_limit) in
    let count : length bytes ≡ room_of ss = ap length c.loop-variable.invariant.bytes ∙ length-replicate (room_of ss) 0 in
    let few : c.len-start.result < 2 ^ 32 = omega (arith, long, count, c.len-start.ensures, c.loop-variable.bytes.ok.0) in
    search (rules, few)

pub loop-variable-preserved : goal.loop-variable-preserved
loop-variable-preserved c =
    let cells = c.args.plan.now.program.cells in
    let i = c.loop-variable.variable-index in
    let variable = c.variable-item.result in
    let there : i < length cells = search (rules, c.loop-variable-test.true) in
    let cell : slice_index_or cells i variable ≡ variable = search rules in
    let ss = c.loop-variable.scalars.items in
    let bytes = c.loop-variable.bytes.items in
    let more : c.push-in-loop-variable.new.self.items ≡ ss ++ variable.scalar ∷ [] = c.in_ok-push-2.ensures.items in
    let count : length bytes ≡ room_of ss = ap length c.loop-variable.invariant.bytes ∙ length-replicate (room_of ss) 0 in
    let start : c.len-start.result ≡ room_of ss = omega (arith, count, c.len-start.ensures, c.loop-variable.bytes.ok.0) in
    let wide : c.width.result ≡ width variable.scalar = c.width.ensures in
    record {
      names = c.in_ok-push.ensures ∙ rw c.loop-variable.invariant.names (taken_name cells i variable there cell);
      scalars = c.in_ok-push-2.ensures.items ∙ rw c.loop-variable.invariant.scalars (taken_scalar cells i variable there cell);
      offsets = c.in_ok-push-3.ensures.items
          ∙ offsets_more c.loop-variable.offsets.items ss c.push-in-loop-variable.new.self.items variable.scalar c.len-start.result c.loop-variable.invariant.offsets more start;
      bytes = c.in_ok-resize.ensures.items
          ∙ zeros_more bytes ss c.push-in-loop-variable.new.self.items variable.scalar (c.len-start.result + c.width.result) (c.len-start.result + c.width.result - c.loop-variable.bytes.len)
          c.loop-variable.invariant.bytes more (omega (arith, start, wide)) (omega (arith, c.len-start.ensures, wide));
    }

pub invariant_of-result : goal.invariant_of-result
invariant_of-result c =
    let cells = c.args.plan.now.program.cells in
    let held = c.loop-variable in
    let count : c.loop-variable.variable-index ≡ length cells = search (rules, c.loop-variable-test.false, c.loop-variable.auto.variable-index-end) in
    let all : take c.loop-variable.variable-index cells ≡ cells = take_all c.loop-variable.variable-index cells (omega (arith, count)) in
    parts_held cells held.names held.scalars.items held.offsets.items held.bytes.items (held.invariant.names ∙ ap cell_names all)
    (held.invariant.scalars ∙ ap scalars_of all) held.invariant.offsets held.invariant.bytes c.args.plan.now.program.cell_limit

pub returns : goal.returns
returns c =
    let cells = c.args.plan.now.program.cells in
    let held = c.loop-variable in
    let count : c.loop-variable.variable-index ≡ length cells = search (rules, c.loop-variable-test.false, c.loop-variable.auto.variable-index-end) in
    let all : take c.loop-variable.variable-index cells ≡ cells = take_all c.loop-variable.variable-index cells (omega (arith, count)) in
    parts_seen cells held.names held.scalars.items held.offsets.items held.bytes.items (held.invariant.names ∙ ap cell_names all)
    (held.invariant.scalars ∙ ap scalars_of all) held.invariant.offsets held.invariant.bytes
