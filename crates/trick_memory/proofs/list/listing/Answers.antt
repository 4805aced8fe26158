use Rattle.std.proofs.Common.{rules, ◌≡◌, ◌++◌, ◌∙◌, ap, sym, ◌+◌, ◌∷◌, [], List, map, drop, slice_index_or, append_assoc, append-nil}
use Rattle.std.proofs.lemmas.List.{drop_all, drop_more, map-append}
use Rattle.std.proofs.lemmas.Result.{IfOk-weaker}
use Rattle.serde_json.proofs.Views.{view-Array}
use Rattle.serde_json.specs.Data.{Data, array}
use Rattle.serde_json.specs.View.{view, items_of}
use Rattle.serde_json.specs.Written.{compact_text, has_float}
use Rattle.trick_memory.proofs.Entries.{data_of, datas, datas_end, datas_next, listing_no_float, listing_written}
use Rattle.trick_memory.proofs.list.listing.Goals as goal

pub loop-variable-preserved : goal.loop-variable-preserved
loop-variable-preserved c =
    let cells = c.args.plan.now.program.cells in
    let i = c.loop-variable.variable-index in
    let before = map view c.loop-variable.entries.items in
    let after = datas (i + 1) (drop (i + 1) cells) in
    let variable = c.variable-item.result in
    let items : c.push.new.self.items ≡ c.loop-variable.entries.items ++ c.in_ok-entry.entry ∷ [] = c.in_ok-push.ensures.items in
    let cell : slice_index_or cells i variable ≡ variable = search rules in
    let rest = drop_more cells i variable (search (rules, c.loop-variable-test.true)) in
    let seen : view c.in_ok-entry.entry ≡ data_of i variable = search (rules, c.loop-variable.invariant.count) in
    record {
      count = search (rules, c.loop-variable.invariant.count);
      so_far = rw (items, map-append view c.loop-variable.entries.items (c.in_ok-entry.entry ∷ []), seen)
          (append_assoc before (data_of i variable ∷ []) after
          ∙ rw (rest, cell, datas_next i variable (drop (i + 1) cells)) at c.loop-variable.invariant.so_far);
    }

pub returns : goal.returns
returns c =
    let cells = c.args.plan.now.program.cells in
    let i = c.loop-variable.variable-index in
    let none = drop_all i cells (search (rules, c.loop-variable-test.false)) in
    let all : map view c.loop-variable.entries.items ≡ datas 0 cells =
    sym (append-nil (map view c.loop-variable.entries.items)) ∙ rw (none, datas_end i) at c.loop-variable.invariant.so_far in
    let seen = view-Array c.loop-variable.entries ∙ ap (λ (ds : List Data). array (items_of ds)) all in
    IfOk-weaker c.to_vec.result _ _ (λ v h. h (ap has_float seen ∙ listing_no_float 0 cells)
    ∙ (ap compact_text seen ∙ listing_written cells)) c.to_vec.ensures.text
