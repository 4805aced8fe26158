use Rattle.std.proofs.Common.{◌≡◌, ◌+◌, ◌+ℤ◌, ◌++◌, ◌∙◌, pos, drop, subst, ap, ℤ, FitsSigned, rules}
use Rattle.std.specs.Int.{w128, w32}
use Rattle.std.proofs.lemmas.Int.{to_z-of_z}
use mir.Val.{to_z}
use Rattle.trick_lang.specs.Syntax.{items_of}
use Rattle.trick_check_names.proofs.Definitions.{items_next}
use Rattle.trick_check_names.proofs.Noted.{noted_next}
use Rattle.trick_check_names.proofs.members.add_items.Goals as goal
use Rattle.trick_check_names.specs.FileMistakes.{item_mistakes, value_mistakes}
use Rattle.trick_check_names.specs.Mistakes.{noted, twice}
use Rattle.trick_check_names.specs.Names.{with_name}
use Rattle.trick_check_names.specs.Tables.{with_items, item_value, taken_value, int_or_zero}
use Rattle.trick_check_names.specs.declared.tables.Global.TheVariants.{Item}

pub loop-item-preserved : goal.loop-item-preserved
loop-item-preserved c =
    let xs = c.args.items.now in
    let i = c.loop-item.item-index in
    let item = c.item-item.result in
    let known = c.loop-item.names in
    let n = to_z w128 c.loop-item.next-bits in
    let next = items_next xs i item c.loop-item-test.true c.item-item.is in
    let rest = items_of (drop (i + 1) xs) in
    let v = item_value item.value n in
    let t = taken_value item.value n in
    let more = with_name item.name (Item t) known in
    let f : FitsSigned w128 c.value-written.result = search rules in
    let g : FitsSigned w32 c.int-taken.result = search rules in
    let h : FitsSigned w128 c.following-next.result = search rules in
    let taken : c.int-taken.result ≡ t = (simp to_z-of_z at c.int-taken.ensures) ∙ ap int_or_zero c.value-written.ensures in
    let behind : c.following-next.result ≡ t +ℤ pos 1 = (simp to_z-of_z at c.following-next.ensures) ∙ ap (λ (z : ℤ). z +ℤ pos 1) taken in
    let after : to_z w128 (mir.Val.of_z w128 c.following-next.result) ≡ t +ℤ pos 1 = to_z-of_z w128 c.following-next.result h ∙ behind in
    let held = to_z-of_z w32 c.int-taken.result g ∙ taken in
    let added : c.declare.new.names ≡ more = c.in_ok-declare.ensures.names ∙ ap (λ (z : ℤ). with_name item.name (Item z) known) held in
    let valued : c.note_value.new.found ≡ noted (value_mistakes item.line v) c.declare.new.found =
    c.note_value.ensures ∙ ap (λ (z : ℤ). noted (value_mistakes item.line z) c.declare.new.found) (to_z-of_z w128 c.value-written.result f ∙ c.value-written.ensures) in
    let names = subst (λ q. with_items q n known ≡ with_items (items_of xs) (pos 0) c.args.names.now) next c.loop-item.invariant.names in
    let told = subst (λ q. noted (item_mistakes q n known) c.loop-item.found ≡ noted (item_mistakes (items_of xs) (pos 0) c.args.names.now) c.args.found.now) next c.loop-item.invariant.told in
    let left = item_mistakes rest (t +ℤ pos 1) more in
    let declared = noted_next (twice item.name known) (value_mistakes item.line v ++ left) c.loop-item.found c.declare.new.found _ told c.in_ok-declare.ensures.found in
    let all = noted_next (value_mistakes item.line v) left c.declare.new.found c.note_value.new.found _ declared valued in
    record {
      names = ap (λ (z : ℤ). with_items rest z c.declare.new.names) after ∙ (ap (with_items rest (t +ℤ pos 1)) added ∙ names);
      told = ap (λ (z : ℤ). noted (item_mistakes rest z c.declare.new.names) c.note_value.new.found) after ∙ (ap (λ ms. noted (item_mistakes rest (t +ℤ pos 1) ms) c.note_value.new.found) added ∙ all);
    }
