use Rattle.std.proofs.Common.{◌≡◌, ◌+◌, ◌-◌, List, [], ◌∷◌, sym, ap, ◌∙◌, arith, vec_len, subst, Ok}
use Rattle.std.proofs.lemmas.List.{map-id}
use Rattle.trick_grammar.proofs.Trailing.{Separating, separating_next, separating_full, separating_last, separating_end}
use Rattle.trick_grammar.specs.Reading.{prefixed, read}
use Rattle.trick_grammar.specs.Gives.{class_of}
use Rattle.trick_grammar_example.specs.Statements.{item, items_behind}
use Rattle.trick_grammar_example.specs.Words.{number_of, Token}
use Rattle.trick_grammar_example.specs.declared.word.Word.TheVariants.{Name, Comma}
use Rattle.trick_grammar_example.proofs.lists.read_more_items.Goals as goal

pub returns-then-not-next_is : goal.returns-then-not-next_is
returns-then-not-next_is c =
    let l = c.loop-rest in
    separating_last number_of [] Comma (Name ∷ []) [] item (λ x. x) (c.args.limit - 1) _ l.found.items (vec_len l.found) l.rest.now c.in_ok-after.field-0-0.now c.in_ok-after.after.now l.invariant (sym c.loop-rest-test.ensures) c.in_ok-after.ensures (sym c.if-not-next_is.ensures)
    ∙ ap (λ (xs : List Token). Ok (xs, c.in_ok-after.after.now)) (map-id l.found.items)

pub returns-then-len-limit : goal.returns-then-len-limit
returns-then-len-limit c =
    let l = c.loop-rest in
    separating_full number_of [] Comma (Name ∷ []) [] item (λ x. x) (c.args.limit - 1) _ l.found.items (vec_len l.found) l.rest.now c.in_ok-after.field-0-0.now c.in_ok-after.after.now l.invariant (omega (arith, c.len.ensures)) (sym c.loop-rest-test.ensures) c.in_ok-after.ensures (sym c.if-not-next_is.ensures)

pub loop-rest-preserved : goal.loop-rest-preserved
loop-rest-preserved c =
    let l = c.loop-rest in
    let len : vec_len c.push-in-loop-rest.new.self ≡ vec_len l.found + 1 = c.in_ok-push-2.ensures.len in
    subst (λ k. Separating number_of [] Comma (Name ∷ []) [] item (λ x. x) (c.args.limit - 1) (prefixed (c.args.first ∷ []) (read number_of class_of [] (items_behind (c.args.limit - 1)) c.args.rest.now)) c.push-in-loop-rest.new.self.items k c.in_ok-item.after.now) (sym len)
    (separating_next number_of [] Comma (Name ∷ []) [] item (λ x. x) (c.args.limit - 1) _ l.found.items c.push-in-loop-rest.new.self.items (vec_len l.found) l.rest.now c.in_ok-after.field-0-0.now c.in_ok-after.after.now c.in_ok-item.item.now c.in_ok-item.after.now l.invariant (omega (arith, c.len.ensures)) (sym c.loop-rest-test.ensures) c.in_ok-after.ensures (sym c.if-not-next_is.ensures) c.in_ok-item.ensures c.in_ok-push-2.ensures.items)

pub returns : goal.returns
returns c =
    let l = c.loop-rest in
    separating_end number_of [] Comma (Name ∷ []) [] item (λ x. x) (c.args.limit - 1) _ l.found.items (vec_len l.found) l.rest.now l.invariant (sym c.loop-rest-test.ensures)
    ∙ ap (λ (xs : List Token). Ok (xs, l.rest.now)) (map-id l.found.items)
