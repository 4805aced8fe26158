use Rattle.std.proofs.Common.{◌≡◌, ◌∙◌, sym, ap₂, subst, get_or, ◌++◌, ◌∷◌, [], List, ℕ}
use Rattle.std.specs.List.{All}
use Rattle.std.specs.Str.{IsUtf8}
use Rattle.std.proofs.lemmas.List.{take_all, take_more}
use Rattle.std.proofs.lemmas.List.Elements.{All-push}
use Rattle.trick_top_words.proofs.Values.{map_push}
use Rattle.trick_top_words.proofs.command.as_texts.Goals as goal

pub returns-in_default : goal.returns-in_default
returns-in_default c all =
    let item = all c.loop-word.word-index c.word-item.result c.loop-word-test.true in
    let word : c.as_slice.result.now ≡ get_or c.args.words.now c.loop-word.word-index c.word-item.result = c.as_slice.ensures ∙ c.word-item.is in
    c.in_default.ensures.cases.0 (subst IsUtf8 (sym word) item)

pub loop-word-preserved : goal.loop-word-preserved
loop-word-preserved c =
    let more = take_more c.args.words.now c.loop-word.word-index c.word-item.result c.loop-word-test.true in
    let word : c.as_slice.result.now ≡ get_or c.args.words.now c.loop-word.word-index c.word-item.result = c.as_slice.ensures ∙ c.word-item.is in
    let utf8 : IsUtf8 (get_or c.args.words.now c.loop-word.word-index c.word-item.result) = subst IsUtf8 word c.in-Ok.ensures.cases.1 in
    record {
      texts = subst (All IsUtf8) (sym more) (All-push IsUtf8 _ _ c.loop-word.invariant.texts utf8);
      same = map_push c.loop-word.texts.items c.in-Ok.text c.push.new.self.items c.in_ok-push.ensures.items
          ∙ ap₂ (λ (texts : List (List ℕ)) (text : List ℕ). texts ++ text ∷ []) c.loop-word.invariant.same (c.in-Ok.ensures.cases.0 ∙ word)
          ∙ sym more;
    }

pub returns : goal.returns
returns c = (subst (All IsUtf8) (take_all _ _ c.loop-word-test.false) c.loop-word.invariant.texts, c.loop-word.invariant.same ∙ take_all _ _ c.loop-word-test.false)
