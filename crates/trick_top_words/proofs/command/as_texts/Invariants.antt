use Rattle.std.proofs.Common.{◌≡◌, map, take}
use Rattle.std.specs.List.{All}
use Rattle.std.specs.Str.{IsUtf8}
use Rattle.trick_top_words.proofs.command.as_texts.Given as goal

abbrev pub invariant-loop-word : goal.invariant-loop-word
invariant-loop-word l = record {
  texts : All IsUtf8 (take l.word-index l.words);
  same : map (λ text. text.now) l.texts.items ≡ take l.word-index l.words;
}
