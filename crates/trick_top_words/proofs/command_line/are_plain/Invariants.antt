use Rattle.std.proofs.Common.{◌≡◌, drop, map}
use Rattle.std.specs.List.{list_all}
use Rattle.trick_top_words.specs.Plain.{is_plain}
use Rattle.trick_top_words.proofs.command_line.are_plain.Given as goal

abbrev pub invariant-loop-word : goal.invariant-loop-word
invariant-loop-word l =
    list_all is_plain (map (λ w. w.now) (drop l.word-index l.words)) ≡ list_all is_plain (map (λ w. w.now) l.words)
