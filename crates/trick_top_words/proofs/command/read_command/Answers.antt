use Rattle.std.proofs.Common.{◌≡◌, ◌∙◌, ap, sym, subst, map, List, Bor}
use Rattle.std.specs.List.{All}
use Rattle.std.specs.Str.{IsUtf8}
use Rattle.trick_top_words.specs.CommandLine.{Text}
use Rattle.trick_top_words.specs.Reads.{IsUsage, Reads}
use Rattle.trick_top_words.proofs.Values.{no_line, read_as, whole}
use Rattle.trick_top_words.proofs.command.read_command.Goals as goal

abbrev now_of : List (Bor Text) → List Text
now_of texts = map (λ text. text.now) texts

pub read-requires : goal.read-requires
read-requires c =
    let texts = rw c.in-Some.is at c.in_ok-texts.ensures in
    let words : now_of c.deref.result.now ≡ c.args.words.now = ap now_of c.deref.ensures.value ∙ texts.1 in
    record { texts = subst (All IsUtf8) (sym words) texts.0 }

pub command_of-requires : goal.command_of-requires
command_of-requires c =
    let reads = rw c.in-Some-2.is at c.in_ok-matches.ensures in
    whole _ c.in-Some-2.matches reads

pub returns-in-Some-2 : goal.returns-in-Some-2
returns-in-Some-2 c =
    let texts = rw c.in-Some.is at c.in_ok-texts.ensures in
    let words : now_of c.deref.result.now ≡ c.args.words.now = ap now_of c.deref.ensures.value ∙ texts.1 in
    let reads : Reads (now_of c.deref.result.now) c.in-Some-2.matches = rw c.in-Some-2.is at c.in_ok-matches.ensures in
    read_as _ c.in-Some-2.matches c.command_of.result texts.0 (subst (λ (ws : List Text). Reads ws c.in-Some-2.matches) words reads) c.command_of.ensures

pub returns : goal.returns
returns c =
    let texts = rw c.in-Some.is at c.in_ok-texts.ensures in
    let words : now_of c.deref.result.now ≡ c.args.words.now = ap now_of c.deref.ensures.value ∙ texts.1 in
    let usage : IsUsage (now_of c.deref.result.now) = rw c.in-None.is at c.in_ok-matches.ensures in
    no_line _ (subst IsUsage words usage)
