use Rattle.std.proofs.Common.{Ok, List, ap, ◌∙◌, sym, subst, map}
use Rattle.trick_body_symbols.specs.Symbols.{Token, number_of}
use Rattle.trick_grammar.specs.Gives.{class_of}
use Rattle.trick_grammar.specs.Text.{read_all}
use Rattle.trick_lang.specs.Syntax.{definition_of, definitions_of}
use Rattle.trick_lang.specs.declared.syntax.definition.Definition.{Definition}
use Rattle.trick_sdef_classes.proofs.Holds as fact
use Rattle.trick_sdef.proofs.Refused.{tree_read}
use Rattle.trick_sdef.proofs.reader.whole_of.Goals as goal
use Rattle.trick_sdef_classes.specs.Profile.{IsAnswer, file}

pub invariant_of-result : goal.invariant_of-result
invariant_of-result c =
    let text = c.args.read.text.now in
    let ts = c.args.read.tokens.now in
    let ds = definitions_of c.from_vec.result in
    let read = ap (λ (us : List Token). read_all number_of class_of (file text) us) (sym c.requires.lexemes)
    ∙ (c.requires.read ∙ ap (λ (all : List Definition). Ok (map definition_of all)) (sym c.from_vec.ensures)) in
    let answer : IsAnswer text ts (Ok ds) = tree_read text ts c.from_vec.result read in
    record {
      short_names = fact.short_names text ts ds c.requires.cut answer;
      spelled_names = fact.spelled_names text ts ds c.requires.cut answer;
      no_keyword = fact.no_keyword text ts ds c.requires.cut answer;
      no_trick = fact.no_trick text ts ds c.requires.cut answer;
      short_lists = fact.short_lists text ts ds c.requires.cut answer;
      some_items = fact.some_items text ts ds c.requires.cut answer;
      some_declarators = fact.some_declarators text ts ds c.requires.cut answer;
      right_lengths = fact.right_lengths text ts ds c.requires.cut answer;
      right_values = fact.right_values text ts ds c.requires.cut answer;
      right_times = fact.right_times text ts ds c.requires.cut answer;
      right_threads = fact.right_threads text ts ds c.requires.cut answer;
      right_phases = fact.right_phases text ts ds c.requires.cut answer;
      short_loops = fact.short_loops text ts ds c.requires.cut answer;
    }
