-- The texts with which something is done.
use Rattle.std.specs.Prelude.{◌≡◌, ℕ, List, ◌∷◌, ◌++◌, Option, None, is_some, option_map, option_to_list}
use Rattle.trick_gen.specs.Texts.{definition_text, input_text}
use Rattle.trick_top_alone.specs.declared.sources.Contents as contents
use Rattle.trick_top_alone.specs.declared.sources.Sources as declared
use Rattle.trick_top_alone.specs.Words.{journal_of}
use Rattle.trick_top_words.specs.declared.command.Texts.{Texts}

-- The two texts of a simulation, that of the checkpoint from which a run goes on, and that of the journal under
-- which it runs, each of these two where there is one.
pub record Sources : Type 0 where
  pub s_define : List ℕ
  pub input : List ℕ
  pub from : Option (List ℕ)
  pub journal : Option (List ℕ)

-- the texts in the order in which they are read
abbrev pub texts_of : Sources → List (List ℕ)
texts_of given = given.s_define ∷ given.input ∷ (option_to_list given.from ++ option_to_list given.journal)

-- A command names such texts: there is that of a checkpoint, and that of a journal, just where it names one.
pub record AreNamed (about : Texts) (given : Sources) : Type 0 where
  pub from : is_some given.from ≡ is_some about.from
  pub journal : is_some given.journal ≡ is_some (journal_of about.task)

-- the texts that were read
abbrev pub contents_of : contents.Contents → Sources
contents_of given =
    record { s_define = given.s_define; input = given.input; from = given.from; journal = given.journal }

-- the texts that are lent
abbrev pub sources_of : declared.Sources → Sources
sources_of given = record {
  s_define = given.s_define.now;
  input = given.input.now;
  from = option_map (λ text. text.now) given.from;
  journal = option_map (λ text. text.now) given.journal;
}

-- the texts of a generated simulation
abbrev pub generated_sources : ℕ → Sources
generated_sources objects =
    record { s_define = definition_text objects; input = input_text; from = None; journal = None }
