-- The two texts of a generated simulation, as files.
use Rattle.std.specs.Prelude.{ℕ, List, ◌++◌, codes}
use Rattle.trick_base.specs.Files.{Write}
use Rattle.trick_gen.specs.Texts.{definition_text, input_text}
use Rattle.trick_model.specs.Turn.{file_writes}
use Rattle.trick_outside.specs.Calls.{Call}
use Rattle.trick_exec_tic.specs.Steps.{steps_of}

-- both texts, each in a file of its own, the S_define first
abbrev pub both_writes : (definition input : List ℕ) → List Write
both_writes definition input = file_writes (codes "gen.S_define") definition ++ file_writes (codes "gen_input.py") input

-- what is written before a run with so many objects
abbrev pub text_writes : ℕ → List Write
text_writes objects = both_writes (definition_text objects) input_text

-- its calls of the shelf
abbrev pub text_steps : ℕ → List Call
text_steps objects = steps_of (text_writes objects)
