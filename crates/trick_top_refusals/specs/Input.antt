-- The lines of what an input is refused for.
use Rattle.std.specs.Prelude.{ℕ, List, codes}
use Rattle.trick_input.specs.declared.fault.InputFault.{InputFault}
use Rattle.trick_input.specs.declared.fault.InputFault.TheVariants.{Text, Expected, NotInProfile}
use Rattle.trick_input.specs.declared.fault.InputFault.TheVariants.{BadLiteral, OutOfMemory}
use Rattle.trick_top_refusals.specs.Line.{input, out_of_memory, refused_at}
use Rattle.trick_top_refusals.specs.Texts.{text_line}

abbrev pub input_line : InputFault → List ℕ
input_line (Text fault) = text_line input fault
input_line (Expected line) = refused_at (codes "Expected") input line
input_line (NotInProfile line) = refused_at (codes "NotInProfile") input line
input_line (BadLiteral line) = refused_at (codes "BadLiteral") input line
input_line OutOfMemory = out_of_memory
