-- The lines of the faults of a text before it is read, and of times.
use Rattle.std.specs.Prelude.{ℕ, List, codes}
use Rattle.trick_top_refusals.specs.Line.{out_of_memory, refused_at}
use Rattle.trick_text.specs.declared.fault.TextFault.{TextFault}
use Rattle.trick_text.specs.declared.fault.TextFault.TheVariants.{LongText, BadByte, OpenComment}
use Rattle.trick_text.specs.declared.fault.TextFault.TheVariants.{LongNumber, OutOfMemory}
use Rattle.trick_text.specs.declared.fault.TimeFault.{TimeFault}
use Rattle.trick_text.specs.declared.fault.TimeFault.TheVariants.{InexactTime, TimeTooLarge}

-- A text that is too long has no place, so its limit stands alone.
abbrev pub text_line : List ℕ → TextFault → List ℕ
text_line source (LongText limit) = refused_at (codes "LongText") source limit
text_line source (BadByte at) = refused_at (codes "BadByte") source at
text_line source (OpenComment at) = refused_at (codes "OpenComment") source at
text_line source (LongNumber at) = refused_at (codes "LongNumber") source at
text_line source OutOfMemory = out_of_memory

abbrev pub time_line : List ℕ → TimeFault → List ℕ
time_line source (InexactTime line) = refused_at (codes "InexactTime") source line
time_line source (TimeTooLarge line) = refused_at (codes "TimeTooLarge") source line
