-- The lines of what an S_define is refused for.
use Rattle.std.specs.Prelude.{ℕ, List, codes}
use Rattle.trick_top_refusals.specs.Line.{out_of_memory, refused_above, refused_at, s_define}
use Rattle.trick_top_refusals.specs.Texts.{text_line, time_line}
use Rattle.trick_sdef.specs.declared.fault.SdefFault.{SdefFault}
use Rattle.trick_sdef.specs.declared.fault.SdefFault.TheVariants.{Text, Expected, NotInProfile, LoopBound}
use Rattle.trick_sdef.specs.declared.fault.SdefFault.TheVariants.{LongList, Time, OutOfMemory}

abbrev pub s_define_line : SdefFault → List ℕ
s_define_line (Text fault) = text_line s_define fault
s_define_line (Expected line) = refused_at (codes "Expected") s_define line
s_define_line (NotInProfile line) = refused_at (codes "NotInProfile") s_define line
s_define_line (LoopBound line) = refused_at (codes "LoopBound") s_define line
s_define_line (LongList line limit) = refused_above (codes "LongList") s_define line limit
s_define_line (Time fault) = time_line s_define fault
s_define_line OutOfMemory = out_of_memory
