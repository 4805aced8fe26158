-- The ranges of cells, as the lines of a checkpoint write them.
use Rattle.std.proofs.Math.Nat.{le-add_right}
use Rattle.std.specs.Prelude.{ℕ, List, map}
use Rattle.trick_codes.specs.declared.range.Range.{Range}
use Rattle.trick_lang.specs.Effect.{scalars_of}
use Rattle.trick_lang.specs.Wrap.{scalar_at}
use Rattle.trick_lang.specs.declared.cells.Cell.{Cell}
use Rattle.trick_lang.specs.declared.scalar.Scalar.{Scalar}
use Rattle.trick_lang.specs.declared.scalar.Scalar.TheVariants as scalar
use Rattle.trick_model.specs.NameAt.{cell_name}
use Rattle.trick_model.specs.declared.plan.Plan.{Plan}

-- the numbers of a type
abbrev pub range_of : Scalar → Range
range_of scalar.Bool = record {
  below = 0;
  above = 1;
  lowest = le-add_right 0 9223372036854775808;
  highest = le-add_right 1 9223372036854775806;
}
range_of scalar.Char = record {
  below = 128;
  above = 127;
  lowest = le-add_right 128 9223372036854775680;
  highest = le-add_right 127 9223372036854775680;
}
range_of scalar.UChar = record {
  below = 0;
  above = 255;
  lowest = le-add_right 0 9223372036854775808;
  highest = le-add_right 255 9223372036854775552;
}
range_of scalar.Short = record {
  below = 32768;
  above = 32767;
  lowest = le-add_right 32768 9223372036854743040;
  highest = le-add_right 32767 9223372036854743040;
}
range_of scalar.UShort = record {
  below = 0;
  above = 65535;
  lowest = le-add_right 0 9223372036854775808;
  highest = le-add_right 65535 9223372036854710272;
}
range_of scalar.Int = record {
  below = 2147483648;
  above = 2147483647;
  lowest = le-add_right 2147483648 9223372034707292160;
  highest = le-add_right 2147483647 9223372034707292160;
}
range_of scalar.UInt = record {
  below = 0;
  above = 4294967295;
  lowest = le-add_right 0 9223372036854775808;
  highest = le-add_right 4294967295 9223372032559808512;
}
range_of scalar.Long = record {
  below = 9223372036854775808;
  above = 9223372036854775807;
  lowest = le-add_right 9223372036854775808 0;
  highest = le-add_right 9223372036854775807 0;
}

-- the full name and the range of a cell of a plan
abbrev pub full_name : Plan → Cell → List ℕ
full_name plan cell = cell_name plan.program.cells cell.0

abbrev pub range_at : Plan → Cell → Range
range_at plan cell = range_of (scalar_at (scalars_of plan.program.cells) cell.0)

-- the ranges of cells
abbrev pub ranges_at : Plan → List Cell → List Range
ranges_at plan cells = map (range_at plan) cells
