-- Two cells, for tests.
use Rattle.std.specs.Prelude.{List, [], ◌∷◌, codes}
use Rattle.trick_lang.specs.declared.scalar.Scalar.TheVariants.{Long, UChar}
use Rattle.trick_lang.specs.declared.variable.Variable.{Variable}

abbrev pub samples : List Variable
samples = record { name = codes "counter.n"; scalar = Long } ∷ record { name = codes "o.a[1]"; scalar = UChar } ∷ []
