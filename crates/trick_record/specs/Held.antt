-- What a `csv` writer holds between lines and while a line is written.
use Rattle.std.specs.Prelude.{◌≡◌, ◌<◌, ℕ, [], true, false, List, Option, Some}
use Rattle.csv.specs.Writing.{default_writer, fields_written, has_written, text_written, with_flexible, with_style, writer_pending, writer_setup, writer_under}
use Rattle.csv.specs.declared.writer.QuoteStyle.TheVariants as style
use Rattle.csv.specs.declared.writer.Writer.{Writer}
use Rattle.csv.specs.declared.writer.WriterBuilder.{WriterBuilder}

-- commas between fields, a line feed after the last one, no quotes, and lines of any number of fields
abbrev pub plain_writer : WriterBuilder
plain_writer = with_flexible (with_style default_writer style.Never) true

-- the writer is between lines, and all that it was given so far is these bytes, which wait nowhere
abbrev pub Rests : {W : Type 0} → (W → Option (List ℕ)) → Writer W → List ℕ → Type 0
Rests contents writer bytes = (writer_setup writer ≡ plain_writer)
    × (contents (writer_under writer) ≡ Some bytes) × (writer_pending writer ≡ [])
    × (has_written writer ≡ false) × (fields_written writer ≡ 0)

-- the writer is in a line, and all that it was given so far is these bytes
abbrev pub Holds : {W : Type 0} → (W → Option (List ℕ)) → Writer W → List ℕ → Type 0
Holds contents writer bytes = (writer_setup writer ≡ plain_writer)
    × (text_written contents writer ≡ Some bytes) × (has_written writer ≡ true)
    × (0 < fields_written writer)
