-- The file of a panel of gauges: a line each for the version, the turn, the mode, each gauge, the last row and the
-- count of the notes, then a line for each note, and `end;`.
use Rattle.std.specs.Prelude.{◌≡◌, ℕ, zero, suc, ℤ, pos, List, [], ◌∷◌, ◌++◌, length, map, Option, Some, None, codes}
use Rattle.trick_codes.specs.Code.{Code, one_of, read_as}
use Rattle.trick_codes.specs.Forms.{kind_of}
use Rattle.trick_codes.specs.Lines.{Lines, line, and_then, seen_as, each, numbered, text}
use Rattle.trick_codes.specs.Named.{named, number_line, integer_line, end_line, indexed, row, none_or, title, line_text, row_text}
use Rattle.trick_codes.specs.declared.range.Range.{Range}
use Rattle.trick_codes_example.specs.declared.file.Gauge.{Gauge}
use Rattle.trick_codes_example.specs.declared.file.Mode.{Mode}
use Rattle.trick_codes_example.specs.declared.file.Mode.TheVariants.{Run, Freeze}
use Rattle.trick_codes_example.specs.declared.file.Readings.{Readings}

-- the words of the modes
abbrev pub mode_words : List (List ℕ)
mode_words = codes "Run;" ∷ codes "Freeze;" ∷ []

abbrev pub mode_at : ℕ → Mode
mode_at zero = Run
mode_at (suc k) = Freeze

abbrev pub mode_place : Mode → ℕ
mode_place Run = 0
mode_place Freeze = 1

-- a mode, and its line
abbrev pub mode_code : Code Mode
mode_code = read_as mode_at mode_place (one_of mode_words)

unfoldable pub mode_line : Lines Mode
mode_line = line (kind_of (codes "mode") 0) (named (codes "mode") mode_code)

-- a line for each gauge
unfoldable pub gauge_lines : List Gauge → Lines (List ℤ)
gauge_lines gauges = each (pos 0) (λ (g : Gauge). integer_line g.name g.range) gauges

-- the ranges of the gauges
abbrev pub ranges_of : List Gauge → List Range
ranges_of gauges = map (λ (g : Gauge). g.range) gauges

-- the last row: `none`, or a number of each gauge
unfoldable pub last_line : List Range → Lines (Option (List ℤ))
last_line ranges = line (kind_of (codes "last") (length ranges)) (named (codes "last") (none_or (row ranges)))

-- the line of a note, by its place
unfoldable pub note_line : ℕ → Lines ℕ
note_line k = number_line (indexed (codes "note") k) 0 4294967295

unfoldable pub notes_of : ℕ → Lines (List ℕ)
notes_of count = numbered 0 note_line 0 count

-- how many notes there are, and a line for each
unfoldable pub notes_lines : Lines (List ℕ)
notes_lines = seen_as (λ v. v.1) (λ xs. (length xs, xs)) (and_then (number_line (codes "notes") 0 1000) notes_of)

-- the whole file
unfoldable pub panel : List Gauge → Lines Readings
panel gauges =
    seen_as (λ v. record {
      turn = v.1.0;
      mode = v.1.1.0;
      values = v.1.1.1.0;
      last = v.1.1.1.1.0;
      notes = v.1.1.1.1.1.0;
    })
    (λ r. (1, (r.turn, (r.mode, (r.values, (r.last, (r.notes, tt)))))))
    (and_then (number_line (codes "panel") 1 1) (λ version.
    and_then (number_line (codes "turn") 0 9223372036854775807) (λ turn.
    and_then mode_line (λ mode. and_then (gauge_lines gauges) (λ values.
    and_then (last_line (ranges_of gauges)) (λ last. and_then notes_lines (λ notes. end_line)))))))

-- ---- as it is printed

-- the line of the last row
abbrev pub last_text : Option (List ℤ) → List ℕ
last_text None = line_text (codes "last") (codes "none")
last_text (Some ns) = (title (codes "last") ++ row_text ns) ++ codes "\n"

-- the lines before those of the gauges, and those after them
abbrev pub first_text : Readings → List ℕ
first_text r =
    text (number_line (codes "panel") 1 1) 1
    ++ (text (number_line (codes "turn") 0 9223372036854775807) r.turn ++ text mode_line r.mode)

abbrev pub last_lines_text : Readings → List ℕ
last_lines_text r = last_text r.last ++ (text notes_lines r.notes ++ text end_line tt)

-- a last row has a number of each gauge
abbrev pub IsFull : ℕ → Option (List ℤ) → Type 0
IsFull count None = Unit {0}
IsFull count (Some ns) = length ns ≡ count
