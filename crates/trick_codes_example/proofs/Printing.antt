-- A panel is printed as it is spelled.
use Rattle.std.proofs.Common.{◌≡◌, ℕ, List, ◌++◌, length, Option, Some, None, refl, sym, ap, ◌∙◌, append_assoc}
use Rattle.std.specs.Prelude.{codes, ℤ, pos}
use Rattle.trick_codes.proofs.IsSound.{length-each, length-row, row_spelled}
use Rattle.trick_codes.specs.Lines.{text, Holds}
use Rattle.trick_codes.specs.Named.{integer_line, number_line, title, end_line}
use Rattle.trick_codes.specs.declared.range.Range.{Range}
use Rattle.trick_codes_example.specs.Panel.{gauge_lines, ranges_of, last_line, last_text, notes_lines, mode_line, first_text, last_lines_text, panel}
use Rattle.trick_codes_example.specs.declared.file.Gauge.{Gauge}
use Rattle.trick_codes_example.specs.declared.file.Readings.{Readings}

pub values_for_each : (gauges : List Gauge) (r : Readings) → Holds (panel gauges) r → length r.values ≡ length gauges
unfolding panel gauge_lines
values_for_each gauges r h = length-each (pos 0) (λ (g : Gauge). integer_line g.name g.range) gauges r.values h.0.1.1.1.0

last_spelled : (ranges : List Range) (last : Option (List ℤ)) → Holds (last_line ranges) last → text (last_line ranges) last ≡ last_text last
unfolding last_line
last_spelled ranges None h = refl
last_spelled ranges (Some ns) h = ap (λ us. (title (codes "last") ++ us) ++ codes "\n") (row_spelled ranges ns (length-row ranges ns h.0.1.0))

regrouped : (a b c rest : List ℕ) → a ++ (b ++ (c ++ rest)) ≡ (a ++ (b ++ c)) ++ rest
regrouped a b c rest = sym (append_assoc a (b ++ c) rest ∙ ap (λ us. a ++ us) (append_assoc b c rest))

pub printed : (gauges : List Gauge) (r : Readings) → Holds (panel gauges) r → text (panel gauges) r ≡ first_text r ++ (text (gauge_lines gauges) r.values ++ last_lines_text r)
unfolding panel
printed gauges r h =
    regrouped (text (number_line (codes "panel") 1 1) 1) (text (number_line (codes "turn") 0 9223372036854775807) r.turn) (text mode_line r.mode) (text (gauge_lines gauges) r.values ++ (text (last_line (ranges_of gauges)) r.last ++ (text notes_lines r.notes ++ text end_line tt)))
    ∙ ap (λ us. first_text r ++ (text (gauge_lines gauges) r.values ++ (us ++ (text notes_lines r.notes ++ text end_line tt)))) (last_spelled (ranges_of gauges) r.last h.0.1.1.1.1.0)
