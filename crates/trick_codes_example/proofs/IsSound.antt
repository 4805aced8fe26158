-- The lines of a panel are sound.
use Rattle.std.proofs.Common.{◌≡◌, ℕ, zero, suc, ◌≤◌, ◌<◌, List, refl, ap, arith}
use Rattle.std.specs.Prelude.{codes, pos}
use Rattle.trick_codes.proofs.IsSound.{named_sound, named_one_line, number_line_sound, integer_line_sound, one_of_lines, indexed_one_line, end_line_sound, each_sound, numbered_sound, length-numbered, row_sound, row_start, row_one_line, none_or_sound, none_or_one_line}
use Rattle.trick_codes.proofs.Words.{prefix_free}
use Rattle.trick_codes.specs.Code.{read_as, one_of}
use Rattle.trick_codes.specs.Lines.{SoundLines}
use Rattle.trick_codes.specs.Named.{indexed, integer_line, none_or, row}
use Rattle.trick_codes.specs.declared.range.Range.{Range}
use Rattle.trick_codes_example.specs.Panel.{mode_words, mode_at, mode_place, mode_code, mode_line, gauge_lines, ranges_of, last_line, note_line, notes_of, notes_lines, panel}
use Rattle.trick_codes_example.specs.declared.file.Gauge.{Gauge}

mode_back : (k : ℕ) → k < 2 → mode_place (mode_at k) ≡ k
mode_back zero lt = refl
mode_back (suc k) lt = omega arith

mode_sound : SoundLines mode_line
unfolding mode_line
mode_sound = (
  named_sound (codes "mode") mode_code ((omega arith, prefix_free mode_words refl), mode_back),
  named_one_line (codes "mode") mode_code refl (λ m h. one_of_lines mode_words (refl, (refl, tt)) (mode_place m)),
)

gauges_sound : (gauges : List Gauge) → SoundLines (gauge_lines gauges)
unfolding gauge_lines
gauges_sound gauges = each_sound (pos 0) (λ (g : Gauge). integer_line g.name g.range) gauges (λ g. integer_line_sound g.name g.range g.one_line)

last_sound : (ranges : List Range) → SoundLines (last_line ranges)
unfolding last_line
last_sound ranges = (
  named_sound (codes "last") (none_or (row ranges)) (none_or_sound (row ranges) (row_sound ranges) (row_start ranges)),
  named_one_line (codes "last") (none_or (row ranges)) refl (none_or_one_line (row ranges) (row_one_line ranges)),
)

note_sound : (k : ℕ) → k ≤ 1000 → SoundLines (note_line k)
unfolding note_line
note_sound k le = number_line_sound (indexed (codes "note") k) 0 4294967295 (indexed_one_line (codes "note") k refl (omega (arith, le))) (omega arith) (omega arith) (omega arith)

notes_sound : SoundLines notes_lines
unfolding notes_lines notes_of
notes_sound = (
  (
    number_line_sound (codes "notes") 0 1000 refl (omega arith) (omega arith) (omega arith),
    λ n h. numbered_sound 0 note_line 0 n (λ k lt. note_sound k (omega (arith, lt, h.0.1.1))),
  ),
  λ v h. ap (λ k. (k, v.1)) (length-numbered 0 note_line 0 v.0 v.1 h.1),
)

pub panel_sound : (gauges : List Gauge) → SoundLines (panel gauges)
unfolding panel
panel_sound gauges = (
  (
    number_line_sound (codes "panel") 1 1 refl (omega arith) (omega arith) (omega arith),
    λ version h. (
      number_line_sound (codes "turn") 0 9223372036854775807 refl (omega arith) (omega arith) (omega arith),
      λ turn h.
          (mode_sound, λ mode h. (gauges_sound gauges, λ values h. (last_sound (ranges_of gauges), λ last h. (notes_sound, λ notes h. end_line_sound)))),
    ),
  ),
  λ v h. let one : 1 ≡ v.0 = omega (arith, h.0.0.1.0, h.0.0.1.1) in ap (λ k. (k, v.1)) one,
)
