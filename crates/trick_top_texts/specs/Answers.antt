-- What `ready` answers where the texts are not ready. A want of memory may come at any time.
use Rattle.std.specs.Prelude.{ℕ, List}
use Rattle.trick_top_texts.specs.Texts.{IsPlanRefused, IsTextRefused}
use Rattle.trick_top_texts.specs.declared.unready.Unready.{Unready}
use Rattle.trick_top_texts.specs.declared.unready.Unready.TheVariants.{TextRefused, PlanRefused, OutOfMemory}

abbrev pub IsUnready : List ℕ → List ℕ → Unready → Type 0
IsUnready s_define input (TextRefused line) = IsTextRefused s_define input line.items
IsUnready s_define input (PlanRefused line) = IsPlanRefused s_define input line.items
IsUnready s_define input OutOfMemory = Unit {0}
