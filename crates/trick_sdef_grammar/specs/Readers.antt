-- The grammars of the readers have no conflict.
use Rattle.std.specs.Prelude.{◌≡◌, ℕ, List, None}
use Rattle.trick_body_symbols.specs.Methods.{condition, method}
use Rattle.trick_body_symbols.specs.Symbols.{number_of}
use Rattle.trick_grammar.specs.Conflicts.{first_conflict}
use Rattle.trick_sdef_classes.specs.Files.{file}

pub record HaveNoConflict : Type 0 where
  pub conditions : (text : List ℕ) (limit depth : ℕ) → first_conflict number_of (condition text limit depth) ≡ None
  pub methods : (text : List ℕ) (limit depth : ℕ) → first_conflict number_of (method text limit depth) ≡ None
  pub files : (text : List ℕ) (limit depth : ℕ) → first_conflict number_of (file text limit depth) ≡ None
