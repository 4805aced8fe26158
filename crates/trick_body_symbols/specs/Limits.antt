-- The limits of the profile.
use Rattle.std.specs.Prelude.{ℕ}

-- how many items a list may have
abbrev pub list_limit : ℕ
list_limit = 4096

-- how many levels may nest
abbrev pub nesting_limit : ℕ
nesting_limit = 64

-- how many may nest in the braces of a method, inside those of its class
abbrev pub method_levels : ℕ
method_levels = 62
