-- The attribute byte of a load module (this project's profile).
use Rattle.std.specs.Prelude.{ℕ, ◌/◌, ◌%◌, Bool, ◌==◌}

-- X'20': it is in overlay format
abbrev pub has_overlay : ℕ → Bool
has_overlay attribute = attribute / 32 % 2 == 1

-- X'04': it is in scatter format
abbrev pub has_scatter : ℕ → Bool
has_scatter attribute = attribute / 4 % 2 == 1
