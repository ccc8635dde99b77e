-- File names as they are shown.
use Rattle.std.specs.Prelude.{ℕ, Bool, not, ◌||◌, List, ◌==◌, nat_lt}
use Rattle.std.specs.List.{list_any}

-- a character that moves the cursor or does something else than to be shown
abbrev pub is_control : ℕ → Bool
is_control c = nat_lt c 32 || c == 127

-- no character of the name is a control character
abbrev pub plain_name : List ℕ → Bool
plain_name name = not (list_any is_control name)
