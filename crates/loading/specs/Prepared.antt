-- What is sent to prepare a target.
use Rattle.std.specs.Prelude.{unwrap_or, ℕ, List, [], ◌∷◌}
use Rattle.loader.specs.declared.target.Target.{Target}
use Rattle.loader.specs.declared.target.Target.TheVariants as target
use Rattle.bootloader.specs.declared.command.Command.{Command}
use Rattle.bootloader.specs.declared.command.Command.TheVariants.{SetMta, Unlock, Clear}
use Rattle.bootloader.specs.declared.space.Space.{Space}
use Rattle.bootloader.specs.declared.space.Space.TheVariants.{Flash, Boot, Data}
use Rattle.bootloader.specs.Frames.{extension_of}
use Rattle.bootloader.specs.Frames.{password_of as password_for}

-- the space of a target
abbrev pub space_at : Target → Space
space_at target.Flash = Flash
space_at (target.Boot size) = Boot
space_at (target.Data size) = Data

-- the password of a space; the register has none, and is never a target
abbrev pub password_of : Space → ℕ
password_of s = unwrap_or (password_for s) 0

-- what is sent to prepare: the space is unlocked, its beginning selected, and its units are cleared
unfoldable pub preparing : Space → ℕ → List Command
preparing s mask = SetMta 0 1 0 ∷ Unlock 2 (password_of s) ∷ SetMta 0 (extension_of s) 0 ∷ Clear mask ∷ []
