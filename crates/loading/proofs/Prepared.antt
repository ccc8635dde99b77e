-- A board that is prepared for a load: what a command does, and what the commands that prepare leave.
use Rattle.std.specs.Prelude.{◌≡◌, ℕ, List, [], false, true}
use Rattle.memory.specs.Changes.{Change, changed_all}
use Rattle.bootloader.specs.declared.command.Command.{Command}
use Rattle.bootloader.specs.declared.dialog.Dialog.{Dialog}
use Rattle.bootloader.specs.declared.dialog.Unlocked.{Unlocked}
use Rattle.bootloader.specs.declared.space.Space.{Space}
use Rattle.bootloader.specs.declared.space.Space.TheVariants.{Flash, Register, Boot, Data}
use Rattle.bootloader.specs.Memories.{placed_in, changes_in, clears_below, is_space}
use Rattle.bootloader.specs.Dialog.{Effect, is_register}
use Rattle.bootloader.specs.Board.{Board, mask_for}
use Rattle.loading.proofs.Gathered.{memory_in}
use Rattle.bootloader.specs.BoardLaws.{Accepted}
use Rattle.session.specs.Laws.{Carries}
use Rattle.loading.specs.Prepared.{preparing}

-- the lock of a space is opened
abbrev pub opening : Space → Unlocked → Unlocked
opening Flash u = record u { flash = true }
opening Register u = u
opening Boot u = record u { boot = true }
opening Data u = record u { «data» = true }

-- a command is carried out, which leaves this dialog and makes these changes in a space
pub record Does (b : Board) (c : ℕ) (x : Command) (talk : Dialog) (s : Space) (cs : List Change) : Type 0 where
  pub effect : Effect
  pub after : Board
  pub accepted : Accepted b c x effect after
  pub setup : after.setup ≡ b.setup
  pub state : after.session.state ≡ b.session.state
  pub dialog : after.session.dialog ≡ talk
  pub memory : (t : Space) → is_register t ≡ false → memory_in after t ≡ record (memory_in b t) { contents = changed_all (memory_in b t).shape (changes_in t (placed_in s cs)) (memory_in b t).contents }

-- a board that is prepared: a space is unlocked, selected and cleared
pub record Prepared (b : Board) (s : Space) (mask : ℕ) (d : Board) : Type 0 where
  pub setup : d.setup ≡ b.setup
  pub state : d.session.state ≡ b.session.state
  pub dialog : d.session.dialog ≡ record { space = s; address = 0; bytes = record { items = [] }; unlocked = opening s b.session.dialog.unlocked; image_crc = 0xFFFF }
  pub cleared : memory_in d s ≡ record (memory_in b s) { contents = changed_all (memory_in b s).shape (clears_below (mask_for s mask) (memory_in b s).shape.units) (memory_in b s).contents }
  pub others : (t : Space) → is_register t ≡ false → is_space t s ≡ false → memory_in d t ≡ memory_in b t

-- it is prepared by what is sent
pub record Prepares (b : Board) (c : ℕ) (s : Space) (mask : ℕ) : Type 0 where
  pub after : Board
  pub carried : Carries b c (preparing s mask) after
  pub prepared : Prepared b s mask after
