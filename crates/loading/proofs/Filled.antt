-- A board is filled by a load.
use Rattle.std.specs.Prelude.{◌≡◌, ℕ, List, [], ◌∷◌, ◌++◌, true, false}
use Rattle.memory.specs.Changes.{changed_all}
use Rattle.loading.specs.Source.{SourceRecord}
use Rattle.loader.specs.declared.target.Target.{Target}
use Rattle.bootloader.specs.declared.command.Command.{Command}
use Rattle.bootloader.specs.declared.command.Command.TheVariants.{BuildChecksum}
use Rattle.bootloader.specs.declared.space.Space.{Space}
use Rattle.bootloader.specs.Frames.{extension_of}
use Rattle.bootloader.specs.Memories.{Memory, clears_below, is_space}
use Rattle.bootloader.specs.Dialog.{is_register, is_unlocked}
use Rattle.bootloader.specs.Board.{Board, mask_for}
use Rattle.loading.proofs.Pieces.{after_pieces}
use Rattle.loading.proofs.Gathered.{memory_in}
use Rattle.session.specs.Laws.{Carries}
use Rattle.loading.proofs.Chunks.{Chunk, pieces_of, commands_of, crc_over_all}
use Rattle.loading.specs.Prepared.{space_at, preparing}
use Rattle.loading.specs.Loaded.{HoldsImage, OthersKept, memory_at}

-- all commands between Connect and Disconnect
abbrev pub filling : Space → ℕ → List Chunk → List Command
filling s mask xs = preparing s mask ++ (commands_of (extension_of s) xs ++ BuildChecksum 0 (crc_over_all 0xFFFF xs) ∷ [])

-- a memory that was cleared by a mask, and filled
abbrev pub filled_memory : Space → ℕ → List Chunk → Memory → Memory
filled_memory s mask xs m = record m { contents = after_pieces m.shape (pieces_of m xs) (changed_all m.shape (clears_below (mask_for s mask) m.shape.units) m.contents) }

-- a board of which a space is cleared and filled, before the image is checked
pub record Filled (b : Board) (s : Space) (mask : ℕ) (xs : List Chunk) (d : Board) : Type 0 where
  pub setup : d.setup ≡ b.setup
  pub state : d.session.state ≡ b.session.state
  pub space : d.session.dialog.space ≡ s
  pub unlocked : is_unlocked d.session.dialog.unlocked s ≡ true
  pub emptied : d.session.dialog.bytes.items ≡ []
  pub image : d.session.dialog.image_crc ≡ crc_over_all 0xFFFF xs
  pub memory : memory_in d s ≡ filled_memory s mask xs (memory_in b s)
  pub others : (t : Space) → is_register t ≡ false → is_space t s ≡ false → memory_in d t ≡ memory_in b t

-- it is loaded with records by what is sent
pub record IsFilledBy (rs : List SourceRecord) (target : Target) (b : Board) (c mask : ℕ) (xs : List Chunk) : Type 0 where
  pub after : Board
  pub carried : Carries b c (filling (space_at target) mask xs) after
  pub state : after.session.state ≡ b.session.state
  pub holds : HoldsImage rs target (memory_at target b) (memory_at target after).contents
  pub others : OthersKept target b after
