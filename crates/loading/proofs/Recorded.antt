-- A record that was gathered is put.
use Rattle.std.specs.Prelude.{◌≡◌, ℕ, ◌+◌, ◌%◌, ◌<◌, ◌≤◌, true, false, List, [], length, Some, slice_index}
use Rattle.std.specs.List.{AllByRecursion}
use Rattle.memory.specs.Part.{IsShape}
use Rattle.memory.specs.Changes.{changed_all}
use Rattle.memory.specs.Crc.{crc_from}
use Rattle.bootloader.specs.declared.state.State.TheVariants.{Connected}
use Rattle.bootloader.specs.declared.dialog.Dialog.{Dialog}
use Rattle.bootloader.specs.declared.space.Space.{Space}
use Rattle.bootloader.specs.Frames.{extension_of}
use Rattle.session.specs.Laws.{Carries}
use Rattle.loading.specs.Record.{record_commands}
use Rattle.bootloader.specs.Memories.{Memory, place, placed_in, puts_from, is_space}
use Rattle.bootloader.specs.Dialog.{Effect, is_unlocked, is_register, space_and_crc, address_behind}
use Rattle.bootloader.specs.Board.{Board}
use Rattle.loading.proofs.Gathered.{memory_in}

-- a record that is gathered can be put at an offset of blank bytes of a memory
pub record CanRecordIn (d : Dialog) (m : Memory) (offset : ℕ) : Type 0 where
  pub unlocked : is_unlocked d.unlocked d.space ≡ true
  pub some : 0 < length d.bytes.items
  pub whole : length d.bytes.items % m.width ≡ 0
  pub at : place m d.address (length d.bytes.items) ≡ Some offset
  pub inside : offset + length d.bytes.items ≤ length m.contents
  pub shape : IsShape (length m.contents) m.shape
  pub blank : (k : ℕ) → offset ≤ k → k < offset + length d.bytes.items → slice_index m.contents k ≡ 255
  pub small : AllByRecursion (λ v. v < 256) d.bytes.items

abbrev pub CanRecord : Board → ℕ → Type 0
CanRecord b offset = CanRecordIn b.session.dialog (memory_in b b.session.dialog.space) offset

-- what it does
abbrev pub recording_of : Board → ℕ → Effect
recording_of b offset =
    let d : Dialog = b.session.dialog in
    record {
      payload = space_and_crc d.space (crc_from 0xFFFF d.bytes.items);
      dialog = record d { address = address_behind (memory_in b d.space) d (length d.bytes.items); bytes = record { items = [] }; image_crc = crc_from d.image_crc d.bytes.items };
      changes = placed_in d.space (puts_from offset d.bytes.items);
    }

-- a board that has recorded bytes at an offset of its memory of a space, and is else as it was
pub record Recorded (b : Board) (s : Space) (offset : ℕ) (bytes : List ℕ) (d : Board) : Type 0 where
  pub setup : d.setup ≡ b.setup
  pub state : d.session.state ≡ b.session.state
  pub unlocked : d.session.dialog.unlocked ≡ b.session.dialog.unlocked
  pub space : d.session.dialog.space ≡ s
  pub emptied : d.session.dialog.bytes.items ≡ []
  pub image : d.session.dialog.image_crc ≡ crc_from b.session.dialog.image_crc bytes
  pub put : memory_in d s ≡ record (memory_in b s) { contents = changed_all (memory_in b s).shape (puts_from offset bytes) (memory_in b s).contents }
  pub others : (t : Space) → is_register t ≡ false → is_space t s ≡ false → memory_in d t ≡ memory_in b t

-- a board can be sent a record
pub record CanTake (b : Board) (s : Space) (a offset : ℕ) (bytes : List ℕ) : Type 0 where
  pub connected : b.session.state ≡ Connected
  pub unlocked : is_unlocked b.session.dialog.unlocked s ≡ true
  pub some : 0 < length bytes
  pub few : length bytes ≤ 252
  pub whole : length bytes % (memory_in b s).width ≡ 0
  pub at : place (memory_in b s) a (length bytes) ≡ Some offset
  pub inside : offset + length bytes ≤ length (memory_in b s).contents
  pub shape : IsShape (length (memory_in b s).contents) (memory_in b s).shape
  pub blank : (k : ℕ) → offset ≤ k → k < offset + length bytes → slice_index (memory_in b s).contents k ≡ 255
  pub small : AllByRecursion (λ v. v < 256) bytes

-- it is, and takes it
pub record TakesRecord (b : Board) (c : ℕ) (s : Space) (a offset : ℕ) (bytes : List ℕ) : Type 0 where
  pub after : Board
  pub carried : Carries b c (record_commands (extension_of s) a bytes) after
  pub recorded : Recorded b s offset bytes after
