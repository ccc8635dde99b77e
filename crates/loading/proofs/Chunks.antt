-- Records with data, in a memory.
use Rattle.std.specs.Prelude.{◌≡◌, ℕ, ◌+◌, ◌-◌, ◌*◌, ◌%◌, ◌<◌, ◌≤◌, ◌==◌, cond, true, false, List, [], ◌∷◌, ◌++◌, length, Some, slice_index}
use Rattle.std.specs.List.{AllByRecursion}
use Rattle.memory.specs.Part.{IsShape}
use Rattle.memory.specs.Crc.{crc_from}
use Rattle.loading.specs.Source.{SourceRecord}
use Rattle.bootloader.specs.declared.command.Command.{Command}
use Rattle.bootloader.specs.declared.space.Space.{Space}
use Rattle.bootloader.specs.declared.state.State.TheVariants.{Connected}
use Rattle.bootloader.specs.Frames.{extension_of}
use Rattle.bootloader.specs.Memories.{Memory, place, is_space}
use Rattle.bootloader.specs.Dialog.{is_unlocked, is_register}
use Rattle.bootloader.specs.Board.{Board}
use Rattle.loading.specs.Record.{record_commands}
use Rattle.loading.specs.Mask.{Piece}
use Rattle.loading.proofs.Pieces.{InOrder, after_pieces}
use Rattle.loading.proofs.Gathered.{memory_in}
use Rattle.session.specs.Laws.{Carries}

-- the data of a record, with its address
pub record Chunk : Type 0 where
  pub address : ℕ
  pub bytes : List ℕ

-- the records that have data
abbrev pub chunks_of : List SourceRecord → List Chunk
chunks_of [] = []
chunks_of (r ∷ rs) = cond (length r.bytes == 0) (chunks_of rs) (record { address = r.address; bytes = r.bytes } ∷ chunks_of rs)

-- their commands
abbrev pub commands_of : ℕ → List Chunk → List Command
commands_of extension [] = []
commands_of extension (x ∷ xs) = record_commands extension x.address x.bytes ++ commands_of extension xs

-- their CRC, which continues another
abbrev pub crc_over_all : ℕ → List Chunk → ℕ
crc_over_all crc [] = crc
crc_over_all crc (x ∷ xs) = crc_over_all (crc_from crc x.bytes) xs

-- where they lie in a memory that begins at a base, with so many bytes an address
abbrev pub at_in : ℕ → ℕ → Chunk → ℕ
at_in base width x = (x.address - base) * width

abbrev pub pieces_in : ℕ → ℕ → List Chunk → List Piece
pieces_in base width [] = []
pieces_in base width (x ∷ xs) = record { at = at_in base width x; bytes = x.bytes } ∷ pieces_in base width xs

abbrev pub pieces_of : Memory → List Chunk → List Piece
pieces_of m xs = pieces_in m.base m.width xs

-- one of them fits in a memory
pub record FitsIn (m : Memory) (x : Chunk) : Type 0 where
  pub some : 0 < length x.bytes
  pub few : length x.bytes ≤ 252
  pub whole : length x.bytes % m.width ≡ 0
  pub at : place m x.address (length x.bytes) ≡ Some (at_in m.base m.width x)
  pub inside : at_in m.base m.width x + length x.bytes ≤ length m.contents
  pub small : AllByRecursion (λ v. v < 256) x.bytes

-- the bytes of a piece's place are blank
abbrev pub IsBlank : List ℕ → Piece → Type 0
IsBlank xs e = (k : ℕ) → e.at ≤ k → k < e.at + length e.bytes → slice_index xs k ≡ 255

-- they can be put into a memory, one after the other
pub record CanPut (m : Memory) (xs : List Chunk) : Type 0 where
  pub shape : IsShape (length m.contents) m.shape
  pub fit : AllByRecursion (FitsIn m) xs
  pub order : InOrder (pieces_of m xs)
  pub blank : AllByRecursion (IsBlank m.contents) (pieces_of m xs)

-- a board can be sent them
pub record CanTakeAll (b : Board) (s : Space) (xs : List Chunk) : Type 0 where
  pub connected : b.session.state ≡ Connected
  pub unlocked : is_unlocked b.session.dialog.unlocked s ≡ true
  pub space : b.session.dialog.space ≡ s
  pub emptied : b.session.dialog.bytes.items ≡ []
  pub memory : CanPut (memory_in b s) xs

-- a board that has recorded them, and is else as it was
pub record RecordedAll (b : Board) (s : Space) (xs : List Chunk) (d : Board) : Type 0 where
  pub setup : d.setup ≡ b.setup
  pub state : d.session.state ≡ b.session.state
  pub unlocked : d.session.dialog.unlocked ≡ b.session.dialog.unlocked
  pub space : d.session.dialog.space ≡ s
  pub emptied : d.session.dialog.bytes.items ≡ []
  pub image : d.session.dialog.image_crc ≡ crc_over_all b.session.dialog.image_crc xs
  pub put : memory_in d s ≡ record (memory_in b s) { contents = after_pieces (memory_in b s).shape (pieces_of (memory_in b s) xs) (memory_in b s).contents }
  pub others : (t : Space) → is_register t ≡ false → is_space t s ≡ false → memory_in d t ≡ memory_in b t

-- it is, and takes them
pub record TakesRecords (b : Board) (c : ℕ) (s : Space) (xs : List Chunk) : Type 0 where
  pub after : Board
  pub carried : Carries b c (commands_of (extension_of s) xs) after
  pub recorded : RecordedAll b s xs after
