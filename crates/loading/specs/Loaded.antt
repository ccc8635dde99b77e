-- Listed boards, and what a loaded image is, in the words of a board and of records.
use Rattle.std.specs.Prelude.{◌≡◌, ℕ, ◌+◌, ◌-◌, ◌*◌, ◌/◌, ◌<◌, ◌≤◌, ◌==◌, true, cond, List, length, Contains, Some, slice_index, is_some, sum_by}
use Rattle.bootloader.specs.Memories.{Memory, place}
use Rattle.bootloader.specs.Board.{Board, is_sealed, seal_changes}
use Rattle.loading.specs.Source.{SourceRecord}
use Rattle.loader.specs.declared.target.Target.{Target}
use Rattle.loader.specs.declared.target.Target.TheVariants.{Flash, Boot, Data}
use Rattle.geometry.specs.declared.rows.Row.{Row}
use Rattle.geometry.specs.Rows.{row_of}

-- ---- boards

-- a flash is made to a row: equal sectors of words, of which sector 0 has the highest offsets
pub record IsMadeTo (r : Row) (m : Memory) : Type 0 where
  pub base : m.base ≡ r.base
  pub width : m.width ≡ 2
  pub long : length m.contents ≡ r.sectors * (2 * r.words)
  pub units : m.shape.units ≡ r.sectors
  pub unit_of : (o : ℕ) → o < length m.contents → m.shape.unit_of o ≡ r.sectors - 1 - o / (2 * r.words)

-- an EEPROM has one byte an address, from 0 on; it may have any number of units, and any rule
pub record IsEeprom (m : Memory) : Type 0 where
  pub base : m.base ≡ 0
  pub width : m.width ≡ 1

-- the memory of a target
abbrev pub memory_at : Target → Board → Memory
memory_at Flash b = b.flash
memory_at (Boot size) b = b.boot
memory_at (Data size) b = b.eeprom

-- a target has the size that is told
abbrev pub HasSize : Target → Memory → Type 0
HasSize Flash m = Unit {0}
HasSize (Boot size) m = length m.contents ≡ size
HasSize (Data size) m = length m.contents ≡ size

-- a board that is listed: it is made to the row of its part ID
pub record IsListed (target : Target) (b : Board) : Type 0 where
  pub row : Row
  pub listed : row_of b.setup.part_id ≡ Some row
  pub flash : IsMadeTo row b.flash
  pub boot : IsEeprom b.boot
  pub eeprom : IsEeprom b.eeprom
  pub size : HasSize target (memory_at target b)

-- ---- images

-- a record has its byte i at offset o of a memory
pub record Covers (m : Memory) (r : SourceRecord) (i o : ℕ) : Type 0 where
  pub inside : i < length r.bytes
  pub above : m.base ≤ r.address
  pub at : o ≡ (r.address - m.base) * m.width + i

-- the image of records has a byte at an offset
pub record InImage (rs : List SourceRecord) (m : Memory) (o : ℕ) : Type 0 where
  pub entry : SourceRecord
  pub of : Contains rs entry
  pub index : ℕ
  pub covers : Covers m entry index o

-- the image touches the unit of an offset
pub record IsTouched (rs : List SourceRecord) (m : Memory) (o : ℕ) : Type 0 where
  pub other : ℕ
  pub image : InImage rs m other
  pub unit : m.shape.unit_of other ≡ m.shape.unit_of o

-- a load clears the unit of an offset: in the flash if the image touches it, in an EEPROM always
abbrev pub IsCleared : List SourceRecord → Target → Memory → ℕ → Type 0
IsCleared rs Flash m o = IsTouched rs m o
IsCleared rs (Boot size) m o = Unit {0}
IsCleared rs (Data size) m o = Unit {0}

-- a memory that was m holds the image of records: their bytes at their places, 0xFF elsewhere in what is cleared, and what was
-- there in all else. Every byte of a record has a place in it.
pub record HoldsImage (rs : List SourceRecord) (target : Target) (m : Memory) (contents : List ℕ) : Type 0 where
  pub long : length contents ≡ length m.contents
  pub placed : (r : SourceRecord) (i : ℕ) → Contains rs r → i < length r.bytes → (o : ℕ) × Covers m r i o × (o < length contents)
  pub image : (r : SourceRecord) (i o : ℕ) → Contains rs r → Covers m r i o → slice_index contents o ≡ slice_index r.bytes i
  pub blank : (o : ℕ) → o < length m.contents → ¬ InImage rs m o → IsCleared rs target m o → slice_index contents o ≡ 0xFF
  pub kept : (o : ℕ) → o < length m.contents → ¬ IsCleared rs target m o → slice_index contents o ≡ slice_index m.contents o

-- only the last two bytes of contents may differ
pub record SameButSeal (old new : List ℕ) : Type 0 where
  pub long : length new ≡ length old
  pub same : (o : ℕ) → o + 2 < length old → slice_index new o ≡ slice_index old o

-- the memories that are not the target: after an image of the flash the seal is stored, and nothing else changes
abbrev pub OthersKept : Target → Board → Board → Type 0
OthersKept Flash b c = (c.eeprom ≡ b.eeprom) × SameButSeal b.boot.contents c.boot.contents × (is_sealed c ≡ true)
OthersKept (Boot size) b c = (c.flash ≡ b.flash) × (c.eeprom ≡ b.eeprom)
OthersKept (Data size) b c = (c.flash ≡ b.flash) × (c.boot ≡ b.boot)

-- records are loaded into a board that was b and is c: the target holds their image
pub record Loaded (rs : List SourceRecord) (target : Target) (b c : Board) : Type 0 where
  pub holds : HoldsImage rs target (memory_at target b) (memory_at target c).contents
  pub others : OthersKept target b c

-- how many frames a load needs: seven, and for each record of n > 0 bytes two and a sixth of n, rounded up
abbrev pub frames_of_record : SourceRecord → ℕ
frames_of_record r = cond (length r.bytes == 0) 0 (2 + (length r.bytes + 5) / 6)

abbrev pub frames_of : List SourceRecord → ℕ
frames_of rs = 7 + sum_by frames_of_record rs

-- each record with data lies in the memory
abbrev pub LiesIn : List SourceRecord → Memory → Type 0
LiesIn rs m = (r : SourceRecord) → Contains rs r → 0 < length r.bytes → is_some (place m r.address (length r.bytes)) ≡ true

-- a board with other contents of its flash
abbrev pub with_flash : Board → List ℕ → Board
with_flash b contents = record b { flash = record (b.flash) { contents = contents } }

-- the seal bytes can be put: where the flash holds the image, they are there and take the seal; an EEPROM's image has none
abbrev pub CanSeal : List SourceRecord → Target → Board → Type 0
CanSeal rs Flash b = (contents : List ℕ) → HoldsImage rs Flash b.flash contents → is_some (seal_changes (with_flash b contents)) ≡ true
CanSeal rs (Boot size) b = Unit {0}
CanSeal rs (Data size) b = Unit {0}
