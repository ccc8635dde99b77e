-- Records, a target and a board that suit each other.
use Rattle.std.specs.Prelude.{◌≡◌, ℕ, ◌*◌, ◌<◌, length, List}
use Rattle.std.specs.List.{AllByRecursion}
use Rattle.memory.specs.Part.{IsShape}
use Rattle.loader.specs.declared.target.Target.{Target}
use Rattle.loader.specs.declared.target.Target.TheVariants.{Flash, Boot, Data}
use Rattle.bootloader.specs.declared.state.State.TheVariants.{Connected}
use Rattle.bootloader.specs.Board.{Board}
use Rattle.loading.specs.Source.{SourceRecord, AreLoadable}
use Rattle.loading.proofs.Chunks.{Chunk, pieces_in}
use Rattle.loading.proofs.Masks.{mask_of}
use Rattle.geometry.specs.declared.rows.Row.{Row}
use Rattle.loading.specs.Loaded.{IsListed, LiesIn, memory_at}

-- the mask that is sent: the sectors that the image touches, and none for an EEPROM
abbrev pub mask_at : Target → Row → List Chunk → ℕ
mask_at Flash r xs = mask_of r.sectors (2 * r.words) (pieces_in r.base 2 xs)
mask_at (Boot size) r xs = 0
mask_at (Data size) r xs = 0

-- a connected board of a row can be filled with records
pub record Suited (rs : List SourceRecord) (t : Target) (b : Board) : Type 0 where
  pub connected : b.session.state ≡ Connected
  pub listed : IsListed t b
  pub loadable : AreLoadable (memory_at t b).width rs
  pub lies : LiesIn rs (memory_at t b)
  pub shape : IsShape (length (memory_at t b).contents) (memory_at t b).shape
  pub bytes : AllByRecursion (λ v. v < 256) (memory_at t b).contents
