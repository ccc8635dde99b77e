-- What is planned for a file, a target and a listed board.
use Rattle.std.specs.Prelude.{◌≡◌, ◌⊎◌, true, is_some, ℕ, ◌*◌, ◌==◌, cond, List, [], ◌∷◌, length, Option, Some, None, Result, Ok, Err, slice_index}
use Rattle.memory.specs.Crc.{crc_from}
use Rattle.loading.specs.Source.{SourceRecord, HasData}
use Rattle.loader.specs.declared.target.Target.{Target}
use Rattle.loader.specs.declared.target.Target.TheVariants.{Flash, Boot, Data}
use Rattle.bootloader.specs.Frames.{two}
use Rattle.bootloader.specs.Memories.{offset_in}
use Rattle.geometry.specs.declared.rows.Row.{Row}
use Rattle.loading.specs.declared.planning.Plan.{Plan}
use Rattle.loading.specs.declared.planning.Stop.{Stop}
use Rattle.loading.specs.declared.planning.Stop.TheVariants.{NoRow, Outside}
use Rattle.geometry.specs.Rows.{row_of}
use Rattle.loading.specs.Mask.{Piece}
use Rattle.loading.specs.Mask.{marking}

-- where a target begins on a board of a row, how many bytes an address has there, and how many bytes it has
abbrev pub base_at : Target → Row → ℕ
base_at Flash r = r.base
base_at (Boot size) r = 0
base_at (Data size) r = 0

abbrev pub width_at : Target → ℕ
width_at Flash = 2
width_at (Boot size) = 1
width_at (Data size) = 1

abbrev pub long_at : Target → Row → ℕ
long_at Flash r = r.sectors * (2 * r.words)
long_at (Boot size) r = size
long_at (Data size) r = size

-- the offset of bytes there
abbrev pub place_in : Target → Row → ℕ → ℕ → Option ℕ
place_in t r address n = offset_in (base_at t r) (width_at t) (long_at t r) address n

-- the mask with what a piece touches; it stays 0 for an EEPROM
abbrev pub mask_with : Target → Row → ℕ → Piece → ℕ
mask_with Flash r mask e = marking r.sectors (2 * r.words) mask e
mask_with (Boot size) r mask e = mask
mask_with (Data size) r mask e = mask

-- a record that lies in the target joins the plan
abbrev pub joined : Target → Row → Plan → SourceRecord → Option ℕ → Result Plan Stop
joined t r plan h None = Err (Outside h.line)
joined t r plan h (Some offset) = Ok (record { mask = mask_with t r plan.mask (record { at = offset; bytes = h.bytes }); image_crc = crc_from plan.image_crc h.bytes })

-- one without data is passed over
abbrev pub plan_with : Target → Row → Plan → SourceRecord → Result Plan Stop
plan_with t r plan h = cond (length h.bytes == 0) (Ok plan) (joined t r plan h (place_in t r h.address (length h.bytes)))

abbrev pub go_on : Result Plan Stop → (Plan → Result Plan Stop) → Result Plan Stop
go_on (Ok plan) next = next plan
go_on (Err stop) next = Err stop

unfoldable pub plan_from : Target → Row → Plan → List SourceRecord → Result Plan Stop
plan_from t r plan [] = Ok plan
plan_from t r plan (h ∷ hs) = go_on (plan_with t r plan h) (λ p. plan_from t r p hs)

-- nothing is planned yet
abbrev pub empty_plan : Plan
empty_plan = record { mask = 0; image_crc = 0xFFFF }

abbrev pub plan_for : Target → Option Row → List SourceRecord → Result Plan Stop
plan_for t None hs = Err NoRow
plan_for t (Some r) hs = plan_from t r empty_plan hs

-- the plan for a board with this reply to Connect
abbrev pub plan_of : Target → List ℕ → List SourceRecord → Result Plan Stop
plan_of t reply hs = plan_for t (row_of (two (slice_index reply 5) (slice_index reply 6))) hs

-- records stop a plan at the first with data that does not lie in the target, which the stop names
abbrev pub StopsAt : Target → Row → List SourceRecord → Stop → Type 0
StopsAt t r [] stop = ⊥
StopsAt t r (h ∷ hs) stop =
    (HasData h × (place_in t r h.address (length h.bytes) ≡ None) × (stop ≡ Outside h.line))
    ⊎ ((HasData h → is_some (place_in t r h.address (length h.bytes)) ≡ true) × StopsAt t r hs stop)
