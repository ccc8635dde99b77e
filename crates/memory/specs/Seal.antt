-- The seal: a CRC over a sample of a memory, by which a board knows that its flash holds what was loaded.
use Rattle.std.specs.Prelude.{ℕ, zero, suc, ◌+◌, ◌-◌, ◌*◌, ◌/◌, ◌%◌, Bool, false, cond, List, [], ◌++◌, length, take, drop, Some, None, Option, ◌==◌, nat_lt, slice_index}
use Rattle.memory.specs.Crc.{crc_from}

-- the bytes of an address, which stands for w bytes
abbrev pub address_bytes : ℕ → List ℕ → ℕ → List ℕ
address_bytes w xs a = take w (drop (a * w) xs)

-- of the first so many addresses every 128th, counted from the start, with all its bytes
unfoldable pub sampled : ℕ → List ℕ → ℕ → List ℕ
sampled w xs zero = []
sampled w xs (suc a) = sampled w xs a ++ cond (a % 128 == 0) (address_bytes w xs a) []

-- the seal of contents with w bytes an address: the CRC over the sample of all addresses that lie whole in them
abbrev pub seal_of : ℕ → List ℕ → ℕ
seal_of w xs = crc_from 0xFFFF (sampled w xs (length xs / w))

-- the seal that is stored in the last two bytes of contents, high byte first; shorter contents have none
abbrev pub stored_seal : List ℕ → Option ℕ
stored_seal xs = cond (nat_lt (length xs) 2) None (Some (slice_index xs (length xs - 2) * 256 + slice_index xs (length xs - 1)))

-- a seal that is stored, and is this one
abbrev pub is_stored : ℕ → Option ℕ → Bool
is_stored seal None = false
is_stored seal (Some stored) = stored == seal

-- the seal of contents with w bytes an address is valid if it is the one stored in the others
abbrev pub seal_valid : ℕ → List ℕ → List ℕ → Bool
seal_valid w sealed store = is_stored (seal_of w sealed) (stored_seal store)
