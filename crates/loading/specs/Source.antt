-- Where the records of a load come from: what is to come of a source.
use Rattle.std.specs.Prelude.{◌≡◌, ℕ, ◌+◌, ◌/◌, ◌%◌, ◌^◌, ◌<◌, ◌≤◌, List, [], ◌∷◌, length, Option, None, Some, map, unwrap_or}
use Rattle.std.specs.List.{AllByRecursion}
use Rattle.srecord.specs.declared.reader.Record.{Record}
use Rattle.srecord.specs.declared.reader.Reader.{Reader}
use Rattle.srecord.specs.Bytes.{decoded}
use Rattle.srecord.specs.Reading.{Handed, coming, coming_of, handed_by}

-- a record as a load takes it: its line in the text, its address, and its bytes
pub record SourceRecord : Type 0 where
  pub line : ℕ
  pub address : ℕ
  pub bytes : List ℕ

-- a record that can be sent: its address is a number of 32 bits, and it has at most 252 bytes
pub record IsRecord (r : SourceRecord) : Type 0 where
  pub address : r.address < 2 ^ 32
  pub few : length r.bytes ≤ 252
  pub small : AllByRecursion (λ v. v < 256) r.bytes

-- a record with data
abbrev pub HasData : SourceRecord → Type 0
HasData r = 0 < length r.bytes

-- no record with data starts below the address behind the bytes of an earlier one, where an address stands for w bytes
abbrev pub Rising : ℕ → List SourceRecord → Type 0
Rising w [] = Unit {0}
Rising w (r ∷ rs) = (HasData r → AllByRecursion (λ l. HasData l → r.address + length r.bytes / w ≤ l.address) rs) × Rising w rs

-- records that can be loaded into a target with w bytes an address: they can be sent, those with data fill whole addresses and
-- rise, and there is one with data
pub record AreLoadable (w : ℕ) (rs : List SourceRecord) : Type 0 where
  pub lawful : AllByRecursion IsRecord rs
  pub whole : AllByRecursion (λ r. HasData r → length r.bytes % w ≡ 0) rs
  pub rising : Rising w rs
  pub some : AllByRecursion (λ r. length r.bytes ≡ 0) rs → ⊥

-- what the digits of a record spell are its bytes; it has none where they are no pairs of digits, or more than 252 pairs
abbrev pub record_of : Handed → SourceRecord
record_of h = record { line = h.line; address = h.address; bytes = unwrap_or (decoded h.digits) [] }

-- the same, with the digits borrowed
abbrev pub record_by : Record → SourceRecord
record_by r = record_of (handed_by r)

-- the first of a list, and the rest
abbrev pub first_of : List SourceRecord → Option SourceRecord
first_of [] = None
first_of (r ∷ rs) = Some r

abbrev pub rest_of : List SourceRecord → List SourceRecord
rest_of [] = []
rest_of (r ∷ rs) = rs

-- the records that are to come of a reader of S-records, up to its end or its fault
abbrev pub records_of : Reader → List SourceRecord
records_of r = map record_of (coming r).records

-- the records that a reader hands out of a whole text
abbrev pub records_in : List ℕ → List SourceRecord
records_in text = map record_of (coming_of text).records
