-- S-record files as they are meant, and the texts that write them.
use Rattle.std.specs.Prelude.{◌≡◌, ℕ, ◌+◌, ◌-◌, ◌/◌, ◌%◌, ◌<◌, ◌≤◌, ◌⊎◌, List, [], ◌∷◌, ◌++◌, length, IfSome, Some, Ok, Err, sum, Option, Result, ◌≢◌}
use Rattle.std.specs.Option.{option_to_list}
use Rattle.std.specs.List.{AllByRecursion}
use Rattle.srecord.specs.declared.line.Fault.{Fault}
use Rattle.srecord.specs.declared.line.Fault.TheVariants.{Shape, Checksum}
use Rattle.srecord.specs.declared.line.Kind.{Kind}
use Rattle.srecord.specs.declared.line.Kind.TheVariants.{Header, Data, Count, End}
use Rattle.srecord.specs.Bytes.{decoded}
use Rattle.srecord.specs.Hex.{bytes_of, number}
use Rattle.srecord.specs.Line.{Content, says}
use Rattle.srecord.specs.Reading.{Handed}

-- c is a hex digit of value d, of either case
abbrev pub Digit : ℕ → ℕ → Type 0
Digit d c = ((d < 10) × (c ≡ 48 + d)) ⊎ ((10 ≤ d) × (d < 16) × ((c ≡ 55 + d) ⊎ (c ≡ 87 + d)))

-- the characters write the bytes, each by a pair of digits, high digit first
abbrev pub WritesBytes : List ℕ → List ℕ → Type 0
WritesBytes [] [] = Unit {0}
WritesBytes [] (x ∷ cs) = ⊥
WritesBytes (b ∷ bs) [] = ⊥
WritesBytes (b ∷ bs) (x ∷ []) = ⊥
WritesBytes (b ∷ bs) (x ∷ y ∷ cs) = Digit (b / 16) x × Digit (b % 16) y × WritesBytes bs cs

-- a line as it is meant: the digit of its type, its address bytes and its data bytes
pub record Entry : Type 0 where
  pub digit : ℕ
  pub address : List ℕ
  pub bytes : List ℕ

-- address and data
abbrev pub body_of : Entry → List ℕ
body_of e = e.address ++ e.bytes

-- how many bytes follow the count: address, data and checksum
abbrev pub count_of : Entry → ℕ
count_of e = length (body_of e) + 1

-- 255 less the low byte of the sum of count, address and data
abbrev pub checksum_of : Entry → ℕ
checksum_of e = 255 - sum (count_of e ∷ body_of e) % 256

-- the digit is a type of this kind of line, with so many address bytes: S0 is a header, S1, S2 and S3
-- are data lines, S5 is a count, and S9, S8 and S7 are ends
abbrev pub IsType : Kind → ℕ → ℕ → Type 0
IsType Header w d = (d ≡ 48) × (w ≡ 2)
IsType Data w d = ((d ≡ 49) × (w ≡ 2)) ⊎ (((d ≡ 50) × (w ≡ 3)) ⊎ ((d ≡ 51) × (w ≡ 4)))
IsType Count w d = (d ≡ 53) × (w ≡ 2)
IsType End w d = ((d ≡ 57) × (w ≡ 2)) ⊎ (((d ≡ 56) × (w ≡ 3)) ⊎ ((d ≡ 55) × (w ≡ 4)))

-- the data that a line of this kind may carry: a count and an end carry none
abbrev pub MayCarry : Kind → List ℕ → Type 0
MayCarry Header bs = Unit {0}
MayCarry Data bs = Unit {0}
MayCarry Count bs = bs ≡ []
MayCarry End bs = bs ≡ []

-- a line of this kind: its digit is a type of the kind with so many address bytes, all are bytes, the
-- count is one too, and the data is such as the kind may carry
pub record IsEntry (k : Kind) (e : Entry) : Type 0 where
  pub type : IsType k (length e.address) e.digit
  pub small : AllByRecursion (λ b. b < 256) (body_of e)
  pub short : count_of e < 256
  pub carries : MayCarry k e.bytes

-- the characters write the line with c for its checksum: its mark, its type, and its count, address
-- and data, and c
abbrev pub WritesWith : ℕ → Entry → List ℕ → Type 0
WritesWith c e [] = ⊥
WritesWith c e (s ∷ []) = ⊥
WritesWith c e (s ∷ t ∷ cs) = (s ≡ 83) × (t ≡ e.digit) × WritesBytes (count_of e ∷ (body_of e ++ c ∷ [])) cs

-- the characters write the line, with its checksum
abbrev pub WritesLine : Entry → List ℕ → Type 0
WritesLine e cs = WritesWith (checksum_of e) e cs

-- what a line says that is read: its kind, and of that what the line has
pub record SaysEntry (k : Kind) (e : Entry) (c : Content) : Type 0 where
  pub digits : List ℕ
  pub tells : c ≡ says k (number e.address) digits
  pub spells : bytes_of digits ≡ Some e.bytes

-- what it means to read a line so: it is read exactly when it writes a line of some kind, and then it
-- says what that line has; its checksum is at fault when it writes a line but for the checksum; and
-- its shape is at fault when it writes no line with any checksum
pub record ReadsLine (cs : List ℕ) (r : Result Content Fault) : Type 0 where
  pub read : (c : Content) → r ≡ Ok c → (k : Kind) × (e : Entry) × IsEntry k e × WritesLine e cs × SaysEntry k e c
  pub reads : (k : Kind) (e : Entry) → IsEntry k e → WritesLine e cs → (c : Content) × (r ≡ Ok c) × SaysEntry k e c
  pub checksum : r ≡ Err Checksum → (k : Kind) × (e : Entry) × (b : ℕ) × IsEntry k e × WritesWith b e cs × (b ≢ checksum_of e)
  pub shape : (f : Fault) → r ≡ Err f → (f ≢ Checksum) → (f ≡ Shape) × ((k : Kind) (e : Entry) (b : ℕ) → IsEntry k e → WritesWith b e cs → ⊥)

-- what may end a line that is followed by these: LF or CR LF, or nothing where it is the last
abbrev pub EndsLine : List ℕ → List Entry → Type 0
EndsLine cs es = (cs ≡ 10 ∷ []) ⊎ ((cs ≡ 13 ∷ 10 ∷ []) ⊎ ((cs ≡ []) × (es ≡ [])))

-- the text writes the lines, one after the other
abbrev pub WritesText : List Entry → List ℕ → Type 0
WritesText [] text = text ≡ []
WritesText (e ∷ es) text =
    (line : List ℕ) × (ending : List ℕ) × (rest : List ℕ) × (text ≡ line ++ (ending ++ rest))
    × WritesLine e line × EndsLine ending es × WritesText es rest

-- a file: an optional header, data lines, an optional count and an end
pub record File : Type 0 where
  pub header : Option Entry
  pub records : List Entry
  pub count : Option Entry
  pub end : Entry

-- each line is of its kind, and a count is the number of the data lines
pub record IsFile (f : File) : Type 0 where
  pub header : IfSome f.header (IsEntry Header)
  pub records : AllByRecursion (IsEntry Data) f.records
  pub count : IfSome f.count (λ e. IsEntry Count e × (number e.address ≡ length f.records))
  pub end : IsEntry End f.end

-- the lines of a file, in order
abbrev pub entries : File → List Entry
entries f = option_to_list f.header ++ (f.records ++ (option_to_list f.count ++ f.end ∷ []))

-- the text writes the file
abbrev pub WritesFile : File → List ℕ → Type 0
WritesFile f text = IsFile f × WritesText (entries f) text

-- the record that is handed out is this data line, on line n: its address, and the bytes that its digits
-- are decoded to
pub record Hands (n : ℕ) (r : Handed) (e : Entry) : Type 0 where
  pub line : r.line ≡ n
  pub address : r.address ≡ number e.address
  pub bytes : decoded r.digits ≡ Some e.bytes

-- the records that are handed out are these data lines, in order, after n other lines
abbrev pub HandsAll : ℕ → List Handed → List Entry → Type 0
HandsAll n [] [] = Unit {0}
HandsAll n [] (e ∷ es) = ⊥
HandsAll n (r ∷ rs) [] = ⊥
HandsAll n (r ∷ rs) (e ∷ es) = Hands (n + 1) r e × HandsAll (n + 1) rs es

-- the records that are handed out are those of the file
abbrev pub HandsFile : List Handed → File → Type 0
HandsFile rs f = HandsAll (length (option_to_list f.header)) rs f.records
