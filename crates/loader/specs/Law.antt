-- What a verdict means: which texts are accepted, and what a refusal names.
use Rattle.std.specs.Prelude.{◌≡◌, ℕ, ◌+◌, ◌/◌, ◌%◌, ◌<◌, ◌≤◌, max, Bool, true, false, cond, ◌⊎◌, List, [], ◌∷◌, length, take, Some, None, Ok, Err, fold, count_by, Option, Result, ◌==◌, nat_lt, slice_index_or}
use Rattle.std.specs.List.{AllByRecursion}
use Rattle.srecord.specs.declared.Fault.{Fault}
use Rattle.srecord.specs.declared.Fault.TheVariants.{Order, Count, NoEnd}
use Rattle.srecord.specs.File.{Entry, File, WritesFile, HandsFile}
use Rattle.srecord.specs.Hex.{number}
use Rattle.srecord.specs.Line.{Content, header, record_at, count_is, end, line_of}
use Rattle.srecord.specs.Reading.{coming_of}
use Rattle.srecord.specs.Text.{lines_of}
use Rattle.loader.specs.declared.file.Reason.{Reason}
use Rattle.loader.specs.declared.file.Reason.TheVariants as why
use Rattle.loader.specs.declared.file.Refusal.{Refusal}

-- ---- the targets

-- the number is that of a target of this size with w bytes an address: 0 is the flash, with two; 2 and
-- 3 are EEPROMs of 1 to 1,048,576 bytes, with one
abbrev pub IsTarget : ℕ → ℕ → ℕ → Type 0
IsTarget target size w =
    ((target ≡ 0) × (w ≡ 2))
    ⊎ (((target ≡ 2) ⊎ (target ≡ 3)) × (1 ≤ size) × (size ≤ 1048576) × (w ≡ 1))

-- ---- which files suit a target with w bytes an address

-- the address of a data line
abbrev pub start_of : Entry → ℕ
start_of e = number e.address

-- the address after its bytes
abbrev pub end_of : ℕ → Entry → ℕ
end_of w e = start_of e + length e.bytes / w

-- a line with data
abbrev pub HasData : Entry → Type 0
HasData e = 0 < length e.bytes

-- no data line with data starts below the end of an earlier one
abbrev pub Rising : ℕ → List Entry → Type 0
Rising w [] = Unit {0}
Rising w (e ∷ es) = (HasData e → AllByRecursion (λ l. HasData l → end_of w e ≤ start_of l) es) × Rising w es

-- the data lines suit the target: those with data fill whole addresses and rise, and there is one
pub record Suits (w : ℕ) (es : List Entry) : Type 0 where
  pub whole : AllByRecursion (λ e. HasData e → length e.bytes % w ≡ 0) es
  pub rising : Rising w es
  pub some : AllByRecursion (λ e. length e.bytes ≡ 0) es → ⊥

-- the text writes a file that suits a target with w bytes an address, and its records are handed out
pub record Holds (w : ℕ) (text : List ℕ) (f : File) : Type 0 where
  pub writes : WritesFile f text
  pub suits : Suits w f.records
  pub hands : HandsFile (coming_of text).records f

-- ---- which line has a fault

-- what a line says in front of what others say; nothing where it cannot be read
abbrev pub said_by : Result Content Fault → List Content → List Content
said_by (Ok c) cs = c ∷ cs
said_by (Err f) cs = cs

-- what these lines say, but for those that cannot be read
abbrev pub contents_of : List (List ℕ) → List Content
contents_of [] = []
contents_of (l ∷ ls) = said_by (line_of l) (contents_of ls)

-- a data line
abbrev pub is_record : Content → Bool
is_record (header ds) = false
is_record (record_at a ds) = true
is_record (count_is n) = false
is_record end = false

-- an end line
abbrev pub is_end : Content → Bool
is_end (header ds) = false
is_end (record_at a ds) = false
is_end (count_is n) = false
is_end end = true

-- a count or an end, after which no data line stands
abbrev pub closes : Content → Bool
closes (header ds) = false
closes (record_at a ds) = false
closes (count_is n) = true
closes end = true

-- some of these is so
abbrev pub any_of : (Content → Bool) → List Content → Bool
any_of p cs = nat_lt 0 (count_by p cs)

-- where a data line with data ends; nothing else ends anywhere
abbrev pub reach_of : ℕ → Content → ℕ
reach_of w (header ds) = 0
reach_of w (record_at a ds) = cond (length ds / 2 == 0) 0 (a + length ds / 2 / w)
reach_of w (count_is n) = 0
reach_of w end = 0

-- a data line with data
abbrev pub has_data : Content → Bool
has_data (header ds) = false
has_data (record_at a ds) = nat_lt 0 (length ds / 2)
has_data (count_is n) = false
has_data end = false

-- the furthest end of the data lines so far
abbrev pub furthest : ℕ → List Content → ℕ
furthest w cs = fold (λ m c. max m (reach_of w c)) 0 cs

-- the fault of a data line in its addresses
abbrev pub address_fault : ℕ → List Content → ℕ → ℕ → Option Reason
address_fault w before a n =
    cond (n == 0) None
    (cond (n % w == 0) (cond (nat_lt a (furthest w before)) (Some why.NotRising) None) (Some why.NotWhole))

-- the fault of a line that can be read, by what the lines before it said: a header has any line
-- before it; a data line or a count has a count or an end before it, an end has an end before it; a
-- count is not the number of data lines before it; the addresses of a data line are not in order
abbrev pub place_fault : ℕ → List Content → Content → Option Reason
place_fault w before (header ds) = cond (length before == 0) None (Some (why.File Order))
place_fault w before (record_at a ds) =
    cond (any_of closes before) (Some (why.File Order)) (address_fault w before a (length ds / 2))
place_fault w before (count_is n) =
    cond (any_of closes before) (Some (why.File Order))
    (cond (n == count_by is_record before) None (Some (why.File Count)))
place_fault w before end = cond (any_of is_end before) (Some (why.File Order)) None

-- the fault of a line by itself, or else that of its place
abbrev pub fault_from : ℕ → List Content → Result Content Fault → Option Reason
fault_from w before (Err f) = Some (why.File f)
fault_from w before (Ok c) = place_fault w before c

-- the fault of line n of these, counted from 0: its own, or else that of its place
abbrev pub fault_at : ℕ → List (List ℕ) → ℕ → Option Reason
fault_at w ls n = fault_from w (contents_of (take n ls)) (line_of (slice_index_or ls n []))

-- none of the first n lines has a fault
abbrev pub Faultless : ℕ → List (List ℕ) → ℕ → Type 0
Faultless w ls n = (m : ℕ) → m < n → fault_at w ls m ≡ None

-- line n, counted from 0, has this fault, and no line before it has one
pub record LineFault (w : ℕ) (ls : List (List ℕ)) (reason : Reason) (n : ℕ) : Type 0 where
  pub inside : n < length ls
  pub first : Faultless w ls n
  pub fault : fault_at w ls n ≡ Some reason

-- no line has a fault, and none is an end line
pub record NoEndLine (w : ℕ) (ls : List (List ℕ)) : Type 0 where
  pub first : Faultless w ls (length ls)
  pub none : any_of is_end (contents_of ls) ≡ false

-- no line has a fault, one is an end line, and none has data
pub record NoDataLine (w : ℕ) (ls : List (List ℕ)) : Type 0 where
  pub first : Faultless w ls (length ls)
  pub ended : any_of is_end (contents_of ls) ≡ true
  pub none : any_of has_data (contents_of ls) ≡ false

-- a refusal that names the first fault of these lines, the line counted from 1, or that names no line
-- where no line has a fault and there is no end line, or no data
abbrev pub NamesFirst : ℕ → List (List ℕ) → Refusal → Type 0
NamesFirst w ls x =
    ((n : ℕ) × LineFault w ls x.reason n × (x.line ≡ Some (n + 1)))
    ⊎ ((NoEndLine w ls × (x ≡ record { reason = why.File NoEnd; line = None }))
    ⊎ (NoDataLine w ls × (x ≡ record { reason = why.NoData; line = None })))

-- ---- the verdict

-- what a refusal says of a text for a target of a size
abbrev pub Refuses : List ℕ → ℕ → ℕ → Refusal → Type 0
Refuses text target size x =
    (((w : ℕ) → IsTarget target size w → ⊥) × (x ≡ record { reason = why.Target; line = None }))
    ⊎ ((w : ℕ) × IsTarget target size w
    × (((4194304 < length text) × (x ≡ record { reason = why.TextSize; line = None }))
    ⊎ ((length text ≤ 4194304) × NamesFirst w (lines_of text) x)))

-- a verdict accepts a text exactly when it writes a file that suits the target, whose records are
-- then handed out; no line of a text that is accepted has a fault; and a refusal names the first fault
pub record Judges (text : List ℕ) (target size : ℕ) (r : Result (Unit {0}) Refusal) : Type 0 where
  pub accepted : r ≡ Ok tt → (w : ℕ) × IsTarget target size w × (length text ≤ 4194304) × ((f : File) × Holds w text f)
  pub accepts : (w : ℕ) (f : File) → IsTarget target size w → length text ≤ 4194304 → WritesFile f text → Suits w f.records → (r ≡ Ok tt) × HandsFile (coming_of text).records f
  pub faultless : r ≡ Ok tt → (w : ℕ) × IsTarget target size w × Faultless w (lines_of text) (length (lines_of text))
  pub refused : (x : Refusal) → r ≡ Err x → Refuses text target size x
