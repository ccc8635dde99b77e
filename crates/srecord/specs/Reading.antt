-- What a reader hands out of a text, and the fault at which it stops.
use Rattle.std.specs.Prelude.{◌≡◌, ℕ, ◌+◌, ◌<◌, Bool, true, false, cond, List, [], ◌∷◌, ◌++◌, length, map, Some, None, Ok, Err, Option, Result, ◌==◌}
use Rattle.srecord.specs.declared.line.Fault.{Fault}
use Rattle.srecord.specs.declared.line.Fault.TheVariants.{Order, Count, NoEnd}
use Rattle.srecord.specs.declared.reader.FaultAt.{FaultAt}
use Rattle.srecord.specs.declared.reader.Phase.{Phase}
use Rattle.srecord.specs.declared.reader.Phase.TheVariants.{Start, Body, Counted, Ended}
use Rattle.srecord.specs.declared.reader.Reader.{Reader}
use Rattle.srecord.specs.declared.reader.Record.{Record}
use Rattle.srecord.specs.Line.{Content, header, record_at, count_is, end, line_of}
use Rattle.srecord.specs.Text.{lines_of}

-- nothing has been read yet
abbrev pub at_start : Phase → Bool
at_start Start = true
at_start Body = false
at_start Counted = false
at_start Ended = false

-- data lines and a count may still follow
abbrev pub is_open : Phase → Bool
is_open Start = true
is_open Body = true
is_open Counted = false
is_open Ended = false

-- the end line has been read
abbrev pub at_end : Phase → Bool
at_end Start = false
at_end Body = false
at_end Counted = false
at_end Ended = true

-- the order of lines, after n data lines: a header only first, data lines and then one count of all
-- of them before the end line, and nothing after it
abbrev pub follow : Phase → ℕ → Content → Result Phase Fault
follow p n (header ds) = cond (at_start p) (Ok Body) (Err Order)
follow p n (record_at a ds) = cond (is_open p) (Ok Body) (Err Order)
follow p n (count_is c) = cond (is_open p) (cond (c == n) (Ok Counted) (Err Count)) (Err Order)
follow p n end = cond (at_end p) (Err Order) (Ok Ended)

-- how many data lines there are with one line more: one without data counts like any other
abbrev pub records_with : ℕ → Content → ℕ
records_with k (header ds) = k
records_with k (record_at a ds) = k + 1
records_with k (count_is n) = k
records_with k end = k

-- what a line leads to: a fault, the next line, or a data record to hand out
pub data Step : Type 0 where
  stop : Fault → Step
  pass : Phase → Step
  hand : Phase → ℕ → List ℕ → Step

-- a line in its place is passed over, but a data line is handed out; one out of place is a fault
abbrev pub step_to : Content → Result Phase Fault → Step
step_to c (Err f) = stop f
step_to (header ds) (Ok q) = pass q
step_to (record_at a ds) (Ok q) = hand q a ds
step_to (count_is n) (Ok q) = pass q
step_to end (Ok q) = pass q

-- a line is looked at by itself first, then for its place among the others
abbrev pub step_of : Phase → ℕ → Result Content Fault → Step
step_of p n (Err f) = stop f
step_of p n (Ok c) = step_to c (follow p n c)

-- a data record: its line from 1, its address and its data digits
pub record Handed : Type 0 where
  pub line : ℕ
  pub address : ℕ
  pub digits : List ℕ

-- what is to come of a text: the records, in order, and then its first fault or none
pub record Coming : Type 0 where
  pub records : List Handed
  pub fault : Option FaultAt

-- nothing more is to come but this fault, or a good end
abbrev pub stopped : Option FaultAt → Coming
stopped f = record { records = []; fault = f }

-- a record, and then what is to come
abbrev pub handing : Handed → Coming → Coming
handing r c = record { records = r ∷ c.records; fault = c.fault }

-- a text that ends without an end line has a fault on no line
abbrev pub at_last : Phase → Option FaultAt
at_last p = cond (at_end p) None (Some (record { fault = NoEnd; line = None }))

-- what is to come from line n on, after k data lines, where go says what is to come of the later lines
abbrev pub leads_to : ℕ → (Phase → ℕ → Coming) → ℕ → Step → Coming
leads_to n go k (stop f) = stopped (Some (record { fault = f; line = Some n }))
leads_to n go k (pass q) = go q k
leads_to n go k (hand q a ds) = handing (record { line = n; address = a; digits = ds }) (go q (k + 1))

-- what is to come of these lines after n lines, of which k were data lines
unfoldable pub coming_from : Phase → ℕ → ℕ → List (List ℕ) → Coming
coming_from p k n [] = stopped (at_last p)
coming_from p k n (l ∷ ls) = leads_to (n + 1) (λ q j. coming_from q j (n + 1) ls) k (step_of p k (line_of l))

-- what is to come of a whole text
abbrev pub coming_of : List ℕ → Coming
coming_of text = coming_from Start 0 0 (lines_of text)

-- what is to come of a reader
abbrev pub coming : Reader → Coming
coming r = coming_from r.phase r.records r.lines (lines_of r.rest.now)

-- the first record, or else the fault or that there is none
abbrev pub next_from : List Handed → Option FaultAt → Result (Option Handed) FaultAt
next_from [] None = Ok None
next_from [] (Some f) = Err f
next_from (r ∷ rs) f = Ok (Some r)

-- what is answered next: a record, or that there is none, or the fault
abbrev pub next_of : Coming → Result (Option Handed) FaultAt
next_of c = next_from c.records c.fault

-- a list without its first
abbrev pub tail_of : {X : Type 0} → List X → List X
tail_of [] = []
tail_of (x ∷ xs) = xs

-- what is to come after that
abbrev pub rest_of : Coming → Coming
rest_of c = record { records = tail_of c.records; fault = c.fault }

-- a record that was handed out, with the borrowed digits as a list
abbrev pub handed_by : Record → Handed
handed_by r = record { line = r.line; address = r.address; digits = r.digits.now }

-- what a reader answered, with the borrowed digits as a list
abbrev pub answered : Result (Option Record) FaultAt → Result (Option Handed) FaultAt
answered (Ok None) = Ok None
answered (Ok (Some r)) = Ok (Some (handed_by r))
answered (Err f) = Err f

-- the fault of a text as the last of what is handed out one by one
abbrev pub fault_item : Option FaultAt → List (Result Handed FaultAt)
fault_item None = []
fault_item (Some f) = Err f ∷ []

-- what is to come, one by one: each record, and then the fault, if there is one
abbrev pub items_of : Coming → List (Result Handed FaultAt)
items_of c = map Ok c.records ++ fault_item c.fault

-- what reading one line of a reader leads to, where its text is not empty: a fault of that line, at which it
-- stops and nothing changes; or less text with the same to come; or less text behind the next record
abbrev pub ReadsOne : Reader → Result (Option Record) Fault → Reader → Type 0
ReadsOne r (Err f) s = (coming r ≡ stopped (Some (record { fault = f; line = Some (r.lines + 1) }))) × (s ≡ r)
ReadsOne r (Ok None) s = (coming r ≡ coming s) × (length s.rest.now < length r.rest.now)
ReadsOne r (Ok (Some x)) s = (coming r ≡ handing (handed_by x) (coming s)) × (length s.rest.now < length r.rest.now)
