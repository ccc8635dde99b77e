-- How one line is read.
use Rattle.std.specs.Prelude.{◌≡◌, ℕ, ◌+◌, ◌-◌, ◌*◌, ◌%◌, Bool, true, false, cond, ◌&&◌, ◌||◌, List, [], ◌∷◌, length, take, drop, Some, None, Ok, Err, sum, Option, Result, ◌==◌, nat_lt}
use Rattle.std.specs.Option.{ok_or}
use Rattle.srecord.specs.declared.line.Fault.{Fault}
use Rattle.srecord.specs.declared.line.Fault.TheVariants.{Shape, Checksum}
use Rattle.srecord.specs.declared.line.Fault.TheVariants as fault
use Rattle.srecord.specs.declared.line.Form.{Form}
use Rattle.srecord.specs.declared.line.Kind.{Kind}
use Rattle.srecord.specs.declared.line.Kind.TheVariants.{Header, Data, Count, End}
use Rattle.srecord.specs.declared.line.Line.{Line}
use Rattle.srecord.specs.declared.line.Line.TheVariants as lent
use Rattle.srecord.specs.Hex.{pair_value, bytes_of, number}

-- the number by which a fault is reported; a missing end line counts as a fault of order
abbrev pub fault_number : Fault → ℕ
fault_number fault.Shape = 3
fault_number fault.Checksum = 4
fault_number fault.Order = 5
fault_number fault.Count = 6
fault_number fault.NoEnd = 5

-- what a line says: a header with its data digits, a data line with its address and data digits,
-- a count of the data lines, or the end
pub data Content : Type 0 where
  header : List ℕ → Content
  record_at : ℕ → List ℕ → Content
  count_is : ℕ → Content
  end : Content

-- the type digits: S0 is a header, S1 to S3 are data, S5 is a count and S7 to S9 are ends;
-- each has 2, 3 or 4 address bytes, and no other digit is a type
abbrev pub form_of : ℕ → Option Form
form_of t =
    cond (t == 48) (Some (record { kind = Header; width = 2 }))
    (cond (t == 49) (Some (record { kind = Data; width = 2 }))
    (cond (t == 50) (Some (record { kind = Data; width = 3 }))
    (cond (t == 51) (Some (record { kind = Data; width = 4 }))
    (cond (t == 53) (Some (record { kind = Count; width = 2 }))
    (cond (t == 55) (Some (record { kind = End; width = 4 }))
    (cond (t == 56) (Some (record { kind = End; width = 3 }))
    (cond (t == 57) (Some (record { kind = End; width = 2 })) None)))))))

-- a type digit is read as its form, and any other character has a fault of shape
abbrev pub ReadsType : ℕ → Result Form Fault → Type 0
ReadsType t r = r ≡ ok_or (form_of t) Shape

-- headers and data lines carry data, counts and ends do not
abbrev pub carries_data : Kind → Bool
carries_data Header = true
carries_data Data = true
carries_data Count = false
carries_data End = false

-- the count c is right for a line of this form with n bytes after the count: it is their number,
-- which leaves room for address and checksum, and for no more where the kind carries no data
abbrev pub count_fits : Form → ℕ → ℕ → Bool
count_fits f c n = c == n && (nat_lt f.width n && (carries_data f.kind || n == f.width + 1))

-- the digits of address and data among those behind the count c, where it is right for them
abbrev pub fields_for : Form → List ℕ → Option ℕ → Option (List ℕ × List ℕ)
fields_for f ds None = None
fields_for f ds (Some c) =
    cond (length ds == 2 * c && count_fits f c c) (Some (take (2 * f.width) ds, take (2 * (c - f.width - 1)) (drop (2 * f.width) ds))) None

-- the same from the digits with those of the count, which are the first pair
abbrev pub fields_in : Form → List ℕ → Option (List ℕ × List ℕ)
fields_in f [] = None
fields_in f (x ∷ []) = None
fields_in f (x ∷ y ∷ ds) = fields_for f ds (pair_value x y)

-- the data digits of a line with n bytes after its count: they follow mark, type, count and address,
-- and are followed by the checksum
abbrev pub data_digits : Form → List ℕ → ℕ → List ℕ
data_digits f line n = take (2 * (n - f.width - 1)) (drop (4 + 2 * f.width) line)

-- what a line of a kind says, with its address field and its data digits
abbrev pub says : Kind → ℕ → List ℕ → Content
says Header a ds = header ds
says Data a ds = record_at a ds
says Count a ds = count_is a
says End a ds = end

-- count, address, data and checksum add up to 255 modulo 256, so that the checksum is 255 less the
-- low byte of the sum of the others
abbrev pub sum_fits : List ℕ → Bool
sum_fits bs = sum bs % 256 == 255

-- what is wrong with the sum of the bytes that digits spell, if they spell any
abbrev pub checked : Option (List ℕ) → Result (Unit {0}) Fault
checked None = Err Shape
checked (Some bs) = cond (sum_fits bs) (Ok tt) (Err Checksum)

-- what a line of form f says whose count is c and is followed by the bytes of body
abbrev pub line_from : Form → List ℕ → ℕ → List ℕ → Result Content Fault
line_from f line c body =
    cond (count_fits f c (length body))
    (cond (sum_fits (c ∷ body))
    (Ok (says f.kind (number (take f.width body)) (data_digits f line (length body))))
    (Err Checksum))
    (Err Shape)

-- what a line of form f says whose digits spell these bytes, if any
abbrev pub spelled : Form → List ℕ → Option (List ℕ) → Result Content Fault
spelled f line None = Err Shape
spelled f line (Some []) = Err Shape
spelled f line (Some (c ∷ body)) = line_from f line c body

-- what a line of this form says, if its type has one
abbrev pub typed : Option Form → List ℕ → List ℕ → Result Content Fault
typed None line digits = Err Shape
typed (Some f) line digits = spelled f line (bytes_of digits)

-- a line is S, a type and pairs of hex digits that spell its count and what the count counts;
-- the shape is looked at before the checksum
abbrev pub line_of : List ℕ → Result Content Fault
line_of [] = Err Shape
line_of (s ∷ []) = Err Shape
line_of (s ∷ t ∷ digits) = cond (s == 83) (typed (form_of t) (s ∷ t ∷ digits) digits) (Err Shape)

-- what a line that was read says, with the borrowed digits as lists
abbrev pub content_of : Line → Content
content_of (lent.Header ds) = header ds.now
content_of (lent.Data a ds) = record_at a ds.now
content_of (lent.Count n) = count_is n
content_of lent.End = end

-- what the line reader answered, with the borrowed digits as lists
abbrev pub said : Result Line Fault → Result Content Fault
said (Ok l) = Ok (content_of l)
said (Err f) = Err f
