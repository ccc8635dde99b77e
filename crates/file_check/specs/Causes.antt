-- Why a file is refused, as far as advice differs.
use Rattle.std.specs.Prelude.{ℕ, ◌+◌, ◌-◌, Bool, false, cond, ◌&&◌, List, [], ◌∷◌, length, ◌==◌, nat_lt, unwrap_or}
use Rattle.srecord.specs.declared.line.Fault.{Fault}
use Rattle.srecord.specs.declared.line.Fault.TheVariants as fault
use Rattle.loader.specs.declared.file.Reason.{Reason}
use Rattle.loader.specs.declared.file.Reason.TheVariants as reason
use Rattle.loader.specs.declared.file.Refusal.{Refusal}
use Rattle.file_check.specs.declared.cause.Cause.{Cause}
use Rattle.file_check.specs.declared.cause.Cause.TheVariants.{Size, TextSize, EmptyLine, SmallLetter, IntelHex, Reserved, WideCount, ManyLines, Shape, Checksum, Order, NoEnd, EmptyText, Count, NotRising, NotWhole, NoData}

-- the text behind its first n lines
unfoldable pub behind_lines : ℕ → List ℕ → List ℕ
behind_lines n [] = []
behind_lines n (b ∷ bs) = cond (n == 0) (b ∷ bs) (behind_lines (cond (b == 10) (n - 1) n) bs)

-- this character comes first
abbrev pub starts_with : ℕ → List ℕ → Bool
starts_with c [] = false
starts_with c (b ∷ bs) = b == c

-- S4 has no meaning, and S6 is a count of up to 24 bits
abbrev pub type_cause : List ℕ → Cause
type_cause bs = cond (starts_with 52 bs) Reserved (cond (starts_with 54 bs) WideCount Shape)

-- why the line that a text begins with has a fault of shape: it is empty, has a small letter or is one of
-- Intel HEX, or it is of a type that is not taken
abbrev pub shape_cause : List ℕ → Cause
shape_cause [] = EmptyLine
shape_cause (b ∷ bs) =
    cond (b == 10) EmptyLine
    (cond (b == 13 && starts_with 10 bs) EmptyLine
    (cond (b == 115) SmallLetter
    (cond (b == 58) IntelHex
    (cond (b == 83) (type_cause bs) Shape))))

-- how many headers a text begins with
abbrev pub headers : List ℕ → ℕ
headers [] = 0
headers (b ∷ bs) = cond (b == 83 && starts_with 48 bs) 1 0

-- why a count on a line is wrong: the data lines before it, which are all lines but the header, may be
-- more than a count can say
abbrev pub count_cause : List ℕ → ℕ → Cause
count_cause text line = cond (nat_lt 65535 (line - (1 + headers text))) ManyLines Count

-- why there is no end line: there is no line at all, or the file is not whole
abbrev pub end_cause : List ℕ → Cause
end_cause text = cond (length text == 0) EmptyText NoEnd

-- the advice for a fault of a line or of the order
abbrev pub fault_cause : Fault → List ℕ → ℕ → Cause
fault_cause fault.Shape text line = shape_cause (behind_lines (line - 1) text)
fault_cause fault.Checksum text line = Checksum
fault_cause fault.Order text line = Order
fault_cause fault.Count text line = count_cause text line
fault_cause fault.NoEnd text line = end_cause text

-- the advice for a reason of refusal
abbrev pub reason_cause : Reason → List ℕ → ℕ → Cause
reason_cause reason.Target text line = Size
reason_cause reason.TextSize text line = TextSize
reason_cause (reason.File f) text line = fault_cause f text line
reason_cause reason.NotRising text line = NotRising
reason_cause reason.NotWhole text line = NotWhole
reason_cause reason.NoData text line = NoData

-- the advice for a refusal of a text, where line 0 stands for none
abbrev pub cause_of : List ℕ → Refusal → Cause
cause_of text r = reason_cause r.reason text (unwrap_or r.line 0)
