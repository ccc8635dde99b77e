-- What the calls of a part answer, and what they leave.
use Rattle.std.specs.Prelude.{ℕ, Bool, cond, List, length, is_ok, Ok, Err, Result, nat_lt, slice_index}
use Rattle.memory.specs.declared.refusal.PartRefusal.{PartRefusal}
use Rattle.memory.specs.declared.refusal.PartRefusal.TheVariants.{Outside, NotTaken, NoSuchUnit}
use Rattle.memory.specs.Part.{Shape}
use Rattle.memory.specs.Changes.{put, clear, changed}

-- the number by which a refusal is known
abbrev pub refusal_number : PartRefusal → ℕ
refusal_number Outside = 1
refusal_number NotTaken = 2
refusal_number NoSuchUnit = 3

-- a read gives the byte at an offset inside
abbrev pub read_answer : List ℕ → ℕ → Result ℕ PartRefusal
read_answer xs o = cond (nat_lt o (length xs)) (Ok (slice_index xs o)) (Err Outside)

-- a question says whether the value would be taken over the byte that is there
abbrev pub question_answer : Shape → List ℕ → ℕ → ℕ → Result Bool PartRefusal
question_answer s xs o v = cond (nat_lt o (length xs)) (Ok (s.takes o (slice_index xs o) v)) (Err Outside)

-- a put is done inside, where the value is taken
abbrev pub put_answer : Shape → List ℕ → ℕ → ℕ → Result (Unit {0}) PartRefusal
put_answer s xs o v = cond (nat_lt o (length xs)) (cond (s.takes o (slice_index xs o) v) (Ok tt) (Err NotTaken)) (Err Outside)

-- a clear is done where there is such a unit
abbrev pub clear_answer : Shape → ℕ → Result (Unit {0}) PartRefusal
clear_answer s u = cond (nat_lt u s.units) (Ok tt) (Err NoSuchUnit)

-- a put that is done makes that byte the value; one that is refused leaves everything
abbrev pub after_put : Shape → List ℕ → ℕ → ℕ → List ℕ
after_put s xs o v = cond (is_ok (put_answer s xs o v)) (changed s (put o v) xs) xs

-- a clear that is done makes every byte of the unit 0xFF; one that is refused leaves everything
abbrev pub after_clear : Shape → List ℕ → ℕ → List ℕ
after_clear s xs u = cond (is_ok (clear_answer s u)) (changed s (clear u) xs) xs
