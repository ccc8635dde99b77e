-- The lines of a text.
use Rattle.std.specs.Prelude.{◌≡◌, ℕ, ◌+◌, ◌*◌, ◌<◌, Bool, false, cond, ◌&&◌, ◌⊎◌, List, [], ◌∷◌, ◌++◌, length, Some, None, Ok, Err, Option, Result, ◌==◌, slice_index}
use Rattle.std.specs.Borrow.{Bor}
use Rattle.std.specs.Option.{option_map}
use Rattle.srecord.specs.declared.line.Fault.{Fault}
use Rattle.srecord.specs.declared.line.Line.{Line}
use Rattle.srecord.specs.Hex.{pair_value}
use Rattle.srecord.specs.Line.{line_of, content_of}

-- LF comes first
abbrev pub starts_with_lf : List ℕ → Bool
starts_with_lf [] = false
starts_with_lf (b ∷ bs) = b == 10

-- a character more at the front of the first line
abbrev pub on_first : ℕ → List (List ℕ) → List (List ℕ)
on_first b [] = (b ∷ []) ∷ []
on_first b (l ∷ ls) = (b ∷ l) ∷ ls

-- the lines of a text, without their ends: LF ends a line, and a CR right before it belongs to the
-- end; what follows the last LF is a line too, unless it is empty
unfoldable pub lines_of : List ℕ → List (List ℕ)
lines_of [] = []
lines_of (b ∷ bs) =
    cond (b == 10) ([] ∷ lines_of bs)
    (cond (b == 13 && starts_with_lf bs) (lines_of bs)
    (on_first b (lines_of bs)))

-- the text is the end of a line and then the rest: LF, CR LF, or nothing where nothing follows
abbrev pub EndsBefore : List ℕ → List ℕ → Type 0
EndsBefore text rest = (text ≡ 10 ∷ rest) ⊎ ((text ≡ 13 ∷ 10 ∷ rest) ⊎ ((text ≡ []) × (rest ≡ [])))

-- what follows the end of a line that a text begins with, or that it begins with none
abbrev pub SkipsEnd : List ℕ → Option (Bor (List ℕ)) → Type 0
SkipsEnd text None = (rest : List ℕ) → EndsBefore text rest → ⊥
SkipsEnd text (Some rest) = EndsBefore text rest.now

-- how long the first line of a text is by its count, which its third and fourth character spell;
-- none where they are missing or spell no byte
abbrev pub measured_length : List ℕ → Option ℕ
measured_length text = option_map (λ n. 4 + 2 * n) (pair_value (slice_index text 2) (slice_index text 3))

-- the text begins with a line as long as its count says, which ends there, and then comes the rest
pub record Measured (text line rest : List ℕ) : Type 0 where
  pub tail : List ℕ
  pub whole : text ≡ line ++ tail
  pub long : measured_length text ≡ Some (length line)
  pub ends : EndsBefore tail rest

-- the line that the count measures and what follows its end, or that there is no such line
abbrev pub CutsLine : List ℕ → Option ((Bor (List ℕ)) × (Bor (List ℕ))) → Type 0
CutsLine text None = (line rest : List ℕ) → Measured text line rest → ⊥
CutsLine text (Some p) = Measured text p.0.now p.1.now

-- what the first line of a text says and what follows it, or the fault of that line
abbrev pub ReadsFirst : List ℕ → Result (Line × (Bor (List ℕ))) Fault → Type 0
ReadsFirst text (Ok p) =
    (l : List ℕ) × (lines_of text ≡ l ∷ lines_of p.1.now) × (line_of l ≡ Ok (content_of p.0))
    × (length p.1.now < length text)
ReadsFirst text (Err f) = (l : List ℕ) × (ls : List (List ℕ)) × (lines_of text ≡ l ∷ ls) × (line_of l ≡ Err f)
