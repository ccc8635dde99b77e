-- The line that says which part a script is for.
use Rattle.std.specs.Prelude.{ℕ, Bool, true, false, cond, List, [], ◌∷◌, drop, Ok, Err, codes, Result}
use Rattle.std.specs.Result.{result_map_both}
use Rattle.std.specs.Str.{bytes_eq}
use Rattle.script.specs.declared.setup.PartKind.{PartKind}
use Rattle.script.specs.declared.setup.PartKind.TheVariants.{Flash, Eeprom}
use Rattle.script.specs.declared.setup.Setup.{Setup}
use Rattle.script.specs.Words.{WrongWord, too_many, named_taken, ended}
use Rattle.script.specs.Fault.{WrongLine, no_part, reads}

-- the word crossed at the end asks for a lane crossing, and no other word may stand there
abbrev pub crossed_taken : List (List ℕ) → Result Bool WrongWord
crossed_taken [] = Ok false
crossed_taken (w ∷ ws) = cond (bytes_eq w (codes "crossed")) (result_map_both (λ u. true) (λ e. e) (ended ws)) (Err (too_many w))

-- a part of this kind, crossed or not, as the words at the end say
abbrev pub kind_of : PartKind → List (List ℕ) → Result Setup WrongLine
kind_of k ws = reads (crossed_taken ws) (λ c. Ok (record { kind = k; crossed = c }))

-- sectors, words in a sector and bytes of the buffer, in this order
abbrev pub flash_of : List (List ℕ) → Result Setup WrongLine
flash_of ws =
    reads (named_taken (codes "sectors=") ws) (λ s.
    reads (named_taken (codes "words=") (drop 1 ws)) (λ n.
    reads (named_taken (codes "buffer=") (drop 1 (drop 1 ws))) (λ b.
    kind_of (Flash s n b) (drop 1 (drop 1 (drop 1 ws))))))

-- bytes of the buffer
abbrev pub eeprom_of : List (List ℕ) → Result Setup WrongLine
eeprom_of ws = reads (named_taken (codes "buffer=") ws) (λ b. kind_of (Eeprom b) (drop 1 ws))

-- the part of a name, with what the words behind the name say of it
abbrev pub setup_of : List ℕ → List (List ℕ) → Result Setup WrongLine
setup_of name ws =
    cond (bytes_eq name (codes "flash")) (flash_of ws)
    (cond (bytes_eq name (codes "eeprom")) (eeprom_of ws) (Err (no_part name)))
