-- What the words of a command line say, each by itself.
use Rattle.std.specs.Prelude.{ℕ, ◌+◌, ◌-◌, ◌*◌, ◌^◌, Bool, false, cond, ◌&&◌, ◌||◌, List, [], ◌∷◌, length, Some, None, codes, Option, ◌==◌, nat_lt}
use Rattle.std.specs.Str.Parse.{without_leading_plus}
use Rattle.std.specs.Str.{bytes_eq, all_ascii_digits}
use Rattle.file_check.specs.declared.words.TargetName.{TargetName}
use Rattle.file_check.specs.declared.words.TargetName.TheVariants.{Flash, Boot, Data}
use Rattle.file_check.specs.declared.words.Word.{Word}
use Rattle.file_check.specs.declared.words.Word.TheVariants as lent

-- the names of the targets
abbrev pub name_of : TargetName → List ℕ
name_of Flash = codes "flash"
name_of Boot = codes "boot"
name_of Data = codes "data"

-- the target of a name; none where no target has it
abbrev pub target_of : List ℕ → Option TargetName
target_of w =
    cond (bytes_eq w (name_of Flash)) (Some Flash)
    (cond (bytes_eq w (name_of Boot)) (Some Boot)
    (cond (bytes_eq w (name_of Data)) (Some Data) None))

-- the number that digits write, after those of n
abbrev pub read_on : ℕ → List ℕ → ℕ
read_on n [] = n
read_on n (c ∷ cs) = read_on (10 * n + (c - 48)) cs

-- the number that digits write, if they are digits and it is below 2^64
abbrev pub numeral : List ℕ → Option ℕ
numeral ds = cond (nat_lt 0 (length ds) && (all_ascii_digits ds && nat_lt (read_on 0 ds) (2 ^ 64))) (Some (read_on 0 ds)) None

-- the number of a size: decimal digits of a number below 2^64, with a plus in front or none
abbrev pub size_of : List ℕ → Option ℕ
size_of w = numeral (without_leading_plus w)

-- what a word says where an option or a file may stand
pub data Said : Type 0 where
  be_quiet : Said
  help : Said
  target_next : Said
  size_next : Said
  files_next : Said
  target_is : List ℕ → Said
  size_is : List ℕ → Said
  file_is : List ℕ → Said
  unknown : List ℕ → Said

-- what follows a prefix of a word; none where the word does not begin with it
abbrev pub behind : List ℕ → List ℕ → Option (List ℕ)
behind [] w = Some w
behind (p ∷ ps) [] = None
behind (p ∷ ps) (c ∷ cs) = cond (c == p) (behind ps cs) None

-- a dash comes first
abbrev pub starts_with_dash : List ℕ → Bool
starts_with_dash [] = false
starts_with_dash (c ∷ cs) = c == 45

-- a word with a dash in front is an unknown option, any other a file
abbrev pub dashed : List ℕ → Said
dashed w = cond (starts_with_dash w) (unknown w) (file_is w)

-- a size in the word itself, or what else the word says
abbrev pub sized : List ℕ → Option (List ℕ) → Said
sized w (Some n) = size_is n
sized w None = dashed w

-- a target in the word itself, or what else the word says
abbrev pub targeted : List ℕ → Option (List ℕ) → Said
targeted w (Some n) = target_is n
targeted w None = sized w (behind (codes "--size=") w)

-- a word that is no option by itself
abbrev pub other_of : List ℕ → Said
other_of w = targeted w (behind (codes "--target=") w)

-- the options, and that any other word with a dash in front is none
abbrev pub word_of : List ℕ → Said
word_of w =
    cond (bytes_eq w (codes "-q")) be_quiet
    (cond (bytes_eq w (codes "-h") || bytes_eq w (codes "--help")) help
    (cond (bytes_eq w (codes "--target")) target_next
    (cond (bytes_eq w (codes "--size")) size_next
    (cond (bytes_eq w (codes "--")) files_next
    (cond (bytes_eq w (codes "-")) (file_is w)
    (other_of w))))))

-- what a word that was read says, with the borrowed parts as lists
abbrev pub said_by : Word → Said
said_by lent.Quiet = be_quiet
said_by lent.Help = help
said_by lent.TargetNext = target_next
said_by lent.SizeNext = size_next
said_by lent.FilesNext = files_next
said_by (lent.TargetIs w) = target_is w.now
said_by (lent.SizeIs w) = size_is w.now
said_by (lent.File w) = file_is w.now
said_by (lent.Unknown w) = unknown w.now
