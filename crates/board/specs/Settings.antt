-- The line that says what the board is made of.
use Rattle.std.specs.Prelude.{ℕ, cond, List, [], ◌∷◌, Some, None, Ok, Err, codes, Option, Result, ◌==◌, unwrap_or, option_and_then}
use Rattle.std.specs.Result.{result_map_both}
use Rattle.std.specs.Str.{bytes_eq}
use Rattle.bootloader.specs.declared.state.Wait.{Wait}
use Rattle.bootloader.specs.declared.state.Wait.TheVariants.{TwoSeconds, SixteenSeconds}
use Rattle.geometry.specs.declared.rows.Row.{Row}
use Rattle.geometry.specs.Rows.{row_of}
use Rattle.script.specs.Number.{number_of, hex_number_of}
use Rattle.board.specs.declared.plan.Plan.{Plan}
use Rattle.board.specs.declared.settings.Settings.{Settings}
use Rattle.board.specs.Fault.{WrongLine, no_setting, not_value, set_twice, no_flash, after, finds}
use Rattle.board.specs.Frame.{cut_at, limited}
use Rattle.board.specs.Plan.{has_flash, bench, bench_row}

-- nothing is set
abbrev pub unset : Settings
unset = record { base = None; sectors = None; words = None; part = None; boot = None; eeprom = None; major = None; minor = None; wait = None }

-- how long a board can wait
abbrev pub wait_of : Option ℕ → Option Wait
wait_of None = None
wait_of (Some n) = cond (n == 2000) (Some TwoSeconds) (cond (n == 16000) (Some SixteenSeconds) None)

-- the value that a word gives a setting, which must not have been set before; otherwise what is wanted is told
abbrev pub once : {A : Type 0} → Option A → Option A → List ℕ → List ℕ → Result (Option A) WrongLine
once (Some x) v wanted w = Err (set_twice w)
once None (Some v) wanted w = Ok (Some v)
once None None wanted w = Err (not_value wanted w)

-- the settings with what a word gives the setting of a name
abbrev pub named : Settings → List ℕ → List ℕ → List ℕ → Result Settings WrongLine
named s w name v =
    cond (bytes_eq name (codes "base"))
    (result_map_both (λ x. record s { base = x }) (λ e. e) (once s.base (limited 0xFFFFFFFF (hex_number_of v)) (codes "base= and at most 32 bits in hex digits") w))
    (cond (bytes_eq name (codes "sectors"))
    (result_map_both (λ x. record s { sectors = x }) (λ e. e) (once s.sectors (number_of v) (codes "sectors= and a number") w))
    (cond (bytes_eq name (codes "words"))
    (result_map_both (λ x. record s { words = x }) (λ e. e) (once s.words (number_of v) (codes "words= and a number") w))
    (cond (bytes_eq name (codes "part"))
    (result_map_both (λ x. record s { part = x }) (λ e. e) (once s.part (limited 0xFFFF (hex_number_of v)) (codes "part= and at most 16 bits in hex digits") w))
    (cond (bytes_eq name (codes "boot"))
    (result_map_both (λ x. record s { boot = x }) (λ e. e) (once s.boot (limited 1048576 (number_of v)) (codes "boot= and a number of at most 1,048,576") w))
    (cond (bytes_eq name (codes "data"))
    (result_map_both (λ x. record s { eeprom = x }) (λ e. e) (once s.eeprom (limited 1048576 (number_of v)) (codes "data= and a number of at most 1,048,576") w))
    (cond (bytes_eq name (codes "major"))
    (result_map_both (λ x. record s { major = x }) (λ e. e) (once s.major (limited 255 (number_of v)) (codes "major= and a number of at most 255") w))
    (cond (bytes_eq name (codes "minor"))
    (result_map_both (λ x. record s { minor = x }) (λ e. e) (once s.minor (limited 255 (number_of v)) (codes "minor= and a number of at most 255") w))
    (cond (bytes_eq name (codes "wait"))
    (result_map_both (λ x. record s { wait = x }) (λ e. e) (once s.wait (wait_of (number_of v)) (codes "wait=2000 or wait=16000") w))
    (Err (no_setting w))))))))))

-- the settings with one word more
abbrev pub set_with : Settings → List ℕ → Result Settings WrongLine
set_with s w = finds (cut_at 61 w) (no_setting w) (λ p. named s w p.0 p.1)

-- the settings with all words, one after the other
unfoldable pub set_all : Settings → List (List ℕ) → Result Settings WrongLine
set_all s [] = Ok s
set_all s (w ∷ ws) = after (set_with s w) (λ t. set_all t ws)

-- the row of the part ID that is set, if it is listed
abbrev pub row_set : Settings → Option Row
row_set s = option_and_then row_of s.part

-- where the flash begins and its sectors, as far as they are not set: by that row, or else as on the bench
abbrev pub row_for : Settings → Row
row_for s = unwrap_or (row_set s) bench_row

-- the board of settings; what is not set is by the part ID, or else as on the bench
abbrev pub planned : Settings → Plan
planned s = record {
  setup = record {
    base = unwrap_or s.base (row_for s).base;
    part_id = unwrap_or s.part bench.setup.part_id;
    major = unwrap_or s.major bench.setup.major;
    minor = unwrap_or s.minor bench.setup.minor;
    wait = unwrap_or s.wait bench.setup.wait;
  };
  sectors = unwrap_or s.sectors (row_for s).sectors;
  words = unwrap_or s.words (row_for s).words;
  boot = unwrap_or s.boot bench.boot;
  eeprom = unwrap_or s.eeprom bench.eeprom;
}

-- the same, if it has a flash
abbrev pub plan_of : Settings → Result Plan WrongLine
plan_of s = cond (has_flash (planned s)) (Ok (planned s)) (Err no_flash)

-- the board that words set
abbrev pub board_of : List (List ℕ) → Result Plan WrongLine
board_of ws = after (set_all unset ws) plan_of
