-- The memories of a board, and the changes that are made in them.
use Rattle.std.specs.Prelude.{ℕ, zero, suc, ◌+◌, ◌-◌, ◌*◌, ◌/◌, ◌%◌, ◌^◌, Bool, true, false, cond, ◌&&◌, List, [], ◌∷◌, ◌++◌, length, map, Some, None, Ok, Err, Option, Result, ◌==◌, nat_le, nat_lt}
use Rattle.std.specs.List.{filter_map}
use Rattle.memory.specs.declared.refusal.PartRefusal.{PartRefusal}
use Rattle.memory.specs.Part.{Shape}
use Rattle.memory.specs.Calls.{question_answer}
use Rattle.memory.specs.Changes.{Change, put, clear, changed_all}
use Rattle.bootloader.specs.declared.refusal.Refusal.{Refusal}
use Rattle.bootloader.specs.declared.refusal.Refusal.TheVariants.{Unavailable}
use Rattle.bootloader.specs.declared.space.Space.{Space}
use Rattle.bootloader.specs.Frames.{high, low}
use Rattle.bootloader.specs.declared.space.Space.TheVariants.{Flash, Register, Boot, Data}

-- a memory: the address at which it begins, how many bytes an address stands for, how it takes changes, and its bytes
pub record Memory : Type 0 where
  pub base : ℕ
  pub width : ℕ
  pub shape : Shape
  pub contents : List ℕ

-- the memory of a part that begins at an address
abbrev pub memory_of : ℕ → ℕ → Shape → List ℕ → Memory
memory_of base w s xs = record { base = base; width = w; shape = s; contents = xs }

-- the offset of n bytes from an address on, if they lie in a memory of so many bytes, which begins at a base and has w bytes an
-- address
abbrev pub offset_in : ℕ → ℕ → ℕ → ℕ → ℕ → Option ℕ
offset_in base w long address n =
    let offset : ℕ = (address - base) * w in
    cond (nat_le base address && nat_le (offset + n) long) (Some offset) None

-- the same in a memory
abbrev pub place : Memory → ℕ → ℕ → Option ℕ
place m address n = offset_in m.base m.width (length m.contents) address n

-- a part answered that it takes a value
abbrev pub is_taken : Result Bool PartRefusal → Bool
is_taken (Ok taken) = taken
is_taken (Err e) = false

-- whether a memory takes each of these bytes, from an offset on, over the bytes that are there
unfoldable pub takes_from : Shape → List ℕ → ℕ → List ℕ → Bool
takes_from s xs o [] = true
takes_from s xs o (v ∷ vs) = is_taken (question_answer s xs o v) && takes_from s xs (o + 1) vs

-- bytes are put from an offset on, in rising order
unfoldable pub puts_from : ℕ → List ℕ → List Change
puts_from o [] = []
puts_from o (v ∷ vs) = put o v ∷ puts_from (o + 1) vs

-- the puts of bytes from an offset on, if the memory takes them all
abbrev pub puts_taken : Shape → List ℕ → ℕ → List ℕ → Option (List Change)
puts_taken s xs o vs = cond (takes_from s xs o vs) (Some (puts_from o vs)) None

-- changes that can be made are made, and otherwise none is
abbrev pub done_by : Option (List Change) → Result (Unit {0}) Refusal
done_by None = Err Unavailable
done_by (Some cs) = Ok tt

abbrev pub made_by : Shape → List ℕ → Option (List Change) → List ℕ
made_by s xs None = xs
made_by s xs (Some cs) = changed_all s cs xs

-- the puts of a seal into the last two bytes, high byte first, if there are two and they take it
abbrev pub seal_puts : ℕ → Shape → List ℕ → Option (List Change)
seal_puts seal s xs = cond (nat_le 2 (length xs)) (puts_taken s xs (length xs - 2) (high seal ∷ low seal ∷ [])) None

-- whether a mask names a unit: unit u by its bit u; without a mask every unit is meant
abbrev pub names : Option ℕ → ℕ → Bool
names None u = true
names (Some mask) u = mask / 2 ^ u % 2 == 1

-- a mask is that of some units, and of no others than those below n; without a mask every unit is meant
abbrev pub is_mask : Option ℕ → ℕ → Bool
is_mask None n = true
is_mask (Some mask) n = nat_lt 0 mask && nat_lt mask (2 ^ n)

-- the units below n that a mask names are cleared, in rising order
unfoldable pub clears_below : Option ℕ → ℕ → List Change
clears_below mask zero = []
clears_below mask (suc n) = clears_below mask n ++ cond (names mask n) (clear n ∷ []) []

-- a change in the memory of a space
pub record Placed : Type 0 where
  pub space : Space
  pub change : Change

-- changes in the memory of one space
abbrev pub placed_in : Space → List Change → List Placed
placed_in s cs = map (λ c. record { space = s; change = c }) cs

-- two spaces are the same
abbrev pub is_space : Space → Space → Bool
is_space Flash Flash = true
is_space Register Register = true
is_space Boot Boot = true
is_space Data Data = true
is_space s t = false

-- the change of a list in one space, if it is there
abbrev pub change_for : Space → Placed → Option Change
change_for s p = cond (is_space s p.space) (Some p.change) None

-- those changes of a list that are in one space, in their order
unfoldable pub changes_in : Space → List Placed → List Change
changes_in s ps = filter_map (change_for s) ps
