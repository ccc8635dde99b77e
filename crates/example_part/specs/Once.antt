-- The flash with error correction: equal pages, counted from the lowest offsets up, whose bytes are programmed once.
use Rattle.std.specs.Prelude.{ℕ, ◌*◌, ◌/◌, min, Bool, cond, ◌&&◌, ◌||◌, List, take, ◌==◌, nat_le}
use Rattle.example_part.specs.declared.pages.Pages.{Pages}
use Rattle.memory.specs.Part.{Shape}

-- the bytes of all pages
abbrev pub all_pages : Pages → ℕ
all_pages p = p.count * p.size

-- there are 1 to 32 pages, and all their bytes lie in the buffer and within the limit of a part
abbrev pub fits : ℕ → Pages → Bool
fits buffer p = nat_le 1 p.count && (nat_le p.count 32 && nat_le (all_pages p) (min buffer 1048576))

-- pages of so many words of two bytes
abbrev pub word_pages : ℕ → ℕ → Pages
word_pages count words = record { count = count; size = words * 2 }

-- pages over a buffer of so many bytes; where they do not fit there is one page of no bytes
abbrev pub pages_over : ℕ → ℕ → ℕ → Pages
pages_over buffer count words = cond (fits buffer (word_pages count words)) (word_pages count words) (record { count = 1; size = 0 })

-- the contents are the bytes of all pages; the rest of the buffer is unused
abbrev pub once_contents : Pages → List ℕ → List ℕ
once_contents p buffer = take (all_pages p) buffer

-- a value is taken if the byte is blank, or is that value already
abbrev pub once_takes : ℕ → ℕ → Bool
once_takes old new = old == 255 || old == new

-- a unit is a page; page 0 has the lowest offsets
abbrev pub once_shape : Pages → Shape
once_shape p = record { units = p.count; unit_of = λ o. o / p.size; takes = λ o old new. once_takes old new }
