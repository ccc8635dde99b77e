-- What a plan says of records. Assumes nothing.
use Rattle.std.proofs.Common.{◌≡◌, ℕ, Bool, true, false, cond, ◌&&◌, ◌+◌, ◌-◌, ◌*◌, ◌≤◌, ◌<◌, ◌⊎◌, List, [], ◌∷◌, length, Some, Ok, Err, refl, sym, ap, ◌∙◌, inl, inr, arith}
use Rattle.std.specs.Prelude.{Option, None, ◌==◌, nat_lt, nat_le, is_some, slice_index}
use Rattle.std.specs.List.{AllByRecursion}
use Rattle.std.proofs.lemmas.Bool.Decides.{nat_tests}
use Rattle.memory.specs.Crc.{crc_from}
use Rattle.loading.specs.Source.{SourceRecord}
use Rattle.loader.specs.declared.target.Target.{Target}
use Rattle.loader.specs.declared.target.Target.TheVariants.{Flash, Boot, Data}
use Rattle.bootloader.specs.Frames.{two}
use Rattle.bootloader.specs.Memories.{place, offset_in}
use Rattle.bootloader.specs.Frames.{high, low}
use Rattle.bootloader.specs.Board.{Board, reply_with, identity}
use Rattle.geometry.specs.declared.rows.Row.{Row}
use Rattle.loading.specs.declared.planning.Plan.{Plan}
use Rattle.loading.specs.declared.planning.Stop.{Stop}
use Rattle.loading.specs.declared.planning.Stop.TheVariants.{Outside}
use Rattle.geometry.specs.Rows.{row_of}
use Rattle.loading.specs.Mask.{Piece}
use Rattle.loading.proofs.Masks.{mask_from}
use Rattle.loading.proofs.Chunks.{Chunk, chunks_of, crc_over_all, at_in, pieces_in}
use Rattle.loading.specs.Plan.{base_at, width_at, long_at, place_in, mask_with, joined, go_on, plan_from, StopsAt}
use Rattle.loading.specs.Loaded.{IsListed, LiesIn, memory_at}
use Rattle.loading.proofs.Suited.{mask_at}
use Rattle.loading.proofs.Listing.{of_data, all_data}

-- the mask of records, from another
abbrev pub masks : Target → Row → ℕ → List Chunk → ℕ
masks Flash r mask xs = mask_from r.sectors (2 * r.words) mask (pieces_in r.base 2 xs)
masks (Boot size) r mask xs = mask
masks (Data size) r mask xs = mask

masks_more : (t : Target) (r : Row) (mask : ℕ) (x : Chunk) (xs : List Chunk) → masks t r (mask_with t r mask (record { at = at_in (base_at t r) (width_at t) x; bytes = x.bytes })) xs ≡ masks t r mask (x ∷ xs)
masks_more Flash r mask x xs = refl
masks_more (Boot size) r mask x xs = refl
masks_more (Data size) r mask x xs = refl

masks_none : (t : Target) (r : Row) (mask : ℕ) → masks t r mask [] ≡ mask
masks_none Flash r mask = refl
masks_none (Boot size) r mask = refl
masks_none (Data size) r mask = refl

pub masks_all : (t : Target) (r : Row) (xs : List Chunk) → masks t r 0 xs ≡ mask_at t r xs
masks_all Flash r xs = refl
masks_all (Boot size) r xs = refl
masks_all (Data size) r xs = refl

-- a record lies in the target
abbrev pub Lies : Target → Row → Chunk → Type 0
Lies t r x = is_some (place_in t r x.address (length x.bytes)) ≡ true

-- a plan is that of the records
pub record Says (t : Target) (r : Row) (plan : Plan) (xs : List Chunk) (told : Plan) : Type 0 where
  pub mask : told.mask ≡ masks t r plan.mask xs
  pub crc : told.image_crc ≡ crc_over_all plan.image_crc xs
  pub lie : AllByRecursion (Lies t r) xs

-- where an offset is, it is this
place_at : (base w long a n : ℕ) (o : Option ℕ) → offset_in base w long a n ≡ o → (offset_in base w long a n ≡ None) ⊎ (offset_in base w long a n ≡ Some ((a - base) * w))
place_at base w long a n o e = by (nat_le base a && nat_le ((a - base) * w + n) long) refl
  where
    by : (t : Bool) → (nat_le base a && nat_le ((a - base) * w + n) long) ≡ t → (offset_in base w long a n ≡ None) ⊎ (offset_in base w long a n ≡ Some ((a - base) * w))
    by true q = inr (ap (λ t. cond t (Some ((a - base) * w)) None) q)
    by false q = inl (ap (λ t. cond t (Some ((a - base) * w)) None) q)

pub plan_says : (t : Target) (r : Row) (plan : Plan) (hs : List SourceRecord) (told : Plan) → plan_from t r plan hs ≡ Ok told → Says t r plan (chunks_of hs) told
unfolding plan_from
plan_says t r plan [] told h =
    let same : plan ≡ told = grind (arith, h) in
    record { mask = ap (λ p. p.mask) (sym same) ∙ sym (masks_none t r plan.mask); crc = ap (λ p. p.image_crc) (sym same); lie = tt }
plan_says t r plan (h ∷ hs) told e = by (λ p. plan_says t r p hs told) (length h.bytes == 0) refl e
  where
    x : Chunk
    x = record { address = h.address; bytes = h.bytes }

    piece : Piece
    piece = record { at = at_in (base_at t r) (width_at t) x; bytes = h.bytes }

    next : Plan
    next = record { mask = mask_with t r plan.mask piece; image_crc = crc_from plan.image_crc h.bytes }

    by : ((p : Plan) → plan_from t r p hs ≡ Ok told → Says t r p (chunks_of hs) told) → (u : Bool) → (length h.bytes == 0) ≡ u
        → go_on (cond u (Ok plan) (joined t r plan h (place_in t r h.address (length h.bytes)))) (λ p. plan_from t r p hs) ≡ Ok told
        → Says t r plan (cond u (chunks_of hs) (x ∷ chunks_of hs)) told
    by go true q k = go plan k
    by go false q k = placed (place_at (base_at t r) (width_at t) (long_at t r) h.address (length h.bytes) _ refl)
      where
        placed : (place_in t r h.address (length h.bytes) ≡ None) ⊎ (place_in t r h.address (length h.bytes) ≡ Some (at_in (base_at t r) (width_at t) x)) → Says t r plan (x ∷ chunks_of hs) told
        placed (inl none) = absurd (let clash : Err (Outside h.line) ≡ Ok told = sym (ap (λ o. go_on (joined t r plan h o) (λ p. plan_from t r p hs)) none) ∙ k in grind arith)
        placed (inr some) =
            let rest = go next (sym (ap (λ o. go_on (joined t r plan h o) (λ p. plan_from t r p hs)) some) ∙ k) in
            record {
              mask = rest.mask ∙ masks_more t r plan.mask x (chunks_of hs);
              crc = rest.crc;
              lie = (ap is_some some, rest.lie);
            }

-- and the other way round: where all lie in the target, there is a plan
pub plan_there : (t : Target) (r : Row) (plan : Plan) (hs : List SourceRecord) → AllByRecursion (Lies t r) (chunks_of hs) → (told : Plan) × (plan_from t r plan hs ≡ Ok told)
unfolding plan_from
plan_there t r plan [] a = (plan, refl)
plan_there t r plan (h ∷ hs) a = by (λ p b. plan_there t r p hs b) (length h.bytes == 0) refl a
  where
    by : ((p : Plan) → AllByRecursion (Lies t r) (chunks_of hs) → (told : Plan) × (plan_from t r p hs ≡ Ok told)) → (u : Bool) → (length h.bytes == 0) ≡ u
        → AllByRecursion (Lies t r) (cond u (chunks_of hs) (record { address = h.address; bytes = h.bytes } ∷ chunks_of hs))
        → (told : Plan) × (go_on (cond u (Ok plan) (joined t r plan h (place_in t r h.address (length h.bytes)))) (λ p. plan_from t r p hs) ≡ Ok told)
    by go true q b = go plan b
    by go false q b = placed (place_in t r h.address (length h.bytes)) b.0
      where
        placed : (o : Option ℕ) → is_some o ≡ true → (told : Plan) × (go_on (joined t r plan h o) (λ p. plan_from t r p hs) ≡ Ok told)
        placed None k = absurd (grind arith)
        placed (Some offset) k = go _ b.1

-- where there is no plan for a row, records stop it
pub plan_stopped : (t : Target) (r : Row) (plan : Plan) (hs : List SourceRecord) (stop : Stop) → plan_from t r plan hs ≡ Err stop → StopsAt t r hs stop
unfolding plan_from
plan_stopped t r plan [] stop e = absurd (grind (arith, e))
plan_stopped t r plan (h ∷ hs) stop e = by (λ p. plan_stopped t r p hs stop) (length h.bytes == 0) refl e
  where
    by : ((p : Plan) → plan_from t r p hs ≡ Err stop → StopsAt t r hs stop) → (u : Bool) → (length h.bytes == 0) ≡ u
        → go_on (cond u (Ok plan) (joined t r plan h (place_in t r h.address (length h.bytes)))) (λ p. plan_from t r p hs) ≡ Err stop
        → StopsAt t r (h ∷ hs) stop
    by go true q k = inr (λ some. absurd (let none : length h.bytes ≡ 0 = grind (arith, nat_tests) in omega (arith, some, none)), go plan k)
    by go false q k = placed (place_in t r h.address (length h.bytes)) refl k
      where
        placed : (o : Option ℕ) → place_in t r h.address (length h.bytes) ≡ o → go_on (joined t r plan h o) (λ p. plan_from t r p hs) ≡ Err stop → StopsAt t r (h ∷ hs) stop
        placed None o j = inl (grind (arith, nat_tests), o, grind (arith, j))
        placed (Some offset) o j = inr (λ some. ap is_some o, go _ j)

-- on a listed board a place in the target is one in its memory
place_same : (t : Target) (b : Board) (l : IsListed t b) (a n : ℕ) → place_in t l.row a n ≡ place (memory_at t b) a n
place_same Flash b l a n = sym (λ i. offset_in (l.flash.base i) (l.flash.width i) (l.flash.long i) a n)
place_same (Boot size) b l a n = sym (λ i. offset_in (l.boot.base i) (l.boot.width i) (l.size i) a n)
place_same (Data size) b l a n = sym (λ i. offset_in (l.eeprom.base i) (l.eeprom.width i) (l.size i) a n)

-- the records of a plan that is there lie in the memory of a listed board, and the other way round
pub lies_there : (rs : List SourceRecord) (t : Target) (b : Board) (l : IsListed t b) → AllByRecursion (Lies t l.row) (chunks_of rs) → LiesIn rs (memory_at t b)
lies_there rs t b l a = λ r c h. ap is_some (sym (place_same t b l r.address (length r.bytes))) ∙ of_data (Lies t l.row) rs r c h a

pub there_lies : (rs : List SourceRecord) (t : Target) (b : Board) (l : IsListed t b) → LiesIn rs (memory_at t b) → AllByRecursion (Lies t l.row) (chunks_of rs)
there_lies rs t b l h = all_data (Lies t l.row) rs (λ r c k. ap is_some (place_same t b l r.address (length r.bytes)) ∙ h r c k)

-- the width of the target's memory
pub width_same : (t : Target) (b : Board) (l : IsListed t b) → (memory_at t b).width ≡ width_at t
width_same Flash b l = l.flash.width
width_same (Boot size) b l = l.boot.width
width_same (Data size) b l = l.eeprom.width

-- the part ID that a reply tells, where it has a row
row_small : (n : ℕ) (r : Row) → row_of n ≡ Some r → n < 65536
row_small n r h = by (nat_lt n 65536) refl
  where
    by : (t : Bool) → nat_lt n 65536 ≡ t → n < 65536
    by true q = grind (arith, nat_tests)
    by false q = let big : 65536 ≤ n = grind (arith, nat_tests) in absurd (grind (arith, nat_tests, big, h))

pub told_row : (b : Board) (r : Row) → row_of b.setup.part_id ≡ Some r → (reply : List ℕ) → reply ≡ reply_with 0 (Ok (identity b.setup)) → row_of (two (slice_index reply 5) (slice_index reply 6)) ≡ Some r
told_row b r h reply e =
    let small : b.setup.part_id < 65536 = row_small b.setup.part_id r h in
    let same : two (high b.setup.part_id) (low b.setup.part_id) ≡ b.setup.part_id = omega (arith, small) in
    ap (λ xs. row_of (two (slice_index xs 5) (slice_index xs 6))) e ∙ (ap row_of same ∙ h)
