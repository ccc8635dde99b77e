-- Records that suit a listed board are loaded into it by what is sent. Assumes nothing.
use Rattle.std.proofs.Common.{◌≡◌, ℕ, Bool, true, false, ◌&&◌, ◌*◌, ◌^◌, ◌≤◌, ◌<◌, List, ◌∷◌, Some, zero, suc, refl, sym, subst, ◌∙◌, inl, inr, arith}
use Rattle.std.specs.Prelude.{nat_lt, is_some}
use Rattle.std.specs.List.{AllByRecursion}
use Rattle.std.proofs.lemmas.Bool.Decides.{nat_tests}
use Rattle.std.proofs.lemmas.Nat.{pow_below}
use Rattle.loading.specs.Source.{SourceRecord}
use Rattle.loader.specs.declared.target.Target.{Target}
use Rattle.loader.specs.declared.target.Target.TheVariants as target
use Rattle.bootloader.specs.declared.space.Space.TheVariants.{Flash, Boot, Data}
use Rattle.bootloader.specs.Memories.{Memory, is_mask}
use Rattle.bootloader.specs.Board.{Board, seal_changes}
use Rattle.loading.proofs.Pieces.{InOrder}
use Rattle.loading.proofs.Chunks.{Chunk, chunks_of, pieces_in, pieces_of, FitsIn, CanPut}
use Rattle.loading.proofs.Masks.{mask_of, InSectors}
use Rattle.loading.specs.Loaded.{HoldsImage, CanSeal, with_flash}
use Rattle.loading.proofs.Filled.{filled_memory, IsFilledBy}
use Rattle.loading.proofs.Suited.{mask_at, Suited}
use Rattle.loading.proofs.Holding.{flash_holds, eeprom_holds, flash_blank, eeprom_blank}
use Rattle.loading.proofs.Masking.{mask_bounds, mask_some}
use Rattle.loading.proofs.Filling.{cleared_memory, can_fill, flash_filled, eeprom_filled}
use Rattle.loading.proofs.Fitting.{records_fit, records_order, pieces_inside, pieces_in_sectors, filled_bytes}
use Rattle.loading.proofs.Listing.{some_data}

-- ---- the flash
module _ (rs : List SourceRecord) (b : Board) (s : Suited rs target.Flash b) where
  abbrev m : Memory
  m = b.flash

  abbrev xs : List Chunk
  xs = chunks_of rs

  abbrev sectors : ℕ
  sectors = s.listed.row.sectors

  abbrev size : ℕ
  size = 2 * s.listed.row.words

  abbrev pub flash_mask : ℕ
  flash_mask = mask_of sectors size (pieces_of m xs)

  fit : AllByRecursion (FitsIn m) xs
  fit = records_fit m rs s.loadable s.lies

  order : InOrder (pieces_of m xs)
  order = records_order m rs (inr s.listed.flash.width) s.loadable s.lies

  pub sectored : AllByRecursion (InSectors sectors size) (pieces_of m xs)
  sectored = pieces_in_sectors m sectors size s.listed.flash.long xs fit

  -- the sectors have words
  pub full : 0 < size
  full = by (some_data rs s.loadable.some)
    where
      words : (n w : ℕ) → 0 < n * (2 * w) → 0 < 2 * w
      words n zero h = absurd (omega (arith, h))
      words n (suc w) h = omega arith

      by : (x : Chunk) × (ys : List Chunk) × (xs ≡ x ∷ ys) → 0 < size
      by (x, ys, e) =
          let all : AllByRecursion (FitsIn m) (x ∷ ys) = subst (λ zs. AllByRecursion (FitsIn m) zs) e fit in
          words sectors s.listed.row.words (omega (arith, all.0.inside, all.0.some, s.listed.flash.long))

  pub masked : is_mask (Some flash_mask) m.shape.units ≡ true
  masked = by (some_data rs s.loadable.some)
    where
      below : flash_mask < 2 ^ sectors
      below = mask_bounds sectors size full (pieces_of m xs) sectored

      by : (x : Chunk) × (ys : List Chunk) × (xs ≡ x ∷ ys) → is_mask (Some flash_mask) m.shape.units ≡ true
      by (x, ys, e) =
          let all : AllByRecursion (InSectors sectors size) (pieces_of m (x ∷ ys)) = subst (λ zs. AllByRecursion (InSectors sectors size) (pieces_of m zs)) e sectored in
          let some : 0 < flash_mask = subst (λ zs. 0 < mask_of sectors size (pieces_of m zs)) (sym e) (mask_some sectors size full _ (pieces_of m ys) all.0) in
          let low : nat_lt 0 flash_mask ≡ true = grind (arith, nat_tests, some) in
          let high : nat_lt flash_mask (2 ^ sectors) ≡ true = grind (arith, nat_tests, below) in
          (λ i. low i && nat_lt flash_mask (2 ^ s.listed.flash.units i)) ∙ high

  pub flash_can : CanPut (cleared_memory Flash flash_mask m) xs
  flash_can = can_fill Flash flash_mask m xs s.shape fit order (flash_blank m sectors size full s.listed.flash.unit_of s.listed.flash.long (pieces_of m xs) s.shape sectored)

  pub flash_image : HoldsImage rs target.Flash m (filled_memory Flash flash_mask xs m).contents
  flash_image = flash_holds m sectors size full s.listed.flash.unit_of s.listed.flash.long rs s.lies s.shape order sectored

  -- it is the mask that is sent
  pub mask_same : flash_mask ≡ mask_at target.Flash s.listed.row xs
  mask_same = λ i. mask_of sectors size (pieces_in (s.listed.flash.base i) (s.listed.flash.width i) xs)

  pub flash_by : (c : ℕ) → is_some (seal_changes (with_flash b (filled_memory Flash flash_mask xs m).contents)) ≡ true → IsFilledBy rs target.Flash b c flash_mask xs
  flash_by c seal =
      let d = flash_filled b c flash_mask xs s.connected masked flash_can (filled_bytes Flash flash_mask xs m fit s.bytes) seal in
      record {
        after = d.after;
        carried = d.carried;
        state = d.state;
        holds = subst (λ (n : Memory). HoldsImage rs target.Flash m n.contents) (sym d.memory) flash_image;
        others = (d.eeprom, d.boot, d.sealed);
      }

-- ---- an EEPROM
module _ (rs : List SourceRecord) (n : ℕ) (b : Board) where
  pub boot_by : Suited rs (target.Boot n) b → (c : ℕ) → IsFilledBy rs (target.Boot n) b c 0 (chunks_of rs)
  boot_by s c =
      let m : Memory = b.boot in
      let xs : List Chunk = chunks_of rs in
      let fit = records_fit m rs s.loadable s.lies in
      let order = records_order m rs (inl s.listed.boot.width) s.loadable s.lies in
      let inside = pieces_inside m xs fit in
      let can = can_fill Boot 0 m xs s.shape fit order (eeprom_blank m (pieces_of m xs) s.shape inside) in
      let d = eeprom_filled b c Boot 0 xs s.connected refl (λ k. refl) refl can in
      record {
        after = d.after;
        carried = d.carried;
        state = d.state;
        holds = subst (λ (k : Memory). HoldsImage rs (target.Boot n) m k.contents) (sym d.memory) (eeprom_holds m rs (target.Boot n) s.lies (λ o. tt) s.shape order inside);
        others = (d.others Flash refl refl, d.others Data refl refl);
      }

  pub data_by : Suited rs (target.Data n) b → (c : ℕ) → IsFilledBy rs (target.Data n) b c 0 (chunks_of rs)
  data_by s c =
      let m : Memory = b.eeprom in
      let xs : List Chunk = chunks_of rs in
      let fit = records_fit m rs s.loadable s.lies in
      let order = records_order m rs (inl s.listed.eeprom.width) s.loadable s.lies in
      let inside = pieces_inside m xs fit in
      let can = can_fill Data 0 m xs s.shape fit order (eeprom_blank m (pieces_of m xs) s.shape inside) in
      let d = eeprom_filled b c Data 0 xs s.connected refl (λ k. refl) refl can in
      record {
        after = d.after;
        carried = d.carried;
        state = d.state;
        holds = subst (λ (k : Memory). HoldsImage rs (target.Data n) m k.contents) (sym d.memory) (eeprom_holds m rs (target.Data n) s.lies (λ o. tt) s.shape order inside);
        others = (d.others Flash refl refl, d.others Boot refl refl);
      }

-- the board theorem: records that suit a board, and whose seal can be put, are carried out and are there
pub loads_board : (rs : List SourceRecord) (t : Target) (b : Board) (c : ℕ) (s : Suited rs t b) → CanSeal rs t b → IsFilledBy rs t b c (mask_at t s.listed.row (chunks_of rs)) (chunks_of rs)
loads_board rs target.Flash b c s seal = subst (λ k. IsFilledBy rs target.Flash b c k (chunks_of rs)) (mask_same rs b s) (flash_by rs b s c (seal _ (flash_image rs b s)))
loads_board rs (target.Boot n) b c s seal = boot_by rs n b s c
loads_board rs (target.Data n) b c s seal = data_by rs n b s c

-- the mask has four bytes
pub mask_small : (rs : List SourceRecord) (t : Target) (b : Board) (s : Suited rs t b) → mask_at t s.listed.row (chunks_of rs) < 2 ^ 32
mask_small rs target.Flash b s = subst (λ k. k < 2 ^ 32) (mask_same rs b s) (by (nat_lt s.listed.row.sectors 32) refl)
  where
    below : flash_mask rs b s < 2 ^ s.listed.row.sectors
    below = mask_bounds s.listed.row.sectors (2 * s.listed.row.words) (full rs b s) (pieces_of b.flash (chunks_of rs)) (sectored rs b s)

    by : (t : Bool) → nat_lt s.listed.row.sectors 32 ≡ t → flash_mask rs b s < 2 ^ 32
    by true q = omega (arith, below, pow_below s.listed.row.sectors 32 (grind (arith, nat_tests)))
    by false q =
        let many : 32 ≤ s.listed.row.sectors = grind (arith, nat_tests) in
        let same : s.listed.row.sectors ≡ 32 = omega (arith, many, s.shape.few_units, s.listed.flash.units) in
        subst (λ k. flash_mask rs b s < 2 ^ k) same below
mask_small rs (target.Boot n) b s = omega arith
mask_small rs (target.Data n) b s = omega arith
