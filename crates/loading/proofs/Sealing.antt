-- The checksum of an image is accepted, and its seal is put. Assumes nothing.
use Rattle.std.proofs.Common.{◌≡◌, ℕ, Bool, true, false, cond, ◌+◌, ◌-◌, ◌*◌, ◌/◌, ◌%◌, ◌≤◌, ◌<◌, List, [], ◌∷◌, ◌++◌, length, take, drop, Some, Ok, zero, suc, refl, sym, ap, ◌∙◌, inl, arith}
use Rattle.std.specs.Prelude.{None, ◌==◌, nat_lt, nat_le, is_some, slice_index}
use Rattle.std.specs.List.{AllByRecursion}
use Rattle.std.proofs.lemmas.Bool.Decides.{nat_tests}
use Rattle.memory.specs.Part.{Shape}
use Rattle.memory.specs.Changes.{Change, changed_all}
use Rattle.memory.specs.Seal.{address_bytes, sampled, seal_of, stored_seal, is_stored}
use Rattle.memory.specs.Changing.{length-changed_all}
use Rattle.bootloader.specs.declared.command.Command.TheVariants.{BuildChecksum}
use Rattle.bootloader.specs.declared.dialog.Dialog.{Dialog}
use Rattle.bootloader.specs.declared.space.Space.{Space}
use Rattle.bootloader.specs.declared.space.Space.TheVariants.{Boot}
use Rattle.bootloader.specs.declared.state.State.TheVariants.{Connected}
use Rattle.bootloader.specs.Memories.{placed_in, puts_from, takes_from, seal_puts}
use Rattle.bootloader.specs.Frames.{high, low}
use Rattle.bootloader.specs.Dialog.{Effect, is_unlocked, space_and_crc}
use Rattle.bootloader.specs.Board.{Board, effect_of, imaging, seal_for}
use Rattle.loading.proofs.Prepared.{Does}
use Rattle.loading.specs.Loaded.{SameButSeal}
use Rattle.loading.proofs.Doing.{does, if_so, if_not, when_unlocked}
use Rattle.loading.proofs.Imaging.{put_outside, put_inside}
use Rattle.loading.proofs.Summing.{crc_small}

-- the image checksum is accepted
pub images : (b : Board) (c crc : ℕ) (s : Space) (cs : List Change) → b.session.state ≡ Connected → b.session.dialog.space ≡ s → is_unlocked b.session.dialog.unlocked s ≡ true
    → b.session.dialog.bytes.items ≡ [] → b.session.dialog.image_crc ≡ crc → seal_for b s ≡ Some cs → Does b c (BuildChecksum 0 crc) b.session.dialog Boot cs
images b c crc s cs h at u none same seal =
    let d : Dialog = b.session.dialog in
    let e : Effect = record { payload = space_and_crc d.space d.image_crc; dialog = d; changes = placed_in Boot cs } in
    let empty : (length d.bytes.items == 0) ≡ true = ap (λ xs. length xs == 0) none in
    let told : (d.image_crc == crc) ≡ true = grind (arith, nat_tests, same) in
    let done : effect_of b (BuildChecksum 0 crc) ≡ Ok e =
    when_unlocked d _ (ap (is_unlocked d.unlocked) at ∙ u)
    ∙ (if_so (length d.bytes.items == 0) _ _ empty
    ∙ (if_so (d.image_crc == crc) _ _ told
    ∙ (ap (λ z. imaging d (seal_for b z)) at ∙ ap (imaging d) seal))) in
    does b c (BuildChecksum 0 crc) e Boot cs h refl done refl

-- what holds of all bytes holds of those that are taken from them
module _ (P : ℕ → Type 0) where
  all_take : (n : ℕ) (xs : List ℕ) → AllByRecursion P xs → AllByRecursion P (take n xs)
  all_take zero xs a = tt
  all_take (suc n) [] a = tt
  all_take (suc n) (x ∷ xs) a = (a.0, all_take n xs a.1)

  all_drop : (n : ℕ) (xs : List ℕ) → AllByRecursion P xs → AllByRecursion P (drop n xs)
  all_drop zero xs a = a
  all_drop (suc n) [] a = tt
  all_drop (suc n) (x ∷ xs) a = all_drop n xs a.1

  all_append : (xs ys : List ℕ) → AllByRecursion P xs → AllByRecursion P ys → AllByRecursion P (xs ++ ys)
  all_append [] ys a b = b
  all_append (x ∷ xs) ys a b = (a.0, all_append xs ys a.1 b)

  all_sampled : (w : ℕ) (xs : List ℕ) (n : ℕ) → AllByRecursion P xs → AllByRecursion P (sampled w xs n)
  unfolding sampled
  all_sampled w xs zero a = tt
  all_sampled w xs (suc n) a = all_append (sampled w xs n) (cond (n % 128 == 0) (address_bytes w xs n) []) (all_sampled w xs n a) (by (n % 128 == 0))
    where
      by : (t : Bool) → AllByRecursion P (cond t (address_bytes w xs n) [])
      by true = all_take w (drop (n * w) xs) (all_drop (n * w) xs a)
      by false = tt

pub seal_small : (w : ℕ) (xs : List ℕ) → AllByRecursion (λ v. v < 256) xs → seal_of w xs < 65536
seal_small w xs a = crc_small 0xFFFF (sampled w xs (length xs / w)) (omega arith) (all_sampled (λ v. v < 256) w xs (length xs / w) a)

-- a seal, and contents whose last two bytes it is to be put into
module _ (seal : ℕ) (s : Shape) (xs : List ℕ) where
  abbrev halves : List ℕ
  halves = high seal ∷ low seal ∷ []

  abbrev is_seal_taken : Bool
  is_seal_taken = takes_from s xs (length xs - 2) halves

  abbrev pub sealing : List Change
  sealing = puts_from (length xs - 2) halves

  pub record CanBePut : Type 0 where
    pub place : 2 ≤ length xs
    pub puts : seal_puts seal s xs ≡ Some sealing

  pub seal_some : is_some (seal_puts seal s xs) ≡ true → CanBePut
  seal_some h = by (nat_le 2 (length xs)) refl is_seal_taken refl
    where
      none : seal_puts seal s xs ≡ None → CanBePut
      none q = absurd (let clash : true ≡ false = sym h ∙ ap is_some q in grind arith)

      by : (t : Bool) → nat_le 2 (length xs) ≡ t → (u : Bool) → is_seal_taken ≡ u → CanBePut
      by true q true r = record {
        place = grind (arith, nat_tests);
        puts = if_so (nat_le 2 (length xs)) _ _ q ∙ if_so is_seal_taken _ _ r;
      }
      by true q false r = none (if_so (nat_le 2 (length xs)) _ _ q ∙ if_not is_seal_taken _ _ r)
      by false q u r = none (if_not (nat_le 2 (length xs)) _ _ q)

  pub same_but_seal : SameButSeal xs (changed_all s sealing xs)
  same_but_seal = record {
    long = length-changed_all s sealing xs;
    same = λ o h. put_outside s (length xs - 2) halves xs o (inl (omega (arith, h)));
  }

  pub seal_stands : seal < 65536 → 2 ≤ length xs → is_stored seal (stored_seal (changed_all s sealing xs)) ≡ true
  seal_stands small h =
      let ys : List ℕ = changed_all s sealing xs in
      let long : length ys ≡ length xs = length-changed_all s sealing xs in
      let first : length ys - 2 ≡ length xs - 2 + 0 = omega (arith, long) in
      let second : length ys - 1 ≡ length xs - 2 + 1 = omega (arith, long, h) in
      let one : slice_index ys (length ys - 2) ≡ high seal = ap (slice_index ys) first ∙ put_inside s (length xs - 2) halves xs 0 (omega (arith, h)) (omega arith) in
      let two : slice_index ys (length ys - 1) ≡ low seal = ap (slice_index ys) second ∙ put_inside s (length xs - 2) halves xs 1 (omega (arith, h)) (omega arith) in
      let test : nat_lt (length ys) 2 ≡ false = grind (arith, nat_tests, long, h) in
      let sum : slice_index ys (length ys - 2) * 256 + slice_index ys (length ys - 1) ≡ seal = omega (arith, one, two, small) in
      let same : (slice_index ys (length ys - 2) * 256 + slice_index ys (length ys - 1) == seal) ≡ true = grind (arith, nat_tests, sum) in
      ap (is_stored seal) (if_not (nat_lt (length ys) 2) _ _ test) ∙ same
