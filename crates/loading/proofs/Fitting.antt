-- Records that can be loaded and lie in a memory can be put there. Assumes nothing.
use Rattle.std.proofs.Common.{◌≡◌, ℕ, Bool, true, false, cond, ◌+◌, ◌-◌, ◌*◌, ◌/◌, ◌%◌, ◌≤◌, ◌<◌, List, [], ◌∷◌, ◌++◌, length, map, zero, suc, refl, sym, subst, inl, inr, arith}
use Rattle.std.specs.Prelude.{Option, ◌==◌, slice_index, slice_set}
use Rattle.std.specs.List.{AllByRecursion, range_with_len}
use Rattle.std.proofs.lemmas.Bool.Decides.{nat_tests}
use Rattle.memory.specs.Part.{Shape, IsWidth}
use Rattle.memory.specs.Changes.{Change, put, clear, changed_all, cleared_unit}
use Rattle.loading.specs.Source.{SourceRecord, IsRecord, HasData, Rising, AreLoadable}
use Rattle.bootloader.specs.Memories.{Memory, puts_from, clears_below, names}
use Rattle.bootloader.specs.Board.{mask_for}
use Rattle.bootloader.specs.declared.space.Space.{Space}
use Rattle.loading.proofs.Pieces.{InOrder, after_pieces}
use Rattle.loading.proofs.Chunks.{Chunk, chunks_of, at_in, pieces_in, pieces_of, FitsIn}
use Rattle.loading.proofs.Masks.{InSectors}
use Rattle.loading.specs.Loaded.{LiesIn}
use Rattle.loading.proofs.Filled.{filled_memory}
use Rattle.loading.proofs.Holding.{offset_of, place_of, all_records}
use Rattle.loading.proofs.Listing.{contains_all, contains_there, contains_here, chunk_of, all_data}

module _ (m : Memory) (rs : List SourceRecord) (loads : AreLoadable m.width rs) (lies : LiesIn rs m) where
  -- each record with data fits
  pub records_fit : AllByRecursion (FitsIn m) (chunks_of rs)
  records_fit = all_data (FitsIn m) rs (λ r c h.
      let p = place_of m rs lies r c h in
      let lawful : IsRecord r = contains_all IsRecord rs r loads.lawful c in
      record {
        some = h;
        few = lawful.few;
        whole = contains_all (λ (z : SourceRecord). HasData z → length z.bytes % m.width ≡ 0) rs r loads.whole c h;
        at = p.at;
        inside = p.to;
        small = lawful.small;
      })

-- where a piece ends, an address that is no lower begins
before : (w base se sl n : ℕ) → IsWidth w → n % w ≡ 0 → base ≤ se → se + n / w ≤ sl → (se - base) * w + n ≤ (sl - base) * w
before w base se sl n (inl q) h b l =
    subst (λ k. (se - base) * k + n ≤ (sl - base) * k) (sym q)
    (let l' : se + n / 1 ≤ sl = subst (λ k. se + n / k ≤ sl) q l in omega (arith, l', b))
before w base se sl n (inr q) h b l =
    subst (λ k. (se - base) * k + n ≤ (sl - base) * k) (sym q)
    (let l' : se + n / 2 ≤ sl = subst (λ k. se + n / k ≤ sl) q l in let h' : n % 2 ≡ 0 = subst (λ k. n % k ≡ 0) q h in omega (arith, l', b, h'))

module _ (m : Memory) where
  -- all records with data are whole, and lie in order
  all_order : (rs : List SourceRecord) → IsWidth m.width → AllByRecursion (λ r. HasData r → length r.bytes % m.width ≡ 0) rs → LiesIn rs m → Rising m.width rs → InOrder (pieces_of m (chunks_of rs))
  all_order [] width w l r = tt
  all_order (e ∷ es) width w l r = by (length e.bytes == 0) refl (all_order es width w.1 (λ x c h. l x (contains_there e x es c) h) r.1)
    where
      by : (t : Bool) → (length e.bytes == 0) ≡ t → InOrder (pieces_of m (chunks_of es)) → InOrder (pieces_of m (cond t (chunks_of es) (chunk_of e ∷ chunks_of es)))
      by true q go = go
      by false q go =
          let some : HasData e = grind (arith, nat_tests) in
          let p = place_of m (e ∷ es) l e (contains_here e es) some in (
            all_records m (λ x. offset_of m e + length e.bytes ≤ x.at) es (λ x c h.
                before m.width m.base e.address x.address (length e.bytes) width (w.0 some) p.from
                (contains_all (λ y. HasData y → e.address + length e.bytes / m.width ≤ y.address) es x (r.0 some) c h)),
            go,
          )

  pub records_order : (rs : List SourceRecord) → IsWidth m.width → AreLoadable m.width rs → LiesIn rs m → InOrder (pieces_of m (chunks_of rs))
  records_order rs width loads l = all_order rs width loads.whole l loads.rising

  -- their pieces lie in the memory
  pub pieces_inside : (xs : List Chunk) → AllByRecursion (FitsIn m) xs → AllByRecursion (λ e. e.at + length e.bytes ≤ length m.contents) (pieces_of m xs)
  pieces_inside [] a = tt
  pieces_inside (x ∷ xs) a = (a.0.inside, pieces_inside xs a.1)

  pub pieces_in_sectors : (sectors size : ℕ) → length m.contents ≡ sectors * size → (xs : List Chunk) → AllByRecursion (FitsIn m) xs → AllByRecursion (InSectors sectors size) (pieces_of m xs)
  pieces_in_sectors sectors size h [] a = tt
  pieces_in_sectors sectors size h (x ∷ xs) a = (record { some = a.0.some; inside = omega (arith, a.0.inside, h) }, pieces_in_sectors sectors size h xs a.1)

-- bytes stay bytes
abbrev pub AreBytes : List ℕ → Type 0
AreBytes xs = AllByRecursion (λ v. v < 256) xs

pub byte_at : (xs : List ℕ) (k : ℕ) → AreBytes xs → slice_index xs k < 256
byte_at [] k a = omega arith
byte_at (x ∷ xs) zero a = a.0
byte_at (x ∷ xs) (suc k) a = byte_at xs k a.1

bytes_set : (xs : List ℕ) (o v : ℕ) → v < 256 → AreBytes xs → AreBytes (slice_set xs o v)
bytes_set [] o v h a = tt
bytes_set (x ∷ xs) zero v h a = (h, a.1)
bytes_set (x ∷ xs) (suc o) v h a = (a.0, bytes_set xs o v h a.1)

bytes_map : (f : ℕ → ℕ) (os : List ℕ) → ((o : ℕ) → f o < 256) → AreBytes (map f os)
bytes_map f [] h = tt
bytes_map f (o ∷ os) h = (h o, bytes_map f os h)

bytes_cleared : (unit_of : ℕ → ℕ) (u : ℕ) (xs : List ℕ) → AreBytes xs → AreBytes (cleared_unit unit_of u xs)
bytes_cleared unit_of u xs a = bytes_map _ (range_with_len 0 (length xs)) (λ o. by o (unit_of o == u))
  where
    by : (o : ℕ) (t : Bool) → cond t 255 (slice_index xs o) < 256
    by o true = omega arith
    by o false = byte_at xs o a

-- a change that puts a byte
abbrev pub IsByteChange : Change → Type 0
IsByteChange (put o v) = v < 256
IsByteChange (clear u) = Unit {0}

pub bytes_changed : (s : Shape) (cs : List Change) (xs : List ℕ) → AllByRecursion IsByteChange cs → AreBytes xs → AreBytes (changed_all s cs xs)
unfolding changed_all
bytes_changed s [] xs h a = a
bytes_changed s (put o v ∷ cs) xs h a = bytes_changed s cs (slice_set xs o v) h.1 (bytes_set xs o v h.0 a)
bytes_changed s (clear u ∷ cs) xs h a = bytes_changed s cs (cleared_unit s.unit_of u xs) h.1 (bytes_cleared s.unit_of u xs a)

pub puts_bytes : (o : ℕ) (vs : List ℕ) → AreBytes vs → AllByRecursion IsByteChange (puts_from o vs)
unfolding puts_from
puts_bytes o [] a = tt
puts_bytes o (v ∷ vs) a = (a.0, puts_bytes (o + 1) vs a.1)

pub clears_bytes : (mask : Option ℕ) (n : ℕ) → AllByRecursion IsByteChange (clears_below mask n)
unfolding clears_below
clears_bytes mask zero = tt
clears_bytes mask (suc n) = both (clears_below mask n) (cond (names mask n) (clear n ∷ []) []) (clears_bytes mask n) (by (names mask n))
  where
    both : (cs ds : List Change) → AllByRecursion IsByteChange cs → AllByRecursion IsByteChange ds → AllByRecursion IsByteChange (cs ++ ds)
    both [] ds a b = b
    both (c ∷ cs) ds a b = (a.0, both cs ds a.1 b)

    by : (t : Bool) → AllByRecursion IsByteChange (cond t (clear n ∷ []) [])
    by true = (tt, tt)
    by false = tt

pieces_bytes : (s : Shape) (base width : ℕ) (n : Memory) (xs : List Chunk) (ys : List ℕ) → AllByRecursion (FitsIn n) xs → AreBytes ys → AreBytes (after_pieces s (pieces_in base width xs) ys)
pieces_bytes s base width n [] ys f a = a
pieces_bytes s base width n (x ∷ xs) ys f a =
    pieces_bytes s base width n xs (changed_all s (puts_from (at_in base width x) x.bytes) ys) f.1 (bytes_changed s (puts_from (at_in base width x) x.bytes) ys (puts_bytes (at_in base width x) x.bytes f.0.small) a)

pub filled_bytes : (s : Space) (mask : ℕ) (xs : List Chunk) (m : Memory) → AllByRecursion (FitsIn m) xs → AreBytes m.contents → AreBytes (filled_memory s mask xs m).contents
filled_bytes s mask xs m f a =
    pieces_bytes m.shape m.base m.width m xs (changed_all m.shape (clears_below (mask_for s mask) m.shape.units) m.contents) f
    (bytes_changed m.shape (clears_below (mask_for s mask) m.shape.units) m.contents (clears_bytes (mask_for s mask) m.shape.units) a)
