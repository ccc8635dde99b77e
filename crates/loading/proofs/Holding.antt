-- A memory holds the image of records, once its units are cleared and their pieces are put. Assumes nothing.
use Rattle.std.proofs.Common.{◌≡◌, ℕ, Bool, true, false, cond, ◌&&◌, ◌+◌, ◌-◌, ◌*◌, ◌≤◌, ◌<◌, ◌⊎◌, List, [], ◌∷◌, length, Some, refl, sym, ap, subst, ◌∙◌, inl, inr, arith}
use Rattle.std.specs.Prelude.{Option, None, ◌==◌, nat_lt, nat_le, is_some, slice_index, Contains}
use Rattle.std.specs.List.{AllByRecursion}
use Rattle.std.proofs.lemmas.Bool.Decides.{nat_tests}
use Rattle.memory.specs.Part.{IsShape}
use Rattle.memory.specs.Changes.{changed_all}
use Rattle.memory.specs.Changing.{length-changed_all}
use Rattle.loading.specs.Source.{SourceRecord, HasData}
use Rattle.bootloader.specs.Memories.{Memory, place, names, clears_below}
use Rattle.loading.specs.Mask.{Piece}
use Rattle.loading.proofs.Pieces.{InOrder, Outside, after_pieces, HoldsPieces}
use Rattle.loading.proofs.Chunks.{Chunk, chunks_of, at_in, pieces_of, IsBlank}
use Rattle.loading.specs.Mask.{unit_in}
use Rattle.loading.proofs.Masks.{mask_of, TouchesUnit, SomeTouches, InSectors}
use Rattle.loader.specs.declared.target.Target.{Target}
use Rattle.loader.specs.declared.target.Target.TheVariants.{Flash}
use Rattle.loading.specs.Loaded.{Covers, InImage, IsTouched, IsCleared, HoldsImage, LiesIn}
use Rattle.loading.proofs.Blanking.{cleared_by}
use Rattle.loading.proofs.Imaging.{holds_pieces}
use Rattle.loading.proofs.Listing.{contained, contains_here, contains_there, chunk_of, of_data, all_data}
use Rattle.loading.proofs.Masking.{mask_names, named_touched}

module _ (m : Memory) where
  -- where a record begins in the memory
  abbrev pub offset_of : SourceRecord → ℕ
  offset_of r = at_in m.base m.width (chunk_of r)

  abbrev piece_of : Chunk → Piece
  piece_of x = record { at = at_in m.base m.width x; bytes = x.bytes }

  abbrev pub piece : SourceRecord → Piece
  piece r = piece_of (chunk_of r)

  -- bytes that have a place have this one
  pub record Placed (a n : ℕ) : Type 0 where
    pub from : m.base ≤ a
    pub to : (a - m.base) * m.width + n ≤ length m.contents
    pub at : place m a n ≡ Some ((a - m.base) * m.width)

  pub placed : (a n : ℕ) → is_some (place m a n) ≡ true → Placed a n
  placed a n h = by (nat_le m.base a) refl (nat_le ((a - m.base) * m.width + n) (length m.contents)) refl
    where
      offset : ℕ
      offset = (a - m.base) * m.width

      tested : (t u : Bool) → nat_le m.base a ≡ t → nat_le (offset + n) (length m.contents) ≡ u → place m a n ≡ cond (t && u) (Some offset) None
      tested t u p q = (λ i. cond (p i && q i) (Some offset) None)

      by : (t : Bool) → nat_le m.base a ≡ t → (u : Bool) → nat_le (offset + n) (length m.contents) ≡ u → Placed a n
      by true p true q = record { from = grind (arith, nat_tests); to = grind (arith, nat_tests); at = tested true true p q }
      by true p false q = absurd (let clash : true ≡ false = sym h ∙ ap is_some (tested true false p q) in grind arith)
      by false p u q = absurd (let clash : true ≡ false = sym h ∙ ap is_some (tested false u p q) in grind arith)

  -- all pieces are those of all data
  each_piece : (P : Piece → Type 0) (xs : List Chunk) → AllByRecursion P (pieces_of m xs) → AllByRecursion (λ x. P (piece_of x)) xs
  each_piece P [] a = tt
  each_piece P (x ∷ xs) a = (a.0, each_piece P xs a.1)

  every_piece : (P : Piece → Type 0) (xs : List Chunk) → AllByRecursion (λ x. P (piece_of x)) xs → AllByRecursion P (pieces_of m xs)
  every_piece P [] a = tt
  every_piece P (x ∷ xs) a = (a.0, every_piece P xs a.1)

  -- what holds of all pieces holds of a record with data
  of_record : (P : Piece → Type 0) (rs : List SourceRecord) (r : SourceRecord) → Contains rs r → HasData r → AllByRecursion P (pieces_of m (chunks_of rs)) → P (piece r)
  of_record P rs r c h a = of_data (λ x. P (piece_of x)) rs r c h (each_piece P (chunks_of rs) a)

  -- and the other way round
  pub all_records : (P : Piece → Type 0) (rs : List SourceRecord) → ((r : SourceRecord) → Contains rs r → HasData r → P (piece r)) → AllByRecursion P (pieces_of m (chunks_of rs))
  all_records P rs h = every_piece P (chunks_of rs) (all_data (λ x. P (piece_of x)) rs h)

  -- a record that touches a unit
  pub record RecordTouches (sectors size u : ℕ) (es : List SourceRecord) : Type 0 where
    entry : SourceRecord
    of : Contains es entry
    index : ℕ
    inside : index < length entry.bytes
    unit : unit_in sectors size (offset_of entry + index) ≡ u

  record_touches : (sectors size u : ℕ) (es : List SourceRecord) → SomeTouches sectors size u (pieces_of m (chunks_of es)) → RecordTouches sectors size u es
  record_touches sectors size u [] t = absurd t
  record_touches sectors size u (x ∷ es) t = by (length x.bytes == 0) t (record_touches sectors size u es)
    where
      later : RecordTouches sectors size u es → RecordTouches sectors size u (x ∷ es)
      later l = record { entry = l.entry; of = contains_there x l.entry es l.of; index = l.index; inside = l.inside; unit = l.unit }

      by : (q : Bool) → SomeTouches sectors size u (pieces_of m (cond q (chunks_of es) (chunk_of x ∷ chunks_of es)))
          → (SomeTouches sectors size u (pieces_of m (chunks_of es)) → RecordTouches sectors size u es) → RecordTouches sectors size u (x ∷ es)
      by true s go = later (go s)
      by false (inl s) go = record { entry = x; of = contains_here x es; index = s.index; inside = s.inside; unit = s.unit }
      by false (inr s) go = later (go s)

  touches_record : (sectors size u : ℕ) (es : List SourceRecord) (e : SourceRecord) (i : ℕ) → Contains es e → i < length e.bytes → unit_in sectors size (offset_of e + i) ≡ u
      → SomeTouches sectors size u (pieces_of m (chunks_of es))
  touches_record sectors size u [] e i c h t = absurd (omega (arith, c.1))
  touches_record sectors size u (x ∷ es) e i c h t = by (length x.bytes == 0) refl (contained x e es c) (λ d. touches_record sectors size u es e i d h t)
    where
      by : (q : Bool) → (length x.bytes == 0) ≡ q → (x ≡ e) ⊎ Contains es e → (Contains es e → SomeTouches sectors size u (pieces_of m (chunks_of es)))
          → SomeTouches sectors size u (pieces_of m (cond q (chunks_of es) (chunk_of x ∷ chunks_of es)))
      by true q (inl s) go = absurd (let none : length x.bytes ≡ 0 = grind (arith, nat_tests) in omega (arith, h, none, ap (λ z. length z.bytes) s))
      by true q (inr d) go = go d
      by false q (inl s) go = inl (record { index = i; inside = subst (λ (z : SourceRecord). i < length z.bytes) (sym s) h; unit = ap (λ z. unit_in sectors size (offset_of z + i)) s ∙ t })
      by false q (inr d) go = inr (go d)

  -- each record with data has its place
  pub place_of : (rs : List SourceRecord) → LiesIn rs m → (r : SourceRecord) → Contains rs r → HasData r → Placed r.address (length r.bytes)
  place_of rs l r c h = placed r.address (length r.bytes) (l r c h)

  byte_placed : (rs : List SourceRecord) → LiesIn rs m → (contents : List ℕ) → length contents ≡ length m.contents → (r : SourceRecord) (i : ℕ) → Contains rs r → i < length r.bytes
      → (o : ℕ) × Covers m r i o × (o < length contents)
  byte_placed rs l contents long r i c h =
      let p = place_of rs l r c (omega (arith, h)) in
      (offset_of r + i, record { inside = h; above = p.from; at = refl }, omega (arith, h, p.to, long))

  -- an offset that is in no image lies outside of all pieces
  outside_all : (rs : List SourceRecord) → LiesIn rs m → (o : ℕ) → ¬ InImage rs m o → AllByRecursion (Outside o) (pieces_of m (chunks_of rs))
  outside_all rs l o none = all_records (Outside o) rs one
    where
      one : (e : SourceRecord) → Contains rs e → 0 < length e.bytes → Outside o (piece e)
      one e c h = by (nat_lt o (offset_of e)) (nat_lt o (offset_of e + length e.bytes)) refl refl
        where
          by : (s t : Bool) → nat_lt o (offset_of e) ≡ s → nat_lt o (offset_of e + length e.bytes) ≡ t → Outside o (piece e)
          by true t q r = inl (grind (arith, nat_tests))
          by false false q r = inr (grind (arith, nat_tests))
          by false true q r =
              let low : offset_of e ≤ o = grind (arith, nat_tests) in
              let high : o < offset_of e + length e.bytes = grind (arith, nat_tests) in
              absurd (none (record {
                entry = e;
                of = c;
                index = o - offset_of e;
                covers = record { inside = omega (arith, low, high); above = (place_of rs l e c h).from; at = omega (arith, low) };
              }))

  -- the bytes of records stand where they belong
  image_stands : (rs : List SourceRecord) (old new : List ℕ) → HoldsPieces (pieces_of m (chunks_of rs)) old new → (e : SourceRecord) (i o : ℕ) → Contains rs e → Covers m e i o → slice_index new o ≡ slice_index e.bytes i
  image_stands rs old new h e i o c v =
      ap (slice_index new) v.at ∙ of_record (λ p. (j : ℕ) → j < length p.bytes → slice_index new (p.at + j) ≡ slice_index p.bytes j) rs e c (omega (arith, v.inside)) h.pieces i v.inside

  -- what a Clear by a mask leaves of a byte
  named_blank : (mask : Option ℕ) (o : ℕ) → IsShape (length m.contents) m.shape → o < length m.contents → names mask (m.shape.unit_of o) ≡ true
      → slice_index (changed_all m.shape (clears_below mask m.shape.units) m.contents) o ≡ 255
  named_blank mask o s h n =
      let test : nat_lt (m.shape.unit_of o) m.shape.units ≡ true = grind (arith, nat_tests, s.in_unit o h) in
      cleared_by m.shape mask m.contents o h m.shape.units
      ∙ (ap (λ t. cond (t && names mask (m.shape.unit_of o)) 255 (slice_index m.contents o)) test ∙ ap (λ t. cond t 255 (slice_index m.contents o)) n)

  unnamed_kept : (mask : Option ℕ) (o : ℕ) → o < length m.contents → names mask (m.shape.unit_of o) ≡ false
      → slice_index (changed_all m.shape (clears_below mask m.shape.units) m.contents) o ≡ slice_index m.contents o
  unnamed_kept mask o h n =
      cleared_by m.shape mask m.contents o h m.shape.units
      ∙ (ap (λ t. cond (nat_lt (m.shape.unit_of o) m.shape.units && t) 255 (slice_index m.contents o)) n ∙ ap (λ t. cond t 255 (slice_index m.contents o)) (and_false (nat_lt (m.shape.unit_of o) m.shape.units)))
    where
      and_false : (t : Bool) → (t && false) ≡ false
      and_false true = refl
      and_false false = refl

  -- an EEPROM, whose units are all cleared
  pub eeprom_holds : (rs : List SourceRecord) (t : Target) → LiesIn rs m → ((o : ℕ) → IsCleared rs t m o) → IsShape (length m.contents) m.shape → InOrder (pieces_of m (chunks_of rs))
      → AllByRecursion (λ e. e.at + length e.bytes ≤ length m.contents) (pieces_of m (chunks_of rs))
      → HoldsImage rs t m (after_pieces m.shape (pieces_of m (chunks_of rs)) (changed_all m.shape (clears_below None m.shape.units) m.contents))
  eeprom_holds rs t lies all s o i =
      let xs : List ℕ = changed_all m.shape (clears_below None m.shape.units) m.contents in
      let long : length xs ≡ length m.contents = length-changed_all m.shape (clears_below None m.shape.units) m.contents in
      let h = holds_pieces m.shape (pieces_of m (chunks_of rs)) xs o (subst (λ n. AllByRecursion (λ e. e.at + length e.bytes ≤ n) (pieces_of m (chunks_of rs))) (sym long) i) in
      record {
        long = h.long ∙ long;
        placed = byte_placed rs lies _ (h.long ∙ long);
        image = image_stands rs xs (after_pieces m.shape (pieces_of m (chunks_of rs)) xs) h;
        blank = λ k l none c. h.others k (outside_all rs lies k none) ∙ named_blank None k s l refl;
        kept = λ k l none. absurd (none (all k));
      }

  -- a flash, whose touched sectors are cleared
  module _ (sectors size : ℕ) (full : 0 < size) (units : (o : ℕ) → o < length m.contents → m.shape.unit_of o ≡ unit_in sectors size o) (whole : length m.contents ≡ sectors * size) where
    touched_some : (rs : List SourceRecord) (o : ℕ) → o < length m.contents → AllByRecursion (InSectors sectors size) (pieces_of m (chunks_of rs)) → IsTouched rs m o → SomeTouches sectors size (m.shape.unit_of o) (pieces_of m (chunks_of rs))
    touched_some rs o h i t =
        let v = t.image.covers in
        let within : InSectors sectors size (piece t.image.entry) = of_record (InSectors sectors size) rs t.image.entry t.image.of (omega (arith, v.inside)) i in
        let at : t.other < length m.contents = omega (arith, v.at, v.inside, within.inside, whole) in
        touches_record sectors size (m.shape.unit_of o) rs t.image.entry t.image.index t.image.of v.inside
        (ap (unit_in sectors size) (sym v.at) ∙ (sym (units t.other at) ∙ t.unit))

    some_touched : (rs : List SourceRecord) → LiesIn rs m → (o : ℕ) → o < length m.contents → AllByRecursion (InSectors sectors size) (pieces_of m (chunks_of rs)) → SomeTouches sectors size (m.shape.unit_of o) (pieces_of m (chunks_of rs)) → IsTouched rs m o
    some_touched rs lies o h i t =
        let l = record_touches sectors size (m.shape.unit_of o) rs t in
        let k : ℕ = offset_of l.entry + l.index in
        let within : InSectors sectors size (piece l.entry) = of_record (InSectors sectors size) rs l.entry l.of (omega (arith, l.inside)) i in
        let at : k < length m.contents = omega (arith, l.inside, within.inside, whole) in
        record {
          other = k;
          image = record { entry = l.entry; of = l.of; index = l.index; covers = record { inside = l.inside; above = (place_of rs lies l.entry l.of (omega (arith, l.inside))).from; at = refl } };
          unit = units k at ∙ l.unit;
        }

    pub flash_holds : (rs : List SourceRecord) → LiesIn rs m → IsShape (length m.contents) m.shape → InOrder (pieces_of m (chunks_of rs)) → AllByRecursion (InSectors sectors size) (pieces_of m (chunks_of rs))
        → HoldsImage rs Flash m (after_pieces m.shape (pieces_of m (chunks_of rs)) (changed_all m.shape (clears_below (Some (mask_of sectors size (pieces_of m (chunks_of rs)))) m.shape.units) m.contents))
    flash_holds rs lies s o i =
        let es : List Piece = pieces_of m (chunks_of rs) in
        let mask : Option ℕ = Some (mask_of sectors size es) in
        let xs : List ℕ = changed_all m.shape (clears_below mask m.shape.units) m.contents in
        let long : length xs ≡ length m.contents = length-changed_all m.shape (clears_below mask m.shape.units) m.contents in
        let h = holds_pieces m.shape es xs o (all_inside es i xs long) in
        record {
          long = h.long ∙ long;
          placed = byte_placed rs lies _ (h.long ∙ long);
          image = image_stands rs xs (after_pieces m.shape es xs) h;
          blank = λ k l none c. h.others k (outside_all rs lies k none) ∙ named_blank mask k s l (mask_names sectors size full es (m.shape.unit_of k) (touched_some rs k l i c));
          kept = λ k l none. h.others k (outside_all rs lies k (λ (n : InImage rs m k). none (record { other = k; image = n; unit = refl })))
              ∙ unnamed_kept mask k l (unnamed es k i (λ t. none (some_touched rs lies k l i t)));
        }
      where
        all_inside : (es : List Piece) → AllByRecursion (InSectors sectors size) es → (xs : List ℕ) → length xs ≡ length m.contents → AllByRecursion (λ e. e.at + length e.bytes ≤ length xs) es
        all_inside [] i xs q = tt
        all_inside (e ∷ es) i xs q = (omega (arith, i.0.inside, q, whole), all_inside es i.1 xs q)

        unnamed : (es : List Piece) (k : ℕ) → AllByRecursion (InSectors sectors size) es → ¬ SomeTouches sectors size (m.shape.unit_of k) es → names (Some (mask_of sectors size es)) (m.shape.unit_of k) ≡ false
        unnamed es k i none = by (names (Some (mask_of sectors size es)) (m.shape.unit_of k)) refl
          where
            by : (t : Bool) → names (Some (mask_of sectors size es)) (m.shape.unit_of k) ≡ t → names (Some (mask_of sectors size es)) (m.shape.unit_of k) ≡ false
            by false q = q
            by true q = absurd (none (named_touched sectors size full es (m.shape.unit_of k) i q))

    -- the cleared units are blank wherever a piece lies
    pub flash_blank : (es : List Piece) → IsShape (length m.contents) m.shape → AllByRecursion (InSectors sectors size) es
        → AllByRecursion (IsBlank (changed_all m.shape (clears_below (Some (mask_of sectors size es)) m.shape.units) m.contents)) es
    flash_blank es s i = go es i (λ u t. t)
      where
        one : (e : Piece) → InSectors sectors size e → ((u : ℕ) → TouchesUnit sectors size u e → SomeTouches sectors size u es)
            → IsBlank (changed_all m.shape (clears_below (Some (mask_of sectors size es)) m.shape.units) m.contents) e
        one e i h = λ k l r.
            let inside : k < length m.contents = omega (arith, r, i.inside, whole) in
            let there : e.at + (k - e.at) ≡ k = omega (arith, l) in
            named_blank (Some (mask_of sectors size es)) k s inside
            (mask_names sectors size full es (m.shape.unit_of k) (h (m.shape.unit_of k) (record { index = k - e.at; inside = omega (arith, l, r); unit = ap (unit_in sectors size) there ∙ sym (units k inside) })))

        go : (ls : List Piece) → AllByRecursion (InSectors sectors size) ls → ((u : ℕ) → SomeTouches sectors size u ls → SomeTouches sectors size u es)
            → AllByRecursion (IsBlank (changed_all m.shape (clears_below (Some (mask_of sectors size es)) m.shape.units) m.contents)) ls
        go [] i h = tt
        go (e ∷ ls) i h = (one e i.0 (λ u t. h u (inl t)), go ls i.1 (λ u t. h u (inr t)))

  -- and in an EEPROM everywhere
  pub eeprom_blank : (es : List Piece) → IsShape (length m.contents) m.shape → AllByRecursion (λ e. e.at + length e.bytes ≤ length m.contents) es
      → AllByRecursion (IsBlank (changed_all m.shape (clears_below None m.shape.units) m.contents)) es
  eeprom_blank [] s i = tt
  eeprom_blank (e ∷ es) s i = (λ k l r. named_blank None k s (omega (arith, r, i.0)) refl, eeprom_blank es s i.1)
