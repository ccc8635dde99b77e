-- A line is read exactly when it is written as lines are. Assumes nothing.
use Rattle.std.proofs.Common.{◌≡◌, ℕ, suc, ◌+◌, ◌-◌, ◌*◌, ◌/◌, ◌%◌, ◌<◌, Bool, true, false, cond, List, [], ◌∷◌, ◌++◌, length, get_or, take, drop, IfSome, Some, Ok, Err, sum, sym, refl, ap, ◌∙◌, subst, inl, inr, append_assoc, arith}
use Rattle.std.specs.List.{AllByRecursion}
use Rattle.std.proofs.ByRecursion.{All-get_or, All-take}
use Rattle.std.proofs.lemmas.List.{length-append, length_push, length-take-le, take_at, take_all, take_more, take-take, drop_at, drop-take, take-append-drop}
use Rattle.std.proofs.lemmas.Option.{MatchOption-at_some}
use Rattle.std.proofs.lemmas.List.Sums.{sum_by_push}
use Rattle.std.proofs.lemmas.Bool.{eq-eqb, eqb-true, cond-true}
use Rattle.std.proofs.lemmas.Bool.Decides.{nat_tests}
use Rattle.srecord.specs.declared.line.Fault.{Fault}
use Rattle.srecord.specs.declared.line.Fault.TheVariants.{Shape, Checksum}
use Rattle.srecord.specs.declared.line.Form.{Form}
use Rattle.srecord.specs.declared.line.Kind.{Kind}
use Rattle.srecord.specs.declared.line.Kind.TheVariants.{Header, Data, Count, End}
use Rattle.srecord.specs.Hex.{digit_value, byte_from, in_front, bytes_of, number}
use Rattle.srecord.specs.Line.{Content, form_of, carries_data, count_fits, sum_fits, says, data_digits, line_of}
use Rattle.srecord.specs.File.{Digit, IsType, MayCarry, WritesBytes, ReadsLine, Entry, body_of, count_of, checksum_of, IsEntry, WritesWith, WritesLine}
use Rattle.srecord.proofs.Pairs.{byte_from-some, mapped_below, digit-small, bytes-uncons, bytes-odd, bytes-nil, bytes_small, bytes_drop, bytes_take}
use Rattle.srecord.proofs.Shapes.{ShapedBy, Shaped, Judged, shaped, shaped_line, ok_shaped, err_ok}

-- ---- digits and pairs

-- a digit has the value that it is written for
digit_value_lem : (d c : ℕ) → Digit d c → digit_value c ≡ Some d
digit_value_lem d c (inl h) = grind (arith, nat_tests)
digit_value_lem d c (inr h) = grind (arith, nat_tests)

value_digit : (c : ℕ) → IfSome (digit_value c) (λ d. Digit d c)
value_digit c = grind (arith, nat_tests)

-- characters that write bytes spell them
pub writes_bytes : (bs cs : List ℕ) → WritesBytes bs cs → bytes_of cs ≡ Some bs
unfolding bytes_of
writes_bytes [] [] w = refl
writes_bytes [] (x ∷ cs) w = absurd w
writes_bytes (b ∷ bs) [] w = absurd w
writes_bytes (b ∷ bs) (x ∷ []) w = absurd w
writes_bytes (b ∷ bs) (x ∷ y ∷ cs) w =
    let byte : b / 16 * 16 + b % 16 ≡ b = omega arith in
    (λ i. in_front (byte_from (digit_value_lem (b / 16) x w.0 i) (digit_value_lem (b % 16) y w.1 i)) (writes_bytes bs cs w.2 i))
    ∙ ap (λ (v : ℕ). Some (v ∷ bs)) byte

-- and the other way round
pub bytes-writes : (cs bs : List ℕ) → bytes_of cs ≡ Some bs → WritesBytes bs cs
bytes-writes [] bs e = subst (λ (l : List ℕ). WritesBytes l []) (sym (bytes-nil bs e)) tt
bytes-writes (x ∷ []) bs e = absurd (bytes-odd x bs e)
bytes-writes (x ∷ y ∷ cs) bs e =
    let p = bytes-uncons x y cs bs e in
    let q = byte_from-some (digit_value x) (digit_value y) p.0 p.2 in
    let high = MatchOption-at_some (Unit {0}) (λ d. Digit d x) q.0 q.2 (value_digit x) in
    let low = MatchOption-at_some (Unit {0}) (λ d. Digit d y) q.1 q.3 (value_digit y) in
    let small-high = subst (mapped_below 16) q.2 (digit-small x) in
    let small_low = subst (mapped_below 16) q.3 (digit-small y) in
    let byte = q.4 in
    let up : q.0 ≡ p.0 / 16 = omega arith in
    let down : q.1 ≡ p.0 % 16 = omega arith in
    subst (λ (l : List ℕ). WritesBytes l (x ∷ y ∷ cs)) (sym p.4)
    (subst (λ (d : ℕ). Digit d x) up high, subst (λ (d : ℕ). Digit d y) down low, bytes-writes cs p.1 p.3)

-- ---- the types

-- a type has the form that it is listed with
pub type-form : (k : Kind) (w d : ℕ) → IsType k w d → form_of d ≡ Some (record { kind = k; width = w })
type-form Header w d h = grind (arith, nat_tests)
type-form Data w d h = grind (arith, nat_tests)
type-form Count w d h = grind (arith, nat_tests)
type-form End w d h = grind (arith, nat_tests)

-- and the other way round
form_type : (d : ℕ) → IfSome (form_of d) (λ f. IsType f.kind f.width d)
form_type d = grind (arith, nat_tests)

-- what a kind may carry
may_carry : (k : Kind) (bs : List ℕ) → (carries_data k ≡ false → bs ≡ []) → MayCarry k bs
may_carry Header bs h = tt
may_carry Data bs h = tt
may_carry Count bs h = h refl
may_carry End bs h = h refl

carries-none : (k : Kind) (bs : List ℕ) → MayCarry k bs → carries_data k ≡ false → bs ≡ []
carries-none Header bs h e = cc
carries-none Data bs h e = cc
carries-none Count bs h e = h
carries-none End bs h e = h

-- ---- a line that is written as lines are is read

sum-last : (xs : List ℕ) (y : ℕ) → sum (xs ++ y ∷ []) ≡ sum xs + y
sum-last xs y = sum_by_push (λ x. x) xs y

-- with the checksum the sum is 255 modulo 256
checksum-closes : (s : ℕ) → (s + (255 - s % 256)) % 256 ≡ 255
checksum-closes s = omega arith

module _ (k : Kind) (e : Entry) (b : ℕ) (is : IsEntry k e) where
  formed : Form
  formed = record { kind = k; width = length e.address }

  body : List ℕ
  body = body_of e ++ b ∷ []

  body_long : length body ≡ count_of e
  unfolding body
  body_long = length_push (body_of e) (b)

  body_address : body ≡ e.address ++ (e.bytes ++ b ∷ [])
  unfolding body
  body_address = append_assoc e.address e.bytes (b ∷ [])

  fits : count_fits formed (count_of e) (length body) ≡ true
  unfolding formed body
  fits =
      let long = body_long in
      let parts = length-append e.address e.bytes in
      let none = λ (h : carries_data k ≡ false). ap length (carries-none k e.bytes is.carries h) in
      grind (arith, nat_tests)

  -- the data digits of such a line spell its data
  data_spelled : (s t : ℕ) (ds : List ℕ) → bytes_of ds ≡ Some (count_of e ∷ body) → bytes_of (data_digits formed (s ∷ t ∷ ds) (length body)) ≡ Some e.bytes
  unfolding formed body
  data_spelled s t ds h =
      let w : ℕ = length e.address in
      let m : ℕ = length body - w - 1 in
      let from : 4 + 2 * w ≡ suc (suc (2 * suc w)) = omega arith in
      let long = body_long in
      let parts = length-append e.address e.bytes in
      let many : length e.bytes ≡ m = omega arith in
      let rest = drop_bytes ∙ drop_at e.address (e.bytes ++ b ∷ []) w refl in
      ap (λ (n : ℕ). bytes_of (take (2 * m) (drop n (s ∷ t ∷ ds)))) from
      ∙ bytes_take m (drop (2 * suc w) ds) (e.bytes ++ b ∷ []) (bytes_drop (suc w) ds (count_of e ∷ body) h ∙ ap Some rest)
      ∙ ap Some (take_at e.bytes (b ∷ []) m many)
    where
      drop_bytes : drop (length e.address) body ≡ drop (length e.address) (e.address ++ (e.bytes ++ b ∷ []))
      drop_bytes = ap (drop (length e.address)) body_address

  -- a line that is written so but for its checksum has no fault of shape
  line_shaped : (s t : ℕ) (ds : List ℕ) → WritesWith b e (s ∷ t ∷ ds) → ShapedBy s t ds
  unfolding formed body
  line_shaped s t ds w = record {
    form = formed;
    count = count_of e;
    body = body;
    mark = w.0;
    type = ap form_of w.1 ∙ type-form k (length e.address) e.digit is.type;
    spells = writes_bytes (count_of e ∷ body) ds w.2;
    fits = fits;
  }

  -- the checksum decides how it is read
  pub line_decides : (cs : List ℕ) → WritesWith b e cs → (ds : List ℕ) × (line_of cs ≡ cond (sum_fits (count_of e ∷ (body_of e ++ b ∷ []))) (Ok (says k (number e.address) ds)) (Err Checksum)) × (bytes_of ds ≡ Some e.bytes)
  unfolding formed body line_shaped
  line_decides [] w = absurd w
  line_decides (s ∷ []) w = absurd w
  line_decides (s ∷ t ∷ ds) w =
      let spells = writes_bytes (count_of e ∷ body) ds w.2 in
      let address : take (length e.address) body ≡ e.address = ap (take (length e.address)) body_address ∙ take_at e.address _ (length e.address) refl in (
        data_digits formed (s ∷ t ∷ ds) (length body),
        shaped_line s t ds (line_shaped s t ds w)
            ∙ ap (λ (a : List ℕ). cond (sum_fits (count_of e ∷ body)) (Ok (says k (number a) (data_digits formed (s ∷ t ∷ ds) (length body)))) (Err Checksum)) address,
        data_spelled s t ds spells,
      )

-- a line that is written so is read
pub line_reads : (k : Kind) (e : Entry) → IsEntry k e → (cs : List ℕ) → WritesLine e cs → (ds : List ℕ) × (line_of cs ≡ Ok (says k (number e.address) ds)) × (bytes_of ds ≡ Some e.bytes)
line_reads k e is cs w =
    let r = line_decides k e (checksum_of e) is cs w in
    (r.0, r.1 ∙ cond-true (sum_fits (count_of e ∷ (body_of e ++ checksum_of e ∷ []))) _ _ summed, r.2)
  where
    summed : sum_fits (count_of e ∷ (body_of e ++ checksum_of e ∷ [])) ≡ true
    summed = eq-eqb _ 255 (ap (λ n. n % 256) (sum-last (count_of e ∷ body_of e) (checksum_of e)) ∙ checksum-closes (sum (count_of e ∷ body_of e)))

-- ---- a line that is read is written as lines are

take-add : (m n : ℕ) (xs : List ℕ) → take m xs ++ take n (drop m xs) ≡ take (m + n) xs
take-add m n xs =
    let front = sym (take-take m (m + n) xs (omega arith)) in
    let back = sym (drop-take m n xs) in
    (λ i. front i ++ back i) ∙ take-append-drop m (take (m + n) xs)

-- a list up to its last element, and that one
last-split : (bs : List ℕ) (n : ℕ) → length bs ≡ n + 1 → bs ≡ take n bs ++ get_or bs n 0 ∷ []
last-split bs n h = sym (take_all (n + 1) bs (omega arith)) ∙ take_more bs n 0 (omega arith)

-- the checksum is what the sum of the others leaves
checksum-is : (s c : ℕ) → c < 256 → (s + c) % 256 ≡ 255 → c ≡ 255 - s % 256
checksum-is s c h e = omega arith

-- what a line without a fault of shape is made of
record Parts (f : Form) (n : ℕ) (bs : List ℕ) : Type 0 where
  count : n ≡ length bs
  room : f.width < length bs
  bare : carries_data f.kind ≡ false → length bs ≡ f.width + 1
  small : AllByRecursion (λ b. b < 256) (n ∷ bs)

module _ (t : ℕ) (f : Form) (type : form_of t ≡ Some f) (n : ℕ) (bs : List ℕ) (p : Parts f n bs) where
  -- the line that these bytes are
  entry : Entry
  entry = record { digit = t; address = take f.width bs; bytes = take (length bs - f.width - 1) (drop f.width bs) }

  entry_body : body_of entry ≡ take (length bs - 1) bs
  unfolding entry
  entry_body =
      let room = p.room in
      let sum : f.width + (length bs - f.width - 1) ≡ length bs - 1 = omega arith in
      take-add f.width (length bs - f.width - 1) bs ∙ ap (λ (m : ℕ). take m bs) sum

  entry_long : length (body_of entry) + 1 ≡ n
  entry_long =
      let room = p.room in
      let count = p.count in
      let body = ap length entry_body ∙ length-take-le (length bs - 1) bs (omega arith) in
      omega arith

  entry_is : IsEntry f.kind entry
  unfolding entry
  entry_is = record {
    type = let room = p.room in subst (λ (w : ℕ). IsType f.kind w t) (sym (length-take-le f.width bs (omega arith))) (MatchOption-at_some (Unit {0}) (λ g. IsType g.kind g.width t) f type (form_type t));
    small = subst (AllByRecursion (λ b. b < 256)) (sym entry_body) (All-take (λ b. b < 256) (length bs - 1) bs p.small.1);
    short = let long = entry_long in let byte = p.small.0 in omega arith;
    carries = may_carry f.kind _ (λ h. let long = p.bare h in let none : length bs - f.width - 1 ≡ 0 = omega arith in ap (λ (m : ℕ). take m (drop f.width bs)) none);
  }

  -- its last byte
  last : ℕ
  last = get_or bs (length bs - 1) 0

  entry_bytes : count_of entry ∷ (body_of entry ++ last ∷ []) ≡ n ∷ bs
  unfolding last
  entry_bytes =
      let room = p.room in
      let split = last-split bs (length bs - 1) (omega arith) in
      (λ i. entry_long i ∷ ((λ j. entry_body j ++ last ∷ []) ∙ sym split) i)

  last_small : last < 256
  unfolding last
  last_small = let room = p.room in All-get_or (λ b. b < 256) bs (length bs - 1) 0 (omega arith) p.small.1

-- what a count that fits says
fits_parts : (f : Form) (n m : ℕ) → count_fits f n m ≡ true → (n ≡ m) × (f.width < m) × (carries_data f.kind ≡ false → m ≡ f.width + 1)
fits_parts f n m h = grind (arith, nat_tests)

-- a line of this kind that is so written, with this byte for its checksum
pub record Written (cs : List ℕ) : Type 0 where
  pub kind : Kind
  pub entry : Entry
  pub byte : ℕ
  pub small : byte < 256
  pub is : IsEntry kind entry
  pub writes : WritesWith byte entry cs

-- a line without a fault of shape is one that is written as lines are, but for its checksum
shaped_written : (cs : List ℕ) → Shaped cs → Written cs
unfolding entry last
shaped_written [] p = absurd p
shaped_written (s ∷ []) p = absurd p
shaped_written (s ∷ t ∷ ds) p =
    let q = fits_parts p.form p.count (length p.body) p.fits in
    let bytes : Parts p.form p.count p.body = record { count = q.0; room = q.1; bare = q.2; small = bytes_small ds (p.count ∷ p.body) p.spells } in
    record {
      kind = p.form.kind;
      entry = entry t p.form p.type p.count p.body bytes;
      byte = last t p.form p.type p.count p.body bytes;
      small = last_small t p.form p.type p.count p.body bytes;
      is = entry_is t p.form p.type p.count p.body bytes;
      writes = (p.mark, refl, subst (λ (l : List ℕ). WritesBytes l ds) (sym (entry_bytes t p.form p.type p.count p.body bytes)) (bytes-writes ds (p.count ∷ p.body) p.spells));
    }

-- how such a line is read
written_reads : (cs : List ℕ) (w : Written cs) → (ds : List ℕ) × (line_of cs ≡ cond (sum_fits (count_of w.entry ∷ (body_of w.entry ++ w.byte ∷ []))) (Ok (says w.kind (number w.entry.address) ds)) (Err Checksum)) × (bytes_of ds ≡ Some w.entry.bytes)
written_reads cs w = line_decides w.kind w.entry w.byte w.is cs w.writes

-- a right checksum is the one that the sum of the others leaves
sum-checksum : (e : Entry) (b : ℕ) → b < 256 → sum_fits (count_of e ∷ (body_of e ++ b ∷ [])) ≡ true → b ≡ checksum_of e
sum-checksum e b small h =
    checksum-is (sum (count_of e ∷ body_of e)) b small
    (ap (λ n. n % 256) (sym (sum-last (count_of e ∷ body_of e) b)) ∙ eqb-true _ 255 h)

-- a line that is read is one that is written as lines are
pub line-written : (cs : List ℕ) (c : Content) → line_of cs ≡ Ok c → (k : Kind) × (e : Entry) × IsEntry k e × WritesLine e cs
line-written cs c e = by (sum_fits (count_of w.entry ∷ (body_of w.entry ++ w.byte ∷ []))) refl (sym (written_reads cs w).1 ∙ e)
  where
    w : Written cs
    w = shaped_written cs (ok_shaped cs c e)

    by : (x : Bool) → sum_fits (count_of w.entry ∷ (body_of w.entry ++ w.byte ∷ [])) ≡ x → cond x (Ok (says w.kind (number w.entry.address) (written_reads cs w).0)) (Err Checksum) ≡ Ok c → (k : Kind) × (e : Entry) × IsEntry k e × WritesLine e cs
    by false h e = absurd cc
    by true h e = (w.kind, w.entry, w.is, subst (λ (b : ℕ). WritesWith b w.entry cs) (sum-checksum w.entry w.byte w.small h) w.writes)

-- ---- what reading a line means

-- a line that is written but for its checksum has no fault but that of its checksum
written_fault : (k : Kind) (e : Entry) (b : ℕ) (cs : List ℕ) → IsEntry k e → WritesWith b e cs → (f : Fault) → line_of cs ≡ Err f → f ≡ Checksum
written_fault k e b cs is w f h = by (sum_fits (count_of e ∷ (body_of e ++ b ∷ []))) (sym (line_decides k e b is cs w).1 ∙ h)
  where
    by : (x : Bool) → cond x (Ok (says k (number e.address) (line_decides k e b is cs w).0)) (Err Checksum) ≡ Err f → f ≡ Checksum
    by true h = cc
    by false h = cc

-- a line whose checksum is at fault is written but for it
checksum-written : (cs : List ℕ) → line_of cs ≡ Err Checksum → (k : Kind) × (e : Entry) × (b : ℕ) × IsEntry k e × WritesWith b e cs × (b ≡ checksum_of e → ⊥)
checksum-written cs h = by (shaped cs)
  where
    by : Judged cs → (k : Kind) × (e : Entry) × (b : ℕ) × IsEntry k e × WritesWith b e cs × (b ≡ checksum_of e → ⊥)
    by (inl bad) = absurd cc
    by (inr p) =
        let w = shaped_written cs p in (
          w.kind,
          w.entry,
          w.byte,
          w.is,
          w.writes,
          λ right. err_ok (sym h ∙ (line_reads w.kind w.entry w.is cs (subst (λ (b : ℕ). WritesWith b w.entry cs) right w.writes)).1),
        )

-- a line with another fault is not written at all
shape-unwritten : (cs : List ℕ) (f : Fault) → line_of cs ≡ Err f → (f ≡ Checksum → ⊥) → (f ≡ Shape) × ((k : Kind) (e : Entry) (b : ℕ) → IsEntry k e → WritesWith b e cs → ⊥)
shape-unwritten cs f h other = (by (shaped cs), λ k e b is w. other (written_fault k e b cs is w f h))
  where
    by : Judged cs → f ≡ Shape
    by (inl bad) = cc
    by (inr p) = let w = shaped_written cs p in absurd (other (written_fault w.kind w.entry w.byte cs w.is w.writes f h))

pub reads-line : (cs : List ℕ) → ReadsLine cs (line_of cs)
reads-line cs = record {
  read = λ c e.
      let w = line-written cs c e in
      let r = line_reads w.0 w.1 w.2 cs w.3 in
      (w.0, w.1, w.2, w.3, record { digits = r.0; tells = cc (e, r.1); spells = r.2 });
  reads = λ k e is w.
      let r = line_reads k e is cs w in
      (says k (number e.address) r.0, r.1, record { digits = r.0; tells = refl; spells = r.2 });
  checksum = checksum-written cs;
  shape = shape-unwritten cs;
}
