-- Laws of how a line is read by its fields. Assumes nothing.
use Rattle.std.proofs.Common.{◌≡◌, ℕ, suc, ◌+◌, ◌-◌, ◌*◌, ◌≤◌, Bool, true, false, cond, eqb, List, [], ◌∷◌, length, get_or, take, drop, IfSome, Some, None, Ok, Err, Option, Result, sym, refl, ap, ◌∙◌, subst, inl, inr, arith}
use Rattle.std.specs.Option.{option_map}
use Rattle.std.proofs.lemmas.List.{take_rest, length-take}
use Rattle.std.proofs.lemmas.Bool.{eq-eqb, eqb-true, and_parts, and_from, cond-true}
use Rattle.std.proofs.lemmas.Option.{MatchOption-at_some, none-some, same_Some, cond_some}
use Rattle.std.proofs.lemmas.Bool.Decides.{nat_tests}
use Rattle.srecord.specs.declared.line.Fault.{Fault}
use Rattle.srecord.specs.declared.line.Fault.TheVariants.{Shape, Checksum}
use Rattle.srecord.specs.declared.line.Form.{Form}
use Rattle.srecord.specs.Hex.{pair_value, in_front, bytes_of, number}
use Rattle.srecord.specs.Line.{Content, form_of, count_fits, fields_for, fields_in, sum_fits, says, checked, data_digits, spelled, line_of}
use Rattle.srecord.proofs.Pairs.{bytes-uncons, bytes-odd, bytes-nil, bytes_take, length-bytes}
use Rattle.srecord.proofs.Shapes.{ShapedBy, Judged, line_type, shaped_line, shaped}

-- the digits of a line behind its mark and type, as a slice pattern leaves them
abbrev pub digits_of : List ℕ → List ℕ
digits_of line = take (length line - 2) (drop 2 line)

-- a line with its mark and a type
pub record Marked (line : List ℕ) (f : Form) : Type 0 where
  pub two : 2 ≤ length line
  pub mark : get_or line 0 0 ≡ 83
  pub form : form_of (get_or line 1 0) ≡ Some f

form_small : (t : ℕ) → IfSome (form_of t) (λ f. f.width ≤ 4)
form_small t = grind (arith, nat_tests)

pub line_width : {line : List ℕ} {f : Form} → Marked line f → f.width ≤ 4
line_width {line} {f} m = MatchOption-at_some (Unit {0}) (λ g. g.width ≤ 4) f m.form (form_small (get_or line 1 0))

-- digits with a right count, the digits behind it, and those of address and data among them
record Fielded (f : Form) (x y : ℕ) (ds : List ℕ) (p : List ℕ × List ℕ) : Type 0 where
  count : ℕ
  first : pair_value x y ≡ Some count
  long : length ds ≡ 2 * count
  fits : count_fits f count count ≡ true
  address : p.0 ≡ take (2 * f.width) ds
  digits : p.1 ≡ take (2 * (count - f.width - 1)) (drop (2 * f.width) ds)

fielded : (f : Form) (x y : ℕ) (ds : List ℕ) (p : List ℕ × List ℕ) → fields_in f (x ∷ y ∷ ds) ≡ Some p → Fielded f x y ds p
fielded f x y ds p e = by (pair_value x y) refl e
  where
    by : (o : Option ℕ) → pair_value x y ≡ o → fields_for f ds o ≡ Some p → Fielded f x y ds p
    by None h e = absurd (none-some p e)
    by (Some c) h e =
        let q = cond_some _ _ _ e in
        let both = and_parts (eqb (length ds) (2 * c)) (count_fits f c c) q.0 in
        record {
          count = c;
          first = h;
          long = eqb-true _ _ both.0;
          fits = both.1;
          address = ap (λ (r : List ℕ × List ℕ). r.0) (sym q.1);
          digits = ap (λ (r : List ℕ × List ℕ). r.1) (sym q.1);
        }

-- a line without a fault of shape has a right count
shaped_fields : (s t : ℕ) (ds : List ℕ) (p : ShapedBy s t ds) → fields_in p.form ds ≡ None → ⊥
shaped_fields s t [] p e = let none = ap length (bytes-nil (p.count ∷ p.body) p.spells) in absurd (omega arith)
shaped_fields s t (x ∷ []) p e = absurd (bytes-odd x (p.count ∷ p.body) p.spells)
shaped_fields s t (x ∷ y ∷ ds) p e =
    let q = bytes-uncons x y ds (p.count ∷ p.body) p.spells in
    let long = length-bytes ds q.1 q.3 in
    let same = eqb-true p.count (length p.body) (and_parts (eqb p.count (length p.body)) _ p.fits).0 in
    let first : q.0 ≡ p.count = let h = q.4 in cc in
    let body : length q.1 ≡ length p.body = let h = q.4 in cc in
    let fits = subst (λ (n : ℕ). count_fits p.form p.count n ≡ true) (sym same) p.fits in
    let test = and_from (eqb (length ds) (2 * p.count)) (count_fits p.form p.count p.count) (eq-eqb _ _ (omega arith)) fits in
    none-some _ (sym e ∙ ap (fields_for p.form ds) (q.2 ∙ ap Some first) ∙ cond-true _ _ _ test)

-- what a line says by its address field, the test of its sum and its data digits
abbrev pub parsed : Form → List ℕ → Option ℕ → Result (Unit {0}) Fault → Result Content Fault
parsed f ds None r = Err Shape
parsed f ds (Some a) (Err e) = Err e
parsed f ds (Some a) (Ok u) = Ok (says f.kind a ds)

parsed_shape : (f : Form) (ds : List ℕ) (o : Option ℕ) → parsed f ds o (Err Shape) ≡ Err Shape
parsed_shape f ds None = refl
parsed_shape f ds (Some a) = refl

parsed_sum : (f : Form) (ds : List ℕ) (a : ℕ) (x : Bool) → cond x (Ok (says f.kind a ds)) (Err Checksum) ≡ parsed f ds (Some a) (cond x (Ok tt) (Err Checksum))
parsed_sum f ds a true = refl
parsed_sum f ds a false = refl

module _ (s t : ℕ) (f : Form) (mark : s ≡ 83) (type : form_of t ≡ Some f) where
  uncounted : (ds : List ℕ) → fields_in f ds ≡ None → line_of (s ∷ t ∷ ds) ≡ Err Shape
  uncounted ds e = by (shaped (s ∷ t ∷ ds))
    where
      by : Judged (s ∷ t ∷ ds) → line_of (s ∷ t ∷ ds) ≡ Err Shape
      by (inl bad) = bad
      by (inr p) = let same = same_Some _ _ (sym p.type ∙ type) in absurd (shaped_fields s t ds p (ap (λ g. fields_in g ds) same ∙ e))

  counted : (x y : ℕ) (ds : List ℕ) (p : List ℕ × List ℕ) → Fielded f x y ds p → line_of (s ∷ t ∷ x ∷ y ∷ ds) ≡ parsed f p.1 (option_map number (bytes_of p.0)) (checked (bytes_of (x ∷ y ∷ ds)))
  unfolding bytes_of
  counted x y ds p q = by (bytes_of ds) refl
    where
      all : (o : Option (List ℕ)) → bytes_of ds ≡ o → bytes_of (x ∷ y ∷ ds) ≡ in_front (Some q.count) o
      all o h = λ i. in_front (q.first i) (h i)

      by : (o : Option (List ℕ)) → bytes_of ds ≡ o → line_of (s ∷ t ∷ x ∷ y ∷ ds) ≡ parsed f p.1 (option_map number (bytes_of p.0)) (checked (bytes_of (x ∷ y ∷ ds)))
      by None h =
          line_type s t (x ∷ y ∷ ds) f mark type ∙ ap (spelled f (s ∷ t ∷ x ∷ y ∷ ds)) (all None h)
          ∙ sym (ap (λ o. parsed f p.1 (option_map number (bytes_of p.0)) (checked o)) (all None h) ∙ parsed_shape f p.1 _)
      by (Some bs) h =
          let long = length-bytes ds bs h in
          let whole = q.long in
          let many : q.count ≡ length bs = omega arith in
          let from : 4 + 2 * f.width ≡ suc (suc (suc (suc (2 * f.width)))) = omega arith in
          let digits : data_digits f (s ∷ t ∷ x ∷ y ∷ ds) (length bs) ≡ p.1 =
          (λ i. take (2 * (sym many i - f.width - 1)) (drop (from i) (s ∷ t ∷ x ∷ y ∷ ds))) ∙ sym q.digits in
          let address : bytes_of p.0 ≡ Some (take f.width bs) = ap bytes_of q.address ∙ bytes_take f.width ds bs h in
          shaped_line s t (x ∷ y ∷ ds)
          (record { form = f; count = q.count; body = bs; mark = mark; type = type; spells = all (Some bs) h; fits = subst (λ (n : ℕ). count_fits f q.count n ≡ true) many q.fits })
          ∙ ap (λ d. cond (sum_fits (q.count ∷ bs)) (Ok (says f.kind (number (take f.width bs)) d)) (Err Checksum)) digits
          ∙ parsed_sum f p.1 (number (take f.width bs)) (sum_fits (q.count ∷ bs))
          ∙ sym (λ i. parsed f p.1 (option_map number (address i)) (checked (all (Some bs) h i)))

-- a line with a wrong count has a fault of shape
pub line_uncounted : (line : List ℕ) {f : Form} → Marked line f → fields_in f (digits_of line) ≡ None → line_of line ≡ Err Shape
line_uncounted [] m e = let two = m.two in absurd (omega arith)
line_uncounted (s ∷ []) m e = let two = m.two in absurd (omega arith)
line_uncounted (s ∷ t ∷ ds) {f} m e = uncounted s t f m.mark m.form ds (ap (fields_in f) (sym (take_rest (s ∷ t ∷ ds) 2)) ∙ e)

-- one with a right count is read by its fields
pub line_parsed : (line : List ℕ) {f : Form} → Marked line f → (p : List ℕ × List ℕ) → fields_in f (digits_of line) ≡ Some p → line_of line ≡ parsed f p.1 (option_map number (bytes_of p.0)) (checked (bytes_of (digits_of line)))
line_parsed [] m p e = let two = m.two in absurd (omega arith)
line_parsed (s ∷ []) m p e = let two = m.two in absurd (omega arith)
line_parsed (s ∷ t ∷ []) {f} m p e = absurd (none-some p (ap (fields_in f) (sym (take_rest (s ∷ t ∷ []) 2)) ∙ e))
line_parsed (s ∷ t ∷ x ∷ []) {f} m p e = absurd (none-some p (ap (fields_in f) (sym (take_rest (s ∷ t ∷ x ∷ []) 2)) ∙ e))
line_parsed (s ∷ t ∷ x ∷ y ∷ ds) {f} m p e =
    let whole = take_rest (s ∷ t ∷ x ∷ y ∷ ds) 2 in
    counted s t f m.mark m.form x y ds p (fielded f x y ds p (ap (fields_in f) (sym whole) ∙ e))
    ∙ ap (λ l. parsed f p.1 (option_map number (bytes_of p.0)) (checked (bytes_of l))) (sym whole)

-- the address field has up to four bytes
pub address_short : {line : List ℕ} {f : Form} → Marked line f → (p : List ℕ × List ℕ) → fields_in f (digits_of line) ≡ Some p → length p.0 ≤ 8
address_short {line} {f} m p e = by (digits_of line) e
  where
    by : (ds : List ℕ) → fields_in f ds ≡ Some p → length p.0 ≤ 8
    by [] e = absurd (none-some p e)
    by (x ∷ []) e = absurd (none-some p e)
    by (x ∷ y ∷ ds) e =
        let q = fielded f x y ds p e in
        let width = line_width m in
        let n = ap length q.address ∙ length-take (2 * f.width) ds in
        omega arith
