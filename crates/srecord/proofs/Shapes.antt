-- A line without a fault of shape: its parts, its characters and its length. Assumes nothing.
use Rattle.std.proofs.Common.{◌≡◌, ℕ, ◌+◌, ◌*◌, ◌%◌, ◌≤◌, Bool, true, false, cond, eqb, ◌⊎◌, List, [], ◌∷◌, ◌++◌, length, take, IfSome, Some, None, Ok, Err, sum, Option, sym, refl, ap, ◌∙◌, inl, inr, ⊎_elim, arith}
use Rattle.std.specs.Option.{option_map}
use Rattle.std.proofs.lemmas.Option.{MatchOption-at_some}
use Rattle.std.proofs.lemmas.Bool.{and_parts, eq-eqb, eqb-true, cond-true, cond-false}
use Rattle.std.proofs.lemmas.Bool.Decides.{nat_tests}
use Rattle.srecord.specs.declared.line.Fault.{Fault}
use Rattle.srecord.specs.declared.line.Fault.TheVariants.{Shape, Checksum}
use Rattle.srecord.specs.declared.line.Form.{Form}
use Rattle.srecord.specs.Hex.{digit_value, bytes_of, number}
use Rattle.srecord.specs.Line.{Content, form_of, count_fits, says, data_digits, line_from, spelled, typed, line_of}
use Rattle.srecord.specs.Text.{lines_of, EndsBefore, measured_length}
use Rattle.srecord.proofs.Pairs.{byte_from-some, bytes-uncons, bytes-odd, bytes-nil, length-bytes}
use Rattle.srecord.proofs.Texts.{Plain, plain_first}

-- the parts of a line without a fault of shape
pub record ShapedBy (s t : ℕ) (ds : List ℕ) : Type 0 where
  pub form : Form
  pub count : ℕ
  pub body : List ℕ
  pub mark : s ≡ 83
  pub type : form_of t ≡ Some form
  pub spells : bytes_of ds ≡ Some (count ∷ body)
  pub fits : count_fits form count (length body) ≡ true

-- a line without a fault of shape
abbrev pub Shaped : List ℕ → Type 0
Shaped [] = ⊥
Shaped (s ∷ []) = ⊥
Shaped (s ∷ t ∷ ds) = ShapedBy s t ds

-- a line with a fault of shape, or one without
abbrev pub Judged : List ℕ → Type 0
Judged l = (line_of l ≡ Err Shape) ⊎ Shaped l

-- what a line is read as, by its mark, its type, its digits and its count
module _ (s t : ℕ) (ds : List ℕ) where
  line_mark : s ≡ 83 → line_of (s ∷ t ∷ ds) ≡ typed (form_of t) (s ∷ t ∷ ds) ds
  line_mark m = cond-true (eqb s 83) _ _ (eq-eqb s 83 m)

  pub line_type : (f : Form) → s ≡ 83 → form_of t ≡ Some f → line_of (s ∷ t ∷ ds) ≡ spelled f (s ∷ t ∷ ds) (bytes_of ds)
  line_type f m y = line_mark m ∙ ap (λ o. typed o (s ∷ t ∷ ds) ds) y

  line_bytes : (f : Form) (n : ℕ) (bs : List ℕ) → s ≡ 83 → form_of t ≡ Some f → bytes_of ds ≡ Some (n ∷ bs) → line_of (s ∷ t ∷ ds) ≡ line_from f (s ∷ t ∷ ds) n bs
  line_bytes f n bs m y b = line_type f m y ∙ ap (spelled f (s ∷ t ∷ ds)) b

  by_count : (f : Form) (n : ℕ) (bs : List ℕ) → s ≡ 83 → form_of t ≡ Some f → bytes_of ds ≡ Some (n ∷ bs) → (x : Bool) → count_fits f n (length bs) ≡ x → Judged (s ∷ t ∷ ds)
  by_count f n bs m y b false x = inl (line_bytes f n bs m y b ∙ cond-false (count_fits f n (length bs)) _ _ x)
  by_count f n bs m y b true x = inr (record { form = f; count = n; body = bs; mark = m; type = y; spells = b; fits = x })

  by_digits : (f : Form) → s ≡ 83 → form_of t ≡ Some f → (o : Option (List ℕ)) → bytes_of ds ≡ o → Judged (s ∷ t ∷ ds)
  by_digits f m y None b = inl (line_type f m y ∙ ap (spelled f (s ∷ t ∷ ds)) b)
  by_digits f m y (Some []) b = inl (line_type f m y ∙ ap (spelled f (s ∷ t ∷ ds)) b)
  by_digits f m y (Some (n ∷ bs)) b = by_count f n bs m y b _ refl

  by_type : s ≡ 83 → (o : Option Form) → form_of t ≡ o → Judged (s ∷ t ∷ ds)
  by_type m None y = inl (line_mark m ∙ ap (λ o. typed o (s ∷ t ∷ ds) ds) y)
  by_type m (Some f) y = by_digits f m y (bytes_of ds) refl

  by_mark : (x : Bool) → eqb s 83 ≡ x → Judged (s ∷ t ∷ ds)
  by_mark false e = inl (cond-false (eqb s 83) _ _ e)
  by_mark true e = by_type (eqb-true s 83 e) (form_of t) refl

  module _ (p : ShapedBy s t ds) where
    -- what such a line says where its checksum is right
    abbrev pub shaped_says : Content
    shaped_says = says p.form.kind (number (take p.form.width p.body)) (data_digits p.form (s ∷ t ∷ ds) (length p.body))

    -- its checksum decides how it is read
    pub shaped_line : line_of (s ∷ t ∷ ds) ≡ cond (eqb (sum (p.count ∷ p.body) % 256) 255) (Ok shaped_says) (Err Checksum)
    shaped_line = line_bytes p.form p.count p.body p.mark p.type p.spells ∙ cond-true (count_fits p.form p.count (length p.body)) _ _ p.fits

-- every line has a fault of shape or has none
pub shaped : (l : List ℕ) → Judged l
shaped [] = inl refl
shaped (s ∷ []) = inl refl
shaped (s ∷ t ∷ ds) = by_mark s t ds (eqb s 83) refl

pub err_ok : {f : Fault} {c : Content} → Err f ≡ Ok c → ⊥
err_ok e = cc

-- a line that is read has no fault of shape
pub ok_shaped : (l : List ℕ) (c : Content) → line_of l ≡ Ok c → Shaped l
ok_shaped l c e = ⊎_elim (λ bad. absurd (err_ok (sym bad ∙ e))) (λ p. p) (shaped l)

-- ---- its characters

-- no hex digit and no type ends a line
digit-plain : (c : ℕ) → IfSome (digit_value c) (λ d. 48 ≤ c)
digit-plain c = grind (arith, nat_tests)

type-plain : (t : ℕ) → IfSome (form_of t) (λ f. 48 ≤ t)
type-plain t = grind (arith, nat_tests)

bytes-plain : (cs bs : List ℕ) → bytes_of cs ≡ Some bs → Plain cs
bytes-plain [] bs e = tt
bytes-plain (x ∷ []) bs e = absurd (bytes-odd x bs e)
bytes-plain (x ∷ y ∷ cs) bs e =
    let p = bytes-uncons x y cs bs e in
    let q = byte_from-some (digit_value x) (digit_value y) p.0 p.2 in (
      MatchOption-at_some (Unit {0}) (λ d. 48 ≤ x) q.0 q.2 (digit-plain x),
      (MatchOption-at_some (Unit {0}) (λ d. 48 ≤ y) q.1 q.3 (digit-plain y), bytes-plain cs p.1 p.3),
    )

shaped_plain : (s t : ℕ) (ds : List ℕ) → ShapedBy s t ds → Plain (s ∷ t ∷ ds)
shaped_plain s t ds p =
    let mark = p.mark in
    (omega arith, (MatchOption-at_some (Unit {0}) (λ f. 48 ≤ t) p.form p.type (type-plain t), bytes-plain ds (p.count ∷ p.body) p.spells))

-- it is the first line of a text that begins with it and its end
pub shaped_first : (l tail rest : List ℕ) → Shaped l → EndsBefore tail rest → lines_of (l ++ tail) ≡ l ∷ lines_of rest
shaped_first [] tail rest p ends = absurd p
shaped_first (s ∷ []) tail rest p ends = absurd p
shaped_first (s ∷ t ∷ ds) tail rest p ends = plain_first (s ∷ t ∷ ds) tail rest (shaped_plain s t ds p) (omega arith) ends

-- ---- its length

-- it is as long as its count says
pub shaped_long : (l tail : List ℕ) → Shaped l → measured_length (l ++ tail) ≡ Some (length l)
shaped_long [] tail p = absurd p
shaped_long (s ∷ []) tail p = absurd p
shaped_long (s ∷ t ∷ []) tail p = let none = ap length (bytes-nil (p.count ∷ p.body) p.spells) in absurd (omega arith)
shaped_long (s ∷ t ∷ x ∷ []) tail p = absurd (bytes-odd x (p.count ∷ p.body) p.spells)
shaped_long (s ∷ t ∷ x ∷ y ∷ ds) tail p =
    let q = bytes-uncons x y ds (p.count ∷ p.body) p.spells in
    let long = length-bytes (x ∷ y ∷ ds) (p.count ∷ p.body) p.spells in
    let same = eqb-true p.count (length p.body) (and_parts (eqb p.count (length p.body)) _ p.fits).0 in
    let first : q.0 ≡ p.count = let h = q.4 in cc in
    let whole : 4 + 2 * q.0 ≡ length (s ∷ t ∷ x ∷ y ∷ ds) = omega arith in
    ap (option_map (λ n. 4 + 2 * n)) q.2 ∙ ap Some whole
