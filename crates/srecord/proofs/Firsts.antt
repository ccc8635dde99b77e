-- The first line of a text is the one that its count measures, unless it has a fault of shape.
-- Assumes nothing.
use Rattle.std.proofs.Common.{◌≡◌, ℕ, ◌<◌, ◌≤◌, List, [], ◌∷◌, length, take, drop, Some, Ok, Err, sym, ap, ◌∙◌, subst, inl, inr, arith, Bor}
use Rattle.std.proofs.lemmas.List.{length-append, take_at, drop_at}
use Rattle.srecord.specs.declared.line.Fault.{Fault}
use Rattle.srecord.specs.declared.line.Fault.TheVariants.{Shape}
use Rattle.srecord.specs.declared.line.Line.{Line}
use Rattle.srecord.specs.Line.{line_of, content_of}
use Rattle.srecord.specs.Text.{lines_of, EndsBefore, measured_length, Measured, ReadsFirst}
use Rattle.srecord.proofs.Shapes.{Shaped, Judged, shaped, ok_shaped, shaped_first, shaped_long}
use Rattle.srecord.proofs.Texts.{cut}

-- what follows the end of a line is no longer than with the end
ends-short : (tail rest : List ℕ) → EndsBefore tail rest → length rest ≤ length tail
ends-short tail rest (inl e) = let n = ap length e in omega arith
ends-short tail rest (inr (inl e)) = let n = ap length e in omega arith
ends-short tail rest (inr (inr e)) = let n = ap length e.1 in omega arith

shaped_some : (l : List ℕ) → Shaped l → 0 < length l
shaped_some [] p = absurd p
shaped_some (s ∷ l) p = omega arith

-- the line that the count measures is the text up to there
pub measured_at : (text : List ℕ) (n : ℕ) → measured_length text ≡ Some n → (l r : List ℕ) → Measured text l r → (l ≡ take n text) × (n ≤ length text) × EndsBefore (drop n text) r
measured_at text n e l r m =
    let known = m.long in
    let long : length l ≡ n = cc in
    let whole = ap length m.whole ∙ length-append l m.tail in (
      sym (ap (take n) m.whole ∙ take_at l m.tail n long),
      omega arith,
      subst (λ t. EndsBefore t r) (sym (ap (drop n) m.whole ∙ drop_at l m.tail n long)) m.ends,
    )

-- a line that the count measures is the first where it has no fault of shape
measured_first : (text l r : List ℕ) → Measured text l r → Shaped l → lines_of text ≡ l ∷ lines_of r
measured_first text l r m p = ap lines_of m.whole ∙ shaped_first l m.tail r p m.ends

-- what it says is what the first line says
pub first_read : (text l : List ℕ) (r : Bor (List ℕ)) (c : Line) → Measured text l r.now → line_of l ≡ Ok (content_of c) → ReadsFirst text (Ok (c, r))
first_read text l r c m e =
    let p = ok_shaped l (content_of c) e in
    let some = shaped_some l p in
    let short = ends-short m.tail r.now m.ends in
    let long = ap length m.whole ∙ length-append l m.tail in
    (l, measured_first text l r.now m p, e, omega arith)

-- where each line that the count measures has a fault of shape, the first line has one
pub first-misshapen : (text : List ℕ) → 0 < length text → ((l r : List ℕ) → Measured text l r → line_of l ≡ Err Shape) → ReadsFirst text (Err Shape)
first-misshapen [] some h = absurd (omega arith)
first-misshapen (b ∷ text) some h =
    let c = cut b text in
    (c.line, lines_of c.rest, c.lines, by (shaped c.line))
  where
    by : Judged (cut b text).line → line_of (cut b text).line ≡ Err Shape
    by (inl e) = e
    by (inr p) =
        let c = cut b text in
        h c.line c.rest (record { tail = c.tail; whole = c.whole; long = ap measured_length c.whole ∙ shaped_long c.line c.tail p; ends = c.ends })

-- the fault of a line that the count measures is that of the first line
pub first-fault : (text l r : List ℕ) (f : Fault) → 0 < length text → Measured text l r → line_of l ≡ Err f → ReadsFirst text (Err f)
first-fault text l r f some m e = by (shaped l)
  where
    same : (k q : List ℕ) → Measured text k q → k ≡ l
    same k q n = (measured_at text (length l) m.long k q n).0 ∙ sym (measured_at text (length l) m.long l r m).0

    by : Judged l → ReadsFirst text (Err f)
    by (inl bad) =
        let first = first-misshapen text some (λ k q n. ap line_of (same k q n) ∙ bad) in
        (first.0, first.1, first.2, first.3 ∙ sym bad ∙ e)
    by (inr p) = (l, lines_of r, measured_first text l r m p, e)
