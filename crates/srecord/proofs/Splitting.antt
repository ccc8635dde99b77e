-- The lines of a text are those that it writes, one after the other. Assumes nothing.
use Rattle.std.proofs.Common.{◌≡◌, ℕ, List, [], ◌∷◌, ◌++◌, sym, refl, ap, ◌∙◌, subst, inl, inr}
use Rattle.std.specs.List.{AllByRecursion}
use Rattle.srecord.specs.declared.line.Kind.{Kind}
use Rattle.srecord.specs.File.{Entry, IsEntry, WritesLine, EndsLine, WritesText}
use Rattle.srecord.specs.Text.{lines_of, EndsBefore}
use Rattle.srecord.proofs.Shapes.{ok_shaped, shaped_first}
use Rattle.srecord.proofs.Texts.{lines_of-nil, cut}
use Rattle.srecord.proofs.Writing.{line_reads}

-- each line is written by its text
abbrev pub EachLine : List Entry → List (List ℕ) → Type 0
EachLine [] [] = Unit {0}
EachLine [] (l ∷ ls) = ⊥
EachLine (e ∷ es) [] = ⊥
EachLine (e ∷ es) (l ∷ ls) = WritesLine e l × EachLine es ls

-- each is a line of some kind
abbrev pub Lines : List Entry → Type 0
Lines es = AllByRecursion (λ e. (k : Kind) × IsEntry k e) es

-- ---- from the text to its lines

-- what ends a line stands before the text of the next lines
ends-text : (ending : List ℕ) (es : List Entry) (rest : List ℕ) → EndsLine ending es → WritesText es rest → EndsBefore (ending ++ rest) rest
ends-text ending es rest (inl e) w = inl (ap (λ x. x ++ rest) e)
ends-text ending es rest (inr (inl e)) w = inr (inl (ap (λ x. x ++ rest) e))
ends-text ending es rest (inr (inr e)) w =
    let none : rest ≡ [] = subst (λ (l : List Entry). WritesText l rest) e.1 w in
    inr (inr ((λ i. e.0 i ++ none i), none))

-- the lines of a text that writes some lines are the texts of those
pub text_lines : (es : List Entry) (text : List ℕ) → Lines es → WritesText es text → EachLine es (lines_of text)
text_lines [] text is w = subst (EachLine []) (sym (ap lines_of w ∙ lines_of-nil)) tt
text_lines (e ∷ es) text is w =
    let read = (line_reads is.0.0 e is.0.1 w.0 w.4).1 in
    subst (EachLine (e ∷ es))
    (sym (ap lines_of w.3 ∙ shaped_first w.0 (w.1 ++ w.2) w.2 (ok_shaped w.0 _ read) (ends-text w.1 es w.2 w.5 w.6)))
    (w.4, text_lines es w.2 is.1 w.6)

-- ---- from the lines to their text

each_none : (es : List Entry) → EachLine es [] → es ≡ []
each_none [] w = refl
each_none (e ∷ es) w = absurd w

-- and the other way round
ends-line : (tail rest : List ℕ) (es : List Entry) → EndsBefore tail rest → EachLine es (lines_of rest) → (ending : List ℕ) × (tail ≡ ending ++ rest) × EndsLine ending es
ends-line tail rest es (inl e) w = (10 ∷ [], e, inl refl)
ends-line tail rest es (inr (inl e)) w = (13 ∷ 10 ∷ [], e, inr (inl refl))
ends-line tail rest es (inr (inr e)) w =
    ([], e.0 ∙ sym e.1, inr (inr (refl, each_none es (subst (EachLine es) (ap lines_of e.1 ∙ lines_of-nil) w))))

-- a text writes the lines that its lines are the texts of
pub lines_text : (es : List Entry) (text : List ℕ) → EachLine es (lines_of text) → WritesText es text
lines_text [] [] w = refl
lines_text [] (b ∷ text) w = absurd (subst (EachLine []) (cut b text).lines w)
lines_text (e ∷ es) [] w = absurd (subst (EachLine (e ∷ es)) lines_of-nil w)
lines_text (e ∷ es) (b ∷ text) w =
    let c = cut b text in
    let each = subst (EachLine (e ∷ es)) c.lines w in
    let end = ends-line c.tail c.rest es c.ends each.1 in
    (c.line, end.0, c.rest, c.whole ∙ ap (λ t. c.line ++ t) end.1, each.0, end.2, lines_text es c.rest each.1)
