-- Laws of the lines of a text. Assumes nothing.
use Rattle.std.proofs.Common.{◌≡◌, ℕ, ◌<◌, ◌≤◌, Bool, true, false, ◌&&◌, eqb, List, [], ◌∷◌, ◌++◌, length, sym, refl, ap, ◌∙◌, inl, inr, arith}
use Rattle.std.specs.List.{AllByRecursion}
use Rattle.std.proofs.lemmas.Bool.{eqb-true, and_parts}
use Rattle.std.proofs.lemmas.Bool.Decides.{nat_tests}
use Rattle.srecord.specs.Text.{starts_with_lf, on_first, lines_of, EndsBefore}

pub lines_of-nil : lines_of [] ≡ []
unfolding lines_of
lines_of-nil = refl

-- no character of these ends a line
abbrev pub Plain : List ℕ → Type 0
Plain cs = AllByRecursion (λ c. 48 ≤ c) cs

-- such a character goes in front of the first line
plain_more : (b : ℕ) (text : List ℕ) → 48 ≤ b → lines_of (b ∷ text) ≡ on_first b (lines_of text)
unfolding lines_of
plain_more b text h = grind (arith, nat_tests)

-- or is a line by itself where an end follows
plain_last : (b : ℕ) (tail rest : List ℕ) → EndsBefore tail rest → on_first b (lines_of tail) ≡ (b ∷ []) ∷ lines_of rest
unfolding lines_of
plain_last b tail rest (inl e) = ap (λ t. on_first b (lines_of t)) e
plain_last b tail rest (inr (inl e)) = ap (λ t. on_first b (lines_of t)) e
plain_last b tail rest (inr (inr e)) = ap (λ t. on_first b (lines_of t)) e.0 ∙ ap (λ (t : List ℕ). (b ∷ []) ∷ lines_of t) (sym e.1)

-- a line of such characters is the first of a text that begins with it and its end
pub plain_first : (line tail rest : List ℕ) → Plain line → 0 < length line → EndsBefore tail rest → lines_of (line ++ tail) ≡ line ∷ lines_of rest
plain_first [] tail rest p h ends = absurd (omega arith)
plain_first (b ∷ []) tail rest p h ends = plain_more b tail p.0 ∙ plain_last b tail rest ends
plain_first (b ∷ c ∷ line) tail rest p h ends =
    plain_more b ((c ∷ line) ++ tail) p.0 ∙ ap (on_first b) (plain_first (c ∷ line) tail rest p.1 (omega arith) ends)

-- the first line of a text, and what follows its end
pub record Cut (text : List ℕ) : Type 0 where
  pub line : List ℕ
  pub tail : List ℕ
  pub rest : List ℕ
  pub whole : text ≡ line ++ tail
  pub lines : lines_of text ≡ line ∷ lines_of rest
  pub ends : EndsBefore tail rest

cut_lf : (b : ℕ) (text : List ℕ) → eqb b 10 ≡ true → Cut (b ∷ text)
unfolding lines_of
cut_lf b text e = record {
  line = [];
  tail = 10 ∷ text;
  rest = text;
  whole = ap (λ (x : ℕ). x ∷ text) (eqb-true b 10 e);
  lines = grind (arith, nat_tests);
  ends = inl refl;
}

cut_crlf : (b c : ℕ) (text : List ℕ) → eqb b 10 ≡ false → (eqb b 13 && eqb c 10) ≡ true → Cut (b ∷ c ∷ text)
unfolding lines_of
cut_crlf b c text n e =
    let p = and_parts (eqb b 13) (eqb c 10) e in
    record {
      line = [];
      tail = 13 ∷ 10 ∷ text;
      rest = text;
      whole = (λ i. eqb-true b 13 p.0 i ∷ eqb-true c 10 p.1 i ∷ text);
      lines = grind (arith, nat_tests);
      ends = inr (inl refl);
    }

cut_more : (b : ℕ) (text : List ℕ) → eqb b 10 ≡ false → (eqb b 13 && starts_with_lf text) ≡ false → Cut text → Cut (b ∷ text)
unfolding lines_of
cut_more b text n e c = record {
  line = b ∷ c.line;
  tail = c.tail;
  rest = c.rest;
  whole = ap (λ (t : List ℕ). b ∷ t) c.whole;
  lines = grind (arith, nat_tests);
  ends = c.ends;
}

cut_one : (b : ℕ) → eqb b 10 ≡ false → Cut (b ∷ [])
unfolding lines_of
cut_one b n = record {
  line = b ∷ [];
  tail = [];
  rest = [];
  whole = refl;
  lines = grind (arith, nat_tests);
  ends = inr (inr (refl, refl));
}

-- every text that is not empty has one
pub cut : (b : ℕ) (text : List ℕ) → Cut (b ∷ text)
cut b [] = by (eqb b 10) refl
  where
    by : (x : Bool) → eqb b 10 ≡ x → Cut (b ∷ [])
    by true e = cut_lf b [] e
    by false e = cut_one b e
cut b (c ∷ text) = by (cut c text) (eqb b 10) (eqb b 13 && eqb c 10) refl refl
  where
    by : Cut (c ∷ text) → (x y : Bool) → eqb b 10 ≡ x → (eqb b 13 && eqb c 10) ≡ y → Cut (b ∷ c ∷ text)
    by more true y e h = cut_lf b (c ∷ text) e
    by more false true e h = cut_crlf b c text e h
    by more false false e h = cut_more b (c ∷ text) e h more
