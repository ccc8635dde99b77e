-- What follows a prefix. Assumes nothing.
use Rattle.std.proofs.Common.{◌≡◌, ℕ, Bool, true, false, cond, eqb, List, [], ◌∷◌, ◌++◌, Some, None, Option, refl, ap, sym, ◌∙◌, arith}
use Rattle.std.specs.Borrow.{Bor}
use Rattle.std.specs.Option.{MatchOption, option_map}
use Rattle.std.specs.Str.Pattern.{FindsTextPrefix, StripsPrefix}
use Rattle.std.proofs.lemmas.Bool.Decides.{nat_tests}
use Rattle.script.specs.Number.{behind}

behind-++ : (p t : List ℕ) → behind p (p ++ t) ≡ Some t
behind-++ [] t = refl
behind-++ (c ∷ cs) t = let e = behind-++ cs t in grind (arith, nat_tests)

-- a text with this prefix is the prefix and then what follows
prefixed : (p s t : List ℕ) → behind p s ≡ Some t → s ≡ p ++ t
prefixed [] s t h = cc
prefixed (c ∷ cs) [] t h = cc
prefixed (c ∷ cs) (d ∷ ds) t h = go (eqb d c) refl h (prefixed cs ds t)
  where
    go : (b : Bool) → eqb d c ≡ b → cond b (behind cs ds) None ≡ Some t → (behind cs ds ≡ Some t → ds ≡ cs ++ t) → d ∷ ds ≡ c ∷ (cs ++ t)
    go true e k more = let i = more k in let j : d ≡ c = grind (arith, nat_tests) in cc
    go false e k more = cc

-- what `strip_prefix` answers
pub behind_stripped : (p s : List ℕ) (r : Option (Bor (List ℕ))) → MatchOption r (FindsTextPrefix p s None) (λ x. StripsPrefix (FindsTextPrefix p) s x.now) → option_map (λ x. x.now) r ≡ behind p s
behind_stripped p s None h = go (behind p s) refl
  where
    go : (o : Option (List ℕ)) → behind p s ≡ o → None ≡ o
    go None e = refl
    go (Some t) e = absurd (h t (prefixed p s t e))
behind_stripped p s (Some x) h = ap Some h.2 ∙ sym (ap (behind p) h.1.1 ∙ behind-++ p _)
