-- Laws of how many exchanges were made, for all who count them. Assumes nothing.
use Rattle.std.proofs.Common.{◌≡◌, ℕ, ◌+◌, ◌%◌, ◌^◌, ◌≤◌, ◌<◌, sym, ap, ◌∙◌, arith, add-zero}
use Rattle.std.proofs.Math.Nat.{mod-add-mod, mod-mod}
use Rattle.session.specs.Laws.{Rises, AtMost}

pub rises_none : (a b : ℕ) → b ≡ a → Rises a 0 b
rises_none a b h = ap (λ n. n % 2 ^ 64) (h ∙ sym (add-zero a))

pub rises_one : (a b : ℕ) → b ≡ (a + 1) % 2 ^ 64 → Rises a 1 b
rises_one a b h = ap (λ n. n % 2 ^ 64) h ∙ mod-mod (a + 1) (2 ^ 64)

pub rises_more : (a n b k c : ℕ) → Rises a n b → Rises b k c → Rises a (n + k) c
rises_more a n b k c h j =
    let first : (b + k) % 2 ^ 64 ≡ (b % 2 ^ 64 + k) % 2 ^ 64 = sym (mod-add-mod b (2 ^ 64) k) in
    let then : ((a + n) % 2 ^ 64 + k) % 2 ^ 64 ≡ (a + n + k) % 2 ^ 64 = mod-add-mod (a + n) (2 ^ 64) k in
    let same : a + n + k ≡ a + (n + k) = omega arith in
    j ∙ (first ∙ (ap (λ m. (m + k) % 2 ^ 64) h ∙ (then ∙ ap (λ m. m % 2 ^ 64) same)))

-- a rise that is told by a number
pub told_rise : (a b n k : ℕ) → k < 2 ^ 64 → Rises a n b → b ≡ (a + k) % 2 ^ 64 → k ≡ n % 2 ^ 64
told_rise a b n k h r t = omega (arith, h, r, t)

module _ {P : Type 0} (exchanges : P → ℕ) where
  -- nothing is sent
  abbrev pub most_none : (p q : P) (k : ℕ) → q ≡ p → AtMost exchanges p k q
  most_none p q k h = record { count = 0; rise = rises_none (exchanges p) (exchanges q) (ap exchanges h); most = omega arith }

  -- what is sent after other frames
  abbrev pub most_more : (p m q : P) (j k n : ℕ) → j + k ≤ n → AtMost exchanges p j m → AtMost exchanges m k q → AtMost exchanges p n q
  most_more p m q j k n l h t = record {
    count = h.count + t.count;
    rise = rises_more (exchanges p) h.count (exchanges m) t.count (exchanges q) h.rise t.rise;
    most = omega (arith, l, h.most, t.most);
  }
