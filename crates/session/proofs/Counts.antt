-- How many exchanges frames take, over any port. Assumes nothing.
use Rattle.std.proofs.Common.{◌≡◌, ℕ, ◌+◌, ◌%◌, ◌^◌, List, [], ◌∷◌, length, Some, Ok, Err, refl, ap, subst, inl, inr, arith}
use Rattle.std.specs.Prelude.{Option, None, Result, zero, suc}
use Rattle.bootloader.specs.declared.command.Command.{Command}
use Rattle.bootloader.specs.Frames.{frame_of}
use Rattle.session.specs.declared.failure.Failure.{Failure}
use Rattle.session.specs.declared.failure.Failure.TheVariants as why
use Rattle.session.specs.Session.{Silent, Answered, Asked, Sent, Delivered, Stops, next}
use Rattle.session.specs.Laws.{Rises, AtMost}
use Rattle.session.specs.Counting.{rises_none, rises_one, rises_more, most_none, most_more}

module _ {P : Type 0} (exchanged : P → List ℕ → Option (List ℕ) → P → Type 0) (exchanges : P → ℕ)
    (counted : (p q : P) (f : List ℕ) (r : Option (List ℕ)) → exchanged p f r q → exchanges q ≡ (exchanges p + 1) % 2 ^ 64) where
  pub silent_rise : (p : P) (f : List ℕ) (n : ℕ) (q : P) → Silent exchanged p f n q → Rises (exchanges p) n (exchanges q)
  silent_rise p f zero q h = rises_none (exchanges p) (exchanges q) (ap exchanges h)
  silent_rise p f (suc n) q h =
      let m = h.0 in
      let all : Rises (exchanges p) (n + 1) (exchanges q) = rises_more (exchanges p) n (exchanges m) 1 (exchanges q) (silent_rise p f n m h.1) (rises_one (exchanges m) (exchanges q) (counted m q f None h.2)) in
      let same : n + 1 ≡ suc n = omega arith in
      subst (λ (k : ℕ). Rises (exchanges p) k (exchanges q)) same all

  abbrev pub answered_most : (p : P) (f reply : List ℕ) (q : P) → Answered exchanged p f reply q → AtMost exchanges p 1 q
  answered_most p f reply q h =
      let m = h.between in
      record {
        count = h.silences + 1;
        rise = rises_more (exchanges p) h.silences (exchanges m) 1 (exchanges q) (silent_rise p f h.silences m h.before) (rises_one (exchanges m) (exchanges q) (counted m q f (Some reply) h.last));
        most = omega (arith, h.few);
      }

  silent_most : (p : P) (f : List ℕ) (q : P) → Silent exchanged p f 3 q → AtMost exchanges p 1 q
  silent_most p f q h = record { count = 3; rise = silent_rise p f 3 q h; most = omega arith }

  pub asked_most : (p : P) (f : List ℕ) (r : Option (List ℕ)) (q : P) → Asked exchanged p f r q → AtMost exchanges p 1 q
  asked_most p f None q h = silent_most p f q h
  asked_most p f (Some reply) q h = answered_most p f reply q h

  pub sent_most : (p : P) (f : List ℕ) (r : Result (List ℕ) Failure) (q : P) → Sent exchanged p f r q → AtMost exchanges p 1 q
  sent_most p f (Ok reply) q h = answered_most p f reply q h.answered
  sent_most p f (Err (why.Refused command code)) q h = answered_most p f h.reply q h.answered
  sent_most p f (Err (why.Silent command)) q h = silent_most p f q h.silent

  abbrev pub delivered_most : (p : P) (c : ℕ) (xs : List Command) (q : P) (d : ℕ) → Delivered exchanged p c xs q d → AtMost exchanges p (length xs) q
  delivered_most p c [] q d h = most_none exchanges p q 0 h.0
  delivered_most p c (x ∷ xs) q d h =
      most_more exchanges p h.1 q 1 (length xs) (length (x ∷ xs)) (omega arith)
      (answered_most p (frame_of c x) h.0 h.1 h.2.answered) (delivered_most h.1 (next c) xs q d h.3)

  pub stops_most : (p : P) (c : ℕ) (xs : List Command) (failure : Failure) (q : P) (d : ℕ) → Stops exchanged p c xs failure q d → AtMost exchanges p (length xs) q
  stops_most p c [] failure q d h = absurd h
  stops_most p c (x ∷ xs) failure q d (inl h) =
      most_more exchanges p q q 1 0 (length (x ∷ xs)) (omega arith) (sent_most p (frame_of c x) (Err failure) q h.0) (most_none exchanges q q 0 refl)
  stops_most p c (x ∷ xs) failure q d (inr h) =
      most_more exchanges p h.1 q 1 (length xs) (length (x ∷ xs)) (omega arith)
      (answered_most p (frame_of c x) h.0 h.1 h.2.answered) (stops_most h.1 (next c) xs failure q d h.3)
