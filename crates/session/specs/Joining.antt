-- Laws of what is sent, one list after the other, for all who send lists of commands. Assumes nothing.
use Rattle.std.proofs.Common.{◌≡◌, ℕ, ◌+◌, ◌<◌, ◌++◌, List, [], ◌∷◌, Ok, Err, length, take, drop, refl, sym, ap, subst, ◌∙◌, inl, inr, get_or, suc}
use Rattle.std.specs.Prelude.{Option, Result}
use Rattle.std.proofs.lemmas.List.{take_more, take-append-drop}
use Rattle.std.proofs.Math.Seq.{drop-cons}
use Rattle.bootloader.specs.declared.command.Command.{Command}
use Rattle.session.specs.declared.failure.Failure.{Failure}
use Rattle.bootloader.specs.Frames.{frame_of}
use Rattle.session.specs.Session.{Accepts, Sent, Delivered, Stops, SentAll, next}

module _ {P : Type 0} (exchanged : P → List ℕ → Option (List ℕ) → P → Type 0) where
  -- commands that are delivered after others
  pub delivered_append : (p : P) (c : ℕ) (xs ys : List Command) (m : P) (d : ℕ) (q : P) (e : ℕ)
      → Delivered exchanged p c xs m d → Delivered exchanged m d ys q e → Delivered exchanged p c (xs ++ ys) q e
  delivered_append p c [] ys m d q e h k = subst (λ (b : ℕ). Delivered exchanged p b ys q e) h.1 (subst (λ (a : P). Delivered exchanged a d ys q e) h.0 k)
  delivered_append p c (x ∷ xs) ys m d q e h k = (h.0, h.1, h.2, delivered_append h.1 (next c) xs ys m d q e h.3 k)

  -- commands that stop after others
  pub stops_append : (p : P) (c : ℕ) (xs ys : List Command) (failure : Failure) (m : P) (d : ℕ) (q : P) (e : ℕ)
      → Delivered exchanged p c xs m d → Stops exchanged m d ys failure q e → Stops exchanged p c (xs ++ ys) failure q e
  stops_append p c [] ys failure m d q e h k = subst (λ (b : ℕ). Stops exchanged p b ys failure q e) h.1 (subst (λ (a : P). Stops exchanged a d ys failure q e) h.0 k)
  stops_append p c (x ∷ xs) ys failure m d q e h k = inr (h.0, h.1, h.2, stops_append h.1 (next c) xs ys failure m d q e h.3 k)

  -- what stops among some commands stops with any after them
  pub stops_front : (p : P) (c : ℕ) (xs ys : List Command) (failure : Failure) (q : P) (d : ℕ)
      → Stops exchanged p c xs failure q d → Stops exchanged p c (xs ++ ys) failure q d
  stops_front p c [] ys failure q d h = absurd h
  stops_front p c (x ∷ xs) ys failure q d (inl h) = inl h
  stops_front p c (x ∷ xs) ys failure q d (inr h) = inr (h.0, h.1, h.2, stops_front h.1 (next c) xs ys failure q d h.3)

  -- one command more of a list
  pub delivered_more : (p : P) (c : ℕ) (xs : List Command) (i : ℕ) (z : Command) (m : P) (d : ℕ) (reply : List ℕ) (q : P)
      → i < length xs → Delivered exchanged p c (take i xs) m d → Accepts exchanged m (frame_of d (get_or xs i z)) reply q
      → Delivered exchanged p c (take (i + 1) xs) q (next d)
  delivered_more p c xs i z m d reply q h k a =
      subst (λ (ys : List Command). Delivered exchanged p c ys q (next d)) (sym (take_more xs i z h))
      (delivered_append p c (take i xs) (get_or xs i z ∷ []) m d q (next d) k (reply, q, a, (refl, refl)))

  -- the next command of a list fails
  pub stops_next : (p : P) (c : ℕ) (xs : List Command) (i : ℕ) (z : Command) (m : P) (d : ℕ) (failure : Failure) (q : P)
      → i < length xs → Delivered exchanged p c (take i xs) m d → Sent exchanged m (frame_of d (get_or xs i z)) (Err failure) q
      → Stops exchanged p c xs failure q (next d)
  stops_next p c xs i z m d failure q h k a =
      let parted : take i xs ++ get_or xs i z ∷ drop (suc i) xs ≡ xs = ap (λ ys. take i xs ++ ys) (sym (drop-cons xs i z h)) ∙ take-append-drop i xs in
      subst (λ (ys : List Command). Stops exchanged p c ys failure q (next d)) parted
      (stops_append p c (take i xs) (get_or xs i z ∷ drop (suc i) xs) failure m d q (next d) k (inl (a, refl)))

  -- what is sent after one command is sent from that command on
  pub sent_on : (p : P) (c : ℕ) (x : Command) (xs : List Command) (reply : List ℕ) (m : P) (r : Result (Unit {0}) Failure) (q : P) (d : ℕ)
      → Accepts exchanged p (frame_of c x) reply m → SentAll exchanged m (next c) xs r q d → SentAll exchanged p c (x ∷ xs) r q d
  sent_on p c x xs reply m (Ok u) q d a h = (reply, m, a, h)
  sent_on p c x xs reply m (Err e) q d a h = inr (reply, m, a, h)

  -- what is sent after commands is sent from the first of them on
  pub sent_append : (p : P) (c : ℕ) (xs ys : List Command) (m : P) (d : ℕ) (r : Result (Unit {0}) Failure) (q : P) (e : ℕ)
      → Delivered exchanged p c xs m d → SentAll exchanged m d ys r q e → SentAll exchanged p c (xs ++ ys) r q e
  sent_append p c xs ys m d (Ok u) q e h k = delivered_append p c xs ys m d q e h k
  sent_append p c xs ys m d (Err f) q e h k = stops_append p c xs ys f m d q e h k
