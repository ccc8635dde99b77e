-- What is sent of records. Assumes nothing.
use Rattle.std.proofs.Common.{◌≡◌, ℕ, ◌≤◌, ◌++◌, List, [], ◌∷◌, Some, length, take, drop, refl, sym, ap, subst, ◌∙◌, get_or, arith}
use Rattle.std.specs.Prelude.{Option, None, Result}
use Rattle.std.proofs.lemmas.List.{take_all}
use Rattle.bootloader.specs.declared.command.Command.{Command}
use Rattle.bootloader.specs.declared.command.Command.TheVariants.{DownloadSix}
use Rattle.session.specs.declared.failure.Failure.{Failure}
use Rattle.bootloader.specs.Frames.{frame_of}
use Rattle.session.specs.Session.{Accepts, Delivered, Stops, SentAll, next}
use Rattle.loading.specs.Record.{downloads, send_one, commands_for}
use Rattle.loading.specs.Source.{SourceRecord, first_of, rest_of}
use Rattle.session.specs.Joining.{sent_on, sent_append, stops_front}

-- the next of those that are to come
pub ahead : (rs : List SourceRecord) (x : SourceRecord) → Some x ≡ first_of rs → rs ≡ x ∷ rest_of rs
ahead [] x h = absurd (grind arith)
ahead (y ∷ ys) x h = let same : x ≡ y = grind arith in ap (λ z. z ∷ ys) (sym same)

pub none_ahead : (rs : List SourceRecord) → None ≡ first_of rs → rs ≡ []
none_ahead [] h = refl
none_ahead (y ∷ ys) h = absurd (grind arith)

module _ {P : Type 0} (exchanged : P → List ℕ → Option (List ℕ) → P → Type 0) where
  -- six bytes that are downloaded before others
  pub six_more : (p : P) (c : ℕ) (xs : List ℕ) (reply : List ℕ) (m : P) (r : Result (Unit {0}) Failure) (q : P) (d : ℕ) → 6 ≤ length xs
      → Accepts exchanged p (frame_of c (DownloadSix (get_or xs 0 0 ∷ get_or xs 1 0 ∷ get_or xs 2 0 ∷ get_or xs 3 0 ∷ get_or xs 4 0 ∷ get_or xs 5 0 ∷ []))) reply m
      → SentAll exchanged m (next c) (downloads (drop 6 xs)) r q d → SentAll exchanged p c (downloads xs) r q d
  six_more p c [] reply m r q d l a h = absurd (omega (arith, l))
  six_more p c (x0 ∷ []) reply m r q d l a h = absurd (omega (arith, l))
  six_more p c (x0 ∷ x1 ∷ []) reply m r q d l a h = absurd (omega (arith, l))
  six_more p c (x0 ∷ x1 ∷ x2 ∷ []) reply m r q d l a h = absurd (omega (arith, l))
  six_more p c (x0 ∷ x1 ∷ x2 ∷ x3 ∷ []) reply m r q d l a h = absurd (omega (arith, l))
  six_more p c (x0 ∷ x1 ∷ x2 ∷ x3 ∷ x4 ∷ []) reply m r q d l a h = absurd (omega (arith, l))
  six_more p c (x0 ∷ x1 ∷ x2 ∷ x3 ∷ x4 ∷ x5 ∷ rest) reply m r q d l a h = sent_on exchanged p c (DownloadSix (x0 ∷ x1 ∷ x2 ∷ x3 ∷ x4 ∷ x5 ∷ [])) (downloads rest) reply m r q d a h

  -- the same, where the rest is cut out of the bytes
  pub six_cut : (p : P) (c : ℕ) (xs : List ℕ) (n : ℕ) (reply : List ℕ) (m : P) (e : ℕ) (r : Result (Unit {0}) Failure) (q : P) (d : ℕ) → 6 ≤ length xs
      → Accepts exchanged p (frame_of c (DownloadSix (get_or xs 0 0 ∷ get_or xs 1 0 ∷ get_or xs 2 0 ∷ get_or xs 3 0 ∷ get_or xs 4 0 ∷ get_or xs 5 0 ∷ []))) reply m
      → e ≡ next c → length (drop 6 xs) ≤ n → SentAll exchanged m e (downloads (take n (drop 6 xs))) r q d → SentAll exchanged p c (downloads xs) r q d
  six_cut p c xs n reply m e r q d l a k w h =
      let all : SentAll exchanged m e (downloads (drop 6 xs)) r q d = subst (λ (ys : List ℕ). SentAll exchanged m e (downloads ys) r q d) (take_all n (drop 6 xs) w) h in
      six_more p c xs reply m r q d l a (subst (λ (b : ℕ). SentAll exchanged m b (downloads (drop 6 xs)) r q d) k all)

  -- a record is sent, and then those after it
  pub records_on : (extension : ℕ) (rs : List SourceRecord) (x : SourceRecord) (js : List SourceRecord) (p : P) (c : ℕ) (m : P) (d : ℕ) (r : Result (Unit {0}) Failure) (q : P) (e : ℕ)
      → Some x ≡ first_of rs → js ≡ rest_of rs
      → Delivered exchanged p c (send_one extension x) m d → SentAll exchanged m d (commands_for extension js) r q e → SentAll exchanged p c (commands_for extension rs) r q e
  records_on extension rs x js p c m d r q e h n a t =
      subst (λ (ys : List Command). SentAll exchanged p c ys r q e) (ap (λ ks. send_one extension x ++ commands_for extension ks) n ∙ ap (commands_for extension) (sym (ahead rs x h)))
      (sent_append exchanged p c (send_one extension x) (commands_for extension js) m d r q e a t)

  pub records_stop : (extension : ℕ) (rs : List SourceRecord) (x : SourceRecord) (p : P) (c : ℕ) (failure : Failure) (q : P) (e : ℕ) → Some x ≡ first_of rs
      → Stops exchanged p c (send_one extension x) failure q e → Stops exchanged p c (commands_for extension rs) failure q e
  records_stop extension rs x p c failure q e h a =
      subst (λ (ys : List Command). Stops exchanged p c ys failure q e) (ap (commands_for extension) (sym (ahead rs x h)))
      (stops_front exchanged p c (send_one extension x) (commands_for extension (rest_of rs)) failure q e a)
