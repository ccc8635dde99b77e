-- On a lossless link each command is sent once, by the laws of boards.
use Rattle.std.proofs.Common.{◌≡◌, ℕ, ◌+◌, ◌%◌, ◌^◌, ◌<◌, List, [], ◌∷◌, length, Some, Ok, Err, refl, sym, ap, subst, ◌∙◌, inl, inr, arith}
use Rattle.std.specs.Prelude.{Option, None, Result, zero, suc}
use Rattle.bootloader.specs.declared.command.Command.{Command}
use Rattle.bootloader.specs.declared.state.State.TheVariants.{Connected}
use Rattle.bootloader.specs.Frames.{frame_of}
use Rattle.bootloader.specs.Board.{Board, is_running, reply_with, taken}
use Rattle.bootloader.specs.BoardLaws.{BoardLaws, code_of}
use Rattle.link.specs.Link.{OneExchange}
use Rattle.session.specs.declared.failure.Failure.{Failure}
use Rattle.session.specs.declared.failure.Failure.TheVariants as why
use Rattle.session.specs.Session.{Silent, Answered, Accepts, Sent, Delivered, SentAll, next}
use Rattle.session.specs.Laws.{Rises, Takes, Carries, AreSaid, FirstIsNew, AllInner, WentWell}
use Rattle.session.specs.SessionLaws.{AnsweredAtOnce}
use Rattle.session.specs.Counting.{rises_none, rises_one, rises_more}
use Rattle.session.proofs.Carrying.{next_below, rest_new, inner_state}
use Rattle.session.proofs.Counts.{delivered_most}
use Rattle.session.proofs.Taking.{answered_once}

some_same : (x y : List ℕ) → Some x ≡ Some y → x ≡ y
some_same x y h = grind arith

module _ {P : Type 0} (exchanged : P → List ℕ → Option (List ℕ) → P → Type 0) (exchanges : P → ℕ) (board : P → Board) (lossless : P → Type 0)
    (counted : (p q : P) (f : List ℕ) (r : Option (List ℕ)) → exchanged p f r q → exchanges q ≡ (exchanges p + 1) % 2 ^ 64)
    (linked : (p q : P) (f : List ℕ) (r : Option (List ℕ)) → exchanged p f r q → OneExchange (lossless p) (lossless q) (board p) f r (board q)) where
  -- a frame to which the board has a reply
  module _ (p : P) (f reply : List ℕ) (still : lossless p) (told : (taken (board p) f).reply ≡ Some reply) where
    never_none : (q : P) → exchanged p f None q → ⊥
    never_none q h = let clash : None ≡ Some reply = ((linked p q f None h).lossless still).0.reply ∙ told in grind arith

    pub never_silent : (n : ℕ) (q : P) → Silent exchanged p f (suc n) q → ⊥
    never_silent zero q h = never_none q (subst (λ (a : P). exchanged a f None q) h.1 h.2)
    never_silent (suc n) q h = never_silent n h.0 h.1

    -- the first exchange brings the reply
    at_first : (other : List ℕ) (q : P) (n : ℕ) (m : P) → Silent exchanged p f n m → exchanged m f (Some other) q → (n ≡ 0) × exchanged p f (Some other) q
    at_first other q zero m s h = (refl, subst (λ (a : P). exchanged a f (Some other) q) s h)
    at_first other q (suc n) m s h = absurd (never_silent n m s)

    pub no_silence : (other : List ℕ) (q : P) (a : Answered exchanged p f other q) → a.silences ≡ 0
    no_silence other q a = (at_first other q a.silences a.between a.before a.last).0

    pub at_once : (other : List ℕ) (q : P) → Answered exchanged p f other q → AnsweredAtOnce exchanged exchanges board lossless p f reply other q
    at_once other q a =
        let h = (at_first other q a.silences a.between a.before a.last).1 in
        let o = (linked p q f (Some other) h).lossless still in
        record {
          same = some_same other reply (o.0.reply ∙ told);
          after = o.0.board;
          kept = o.1;
          rise = rises_one (exchanges p) (exchanges q) (counted p q f (Some other) h);
        }

    pub never_fails : (failure : Failure) (q : P) → code_of reply ≡ 0 → Sent exchanged p f (Err failure) q → ⊥
    never_fails (why.Refused command code) q ok s = s.refused (ap code_of (at_once s.reply q s.answered).same ∙ ok)
    never_fails (why.Silent command) q ok s = never_silent 2 q s.silent

  module _ (laws : BoardLaws) where
    -- one exchange for each command that is delivered
    delivered_exact : (p : P) (c : ℕ) (xs : List Command) (q : P) (d : ℕ) (h : Delivered exchanged p c xs q d) → lossless p
        → ((delivered_most exchanged exchanges counted p c xs q d h).count ≡ length xs) × lossless q
    delivered_exact p c [] q d h l = (refl, subst lossless (sym h.0) l)
    delivered_exact p c (x ∷ xs) q d h l =
        let told = (answered_once laws exchanged board lossless linked p c x h.0 h.1 h.2.answered).answer in
        let first = no_silence p (frame_of c x) h.0 l told h.0 h.1 h.2.answered in
        let later = delivered_exact h.1 (next c) xs q d h.3 (at_once p (frame_of c x) h.0 l told h.0 h.1 h.2.answered).kept in
        (omega (arith, first, later.0), later.1)

    pub delivered_count : (p : P) (c : ℕ) (xs : List Command) (q : P) (d : ℕ) → Delivered exchanged p c xs q d → Takes exchanges lossless p (length xs) q
    delivered_count p c xs q d h =
        let most = delivered_most exchanged exchanges counted p c xs q d h in
        record { count = most.count; rise = most.rise; most = most.most; exact = delivered_exact p c xs q d h }

    -- the commands after the first go well
    abbrev Onward : Board → ℕ → List Command → Board → P → ℕ → Type 0
    Onward b c xs d q e = (m : P) (v : Result (Unit {0}) Failure) → board m ≡ b → lossless m → b.session.state ≡ Connected → FirstIsNew b (next c) xs
        → SentAll exchanged m (next c) xs v q e → WentWell exchanges board lossless m (length xs) d v q

    -- commands that the board can carry out are sent and carried out
    pub sent_well : (p : P) (b : Board) (c : ℕ) (xs : List Command) (d : Board) (r : Result (Unit {0}) Failure) (q : P) (e : ℕ)
        → board p ≡ b → lossless p → b.session.state ≡ Connected → c < 256 → AllInner xs → AreSaid xs → FirstIsNew b c xs → Carries b c xs d
        → SentAll exchanged p c xs r q e → WentWell exchanges board lossless p (length xs) d r q
    sent_well p b c [] d (Ok u) q e at l s h i a n t k = record {
      done = refl;
      carried = ap board k.0 ∙ (at ∙ sym t);
      still = subst lossless (sym k.0) l;
      rise = rises_none (exchanges p) (exchanges q) (ap exchanges k.0);
    }
    sent_well p b c [] d (Err failure) q e at l s h i a n t k = absurd k
    sent_well p b c (x ∷ xs) d r q e at l s h i a n t k =
        by (λ m v at' l' s' n' j. sent_well m t.1 (next c) xs d v q e at' l' s' (next_below c) i.1 a.1 n' t.3 j) r k
      where
        f : List ℕ
        f = frame_of c x

        reply : List ℕ
        reply = reply_with c (Ok (t.0).payload)

        turn : taken (board p) f ≡ record { board = t.1; reply = Some reply }
        turn = ap (λ y. taken y f) at ∙ laws.answers b c x t.0 t.1 (ap is_running s) n (a.0 c) t.2

        told : (taken (board p) f).reply ≡ Some reply
        told = ap (λ u. u.reply) turn

        later : Onward t.1 c xs d q e → (other : List ℕ) (m : P) (v : Result (Unit {0}) Failure) → Accepts exchanged p f other m → SentAll exchanged m (next c) xs v q e
            → WentWell exchanges board lossless p (length (x ∷ xs)) d v q
        later go other m v w j =
            let o = at_once p f reply l told other m w.answered in
            let on = go m v (o.after ∙ ap (λ u. u.board) turn) o.kept (inner_state b c x t.0 t.1 i.0 t.2 ∙ s) (rest_new b c x t.0 t.1 xs h t.2) j in
            let all : Rises (exchanges p) (1 + length xs) (exchanges q) = rises_more (exchanges p) 1 (exchanges m) (length xs) (exchanges q) o.rise on.rise in
            let same : 1 + length xs ≡ length (x ∷ xs) = omega arith in
            record { done = on.done; carried = on.carried; still = on.still; rise = subst (λ (z : ℕ). Rises (exchanges p) z (exchanges q)) same all }

        by : Onward t.1 c xs d q e → (v : Result (Unit {0}) Failure) → SentAll exchanged p c (x ∷ xs) v q e → WentWell exchanges board lossless p (length (x ∷ xs)) d v q
        by go (Ok u) j = later go j.0 j.1 (Ok u) j.2 j.3
        by go (Err failure) (inl j) = absurd (never_fails p f reply l told failure q refl j.0)
        by go (Err failure) (inr j) = later go j.0 j.1 (Err failure) j.2 j.3
