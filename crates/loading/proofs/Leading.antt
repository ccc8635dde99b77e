-- Which exchanges a load makes, over any port. Assumes nothing.
use Rattle.std.proofs.Common.{◌≡◌, ℕ, Bool, true, false, ◌+◌, ◌*◌, ◌%◌, ◌^◌, ◌≤◌, ◌<◌, ◌++◌, List, [], ◌∷◌, length, Some, Ok, Err, zero, suc, refl, sym, ap, subst, inl, inr, arith}
use Rattle.std.specs.Prelude.{Option, None, Result}
use Rattle.std.proofs.lemmas.List.{length-append}
use Rattle.bootloader.specs.declared.command.Command.{Command}
use Rattle.bootloader.specs.declared.command.Command.TheVariants.{Connect, Disconnect}
use Rattle.bootloader.specs.Frames.{frame_of}
use Rattle.session.specs.declared.failure.Failure.{Failure}
use Rattle.session.specs.declared.failure.Failure.TheVariants as why
use Rattle.session.specs.Session.{Silent, Answered, Sent, SentAll, Delivered, Stops, next}
use Rattle.session.specs.Laws.{Rises}
use Rattle.session.specs.Joining.{sent_append, stops_front}
use Rattle.session.specs.Counting.{rises_none, rises_one, rises_more, told_rise}
use Rattle.loader.specs.declared.target.Target.{Target}
use Rattle.loading.specs.declared.planning.Plan.{Plan}
use Rattle.loading.specs.declared.planning.Stop.{Stop}
use Rattle.loading.specs.declared.planning.Stop.TheVariants.{NoRow, Outside, Sending}
use Rattle.loading.specs.declared.report.Report.{Report}
use Rattle.loading.specs.Load.{Exchange, Led, Follows, Delivers, Ends, Runs, Loads, IsBounded, closing, load_commands}
use Rattle.loading.specs.Loaded.{frames_of}
use Rattle.loading.specs.Plan.{plan_of, empty_plan}
use Rattle.loading.specs.Prepared.{space_at, preparing}
use Rattle.loading.specs.Source.{SourceRecord}
use Rattle.loading.proofs.Counting.{count_load}

module _ {P : Type 0} (exchanged : P → List ℕ → Option (List ℕ) → P → Type 0) where
  pub led_both : (p : P) (es : List Exchange) (m : P) (fs : List Exchange) (q : P) → Led exchanged p es m → Led exchanged m fs q → Led exchanged p (es ++ fs) q
  led_both p [] m fs q h k = subst (λ (a : P). Led exchanged a fs q) h k
  led_both p (e ∷ es) m fs q h k = (h.0, h.1, led_both h.0 es m fs q h.2 k)

  -- at most three exchanges were made for each of k frames
  pub record Few (p : P) (k : ℕ) (q : P) : Type 0 where
    pub made : List Exchange
    pub led : Led exchanged p made q
    pub few : length made ≤ 3 * k

  few_none : (p q : P) (k : ℕ) → q ≡ p → Few p k q
  few_none p q k h = record { made = []; led = h; few = omega arith }

  few_more : (p m q : P) (j k n : ℕ) → j + k ≤ n → Few p j m → Few m k q → Few p n q
  few_more p m q j k n l h t = record {
    made = h.made ++ t.made;
    led = led_both p h.made m t.made q h.led t.led;
    few = omega (arith, length-append h.made t.made, l, h.few, t.few);
  }

  -- exactly n exchanges, of one frame without a reply
  silent_led : (p : P) (f : List ℕ) (n : ℕ) (q : P) → Silent exchanged p f n q → (es : List Exchange) × Led exchanged p es q × (length es ≡ n)
  silent_led p f zero q h = ([], h, refl)
  silent_led p f (suc n) q h =
      let front = silent_led p f n h.0 h.1 in
      let one : Exchange = record { frame = f; reply = None } in
      (front.0 ++ one ∷ [], led_both p front.0 h.0 (one ∷ []) q front.1 (q, h.2, refl), omega (arith, length-append front.0 (one ∷ []), front.2))

  pub answered_few : (p : P) (f reply : List ℕ) (q : P) → Answered exchanged p f reply q → Few p 1 q
  answered_few p f reply q h =
      let front = silent_led p f h.silences h.between h.before in
      let one : Exchange = record { frame = f; reply = Some reply } in
      record {
        made = front.0 ++ one ∷ [];
        led = led_both p front.0 h.between (one ∷ []) q front.1 (q, h.last, refl);
        few = omega (arith, length-append front.0 (one ∷ []), front.2, h.few);
      }

  sent_few : (p : P) (f : List ℕ) (r : Result (List ℕ) Failure) (q : P) → Sent exchanged p f r q → Few p 1 q
  sent_few p f (Ok reply) q h = answered_few p f reply q h.answered
  sent_few p f (Err (why.Refused command code)) q h = answered_few p f h.reply q h.answered
  sent_few p f (Err (why.Silent command)) q h = let front = silent_led p f 3 q h.silent in record { made = front.0; led = front.1; few = omega (arith, front.2) }

  pub delivered_few : (p : P) (c : ℕ) (xs : List Command) (q : P) (d : ℕ) → Delivered exchanged p c xs q d → Few p (length xs) q
  delivered_few p c [] q d h = few_none p q 0 h.0
  delivered_few p c (x ∷ xs) q d h =
      few_more p h.1 q 1 (length xs) (length (x ∷ xs)) (omega arith) (answered_few p (frame_of c x) h.0 h.1 h.2.answered) (delivered_few h.1 (next c) xs q d h.3)

  stops_few : (p : P) (c : ℕ) (xs : List Command) (failure : Failure) (q : P) (d : ℕ) → Stops exchanged p c xs failure q d → Few p (length xs) q
  stops_few p c [] failure q d h = absurd h
  stops_few p c (x ∷ xs) failure q d (inl h) = few_more p q q 1 0 (length (x ∷ xs)) (omega arith) (sent_few p (frame_of c x) (Err failure) q h.0) (few_none q q 0 refl)
  stops_few p c (x ∷ xs) failure q d (inr h) =
      few_more p h.1 q 1 (length xs) (length (x ∷ xs)) (omega arith) (answered_few p (frame_of c x) h.0 h.1 h.2.answered) (stops_few h.1 (next c) xs failure q d h.3)

  pub all_few : (p : P) (c : ℕ) (xs : List Command) (r : Result (Unit {0}) Failure) (q : P) (d : ℕ) → SentAll exchanged p c xs r q d → Few p (length xs) q
  all_few p c xs (Ok u) q d h = delivered_few p c xs q d h
  all_few p c xs (Err failure) q d h = stops_few p c xs failure q d h

  module _ (t : Target) where
    ended_few : (p : P) (c : ℕ) (a : Bool) (q : P) → Ends exchanged t p c (Err NoRow) a q → Few p 1 q
    ended_few p c true q h = sent_few p (frame_of c (Disconnect 1)) (Ok h.0) q h.1
    ended_few p c false q h = sent_few p (frame_of c (Disconnect 1)) (Err h.0) q h.1

    ends_few : (p : P) (c : ℕ) (r : Result Plan Stop) (a : Bool) (q : P) → Ends exchanged t p c r a q → Few p 1 q
    ends_few p c (Ok plan) a q h = ended_few p c a q h
    ends_few p c (Err NoRow) a q h = ended_few p c a q h
    ends_few p c (Err (Outside line)) a q h = ended_few p c a q h
    ends_few p c (Err (Sending (why.Refused command code))) a q h = ended_few p c a q h
    ends_few p c (Err (Sending (why.Silent command))) a q h = few_none p q 1 h.0

    -- what is sent up to a failure is some of all commands
    pub follows_all : (p : P) (c : ℕ) (rs : List SourceRecord) (plan : Plan) (r : Result (Unit {0}) Failure) (cleared : Bool) (q : P) (d : ℕ) → Follows exchanged t p c rs plan r cleared q d
        → SentAll exchanged p c (load_commands t plan rs) r q d
    follows_all p c rs plan r true q d h = sent_append exchanged p c (preparing (space_at t) plan.mask) (closing t plan rs) h.0 h.1 r q d h.2 h.3
    follows_all p c rs plan r false q d h =
        subst (λ (o : Result (Unit {0}) Failure). SentAll exchanged p c (load_commands t plan rs) o q d) (sym h.1)
        (stops_front exchanged p c (preparing (space_at t) plan.mask) (closing t plan rs) h.0 q d h.2)

    pub delivers_few : (p : P) (c : ℕ) (rs : List SourceRecord) (o r : Result Plan Stop) (s : ℕ) (q : P) (d : ℕ) (n : ℕ) → 2 + n ≡ frames_of rs → Delivers exchanged t p c rs o r s q d → Few p n q
    delivers_few p c rs (Err stop) r s q d n e h = few_none p q n h.2
    delivers_few p c rs (Ok plan) r s q d n e h =
        subst (λ (k : ℕ). Few p k q) (omega (arith, e, count_load t plan rs))
        (all_few p c (load_commands t plan rs) h.sent q d (follows_all p c rs plan h.sent h.cleared q d h.follows))

    runs_few : (p : P) (rs : List SourceRecord) (r : Result Plan Stop) (s : ℕ) (a : Bool) (q : P) → Runs exchanged t p rs r s a q → Few p (frames_of rs) q
    runs_few p rs r s a q (inl h) =
        let k : ℕ = length (load_commands t empty_plan rs) in
        let n : 2 + k ≡ frames_of rs = count_load t empty_plan rs in
        few_more p h.opened q 1 (k + 1) (frames_of rs) (omega (arith, n)) (answered_few p (frame_of 0 Connect) h.reply h.opened h.connects.answered)
        (few_more h.opened h.between q k 1 (k + 1) (omega arith) (delivers_few h.opened 1 rs (plan_of t h.reply rs) r s h.between h.counter k n h.delivers) (ends_few h.between h.counter r a q h.ends))
    runs_few p rs r s a q (inr h) = few_more p q q 1 0 (frames_of rs) (omega arith) (sent_few p (frame_of 0 Connect) (Err h.failure) q h.sent) (few_none q q 0 refl)

    module _ (exchanges : P → ℕ) (counted : (p q : P) (f : List ℕ) (r : Option (List ℕ)) → exchanged p f r q → exchanges q ≡ (exchanges p + 1) % 2 ^ 64) where
      led_rises : (p : P) (es : List Exchange) (q : P) → Led exchanged p es q → Rises (exchanges p) (length es) (exchanges q)
      led_rises p [] q h = rises_none (exchanges p) (exchanges q) (ap exchanges h)
      led_rises p (e ∷ es) q h =
          let same : 1 + length es ≡ length (e ∷ es) = omega arith in
          subst (λ (k : ℕ). Rises (exchanges p) k (exchanges q)) same
          (rises_more (exchanges p) 1 (exchanges h.0) (length es) (exchanges q) (rises_one (exchanges p) (exchanges h.0) (counted p h.0 e.frame e.reply h.1)) (led_rises h.0 es q h.2))

      pub load_bounded : (p : P) (rs : List SourceRecord) (told : Report) (q : P) → told.frames < 2 ^ 64 → Loads exchanged t exchanges p rs told q → IsBounded exchanged p rs told q
      load_bounded p rs told q small h =
          let few = runs_few p rs h.done told.sectors told.acknowledged q h.runs in
          record {
            made = few.made;
            led = few.led;
            few = few.few;
            frames = told_rise (exchanges p) (exchanges q) (length few.made) told.frames small (led_rises p few.made q few.led) h.frames;
          }
