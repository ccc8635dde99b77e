-- What is told of a load is what was exchanged, over any port. Assumes nothing.
use Rattle.std.proofs.Common.{◌≡◌, ℕ, Bool, true, false, ◌++◌, List, [], ◌∷◌, length, Ok, Err, refl, sym, ap, subst, ◌∙◌, inl, inr, arith}
use Rattle.std.specs.Prelude.{◌≢◌, ◌⊎◌, Option, Result, cond, slice_index}
use Rattle.bootloader.specs.declared.command.Command.{Command}
use Rattle.bootloader.specs.declared.command.Command.TheVariants.{Connect, Clear, Disconnect}
use Rattle.bootloader.specs.Frames.{frame_of}
use Rattle.loader.specs.declared.target.Target.{Target}
use Rattle.session.specs.declared.failure.Failure.{Failure}
use Rattle.session.specs.declared.failure.Failure.TheVariants as why
use Rattle.session.specs.Session.{Answered, Sent, SentAll, Delivered, Stops, Disconnects, next}
use Rattle.loading.specs.declared.planning.Plan.{Plan}
use Rattle.loading.specs.declared.planning.Stop.{Stop}
use Rattle.loading.specs.declared.planning.Stop.TheVariants.{NoRow, Outside, Sending}
use Rattle.loading.specs.declared.report.Outcome.TheVariants as result
use Rattle.loading.specs.declared.report.Report.{Report}
use Rattle.loading.specs.Load.{Exchange, Led, sectors_of, Follows, done_by, load_commands, Delivers, Ends, RunsOpened, NotOpened, Runs, Loads, WasAnswered, StayedSilent, IsTold}
use Rattle.bootloader.specs.declared.space.Space.{Space}
use Rattle.loading.specs.Plan.{plan_of, empty_plan}
use Rattle.loading.specs.Prepared.{space_at, preparing}
use Rattle.loading.specs.Report.{outcome_by}
use Rattle.loading.specs.Source.{SourceRecord}
use Rattle.geometry.specs.Rows.{row_of}
use Rattle.bootloader.specs.Frames.{two}
use Rattle.loading.proofs.Counting.{count_load}
use Rattle.loading.proofs.Leading.{follows_all, led_both, answered_few, delivers_few}
use Rattle.loading.proofs.Stopping.{IsPlanned, planned_for}

-- a load that stopped is not told as loaded
not_loaded : (stop : Stop) → outcome_by (Err stop) ≢ result.Loaded
not_loaded NoRow h = grind arith
not_loaded (Outside line) h = grind arith
not_loaded (Sending (why.Refused command code)) h = grind arith
not_loaded (Sending (why.Silent command)) h = grind arith

-- which failure is told
refused_done : (r : Result Plan Stop) (command code : ℕ) → outcome_by r ≡ result.Refused command code → r ≡ Err (Sending (why.Refused command code))
refused_done (Ok plan) command code h = absurd (grind arith)
refused_done (Err NoRow) command code h = absurd (grind arith)
refused_done (Err (Outside line)) command code h = absurd (grind arith)
refused_done (Err (Sending (why.Silent x))) command code h = absurd (grind arith)
refused_done (Err (Sending (why.Refused x y))) command code h =
    let a : x ≡ command = grind arith in
    let b : y ≡ code = grind arith in
    λ i. Err (Sending (why.Refused (a i) (b i)))

silent_done : (r : Result Plan Stop) (command : ℕ) → outcome_by r ≡ result.Silent command → r ≡ Err (Sending (why.Silent command))
silent_done (Ok plan) command h = absurd (grind arith)
silent_done (Err NoRow) command h = absurd (grind arith)
silent_done (Err (Outside line)) command h = absurd (grind arith)
silent_done (Err (Sending (why.Refused x y))) command h = absurd (grind arith)
silent_done (Err (Sending (why.Silent x))) command h = let a : x ≡ command = grind arith in λ i. Err (Sending (why.Silent (a i)))

module _ {P : Type 0} (exchanged : P → List ℕ → Option (List ℕ) → P → Type 0) where
  -- exchanges that led here from where the load began
  abbrev pub Path : P → P → Type 0
  Path a p = (es : List Exchange) × Led exchanged a es p

  pub further : (a p q : P) → Path a p → Path p q → Path a q
  further a p q h k = (h.0 ++ k.0, led_both exchanged a h.0 p k.0 q h.1 k.1)

  pub by_answer : (p : P) (f reply : List ℕ) (q : P) → Answered exchanged p f reply q → Path p q
  by_answer p f reply q h = let few = answered_few exchanged p f reply q h in (few.made, few.led)

  -- what is told of a failure
  abbrev Refusal : P → ℕ → ℕ → P → Type 0
  Refusal a command code q = WasAnswered exchanged a command code q × (code ≢ 0)

  one_refused : (a p : P) → Path a p → (f : List ℕ) (command code : ℕ) (q : P) → Sent exchanged p f (Err (why.Refused command code)) q → Refusal a command code q
  one_refused a p path f command code q h = (
    record { front = path.0; place = p; led = path.1; frame = f; reply = h.reply; answered = h.answered; sent = sym h.command; told = sym h.code },
    λ e. h.refused (sym h.code ∙ e),
  )

  one_silent : (a p : P) → Path a p → (f : List ℕ) (command : ℕ) (q : P) → Sent exchanged p f (Err (why.Silent command)) q → StayedSilent exchanged a command q
  one_silent a p path f command q h = record { front = path.0; place = p; led = path.1; frame = f; silent = h.silent; sent = sym h.command }

  stops_refused : (a p : P) → Path a p → (c : ℕ) (xs : List Command) (command code : ℕ) (q : P) (d : ℕ) → Stops exchanged p c xs (why.Refused command code) q d → Refusal a command code q
  stops_refused a p path c [] command code q d h = absurd h
  stops_refused a p path c (x ∷ xs) command code q d (inl h) = one_refused a p path (frame_of c x) command code q h.0
  stops_refused a p path c (x ∷ xs) command code q d (inr h) =
      stops_refused a h.1 (further a p h.1 path (by_answer p (frame_of c x) h.0 h.1 h.2.answered)) (next c) xs command code q d h.3

  stops_silent : (a p : P) → Path a p → (c : ℕ) (xs : List Command) (command : ℕ) (q : P) (d : ℕ) → Stops exchanged p c xs (why.Silent command) q d → StayedSilent exchanged a command q
  stops_silent a p path c [] command q d h = absurd h
  stops_silent a p path c (x ∷ xs) command q d (inl h) = one_silent a p path (frame_of c x) command q h.0
  stops_silent a p path c (x ∷ xs) command q d (inr h) =
      stops_silent a h.1 (further a p h.1 path (by_answer p (frame_of c x) h.0 h.1 h.2.answered)) (next c) xs command q d h.3

  -- which failure ended what was sent of a plan
  delivers_fails : (t : Target) (p : P) (rs : List SourceRecord) (o : Result Plan Stop) (failure : Failure) (s : ℕ) (q : P) (d : ℕ) → IsPlanned o → Delivers exchanged t p 1 rs o (Err (Sending failure)) s q d
      → (plan : Plan) × Stops exchanged p 1 (load_commands t plan rs) failure q d
  delivers_fails t p rs (Err NoRow) failure s q d n h = absurd (let clash : Err (Sending failure) ≡ Err NoRow = h.0 in grind arith)
  delivers_fails t p rs (Err (Outside line)) failure s q d n h = absurd (let clash : Err (Sending failure) ≡ Err (Outside line) = h.0 in grind arith)
  delivers_fails t p rs (Err (Sending other)) failure s q d n h = absurd n
  delivers_fails t p rs (Ok plan) failure s q d n h = (plan, by h.sent h.done (follows_all exchanged t p 1 rs plan h.sent h.cleared q d h.follows))
    where
      by : (v : Result (Unit {0}) Failure) → Err (Sending failure) ≡ done_by plan v → SentAll exchanged p 1 (load_commands t plan rs) v q d → Stops exchanged p 1 (load_commands t plan rs) failure q d
      by (Ok u) k all = absurd (let clash : Err (Sending failure) ≡ Ok plan = k in grind arith)
      by (Err other) k all =
          let same : other ≡ failure = grind (arith, k) in
          subst (λ z. Stops exchanged p 1 (load_commands t plan rs) z q d) same all

  -- how the connection was ended
  ended_so : (a p : P) → Path a p → (c : ℕ) (acknowledged : Bool) (q : P) → acknowledged ≡ true → Disconnects exchanged p c acknowledged q → WasAnswered exchanged a 0x07 0 q
  ended_so a p path c true q e h = record { front = path.0; place = p; led = path.1; frame = frame_of c (Disconnect 1); reply = h.0; answered = h.1.answered; sent = refl; told = h.1.accepted }
  ended_so a p path c false q e h = absurd (grind arith)

  ends_so : (a p : P) → Path a p → (t : Target) (c : ℕ) (r : Result Plan Stop) (acknowledged : Bool) (q : P) → acknowledged ≡ true → Ends exchanged t p c r acknowledged q → WasAnswered exchanged a 0x07 0 q
  ends_so a p path t c (Ok plan) acknowledged q e h = ended_so a p path c acknowledged q e h
  ends_so a p path t c (Err NoRow) acknowledged q e h = ended_so a p path c acknowledged q e h
  ends_so a p path t c (Err (Outside line)) acknowledged q e h = ended_so a p path c acknowledged q e h
  ends_so a p path t c (Err (Sending (why.Refused command code))) acknowledged q e h = ended_so a p path c acknowledged q e h
  ends_so a p path t c (Err (Sending (why.Silent command))) acknowledged q e h = absurd (let clash : true ≡ false = sym e ∙ h.1 in grind arith)

  -- a Clear that was accepted
  prepared_clear : (a p : P) → Path a p → (s : Space) (c mask : ℕ) (q : P) (d : ℕ) → Delivered exchanged p c (preparing s mask) q d → (m : P) × WasAnswered exchanged a 0x10 0 m
  unfolding preparing
  prepared_clear a p path s c mask q d h =
      let one = further a p h.1 path (by_answer p _ h.0 h.1 h.2.answered) in
      let k = h.3 in
      let two = further a h.1 k.1 one (by_answer h.1 _ k.0 k.1 k.2.answered) in
      let l = k.3 in
      let three = further a k.1 l.1 two (by_answer k.1 _ l.0 l.1 l.2.answered) in
      let m = l.3 in
      (m.1, record { front = three.0; place = l.1; led = three.1; frame = frame_of (next (next (next c))) (Clear mask); reply = m.0; answered = m.2.answered; sent = refl; told = m.2.accepted })

  abbrev Cleared : P → Target → Result Plan Stop → ℕ → Type 0
  Cleared a t r s = ((s ≡ 0) × (outcome_by r ≢ result.Loaded)) ⊎ ((plan : Plan) × (m : P) × (s ≡ sectors_of t plan) × WasAnswered exchanged a 0x10 0 m)

  delivers_cleared : (a p : P) → Path a p → (t : Target) (rs : List SourceRecord) (o r : Result Plan Stop) (s : ℕ) (q : P) (d : ℕ) → Delivers exchanged t p 1 rs o r s q d → Cleared a t r s
  delivers_cleared a p path t rs (Err stop) r s q d h = inl (h.1, λ e. not_loaded stop (sym (ap outcome_by h.0) ∙ e))
  delivers_cleared a p path t rs (Ok plan) r s q d h = by h.cleared h.sectors h.follows
    where
      by : (cleared : Bool) → s ≡ cond cleared (sectors_of t plan) 0 → Follows exchanged t p 1 rs plan h.sent cleared q d → Cleared a t r s
      by false e k = inl (e, λ z. not_loaded (Sending k.0) (sym (ap outcome_by (h.done ∙ ap (done_by plan) k.1)) ∙ z))
      by true e k = let clear = prepared_clear a p path (space_at t) 1 plan.mask k.0 k.1 k.2 in inr (plan, clear.0, e, clear.1)

  pub tells : (t : Target) (exchanges : P → ℕ) (p : P) (rs : List SourceRecord) (told : Report) (q : P) → Loads exchanged t exchanges p rs told q → IsTold exchanged t p told q
  tells t exchanges p rs told q h = by h.runs
    where
      opened : RunsOpened exchanged t p rs h.done told.sectors told.acknowledged q → IsTold exchanged t p told q
      opened k =
          let path : Path p k.opened = by_answer p (frame_of 0 Connect) k.reply k.opened k.connects.answered in
          let o : Result Plan Stop = plan_of t k.reply rs in
          let few = delivers_few exchanged t k.opened 1 rs o h.done told.sectors k.between k.counter (length (load_commands t empty_plan rs)) (count_load t empty_plan rs) k.delivers in
          let planned : IsPlanned o = planned_for t (row_of (two (slice_index k.reply 5) (slice_index k.reply 6))) rs in
          record {
            refused = λ command code e.
                let done : h.done ≡ Err (Sending (why.Refused command code)) = refused_done h.done command code (sym h.outcome ∙ e) in
                let fails = delivers_fails t k.opened rs o (why.Refused command code) told.sectors k.between k.counter planned (subst (λ r. Delivers exchanged t k.opened 1 rs o r told.sectors k.between k.counter) done k.delivers) in
                let refusal = stops_refused p k.opened path 1 (load_commands t fails.0 rs) command code k.between k.counter fails.1 in
                (k.between, refusal.0, refusal.1, inr (k.counter, subst (λ r. Ends exchanged t k.between k.counter r told.acknowledged q) done k.ends));
            silent = λ command e.
                let done : h.done ≡ Err (Sending (why.Silent command)) = silent_done h.done command (sym h.outcome ∙ e) in
                let fails = delivers_fails t k.opened rs o (why.Silent command) told.sectors k.between k.counter planned (subst (λ r. Delivers exchanged t k.opened 1 rs o r told.sectors k.between k.counter) done k.delivers) in
                let stays = stops_silent p k.opened path 1 (load_commands t fails.0 rs) command k.between k.counter fails.1 in
                let end = subst (λ r. Ends exchanged t k.between k.counter r told.acknowledged q) done k.ends in
                subst (λ z. StayedSilent exchanged p command z) (sym end.0) stays;
            sectors = subst (λ z. ((told.sectors ≡ 0) × (z ≢ result.Loaded)) ⊎ ((plan : Plan) × (m : P) × (told.sectors ≡ sectors_of t plan) × WasAnswered exchanged p 0x10 0 m)) (sym h.outcome)
                (delivers_cleared p k.opened path t rs o h.done told.sectors k.between k.counter k.delivers);
            acknowledged = λ e. ends_so p k.between (further p k.opened k.between path (few.made, few.led)) t k.counter h.done told.acknowledged q e k.ends;
          }

      here : Path p p
      here = ([], refl)

      shut : NotOpened exchanged t p h.done told.sectors told.acknowledged q → IsTold exchanged t p told q
      shut k = record {
        refused = λ command code e.
            let done : Err (Sending k.failure) ≡ Err (Sending (why.Refused command code)) = sym k.told ∙ refused_done h.done command code (sym h.outcome ∙ e) in
            let same : k.failure ≡ why.Refused command code = grind arith in
            let refusal = one_refused p p here (frame_of 0 Connect) command code q (subst (λ z. Sent exchanged p (frame_of 0 Connect) (Err z) q) same k.sent) in
            (q, refusal.0, refusal.1, inl refl);
        silent = λ command e.
            let done : Err (Sending k.failure) ≡ Err (Sending (why.Silent command)) = sym k.told ∙ silent_done h.done command (sym h.outcome ∙ e) in
            let same : k.failure ≡ why.Silent command = grind arith in
            one_silent p p here (frame_of 0 Connect) command q (subst (λ z. Sent exchanged p (frame_of 0 Connect) (Err z) q) same k.sent);
        sectors = inl (k.sectors, λ e. not_loaded (Sending k.failure) (sym (h.outcome ∙ ap outcome_by k.told) ∙ e));
        acknowledged = λ e. absurd (let clash : true ≡ false = sym e ∙ k.unacknowledged in grind arith);
      }

      by : Runs exchanged t p rs h.done told.sectors told.acknowledged q → IsTold exchanged t p told q
      by (inl k) = opened k
      by (inr k) = shut k
