-- What is told of a load over a link is what happened. Assumes nothing.
use Rattle.std.proofs.Common.{◌≡◌, ℕ, ◌^◌, ◌<◌, List, Some, Ok, Err, refl, sym, ap, subst, ◌∙◌, inl, inr, arith}
use Rattle.std.specs.Prelude.{Option, None, Result, slice_index}
use Rattle.bootloader.specs.declared.command.Command.TheVariants.{Connect}
use Rattle.bootloader.specs.Frames.{frame_of, two, high, low}
use Rattle.bootloader.specs.Board.{Board, reply_with, identity}
use Rattle.bootloader.specs.BoardLaws.{BoardLaws, Connects, code_of}
use Rattle.bootloader.specs.Reach.{IsSound}
use Rattle.geometry.specs.declared.rows.Row.{Row}
use Rattle.geometry.specs.Rows.{row_of}
use Rattle.loader.specs.declared.target.Target.{Target}
use Rattle.session.specs.declared.failure.Failure.{Failure}
use Rattle.session.specs.declared.failure.Failure.TheVariants as why
use Rattle.session.specs.Session.{Sent}
use Rattle.session.specs.SessionLaws.{SessionLaws}
use Rattle.loading.specs.declared.planning.Plan.{Plan}
use Rattle.loading.specs.declared.planning.Stop.{Stop}
use Rattle.loading.specs.declared.planning.Stop.TheVariants.{NoRow, Outside, Sending}
use Rattle.loading.specs.declared.report.Outcome.TheVariants as result
use Rattle.loading.specs.declared.report.Report.{Report}
use Rattle.loading.specs.Load.{done_by, Delivers, RunsOpened, NotOpened, Runs, Loads}
use Rattle.loading.specs.Plan.{plan_for, plan_from, plan_of, empty_plan, StopsAt}
use Rattle.loading.specs.Promises.{Tells, IsReported}
use Rattle.loading.specs.Report.{outcome_by}
use Rattle.loading.specs.Source.{SourceRecord}
use Rattle.loading.proofs.Arriving.{opens}
use Rattle.loading.proofs.Planned.{plan_stopped}
use Rattle.loading.proofs.Stopping.{stopped_at}

-- the part ID in the reply to Connect
told_plan : (t : Target) (rs : List SourceRecord) (b : Board) (reply : List ℕ) → b.setup.part_id < 2 ^ 16 → reply ≡ reply_with 0 (Ok (identity b.setup))
    → plan_of t reply rs ≡ plan_for t (row_of b.setup.part_id) rs
told_plan t rs b reply small e =
    let id : ℕ = b.setup.part_id in
    let same : two (high id) (low id) ≡ id = omega (arith, small) in
    ap (λ xs. plan_for t (row_of (two (slice_index xs 5) (slice_index xs 6))) rs) e ∙ ap (λ n. plan_for t (row_of n) rs) same

-- the line that is told
outside_line : (t : Target) (o : Option Row) (rs : List SourceRecord) (told : Report) (line : ℕ) → told.outcome ≡ result.Outside line → Tells (plan_for t o rs) told
    → (r : Row) × (o ≡ Some r) × StopsAt t r rs (Outside line)
outside_line t None rs told line e h = absurd (let clash : result.Outside line ≡ outcome_by (Err NoRow) = sym e ∙ h in grind arith)
outside_line t (Some r) rs told line e h = by (plan_from t r empty_plan rs) refl h
  where
    same : (stop : Stop) → StopsAt t r rs stop → told.outcome ≡ outcome_by (Err stop) → StopsAt t r rs (Outside line)
    same stop s k =
        let at = stopped_at t r rs stop s in
        let lines : result.Outside line ≡ result.Outside at.0 = sym e ∙ (k ∙ ap (λ (z : Stop). outcome_by (Err z)) at.1) in
        let equal : at.0 ≡ line = grind arith in
        subst (λ (z : Stop). StopsAt t r rs z) (at.1 ∙ ap (λ n. Outside n) equal) s

    by : (x : Result Plan Stop) → plan_from t r empty_plan rs ≡ x → Tells x told → (q : Row) × (Some r ≡ Some q) × StopsAt t q rs (Outside line)
    by (Err stop) p k = (r, refl, same stop (plan_stopped t r empty_plan rs stop p) k)
    by (Ok plan) p (inl k) = absurd (let clash : result.Outside line ≡ result.Loaded = sym e ∙ k in grind arith)
    by (Ok plan) p (inr (why.Refused x y, k)) = absurd (let clash : result.Outside line ≡ result.Refused x y = sym e ∙ k in grind arith)
    by (Ok plan) p (inr (why.Silent x, k)) = absurd (let clash : result.Outside line ≡ result.Silent x = sym e ∙ k in grind arith)

module _ (laws : BoardLaws) {P : Type 0} (exchanged : P → List ℕ → Option (List ℕ) → P → Type 0) (exchanges : P → ℕ) (board : P → Board) (lossless : P → Type 0)
    (session : SessionLaws exchanged exchanges board lossless) where
  -- what came of a load where there is a plan, or none
  delivers_tells : (t : Target) (p : P) (rs : List SourceRecord) (o r : Result Plan Stop) (s : ℕ) (q : P) (d : ℕ) (told : Report) → told.outcome ≡ outcome_by r → Delivers exchanged t p 1 rs o r s q d → Tells o told
  delivers_tells t p rs (Err stop) r s q d told e h = e ∙ ap outcome_by h.0
  delivers_tells t p rs (Ok plan) r s q d told e h = by h.sent (e ∙ ap outcome_by h.done)
    where
      by : (v : Result (Unit {0}) Failure) → told.outcome ≡ outcome_by (done_by plan v) → Tells (Ok plan) told
      by (Ok u) k = inl k
      by (Err failure) k = inr (failure, k)

  -- Connect is never refused by a reached board
  connect_silent : (p : P) (failure : Failure) (q : P) → IsSound (board p) → Sent exchanged p (frame_of 0 Connect) (Err failure) q → outcome_by (Err (Sending failure)) ≡ result.Silent 0x01
  connect_silent p (why.Silent command) q s h = ap (λ n. outcome_by (Err (Sending (why.Silent n)))) h.command
  connect_silent p (why.Refused command code) q s h =
      let con = laws.connects (board p) 0 h.reply (board q) s.connected (session.answered p 0 Connect h.reply q h.answered) in
      absurd (h.refused (ap code_of con.tells))

  pub reports : (t : Target) (p : P) (rs : List SourceRecord) (told : Report) (q : P) → IsSound (board p) → (board p).setup.part_id < 2 ^ 16 → Loads exchanged t exchanges p rs told q → IsReported rs t told (board p)
  reports t p rs told q s small h = by h.runs
    where
      opened : RunsOpened exchanged t p rs h.done told.sectors told.acknowledged q → IsReported rs t told (board p)
      opened k =
          let con : Connects (board p) 0 k.reply (board k.opened) = opens laws exchanged exchanges board lossless session p k.reply k.opened k.connects s.connected in
          let tells : Tells (plan_for t (row_of (board p).setup.part_id) rs) told =
          delivers_tells t k.opened rs (plan_for t (row_of (board p).setup.part_id) rs) h.done told.sectors k.between k.counter told h.outcome
          (subst (λ z. Delivers exchanged t k.opened 1 rs z h.done told.sectors k.between k.counter) (told_plan t rs (board p) k.reply small con.tells) k.delivers) in
          record { outcome = inr tells; outside = λ line e. outside_line t (row_of (board p).setup.part_id) rs told line e tells }

      shut : NotOpened exchanged t p h.done told.sectors told.acknowledged q → IsReported rs t told (board p)
      shut k =
          let silent : told.outcome ≡ result.Silent 0x01 = h.outcome ∙ (ap outcome_by k.told ∙ connect_silent p k.failure q s k.sent) in
          record { outcome = inl silent; outside = λ line e. absurd (let clash : result.Silent 0x01 ≡ result.Outside line = sym silent ∙ e in grind arith) }

      by : Runs exchanged t p rs h.done told.sectors told.acknowledged q → IsReported rs t told (board p)
      by (inl k) = opened k
      by (inr k) = shut k
