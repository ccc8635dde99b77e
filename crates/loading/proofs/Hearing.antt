-- A load reaches the board by frames alone, and one that is refused before it runs changes no memory. Assumes nothing.
use Rattle.std.proofs.Common.{◌≡◌, ℕ, Bool, ◌++◌, List, [], ◌∷◌, Ok, Err, sym, ap, subst, ◌∙◌, inl, inr, refl}
use Rattle.std.specs.Prelude.{Option, Result, ◌⊎◌}
use Rattle.bootloader.specs.Board.{Board, taken}
use Rattle.bootloader.specs.BoardLaws.{BoardLaws, Keeps}
use Rattle.bootloader.specs.BusLog.{BusLog}
use Rattle.bootloader.specs.Events.{Event, board_behind}
use Rattle.bootloader.specs.Laws.{SameMemories}
use Rattle.link.specs.Link.{OneExchange, FrameLost, ReplyLost, Arrives}
use Rattle.loader.specs.declared.target.Target.{Target}
use Rattle.session.specs.SessionLaws.{SessionLaws}
use Rattle.loading.specs.declared.planning.Plan.{Plan}
use Rattle.loading.specs.declared.planning.Stop.{Stop}
use Rattle.loading.specs.declared.planning.Stop.TheVariants.{NoRow, Outside, Sending}
use Rattle.loading.specs.Load.{Exchange, Led, Delivers, Runs, done_by}
use Rattle.loading.specs.Plan.{plan_of}
use Rattle.loading.specs.Promises.{IsHeard, AreAmong, as_events}
use Rattle.loading.specs.Source.{SourceRecord}
use Rattle.loading.proofs.Arriving.{opened_keeps, ends_keep}

module _ {P : Type 0} (exchanged : P → List ℕ → Option (List ℕ) → P → Type 0) (board : P → Board) (lossless : P → Type 0)
    (linked : (p q : P) (f : List ℕ) (r : Option (List ℕ)) → exchanged p f r q → OneExchange (lossless p) (lossless q) (board p) f r (board q)) where
  -- the frames of some exchanges that reached the board
  abbrev Reached : Board → List Exchange → Board → Type 0
  Reached b es c = (frames : List (List ℕ)) × AreAmong frames es × (board_behind b (as_events frames) ≡ c)

  one_more : (b : Board) (e : Exchange) (es : List Exchange) (c d : Board) → c ≡ (taken b e.frame).board → Reached c es d → Reached b (e ∷ es) d
  unfolding board_behind
  one_more b e es c d h k = (e.frame ∷ k.0, inr (k.0, refl, k.1), ap (λ (m : Board). board_behind m (as_events k.0)) (sym h) ∙ k.2)

  none_more : (b : Board) (e : Exchange) (es : List Exchange) (c d : Board) → c ≡ b → Reached c es d → Reached b (e ∷ es) d
  none_more b e es c d h k = (k.0, inl k.1, ap (λ (m : Board). board_behind m (as_events k.0)) (sym h) ∙ k.2)

  led_reaches : (p : P) (es : List Exchange) (q : P) → Led exchanged p es q → Reached (board p) es (board q)
  unfolding board_behind
  led_reaches p [] q h = ([], refl, ap board (sym h))
  led_reaches p (e ∷ es) q h = by (linked p h.0 e.frame e.reply h.1).some (led_reaches h.0 es q h.2)
    where
      by : FrameLost (board p) e.reply (board h.0) ⊎ (ReplyLost (board p) e.frame e.reply (board h.0) ⊎ Arrives (board p) e.frame e.reply (board h.0)) → Reached (board h.0) es (board q) → Reached (board p) (e ∷ es) (board q)
      by (inl k) r = none_more (board p) e es (board h.0) (board q) k.board r
      by (inr (inl k)) r = one_more (board p) e es (board h.0) (board q) k.board r
      by (inr (inr k)) r = one_more (board p) e es (board h.0) (board q) k.board r

  pub heard_by : BoardLaws → ((b : Board) (es : List Event) → BusLog b es) → (p : P) (es : List Exchange) (q : P) → Led exchanged p es q → IsHeard exchanged board p q
  heard_by laws bus p es q h =
      let r = led_reaches p es q h in
      record {
        made = es;
        led = h;
        frames = r.0;
        among = r.1;
        came = r.2;
        log = λ first before fresh came. (laws.joined first before (as_events r.0) ∙ (ap (λ (b : Board). board_behind b (as_events r.0)) came ∙ r.2), bus first (before ++ as_events r.0));
      }

-- before the run
abbrev pub Before : Result Plan Stop → Type 0
Before (Ok plan) = ⊥
Before (Err NoRow) = Unit {0}
Before (Err (Outside line)) = Unit {0}
Before (Err (Sending failure)) = ⊥

module _ (laws : BoardLaws) {P : Type 0} (exchanged : P → List ℕ → Option (List ℕ) → P → Type 0) (exchanges : P → ℕ) (board : P → Board) (lossless : P → Type 0)
    (session : SessionLaws exchanged exchanges board lossless) where
  not_sent : (t : Target) (p : P) (rs : List SourceRecord) (o r : Result Plan Stop) (s : ℕ) (q : P) (d : ℕ) → Before r → Delivers exchanged t p 1 rs o r s q d → q ≡ p
  not_sent t p rs (Err stop) r s q d b h = h.2
  not_sent t p rs (Ok plan) r s q d b h = absurd (by h.sent (subst Before h.done b))
    where
      by : (o : Result (Unit {0}) _) → Before (done_by plan o) → ⊥
      by (Ok u) k = k
      by (Err failure) k = k

  pub untouched : (t : Target) (p : P) (rs : List SourceRecord) (r : Result Plan Stop) (s : ℕ) (a : Bool) (q : P) → Before r → Runs exchanged t p rs r s a q → SameMemories (board q) (board p)
  untouched t p rs r s a q before (inl h) =
      let keep : Keeps (board h.opened) (board p) = opened_keeps laws exchanged exchanges board lossless session p h.reply h.opened h.connects in
      let same : h.between ≡ h.opened = not_sent t h.opened rs (plan_of t h.reply rs) r s h.between h.counter before h.delivers in
      let mid : Keeps (board h.between) (board p) = subst (λ (k : P). Keeps (board k) (board p)) (sym same) keep in
      let last : Keeps (board q) (board h.between) = ends_keep laws exchanged exchanges board lossless session t h.between h.counter r a q h.ends in
      record { flash = last.memories.flash ∙ mid.memories.flash; boot = last.memories.boot ∙ mid.memories.boot; eeprom = last.memories.eeprom ∙ mid.memories.eeprom }
  untouched t p rs r s a q before (inr h) = absurd (subst Before h.told before)
