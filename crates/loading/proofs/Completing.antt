-- On a lossless link records that fit are loaded, with the frames that they need. Assumes nothing.
use Rattle.std.proofs.Common.{◌≡◌, ℕ, Bool, true, false, cond, ◌&&◌, ◌+◌, List, length, Some, Ok, Err, refl, sym, ap, subst, ◌∙◌, inl, inr, arith}
use Rattle.std.specs.Prelude.{Option, None, Result, ◌==◌, slice_index, is_some, not}
use Rattle.std.specs.List.{AllByRecursion}
use Rattle.std.proofs.lemmas.Bool.Decides.{nat_tests}
use Rattle.memory.specs.Seal.{seal_of}
use Rattle.loader.specs.declared.target.Target.{Target}
use Rattle.loader.specs.declared.target.Target.TheVariants as target
use Rattle.bootloader.specs.declared.command.Command.{Command}
use Rattle.bootloader.specs.declared.command.Command.TheVariants.{Connect, SetMta, Unlock, Clear, Download, DownloadSix, BuildChecksum, Disconnect}
use Rattle.bootloader.specs.Frames.{command_of, frame_of, two}
use Rattle.bootloader.specs.Memories.{Memory, seal_puts}
use Rattle.bootloader.specs.Board.{Board, is_running, taken, admitted, answered, answered_from, judged, reply_to, stored_reply, served}
use Rattle.bootloader.specs.BoardLaws.{BoardLaws, Connects, Keeps, code_of}
use Rattle.bootloader.specs.Reach.{IsSound}
use Rattle.geometry.specs.Rows.{row_of}
use Rattle.session.specs.declared.failure.Failure.{Failure}
use Rattle.session.specs.declared.failure.Failure.TheVariants as why
use Rattle.session.specs.Session.{Sent, SentAll}
use Rattle.session.specs.Laws.{Rises}
use Rattle.session.specs.Counting.{rises_more}
use Rattle.session.specs.SessionLaws.{SessionLaws}
use Rattle.loading.specs.declared.planning.Plan.{Plan}
use Rattle.loading.specs.declared.planning.Stop.{Stop}
use Rattle.loading.proofs.Chunks.{Chunk, chunks_of}
use Rattle.loading.proofs.Filled.{filling}
use Rattle.loading.specs.Load.{load_commands, done_by, Sends, Delivers, Ends, RunsOpened, Runs}
use Rattle.loading.specs.Loaded.{IsListed, HoldsImage, LiesIn, CanSeal, frames_of, memory_at}
use Rattle.loading.specs.Plan.{plan_for, empty_plan, width_at}
use Rattle.loading.specs.Prepared.{space_at, preparing}
use Rattle.loading.specs.Source.{SourceRecord, AreLoadable}
use Rattle.loading.proofs.Suited.{mask_at, Suited}
use Rattle.loading.proofs.Arriving.{opens, opened_keeps, suited_after, list_same, first_new}
use Rattle.loading.proofs.Boarding.{mask_small, loads_board}
use Rattle.loading.proofs.Commands.{said_filling, inner_filling, records_sent}
use Rattle.loading.proofs.Counting.{count_filling}
use Rattle.loading.proofs.Leading.{follows_all}
use Rattle.loading.proofs.Planned.{Lies, plan_says, plan_there, there_lies, told_row}

-- no command is Action Service
plain_frame : (c : ℕ) (x : Command) → (slice_index (frame_of c x) 0 == 0x21) ≡ false
plain_frame c Connect = refl
plain_frame c (SetMta number extension address) = refl
plain_frame c (Unlock size password) = refl
plain_frame c (Clear mask) = refl
plain_frame c (Download size bytes) = refl
plain_frame c (DownloadSix bytes) = refl
plain_frame c (BuildChecksum size crc) = refl
plain_frame c (Disconnect kind) = refl

-- a board that does not run answers each frame of a command
module _ (b : Board) (c : ℕ) (x : Command) (awake : is_running b.session.state ≡ false) (long : length (frame_of c x) ≡ 8) where
  answers_it : taken b (frame_of c x) ≡ answered b (frame_of c x)
  answers_it =
      let f : List ℕ = frame_of c x in
      let through : (length f == 8 && not (is_running b.session.state)) ≡ true = grind (arith, nat_tests, long) in
      ap (λ t. cond t (admitted b f) (record { board = b; reply = None })) through
      ∙ ap (λ t. cond t (record { board = record b { session = served b.session f }; reply = None }) (answered b f)) (plain_frame c x)

  some_reply : (reply : List ℕ) × ((taken b (frame_of c x)).reply ≡ Some reply)
  some_reply = by (stored_reply b.session.stored (frame_of c x)) refl
    where
      by : (s : Option (List ℕ)) → stored_reply b.session.stored (frame_of c x) ≡ s → (reply : List ℕ) × ((taken b (frame_of c x)).reply ≡ Some reply)
      by None q = (reply_to (frame_of c x) (judged b (command_of (frame_of c x))), ap (λ u. u.reply) answers_it ∙ ap (λ s. (answered_from b (frame_of c x) s).reply) q)
      by (Some reply) q = (reply, ap (λ u. u.reply) answers_it ∙ ap (λ s. (answered_from b (frame_of c x) s).reply) q)

any_mask : (t : Target) (mask : ℕ) (xs : List Chunk) → length (filling (space_at t) mask xs) ≡ length (filling (space_at t) 0 xs)
unfolding preparing
any_mask t mask xs = refl

-- a seal that can be put on a board can be put on one with the same memories
seal_same : (rs : List SourceRecord) (t : Target) (d b : Board) → Keeps d b → CanSeal rs t b → CanSeal rs t d
seal_same rs target.Flash d b k h = λ contents i.
    let there : HoldsImage rs target.Flash b.flash contents = subst (λ (m : Memory). HoldsImage rs target.Flash m contents) k.memories.flash i in
    (λ j. is_some (seal_puts (seal_of (k.memories.flash j).width contents) (k.memories.boot j).shape (k.memories.boot j).contents)) ∙ h contents there
seal_same rs (target.Boot n) d b k h = tt
seal_same rs (target.Data n) d b k h = tt

module _ (laws : BoardLaws) {P : Type 0} (exchanged : P → List ℕ → Option (List ℕ) → P → Type 0) (exchanges : P → ℕ) (board : P → Board) (lossless : P → Type 0)
    (session : SessionLaws exchanged exchanges board lossless) where
  -- a frame that is answered takes one exchange
  one_frame : (p : P) (c : ℕ) (x : Command) (r : Result (List ℕ) Failure) (q : P) → lossless p → is_running (board p).session.state ≡ false → length (frame_of c x) ≡ 8
      → Sent exchanged p (frame_of c x) r q → Rises (exchanges p) 1 (exchanges q)
  one_frame p c x r q l awake long h = by (some_reply (board p) c x awake long) r h
    where
      by : (reply : List ℕ) × ((taken (board p) (frame_of c x)).reply ≡ Some reply) → (r : Result (List ℕ) Failure) → Sent exchanged p (frame_of c x) r q → Rises (exchanges p) 1 (exchanges q)
      by (reply, told) (Ok other) h = (session.at_once p (frame_of c x) reply other q l told h.answered).rise
      by (reply, told) (Err (why.Refused command code)) h = (session.at_once p (frame_of c x) reply h.reply q l told h.answered).rise
      by (reply, told) (Err (why.Silent command)) h = absurd (session.never_silent p (frame_of c x) reply 2 q l told h.silent)

  -- how it came out: loaded, and with how many exchanges
  pub record Completes (rs : List SourceRecord) (r : Result Plan Stop) (p q : P) : Type 0 where
    pub plan : Plan
    pub done : r ≡ Ok plan
    pub rise : Rises (exchanges p) (frames_of rs) (exchanges q)

  -- what was sent by a plan went well
  record Through (rs : List SourceRecord) (t : Target) (r : Result Plan Stop) (p q : P) : Type 0 where
    plan : Plan
    done : r ≡ Ok plan
    rise : Rises (exchanges p) (length (filling (space_at t) 0 (chunks_of rs))) (exchanges q)
    awake : is_running (board q).session.state ≡ false
    still : lossless q

  -- where a list goes well, whatever comes of it
  WellFor : P → List Command → P → ℕ → Type 0
  WellFor p xs q d = (v : Result (Unit {0}) Failure) → SentAll exchanged p 1 xs v q d → (v ≡ Ok tt) × Rises (exchanges p) (length xs) (exchanges q) × (is_running (board q).session.state ≡ false) × lossless q

  through : (rs : List SourceRecord) (t : Target) (plan : Plan) (r : Result Plan Stop) (s : ℕ) (p q : P) (d : ℕ) → length (load_commands t plan rs) ≡ length (filling (space_at t) 0 (chunks_of rs))
      → WellFor p (load_commands t plan rs) q d → Sends exchanged t p 1 rs plan r s q d → Through rs t r p q
  unfolding WellFor
  through rs t plan r s p q d same well h =
      let w = well h.sent (follows_all exchanged t p 1 rs plan h.sent h.cleared q d h.follows) in
      record { plan = plan; done = h.done ∙ ap (done_by plan) w.0; rise = subst (λ n. Rises (exchanges p) n (exchanges q)) same w.1; awake = w.2; still = w.3 }

  ended_once : (t : Target) (p : P) (c : ℕ) (plan : Plan) (a : Bool) (q : P) → lossless p → is_running (board p).session.state ≡ false → Ends exchanged t p c (Ok plan) a q → Rises (exchanges p) 1 (exchanges q)
  ended_once t p c plan true q l awake h = one_frame p c (Disconnect 1) (Ok h.0) q l awake refl h.1
  ended_once t p c plan false q l awake h = one_frame p c (Disconnect 1) (Err h.0) q l awake refl h.1

  -- the load after Connect
  opened_completes : (t : Target) (rs : List SourceRecord) (r : Result Plan Stop) (s : ℕ) (a : Bool) (p q : P) → lossless p → RunsOpened exchanged t p rs r s a q
      → IsListed t (board p) → IsSound (board p) → is_running (board p).session.state ≡ false → AreLoadable (width_at t) rs → LiesIn rs (memory_at t (board p)) → CanSeal rs t (board p)
      → Completes rs r p q
  unfolding WellFor
  opened_completes t rs r sectors a p q l h listed s awake u lies seal =
      let b : Board = board p in
      let d : Board = board h.opened in
      let xs : List Chunk = chunks_of rs in
      let told_reply = some_reply b 0 Connect awake refl in
      let once = session.at_once p (frame_of 0 Connect) told_reply.0 h.reply h.opened l told_reply.1 h.connects.answered in
      let keep : Keeps d b = opened_keeps laws exchanged exchanges board lossless session p h.reply h.opened h.connects in
      let con : Connects b 0 h.reply d = opens laws exchanged exchanges board lossless session p h.reply h.opened h.connects s.connected in
      let lie : AllByRecursion (Lies t listed.row) xs = there_lies rs t b listed lies in
      let plan = plan_there t listed.row empty_plan rs lie in
      let planned : plan_for t (row_of (two (slice_index h.reply 5) (slice_index h.reply 6))) rs ≡ Ok plan.0 = ap (λ o. plan_for t o rs) (told_row b listed.row listed.listed h.reply con.tells) ∙ plan.1 in
      let sends : Sends exchanged t h.opened 1 rs plan.0 r sectors h.between h.counter = subst (λ o. Delivers exchanged t h.opened 1 rs o r sectors h.between h.counter) planned h.delivers in
      let says = plan_says t listed.row empty_plan rs plan.0 plan.1 in
      let suited : Suited rs t d = suited_after rs t d b 0 h.reply keep listed s u lies con in
      let mask : ℕ = mask_at t listed.row xs in
      let list : load_commands t plan.0 rs ≡ filling (space_at t) mask xs = list_same t listed.row rs plan.0 says in
      let v = loads_board rs t d 1 suited (seal_same rs t d b keep seal) in
      let well : WellFor h.opened (load_commands t plan.0 rs) h.between h.counter =
      subst (λ ys. WellFor h.opened ys h.between h.counter) (sym list) (λ r' k.
      let w = session.well h.opened d 1 (filling (space_at t) mask xs) v.after r' h.between h.counter refl once.kept con.state (omega arith)
      (inner_filling (space_at t) mask xs) (said_filling laws.said (space_at t) mask xs (mask_small rs t d suited) (records_sent rs u.lawful)) (first_new b h.reply d t mask xs con) v.carried k in
      (w.done, w.rise, ap (λ k. is_running k.session.state) w.carried ∙ (ap is_running v.state ∙ ap is_running con.state), w.still)) in
      let same : length (load_commands t plan.0 rs) ≡ length (filling (space_at t) 0 xs) = ap length list ∙ any_mask t mask xs in
      let th = through rs t plan.0 r sectors h.opened h.between h.counter same well sends in
      let last : Rises (exchanges h.between) 1 (exchanges q) =
      ended_once t h.between h.counter th.plan a q th.still th.awake (subst (λ o. Ends exchanged t h.between h.counter o a q) th.done h.ends) in
      let n : ℕ = length (filling (space_at t) 0 xs) in
      let all : Rises (exchanges p) (1 + n + 1) (exchanges q) =
      rises_more (exchanges p) (1 + n) (exchanges h.between) 1 (exchanges q) (rises_more (exchanges p) 1 (exchanges h.opened) n (exchanges h.between) once.rise th.rise) last in
      let total : 1 + n + 1 ≡ frames_of rs = omega (arith, count_filling (space_at t) 0 rs) in
      record { plan = th.plan; done = th.done; rise = subst (λ k. Rises (exchanges p) k (exchanges q)) total all }

  pub completes : (t : Target) (rs : List SourceRecord) (r : Result Plan Stop) (s : ℕ) (a : Bool) (p q : P) → lossless p → Runs exchanged t p rs r s a q
      → IsListed t (board p) → IsSound (board p) → is_running (board p).session.state ≡ false → AreLoadable (width_at t) rs → LiesIn rs (memory_at t (board p)) → CanSeal rs t (board p)
      → Completes rs r p q
  completes t rs r sectors a p q l (inl h) listed s awake u lies seal = opened_completes t rs r sectors a p q l h listed s awake u lies seal
  completes t rs r sectors a p q l (inr h) listed s awake u lies seal =
      let b : Board = board p in
      let told_reply = some_reply b 0 Connect awake refl in
      let con = laws.connects b 0 told_reply.0 (taken b (frame_of 0 Connect)).board s.connected (record { after = refl; answer = told_reply.1 }) in
      absurd (session.never_fails p (frame_of 0 Connect) told_reply.0 h.failure q l told_reply.1 (ap code_of con.tells) h.sent)
