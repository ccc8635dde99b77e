-- After a load that came to its good end the image is in the board, whatever was lost. Assumes nothing.
use Rattle.std.proofs.Common.{◌≡◌, ℕ, Bool, true, false, ◌⊎◌, List, [], ◌∷◌, ◌++◌, Ok, Err, refl, sym, ap, subst, ◌∙◌, inl, inr, arith}
use Rattle.std.specs.Prelude.{Option, Result}
use Rattle.memory.specs.Seal.{seal_valid}
use Rattle.loader.specs.declared.target.Target.{Target}
use Rattle.loader.specs.declared.target.Target.TheVariants as target
use Rattle.bootloader.specs.declared.command.Command.TheVariants.{Connect, SetMta, BuildChecksum, Disconnect}
use Rattle.bootloader.specs.declared.space.Space.TheVariants.{Flash, Boot, Data}
use Rattle.bootloader.specs.Frames.{frame_of, extension_of}
use Rattle.bootloader.specs.Memories.{Memory}
use Rattle.bootloader.specs.Board.{Board, stored_reply, taken}
use Rattle.bootloader.specs.BoardLaws.{BoardLaws, Connects, Keeps}
use Rattle.bootloader.specs.Laws.{FreshAfterConnect}
use Rattle.bootloader.specs.Reach.{IsLawful, IsSound}
use Rattle.geometry.specs.declared.rows.Row.{Row}
use Rattle.geometry.specs.Rows.{row_of}
use Rattle.session.specs.declared.failure.Failure.{Failure}
use Rattle.session.specs.declared.failure.Failure.TheVariants as why
use Rattle.session.specs.Session.{Answered, Accepts, Sent, SentAll, Delivered, Disconnects}
use Rattle.session.specs.Laws.{Carries, FirstIsNew}
use Rattle.session.specs.SessionLaws.{SessionLaws}
use Rattle.loading.specs.declared.planning.Plan.{Plan}
use Rattle.loading.specs.declared.planning.Stop.{Stop}
use Rattle.loading.specs.declared.planning.Stop.TheVariants.{NoRow, Outside, Sending}
use Rattle.loading.proofs.Chunks.{Chunk, chunks_of}
use Rattle.loading.proofs.Filled.{filling}
use Rattle.loading.specs.Load.{load_commands, done_by, Delivers, Ends, RunsOpened, Runs}
use Rattle.loading.specs.Loaded.{IsMadeTo, IsEeprom, IsListed, HasSize, HoldsImage, SameButSeal, OthersKept, Loaded, LiesIn, memory_at}
use Rattle.loading.specs.Plan.{plan_for, plan_from, empty_plan, width_at}
use Rattle.loading.specs.Prepared.{space_at, preparing}
use Rattle.loading.specs.Source.{SourceRecord, AreLoadable}
use Rattle.loading.proofs.Suited.{mask_at, Suited}
use Rattle.loading.proofs.Boarding.{flash_mask, flash_by, flash_can, masked, mask_same, mask_small, boot_by, data_by}
use Rattle.loading.proofs.Carrying.{carries_same}
use Rattle.loading.proofs.Commands.{said_filling, records_sent}
use Rattle.loading.proofs.Filling.{seal_was}
use Rattle.loading.proofs.Leading.{follows_all}
use Rattle.loading.proofs.Looping.{chunk_commands}
use Rattle.loading.proofs.Planned.{Says, plan_says, masks_all, lies_there, width_same, told_row}

-- a board is made alike, and has the same memories, as itself
pub kept : (b : Board) → Keeps b b
kept b = record { setup = refl; memories = record { flash = refl; boot = refl; eeprom = refl } }

-- a board with the memories of a listed one
pub memory_same : (t : Target) (d b : Board) → Keeps d b → memory_at t d ≡ memory_at t b
memory_same target.Flash d b k = k.memories.flash
memory_same (target.Boot n) d b k = k.memories.boot
memory_same (target.Data n) d b k = k.memories.eeprom

abbrev pub listed_same : (t : Target) (d b : Board) → Keeps d b → IsListed t b → IsListed t d
listed_same t d b k l = record {
  row = l.row;
  listed = ap (λ s. row_of s.part_id) k.setup ∙ l.listed;
  flash = subst (λ (m : Memory). IsMadeTo l.row m) (sym k.memories.flash) l.flash;
  boot = subst (λ (m : Memory). IsEeprom m) (sym k.memories.boot) l.boot;
  eeprom = subst (λ (m : Memory). IsEeprom m) (sym k.memories.eeprom) l.eeprom;
  size = subst (λ (m : Memory). HasSize t m) (sym (memory_same t d b k)) l.size;
}

pub lawful_at : (t : Target) (b : Board) → IsSound b → IsLawful (memory_at t b)
lawful_at target.Flash b s = s.flash
lawful_at (target.Boot n) b s = s.boot
lawful_at (target.Data n) b s = s.eeprom

-- a board as Connect left it can be filled with records that fit the board before
abbrev pub suited_after : (rs : List SourceRecord) (t : Target) (d b : Board) (c : ℕ) (reply : List ℕ) → Keeps d b → (l : IsListed t b) → IsSound b → AreLoadable (width_at t) rs → LiesIn rs (memory_at t b) → Connects b c reply d → Suited rs t d
suited_after rs t d b c reply k l s u lies con =
    let same : memory_at t d ≡ memory_at t b = memory_same t d b k in
    let lawful : IsLawful (memory_at t d) = subst (λ (m : Memory). IsLawful m) (sym same) (lawful_at t b s) in
    record {
      connected = con.state;
      listed = listed_same t d b k l;
      loadable = subst (λ w. AreLoadable w rs) (sym (ap (λ m. m.width) same ∙ width_same t b l)) u;
      lies = subst (λ (m : Memory). LiesIn rs m) (sym same) lies;
      shape = lawful.shape;
      bytes = lawful.small;
    }

-- what is sent by a plan
pub list_same : (t : Target) (r : Row) (rs : List SourceRecord) (plan : Plan) → Says t r empty_plan (chunks_of rs) plan
    → load_commands t plan rs ≡ filling (space_at t) (mask_at t r (chunks_of rs)) (chunks_of rs)
list_same t r rs plan says =
    let mask : plan.mask ≡ mask_at t r (chunks_of rs) = says.mask ∙ masks_all t r (chunks_of rs) in
    (λ i. preparing (space_at t) (mask i) ++ (chunk_commands (extension_of (space_at t)) rs i ++ BuildChecksum 0 (says.crc i) ∷ []))

-- the first command after Connect is new
pub first_new : (b : Board) (reply : List ℕ) (d : Board) (t : Target) (mask : ℕ) (xs : List Chunk) → Connects b 0 reply d → FirstIsNew d 1 (filling (space_at t) mask xs)
unfolding preparing
first_new b reply d t mask xs con = ap (λ k. stored_reply k (frame_of 1 (SetMta 0 1 0))) con.stored

-- what was carried out is what fills the board
pub filled_so : (rs : List SourceRecord) (t : Target) (d m : Board) (s : Suited rs t d) → Carries d 1 (filling (space_at t) (mask_at t s.listed.row (chunks_of rs)) (chunks_of rs)) m
    → HoldsImage rs t (memory_at t d) (memory_at t m).contents × OthersKept t d m
filled_so rs target.Flash d m s carried =
    let xs : List Chunk = chunks_of rs in
    let mine : Carries d 1 (filling Flash (flash_mask rs d s) xs) m = subst (λ k. Carries d 1 (filling Flash k xs) m) (sym (mask_same rs d s)) carried in
    let v = flash_by rs d s 1 (seal_was d 1 (flash_mask rs d s) xs m s.connected (masked rs d s) (flash_can rs d s) mine) in
    let same : v.after ≡ m = carries_same d 1 (filling Flash (flash_mask rs d s) xs) v.after m v.carried mine in
    subst (λ (k : Board). HoldsImage rs target.Flash d.flash k.flash.contents × OthersKept target.Flash d k) same (v.holds, v.others)
filled_so rs (target.Boot n) d m s carried =
    let v = boot_by rs n d s 1 in
    let same : v.after ≡ m = carries_same d 1 (filling Boot 0 (chunks_of rs)) v.after m v.carried carried in
    subst (λ (k : Board). HoldsImage rs (target.Boot n) d.boot k.boot.contents × OthersKept (target.Boot n) d k) same (v.holds, v.others)
filled_so rs (target.Data n) d m s carried =
    let v = data_by rs n d s 1 in
    let same : v.after ≡ m = carries_same d 1 (filling Data 0 (chunks_of rs)) v.after m v.carried carried in
    subst (λ (k : Board). HoldsImage rs (target.Data n) d.eeprom k.eeprom.contents × OthersKept (target.Data n) d k) same (v.holds, v.others)

-- boards with the memories of others
others_same : (t : Target) (b d m q : Board) → Keeps d b → Keeps q m → OthersKept t d m → OthersKept t b q
others_same target.Flash b d m q k j h = (
  j.memories.eeprom ∙ (h.0 ∙ k.memories.eeprom),
  subst (λ (x : Memory). SameButSeal x.contents q.boot.contents) k.memories.boot (subst (λ (x : Memory). SameButSeal d.boot.contents x.contents) (sym j.memories.boot) h.1),
  (λ i. seal_valid (j.memories.flash i).width (j.memories.flash i).contents (j.memories.boot i).contents) ∙ h.2,
)
others_same (target.Boot n) b d m q k j h = (j.memories.flash ∙ (h.0 ∙ k.memories.flash), j.memories.eeprom ∙ (h.1 ∙ k.memories.eeprom))
others_same (target.Data n) b d m q k j h = (j.memories.flash ∙ (h.0 ∙ k.memories.flash), j.memories.boot ∙ (h.1 ∙ k.memories.boot))

module _ (laws : BoardLaws) {P : Type 0} (exchanged : P → List ℕ → Option (List ℕ) → P → Type 0) (exchanges : P → ℕ) (board : P → Board) (lossless : P → Type 0)
    (session : SessionLaws exchanged exchanges board lossless) where
  -- however Disconnect fares, no memory changes
  ended : (p : P) (c : ℕ) (r : Result (List ℕ) Failure) (q : P) → Sent exchanged p (frame_of c (Disconnect 1)) r q → Keeps (board q) (board p)
  ended p c r q h = by r h
    where
      once : (reply : List ℕ) → Answered exchanged p (frame_of c (Disconnect 1)) reply q → Keeps (board q) (board p)
      once reply a = subst (λ (k : Board). Keeps k (board p)) (sym (session.answered p c (Disconnect 1) reply q a).after) (laws.disconnect_keeps (board p) c)

      lost : (board q ≡ board p) ⊎ (board q ≡ (taken (board p) (frame_of c (Disconnect 1))).board) → Keeps (board q) (board p)
      lost (inl e) = subst (λ (k : Board). Keeps k (board p)) (sym e) (kept (board p))
      lost (inr e) = subst (λ (k : Board). Keeps k (board p)) (sym e) (laws.disconnect_keeps (board p) c)

      by : (r : Result (List ℕ) Failure) → Sent exchanged p (frame_of c (Disconnect 1)) r q → Keeps (board q) (board p)
      by (Ok reply) h = once reply h.answered
      by (Err (why.Refused command code)) h = once h.reply h.answered
      by (Err (why.Silent command)) h = lost (session.silent p c (Disconnect 1) 3 q h.silent)

  disconnected : (p : P) (c : ℕ) (a : Bool) (q : P) → Disconnects exchanged p c a q → Keeps (board q) (board p)
  disconnected p c true q h = ended p c (Ok h.0) q h.1
  disconnected p c false q h = ended p c (Err h.0) q h.1

  -- however a connection is ended
  pub ends_keep : (t : Target) (p : P) (c : ℕ) (r : Result Plan Stop) (a : Bool) (q : P) → Ends exchanged t p c r a q → Keeps (board q) (board p)
  ends_keep t p c (Ok plan) a q h = disconnected p c a q h
  ends_keep t p c (Err NoRow) a q h = disconnected p c a q h
  ends_keep t p c (Err (Outside line)) a q h = disconnected p c a q h
  ends_keep t p c (Err (Sending (why.Refused command code))) a q h = disconnected p c a q h
  ends_keep t p c (Err (Sending (why.Silent command))) a q h = subst (λ (k : P). Keeps (board k) (board p)) (sym h.0) (kept (board p))

  -- a board after a Connect that was answered
  pub opens : (p : P) (reply : List ℕ) (q : P) → Accepts exchanged p (frame_of 0 Connect) reply q → FreshAfterConnect (board p) → Connects (board p) 0 reply (board q)
  opens p reply q h fresh = laws.connects (board p) 0 reply (board q) fresh (session.answered p 0 Connect reply q h.answered)

  pub opened_keeps : (p : P) (reply : List ℕ) (q : P) → Accepts exchanged p (frame_of 0 Connect) reply q → Keeps (board q) (board p)
  opened_keeps p reply q h = subst (λ (k : Board). Keeps k (board p)) (sym (session.answered p 0 Connect reply q h.answered).after) (laws.connect_keeps (board p) 0)

  -- what a load with a good end has sent
  record Went (t : Target) (r : Row) (rs : List SourceRecord) (p : P) (q : P) (d : ℕ) : Type 0 where
    plan : Plan
    planned : plan_from t r empty_plan rs ≡ Ok plan
    delivered : Delivered exchanged p 1 (load_commands t plan rs) q d

  went : (t : Target) (r : Row) (rs : List SourceRecord) (done : Plan) (s : ℕ) (p q : P) (d : ℕ) (o : Result Plan Stop) → plan_from t r empty_plan rs ≡ o → Delivers exchanged t p 1 rs o (Ok done) s q d → Went t r rs p q d
  went t r rs done s p q d (Err stop) e h = absurd (let clash : Ok done ≡ Err stop = h.0 in grind arith)
  went t r rs done s p q d (Ok plan) e h = by h.sent refl (follows_all exchanged t p 1 rs plan h.sent h.cleared q d h.follows)
    where
      by : (o : Result (Unit {0}) Failure) → h.sent ≡ o → SentAll exchanged p 1 (load_commands t plan rs) o q d → Went t r rs p q d
      by (Ok u) k all = record { plan = plan; planned = e; delivered = all }
      by (Err failure) k all = absurd (let clash : Ok done ≡ Err (Sending failure) = h.done ∙ ap (done_by plan) k in grind arith)

  -- the image is in the board
  opened_loads : (t : Target) (rs : List SourceRecord) (done : Plan) (s : ℕ) (a : Bool) (p q : P) → RunsOpened exchanged t p rs (Ok done) s a q
      → IsListed t (board p) → IsSound (board p) → AreLoadable (width_at t) rs → Loaded rs t (board p) (board q)
  opened_loads t rs done sectors a p q h l s u =
      let b : Board = board p in
      let d : Board = board h.opened in
      let xs : List Chunk = chunks_of rs in
      let keep : Keeps d b = opened_keeps p h.reply h.opened h.connects in
      let con : Connects b 0 h.reply d = opens p h.reply h.opened h.connects s.connected in
      let row = told_row b l.row l.listed h.reply con.tells in
      let w = went t l.row rs done sectors h.opened h.between h.counter (plan_from t l.row empty_plan rs) refl
      (subst (λ (o : Option Row). Delivers exchanged t h.opened 1 rs (plan_for t o rs) (Ok done) sectors h.between h.counter) row h.delivers) in
      let says = plan_says t l.row empty_plan rs w.plan w.planned in
      let suited : Suited rs t d = suited_after rs t d b 0 h.reply keep l s u (lies_there rs t b l says.lie) con in
      let list = list_same t l.row rs w.plan says in
      let takes = subst (λ ys. Delivered exchanged h.opened 1 ys h.between h.counter) list w.delivered in
      let carried : Carries d 1 (filling (space_at t) (mask_at t l.row xs) xs) (board h.between) =
      session.carried d 1 (filling (space_at t) (mask_at t l.row xs) xs) (board h.between) (omega arith)
      (said_filling laws.said (space_at t) (mask_at t l.row xs) xs (mask_small rs t d suited) (records_sent rs u.lawful)) (first_new b h.reply d t (mask_at t l.row xs) xs con)
      (session.delivered h.opened 1 (filling (space_at t) (mask_at t l.row xs) xs) h.between h.counter takes) in
      let filled = filled_so rs t d (board h.between) suited carried in
      let last : Keeps (board q) (board h.between) = ends_keep t h.between h.counter (Ok done) a q h.ends in
      record {
        holds = subst (λ (m : Memory). HoldsImage rs t m (memory_at t (board q)).contents) (memory_same t d b keep)
            (subst (λ (m : Memory). HoldsImage rs t (memory_at t d) m.contents) (sym (memory_same t (board q) (board h.between) last)) filled.0);
        others = others_same t b d (board h.between) (board q) keep last filled.1;
      }

  pub loaded : (t : Target) (rs : List SourceRecord) (done : Plan) (s : ℕ) (a : Bool) (p q : P) → Runs exchanged t p rs (Ok done) s a q
      → IsListed t (board p) → IsSound (board p) → AreLoadable (width_at t) rs → Loaded rs t (board p) (board q)
  loaded t rs done s a p q (inl h) l i u = opened_loads t rs done s a p q h l i u
  loaded t rs done s a p q (inr h) l i u = absurd (let clash : Ok done ≡ Err (Sending h.failure) = h.told in grind arith)
