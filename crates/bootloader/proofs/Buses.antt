-- The law of the bus log. Assumes nothing.
use Rattle.std.proofs.Common.{◌≡◌, ℕ, ◌+◌, ◌<◌, ◌≤◌, Bool, true, false, cond, List, [], ◌∷◌, ◌++◌, length, take, set, drop, get_or, Some, refl, sym, ap, ◌∙◌, arith, append_assoc, append-nil}
use Rattle.std.specs.Prelude.{Option, None, is_some, if◌then◌else◌}
use Rattle.std.specs.Option.{option_map}
use Rattle.std.proofs.lemmas.List.{at_drop_more, at_drop_all, map-set, get_or-map, length-map, take_more_set, take_all}
use Rattle.std.proofs.lemmas.List.Elements.{filter_map-append}
use Rattle.std.proofs.lemmas.Slice.Eq.{bytes_eq-Decides}
use Rattle.std.proofs.Math.Seq.{map-set_same}
use Rattle.memory.specs.Changes.{changed_all, ByLast}
use Rattle.memory.specs.Changing.{changed_all-++, changed_all-by_last}
use Rattle.bootloader.specs.Laws.{SameMemories, listener_of}
use Rattle.bootloader.specs.declared.space.Space.{Space}
use Rattle.bootloader.specs.declared.space.Space.TheVariants.{Flash, Boot, Data}
use Rattle.bootloader.specs.declared.command.Command.{Command}
use Rattle.bootloader.specs.declared.session.Exchange.{Exchange}
use Rattle.bootloader.specs.declared.bus.Entry.{Entry}
use Rattle.bootloader.specs.Frames.{command_of}
use Rattle.bootloader.specs.Memories.{Memory, Placed, change_for, changes_in}
use Rattle.bootloader.specs.Board.{Board, stepped}
use Rattle.bootloader.specs.Events.{Event, frame, tick, happened, board_behind, replies_to}
use Rattle.bootloader.specs.Listener.{Listener, heard, told, told_by, is_last, is_accepted, changed_memory}
use Rattle.bootloader.specs.BusLog.{event_of, events_of, replies_of, Line, log_of, log_behind, heard_all, last_answered, changes_by, changes_heard, changes_all, accepts, KeepsMemories, BusLog}
use Rattle.bootloader.specs.Places.{unchanged}
use Rattle.bootloader.proofs.Turns.{frame_laws}

-- who listens has what the board has
listened : (b : Board) (es : List Event) → heard_all (listener_of b) (log_behind b es) ≡ listener_of (board_behind b es)
unfolding heard_all log_of replies_to board_behind
listened b [] = refl
listened b (frame id bytes places ∷ es) =
    let c : Board = (happened b (frame id bytes places)).board in
    ap (λ l. heard_all l (log_behind c es)) (frame_laws b places id bytes).listened ∙ listened c es
listened b (tick ∷ es) = listened (happened b tick).board es

-- changes in one space, of two lists
changes_in-++ : (s : Space) (ps qs : List Placed) → changes_in s (ps ++ qs) ≡ changes_in s ps ++ changes_in s qs
unfolding changes_in
changes_in-++ s ps qs = filter_map-append (change_for s) ps qs

-- the memory of a space, as a listener has it
module _ (memory : Listener → Memory) (s : Space) (step : (l : Listener) (f : List ℕ) (r : Option (List ℕ)) → memory (heard l f r) ≡ changed_memory s (changes_heard l f r) (memory l)) where
  changed_twice : (m : Memory) (ps qs : List Placed) → changed_memory s qs (changed_memory s ps m) ≡ changed_memory s (ps ++ qs) m
  changed_twice m ps qs =
      λ i. record m { contents = (sym (ap (λ cs. changed_all m.shape cs m.contents) (changes_in-++ s ps qs) ∙ changed_all-++ m.shape (changes_in s ps) (changes_in s qs) m.contents)) i }

  heard_changes : (l : Listener) (log : List Line) → memory (heard_all l log) ≡ changed_memory s (changes_all l log) (memory l)
  unfolding heard_all changes_all
  heard_changes l [] = λ i. record (memory l) { contents = sym (unchanged s (memory l).shape (memory l).contents) i }
  heard_changes l (x ∷ log) =
      let rest = changes_all (heard l x.frame x.reply) log in
      heard_changes (heard l x.frame x.reply) log
      ∙ ap (changed_memory s rest) (step l x.frame x.reply)
      ∙ changed_twice (memory l) (changes_heard l x.frame x.reply) rest

  by_last : (l : Listener) (log : List Line) (m : Memory) → m ≡ memory (heard_all l log) → ByLast (memory l).shape (changes_in s (changes_all l log)) (memory l).contents m.contents
  by_last l log m e = rw (ap (λ n. n.contents) (e ∙ heard_changes l log)) (changed_all-by_last (memory l).shape (changes_in s (changes_all l log)) (memory l).contents)

-- one line
module _ (memory : Listener → Memory) (s : Space)
    (keeps : (l : Listener) (f : List ℕ) → memory (record l { last = Some f }) ≡ memory l)
    (tells : (l : Listener) (f : List ℕ) (c : Command) → memory (told (record l { last = Some f }) c) ≡ changed_memory s (changes_by l (Some c)) (memory l)) where
  none_changed : (m : Memory) → m ≡ changed_memory s [] m
  none_changed m = λ i. record m { contents = sym (unchanged s m.shape m.contents) i }

  step_at : (l : Listener) (f : List ℕ) (t u : Bool) (o : Option Command)
      → memory (cond t l (told_by (record l { last = Some f }) o u)) ≡ changed_memory s (cond t [] (cond u (changes_by l o) [])) (memory l)
  step_at l f true u o = none_changed (memory l)
  step_at l f false true None = keeps l f ∙ none_changed (memory l)
  step_at l f false true (Some c) = tells l f c
  step_at l f false false None = keeps l f ∙ none_changed (memory l)
  step_at l f false false (Some c) = keeps l f ∙ none_changed (memory l)

  step : (l : Listener) (f : List ℕ) (r : Option (List ℕ)) → memory (heard l f r) ≡ changed_memory s (changes_heard l f r) (memory l)
  step l f None = none_changed (memory l)
  step l f (Some reply) = step_at l f (is_last l.last f) (is_accepted reply) (command_of f)

-- a listener has the last frame that was answered
same_last : (last : Option (List ℕ)) (f : List ℕ) → is_last last f ≡ true → last ≡ Some f
same_last None f h = grind arith
same_last (Some g) f h = grind (arith, bytes_eq-Decides g f)

told_last : (l : Listener) (f : List ℕ) (o : Option Command) (u : Bool) → (told_by (record l { last = Some f }) o u).last ≡ Some f
told_last l f None u = refl
told_last l f (Some c) true = refl
told_last l f (Some c) false = refl

heard_last : (l : Listener) (f : List ℕ) (r : Option (List ℕ)) → (heard l f r).last ≡ if is_some r then Some f else l.last
heard_last l f None = refl
heard_last l f (Some reply) = by_test (is_last l.last f) refl
  where
    by_test : (t : Bool) → is_last l.last f ≡ t → (cond t l (told_by (record l { last = Some f }) (command_of f) (is_accepted reply))).last ≡ Some f
    by_test true q = same_last l.last f q
    by_test false q = told_last l f (command_of f) (is_accepted reply)

answered_last : (l : Listener) (log : List Line) → (heard_all l log).last ≡ last_answered l.last log
unfolding heard_all last_answered
answered_last l [] = refl
answered_last l (x ∷ xs) = answered_last (heard l x.frame x.reply) xs ∙ ap (λ last. last_answered last xs) (heard_last l x.frame x.reply)

-- what an event that is refused or has no reply, or a frame that is repeated, leaves of the memories
module _ (c : Board) where
  refused_by : (id places : ℕ) (f : List ℕ) (r : Option (List ℕ)) → (stepped c places id f).reply ≡ r → accepts r ≡ false → SameMemories (stepped c places id f).board c
  refused_by id places f None q h = (frame_laws c places id f).silent q
  refused_by id places f (Some reply) q h =
      let same = (frame_laws c places id f).refused reply q h in
      record { flash = ap (λ b. b.flash) same; boot = ap (λ b. b.boot) same; eeprom = ap (λ b. b.eeprom) same }

  refused_event : (e : Event) → accepts (happened c e).reply ≡ false → SameMemories (happened c e).board c
  refused_event (frame id f places) h = refused_by id places f (stepped c places id f).reply refl h
  refused_event tick h = record { flash = refl; boot = refl; eeprom = refl }

  repeated_event : (id places : ℕ) (f : List ℕ) (s : Option Exchange) → c.session.stored ≡ s → option_map (λ x. x.frame) s ≡ Some f → SameMemories (stepped c places id f).board c
  repeated_event id places f None q h = grind arith
  repeated_event id places f (Some x) q h = (frame_laws c places id f).repeated x q (grind arith)

-- one event behind others
behind_one : (b : Board) (before : List Event) (e : Event) → board_behind b (before ++ (e ∷ [])) ≡ (happened (board_behind b before) e).board
unfolding board_behind
behind_one b [] e = refl
behind_one b (x ∷ before) e = behind_one (happened b x).board before e

keeps_behind : (b : Board) (before : List Event) (e : Event) → SameMemories (happened (board_behind b before) e).board (board_behind b before) → KeepsMemories b before e
keeps_behind b before e h = rw (behind_one b before e) h

pub bus_log : (b : Board) (es : List Event) → BusLog b es
bus_log b es =
    let l = listener_of b in
    let log = log_behind b es in
    let all = sym (listened b es) in
    record {
      flash = ap (λ k. k.flash) all;
      boot = ap (λ k. k.boot) all;
      eeprom = ap (λ k. k.eeprom) all;
      flash_by_last = by_last (λ k. k.flash) Flash (step (λ k. k.flash) Flash (λ k f. refl) (λ k f c. refl)) l log (board_behind b es).flash (ap (λ k. k.flash) all);
      boot_by_last = by_last (λ k. k.boot) Boot (step (λ k. k.boot) Boot (λ k f. refl) (λ k f c. refl)) l log (board_behind b es).boot (ap (λ k. k.boot) all);
      eeprom_by_last = by_last (λ k. k.eeprom) Data (step (λ k. k.eeprom) Data (λ k f. refl) (λ k f c. refl)) l log (board_behind b es).eeprom (ap (λ k. k.eeprom) all);
      repeated = λ before after id places f _ q.
          let c : Board = board_behind b before in
          let last = ap (λ k. k.last) (sym (listened b before)) ∙ answered_last l (log_behind b before) ∙ q in
          keeps_behind b before (frame id f places) (repeated_event c id places f c.session.stored refl last);
      refused = λ before after e _ q. keeps_behind b before e (refused_event (board_behind b before) e q);
    }

-- the event of the entry at i
module _ (i : ℕ) (entries : List Entry) (es : List Event) (d : Entry) (same : events_of entries ≡ es) (h : i < length entries) where
  abbrev pub here : Event
  here = event_of (get_or entries i d).event

  here_is : get_or es i tick ≡ here
  here_is = ap (λ xs. get_or xs i tick) (sym same) ∙ get_or-map (λ e. event_of e.event) entries i d tick h

  room : i < length es
  room = omega (arith, h, ap length same, length-map entries (λ e. event_of e.event))

  -- it reaches the board
  pub behind_more : (b : Board) → board_behind (happened b here).board (drop (i + 1) es) ≡ board_behind b (drop i es)
  unfolding board_behind
  behind_more b = sym (at_drop_more (board_behind b) es i tick room ∙ ap (λ e. board_behind (happened b e).board (drop (i + 1) es)) here_is)

  -- and its reply is put into its place
  pub replied_more : (b : Board) → take (i + 1) (replies_of (set entries i (record (get_or entries i d) { reply = (happened b here).reply }))) ++ replies_to (happened b here).board (drop (i + 1) es)
      ≡ take i (replies_of entries) ++ replies_to b (drop i es)
  unfolding replies_to
  replied_more b =
      let r = (happened b here).reply in
      let rest = replies_to (happened b here).board (drop (i + 1) es) in
      let long : i < length (replies_of entries) = omega (arith, h, length-map entries (λ e. e.reply)) in
      ap (λ rs. take (i + 1) rs ++ rest) (map-set (λ e. e.reply) entries i (record (get_or entries i d) { reply = r }))
      ∙ ap (λ rs. rs ++ rest) (take_more_set (replies_of entries) i r long)
      ∙ append_assoc (take i (replies_of entries)) (r ∷ []) rest
      ∙ ap (λ rs. take i (replies_of entries) ++ rs) (sym (at_drop_more (replies_to b) es i tick room ∙ ap (λ e. (happened b e).reply ∷ replies_to (happened b e).board (drop (i + 1) es)) here_is))

  pub same_more : (r : Option (List ℕ)) → events_of (set entries i (record (get_or entries i d) { reply = r })) ≡ es
  same_more r = map-set_same (λ e. event_of e.event) entries i (record (get_or entries i d) { reply = r }) d refl ∙ same

-- no event is left, of those that entries had at first
module _ (i : ℕ) (first entries : List Entry) (long : length entries ≡ length first) (h : length first ≤ i) where
  none_left : length (events_of first) ≤ i
  none_left = omega (arith, h, length-map first (λ e. event_of e.event))

  pub behind_all : (b : Board) → board_behind b (drop i (events_of first)) ≡ b
  unfolding board_behind
  behind_all b = at_drop_all (board_behind b) (events_of first) i none_left

  pub replied_all : (b : Board) → take i (replies_of entries) ++ replies_to b (drop i (events_of first)) ≡ replies_of entries
  unfolding replies_to
  replied_all b =
      let all : length (replies_of entries) ≤ i = omega (arith, h, long, length-map entries (λ e. e.reply)) in
      ap (λ rs. take i (replies_of entries) ++ rs) (at_drop_all (replies_to b) (events_of first) i none_left) ∙ append-nil (take i (replies_of entries)) ∙ take_all i (replies_of entries) all
