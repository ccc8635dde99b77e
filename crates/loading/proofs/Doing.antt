-- A connected board carries out a command, and what that changes in its memories. Assumes nothing.
use Rattle.std.proofs.Common.{◌≡◌, ℕ, Bool, true, false, cond, ◌||◌, List, [], ◌∷◌, Some, Ok, Err, refl, ap, ◌∙◌, arith}
use Rattle.std.specs.Prelude.{Result}
use Rattle.memory.specs.Changes.{Change, changed_all}
use Rattle.bootloader.specs.declared.command.Command.{Command}
use Rattle.bootloader.specs.declared.command.Command.TheVariants.{Connect, SetMta, Unlock, Clear, Download, DownloadSix, BuildChecksum, Disconnect}
use Rattle.bootloader.specs.declared.refusal.Refusal.{Refusal}
use Rattle.bootloader.specs.declared.refusal.Refusal.TheVariants.{Denied, Locked}
use Rattle.bootloader.specs.declared.dialog.Dialog.{Dialog}
use Rattle.bootloader.specs.declared.dialog.Unlocked.{Unlocked}
use Rattle.bootloader.specs.declared.space.Space.{Space}
use Rattle.bootloader.specs.declared.space.Space.TheVariants.{Flash, Register, Boot, Data}
use Rattle.bootloader.specs.declared.state.State.TheVariants.{Connected}
use Rattle.bootloader.specs.Frames.{frame_of, space_of, extension_of}
use Rattle.bootloader.specs.Memories.{Memory, placed_in, changes_in, is_space}
use Rattle.bootloader.specs.Dialog.{Effect, is_register, is_unlocked, leaves, nothing, selecting, unlocked_for}
use Rattle.bootloader.specs.Board.{Board, judged, effect_of, in_space, is_connected, is_connect, board_after, state_after, storing, reply_with}
use Rattle.bootloader.specs.Laws.{SameMemories}
use Rattle.bootloader.specs.Places.{changes_in_same, changes_in_other}
use Rattle.session.specs.Session.{next}
use Rattle.session.specs.Laws.{Carries, is_inner}
use Rattle.loading.proofs.Gathered.{memory_in}
use Rattle.loading.proofs.Prepared.{Does}

-- an unlocked space has a memory
pub unlocked_memory : (u : Unlocked) (s : Space) → is_unlocked u s ≡ true → is_register s ≡ false
unlocked_memory u Flash h = refl
unlocked_memory u Register h = grind arith
unlocked_memory u Boot h = refl
unlocked_memory u Data h = refl

pub in_memory : (act : Memory → Result Effect Refusal) (b : Board) (s : Space) → is_register s ≡ false → in_space b s act ≡ act (memory_in b s)
in_memory act b Flash h = refl
in_memory act b Register h = grind arith
in_memory act b Boot h = refl
in_memory act b Data h = refl

-- a test that holds, and one that does not
pub if_so : {A : Type 0} (t : Bool) (x y : A) → t ≡ true → cond t x y ≡ x
if_so t x y h = ap (λ u. cond u x y) h

pub if_not : {A : Type 0} (t : Bool) (x y : A) → t ≡ false → cond t x y ≡ y
if_not t x y h = ap (λ u. cond u x y) h

-- what is done where the selected memory is unlocked
pub when_unlocked : (d : Dialog) (done : Result Effect Refusal) → is_unlocked d.unlocked d.space ≡ true → unlocked_for d done ≡ done
when_unlocked d done h = if_not (is_register d.space) _ _ (unlocked_memory d.unlocked d.space h) ∙ if_so (is_unlocked d.unlocked d.space) done (Err Locked) h

pub same_in : (b m : Board) (s : Space) → SameMemories m b → memory_in m s ≡ memory_in b s
same_in b m Flash h = h.flash
same_in b m Register h = h.flash
same_in b m Boot h = h.boot
same_in b m Data h = h.eeprom

space_back : (s : Space) → space_of (extension_of s) ≡ Some s
space_back Flash = refl
space_back Register = refl
space_back Boot = refl
space_back Data = refl

-- a memory after changes
abbrev pub changed_by : Memory → List Change → Memory
changed_by m cs = record m { contents = changed_all m.shape cs m.contents }

-- the memories after a command that makes changes in one space
changed_in : (b d : Board) (s : Space) (cs : List Change) (e : Effect) (x : Command) (f reply : List ℕ) → e.changes ≡ placed_in s cs
    → d ≡ storing (board_after b (Some x) (Ok e)) f reply → (t : Space) → is_register t ≡ false → memory_in d t ≡ changed_by (memory_in b t) (changes_in t (placed_in s cs))
changed_in b d s cs e x f reply h at Flash r = ap (λ k. k.flash) at ∙ ap (λ ps. changed_by b.flash (changes_in Flash ps)) h
changed_in b d s cs e x f reply h at Register r = absurd (grind arith)
changed_in b d s cs e x f reply h at Boot r = ap (λ k. k.boot) at ∙ ap (λ ps. changed_by b.boot (changes_in Boot ps)) h
changed_in b d s cs e x f reply h at Data r = ap (λ k. k.eeprom) at ∙ ap (λ ps. changed_by b.eeprom (changes_in Data ps)) h

-- changes in another space, none, and changes in this one
pub elsewhere : (m : Memory) (s t : Space) (cs : List Change) → is_space t s ≡ false → changed_by m (changes_in t (placed_in s cs)) ≡ m
unfolding changed_all
elsewhere m s t cs h = ap (changed_by m) (changes_in_other t s cs h)

nowhere : (m : Memory) (s t : Space) → changed_by m (changes_in t (placed_in s [])) ≡ m
unfolding changed_all changes_in
nowhere m s t = refl

pub here : (m : Memory) (s : Space) (cs : List Change) → changed_by m (changes_in s (placed_in s cs)) ≡ changed_by m cs
here m s cs = ap (changed_by m) (changes_in_same s cs)

-- a command between Connect and Disconnect leaves the state, and a connected board judges it by its effect
inner_state : (b : Board) (x : Command) → is_inner x ≡ true → state_after b x ≡ b.session.state
inner_state b Connect h = absurd (grind arith)
inner_state b (SetMta number extension address) h = refl
inner_state b (Unlock size password) h = refl
inner_state b (Clear mask) h = refl
inner_state b (Download size bytes) h = refl
inner_state b (DownloadSix bytes) h = refl
inner_state b (BuildChecksum size crc) h = refl
inner_state b (Disconnect kind) h = absurd (grind arith)

pub by_effect : (b : Board) (x : Command) → b.session.state ≡ Connected → judged b (Some x) ≡ effect_of b x
by_effect b x h = ap (λ s. cond (is_connected s || is_connect x) (effect_of b x) (Err Denied)) h

-- a command that has this effect is carried out
pub does : (b : Board) (c : ℕ) (x : Command) (e : Effect) (s : Space) (cs : List Change) → b.session.state ≡ Connected → is_inner x ≡ true → effect_of b x ≡ Ok e → e.changes ≡ placed_in s cs → Does b c x e.dialog s cs
does b c x e s cs state inner effect changes =
    let after : Board = storing (board_after b (Some x) (Ok e)) (frame_of c x) (reply_with c (Ok e.payload)) in
    record {
      effect = e;
      after = after;
      accepted = record { effect = by_effect b x state ∙ effect; after = refl };
      setup = refl;
      state = inner_state b x inner;
      dialog = refl;
      memory = changed_in b after s cs e x (frame_of c x) (reply_with c (Ok e.payload)) changes refl;
    }

-- alone, and before others
pub done_alone : {b : Board} {c : ℕ} {x : Command} {d : Dialog} {s : Space} {cs : List Change} (o : Does b c x d s cs) → Carries b c (x ∷ []) o.after
done_alone o = (o.effect, o.after, o.accepted, refl)

pub done_before : {b : Board} {c : ℕ} {x : Command} {d : Dialog} {s : Space} {cs : List Change} (o : Does b c x d s cs) (xs : List Command) (e : Board)
    → Carries o.after (next c) xs e → Carries b c (x ∷ xs) e
done_before o xs e h = (o.effect, o.after, o.accepted, h)

-- one that changes no memory leaves them all
pub unchanging : {b : Board} {c : ℕ} {x : Command} {d : Dialog} {s : Space} (o : Does b c x d s []) (t : Space) → is_register t ≡ false → memory_in o.after t ≡ memory_in b t
unchanging {b} {s = s} o t r = o.memory t r ∙ nowhere (memory_in b t) s t

pub unchanged_all : {b : Board} {c : ℕ} {x : Command} {d : Dialog} {s : Space} (o : Does b c x d s []) → SameMemories o.after b
unchanged_all o = record { flash = unchanging o Flash refl; boot = unchanging o Boot refl; eeprom = unchanging o Data refl }

-- an address of a space is selected
pub selects : (b : Board) (c : ℕ) (s : Space) (a : ℕ) → b.session.state ≡ Connected → Does b c (SetMta 0 (extension_of s) a) (record (b.session.dialog) { space = s; address = a; bytes = record { items = [] } }) Flash []
selects b c s a h =
    does b c (SetMta 0 (extension_of s) a) (leaves nothing (record (b.session.dialog) { space = s; address = a; bytes = record { items = [] } })) Flash [] h refl (ap (λ o. selecting b.session.dialog o a) (space_back s)) refl
