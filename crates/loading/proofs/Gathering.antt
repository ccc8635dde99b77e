-- Downloads gather a record in a connected board. Assumes nothing.
use Rattle.std.proofs.Common.{◌≡◌, ℕ, true, false, ◌&&◌, ◌≤◌, List, [], ◌∷◌, ◌++◌, length, Ok, refl, sym, ap, subst, ◌∙◌, arith, append_assoc, length-append, append-nil}
use Rattle.std.specs.Prelude.{nat_le}
use Rattle.std.proofs.lemmas.Bool.Decides.{nat_tests}
use Rattle.bootloader.specs.declared.space.Space.TheVariants.{Flash}
use Rattle.bootloader.specs.declared.command.Command.{Command}
use Rattle.bootloader.specs.declared.command.Command.TheVariants.{Download, DownloadSix}
use Rattle.bootloader.specs.declared.dialog.Dialog.{Dialog}
use Rattle.bootloader.specs.Memories.{Memory, place}
use Rattle.bootloader.specs.Dialog.{Effect, leaves, space_and_address, address_behind, is_register, is_unlocked, is_place, download_effect}
use Rattle.bootloader.specs.Board.{Board, download_at, effect_of}
use Rattle.session.specs.Session.{next}
use Rattle.session.specs.Laws.{Carries, is_inner}
use Rattle.loading.specs.Record.{downloads}
use Rattle.loading.proofs.Gathered.{memory_in, TakesBytes, Gathered, Downloads}
use Rattle.loading.proofs.Prepared.{Does}
use Rattle.loading.proofs.Doing.{unlocked_memory, in_memory, if_so, when_unlocked, same_in, does, done_alone, done_before, unchanged_all}

-- fewer bytes lie inside too
fewer_inside : (m : Memory) (a n k : ℕ) → k ≤ n → is_place (place m a n) ≡ true → is_place (place m a k) ≡ true
fewer_inside m a n k h p = grind (arith, nat_tests)

-- what a download leaves
abbrev gathering : Board → List ℕ → Effect
gathering b more =
    let d : Dialog = b.session.dialog in
    leaves (space_and_address d.space (address_behind (memory_in b d.space) d (length (d.bytes.items ++ more)))) (record d { bytes = record { items = d.bytes.items ++ more } })

download_ok : (b : Board) (more : List ℕ) → TakesBytes b (length (b.session.dialog.bytes.items ++ more)) → download_at b more ≡ Ok (gathering b more)
download_ok b more t =
    let d : Dialog = b.session.dialog in
    let n : ℕ = length (d.bytes.items ++ more) in
    let register : is_register d.space ≡ false = unlocked_memory d.unlocked d.space t.unlocked in
    let few : nat_le n 252 ≡ true = grind (arith, nat_tests, t.few) in
    let test : (nat_le n 252 && is_place (place (memory_in b d.space) d.address n)) ≡ true = ap (λ x. x && is_place (place (memory_in b d.space) d.address n)) few ∙ t.inside in
    in_memory (λ m. download_effect d m more) b d.space register
    ∙ (when_unlocked d _ t.unlocked
    ∙ if_so (nat_le n 252 && is_place (place (memory_in b d.space) d.address n)) _ _ test)

-- one download
record One (b : Board) (c : ℕ) (x : Command) (more : List ℕ) : Type 0 where
  done : Does b c x (gathering b more).dialog Flash []
  gathered : Gathered b more done.after

one : (b : Board) (c : ℕ) (x : Command) (more : List ℕ) → effect_of b x ≡ download_at b more → is_inner x ≡ true → TakesBytes b (length (b.session.dialog.bytes.items ++ more)) → One b c x more
one b c x more e i t =
    let o = does b c x (gathering b more) Flash [] t.connected i (e ∙ download_ok b more t) refl in
    record {
      done = o;
      gathered = record { setup = o.setup; state = o.state; dialog = o.dialog; memories = unchanged_all o };
    }

-- nothing more is gathered
none_gathered : (b : Board) → Gathered b [] b
none_gathered b = record {
  setup = refl;
  state = refl;
  dialog = ap (λ xs. let d : Dialog = record (b.session.dialog) { bytes = record { items = xs } } in d) (sym (append-nil b.session.dialog.bytes.items));
  memories = record { flash = refl; boot = refl; eeprom = refl };
}

-- bytes that are gathered one after the other
gathered_more : (b m d : Board) (xs ys : List ℕ) → Gathered b xs m → Gathered m ys d → Gathered b (xs ++ ys) d
gathered_more b m d xs ys g h = record {
  setup = h.setup ∙ g.setup;
  state = h.state ∙ g.state;
  dialog = h.dialog ∙ (ap (λ (v : Dialog). let w : Dialog = record v { bytes = record { items = v.bytes.items ++ ys } } in w) g.dialog
      ∙ ap (λ zs. let w : Dialog = record (b.session.dialog) { bytes = record { items = zs } } in w) (append_assoc b.session.dialog.bytes.items xs ys));
  memories = record { flash = h.memories.flash ∙ g.memories.flash; boot = h.memories.boot ∙ g.memories.boot; eeprom = h.memories.eeprom ∙ g.memories.eeprom };
}

-- what is still taken after some bytes
taken_later : (b m : Board) (xs : List ℕ) (n : ℕ) → Gathered b xs m → TakesBytes b n → TakesBytes m n
taken_later b m xs n g t =
    let space : m.session.dialog.space ≡ b.session.dialog.space = ap (λ v. v.space) g.dialog in
    let address : m.session.dialog.address ≡ b.session.dialog.address = ap (λ v. v.address) g.dialog in
    record {
      connected = g.state ∙ t.connected;
      unlocked = ap (λ v. is_unlocked v.unlocked v.space) g.dialog ∙ t.unlocked;
      few = t.few;
      inside = ap (λ s. is_place (place (memory_in m s) m.session.dialog.address n)) space
          ∙ (ap (λ v. is_place (place v m.session.dialog.address n)) (same_in b m b.session.dialog.space g.memories)
          ∙ (ap (λ a. is_place (place (memory_in b b.session.dialog.space) a n)) address ∙ t.inside));
    }

fewer_taken : (b : Board) (n k : ℕ) → k ≤ n → TakesBytes b n → TakesBytes b k
fewer_taken b n k h t = record {
  connected = t.connected;
  unlocked = t.unlocked;
  few = omega (arith, h, t.few);
  inside = fewer_inside (memory_in b b.session.dialog.space) b.session.dialog.address n k h t.inside;
}

-- the last download
last : (b : Board) (c : ℕ) (x : Command) (more : List ℕ) → downloads more ≡ x ∷ [] → effect_of b x ≡ download_at b more → is_inner x ≡ true → TakesBytes b (length (b.session.dialog.bytes.items ++ more)) → Downloads b c more
last b c x more e same inner t =
    let o = one b c x more same inner t in
    record {
      after = o.done.after;
      carried = subst (λ (xs : List Command). Carries b c xs o.done.after) (sym e) (done_alone o.done);
      gathered = o.gathered;
    }

-- all bytes are downloaded
pub downloaded : (b : Board) (c : ℕ) (bs : List ℕ) → TakesBytes b (length (b.session.dialog.bytes.items ++ bs)) → Downloads b c bs
downloaded b c [] t = record { after = b; carried = refl; gathered = none_gathered b }
downloaded b c (x0 ∷ []) t = last b c (Download 1 (x0 ∷ 0 ∷ 0 ∷ 0 ∷ 0 ∷ [])) (x0 ∷ []) refl refl refl t
downloaded b c (x0 ∷ x1 ∷ []) t = last b c (Download 2 (x0 ∷ x1 ∷ 0 ∷ 0 ∷ 0 ∷ [])) (x0 ∷ x1 ∷ []) refl refl refl t
downloaded b c (x0 ∷ x1 ∷ x2 ∷ []) t = last b c (Download 3 (x0 ∷ x1 ∷ x2 ∷ 0 ∷ 0 ∷ [])) (x0 ∷ x1 ∷ x2 ∷ []) refl refl refl t
downloaded b c (x0 ∷ x1 ∷ x2 ∷ x3 ∷ []) t = last b c (Download 4 (x0 ∷ x1 ∷ x2 ∷ x3 ∷ 0 ∷ [])) (x0 ∷ x1 ∷ x2 ∷ x3 ∷ []) refl refl refl t
downloaded b c (x0 ∷ x1 ∷ x2 ∷ x3 ∷ x4 ∷ []) t = last b c (Download 5 (x0 ∷ x1 ∷ x2 ∷ x3 ∷ x4 ∷ [])) (x0 ∷ x1 ∷ x2 ∷ x3 ∷ x4 ∷ []) refl refl refl t
downloaded b c (x0 ∷ x1 ∷ x2 ∷ x3 ∷ x4 ∷ x5 ∷ rest) t =
    let six : List ℕ = x0 ∷ x1 ∷ x2 ∷ x3 ∷ x4 ∷ x5 ∷ [] in
    let had : List ℕ = b.session.dialog.bytes.items in
    let whole : had ++ six ++ rest ≡ had ++ (six ++ rest) = append_assoc had six rest in
    let less : length (had ++ six) ≤ length (had ++ (six ++ rest)) = grind (arith, whole, length-append (had ++ six) rest) in
    let o = one b c (DownloadSix six) six refl refl (fewer_taken b (length (had ++ (six ++ rest))) (length (had ++ six)) less t) in
    let items : o.done.after.session.dialog.bytes.items ≡ had ++ six = ap (λ v. v.bytes.items) o.gathered.dialog in
    let long : length (had ++ (six ++ rest)) ≡ length (o.done.after.session.dialog.bytes.items ++ rest) = ap length (sym whole ∙ ap (λ zs. zs ++ rest) (sym items)) in
    let later = downloaded o.done.after (next c) rest (subst (TakesBytes o.done.after) long (taken_later b o.done.after six (length (had ++ (six ++ rest))) o.gathered t)) in
    record {
      after = later.after;
      carried = done_before o.done (downloads rest) later.after later.carried;
      gathered = gathered_more b o.done.after later.after six rest o.gathered later.gathered;
    }
