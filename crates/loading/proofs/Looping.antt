-- Records with data are sent, one after the other, to a board that can take them. Assumes nothing.
use Rattle.std.proofs.Common.{◌≡◌, ℕ, Bool, true, false, cond, ◌+◌, ◌≤◌, List, [], ◌∷◌, ◌++◌, length, refl, sym, ap, subst, ◌∙◌, inr, arith}
use Rattle.std.specs.Prelude.{◌==◌}
use Rattle.std.specs.List.{AllByRecursion}
use Rattle.memory.specs.Part.{IsShape}
use Rattle.memory.specs.Changes.{Change}
use Rattle.memory.specs.Changing.{length-changed_all}
use Rattle.bootloader.specs.declared.space.Space.{Space}
use Rattle.bootloader.specs.Frames.{extension_of}
use Rattle.bootloader.specs.Memories.{Memory, offset_in, puts_from}
use Rattle.bootloader.specs.Dialog.{is_unlocked}
use Rattle.bootloader.specs.Board.{Board}
use Rattle.loading.specs.Source.{SourceRecord}
use Rattle.loading.specs.Record.{record_commands, commands_for}
use Rattle.loading.specs.Mask.{Piece}
use Rattle.loading.proofs.Pieces.{after_pieces}
use Rattle.loading.proofs.Gathered.{memory_in}
use Rattle.loading.proofs.Recorded.{CanTake}
use Rattle.loading.proofs.Chunks.{Chunk, chunks_of, commands_of, crc_over_all, at_in, pieces_of, FitsIn, IsBlank, CanPut, CanTakeAll, TakesRecords}
use Rattle.loading.proofs.Imaging.{put_outside}
use Rattle.loading.proofs.Carrying.{carries_append, counter_after}
use Rattle.loading.proofs.Doing.{changed_by}
use Rattle.loading.proofs.Taking.{taken_record}

-- the commands of all records are those of the records with data
pub chunk_commands : (extension : ℕ) (rs : List SourceRecord) → commands_for extension rs ≡ commands_of extension (chunks_of rs)
chunk_commands extension [] = refl
chunk_commands extension (r ∷ rs) = by (chunk_commands extension rs) (length r.bytes == 0) refl
  where
    by : commands_for extension rs ≡ commands_of extension (chunks_of rs) → (t : Bool) → (length r.bytes == 0) ≡ t
        → cond t [] (record_commands extension r.address r.bytes) ++ commands_for extension rs ≡ commands_of extension (cond t (chunks_of rs) (record { address = r.address; bytes = r.bytes } ∷ chunks_of rs))
    by go true q = go
    by go false q = ap (λ xs. record_commands extension r.address r.bytes ++ xs) go

-- what fits in a memory still does after changes
pub fits_after : (m : Memory) (cs : List Change) (xs : List Chunk) → AllByRecursion (FitsIn m) xs → AllByRecursion (FitsIn (changed_by m cs)) xs
fits_after m cs [] a = tt
fits_after m cs (x ∷ xs) a = (one (length-changed_all m.shape cs m.contents) a.0, fits_after m cs xs a.1)
  where
    one : length (changed_by m cs).contents ≡ length m.contents → FitsIn m x → FitsIn (changed_by m cs) x
    one same f = record {
      some = f.some;
      few = f.few;
      whole = f.whole;
      at = ap (λ n. offset_in m.base m.width n x.address (length x.bytes)) same ∙ f.at;
      inside = omega (arith, f.inside, same);
      small = f.small;
    }

-- a memory with the bytes of a record put
abbrev with_put : Memory → Chunk → Memory
with_put m x = changed_by m (puts_from (at_in m.base m.width x) x.bytes)

-- the others can still be put
module _ (m : Memory) (x : Chunk) where
  abbrev at : ℕ
  at = at_in m.base m.width x

  same_long : length (with_put m x).contents ≡ length m.contents
  same_long = length-changed_all m.shape (puts_from at x.bytes) m.contents

  blank_next : (es : List Piece) → AllByRecursion (λ l. at + length x.bytes ≤ l.at) es → AllByRecursion (IsBlank m.contents) es → AllByRecursion (IsBlank (with_put m x).contents) es
  blank_next [] o a = tt
  blank_next (e ∷ es) o a = (λ k l h. put_outside m.shape at x.bytes m.contents k (inr (omega (arith, l, o.0))) ∙ a.0 k l h, blank_next es o.1 a.1)

  put_next : (xs : List Chunk) → CanPut m (x ∷ xs) → CanPut (with_put m x) xs
  put_next xs c = record {
    shape = subst (λ (n : ℕ). IsShape n m.shape) (sym same_long) c.shape;
    fit = fits_after m (puts_from at x.bytes) xs c.fit.1;
    order = c.order.1;
    blank = blank_next (pieces_of m xs) c.order.0 c.blank.1;
  }

pub taken_all : (b : Board) (c : ℕ) (s : Space) (xs : List Chunk) → CanTakeAll b s xs → TakesRecords b c s xs
taken_all b c s [] t = record {
  after = b;
  carried = refl;
  recorded = record {
    setup = refl;
    state = refl;
    unlocked = refl;
    space = t.space;
    emptied = t.emptied;
    image = refl;
    put = refl;
    others = λ u r n. refl;
  };
}
taken_all b c s (x ∷ xs) t =
    let m : Memory = memory_in b s in
    let f = t.memory.fit.0 in
    let can : CanTake b s x.address (at_in m.base m.width x) x.bytes = record {
      connected = t.connected;
      unlocked = t.unlocked;
      some = f.some;
      few = f.few;
      whole = f.whole;
      at = f.at;
      inside = f.inside;
      shape = t.memory.shape;
      blank = t.memory.blank.0;
      small = f.small;
    } in
    let one = taken_record b c s x.address (at_in m.base m.width x) x.bytes can in
    let k = one.recorded in
    let next : CanTakeAll one.after s xs = record {
      connected = k.state ∙ t.connected;
      unlocked = ap (λ u. is_unlocked u s) k.unlocked ∙ t.unlocked;
      space = k.space;
      emptied = k.emptied;
      memory = subst (λ (n : Memory). CanPut n xs) (sym k.put) (put_next m x xs t.memory);
    } in
    let rest = taken_all one.after (counter_after c (record_commands (extension_of s) x.address x.bytes)) s xs next in
    let j = rest.recorded in
    record {
      after = rest.after;
      carried = carries_append (record_commands (extension_of s) x.address x.bytes) (commands_of (extension_of s) xs) b c one.after rest.after one.carried rest.carried;
      recorded = record {
        setup = j.setup ∙ k.setup;
        state = j.state ∙ k.state;
        unlocked = j.unlocked ∙ k.unlocked;
        space = j.space;
        emptied = j.emptied;
        image = j.image ∙ ap (λ n. crc_over_all n xs) k.image;
        put = j.put ∙ ap (λ (n : Memory). let o : Memory = record n { contents = after_pieces n.shape (pieces_of n xs) n.contents } in o) k.put;
        others = λ u r n. j.others u r n ∙ k.others u r n;
      };
    }
