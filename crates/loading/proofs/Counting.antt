-- How many commands a load has. Assumes nothing.
use Rattle.std.proofs.Common.{◌≡◌, ℕ, Bool, true, false, cond, ◌+◌, ◌/◌, List, [], ◌∷◌, ◌++◌, length, refl, sym, ◌∙◌, arith}
use Rattle.std.specs.Prelude.{◌==◌, sum_by}
use Rattle.std.proofs.lemmas.List.Sums.{sum_by-cons}
use Rattle.memory.specs.Crc.{crc_from}
use Rattle.loader.specs.declared.target.Target.{Target}
use Rattle.bootloader.specs.declared.command.Command.{Command}
use Rattle.bootloader.specs.declared.command.Command.TheVariants.{BuildChecksum}
use Rattle.bootloader.specs.declared.space.Space.{Space}
use Rattle.bootloader.specs.Frames.{extension_of}
use Rattle.loading.specs.declared.planning.Plan.{Plan}
use Rattle.loading.specs.Source.{SourceRecord}
use Rattle.loading.specs.Record.{downloads, record_commands, commands_for}
use Rattle.loading.proofs.Chunks.{chunks_of, commands_of, crc_over_all}
use Rattle.loading.specs.Prepared.{space_at, preparing}
use Rattle.loading.proofs.Filled.{filling}
use Rattle.loading.specs.Load.{load_commands}
use Rattle.loading.specs.Loaded.{frames_of, frames_of_record}
use Rattle.loading.proofs.Commands.{count_downloads}
use Rattle.loading.proofs.Listing.{chunk_of}

pub count_both : (xs ys : List Command) → length (xs ++ ys) ≡ length xs + length ys
count_both [] ys = omega arith
count_both (x ∷ xs) ys = omega (arith, count_both xs ys)

-- a record with data has two more than its bytes take
count_record : (extension address : ℕ) (bytes : List ℕ) → length (record_commands extension address bytes) ≡ 2 + (length bytes + 5) / 6
count_record extension address bytes = omega (arith, count_both (downloads bytes) (BuildChecksum (length bytes) (crc_from 0xFFFF bytes) ∷ []), count_downloads bytes)

-- all records
pub count_records : (extension : ℕ) (rs : List SourceRecord) → length (commands_for extension rs) ≡ sum_by frames_of_record rs
count_records extension [] = refl
count_records extension (r ∷ rs) = by (length r.bytes == 0) (count_records extension rs) ∙ sym (sum_by-cons frames_of_record r rs)
  where
    by : (t : Bool) → length (commands_for extension rs) ≡ sum_by frames_of_record rs
        → length (cond t [] (record_commands extension r.address r.bytes) ++ commands_for extension rs) ≡ cond t 0 (2 + (length r.bytes + 5) / 6) + sum_by frames_of_record rs
    by true go = go ∙ omega arith
    by false go = omega (arith, go, count_both (record_commands extension r.address r.bytes) (commands_for extension rs), count_record extension r.address r.bytes)

pub count_chunks : (extension : ℕ) (rs : List SourceRecord) → length (commands_of extension (chunks_of rs)) ≡ sum_by frames_of_record rs
count_chunks extension [] = refl
count_chunks extension (r ∷ rs) = by (length r.bytes == 0) (count_chunks extension rs) ∙ sym (sum_by-cons frames_of_record r rs)
  where
    by : (t : Bool) → length (commands_of extension (chunks_of rs)) ≡ sum_by frames_of_record rs
        → length (commands_of extension (cond t (chunks_of rs) (chunk_of r ∷ chunks_of rs))) ≡ cond t 0 (2 + (length r.bytes + 5) / 6) + sum_by frames_of_record rs
    by true go = go ∙ omega arith
    by false go = omega (arith, go, count_both (record_commands extension r.address r.bytes) (commands_of extension (chunks_of rs)), count_record extension r.address r.bytes)

-- with Connect and Disconnect they are the frames of a load, whatever the mask
pub count_filling : (s : Space) (mask : ℕ) (rs : List SourceRecord) → 2 + length (filling s mask (chunks_of rs)) ≡ frames_of rs
unfolding preparing
count_filling s mask rs =
    let xs : List Command = commands_of (extension_of s) (chunks_of rs) in
    omega (arith, count_chunks (extension_of s) rs, count_both xs (BuildChecksum 0 (crc_over_all 0xFFFF (chunks_of rs)) ∷ []))

-- and whatever the plan
pub count_load : (t : Target) (plan : Plan) (rs : List SourceRecord) → 2 + length (load_commands t plan rs) ≡ frames_of rs
unfolding preparing
count_load t plan rs =
    let xs : List Command = commands_for (extension_of (space_at t)) rs in
    omega (arith, count_records (extension_of (space_at t)) rs, count_both xs (BuildChecksum 0 plan.image_crc ∷ []))
