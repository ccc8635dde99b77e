-- The commands of a load: what they are, and how many. Assumes nothing.
use Rattle.std.proofs.Common.{◌≡◌, ℕ, ◌+◌, ◌/◌, ◌^◌, ◌≤◌, ◌<◌, List, [], ◌∷◌, ◌++◌, length, refl, arith}
use Rattle.std.specs.List.{AllByRecursion}
use Rattle.memory.specs.Crc.{crc_from}
use Rattle.bootloader.specs.declared.command.Command.{Command}
use Rattle.bootloader.specs.declared.command.Command.TheVariants.{SetMta, Unlock, Clear, Download, DownloadSix, BuildChecksum}
use Rattle.bootloader.specs.declared.space.Space.{Space}
use Rattle.bootloader.specs.declared.space.Space.TheVariants.{Flash, Register, Boot, Data}
use Rattle.bootloader.specs.Frames.{extension_of}
use Rattle.session.specs.Laws.{AreSaid, AllInner}
use Rattle.bootloader.specs.BoardLaws.{IsSaid}
use Rattle.bootloader.specs.Frames.{IsCommand}
use Rattle.loading.specs.Source.{SourceRecord, IsRecord}
use Rattle.loading.specs.Record.{downloads, record_commands}
use Rattle.loading.proofs.Chunks.{Chunk, chunks_of, commands_of, crc_over_all}
use Rattle.loading.specs.Prepared.{password_of, preparing}
use Rattle.loading.proofs.Filled.{filling}
use Rattle.loading.proofs.Listing.{contains_all, all_data}
use Rattle.loading.proofs.Summing.{crc_small}

-- the data of a record that can be sent
pub record CanBeSent (x : Chunk) : Type 0 where
  pub address : x.address < 2 ^ 32
  pub few : length x.bytes ≤ 252
  pub small : AllByRecursion (λ v. v < 256) x.bytes

said_both : (xs ys : List Command) → AreSaid xs → AreSaid ys → AreSaid (xs ++ ys)
said_both [] ys a b = b
said_both (x ∷ xs) ys a b = (a.0, said_both xs ys a.1 b)

inner_both : (xs ys : List Command) → AllInner xs → AllInner ys → AllInner (xs ++ ys)
inner_both [] ys a b = b
inner_both (x ∷ xs) ys a b = (a.0, inner_both xs ys a.1 b)

inner_downloads : (bs : List ℕ) → AllInner (downloads bs)
inner_downloads [] = tt
inner_downloads (a ∷ []) = (refl, tt)
inner_downloads (a ∷ b ∷ []) = (refl, tt)
inner_downloads (a ∷ b ∷ c ∷ []) = (refl, tt)
inner_downloads (a ∷ b ∷ c ∷ d ∷ []) = (refl, tt)
inner_downloads (a ∷ b ∷ c ∷ d ∷ e ∷ []) = (refl, tt)
inner_downloads (a ∷ b ∷ c ∷ d ∷ e ∷ f ∷ rest) = (refl, inner_downloads rest)

-- six bytes a command, and a last one for the rest
pub count_downloads : (bs : List ℕ) → length (downloads bs) ≡ (length bs + 5) / 6
count_downloads [] = refl
count_downloads (a ∷ []) = refl
count_downloads (a ∷ b ∷ []) = refl
count_downloads (a ∷ b ∷ c ∷ []) = refl
count_downloads (a ∷ b ∷ c ∷ d ∷ []) = refl
count_downloads (a ∷ b ∷ c ∷ d ∷ e ∷ []) = refl
count_downloads (a ∷ b ∷ c ∷ d ∷ e ∷ f ∷ rest) = omega (arith, count_downloads rest)

inner_commands : (extension : ℕ) (xs : List Chunk) → AllInner (commands_of extension xs)
inner_commands extension [] = tt
inner_commands extension (x ∷ xs) =
    inner_both (record_commands extension x.address x.bytes) (commands_of extension xs)
    (refl, inner_both (downloads x.bytes) (BuildChecksum (length x.bytes) (crc_from 0xFFFF x.bytes) ∷ []) (inner_downloads x.bytes) (refl, tt))
    (inner_commands extension xs)

crc_all_small : (crc : ℕ) (xs : List Chunk) → crc < 65536 → AllByRecursion CanBeSent xs → crc_over_all crc xs < 65536
crc_all_small crc [] h a = h
crc_all_small crc (x ∷ xs) h a = crc_all_small (crc_from crc x.bytes) xs (crc_small crc x.bytes h a.0.small) a.1

said_password : (s : Space) → password_of s < 2 ^ 16
said_password Flash = omega arith
said_password Register = omega arith
said_password Boot = omega arith
said_password Data = omega arith

pub inner_filling : (s : Space) (mask : ℕ) (xs : List Chunk) → AllInner (filling s mask xs)
unfolding preparing
inner_filling s mask xs = (refl, (refl, (refl, (refl, inner_both (commands_of (extension_of s) xs) (BuildChecksum 0 (crc_over_all 0xFFFF xs) ∷ []) (inner_commands (extension_of s) xs) (refl, tt)))))

-- records that can be sent have data that can
pub records_sent : (rs : List SourceRecord) → AllByRecursion IsRecord rs → AllByRecursion CanBeSent (chunks_of rs)
records_sent rs a = all_data CanBeSent rs (λ r c h. let l = contains_all IsRecord rs r a c in record { address = l.address; few = l.few; small = l.small })

-- each says itself
module _ (said : (c : ℕ) (x : Command) → IsCommand x → IsSaid c x) where
  said_downloads : (bs : List ℕ) → AreSaid (downloads bs)
  said_downloads [] = tt
  said_downloads (a ∷ []) = (λ n. said n (Download 1 (a ∷ 0 ∷ 0 ∷ 0 ∷ 0 ∷ [])) refl, tt)
  said_downloads (a ∷ b ∷ []) = (λ n. said n (Download 2 (a ∷ b ∷ 0 ∷ 0 ∷ 0 ∷ [])) refl, tt)
  said_downloads (a ∷ b ∷ c ∷ []) = (λ n. said n (Download 3 (a ∷ b ∷ c ∷ 0 ∷ 0 ∷ [])) refl, tt)
  said_downloads (a ∷ b ∷ c ∷ d ∷ []) = (λ n. said n (Download 4 (a ∷ b ∷ c ∷ d ∷ 0 ∷ [])) refl, tt)
  said_downloads (a ∷ b ∷ c ∷ d ∷ e ∷ []) = (λ n. said n (Download 5 (a ∷ b ∷ c ∷ d ∷ e ∷ [])) refl, tt)
  said_downloads (a ∷ b ∷ c ∷ d ∷ e ∷ f ∷ rest) = (λ n. said n (DownloadSix (a ∷ b ∷ c ∷ d ∷ e ∷ f ∷ [])) refl, said_downloads rest)

  said_commands : (extension : ℕ) (xs : List Chunk) → AllByRecursion CanBeSent xs → AreSaid (commands_of extension xs)
  said_commands extension [] a = tt
  said_commands extension (x ∷ xs) a =
      said_both (record_commands extension x.address x.bytes) (commands_of extension xs) (
        λ n. said n (SetMta 0 extension x.address) a.0.address,
        said_both (downloads x.bytes) (BuildChecksum (length x.bytes) (crc_from 0xFFFF x.bytes) ∷ []) (said_downloads x.bytes)
            (λ n. said n (BuildChecksum (length x.bytes) (crc_from 0xFFFF x.bytes)) (omega (arith, a.0.few), omega (arith, crc_small 0xFFFF x.bytes (omega arith) a.0.small)), tt),
      )
      (said_commands extension xs a.1)

  pub said_filling : (s : Space) (mask : ℕ) (xs : List Chunk) → mask < 2 ^ 32 → AllByRecursion CanBeSent xs → AreSaid (filling s mask xs)
  unfolding preparing
  said_filling s mask xs h a = (
    λ n. said n (SetMta 0 1 0) (omega arith),
    (
      λ n. said n (Unlock 2 (password_of s)) (said_password s),
      (
        λ n. said n (SetMta 0 (extension_of s) 0) (omega arith),
        (
          λ n. said n (Clear mask) h,
          said_both (commands_of (extension_of s) xs) (BuildChecksum 0 (crc_over_all 0xFFFF xs) ∷ []) (said_commands (extension_of s) xs a)
              (λ n. said n (BuildChecksum 0 (crc_over_all 0xFFFF xs)) (omega arith, omega (arith, crc_all_small 0xFFFF xs (omega arith) a)), tt),
        ),
      ),
    ),
  )
