-- The boards of the examples meet what is asked of them. Assumes nothing.
use Rattle.std.proofs.Common.{◌≡◌, ℕ, true, ◌-◌, ◌/◌, ◌%◌, ◌^◌, ◌≤◌, ◌<◌, List, [], ◌∷◌, length, zero, suc, refl, ap, inl, inr, arith}
use Rattle.std.specs.Prelude.{is_some, replicate}
use Rattle.std.specs.List.{AllByRecursion}
use Rattle.std.proofs.lemmas.Bool.Decides.{nat_tests}
use Rattle.memory.specs.Crossing.{crossed}
use Rattle.memory.specs.Flash.{flash_shape}
use Rattle.memory.specs.Shapes.{flash-shaped, crossed-shaped}
use Rattle.bootloader.specs.Memories.{Memory, takes_from, place}
use Rattle.bootloader.specs.Events.{board_behind}
use Rattle.bootloader.specs.Reach.{IsReached, IsLawful}
use Rattle.geometry.specs.declared.rows.Row.{Row}
use Rattle.loading.specs.Examples.{bench_flash, bench_eeprom, bench, put_once, odd_flash, odd_eeprom, odd, LoadExamples}
use Rattle.loading.specs.Loaded.{IsMadeTo, LiesIn}
use Rattle.loading.specs.Source.{SourceRecord, AreLoadable}
use Rattle.loading.proofs.Listing.{contains_all}

all_small : (v n : ℕ) → v < 256 → AllByRecursion (λ b. b < 256) (replicate n v)
all_small v zero h = tt
all_small v (suc n) h = (h, all_small v n h)

-- the other byte of a word of the bench lies in the same sector
same_sector : (o : ℕ) → o < 128 → crossed 128 o / 32 ≡ o / 32
same_sector o h = grind (arith, nat_tests)

lawful_flash : IsLawful bench_flash
lawful_flash = record {
  width = inr refl;
  shape = crossed-shaped (replicate 128 255) (flash_shape (record { sectors = 4; size = 32 })) (flash-shaped 128 (record { sectors = 4; size = 32 }) (omega arith) (omega arith));
  limited = omega arith;
  small = all_small 255 128 (omega arith);
}

lawful_eeprom : IsLawful bench_eeprom
lawful_eeprom = record {
  width = inl refl;
  shape = record { some_unit = omega arith; few_units = omega arith; in_unit = λ o h. omega arith; takes_same = λ o v h b. refl; takes_blank = λ o v h b. refl };
  limited = omega arith;
  small = all_small 255 64 (omega arith);
}

takes_itself : (o v : ℕ) → put_once o v v ≡ true
takes_itself o v = grind (arith, nat_tests)

lawful_odd_flash : IsLawful odd_flash
lawful_odd_flash = record {
  width = inr refl;
  shape = record { some_unit = omega arith; few_units = omega arith; in_unit = λ o h. omega arith; takes_same = λ o v h b. takes_itself o v; takes_blank = λ o v h b. refl };
  limited = omega arith;
  small = all_small 0x5A 128 (omega arith);
}

lawful_odd : (units : ℕ) → 1 ≤ units → units ≤ 32 → IsLawful (odd_eeprom units)
lawful_odd units some few = record {
  width = inl refl;
  shape = record { some_unit = some; few_units = few; in_unit = λ o h. omega (arith, some); takes_same = λ o v h b. takes_itself o v; takes_blank = λ o v h b. refl };
  limited = omega arith;
  small = all_small 255 64 (omega arith);
}

-- both flashes are made to the row
abbrev bench_row : Row
bench_row = record { base = 0x1000; sectors = 4; words = 0x10 }

made_bench : IsMadeTo bench_row bench_flash
made_bench = record { base = refl; width = refl; long = refl; units = refl; unit_of = λ o h. ap (λ q. 4 - 1 - q) (same_sector o h) }

made_odd : IsMadeTo bench_row odd_flash
made_odd = record { base = refl; width = refl; long = refl; units = refl; unit_of = λ o h. refl }

bench_reached : IsReached bench
unfolding board_behind
bench_reached = record { first = bench; fresh = refl; flash = lawful_flash; boot = lawful_eeprom; eeprom = lawful_eeprom; events = []; bytes = tt; came = refl }

odd_reached : IsReached odd
unfolding board_behind
odd_reached = record { first = odd; fresh = refl; flash = lawful_odd_flash; boot = lawful_odd 2 (omega arith) (omega arith); eeprom = lawful_odd 3 (omega arith) (omega arith); events = []; bytes = tt; came = refl }

-- two bytes at an address
abbrev two_at : ℕ → List SourceRecord
two_at a = record { line = 1; address = a; bytes = 0x12 ∷ 0x34 ∷ [] } ∷ []

two_loadable : (w a : ℕ) → a < 2 ^ 32 → 2 % w ≡ 0 → AreLoadable w (two_at a)
two_loadable w a small whole = record {
  lawful = (record { address = small; few = omega arith; small = (omega arith, (omega arith, tt)) }, tt);
  whole = ((λ some. whole), tt);
  rising = ((λ some. tt), tt);
  some = λ none. omega (arith, none.0);
}

two_inside : (m : Memory) (a : ℕ) → is_some (place m a 2) ≡ true → LiesIn (two_at a) m
two_inside m a h = λ r c some. contains_all (λ x. 0 < length x.bytes → is_some (place m x.address (length x.bytes)) ≡ true) (two_at a) r ((λ k. h), tt) c some

pub examples : LoadExamples
unfolding takes_from lib.Count.ones
examples = record {
  reports = record { loaded = refl; file = refl; outside = refl; unlisted = refl; refused = refl; silent = refl; two = refl; one = refl };
  bench_flash = record { listed = record { row = bench_row; listed = refl; flash = made_bench; boot = record { base = refl; width = refl }; eeprom = record { base = refl; width = refl }; size = tt }; reached = bench_reached; awake = refl; sealed = λ rs contents h. refl; records = two_at 0x1000; loadable = two_loadable 2 0x1000 (omega arith) refl; inside = two_inside bench_flash 0x1000 refl };
  bench_boot = record { listed = record { row = bench_row; listed = refl; flash = made_bench; boot = record { base = refl; width = refl }; eeprom = record { base = refl; width = refl }; size = refl }; reached = bench_reached; awake = refl; sealed = λ rs. tt; records = two_at 0; loadable = two_loadable 1 0 (omega arith) refl; inside = two_inside bench_eeprom 0 refl };
  bench_data = record { listed = record { row = bench_row; listed = refl; flash = made_bench; boot = record { base = refl; width = refl }; eeprom = record { base = refl; width = refl }; size = refl }; reached = bench_reached; awake = refl; sealed = λ rs. tt; records = two_at 0; loadable = two_loadable 1 0 (omega arith) refl; inside = two_inside bench_eeprom 0 refl };
  odd_flash = record { listed = record { row = bench_row; listed = refl; flash = made_odd; boot = record { base = refl; width = refl }; eeprom = record { base = refl; width = refl }; size = tt }; reached = odd_reached; awake = refl; sealed = λ rs contents h. refl; records = two_at 0x1000; loadable = two_loadable 2 0x1000 (omega arith) refl; inside = two_inside odd_flash 0x1000 refl };
  odd_boot = record { listed = record { row = bench_row; listed = refl; flash = made_odd; boot = record { base = refl; width = refl }; eeprom = record { base = refl; width = refl }; size = refl }; reached = odd_reached; awake = refl; sealed = λ rs. tt; records = two_at 0; loadable = two_loadable 1 0 (omega arith) refl; inside = two_inside (odd_eeprom 2) 0 refl };
  odd_data = record { listed = record { row = bench_row; listed = refl; flash = made_odd; boot = record { base = refl; width = refl }; eeprom = record { base = refl; width = refl }; size = refl }; reached = odd_reached; awake = refl; sealed = λ rs. tt; records = two_at 0; loadable = two_loadable 1 0 (omega arith) refl; inside = two_inside (odd_eeprom 3) 0 refl };
}
