-- The set of keys of each root may be stored.
use Rattle.std.proofs.Common.{◌≡◌, ◌≢◌, ◌^◌, ◌<◌, true, List, [], refl, ap, ◌∙◌, sym, arith}
use Rattle.std.specs.List.{range_with_len}
use Rattle.std.specs.Ordering.{is_le}
use Rattle.std.specs.declared.cmp.Ordering.{Ordering}
use Rattle.std.specs.declared.cmp.Ordering.TheVariants.{Greater}
use Rattle.std.proofs.lemmas.Bool.{false≢true}
use Rattle.std.proofs.lemmas.List.Elements.{All-cons, All-map, All-nil}
use Rattle.vol_digest.specs.Digests.{slot_of}
use Rattle.vol_types.specs.Btrees.{btree_code}
use Rattle.vol_types.specs.FollowerLaws.{greatest-last, least-first}
use Rattle.vol_types.specs.KeyMaps.{entries_of, keys_in}
use Rattle.vol_types.specs.Positions.{IsWithin, greatest_pos, least_pos, pos_cmp}
use Rattle.vol_types.specs.Ranges.{IsKeyValue, IsName}
use Rattle.vol_types.specs.Standing.{Stands}
use Rattle.vol_types.specs.Widths.{PosFits}
use Rattle.vol_types.specs.declared.keys.Key.{Key}
use Rattle.vol_types.specs.declared.positions.Btree.{Btree}
use Rattle.vol_types.specs.declared.positions.Btree.TheVariants.{Extents, Inodes, Dirents, Subvols, Snapshots, Alloc, Backptrs, Deleted, Counters}
use Rattle.vol_types.specs.declared.positions.Pos.{Pos}
use Rattle.vol_types.specs.declared.values.Sub.{Sub}
use Rattle.key_meaning.specs.Fresh.{fresh_keys, main_name, main_sub}
use Rattle.record_codec.specs.Sets.{IsSetInRange}
use Rattle.vol_format.specs.Fresh.{root_set}
use Rattle.vol_format.proofs.CounterKeys.{counter_key}
use Rattle.vol_format.proofs.Roots.{All-range}

not_greater : (o : Ordering) → is_le o ≡ true → o ≢ Greater
not_greater o le is = false≢true (sym (ap is_le is) ∙ le)

-- A root covers every position.
covers : (p : Pos) → PosFits p → IsWithin least_pos greatest_pos p
covers p fits = (not_greater (pos_cmp least_pos p) (least-first p fits), not_greater (pos_cmp p greatest_pos) (greatest-last p fits))

-- the keys of a root
abbrev keys_at : Btree → List Key
keys_at btree = keys_in (entries_of fresh_keys btree)

-- The set of a root may be stored.
pub set_in_range : (btree : Btree) → slot_of main_name < 2 ^ 64 → IsSetInRange (root_set (btree_code btree))
set_in_range Extents slot = record { few = omega arith; rise = tt; covered = All-nil (λ (key : Key). IsWithin least_pos greatest_pos key.pos); stand = All-nil (λ (key : Key). Stands Extents 0 key.value); in_range = All-nil (λ (key : Key). IsKeyValue key.value) }
set_in_range Dirents slot = record { few = omega arith; rise = tt; covered = All-nil (λ (key : Key). IsWithin least_pos greatest_pos key.pos); stand = All-nil (λ (key : Key). Stands Dirents 0 key.value); in_range = All-nil (λ (key : Key). IsKeyValue key.value) }
set_in_range Alloc slot = record { few = omega arith; rise = tt; covered = All-nil (λ (key : Key). IsWithin least_pos greatest_pos key.pos); stand = All-nil (λ (key : Key). Stands Alloc 0 key.value); in_range = All-nil (λ (key : Key). IsKeyValue key.value) }
set_in_range Backptrs slot = record { few = omega arith; rise = tt; covered = All-nil (λ (key : Key). IsWithin least_pos greatest_pos key.pos); stand = All-nil (λ (key : Key). Stands Backptrs 0 key.value); in_range = All-nil (λ (key : Key). IsKeyValue key.value) }
set_in_range Deleted slot = record { few = omega arith; rise = tt; covered = All-nil (λ (key : Key). IsWithin least_pos greatest_pos key.pos); stand = All-nil (λ (key : Key). Stands Deleted 0 key.value); in_range = All-nil (λ (key : Key). IsKeyValue key.value) }
set_in_range Inodes slot = record {
  few = omega arith;
  rise = (tt, tt);
  covered = All-cons (λ (key : Key). IsWithin least_pos greatest_pos key.pos) _ [] (covers (record { inode = 0; offset = 1; snapshot = 4294967295 }) (record { inode = omega arith; offset = omega arith; snapshot = omega arith })) (All-nil (λ (key : Key). IsWithin least_pos greatest_pos key.pos));
  stand = All-cons (λ (key : Key). Stands Inodes 0 key.value) _ [] (record { in_leaf = λ leaf. refl; above = λ some. absurd (omega (arith, some)) }) (All-nil (λ (key : Key). Stands Inodes 0 key.value));
  in_range = All-cons (λ (key : Key). IsKeyValue key.value) _ [] (record { links = (omega arith, omega arith); size = omega arith }) (All-nil (λ (key : Key). IsKeyValue key.value));
}
set_in_range Subvols slot = record {
  few = omega arith;
  rise = (tt, tt);
  covered = All-cons (λ (key : Key). IsWithin least_pos greatest_pos key.pos) _ [] (covers (record { inode = 0; offset = slot_of main_name; snapshot = 0 }) (record { inode = omega arith; offset = slot; snapshot = omega arith })) (All-nil (λ (key : Key). IsWithin least_pos greatest_pos key.pos));
  stand = All-cons (λ (key : Key). Stands Subvols 0 key.value) _ [] (record { in_leaf = λ leaf. refl; above = λ some. absurd (omega (arith, some)) }) (All-nil (λ (key : Key). Stands Subvols 0 key.value));
  in_range = All-cons (λ (key : Key). IsKeyValue key.value) _ [] (record { count = (omega arith, omega arith); each = All-cons (λ (sub : Sub). IsName sub.name) main_sub [] (omega arith, omega arith) (All-nil (λ (sub : Sub). IsName sub.name)); rise = (tt, tt) }) (All-nil (λ (key : Key). IsKeyValue key.value));
}
set_in_range Snapshots slot = record {
  few = omega arith;
  rise = (tt, tt);
  covered = All-cons (λ (key : Key). IsWithin least_pos greatest_pos key.pos) _ [] (covers (record { inode = 0; offset = 4294967295; snapshot = 0 }) (record { inode = omega arith; offset = omega arith; snapshot = omega arith })) (All-nil (λ (key : Key). IsWithin least_pos greatest_pos key.pos));
  stand = All-cons (λ (key : Key). Stands Snapshots 0 key.value) _ [] (record { in_leaf = λ leaf. refl; above = λ some. absurd (omega (arith, some)) }) (All-nil (λ (key : Key). Stands Snapshots 0 key.value));
  in_range = All-cons (λ (key : Key). IsKeyValue key.value) _ [] tt (All-nil (λ (key : Key). IsKeyValue key.value));
}
set_in_range Counters slot = record {
  few = omega arith;
  rise = (tt, (refl, (refl, (refl, (refl, (refl, (refl, (refl, (refl, (refl, (refl, (refl, (refl, (refl, (refl, (refl, (refl, tt)))))))))))))))));
  covered = All-map (λ (key : Key). IsWithin least_pos greatest_pos key.pos) counter_key (range_with_len 0 17)
      (All-range (λ n. IsWithin least_pos greatest_pos (counter_key n).pos) 0 17 (λ n low high. covers (counter_key n).pos (record { inode = omega arith; offset = omega (arith, high); snapshot = omega arith })));
  stand = All-map (λ (key : Key). Stands Counters 0 key.value) counter_key (range_with_len 0 17) (All-range (λ n. Stands Counters 0 (counter_key n).value) 0 17 (λ n low high. record { in_leaf = λ leaf. refl; above = λ some. absurd (omega (arith, some)) }));
  in_range = All-map (λ (key : Key). IsKeyValue key.value) counter_key (range_with_len 0 17) (All-range (λ n. IsKeyValue (counter_key n).value) 0 17 (λ n low high. tt));
}
