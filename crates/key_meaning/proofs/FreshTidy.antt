-- The key map of a fresh volume is tidy.
use Rattle.std.proofs.Common.{◌≡◌, ℕ, zero, suc, ◌<◌, ◌≤◌, true, false, None, List, [], ◌∷◌, refl, ap, arith}
use Rattle.std.specs.Prelude.{All, option_and_then}
use Rattle.plain_forest.specs.Names.{is_good_subvolume_name}
use Rattle.std.proofs.lemmas.List.Elements.{All-cons, All-nil}
use Rattle.plain_forest.specs.Forest.{first_root}
use Rattle.plain_forest.specs.Steps.{numbers_per_client}
use Rattle.vol_digest.specs.Digests.{slot_of}
use Rattle.vol_types.specs.KeyMaps.{entries_of}
use Rattle.vol_types.specs.Ranges.{IsName}
use Rattle.vol_types.specs.declared.positions.Btree.{Btree}
use Rattle.vol_types.specs.declared.positions.Btree.TheVariants.{Extents, Inodes, Dirents, Subvols, Snapshots, Alloc, Backptrs, Deleted, Counters}
use Rattle.vol_types.specs.declared.positions.Pos.{Pos}
use Rattle.vol_types.specs.declared.values.SnapState.TheVariants.{LiveLeaf}
use Rattle.vol_types.specs.declared.values.Sub.{Sub}
use Rattle.vol_types.specs.declared.values.Value.{Value}
use Rattle.vol_types.specs.declared.values.Value.TheVariants as values
use Rattle.snap_tree.specs.Snaps.{chain_of, is_ancestor_of}
use Rattle.key_meaning.specs.Blocks.{first_cover, shown_of}
use Rattle.key_meaning.specs.Forest.{inode_in, next_in}
use Rattle.key_meaning.specs.Fresh.{at_offset, counter_at, first_id, fresh_keys, main_name, main_sub}
use Rattle.key_meaning.specs.Tidy.{AreBlocksBelow, AreBlocksOwned, AreGone, AreKeysDrawn, AreNamesGood, DoFilesEnd, HasGoodNames, HasGoodSubvolumes, HasOwner, IsCounterFrom, IsDrawn, IsKeyOf, IsTidy, id_counter}
use Rattle.key_meaning.specs.Visible.{snaps_of}
use Rattle.key_meaning.proofs.FreshSound.{root_inode}

root_drawn : IsDrawn fresh_keys first_root
root_drawn = record { client = omega arith; count = omega arith }

counter_key : (counter next : ℕ) → counter ≤ 16 → IsKeyOf fresh_keys Counters (counter_at counter next)
counter_key counter next le = record { stands = record { in_leaf = λ at. refl; above = λ (lt : 0 < 0). absurd (omega (arith, lt)) }; in_range = tt; place = (refl, refl, le); id = omega arith; numbers = tt }

counter_keys : All (IsKeyOf fresh_keys Counters) (entries_of fresh_keys Counters)
counter_keys =
    All-cons (IsKeyOf fresh_keys Counters) (counter_at 0 2) (counter_at 1 1 ∷ counter_at 2 1 ∷ counter_at 3 1 ∷ counter_at 4 1 ∷ counter_at 5 1 ∷ counter_at 6 1 ∷ counter_at 7 1 ∷ counter_at 8 1 ∷ counter_at 9 1 ∷ counter_at 10 1 ∷ counter_at 11 1 ∷ counter_at 12 1 ∷ counter_at 13 1 ∷ counter_at 14 1 ∷ counter_at 15 1 ∷ counter_at 16 4294967294 ∷ []) (counter_key 0 2 (omega arith)) (
    All-cons (IsKeyOf fresh_keys Counters) (counter_at 1 1) (counter_at 2 1 ∷ counter_at 3 1 ∷ counter_at 4 1 ∷ counter_at 5 1 ∷ counter_at 6 1 ∷ counter_at 7 1 ∷ counter_at 8 1 ∷ counter_at 9 1 ∷ counter_at 10 1 ∷ counter_at 11 1 ∷ counter_at 12 1 ∷ counter_at 13 1 ∷ counter_at 14 1 ∷ counter_at 15 1 ∷ counter_at 16 4294967294 ∷ []) (counter_key 1 1 (omega arith)) (
    All-cons (IsKeyOf fresh_keys Counters) (counter_at 2 1) (counter_at 3 1 ∷ counter_at 4 1 ∷ counter_at 5 1 ∷ counter_at 6 1 ∷ counter_at 7 1 ∷ counter_at 8 1 ∷ counter_at 9 1 ∷ counter_at 10 1 ∷ counter_at 11 1 ∷ counter_at 12 1 ∷ counter_at 13 1 ∷ counter_at 14 1 ∷ counter_at 15 1 ∷ counter_at 16 4294967294 ∷ []) (counter_key 2 1 (omega arith)) (
    All-cons (IsKeyOf fresh_keys Counters) (counter_at 3 1) (counter_at 4 1 ∷ counter_at 5 1 ∷ counter_at 6 1 ∷ counter_at 7 1 ∷ counter_at 8 1 ∷ counter_at 9 1 ∷ counter_at 10 1 ∷ counter_at 11 1 ∷ counter_at 12 1 ∷ counter_at 13 1 ∷ counter_at 14 1 ∷ counter_at 15 1 ∷ counter_at 16 4294967294 ∷ []) (counter_key 3 1 (omega arith)) (
    All-cons (IsKeyOf fresh_keys Counters) (counter_at 4 1) (counter_at 5 1 ∷ counter_at 6 1 ∷ counter_at 7 1 ∷ counter_at 8 1 ∷ counter_at 9 1 ∷ counter_at 10 1 ∷ counter_at 11 1 ∷ counter_at 12 1 ∷ counter_at 13 1 ∷ counter_at 14 1 ∷ counter_at 15 1 ∷ counter_at 16 4294967294 ∷ []) (counter_key 4 1 (omega arith)) (
    All-cons (IsKeyOf fresh_keys Counters) (counter_at 5 1) (counter_at 6 1 ∷ counter_at 7 1 ∷ counter_at 8 1 ∷ counter_at 9 1 ∷ counter_at 10 1 ∷ counter_at 11 1 ∷ counter_at 12 1 ∷ counter_at 13 1 ∷ counter_at 14 1 ∷ counter_at 15 1 ∷ counter_at 16 4294967294 ∷ []) (counter_key 5 1 (omega arith)) (
    All-cons (IsKeyOf fresh_keys Counters) (counter_at 6 1) (counter_at 7 1 ∷ counter_at 8 1 ∷ counter_at 9 1 ∷ counter_at 10 1 ∷ counter_at 11 1 ∷ counter_at 12 1 ∷ counter_at 13 1 ∷ counter_at 14 1 ∷ counter_at 15 1 ∷ counter_at 16 4294967294 ∷ []) (counter_key 6 1 (omega arith)) (
    All-cons (IsKeyOf fresh_keys Counters) (counter_at 7 1) (counter_at 8 1 ∷ counter_at 9 1 ∷ counter_at 10 1 ∷ counter_at 11 1 ∷ counter_at 12 1 ∷ counter_at 13 1 ∷ counter_at 14 1 ∷ counter_at 15 1 ∷ counter_at 16 4294967294 ∷ []) (counter_key 7 1 (omega arith)) (
    All-cons (IsKeyOf fresh_keys Counters) (counter_at 8 1) (counter_at 9 1 ∷ counter_at 10 1 ∷ counter_at 11 1 ∷ counter_at 12 1 ∷ counter_at 13 1 ∷ counter_at 14 1 ∷ counter_at 15 1 ∷ counter_at 16 4294967294 ∷ []) (counter_key 8 1 (omega arith)) (
    All-cons (IsKeyOf fresh_keys Counters) (counter_at 9 1) (counter_at 10 1 ∷ counter_at 11 1 ∷ counter_at 12 1 ∷ counter_at 13 1 ∷ counter_at 14 1 ∷ counter_at 15 1 ∷ counter_at 16 4294967294 ∷ []) (counter_key 9 1 (omega arith)) (
    All-cons (IsKeyOf fresh_keys Counters) (counter_at 10 1) (counter_at 11 1 ∷ counter_at 12 1 ∷ counter_at 13 1 ∷ counter_at 14 1 ∷ counter_at 15 1 ∷ counter_at 16 4294967294 ∷ []) (counter_key 10 1 (omega arith)) (
    All-cons (IsKeyOf fresh_keys Counters) (counter_at 11 1) (counter_at 12 1 ∷ counter_at 13 1 ∷ counter_at 14 1 ∷ counter_at 15 1 ∷ counter_at 16 4294967294 ∷ []) (counter_key 11 1 (omega arith)) (
    All-cons (IsKeyOf fresh_keys Counters) (counter_at 12 1) (counter_at 13 1 ∷ counter_at 14 1 ∷ counter_at 15 1 ∷ counter_at 16 4294967294 ∷ []) (counter_key 12 1 (omega arith)) (
    All-cons (IsKeyOf fresh_keys Counters) (counter_at 13 1) (counter_at 14 1 ∷ counter_at 15 1 ∷ counter_at 16 4294967294 ∷ []) (counter_key 13 1 (omega arith)) (
    All-cons (IsKeyOf fresh_keys Counters) (counter_at 14 1) (counter_at 15 1 ∷ counter_at 16 4294967294 ∷ []) (counter_key 14 1 (omega arith)) (
    All-cons (IsKeyOf fresh_keys Counters) (counter_at 15 1) (counter_at 16 4294967294 ∷ []) (counter_key 15 1 (omega arith)) (
    All-cons (IsKeyOf fresh_keys Counters) (counter_at 16 4294967294) ([]) (counter_key 16 4294967294 (omega arith)) (
    All-nil (IsKeyOf fresh_keys Counters))))))))))))))))))

client_counter : (client : ℕ) → client < 16 → IsCounterFrom fresh_keys 1 numbers_per_client client
client_counter zero lt = record { there = refl; in_range = (omega arith, omega arith) }
client_counter (suc zero) lt = record { there = refl; in_range = (omega arith, omega arith) }
client_counter (suc (suc zero)) lt = record { there = refl; in_range = (omega arith, omega arith) }
client_counter (suc (suc (suc zero))) lt = record { there = refl; in_range = (omega arith, omega arith) }
client_counter (suc (suc (suc (suc zero)))) lt = record { there = refl; in_range = (omega arith, omega arith) }
client_counter (suc (suc (suc (suc (suc zero))))) lt = record { there = refl; in_range = (omega arith, omega arith) }
client_counter (suc (suc (suc (suc (suc (suc zero)))))) lt = record { there = refl; in_range = (omega arith, omega arith) }
client_counter (suc (suc (suc (suc (suc (suc (suc zero))))))) lt = record { there = refl; in_range = (omega arith, omega arith) }
client_counter (suc (suc (suc (suc (suc (suc (suc (suc zero)))))))) lt = record { there = refl; in_range = (omega arith, omega arith) }
client_counter (suc (suc (suc (suc (suc (suc (suc (suc (suc zero))))))))) lt = record { there = refl; in_range = (omega arith, omega arith) }
client_counter (suc (suc (suc (suc (suc (suc (suc (suc (suc (suc zero)))))))))) lt = record { there = refl; in_range = (omega arith, omega arith) }
client_counter (suc (suc (suc (suc (suc (suc (suc (suc (suc (suc (suc zero))))))))))) lt = record { there = refl; in_range = (omega arith, omega arith) }
client_counter (suc (suc (suc (suc (suc (suc (suc (suc (suc (suc (suc (suc zero)))))))))))) lt = record { there = refl; in_range = (omega arith, omega arith) }
client_counter (suc (suc (suc (suc (suc (suc (suc (suc (suc (suc (suc (suc (suc zero))))))))))))) lt = record { there = refl; in_range = (omega arith, omega arith) }
client_counter (suc (suc (suc (suc (suc (suc (suc (suc (suc (suc (suc (suc (suc (suc zero)))))))))))))) lt = record { there = refl; in_range = (omega arith, omega arith) }
client_counter (suc (suc (suc (suc (suc (suc (suc (suc (suc (suc (suc (suc (suc (suc (suc zero))))))))))))))) lt = record { there = refl; in_range = (omega arith, omega arith) }
client_counter (suc (suc (suc (suc (suc (suc (suc (suc (suc (suc (suc (suc (suc (suc (suc (suc n)))))))))))))))) lt = absurd (omega (arith, lt))

keys_drawn : (btree : Btree) → All (IsKeyOf fresh_keys btree) (entries_of fresh_keys btree)
keys_drawn Extents = All-nil (IsKeyOf fresh_keys Extents)
keys_drawn Inodes = All-cons (IsKeyOf fresh_keys Inodes) (record { inode = 0; offset = first_root; snapshot = first_id }, values.Inode root_inode) [] root_key (All-nil (IsKeyOf fresh_keys Inodes))
  where
    root_key : IsKeyOf fresh_keys Inodes (record { inode = 0; offset = first_root; snapshot = first_id }, values.Inode root_inode)
    root_key = record { stands = record { in_leaf = λ at. refl; above = λ (lt : 0 < 0). absurd (omega (arith, lt)) }; in_range = record { links = (omega arith, omega arith); size = omega arith }; place = refl; id = omega arith; numbers = root_drawn }
keys_drawn Dirents = All-nil (IsKeyOf fresh_keys Dirents)
keys_drawn Subvols = All-cons (IsKeyOf fresh_keys Subvols) (at_offset (slot_of main_name) (values.Subs (main_sub ∷ []))) [] main_key (All-nil (IsKeyOf fresh_keys Subvols))
  where
    main_key : IsKeyOf fresh_keys Subvols (at_offset (slot_of main_name) (values.Subs (main_sub ∷ [])))
    main_key = record {
      stands = record { in_leaf = λ at. refl; above = λ (lt : 0 < 0). absurd (omega (arith, lt)) };
      in_range = record { count = (omega arith, omega arith); each = All-cons (λ sub. IsName sub.name) main_sub [] (omega arith, omega arith) (All-nil (λ sub. IsName sub.name)); rise = (tt, tt) };
      place = (refl, refl);
      id = omega arith;
      numbers = All-cons (λ sub. IsDrawn fresh_keys sub.root) main_sub [] root_drawn (All-nil (λ sub. IsDrawn fresh_keys sub.root));
    }
keys_drawn Snapshots = All-cons (IsKeyOf fresh_keys Snapshots) first_entry [] first_key (All-nil (IsKeyOf fresh_keys Snapshots))
  where
    first_entry : Pos × Value
    first_entry = at_offset first_id (values.Snap (record { parent = 0; first_child = 0; second_child = 0; state = LiveLeaf }))

    first_key : IsKeyOf fresh_keys Snapshots first_entry
    first_key = record { stands = record { in_leaf = λ at. refl; above = λ (lt : 0 < 0). absurd (omega (arith, lt)) }; in_range = tt; place = (refl, refl, omega arith); id = omega arith; numbers = tt }
keys_drawn Alloc = All-nil (IsKeyOf fresh_keys Alloc)
keys_drawn Backptrs = All-nil (IsKeyOf fresh_keys Backptrs)
keys_drawn Deleted = All-nil (IsKeyOf fresh_keys Deleted)
keys_drawn Counters = counter_keys

drawn : AreKeysDrawn fresh_keys
drawn = record {
  each = keys_drawn;
  ids = All-cons (λ (entry : Pos × Value). next_in fresh_keys id_counter < entry.0.offset) (at_offset first_id (values.Snap (record { parent = 0; first_child = 0; second_child = 0; state = LiveLeaf }))) [] (omega arith) (All-nil (λ (entry : Pos × Value). next_in fresh_keys id_counter < entry.0.offset));
  clients = client_counter;
  id_counter_there = record { there = refl; in_range = (omega arith, omega arith) };
}

named : AreNamesGood fresh_keys
named = record {
  subvolumes = All-cons HasGoodSubvolumes (at_offset (slot_of main_name) (values.Subs (main_sub ∷ []))) [] (All-cons (λ (sub : Sub). (slot_of sub.name ≡ slot_of main_name) × (is_good_subvolume_name sub.name ≡ true)) main_sub [] (refl, refl) (All-nil (λ (sub : Sub). (slot_of sub.name ≡ slot_of main_name) × (is_good_subvolume_name sub.name ≡ true)))) (All-nil HasGoodSubvolumes);
  names = All-nil HasGoodNames;
}

below : AreBlocksBelow fresh_keys
below = record { each = λ id descendant number is none some. All-nil (λ (entry : Pos × Value). entry.0.inode ≡ number → is_ancestor_of (snaps_of fresh_keys) entry.0.snapshot id ≡ false) }

-- no extent or hole stands there
no_covers : (file block : ℕ) (ids : List ℕ) → first_cover fresh_keys file block ids ≡ None
no_covers file block [] = refl
no_covers file block (id ∷ ids) = no_covers file block ids

ends : DoFilesEnd fresh_keys
ends = record { each = λ id number block inode leaf found behind. ap (option_and_then (shown_of block)) (no_covers number block (chain_of (snaps_of fresh_keys) id)) }

gone : AreGone fresh_keys
gone = record { each = All-nil (λ (entry : Pos × Value). inode_in fresh_keys entry.0.snapshot entry.0.offset ≡ None) }

owned : AreBlocksOwned fresh_keys
owned = record { each = All-nil (HasOwner fresh_keys) }

pub fresh_is_tidy : IsTidy fresh_keys
fresh_is_tidy = record { drawn = drawn; named = named; below = below; ends = ends; gone = gone; owned = owned }
