use Rattle.std.proofs.Common.{◌≡◌, ◌++◌, false, map, append_assoc}
use Rattle.std.proofs.lemmas.List.Elements.{All-append, All-weaker}
use Rattle.key_meaning.specs.Checks.{IsBucketKey}
use Rattle.key_triggers.specs.Expanding.{owners_of, tallies_of}
use Rattle.key_triggers.specs.Follows.{IsNoSpaceUpdate, IsSpaceUpdate}
use Rattle.key_triggers.specs.Owners.{owner_update}
use Rattle.key_triggers.specs.Stamps.{stamped}
use Rattle.key_triggers.specs.Tallies.{live_update}
use Rattle.key_triggers.proofs.Fitting.{expanded_fit}
use Rattle.key_triggers.proofs.Following.{generations_new}
use Rattle.key_triggers.proofs.Space.{back_new, blocks_counted, blocks_placed, extent_at, generations_all}
use Rattle.key_triggers.proofs.Zeros.{expanded_keys, lives_of_space, owners_of_space, space_at_zero}
use Rattle.vol_types.specs.KeyMaps.{is_update_of}
use Rattle.vol_types.specs.declared.keys.Update.{Update}
use Rattle.vol_types.specs.declared.positions.Btree.TheVariants.{Alloc, Backptrs}
use Rattle.vol_types.specs.declared.positions.Pos.{Pos}
use Rattle.vol_types.specs.declared.values.Value.{Value}
use Rattle.key_triggers.proofs.laws.expanded_keys_follow.Goals as goal

pub returns : goal.returns
returns c = record {
  expanded = λ keys updates. record {
    space = map (live_update keys) (tallies_of keys updates) ++ map owner_update (owners_of keys updates);
    are = append_assoc (map (stamped keys) updates) (map (live_update keys) (tallies_of keys updates)) (map owner_update (owners_of keys updates));
    only_space = All-append IsSpaceUpdate (map (live_update keys) (tallies_of keys updates)) (map owner_update (owners_of keys updates)) (lives_of_space keys (tallies_of keys updates)) (owners_of_space (owners_of keys updates));
    at_zero = space_at_zero keys updates;
  };
  fits = expanded_fit;
  follows = λ keys updates nodes layout may. record {
    counted = record {
      blocks = blocks_counted keys updates nodes layout may;
      generations = generations_all keys updates nodes layout may;
      buckets = expanded_keys IsBucketKey Alloc keys updates (λ pos put zero. record { in_use = λ live is some. zero })
          (All-weaker IsNoSpaceUpdate (λ (update : Update). is_update_of Alloc update ≡ false) (λ update apart. apart.bucket) updates may.apart) may.counted.buckets;
      back = back_new keys updates nodes layout may;
      back_keys = expanded_keys (λ (entry : Pos × Value). entry.0.snapshot ≡ 0) Backptrs keys updates (λ pos put zero. zero)
          (All-weaker IsNoSpaceUpdate (λ (update : Update). is_update_of Backptrs update ≡ false) (λ update apart. apart.block) updates may.apart) may.counted.back_keys;
    };
    placed = blocks_placed keys updates nodes layout may;
    extents = extent_at keys updates nodes layout may;
    generations = generations_new keys updates nodes layout may;
  };
}
