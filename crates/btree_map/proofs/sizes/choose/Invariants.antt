use Rattle.std.proofs.Common.{map}
use Rattle.std.specs.Prelude.{All}
use Rattle.btree_map.specs.Sizes.{change_of}
use Rattle.btree_map.specs.declared.sizes.Chosen.{Chosen}
use Rattle.vol_types.specs.Ranges.{IsKeyValue}
use Rattle.btree_map.proofs.Choosing.{IsChoosing}
use Rattle.btree_map.proofs.sizes.choose.Given as goal

abbrev pub invariant-loop-update : goal.invariant-loop-update
invariant-loop-update l = record {
  chosen : IsChoosing l.btree l.updates l.update-index (map (λ (c : Chosen). change_of c.update.now) l.chosen.items);
  in_range : All (λ (c : Chosen). IsKeyValue c.update.now.value) l.chosen.items;
}
