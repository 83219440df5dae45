-- The only leaf of a btree, in memory and with what isn't durable taken back.
use Rattle.std.proofs.Common.{◌≡◌, List, [], ◌∷◌, ap, ◌∙◌}
use Rattle.std.specs.Prelude.{Err, IfOk, Ok, Result}
use Rattle.journal_writer.specs.ChangeLaws.{IsKeyMap-taken_back}
use Rattle.journal_writer.specs.Changes.{IsPartOf, undone}
use Rattle.journal_writer.specs.declared.changes.KeyChanges.{KeyChanges}
use Rattle.node_mem.specs.Nodes.{Node}
use Rattle.vol_types.specs.KeyMaps.{IsKeyMap, KeyMap, entries_of, entries_within}
use Rattle.vol_types.specs.Positions.{greatest_pos, least_pos}
use Rattle.vol_types.specs.declared.positions.Btree.{Btree}
use Rattle.vol_types.specs.declared.positions.Pos.{Pos}
use Rattle.node_writeback.proofs.Wide.{HasWidths, whole_range}

-- A key map stays one where changes are taken back.
pub key_map-undone : (changes : List KeyChanges) (keys : KeyMap) → IsKeyMap keys → IsKeyMap (undone changes keys)
key_map-undone [] keys is = is
key_map-undone (changes ∷ later) keys is = IsKeyMap-taken_back changes.updates changes.before (undone later keys) (key_map-undone later keys is)

-- A node that covers all positions and has what a btree has there has all of it.
pub whole_part : (keys : KeyMap) (btree : Btree) (node : Node) → node.least ≡ least_pos → node.greatest ≡ greatest_pos → IsPartOf keys btree node → HasWidths btree keys → node ≡ record { least = least_pos; greatest = greatest_pos; entries = entries_of keys btree }
whole_part keys btree node least greatest part wide =
    let entries : node.entries ≡ entries_of keys btree =
    part ∙ ap (λ (p : Pos). entries_within p node.greatest (entries_of keys btree)) least ∙ ap (λ (p : Pos). entries_within least_pos p (entries_of keys btree)) greatest ∙ whole_range (entries_of keys btree) wide in
    λ i. record { least = least i; greatest = greatest i; entries = entries i }

-- So has what such a node became, if there was memory.
pub whole_ok : {E : Type 0} (result : Result Node E) (keys : KeyMap) (btree : Btree) (before : Node) → before.least ≡ least_pos → before.greatest ≡ greatest_pos
    → IfOk result (λ node. node.least ≡ before.least) → IfOk result (λ node. node.greatest ≡ before.greatest) → IfOk result (IsPartOf keys btree) → HasWidths btree keys
    → IfOk result (λ node. node ≡ record { least = least_pos; greatest = greatest_pos; entries = entries_of keys btree })
whole_ok (Ok node) keys btree before first last least greatest part wide = whole_part keys btree node (least ∙ first) (greatest ∙ last) part wide
whole_ok (Err error) keys btree before first last least greatest part wide = tt
