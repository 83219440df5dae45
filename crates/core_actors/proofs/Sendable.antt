-- What an actor has under way may go to another thread, and so may the keys. Each part has a search of its own: one of the whole goes through
-- too many lemmas.
use denote.Param.Send.{IsSend, IsSync, sendable}
use Rattle.std.proofs.Crossing.{crosses}
use Rattle.std.proofs.MapsCrossing as maps
use Rattle.vol_types.specs.contracts.keys.Key as Key
use Rattle.vol_types.specs.contracts.keys.Update as Update
use Rattle.vol_types.specs.contracts.positions.Btree as Btree
use Rattle.vol_types.specs.contracts.positions.Pos as Pos
use Rattle.vol_types.specs.contracts.queries.Look as Look
use Rattle.vol_types.specs.contracts.queries.Query as Query
use Rattle.btree_map.specs.contracts.map.KeyMap as KeyMap
use Rattle.snap_tree.specs.contracts.tree.SnapTree as SnapTree
use Rattle.journal_writer.specs.contracts.stage.Stage as Stage
use Rattle.core_actors.specs.contracts.actor.Actor as Actor
use Rattle.core_actors.specs.contracts.actor.Failure as Failure
use Rattle.core_actors.specs.contracts.keys.VolumeKeys as VolumeKeys

Key-send : IsSend Key.the_row
Key-send = search (sendable, crosses) depth 60 fits 5000

pub Update-send : IsSend Update.the_row
Update-send = search (sendable, crosses) depth 60 fits 5000

Btree-send : IsSend Btree.the_row
Btree-send = search sendable depth 60 fits 5000

Pos-send : IsSend Pos.the_row
Pos-send = search sendable depth 60 fits 5000

Query-send : IsSend Query.the_row
Query-send = let a = Btree-send in let b = Pos-send in search sendable depth 60 fits 5000

Look-send : IsSend Look.the_row
Look-send = let a = Query-send in let b = Key-send in search (sendable, crosses) depth 60 fits 5000

KeyMap-send : IsSend KeyMap.the_row
KeyMap-send = search (sendable, crosses, maps.crosses) depth 60 fits 5000

SnapTree-send : IsSend SnapTree.the_row
SnapTree-send = search (sendable, crosses, maps.crosses) depth 60 fits 5000

SnapTree-sync : IsSync SnapTree.the_row
SnapTree-sync = search (sendable, crosses, maps.crosses) depth 60 fits 40000

pub VolumeKeys-send : IsSend VolumeKeys.the_row
VolumeKeys-send = let a = KeyMap-send in let b = SnapTree-send in let c = SnapTree-sync in search (sendable, crosses) depth 60 fits 5000

Failure-send : IsSend Failure.the_row
Failure-send = search sendable depth 60 fits 5000

Stage-send : IsSend Stage.the_row
Stage-send = search sendable depth 60 fits 5000

pub Actor-send : IsSend Actor.the_row
Actor-send = let a = Update-send in let b = Look-send in let c = Failure-send in let d = Stage-send in search (sendable, crosses) depth 60 fits 5000
