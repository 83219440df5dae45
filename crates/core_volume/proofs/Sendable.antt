-- What is kept of a volume in memory may go to another thread. Each part has a search of its own: one of the whole goes through too many
-- lemmas.
use denote.Param.Send.{IsSend, sendable}
use Rattle.std.proofs.Crossing.{crosses}
use Rattle.bucket_pool.specs.contracts.pool.Pool as Pool
use Rattle.pin_list.specs.contracts.PinList as PinList
use Rattle.pin_list.specs.contracts.tree.Tree as Tree
use Rattle.pin_list.proofs.tree.Tree.TheLaws.TheKnot.{send-Tree}
use Rattle.journal_ring.specs.contracts.ring.Ring as Ring
use Rattle.dirty_nodes.specs.contracts.dirty.DirtyNodes as DirtyNodes
use Rattle.journal_writer.specs.contracts.changes.Pending as Pending
use Rattle.journal_writer.specs.contracts.queue.EntryQueue as EntryQueue
use Rattle.journal_writer.specs.contracts.durable.Durable as Durable
use Rattle.journal_writer.specs.contracts.writer.EntryWriter as EntryWriter
use Rattle.journal_writer.specs.contracts.writer.Flight as Flight
use Rattle.core_actors.proofs.Sendable.{VolumeKeys-send}
use Rattle.core_volume.specs.contracts.volume.Volume as Volume

Tree-send : IsSend Tree.the_row
Tree-send = send-Tree (λ h s. search (sendable, crosses) depth 20 fits 5000) (search sendable depth 20)

PinList-send : IsSend PinList.the_row
PinList-send = let t = Tree-send in search (sendable, crosses) depth 40 fits 5000

DirtyNodes-send : IsSend DirtyNodes.the_row
DirtyNodes-send = let pins = PinList-send in search (sendable, crosses) depth 60 fits 5000

Pool-send : IsSend Pool.the_row
Pool-send = search (sendable, crosses) depth 60 fits 5000

Pending-send : IsSend Pending.the_row
Pending-send = search (sendable, crosses) depth 60 fits 5000

EntryQueue-send : IsSend EntryQueue.the_row
EntryQueue-send = search (sendable, crosses) depth 60 fits 5000

Ring-send : IsSend Ring.the_row
Ring-send = search (sendable, crosses) depth 60 fits 5000

Flight-send : IsSend Flight.the_row
Flight-send = let pending = Pending-send in search (sendable, crosses) depth 60 fits 5000

Durable-send : IsSend Durable.the_row
Durable-send = search sendable depth 60 fits 5000

EntryWriter-send : IsSend EntryWriter.the_row
EntryWriter-send = let a = Ring-send in let b = Flight-send in let c = Durable-send in search (sendable, crosses) depth 60 fits 5000

pub Volume-send : IsSend Volume.the_row
Volume-send =
    let a = VolumeKeys-send in let b = EntryQueue-send in let c = DirtyNodes-send in let d = Pool-send in let e = EntryWriter-send in
    search (sendable, crosses) depth 60 fits 5000
