use Rattle.bucket_pool.specs.NodeLaws.{emptied_apart, emptied_fixed, emptied_held, emptied_held_apart, emptied_waits, kept_keeps, noded_keeps, reserved_keeps, settled_keeps, taken_apart, taken_begin, taken_devices, taken_hold, taken_past_journal}
use Rattle.bucket_pool.specs.NodeOpenings.{opened_fixed, opened_hold}
use Rattle.bucket_pool.proofs.laws.nodes_keep_their_buckets.Goals as goal

pub returns : goal.returns
returns c = record {
  taken_hold = taken_hold;
  taken_begin = taken_begin;
  taken_devices = taken_devices;
  taken_apart = taken_apart;
  taken_past_journal = taken_past_journal;
  noded = noded_keeps;
  reserved = reserved_keeps;
  kept = kept_keeps;
  settled = settled_keeps;
  emptied_waits = emptied_waits;
  emptied_apart = emptied_apart;
  emptied_held = emptied_held;
  emptied_held_apart = emptied_held_apart;
  emptied_fixed = emptied_fixed;
  opened_fixed = λ layout live nodes is. opened_fixed layout is live nodes;
  opened_hold = λ layout live nodes is. opened_hold layout is live nodes;
}
