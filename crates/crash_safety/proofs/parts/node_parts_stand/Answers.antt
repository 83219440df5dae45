use Rattle.journal_ring.specs.Rings.{IsPartAsked, IsPartPlace}
use Rattle.key_meaning.specs.Checks.{IsNodePlaced}
use Rattle.node_store.specs.Plans.{part_bytes}
use Rattle.node_store.specs.Writes.{IsCopyBlock, IsCopyOf}
use Rattle.std.proofs.Common.{◌+◌, arith}
use Rattle.std.proofs.lemmas.List.Elements.{All-contains}
use Rattle.crash_safety.specs.LeafLaws.{parts_elsewhere, parts_off}
use Rattle.crash_safety.proofs.OtherBuckets.{part_off}
use Rattle.crash_safety.proofs.Flushed.{parts_flushed, parts_read}
use Rattle.crash_safety.proofs.WrittenParts.{leaf_written, part_more, parts_stay}
use Rattle.crash_safety.proofs.parts.node_parts_stand.Goals as goal

pub returns : goal.returns
returns c = record {
  none = λ blocked state part less. absurd (omega (arith, less));
  next = λ layout fresh blocked part old new mirrored same. part_more layout fresh blocked part mirrored same old new;
  failed = λ layout fresh blocked part failed old new mirrored same. parts_stay layout fresh blocked part mirrored same failed old new;
  entry_parts = λ image f w written ring failed blocked count old new finds is part placed.
      parts_elsewhere blocked count (IsPartPlace ring) (IsPartAsked ring) old new part.at
      (λ n place less there. part_off image f w written ring finds is place (All-contains (IsNodePlaced f.layout) blocked.places place placed there) (blocked.block + n));
  node_parts = λ other part failed fresh blocked count old new written off same few.
      parts_elsewhere blocked count (IsCopyOf other.places (other.block + part)) (IsCopyBlock other.places (other.block + part) (part_bytes other part)) old new written.at
      (parts_off blocked count (IsCopyOf other.places (other.block + part)) fresh same few off);
  flushes = parts_flushed;
  reads = parts_read;
  written = leaf_written;
}
