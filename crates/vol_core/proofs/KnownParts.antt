-- What is known of the last durable entry, and of the one in flight, hangs on some parts of a volume alone.
use Rattle.std.proofs.Common.{◌≡◌, ℕ, Option, Some, None, sym, ap, ◌∙◌}
use Rattle.core_volume.specs.Volumes.{Volume}
use Rattle.journal_writer.specs.Queues.{record_of}
use Rattle.journal_writer.specs.declared.durable.Durable.{Durable}
use Rattle.journal_writer.specs.declared.writer.Flight.{Flight}
use Rattle.image_view.specs.Found.{Found}
use Rattle.journal_ring.specs.Rings.{RingState, flight_number}
use Rattle.crash_safety.specs.Writings.{Writing}
use Rattle.vol_core.specs.Entries.{FliesAs, IsKnown}

-- What is known of the last durable entry hangs on these.
pub known_also : (f : Found) (one other : Volume) → IsKnown f one → other.layout ≡ one.layout → other.session ≡ one.session → other.writer.durable ≡ one.writer.durable → IsKnown f other
known_also f one other known layout session durable = record {
  layout = known.layout ∙ sym layout;
  session = known.session ∙ sym session;
  sequence = known.sequence ∙ ap (λ (d : Durable). d.sequence) (sym durable);
  commits = known.commits ∙ ap (λ (d : Durable). d.commits) (sym durable);
  oldest = known.oldest ∙ ap (λ (d : Durable). d.oldest) (sym durable);
  some = known.some;
  count = known.count;
}

-- What is known of the entry in flight hangs on these.
pub flies_also : (f : Found) (flight : Option Flight) (writing : Option Writing) (asked written : ℕ) (one other : Volume) → FliesAs f flight writing asked written one → other.session ≡ one.session → other.writer.ring ≡ one.writer.ring → FliesAs f flight writing asked written other
flies_also f None None asked written one other flies session ring = record {
  end = flies.end ∙ ap (λ (r : RingState). r.next) (sym ring);
  unasked = flies.unasked;
  unwritten = flies.unwritten;
}
flies_also f None (Some w) asked written one other flies session ring = flies
flies_also f (Some flight) None asked written one other flies session ring = flies
flies_also f (Some flight) (Some w) asked written one other flies session ring = record {
  entry = flies.entry ∙ ap (λ (s : ℕ). record_of flight.oldest s w.next.entry.roots flight.entry) (sym session);
  number = ap flight_number ring ∙ flies.number;
  end = flies.end ∙ ap (λ (r : RingState). r.next) (sym ring);
  blocks = ap (λ (r : RingState). r.blocks) ring ∙ flies.blocks;
  written_is = ap (λ (r : RingState). r.written) ring ∙ flies.written_is;
  some = flies.some;
  few = flies.few;
  asked_for = flies.asked_for;
  leaves = flies.leaves;
  keys = flies.keys;
}
