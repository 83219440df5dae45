use Rattle.crash_safety.proofs.InFlight.{FlightLaws, either, own_parts, parts_own, with_it, without_it}
use Rattle.crash_safety.proofs.flight.entries_in_flight_are_found_or_not.Goals as goal

pub returns : goal.returns
returns c =
    let laws : FlightLaws = record {
      parts = record {
        entries = record {
          again = c.leading_entries_are_needed.ensures.again;
          sealed = c.mended_entries_stay_whole.ensures.sealed;
          one = c.mended_entries_stay_whole.ensures.one;
        };
        opens = record { head = c.sealed_blocks_open.ensures.head; payload = c.sealed_blocks_open.ensures.payload };
        exact = c.entries_are_exact.ensures;
        so_long = c.entry_lengths.ensures;
        own_places = c.parts_have_own_places.ensures;
      };
      whole = c.leading_entries_are_needed.ensures.whole;
      crashed = c.crashes_leave_new_nodes.ensures.in_order;
    } in
    record {
      either = either laws;
      with_it = with_it laws;
      without_it = without_it laws;
      all_parts = λ f w mirror image other alone left stands degraded stand. with_it laws f w mirror image other alone left stands degraded (own_parts laws f w mirror image other alone left stands degraded stand);
      a_part_lacks = λ f w mirror image other alone left stands degraded lost lacks. without_it laws f w mirror image other alone left stands degraded (λ stand. lacks (parts_own laws f w mirror image other alone left stands degraded lost stand));
    }
