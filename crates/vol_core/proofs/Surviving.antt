-- What a crash leaves of a safe core.
use Rattle.std.proofs.Common.{◌<◌, ℕ, List, Option, length, slice_index_or, sym, subst}
use Rattle.core_volume.specs.Volumes.{Volume}
use Rattle.dev_model.specs.Devices.{DevicesState, now}
use Rattle.dev_model.specs.Disk.{Image, IsCrashImage}
use Rattle.image_view.specs.Found.{Found}
use Rattle.crash_safety.specs.Safety.{IsJournalSafe, MeansOnEach}
use Rattle.crash_safety.specs.Writings.{Writing}
use Rattle.replay.specs.Mending.{IsUntorn, StandsOnAll}
use Rattle.vol_types.specs.declared.layout.Layout.{Layout}
use Rattle.vol_core.specs.Safety.{IsCoreSafe, Survives}
use Rattle.vol_core.proofs.Chains.{last_durable}

-- Each needed entry of what was found stands whole on every metadata device of the image.
abbrev pub HoldsNeeded : Found → Image → Type 0
HoldsNeeded f image = (index : ℕ) → index < length f.needed → StandsOnAll f.layout image (slice_index_or f.needed index f.last)

-- whatever a crash leaves now of a safe journal holds each entry that the last durable one needs
abbrev pub StandsWhole : Type 0
StandsWhole =
    (f : Found) (image : Image) (writing : Option Writing) (asked written : ℕ) (bases : List Found) (durable : List ℕ) (first : ℕ) (state : DevicesState) → IsJournalSafe f image writing asked written bases durable first state
    → (other : Image) → IsCrashImage (now state) other → HoldsNeeded f other

pub survives : StandsWhole → (begun : Found) (start state : DevicesState) (volume : Volume) → IsCoreSafe begun start state volume → Survives begun start state volume
survives stands begun start state volume kept = record {
  bases = kept.bases;
  durable = kept.durable;
  begins = kept.begins;
  chain = kept.chain;
  each = λ moment from to image may untorn. subst (λ (layout : Layout). MeansOnEach layout kept.bases kept.durable moment image) kept.known.layout
      (kept.safe.safe.each moment from to image may (subst (λ (layout : Layout). IsUntorn layout start.moment moment state image) (sym kept.known.layout) untorn));
  past = kept.past;
  last = kept.f;
  last_is = last_durable kept.f kept.writing kept.bases kept.durable kept.safe.bases_are;
  sequence = kept.known.sequence;
  commits = kept.known.commits;
  lead = kept.lead;
  whole = λ image may index within.
      subst (λ (layout : Layout). StandsOnAll layout image (slice_index_or kept.f.needed index kept.f.last)) kept.known.layout
      (stands kept.f kept.image kept.writing kept.asked kept.written kept.bases kept.durable start.moment state kept.safe image may index within);
}
