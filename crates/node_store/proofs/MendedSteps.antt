-- What each step of mending writes: at one place, at each place of a block, and block by block.
use Rattle.std.proofs.Common.{◌≡◌, ◌≢◌, ◌⊎◌, ℕ, ◌+◌, ◌<◌, ◌≤◌, inl, inr, ⊎_elim, true, false, List, Option, None, Some, ap, ◌∙◌, sym, subst, arith}
use Rattle.std.specs.Prelude.{Contains, IfSome}
use Rattle.dev_model.specs.Crashes.{IsAt}
use Rattle.dev_model.specs.Devices.{DevicesState, FaultCounts, now}
use Rattle.dev_model.specs.Disk.{Disk, as_read, block_at}
use Rattle.dev_model.specs.FrameLaws.{stay_now}
use Rattle.dev_model.specs.Frames.{AreNoFewer, DisksStay}
use Rattle.geometry.specs.Faults.{DeviceFailed}
use Rattle.vol_types.specs.declared.layout.Layout.{Layout}
use Rattle.vol_types.specs.declared.pointers.Place.{Place}
use Rattle.node_store.specs.Mending.{AreWritten, IsCopyShown, IsDeviceOf, IsShown, IsToMend, IsWanted, MayBeMended, WritesOnly, is_of_node}
use Rattle.node_store.specs.Writes.{IsCopyBlock, IsCopyOf}
use Rattle.node_store.specs.declared.mending.Shown.{Shown}
use Rattle.node_store.proofs.MendedFrames.{failed_earlier, failed_later, writes_more, writes_read, writes_then}
use Rattle.node_store.proofs.MendedNodes.{lacked, shown_before, to_mend_up, wanted_up}

-- A device of a place that failed earlier has failed in all.
pub named_earlier : (named : Option ℕ) (places : List Place) (old mid new : FaultCounts) → AreNoFewer mid.calls new.calls → IfSome named (λ dev. IsDeviceOf places dev × DeviceFailed dev old mid) → IfSome named (λ dev. IsDeviceOf places dev × DeviceFailed dev old new)
named_earlier None places old mid new no_fewer is = tt
named_earlier (Some dev) places old mid new no_fewer is = (is.0, failed_earlier dev old mid new no_fewer is.1)

module _ (id : List ℕ) (birth : ℕ) where
  -- Something shows no block of the node at first, or a call of its device fails in between.
  abbrev pub Lacks : DevicesState → DevicesState → ℕ → ℕ → Type 0
  Lacks old new d b = (is_of_node id birth (block_at (as_read (now old)) d b) ≡ false) ⊎ DeviceFailed d old.faults new.faults

  -- this block of a device, if it lacks and isn't on the source's
  abbrev pub IsSparedAt : ℕ → ℕ → ℕ → DevicesState → DevicesState → ℕ → ℕ → Type 0
  IsSparedAt dev block source old new d b = IsAt dev block d b × (d ≢ source) × Lacks old new d b

  -- block n at each place, if it lacks and isn't on the source's device
  abbrev pub IsSpared : List Place → ℕ → ℕ → DevicesState → DevicesState → ℕ → ℕ → Type 0
  IsSpared places n source old new d b = IsCopyOf places n d b × (d ≢ source) × Lacks old new d b

  -- What lacks over a later part lacks over the whole, where it lacked before if it lacks in between,
  lacks_later : (old mid new : DevicesState) → AreNoFewer old.faults.calls mid.faults.calls → (d b : ℕ) → (is_of_node id birth (block_at (as_read (now mid)) d b) ≡ false → is_of_node id birth (block_at (as_read (now old)) d b) ≡ false) → Lacks mid new d b → Lacks old new d b
  lacks_later old mid new no_fewer d b before lacks = ⊎_elim
      (λ (is : is_of_node id birth (block_at (as_read (now mid)) d b) ≡ false). inl (before is))
      (λ (failed : DeviceFailed d mid.faults new.faults). inr (failed_later d old.faults mid.faults new.faults no_fewer failed))
      lacks

  -- and so does what lacks over an earlier one.
  lacks_earlier : (old mid new : DevicesState) → AreNoFewer mid.faults.calls new.faults.calls → (d b : ℕ) → Lacks old mid d b → Lacks old new d b
  lacks_earlier old mid new no_fewer d b lacks = ⊎_elim
      (λ (is : is_of_node id birth (block_at (as_read (now old)) d b) ≡ false). inl is)
      (λ (failed : DeviceFailed d old.faults mid.faults). inr (failed_earlier d old.faults mid.faults new.faults no_fewer failed))
      lacks

  -- What lacks after reading lacked before.
  lacked_read : (old mid : DevicesState) → DisksStay old mid → (d b : ℕ) → is_of_node id birth (block_at (as_read (now mid)) d b) ≡ false → is_of_node id birth (block_at (as_read (now old)) d b) ≡ false
  lacked_read old mid stay d b lacks = subst (λ (ds : List Disk). is_of_node id birth (block_at (as_read ds) d b) ≡ false) (stay_now old mid stay) lacks

  -- A place was read that lacks, and written.
  pub copy_writes : (dev cell block source : ℕ) (bytes asked : List ℕ) (old mid new : DevicesState) → block ≡ cell → asked ≡ bytes → dev ≢ source → Lacks old mid dev cell → DisksStay old mid → AreNoFewer mid.faults.calls new.faults.calls
      → WritesOnly (IsAt dev block) (λ d b x. IsAt dev block d b × (x ≡ asked)) mid new → WritesOnly (IsSparedAt dev cell source old new) (λ d b x. IsAt dev cell d b × (x ≡ bytes)) old new
  copy_writes dev cell block source bytes asked old mid new same these apart lacks stay no_fewer writes =
      let this : ℕ → ℕ → List ℕ → Type 0 = λ d b x. IsAt dev cell d b × (x ≡ bytes) in
      let in_all : Lacks old new dev cell = lacks_earlier old mid new no_fewer dev cell lacks in
      writes_then (IsSparedAt dev cell source old new) (IsAt dev block) this (λ d b x. IsAt dev block d b × (x ≡ asked)) old mid new
      (λ d b at. ((at.0, at.1 ∙ same), (λ from. apart (sym at.0 ∙ from)), subst (λ m. Lacks old new m b) (sym at.0) (subst (λ m. Lacks old new dev m) (sym (at.1 ∙ same)) in_all)))
      (λ d b x is. ((is.0.0, is.0.1 ∙ same), is.1 ∙ these))
      (writes_read (IsSparedAt dev cell source old new) this old mid stay) writes

  module _ (places : List Place) where
    -- What a place shows, the node shows.
    pub shown_by : (n : ℕ) (old mid : DevicesState) (place : Place) → DisksStay old mid → Contains places place → (found : Option Shown)
        → IfSome found (λ shown. (block_at (as_read (now mid)) place.dev (place.block + n) ≡ Some shown.bytes) × (place.dev ≡ shown.dev)) → IfSome found (λ shown. is_of_node id birth (Some shown.bytes) ≡ true)
        → IfSome found (λ shown. (is : IsShown id birth places (as_read (now old)) n shown.bytes) × (is.place.dev ≡ shown.dev))
    shown_by n old mid place stay one None is opens = tt
    shown_by n old mid place stay one (Some shown) is opens = (
      record {
        place = place;
        one = one;
        stands = subst (λ (ds : List Disk). block_at (as_read ds) place.dev (place.block + n) ≡ Some shown.bytes) (stay_now old mid stay) is.0;
        opens = opens;
      },
      is.1,
    )

    -- Some places were mended, and then one more.
    pub copies_writes : (n source : ℕ) (bytes : List ℕ) (first mid new : DevicesState) (place : Place) → Contains places place → is_of_node id birth (Some bytes) ≡ true
        → AreNoFewer first.faults.calls mid.faults.calls → AreNoFewer mid.faults.calls new.faults.calls
        → AreWritten (IsCopyBlock places n bytes) (as_read (now first)) (as_read (now mid)) → WritesOnly (IsSpared places n source first mid) (IsCopyBlock places n bytes) first mid
        → WritesOnly (IsSparedAt place.dev (place.block + n) source mid new) (λ d b x. IsAt place.dev (place.block + n) d b × (x ≡ bytes)) mid new
        → WritesOnly (IsSpared places n source first new) (IsCopyBlock places n bytes) first new
    copies_writes n source bytes first mid new place one opens no_fewer then_no_fewer written so_far writes =
        let wanted = IsCopyBlock places n bytes in
        writes_then (IsSpared places n source first new) (IsSparedAt place.dev (place.block + n) source mid new) wanted (λ d b x. IsAt place.dev (place.block + n) d b × (x ≡ bytes)) first mid new
        (λ d b is. (
          (place, one, is.0.0, is.0.1),
          is.1,
          lacks_later first mid new no_fewer d b (lacked id birth wanted (as_read (now first)) (as_read (now mid)) (λ e f x asked. ap (λ (y : List ℕ). is_of_node id birth (Some y)) asked.1 ∙ opens) written d b) is.2,
        ))
        (λ d b x is. ((place, one, is.0.0, is.0.1), is.1))
        (writes_more (IsSpared places n source first new) (IsSpared places n source first mid) wanted wanted first mid (λ d b is. (is.0, is.1, lacks_earlier first mid new then_no_fewer d b is.2)) (λ d b x is. is) so_far)
        writes

    -- A block was read from one place, and written at others.
    pub block_writes : (n source : ℕ) (bytes : List ℕ) (old mid new : DevicesState) → DisksStay old mid → AreNoFewer old.faults.calls mid.faults.calls → IsShown id birth places (as_read (now old)) n bytes
        → WritesOnly (IsSpared places n source mid new) (IsCopyBlock places n bytes) mid new
        → WritesOnly (IsSpared places n source old new) (IsCopyShown id birth places n (as_read (now old))) old new
    block_writes n source bytes old mid new stay no_fewer shown writes =
        let wanted = IsCopyShown id birth places n (as_read (now old)) in
        writes_then (IsSpared places n source old new) (IsSpared places n source mid new) wanted (IsCopyBlock places n bytes) old mid new
        (λ d b is. (is.0, is.1, lacks_later old mid new no_fewer d b (lacked_read old mid stay d b) is.2))
        (λ d b x is. (is.0, subst (IsShown id birth places (as_read (now old)) n) (sym is.1) shown))
        (writes_read (IsSpared places n source old new) wanted old mid stay) writes

    -- Blocks were mended, and then one more.
    pub blocks_write : (layout : Layout) (n end many : ℕ) → MayBeMended layout places end → n < many → (first mid new : DevicesState) → AreNoFewer first.faults.calls mid.faults.calls → AreNoFewer mid.faults.calls new.faults.calls
        → AreWritten (IsWanted id birth places n (as_read (now first))) (as_read (now first)) (as_read (now mid))
        → WritesOnly (IsToMend id birth places n (as_read (now first)) (λ dev. DeviceFailed dev first.faults mid.faults)) (IsWanted id birth places n (as_read (now first))) first mid
        → WritesOnly (λ d b. IsCopyOf places n d b × Lacks mid new d b) (IsCopyShown id birth places n (as_read (now mid))) mid new
        → WritesOnly (IsToMend id birth places many (as_read (now first)) (λ dev. DeviceFailed dev first.faults new.faults)) (IsWanted id birth places many (as_read (now first))) first new
    blocks_write layout n end many may more first mid new no_fewer then_no_fewer written so_far writes =
        let image = as_read (now first) in
        let lower : n ≤ many = omega (arith, more) in
        let failed : ℕ → Type 0 = λ dev. DeviceFailed dev first.faults mid.faults in
        let more_failed : ℕ → Type 0 = λ dev. DeviceFailed dev first.faults new.faults in
        let touched = IsToMend id birth places many image more_failed in
        let wanted = IsWanted id birth places many image in
        writes_then touched (λ d b. IsCopyOf places n d b × Lacks mid new d b) wanted (IsCopyShown id birth places n (as_read (now mid))) first mid new
        (λ d b is. record {
          number = n;
          below = more;
          copy = is.0;
          lacks = lacks_later first mid new no_fewer d b
              (lacked id birth (IsWanted id birth places n image) image (as_read (now mid)) (λ e f x asked. asked.shown.opens) written d b) is.1;
        })
        (λ d b x is. record { number = n; below = more; copy = is.0; shown = shown_before id birth places layout end may image (as_read (now mid)) n x written is.1 })
        (writes_more touched (IsToMend id birth places n image failed) wanted (IsWanted id birth places n image) first mid
        (λ d b. to_mend_up id birth places n many image failed more_failed lower (λ dev fails. failed_earlier dev first.faults mid.faults new.faults then_no_fewer fails) d b) (λ d b x. wanted_up id birth places n many image lower d b x) so_far)
        writes
