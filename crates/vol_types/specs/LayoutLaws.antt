-- The test of layouts passes exactly the layouts that a volume may have.
use Rattle.std.proofs.Common.{◌≡◌, ℕ, ◌+◌, ◌*◌, ◌%◌, Bool, true, false, List, [], ◌∷◌, refl}
use Rattle.std.specs.Prelude.{◌&&◌, All, length, min, nat_le}
use Rattle.std.specs.Int.{is_in_range, IsInRange}
use Rattle.std.specs.List.{list_all}
use Rattle.std.proofs.lemmas.Bool.{and_from, and_parts, eq-eqb, eqb-true, false≢true, le-leb, leb-true}
use Rattle.std.proofs.lemmas.List.Elements.{All-nil, All-cons, All-head, All-tail}
use Rattle.vol_types.specs.declared.layout.Layout.{Layout}
use Rattle.vol_types.specs.Limits.{bucket_blocks}
use Rattle.vol_types.specs.Layouts.{is_device_size, is_layout, IsDeviceSize, IsLayout}

range : (low high n : ℕ) → is_in_range low high n ≡ true → IsInRange low high n
range low high n is = let parts = and_parts (nat_le low n) (nat_le n high) is in (leb-true low n parts.0, leb-true n high parts.1)

range_test : (low high n : ℕ) → IsInRange low high n → is_in_range low high n ≡ true
range_test low high n is = and_from (nat_le low n) (nat_le n high) (le-leb low n is.0) (le-leb n high is.1)

device_size : (journal blocks : ℕ) → is_device_size journal blocks ≡ true → IsDeviceSize journal blocks
device_size journal blocks is =
    let last = and_parts _ _ is in
    let first = and_parts _ _ last.0 in
    record { blocks_range = range 1024 1048576 blocks first.0; whole_buckets = eqb-true (blocks % bucket_blocks) 0 first.1; half = leb-true (2 * (journal + bucket_blocks)) blocks last.1 }

size_test : (journal blocks : ℕ) → IsDeviceSize journal blocks → is_device_size journal blocks ≡ true
size_test journal blocks is =
    and_from _ _ (and_from _ _ (range_test 1024 1048576 blocks is.blocks_range) (eq-eqb (blocks % bucket_blocks) 0 is.whole_buckets)) (le-leb (2 * (journal + bucket_blocks)) blocks is.half)

sizes : (journal : ℕ) (blocks : List ℕ) → list_all (is_device_size journal) blocks ≡ true → All (IsDeviceSize journal) blocks
sizes journal [] are = All-nil (IsDeviceSize journal)
sizes journal (n ∷ blocks) are =
    let parts = and_parts (is_device_size journal n) (list_all (is_device_size journal) blocks) are in
    All-cons (IsDeviceSize journal) n blocks (device_size journal n parts.0) (sizes journal blocks parts.1)

sizes_test : (journal : ℕ) (blocks : List ℕ) → All (IsDeviceSize journal) blocks → list_all (is_device_size journal) blocks ≡ true
sizes_test journal [] are = refl
sizes_test journal (n ∷ blocks) are =
    and_from (is_device_size journal n) (list_all (is_device_size journal) blocks) (size_test journal n (All-head (IsDeviceSize journal) n blocks are)) (sizes_test journal blocks (All-tail (IsDeviceSize journal) n blocks are))

-- What passes the test is a layout.
pub layout_found : (layout : Layout) → is_layout layout ≡ true → IsLayout layout
unfolding is_layout
layout_found layout is =
    let last = and_parts _ _ is in
    let data_part = and_parts _ _ last.0 in
    let metadata_part = and_parts _ _ data_part.0 in
    let whole = and_parts _ _ metadata_part.0 in
    let first = and_parts _ _ whole.0 in
    record {
      devices = range 1 8 (length layout.blocks) first.0;
      journal_range = range 256 4096 layout.journal first.1;
      journal_buckets = eqb-true (layout.journal % bucket_blocks) 0 whole.1;
      metadata = range 1 (min 3 (length layout.blocks)) layout.metadata_replicas metadata_part.1;
      data_copies = range 1 (min 3 (length layout.blocks)) layout.data_replicas data_part.1;
      sizes = sizes layout.journal layout.blocks last.1;
    }

-- A layout passes the test.
pub layout_again : (layout : Layout) → IsLayout layout → is_layout layout ≡ true
unfolding is_layout
layout_again layout is =
    and_from _ _
    (and_from _ _
    (and_from _ _
    (and_from _ _ (and_from _ _ (range_test 1 8 (length layout.blocks) is.devices) (range_test 256 4096 layout.journal is.journal_range)) (eq-eqb (layout.journal % bucket_blocks) 0 is.journal_buckets))
    (range_test 1 (min 3 (length layout.blocks)) layout.metadata_replicas is.metadata))
    (range_test 1 (min 3 (length layout.blocks)) layout.data_replicas is.data_copies))
    (sizes_test layout.journal layout.blocks is.sizes)
