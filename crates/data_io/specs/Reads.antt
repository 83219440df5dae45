-- What reading the places of a block gives, one after the other, and how failed reads are counted.
use Rattle.std.specs.Prelude.{ℕ, nat_lt, ◌==◌, if◌then◌else◌, List, [], ◌∷◌, map, Option, Some, None, option_map, slice_index}
use Rattle.std.specs.Option.{option_or}
use Rattle.vol_digest.specs.Digests.{short_of}
use Rattle.vol_types.specs.declared.pointers.Place.{Place}
use Rattle.vol_types.specs.declared.pointers.Pointer.{Pointer}
use Rattle.dev_model.specs.Disk.{Image, block_at}
use Rattle.dev_model.specs.Devices.{FaultCounts, with_read_fault}

-- the places of pointers
abbrev pub places_of : List Pointer → List Place
places_of pointers = map (λ pointer. pointer.place) pointers

-- the block that an image has at a place
abbrev pub block_of : Image → Place → Option (List ℕ)
block_of image place = block_at image place.dev place.block

-- the digest of that block
abbrev pub digest_of : Image → Place → Option ℕ
digest_of image place = option_map short_of (block_of image place)

-- the bytes, if their digest is the one that is wanted
abbrev pub if_right : ℕ → Option (List ℕ) → Option (List ℕ)
if_right want None = None
if_right want (Some bytes) = if short_of bytes == want then Some bytes else None

-- the bytes that an image has at the first of these places whose digest is the one that is wanted, or none
abbrev pub first_right : Image → List Place → ℕ → Option (List ℕ)
first_right image [] want = None
first_right image (place ∷ places) want = option_or (if_right want (block_of image place)) (first_right image places want)

-- the counts after a place was read and this was got there: nothing where there is no such block, or else where the read failed
abbrev pub after_read : List ℕ → Place → Option ℕ → FaultCounts → FaultCounts
after_read sizes place (Some digest) faults = faults
after_read sizes place None faults = if nat_lt place.block (slice_index sizes place.dev) then with_read_fault place.dev faults else faults

-- the counts after places were read and these were got there
abbrev pub after_reads_of : List ℕ → List Place → List (Option ℕ) → FaultCounts → FaultCounts
after_reads_of sizes [] got faults = faults
after_reads_of sizes (place ∷ places) [] faults = faults
after_reads_of sizes (place ∷ places) (one ∷ got) faults = after_reads_of sizes places got (after_read sizes place one faults)
