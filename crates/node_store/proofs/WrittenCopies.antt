-- What a write leaves to be read, at its place and elsewhere.
use Rattle.std.proofs.Common.{◌≡◌, ◌≢◌, ⊎_elim, ℕ, ◌+◌, ◌<◌, ◌≤◌, List, length, get_or, Some, ap, ◌∙◌, sym, subst, arith}
use Rattle.std.proofs.lemmas.Bool.{cases_eq, cases_lt}
use Rattle.std.proofs.lemmas.List.{get_or_default}
use Rattle.vol_types.specs.declared.pointers.Place.{Place}
use Rattle.dev_model.specs.Disk.{Disk, as_read, block_at, changed, written, sizes_of}
use Rattle.dev_model.specs.PlaceLaws.{reads_written, reads_written_elsewhere}

-- After a write of bytes, places that had these still have them.
still_written : (disks : List Disk) (dev block : ℕ) (bytes : List ℕ) (d b : ℕ) → block < get_or (sizes_of disks) dev 0 → block_at (as_read disks) d b ≡ Some bytes
    → block_at (as_read (changed dev (written block bytes) disks)) d b ≡ Some bytes
still_written disks dev block bytes d b within before = ⊎_elim
    (λ (same : d ≡ dev). ⊎_elim
    (λ (here : b ≡ block). subst (λ n. block_at (as_read (changed dev (written block bytes) disks)) n b ≡ Some bytes) (sym same)
    (subst (λ n. block_at (as_read (changed dev (written block bytes) disks)) dev n ≡ Some bytes) (sym here) (reads_written disks dev block bytes within)))
    (λ (away : b ≢ block). reads_written_elsewhere disks dev block bytes d b (λ at. away at.1) ∙ before)
    (cases_eq b block))
    (λ (away : d ≢ dev). reads_written_elsewhere disks dev block bytes d b (λ at. away at.0) ∙ before)
    (cases_eq d dev)

-- After one write more one place more is read.
pub written_more : (disks new : List Disk) (places : List Place) (i n : ℕ) (place : Place) (bytes : List ℕ) → get_or places i place ≡ place → place.block + n < get_or (sizes_of disks) place.dev 0
    → new ≡ changed place.dev (written (place.block + n) bytes) disks
    → ((k : ℕ) (d : Place) → k < i → k < length places → block_at (as_read disks) (get_or places k d).dev ((get_or places k d).block + n) ≡ Some bytes)
    → (k : ℕ) (d : Place) → k < i + 1 → k < length places → block_at (as_read new) (get_or places k d).dev ((get_or places k d).block + n) ≡ Some bytes
written_more disks new places i n place bytes at within is before k d lt there = subst (λ (ds : List Disk). block_at (as_read ds) (get_or places k d).dev ((get_or places k d).block + n) ≡ Some bytes) (sym is) (⊎_elim
    (λ (earlier : k < i). still_written disks place.dev (place.block + n) bytes (get_or places k d).dev ((get_or places k d).block + n) within (before k d earlier there))
    (λ (last : i ≤ k).
    let e : i ≡ k = omega (arith, lt, last) in
    let here : place ≡ get_or places k d = sym at ∙ ap (λ j. get_or places j place) e ∙ get_or_default places k place d there in
    subst (λ (p : Place). block_at (as_read (changed place.dev (written (place.block + n) bytes) disks)) p.dev (p.block + n) ≡ Some bytes) here (reads_written disks place.dev (place.block + n) bytes within))
    (cases_lt k i))
