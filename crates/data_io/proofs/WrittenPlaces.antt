-- What a write leaves to be read, at its place and elsewhere.
use Rattle.std.proofs.Common.{◌≡◌, ◌≢◌, ⊎_elim, ℕ, zero, suc, ◌+◌, ◌<◌, ◌≤◌, List, [], ◌∷◌, length, get_or, Some, refl, ap, ◌∙◌, sym, subst, arith, MatchResult, Result, Ok, Err}
use Rattle.std.proofs.lemmas.Bool.{cases_eq, cases_lt}
use Rattle.vol_types.specs.declared.pointers.Place.{Place}
use Rattle.vol_types.specs.declared.pointers.Pointer.{Pointer}
use Rattle.dev_model.specs.Disk.{Disk, IsBlock, as_read, block_at, changed, after_write, written, sizes_of}
use Rattle.dev_model.specs.Devices.{DevicesState, ChangesDisks, Is, MayBeWritten, now}
use Rattle.dev_model.specs.Crashes.{IsAt, SameBut}
use Rattle.dev_model.specs.CrashDisks.{slice_get-set_other}
use Rattle.dev_model.specs.PlaceLaws.{reads_written, reads_written_elsewhere}
use Rattle.data_io.specs.Reads.{block_of, places_of}

-- There is a place for each pointer.
pub length-places_of : (pointers : List Pointer) → length (places_of pointers) ≡ length pointers
length-places_of [] = refl
length-places_of (pointer ∷ pointers) = ap suc (length-places_of pointers)

-- The place of a pointer stands where the pointer does.
pub get_or-places_of : (pointers : List Pointer) (i : ℕ) (place : Place) (pointer : Pointer) → i < length pointers → get_or (places_of pointers) i place ≡ (get_or pointers i pointer).place
get_or-places_of [] i place pointer within = absurd (omega (arith, within))
get_or-places_of (first ∷ pointers) zero place pointer within = refl
get_or-places_of (first ∷ pointers) (suc i) place pointer within = get_or-places_of pointers i place pointer (omega (arith, within))

-- a pointer that stands for none
abbrev pub no_pointer : Pointer
no_pointer = record { place = record { dev = 0; block = 0 }; generation = 0 }

-- the place of pointer number i
abbrev pub the_place : List Pointer → ℕ → Place
the_place pointers i = (get_or pointers i no_pointer).place

-- There is a place number i,
pub is_within : (pointers slice : List Pointer) → slice ≡ pointers → (i : ℕ) → i < length slice → i < length (places_of pointers)
is_within pointers slice same i within = omega (arith, within, ap length same, length-places_of pointers)

-- and it is the pointer's.
pub is_there : (pointers slice : List Pointer) → slice ≡ pointers → (i : ℕ) → i < length slice → get_or (places_of pointers) i (the_place slice i) ≡ the_place slice i
is_there pointers slice same i within = ap (λ (ps : List Pointer). get_or (places_of ps) i (the_place slice i)) (sym same) ∙ get_or-places_of slice i (the_place slice i) no_pointer within

-- After a write of bytes, places that had these still have them.
still_written : (disks : List Disk) (dev block : ℕ) (bytes : List ℕ) (d b : ℕ) → block < get_or (sizes_of disks) dev 0 → block_at (as_read disks) d b ≡ Some bytes
    → block_at (as_read (changed dev (written block bytes) disks)) d b ≡ Some bytes
still_written disks dev block bytes d b within before = ⊎_elim
    (λ (same : d ≡ dev). ⊎_elim
    (λ (here : b ≡ block). subst (λ n. block_at (as_read (changed dev (written block bytes) disks)) n b ≡ Some bytes) (sym same)
    (subst (λ n. block_at (as_read (changed dev (written block bytes) disks)) dev n ≡ Some bytes) (sym here) (reads_written disks dev block bytes within)))
    (λ (away : b ≢ block). reads_written_elsewhere disks dev block bytes d b (λ at. away at.1) ∙ before)
    (cases_eq b block))
    (λ (away : d ≢ dev). reads_written_elsewhere disks dev block bytes d b (λ at. away at.0) ∙ before)
    (cases_eq d dev)

-- After one write more one place more is read.
pub written_more : (disks new : List Disk) (places : List Place) (i : ℕ) (place : Place) (bytes : List ℕ) → get_or places i place ≡ place → i < length places → place.block < get_or (sizes_of disks) place.dev 0
    → new ≡ changed place.dev (written place.block bytes) disks
    → ((k : ℕ) (d : Place) → k < i → k < length places → block_of (as_read disks) (get_or places k d) ≡ Some bytes)
    → (k : ℕ) (d : Place) → k < i + 1 → k < length places → block_of (as_read new) (get_or places k d) ≡ Some bytes
written_more disks new places i place bytes at lt within is before k d le there = subst (λ (ds : List Disk). block_of (as_read ds) (get_or places k d) ≡ Some bytes) (sym is) (⊎_elim
    (λ (earlier : k < i). still_written disks place.dev place.block bytes (get_or places k d).dev (get_or places k d).block within (before k d earlier there))
    (λ (last : i ≤ k).
    let e : i ≡ k = omega (arith, le, last) in
    let here : place ≡ get_or places k d = sym at ∙ ap (λ j. get_or places j place) e ∙ get_or_any places k place d there in
    subst (λ (p : Place). block_of (as_read (changed place.dev (written place.block bytes) disks)) p ≡ Some bytes) here (reads_written disks place.dev place.block bytes within))
    (cases_lt k i))
  where
    get_or_any : (xs : List Place) (i : ℕ) (d e : Place) → i < length xs → get_or xs i d ≡ get_or xs i e
    get_or_any [] i d e within = absurd (omega (arith, within))
    get_or_any (x ∷ xs) zero d e within = refl
    get_or_any (x ∷ xs) (suc i) d e within = get_or_any xs i d e (omega (arith, within))
