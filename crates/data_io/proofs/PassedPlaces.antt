-- Places of a block that are read and passed over, one after the other.
use Rattle.std.proofs.Common.{◌≡◌, ◌≢◌, ◌⊎◌, ⊎_elim, inl, inr, ℕ, zero, suc, ◌+◌, ◌<◌, ◌≤◌, Bool, true, false, cond, List, [], ◌∷◌, ◌++◌, length, take, drop, get_or, slice_get, Option, Some, None, refl, ap, ◌∙◌, sym, subst, arith, length-append, All}
use Rattle.std.specs.Prelude.{option_and_then, option_map, ◌==◌, slice_index_or, Ok, Err, Result}
use Rattle.std.specs.List.{AllZip}
use Rattle.std.specs.Option.{option_or}
use Rattle.std.specs.Result.{IsErrAnd}
use Rattle.std.proofs.lemmas.Bool.{cases_lt, eqb-true, eq-eqb}
use Rattle.std.proofs.lemmas.List.{map-append, take-append-drop, take_more}
use Rattle.std.proofs.lemmas.List.Elements.{All-append, All-cons, All-head, All-nil, All-tail}
use Rattle.std.proofs.lemmas.Option.{none-some, same_Some, slice_get_past}
use Rattle.vol_digest.specs.Digests.{short_of}
use Rattle.vol_types.specs.Faults.{RoseBy}
use Rattle.vol_types.specs.declared.pointers.Place.{Place}
use Rattle.vol_types.specs.declared.pointers.Pointer.{Pointer}
use Rattle.dev_model.specs.Disk.{Disk, Image, as_read, block_at, changed, sizes_of}
use Rattle.dev_model.specs.Devices.{DevicesState, FaultCounts, IsPlace, now, risen}
use Rattle.dev_model.specs.Frames.{AreNoFewer, AreOnlyRead}
use Rattle.dev_model.specs.FrameLaws.{stay_now}
use Rattle.geometry.specs.Faults.{DeviceFailed, SomeFailed}
use Rattle.data_io.specs.declared.fault.DataFault.{DataFault}
use Rattle.data_io.specs.declared.fault.DataFault.TheVariants.{NoMemory}
use Rattle.data_io.specs.Reads.{after_read, after_reads_of, block_of, digest_of, first_right, if_right, places_of}
use Rattle.data_io.specs.Answers.{ArePassed, HasFailedWhereRight, IsAnswer, IsCutShort, IsFound, WasGot}

-- One failure more of a device is counted.
pub risen_once : (counts : List ℕ) (dev : ℕ) → dev < length counts → RoseBy 1 (slice_index_or counts dev 0) (slice_index_or (changed dev risen counts) dev 0)
risen_once [] dev lt = absurd (omega (arith, lt))
risen_once (count ∷ counts) zero lt = omega arith
risen_once (count ∷ counts) (suc dev) lt = risen_once counts dev (omega (arith, lt))

-- A device that has a block is one of them.
pub device_within : (sizes : List ℕ) (dev block : ℕ) → IsPlace sizes dev block → dev < length sizes
device_within [] zero block place = absurd (omega (arith, place))
device_within [] (suc dev) block place = absurd (omega (arith, place))
device_within (size ∷ sizes) zero block place = omega arith
device_within (size ∷ sizes) (suc dev) block place = let le : dev < length sizes = device_within sizes dev block place in omega (arith, le)

-- A failure in between shows in the counts before and after it.
pub failed_between : (dev : ℕ) (first old new last : FaultCounts) → AreNoFewer first.calls old.calls → AreNoFewer new.calls last.calls → DeviceFailed dev old new → DeviceFailed dev first last
failed_between dev first old new last before after failed = omega (arith, before dev, after dev, failed)

-- What was got at a place was got there, also when more was done.
got_longer : (tells : Type 0) (old mid new : DevicesState) (place : Place) (got : Option ℕ) → AreNoFewer mid.faults.calls new.faults.calls → WasGot tells old mid place got → WasGot tells old new place got
got_longer tells old mid new place (Some digest) more was = was
got_longer tells old mid new place None more was = λ there. failed_between place.dev old.faults old.faults mid.faults new.faults (λ dev. omega arith) more (was there)

each_longer : (tells : Type 0) (old mid new : DevicesState) (places : List Place) (got : List (Option ℕ)) → AreNoFewer mid.faults.calls new.faults.calls → AllZip (WasGot tells old mid) places got → AllZip (WasGot tells old new) places got
each_longer tells old mid new [] [] more all = all
each_longer tells old mid new [] (one ∷ got) more all = absurd all
each_longer tells old mid new (place ∷ places) [] more all = absurd all
each_longer tells old mid new (place ∷ places) (one ∷ got) more all = (got_longer tells old mid new place one more all.0, each_longer tells old mid new places got more all.1)

-- What was got later was got in the whole.
got_earlier : (tells : Type 0) (old mid new : DevicesState) (place : Place) (got : Option ℕ) → AreOnlyRead tells old mid → WasGot tells mid new place got → WasGot tells old new place got
got_earlier tells old mid new place (Some digest) read was = λ told. subst (λ (ds : List Disk). digest_of (as_read ds) place ≡ Some digest) (stay_now old mid (read.disks told)) (was told)
got_earlier tells old mid new place None read was = λ there.
    failed_between place.dev old.faults mid.faults new.faults new.faults read.calls (λ dev. omega arith) (was (subst (λ (sizes : List ℕ). IsPlace sizes place.dev place.block) (sym read.sizes) there))

zipped_more : {A B : Type 0} (R : A → B → Type 0) (xs : List A) (ys : List B) (x : A) (y : B) → AllZip R xs ys → R x y → AllZip R (xs ++ x ∷ []) (ys ++ y ∷ [])
zipped_more R [] [] x y all this = (this, tt)
zipped_more R [] (b ∷ ys) x y all this = absurd all
zipped_more R (a ∷ xs) [] x y all this = absurd all
zipped_more R (a ∷ xs) (b ∷ ys) x y all this = (all.0, zipped_more R xs ys x y all.1 this)

counted_more : (sizes : List ℕ) (places : List Place) (got : List (Option ℕ)) (place : Place) (one : Option ℕ) (faults : FaultCounts) → length got ≡ length places
    → after_reads_of sizes (places ++ place ∷ []) (got ++ one ∷ []) faults ≡ after_read sizes place one (after_reads_of sizes places got faults)
counted_more sizes [] [] place one faults same = refl
counted_more sizes [] (b ∷ got) place one faults same = absurd (omega (arith, same))
counted_more sizes (a ∷ places) [] place one faults same = absurd (omega (arith, same))
counted_more sizes (a ∷ places) (b ∷ got) place one faults same = counted_more sizes places got place one (after_read sizes a b faults) (omega (arith, same))

-- Before the first read no place was passed over.
pub passed_none : (tells : Type 0) (state : DevicesState) (want : ℕ) (places : List Place) → ArePassed tells state state want (take 0 places) []
passed_none tells state want places = record { as_many = refl; wrong = All-nil (λ one. one ≢ Some want); each = tt; faults = refl }

-- One place more was read and passed over.
pub passed_more : (tells : Type 0) (old mid new : DevicesState) (want : ℕ) (places : List Place) (i : ℕ) (place : Place) (got : List (Option ℕ)) (one : Option ℕ)
    → i < length places → get_or places i place ≡ place → AreOnlyRead tells old mid → AreOnlyRead tells mid new
    → WasGot tells mid new place one → new.faults ≡ after_read mid.sizes place one mid.faults → one ≢ Some want
    → ArePassed tells old mid want (take i places) got → ArePassed tells old new want (take (i + 1) places) (got ++ one ∷ [])
passed_more tells old mid new want places i place got one lt at before read was counted wrong passed =
    subst (λ (ps : List Place). ArePassed tells old new want ps (got ++ one ∷ [])) (sym taken) (record {
      as_many = omega (arith, length-append got (one ∷ []), length-append (take i places) (place ∷ []), passed.as_many);
      wrong = All-append (λ o. o ≢ Some want) got (one ∷ []) passed.wrong (All-cons (λ o. o ≢ Some want) one [] wrong (All-nil (λ o. o ≢ Some want)));
      each = zipped_more (WasGot tells old new) (take i places) got place one (each_longer tells old mid new (take i places) got read.calls passed.each) (got_earlier tells old mid new place one before was);
      faults = counted ∙ ap (λ (sizes : List ℕ). after_read sizes place one mid.faults) before.sizes ∙ ap (after_read old.sizes place one) passed.faults ∙ sym (counted_more old.sizes (take i places) got place one old.faults passed.as_many);
    })
  where
    taken : take (i + 1) places ≡ take i places ++ place ∷ []
    taken = take_more places i place lt ∙ ap (λ (p : Place). take i places ++ p ∷ []) at

-- More was read that gave its block, and no place more was passed over.
pub passed_still : (tells : Type 0) (old mid new : DevicesState) (want : ℕ) (places : List Place) (got : List (Option ℕ))
    → AreOnlyRead tells mid new → new.faults ≡ mid.faults → ArePassed tells old mid want places got → ArePassed tells old new want places got
passed_still tells old mid new want places got read still passed = record {
  as_many = passed.as_many;
  wrong = passed.wrong;
  each = each_longer tells old mid new places got read.calls passed.each;
  faults = still ∙ passed.faults;
}

-- A block that is there lies inside its device.
there_within : (disks : List Disk) (dev block : ℕ) (bytes : List ℕ) → block_at (as_read disks) dev block ≡ Some bytes → IsPlace (sizes_of disks) dev block
there_within [] zero block bytes is = absurd (none-some bytes is)
there_within [] (suc dev) block bytes is = absurd (none-some bytes is)
there_within (disk ∷ disks) zero block bytes is = ⊎_elim
    (λ (within : block < length disk.blocks). within)
    (λ (past : length disk.blocks ≤ block). absurd (none-some bytes (sym (slice_get_past disk.blocks block past) ∙ is)))
    (cases_lt block (length disk.blocks))
there_within (disk ∷ disks) (suc dev) block bytes is = there_within disks dev block bytes is

-- Where the right block was passed over, a read of its device failed.
right_failed : (tells : Type 0) → tells → (old new : DevicesState) (want : ℕ) (place : Place) (one : Option ℕ) → old.sizes ≡ sizes_of (now old)
    → WasGot tells old new place one → one ≢ Some want → (bytes : List ℕ) → block_of (as_read (now old)) place ≡ Some bytes → short_of bytes ≡ want → DeviceFailed place.dev old.faults new.faults
right_failed tells told old new want place (Some digest) agree was wrong bytes is right =
    absurd (wrong (sym (was told) ∙ ap (option_map short_of) is ∙ ap Some right))
right_failed tells told old new want place None agree was wrong bytes is right =
    was (subst (λ (sizes : List ℕ). IsPlace sizes place.dev place.block) (sym agree) (there_within (now old) place.dev place.block bytes is))

-- A place that was passed over hasn't the right block, or some read failed.
wrong_or_failed : (tells : Type 0) → tells → (old new : DevicesState) (want : ℕ) (place : Place) (one : Option ℕ) → old.sizes ≡ sizes_of (now old)
    → WasGot tells old new place one → one ≢ Some want → (if_right want (block_of (as_read (now old)) place) ≡ None) ⊎ SomeFailed old.faults new.faults
wrong_or_failed tells told old new want place one agree was wrong = by (block_of (as_read (now old)) place) refl
  where
    judged : (bytes : List ℕ) → block_of (as_read (now old)) place ≡ Some bytes → (b : Bool) → (short_of bytes == want) ≡ b → (cond b (Some bytes) None ≡ None) ⊎ SomeFailed old.faults new.faults
    judged bytes is true e = inr (place.dev, right_failed tells told old new want place one agree was wrong bytes is (eqb-true (short_of bytes) want e))
    judged bytes is false e = inl refl

    by : (block : Option (List ℕ)) → block_of (as_read (now old)) place ≡ block → (if_right want block ≡ None) ⊎ SomeFailed old.faults new.faults
    by None is = inl refl
    by (Some bytes) is = judged bytes is (short_of bytes == want) refl

-- Behind places that were passed over the first right block is the first one of all, or some read failed.
pub first_behind : (tells : Type 0) → tells → (old new : DevicesState) (want : ℕ) (places rest : List Place) (got : List (Option ℕ)) → old.sizes ≡ sizes_of (now old)
    → AllZip (WasGot tells old new) places got → All (λ one. one ≢ Some want) got
    → (first_right (as_read (now old)) (places ++ rest) want ≡ first_right (as_read (now old)) rest want) ⊎ SomeFailed old.faults new.faults
first_behind tells told old new want [] rest got agree each wrong = inl refl
first_behind tells told old new want (place ∷ places) rest [] agree each wrong = absurd each
first_behind tells told old new want (place ∷ places) rest (one ∷ got) agree each wrong = ⊎_elim
    (λ (none : if_right want (block_of (as_read (now old)) place) ≡ None). ⊎_elim
    (λ (e : first_right (as_read (now old)) (places ++ rest) want ≡ first_right (as_read (now old)) rest want).
    inl (ap (λ (o : Option (List ℕ)). option_or o (first_right (as_read (now old)) (places ++ rest) want)) none ∙ e))
    (λ (failed : SomeFailed old.faults new.faults). inr failed)
    (first_behind tells told old new want places rest got agree each.1 (All-tail (λ o. o ≢ Some want) one got wrong)))
    (λ (failed : SomeFailed old.faults new.faults). inr failed)
    (wrong_or_failed tells told old new want place one agree each.0 (All-head (λ o. o ≢ Some want) one got wrong))

-- Where the places were passed over, a read failed of each device that has the right block.
pub failed_where_right : (tells : Type 0) → tells → (old new : DevicesState) (want : ℕ) (places : List Place) (got : List (Option ℕ)) → old.sizes ≡ sizes_of (now old)
    → AllZip (WasGot tells old new) places got → All (λ one. one ≢ Some want) got → HasFailedWhereRight old new want places
failed_where_right tells told old new want [] got agree each wrong index place at right = absurd (none-some place at)
failed_where_right tells told old new want (first ∷ places) [] agree each wrong index place at right = absurd each
failed_where_right tells told old new want (first ∷ places) (one ∷ got) agree each wrong zero place at right = by (block_of (as_read (now old)) place) refl right
  where
    by : (block : Option (List ℕ)) → block_of (as_read (now old)) place ≡ block → option_map short_of block ≡ Some want → DeviceFailed place.dev old.faults new.faults
    by None is nothing = absurd (none-some want nothing)
    by (Some bytes) is there =
        right_failed tells told old new want place one agree (subst (λ (p : Place). WasGot tells old new p one) (same_Some first place at) each.0) (All-head (λ o. o ≢ Some want) one got wrong) bytes is (same_Some (short_of bytes) want there)
failed_where_right tells told old new want (first ∷ places) (one ∷ got) agree each wrong (suc index) place at right =
    failed_where_right tells told old new want places got agree each.1 (All-tail (λ o. o ≢ Some want) one got wrong) index place at right

-- The right block at a place is the first right one from there on.
right_here : (image : Image) (places : List Place) (index want : ℕ) (bytes : List ℕ) → option_and_then (block_of image) (slice_get places index) ≡ Some bytes → short_of bytes ≡ want
    → first_right image (drop index places) want ≡ Some bytes
right_here image [] index want bytes is right = absurd (none-some bytes is)
right_here image (place ∷ places) zero want bytes is right =
    ap (λ (o : Option (List ℕ)). option_or (if_right want o) (first_right image places want)) is
    ∙ ap (λ (b : Bool). option_or (cond b (Some bytes) None) (first_right image places want)) (eq-eqb (short_of bytes) want right)
right_here image (place ∷ places) (suc index) want bytes is right = right_here image places index want bytes is right

-- A block that was found is the first right one, or some read failed.
pub found_is_first : (tells : Type 0) → tells → (old new : DevicesState) (want : ℕ) (places : List Place) (bytes : List ℕ) → old.sizes ≡ sizes_of (now old)
    → IsFound tells old new want places bytes → (first_right (as_read (now old)) places want ≡ Some bytes) ⊎ SomeFailed old.faults new.faults
found_is_first tells told old new want places bytes agree found =
    let image = as_read (now old) in
    ⊎_elim
    (λ (e : first_right image (take found.place places ++ drop found.place places) want ≡ first_right image (drop found.place places) want).
    inl (ap (λ (ps : List Place). first_right image ps want) (sym (take-append-drop found.place places)) ∙ e ∙ right_here image places found.place want bytes (found.bytes_there told) found.digest))
    (λ (failed : SomeFailed old.faults new.faults). inr failed)
    (first_behind tells told old new want (take found.place places) (drop found.place places) found.got agree found.passed.each found.passed.wrong)

-- Where memory is wanting, that many places were passed over.
pub answered_short : (tells : Type 0) (old new : DevicesState) (number want : ℕ) (places : List Place) (bytes : List ℕ) (result : Result Unit DataFault) → IsErrAnd result (λ fault. fault ≡ NoMemory)
    → IsCutShort tells old new want places → IsAnswer tells old new number want places bytes result
answered_short tells old new number want places bytes (Ok done) is short = absurd is
answered_short tells old new number want places bytes (Err fault) is short = subst (λ (f : DataFault). IsAnswer {T = Unit} tells old new number want places bytes (Err f)) (sym is) short

-- One place more is listed.
pub places_more : (pointers : List Pointer) (i : ℕ) (pointer : Pointer) (before after : List Place) → i < length pointers → before ≡ places_of (take i pointers)
    → after ≡ before ++ (get_or pointers i pointer).place ∷ [] → after ≡ places_of (take (i + 1) pointers)
places_more pointers i pointer before after lt so_far pushed =
    pushed ∙ ap (λ (ps : List Place). ps ++ (get_or pointers i pointer).place ∷ []) so_far
    ∙ sym (ap places_of (take_more pointers i pointer lt) ∙ map-append (λ (p : Pointer). p.place) (take i pointers) (get_or pointers i pointer ∷ []))
