-- What is written, read and left on several devices, and how parts of it go together.
use Rattle.std.proofs.Common.{◌≡◌, ℕ, zero, suc, ◌+◌, ◌<◌, ◌≤◌, Bool, true, false, ◌&&◌, cond, List, [], ◌∷◌, length, get_or, Option, Some, None, Result, Ok, Err, ◌⊎◌, inl, inr, ⊎_elim, refl, ap, ◌∙◌, sym, subst, arith, All}
use Rattle.std.specs.Prelude.{OnOk, IsErr, nat_lt, ◌==◌}
use Rattle.std.specs.Option.{IsSome, is_some}
use Rattle.std.proofs.lemmas.Bool.{cases_Bool, cases_eq, cases_lt, eq-eqb, ne_eqb, lt-ltb, le-ltb, false≢true}
use Rattle.std.proofs.lemmas.List.Elements.{All-cons, All-nil}
use Rattle.std.proofs.lemmas.Option.{none-some}
use Rattle.dev_model.specs.Disk.{Disk, Image, IsDisk, IsAtRest, IsBlock, IsCrashImage, NothingPending, after_write, as_read, block_at, changed, sizes_of, written}
use Rattle.dev_model.specs.Devices.{DevicesState, ChangesDisks, Is, MayBeWritten, now}
use Rattle.dev_model.specs.Crashes.{EachCrash, IsAt}
use Rattle.dev_model.specs.CrashLaws.{started, goes_on}
use Rattle.dev_model.specs.CrashDisks.{left_by_write}
use Rattle.dev_model.specs.HeldBlocks.{HaveHeld, HoldOnly}
use Rattle.dev_model.specs.HeldLaws.{hold_by_write, hold_here, no_chance_before}
use Rattle.dev_model.specs.PlaceLaws.{IsSettled, reads_written, reads_written_elsewhere}
use Rattle.geometry.specs.Mirrors.{AreAtRest, NoBlock}
use Rattle.vol_format.specs.Formatting.{if_so, or_held}
use Rattle.vol_format.specs.Steps.{AllSettled, AsksOnly, IsStep, LeavesBut, Reads, Touches, Writes, Wrote, if_there, in_block, in_first, on_device, on_first}

-- A crash leaves something of each disk.
pub left_count : (disks : List Disk) (image : Image) → IsCrashImage disks image → length image ≡ length disks
left_count [] [] may = refl
left_count [] (x ∷ image) may = absurd may
left_count (disk ∷ disks) [] may = absurd may
left_count (disk ∷ disks) (x ∷ image) may = ap suc (left_count disks image may.1)

pub changed_count : (dev : ℕ) (change : Disk → Disk) (disks : List Disk) → length (changed dev change disks) ≡ length disks
changed_count dev change [] = refl
changed_count zero change (disk ∷ disks) = refl
changed_count (suc dev) change (disk ∷ disks) = ap suc (changed_count dev change disks)

-- What a crash may leave, it may leave wherever something is written.
pub leaves_itself : (writes : ℕ → ℕ → Option (List ℕ)) (disks : List Disk) (image : Image) → IsCrashImage disks image → LeavesBut writes disks image
leaves_itself writes disks image may = record { count = left_count disks image may; but = (image, may, λ d b elsewhere. refl) }

-- One set of writes is part of another.
abbrev pub IsPart : (ℕ → ℕ → Option (List ℕ)) → (ℕ → ℕ → Option (List ℕ)) → Type 0
IsPart few many = (dev block : ℕ) (bytes : List ℕ) → few dev block ≡ Some bytes → many dev block ≡ Some bytes

-- So where the first writes, the second does.
part_some : (few many : Option (List ℕ)) → ((bytes : List ℕ) → few ≡ Some bytes → many ≡ Some bytes) → IsSome few → IsSome many
part_some None many part some = absurd (false≢true some)
part_some (Some bytes) many part some = ap is_some (part bytes refl)

-- What a crash leaves after one part and then another.
leaves_then : (first second all : ℕ → ℕ → Option (List ℕ)) (old mid : List Disk) (image : Image)
    → IsPart first all → IsPart second all → ((before : Image) → IsCrashImage mid before → LeavesBut first old before) → LeavesBut second mid image → LeavesBut all old image
leaves_then first second all old mid image one two before leaves =
    let middle = leaves.but in
    let start = before middle.0 middle.1 in
    record {
      count = leaves.count ∙ sym (left_count mid middle.0 middle.1) ∙ start.count;
      but = (start.but.0, start.but.1, λ d b elsewhere. start.but.2 d b (λ is. elsewhere (part_some (first d b) (all d b) (one d b) is)) ∙ middle.2 d b (λ is. elsewhere (part_some (second d b) (all d b) (two d b) is)));
    }

leaves_more : (few many : ℕ → ℕ → Option (List ℕ)) (old : List Disk) (image : Image) → IsPart few many → LeavesBut few old image → LeavesBut many old image
leaves_more few many old image part leaves = record { count = leaves.count; but = (leaves.but.0, leaves.but.1, λ d b elsewhere. leaves.but.2 d b (λ is. elsewhere (part_some (few d b) (many d b) (part d b) is))) }

-- Before the first call nothing is touched.
pub touches_none : (writes : ℕ → ℕ → Option (List ℕ)) (history : DevicesState) → Touches writes history history
touches_none writes history = started (λ _ _ image. LeavesBut writes (now history) image) history (leaves_itself writes (now history))

-- One part after another touches what both write.
pub touches_then : (first second all : ℕ → ℕ → Option (List ℕ)) (old mid new : DevicesState) → IsPart first all → IsPart second all → Touches first old mid → Touches second mid new → Touches all old new
touches_then first second all old mid new one two so_far then = record {
  later = omega (arith, so_far.later, then.later);
  past = λ m le. then.past m (omega (arith, le, so_far.later)) ∙ so_far.past m le;
  each = λ m lo hi image may. ⊎_elim
      (λ (later : mid.moment < m). leaves_then first second all (now old) (now mid) image one two (λ before. so_far.each mid.moment so_far.later (omega arith) before) (then.each m (omega (arith, later)) hi image may))
      (λ (earlier : m ≤ mid.moment). leaves_more first all (now old) image one (so_far.each m lo earlier image (subst (λ ds. IsCrashImage ds image) (then.past m earlier) may)))
      (cases_lt mid.moment m);
}

-- More may be touched.
pub touches_more : (few many : ℕ → ℕ → Option (List ℕ)) (old new : DevicesState) → IsPart few many → Touches few old new → Touches many old new
touches_more few many old new part touches = record {
  later = touches.later;
  past = touches.past;
  each = λ m lo hi image may. leaves_more few many (now old) image part (touches.each m lo hi image may);
}

-- Flushes touch nothing.
pub touches_by_flushes : (writes : ℕ → ℕ → Option (List ℕ)) (old new : DevicesState) → EachCrash (λ _ _ image. IsCrashImage (now old) image) old new → Touches writes old new
touches_by_flushes writes old new only = record {
  later = only.later;
  past = only.past;
  each = λ m lo hi image may. leaves_itself writes (now old) image (only.each m lo hi image may);
}

-- Before the first call nothing is asked.
pub asks_none : (writes : ℕ → ℕ → Option (List ℕ)) (history : DevicesState) → AsksOnly writes history history
asks_none writes history opens = hold_here opens (λ d b x. writes d b ≡ Some x) history

-- One part after another asks what both write.
pub asks_then : (first second all : ℕ → ℕ → Option (List ℕ)) (old mid new : DevicesState) → old.moment ≤ mid.moment → ((m : ℕ) → m ≤ mid.moment → new.disks m ≡ mid.disks m) → IsPart first all → IsPart second all
    → AsksOnly first old mid → AsksOnly second mid new → AsksOnly all old new
asks_then first second all old mid new begun past one two so_far then opens m lo hi d b no_chance x is_open held = ⊎_elim
    (λ (later : mid.moment < m). ⊎_elim
    (λ (before : HaveHeld (now mid) d b x). ⊎_elim
    (λ (was : HaveHeld (now old) d b x). inl was)
    (λ (asked : first d b ≡ Some x). inr (one d b x asked))
    (so_far opens mid.moment begun (omega arith) d b (no_chance_before opens d b old.moment m mid new past mid.moment (omega (arith, later)) (omega arith) no_chance) x is_open before))
    (λ (asked : second d b ≡ Some x). inr (two d b x asked))
    (then opens m (omega (arith, later)) hi d b (λ n from to. no_chance n (omega (arith, begun, from)) to) x is_open held))
    (λ (earlier : m ≤ mid.moment). ⊎_elim
    (λ (was : HaveHeld (now old) d b x). inl was)
    (λ (asked : first d b ≡ Some x). inr (one d b x asked))
    (so_far opens m lo earlier d b (no_chance_before opens d b old.moment m mid new past m (omega arith) earlier no_chance) x is_open (subst (λ (ds : List Disk). HaveHeld ds d b x) (past m earlier) held)))
    (cases_lt mid.moment m)

-- More may be asked.
pub asks_more : (few many : ℕ → ℕ → Option (List ℕ)) (old new : DevicesState) → IsPart few many → AsksOnly few old new → AsksOnly many old new
asks_more few many old new part asks opens m lo hi d b no_chance x is_open held = ⊎_elim
    (λ (was : HaveHeld (now old) d b x). inl was)
    (λ (asked : few d b ≡ Some x). inr (part d b x asked))
    (asks opens m lo hi d b no_chance x is_open held)

-- Flushes ask for nothing.
pub asks_by_flushes : (writes : ℕ → ℕ → Option (List ℕ)) (old new : DevicesState) → ((opens : List ℕ → Bool) → HoldOnly opens NoBlock old new) → AsksOnly writes old new
asks_by_flushes writes old new none opens m lo hi d b no_chance x is_open held = ⊎_elim
    (λ (was : HaveHeld (now old) d b x). inl was)
    (λ (asked : ⊥). absurd asked)
    (none opens m lo hi d b no_chance x is_open held)

-- Where nothing is written, nothing is left to be read that wasn't.
pub reads_none : (writes : ℕ → ℕ → Option (List ℕ)) (history : DevicesState) → ((dev block : ℕ) → writes dev block ≡ None) → Reads writes history history
reads_none writes history none dev block = sym (ap (λ bytes. or_held bytes (block_at (as_read (now history)) dev block)) (none dev block))

pub or_held_twice : (second first there : Option (List ℕ)) → or_held second (or_held first there) ≡ or_held (or_held second first) there
or_held_twice None first there = refl
or_held_twice (Some bytes) first there = refl

-- One set of writes is first one and then another, elsewhere.
pub record IsThen (first second all : ℕ → ℕ → Option (List ℕ)) : Type 0 where
  pub is : (dev block : ℕ) → all dev block ≡ or_held (second dev block) (first dev block)
  pub before : IsPart first all

pub reads_then : (first second all : ℕ → ℕ → Option (List ℕ)) (old mid new : DevicesState) → IsThen first second all → Reads first old mid → Reads second mid new → Reads all old new
reads_then first second all old mid new is one two dev block =
    two dev block ∙ ap (or_held (second dev block)) (one dev block) ∙ or_held_twice (second dev block) (first dev block) (block_at (as_read (now old)) dev block) ∙ ap (λ bytes. or_held bytes (block_at (as_read (now old)) dev block)) (sym (is.is dev block))

pub second_is_part : (first second all : ℕ → ℕ → Option (List ℕ)) → IsThen first second all → IsPart second all
second_is_part first second all is dev block bytes there = is.is dev block ∙ ap (λ written. or_held written (first dev block)) there

-- Where nothing is written, all of it was.
pub wrote_none : (writes : ℕ → ℕ → Option (List ℕ)) (history : DevicesState) → ((dev block : ℕ) → writes dev block ≡ None) → Wrote writes history history
wrote_none writes history none = record { touches = touches_none writes history; asks = asks_none writes history; reads = reads_none writes history none }

-- All parts that were written, wherever the last one ends.
pub writes_then : {T E : Type 0} (result : Result T E) (first second all : ℕ → ℕ → Option (List ℕ)) (old mid new : DevicesState) → IsThen first second all → Wrote first old mid → Writes result second mid new → Writes result all old new
writes_then (Err e) first second all old mid new is so_far then = record {
  asks = asks_then first second all old mid new so_far.touches.later then.touches.past is.before (second_is_part first second all is) so_far.asks then.asks;
  touches = touches_then first second all old mid new is.before (second_is_part first second all is) so_far.touches then.touches;
  reads = tt;
}
writes_then (Ok x) first second all old mid new is so_far then = record {
  asks = asks_then first second all old mid new so_far.touches.later then.touches.past is.before (second_is_part first second all is) so_far.asks then.asks;
  touches = touches_then first second all old mid new is.before (second_is_part first second all is) so_far.touches then.touches;
  reads = reads_then first second all old mid new is so_far.reads then.reads;
}

-- A part of the writes, which failed, is part of all.
pub failed_part : {T F E G : Type 0} (out : Result T G) (result : Result F E) (first second all : ℕ → ℕ → Option (List ℕ)) (old mid new : DevicesState) → IsErr out → IsPart first all → IsPart second all → Wrote first old mid → Writes result second mid new → Writes out all old new
failed_part (Ok x) result first second all old mid new is one two so_far then = absurd (false≢true is)
failed_part (Err e) result first second all old mid new is one two so_far then = record {
  asks = asks_then first second all old mid new so_far.touches.later then.touches.past one two so_far.asks then.asks;
  touches = touches_then first second all old mid new one two so_far.touches then.touches;
  reads = tt;
}

-- One part more was written.
pub wrote_next : (first second all : ℕ → ℕ → Option (List ℕ)) (old mid new : DevicesState) → IsThen first second all → Wrote first old mid → Touches second mid new → AsksOnly second mid new → Reads second mid new → Wrote all old new
wrote_next first second all old mid new is so_far touches asks reads = record {
  asks = asks_then first second all old mid new so_far.touches.later touches.past is.before (second_is_part first second all is) so_far.asks asks;
  touches = touches_then first second all old mid new is.before (second_is_part first second all is) so_far.touches touches;
  reads = reads_then first second all old mid new is so_far.reads reads;
}

-- Two parts that were written one after the other.
pub wrote_also : (first second all : ℕ → ℕ → Option (List ℕ)) (old mid new : DevicesState) → IsThen first second all → Wrote first old mid → Wrote second mid new → Wrote all old new
wrote_also first second all old mid new is so_far then = wrote_next first second all old mid new is so_far then.touches then.asks then.reads

-- The same writes under another name.
pub wrote_alike : (one other : ℕ → ℕ → Option (List ℕ)) (old new : DevicesState) → ((dev block : ℕ) → one dev block ≡ other dev block) → Wrote one old new → Wrote other old new
wrote_alike one other old new same wrote = record {
  asks = asks_more one other old new (λ d b x there. sym (same d b) ∙ there) wrote.asks;
  touches = touches_more one other old new (λ d b x there. sym (same d b) ∙ there) wrote.touches;
  reads = λ d b. wrote.reads d b ∙ ap (λ bytes. or_held bytes (block_at (as_read (now old)) d b)) (same d b);
}

pub writes_alike : {T E : Type 0} (result : Result T E) (one other : ℕ → ℕ → Option (List ℕ)) (old new : DevicesState) → ((dev block : ℕ) → one dev block ≡ other dev block) → Writes result one old new → Writes result other old new
writes_alike (Err e) one other old new same writes = record {
  touches = touches_more one other old new (λ d b x there. sym (same d b) ∙ there) writes.touches;
  asks = asks_more one other old new (λ d b x there. sym (same d b) ∙ there) writes.asks;
  reads = tt;
}
writes_alike (Ok x) one other old new same writes = record {
  asks = asks_more one other old new (λ d b x there. sym (same d b) ∙ there) writes.asks;
  touches = touches_more one other old new (λ d b x there. sym (same d b) ∙ there) writes.touches;
  reads = λ d b. writes.reads d b ∙ ap (λ bytes. or_held bytes (block_at (as_read (now old)) d b)) (same d b);
}

-- What was written where all succeeds.
pub writes_all : {T E : Type 0} (x : T) (writes : ℕ → ℕ → Option (List ℕ)) (old new : DevicesState) → Wrote writes old new → Writes {E = E} (Ok x) writes old new
writes_all x writes old new wrote = record { touches = wrote.touches; asks = wrote.asks; reads = wrote.reads }

-- The first devices are some of more.
pub fewer_devices : (few many : ℕ) (writes : ℕ → ℕ → Option (List ℕ)) → few ≤ many → IsPart (on_first few writes) (on_first many writes)
fewer_devices few many writes le dev block bytes there = ⊎_elim
    (λ (within : dev < few). rw (lt-ltb dev many (omega (arith, within, le))) (rw (lt-ltb dev few within) at there))
    (λ (past : few ≤ dev). absurd (none-some bytes (rw (le-ltb dev few past) at there)))
    (cases_lt dev few)

-- So are the first blocks.
fewer_of_blocks : (device few many : ℕ) (writes : ℕ → Option (List ℕ)) → few ≤ many → IsPart (on_device device (in_first few writes)) (on_device device (in_first many writes))
fewer_of_blocks device few many writes le dev block bytes there = ⊎_elim
    (λ (within : block < few). rw (lt-ltb block many (omega (arith, within, le))) (rw (lt-ltb block few within) at there))
    (λ (past : few ≤ block). absurd (none-some bytes (sym (never (dev == device)) ∙ (rw (le-ltb block few past) at there))))
    (cases_lt block few)
  where
    never : (here : Bool) → cond {A = Option (List ℕ)} here None None ≡ None
    never true = refl
    never false = refl

-- One device more.
pub one_device_more : (count : ℕ) (writes : ℕ → ℕ → Option (List ℕ)) → IsThen (on_first count writes) (on_device count (writes count)) (on_first (count + 1) writes)
one_device_more count writes = record { is = both; before = fewer_devices count (count + 1) writes (omega arith) }
  where
    last : (bytes : Option (List ℕ)) → bytes ≡ or_held bytes None
    last None = refl
    last (Some b) = refl

    both : (dev block : ℕ) → on_first (count + 1) writes dev block ≡ or_held (on_device count (writes count) dev block) (on_first count writes dev block)
    both dev block = ⊎_elim
        (λ (here : dev ≡ count). rw (eq-eqb dev count here, lt-ltb dev (count + 1) (omega (arith, here)), le-ltb dev count (omega (arith, here)), here) (last (writes count block)))
        (λ (other : ¬ (dev ≡ count)). ⊎_elim
        (λ (before : dev < count). rw (ne_eqb dev count other, lt-ltb dev (count + 1) (omega (arith, before)), lt-ltb dev count before) refl)
        (λ (beyond : count ≤ dev). rw (ne_eqb dev count other, le-ltb dev (count + 1) (omega (arith, beyond, other)), le-ltb dev count beyond) refl)
        (cases_lt dev count))
        (cases_eq dev count)

-- One block more.
pub one_block_more : (device count : ℕ) (writes : ℕ → Option (List ℕ)) → IsThen (on_device device (in_first count writes)) (on_device device (in_block count (writes count))) (on_device device (in_first (count + 1) writes))
one_block_more device count writes = record { is = both; before = fewer_of_blocks device count (count + 1) writes (omega arith) }
  where
    last : (bytes : Option (List ℕ)) → bytes ≡ or_held bytes None
    last None = refl
    last (Some b) = refl

    both : (dev block : ℕ) → on_device device (in_first (count + 1) writes) dev block ≡ or_held (on_device device (in_block count (writes count)) dev block) (on_device device (in_first count writes) dev block)
    both dev block = ⊎_elim
        (λ (there : (dev == device) ≡ true). rw there (⊎_elim
        (λ (here : block ≡ count). rw (eq-eqb block count here, lt-ltb block (count + 1) (omega (arith, here)), le-ltb block count (omega (arith, here)), here) (last (writes count)))
        (λ (other : ¬ (block ≡ count)). ⊎_elim
        (λ (before : block < count). rw (ne_eqb block count other, lt-ltb block (count + 1) (omega (arith, before)), lt-ltb block count before) refl)
        (λ (beyond : count ≤ block). rw (ne_eqb block count other, le-ltb block (count + 1) (omega (arith, beyond, other)), le-ltb block count beyond) refl)
        (cases_lt block count))
        (cases_eq block count)))
        (λ (elsewhere : (dev == device) ≡ false). rw elsewhere refl)
        (cases_Bool (dev == device))

-- A place is the one that is written, or nothing is written there.
at_or_none : (device place : ℕ) (bytes : Option (List ℕ)) (dev block : ℕ) → ((dev ≡ device) × (block ≡ place) × (on_device device (in_block place bytes) dev block ≡ bytes)) ⊎ ((¬ IsAt device place dev block) × (on_device device (in_block place bytes) dev block ≡ None))
at_or_none device place bytes dev block = ⊎_elim
    (λ (there : dev ≡ device). ⊎_elim
    (λ (here : block ≡ place). inl (there, here, rw (eq-eqb dev device there, eq-eqb block place here) refl))
    (λ (other : ¬ (block ≡ place)). inr ((λ at. other at.1), rw (eq-eqb dev device there, ne_eqb block place other) refl))
    (cases_eq block place))
    (λ (other : ¬ (dev ≡ device)). inr ((λ at. other at.0), rw (ne_eqb dev device other) refl))
    (cases_eq dev device)

-- What is written in one block isn't in another.
pub apart_blocks : (device one other : ℕ) (first second : Option (List ℕ)) → ¬ (one ≡ other) → (dev block : ℕ) (bytes : List ℕ) → on_device device (in_block one first) dev block ≡ Some bytes → on_device device (in_block other second) dev block ≡ None
apart_blocks device one other first second differ dev block bytes there = ⊎_elim
    (λ (here : (dev ≡ device) × (block ≡ one) × (on_device device (in_block one first) dev block ≡ first)). rw (eq-eqb dev device here.0, ne_eqb block other (λ same. differ (omega (arith, same, here.1)))) refl)
    (λ (elsewhere : (¬ IsAt device one dev block) × (on_device device (in_block one first) dev block ≡ None)). absurd (none-some bytes (sym elsewhere.1 ∙ there)))
    (at_or_none device one first dev block)

-- Two sets of writes that write nowhere both are one after the other what they are together.
pub then_apart : (first second all : ℕ → ℕ → Option (List ℕ)) → ((dev block : ℕ) → all dev block ≡ or_held (second dev block) (first dev block)) → ((dev block : ℕ) (bytes : List ℕ) → first dev block ≡ Some bytes → second dev block ≡ None)
    → IsThen first second all
then_apart first second all is apart = record { is = is; before = λ d b x there. is d b ∙ ap (λ written. or_held written (first d b)) (apart d b x there) ∙ there }

is_written_at : (device place : ℕ) (bytes : List ℕ) (dev block : ℕ) → IsAt device place dev block → IsSome (on_device device (in_block place (Some bytes)) dev block)
is_written_at device place bytes dev block at = rw (eq-eqb dev device at.0, eq-eqb block place at.1) refl

leaves_written : (disks : List Disk) (device place : ℕ) (bytes any : List ℕ) → All IsDisk disks → (new : List Disk) (image : Image) → new ≡ changed device (after_write place bytes any) disks → IsCrashImage new image → LeavesBut (on_device device (in_block place (Some bytes))) disks image
leaves_written disks device place bytes any are new image is may =
    let before = left_by_write disks device place bytes any are image (subst (λ ds. IsCrashImage ds image) is may) in
    record {
      count = left_count new image may ∙ ap (λ (ds : List Disk). length ds) is ∙ changed_count device (after_write place bytes any) disks;
      but = (before.0, before.1, λ d b elsewhere. before.2 d b (λ at. elsewhere (is_written_at device place bytes d b at)));
    }

leaves_as_before : (writes : ℕ → ℕ → Option (List ℕ)) (disks new : List Disk) (image : Image) → new ≡ disks → IsCrashImage new image → LeavesBut writes disks image
leaves_as_before writes disks new image is may = leaves_itself writes disks image (subst (λ ds. IsCrashImage ds image) is may)

-- A write touches its place.
pub touches_by_write : {T E : Type 0} (result : Result T E) (device place : ℕ) (bytes : List ℕ) (old new : DevicesState) → All IsDisk (now old)
    → ChangesDisks result (MayBeWritten device place bytes (now old)) (Is (changed device (written place bytes) (now old))) old new → Touches (on_device device (in_block place (Some bytes))) old new
touches_by_write result device place bytes old new are goes = goes_on result (λ _ _ image. LeavesBut writes (now old) image) _ _ old old new (touches_none writes old) goes
    (λ m disks image maybe may. ⊎_elim (λ same. leaves_as_before writes (now old) disks image same may) (λ (spoilt : (any : List ℕ) × IsBlock any × (disks ≡ changed device (after_write place bytes any) (now old))). leaves_written (now old) device place bytes spoilt.0 are disks image spoilt.2 may) maybe)
    (λ m disks image is may. leaves_written (now old) device place bytes bytes are disks image is may)
  where
    writes : ℕ → ℕ → Option (List ℕ)
    writes = on_device device (in_block place (Some bytes))

reads_by_write : (device place : ℕ) (bytes : List ℕ) (old new : DevicesState) → place < get_or (sizes_of (now old)) device 0 → now new ≡ changed device (written place bytes) (now old) → Reads (on_device device (in_block place (Some bytes))) old new
reads_by_write device place bytes old new within is dev block = ap (λ (ds : List Disk). block_at (as_read ds) dev block) is ∙ ⊎_elim
    (λ (here : (dev ≡ device) × (block ≡ place) × (on_device device (in_block place (Some bytes)) dev block ≡ Some bytes)).
    ap (λ (d : ℕ). block_at (as_read after) d block) here.0 ∙ ap (block_at (as_read after) device) here.1 ∙ reads_written (now old) device place bytes within
    ∙ sym (ap (λ held. or_held held (block_at (as_read (now old)) dev block)) here.2))
    (λ (elsewhere : (¬ IsAt device place dev block) × (on_device device (in_block place (Some bytes)) dev block ≡ None)).
    reads_written_elsewhere (now old) device place bytes dev block elsewhere.0 ∙ sym (ap (λ held. or_held held (block_at (as_read (now old)) dev block)) elsewhere.1))
    (at_or_none device place (Some bytes) dev block)
  where
    after : List Disk
    after = changed device (written place bytes) (now old)

-- A write asks for its bytes at its place.
asks_by_write : {T E : Type 0} (result : Result T E) (device place : ℕ) (bytes : List ℕ) (old new : DevicesState)
    → ChangesDisks result (MayBeWritten device place bytes (now old)) (Is (changed device (written place bytes) (now old))) old new → AsksOnly (on_device device (in_block place (Some bytes))) old new
asks_by_write result device place bytes old new goes opens =
    let asked : ℕ → ℕ → List ℕ → Type 0 = λ d b x. on_device device (in_block place (Some bytes)) d b ≡ Some x in
    let here : on_device device (in_block place (Some bytes)) device place ≡ Some bytes = rw (eq-eqb device device refl, eq-eqb place place refl) refl in
    hold_by_write opens asked old old (omega arith) (hold_here opens asked old) result device place bytes new here goes

-- A write writes its bytes at its place.
pub writes_by_write : {T E : Type 0} (result : Result T E) (device place : ℕ) (bytes : List ℕ) (old new : DevicesState) → All IsDisk (now old) → place < get_or (sizes_of (now old)) device 0
    → ChangesDisks result (MayBeWritten device place bytes (now old)) (Is (changed device (written place bytes) (now old))) old new → Writes result (on_device device (in_block place (Some bytes))) old new
writes_by_write (Err e) device place bytes old new are within goes = record { touches = touches_by_write (Err e) device place bytes old new are goes; asks = asks_by_write (Err e) device place bytes old new goes; reads = tt }
writes_by_write (Ok x) device place bytes old new are within goes = record { touches = touches_by_write (Ok x) device place bytes old new are goes; asks = asks_by_write (Ok x) device place bytes old new goes; reads = reads_by_write device place bytes old new within goes.after }

-- Where each device is settled, every place is.
pub all_settled : (disks : List Disk) (count : ℕ) → length disks ≤ count → ((dev : ℕ) → dev < count → IsSettled disks dev) → AllSettled disks
all_settled disks count most settled image may dev block = ⊎_elim
    (λ (within : dev < count). settled dev within image may block)
    (λ (past : count ≤ dev). none_past image dev block (omega (arith, past, most, left_count disks image may)) ∙ sym (none_past (as_read disks) dev block (omega (arith, past, most, read_count disks))))
    (cases_lt dev count)
  where
    none_past : (image : Image) (dev block : ℕ) → length image ≤ dev → block_at image dev block ≡ None
    none_past [] dev block past = refl
    none_past (x ∷ image) zero block past = absurd (omega (arith, past))
    none_past (x ∷ image) (suc dev) block past = none_past image dev block (omega (arith, past))

    read_count : (disks : List Disk) → length (as_read disks) ≡ length disks
    read_count [] = refl
    read_count (disk ∷ disks) = ap suc (read_count disks)

-- Where each device is at rest, nothing is pending.
pub all_rest : (disks : List Disk) (count : ℕ) → length disks ≤ count → AreAtRest count disks → NothingPending disks
all_rest [] count few rest = All-nil IsAtRest
all_rest (disk ∷ disks) zero few rest = absurd (omega (arith, few))
all_rest (disk ∷ disks) (suc count) few rest = All-cons IsAtRest disk disks (rest 0 disk (omega arith) refl) (all_rest disks count (omega (arith, few)) (λ dev d within there. rest (suc dev) d (omega (arith, within)) there))

-- The flushes after writes that succeeded make a step of them.
pub step_by_flushes : {T E : Type 0} (result : Result T E) (writes : ℕ → ℕ → Option (List ℕ)) (old mid new : DevicesState) (count : ℕ) → Wrote writes old mid → length (now new) ≤ count
    → EachCrash (λ _ _ image. IsCrashImage (now mid) image) mid new → ((dev block : ℕ) → block_at (as_read (now new)) dev block ≡ block_at (as_read (now mid)) dev block)
    → OnOk result ((dev : ℕ) → dev < count → IsSettled (now new) dev) → OnOk result (AreAtRest count (now new)) → ((opens : List ℕ → Bool) → HoldOnly opens NoBlock mid new) → IsStep result writes old new
step_by_flushes (Err e) writes old mid new count wrote most only reads settled rest none = record {
  writes_so = record {
    touches = touches_then writes writes writes old mid new (λ d b x there. there) (λ d b x there. there) wrote.touches (touches_by_flushes writes mid new only);
    asks = asks_then writes writes writes old mid new wrote.touches.later only.past (λ d b x there. there) (λ d b x there. there) wrote.asks (asks_by_flushes writes mid new none);
    reads = tt;
  };
  settled = tt;
  rest = tt;
}
step_by_flushes (Ok x) writes old mid new count wrote most only reads settled rest none = record {
  writes_so = record {
    touches = touches_then writes writes writes old mid new (λ d b x there. there) (λ d b x there. there) wrote.touches (touches_by_flushes writes mid new only);
    asks = asks_then writes writes writes old mid new wrote.touches.later only.past (λ d b x there. there) (λ d b x there. there) wrote.asks (asks_by_flushes writes mid new none);
    reads = λ d b. reads d b ∙ wrote.reads d b;
  };
  settled = all_settled (now new) count most settled;
  rest = all_rest (now new) count most rest;
}

-- A step that failed while it wrote.
pub step_failed : {T F E G : Type 0} (out : Result T G) (result : Result F E) (first second all : ℕ → ℕ → Option (List ℕ)) (old mid new : DevicesState) → IsErr out → IsPart first all → IsPart second all → Wrote first old mid → Writes result second mid new → IsStep out all old new
step_failed (Ok x) result first second all old mid new is one two so_far then = absurd (false≢true is)
step_failed (Err e) result first second all old mid new is one two so_far then = record { writes_so = failed_part (Err e) result first second all old mid new is one two so_far then; settled = tt; rest = tt }

-- One device is one of the first.
pub one_of_first : (device count : ℕ) (writes : ℕ → ℕ → Option (List ℕ)) → device < count → IsPart (on_device device (writes device)) (on_first count writes)
one_of_first device count writes within dev block bytes there = ⊎_elim
    (λ (here : dev ≡ device). rw (lt-ltb dev count (omega (arith, within, here))) (subst (λ n. writes n block ≡ Some bytes) (sym here) (rw (eq-eqb dev device here) at there)))
    (λ (other : ¬ (dev ≡ device)). absurd (none-some bytes (rw (ne_eqb dev device other) at there)))
    (cases_eq dev device)

-- Nothing is written into a block that isn't there.
pub if_there_not : (device size place : ℕ) (bytes : List ℕ) → size ≤ place → (dev block : ℕ) → on_device device (if_there size place bytes) dev block ≡ None
if_there_not device size place bytes short dev block = ⊎_elim
    (λ (here : block ≡ place). nothing (dev == device) (block == place) (nat_lt block size) (le-ltb block size (omega (arith, here, short))))
    (λ (other : ¬ (block ≡ place)). nowhere (dev == device) (block == place) (nat_lt block size) (ne_eqb block place other))
    (cases_eq block place)
  where
    nothing : (there here within : Bool) → within ≡ false → cond there (if_so (here && within) bytes) None ≡ None
    nothing true true within is = ap (λ test. if_so test bytes) is
    nothing true false within is = refl
    nothing false here within is = refl

    nowhere : (there here within : Bool) → here ≡ false → cond there (if_so (here && within) bytes) None ≡ None
    nowhere true here within is = ap (λ test. if_so (test && within) bytes) is
    nowhere false here within is = refl

-- Of a block that is there, its bytes are written.
pub if_there_is : (device size place : ℕ) (bytes : List ℕ) → place < size → (dev block : ℕ) → on_device device (in_block place (Some bytes)) dev block ≡ on_device device (if_there size place bytes) dev block
if_there_is device size place bytes within dev block = ⊎_elim
    (λ (here : block ≡ place). both (dev == device) (block == place) (nat_lt block size) (lt-ltb block size (omega (arith, here, within))))
    (λ (other : ¬ (block ≡ place)). neither (dev == device) (block == place) (nat_lt block size) (ne_eqb block place other))
    (cases_eq block place)
  where
    both : (there here within : Bool) → within ≡ true → cond there (cond here (Some bytes) None) None ≡ cond there (if_so (here && within) bytes) None
    both true true within is = sym (ap (λ test. if_so test bytes) is)
    both true false within is = refl
    both false here within is = refl

    neither : (there here within : Bool) → here ≡ false → cond there (cond here (Some bytes) None) None ≡ cond there (if_so (here && within) bytes) None
    neither true true within is = absurd (false≢true (sym is))
    neither true false within is = refl
    neither false here within is = refl

-- There are as many sizes as disks.
pub disk_count : (disks : List Disk) → length (sizes_of disks) ≡ length disks
disk_count [] = refl
disk_count (disk ∷ disks) = ap suc (disk_count disks)

-- Where a call handed its outcome on, it wrote the same.
pub as_ok : {T E F G : Type 0} (result : Result T E) (x : T) (y : F) (writes : ℕ → ℕ → Option (List ℕ)) (old new : DevicesState) → result ≡ Ok x → Writes result writes old new → Writes {E = G} (Ok y) writes old new
as_ok {T} {E} result x y writes old new is wrote =
    let ok : Writes {T = T} {E = E} (Ok x) writes old new = subst (λ (r : Result T E). Writes r writes old new) is wrote in
    record { touches = ok.touches; asks = ok.asks; reads = ok.reads }

pub as_err : {T E F G : Type 0} (result : Result T E) (y : G) (writes : ℕ → ℕ → Option (List ℕ)) (old new : DevicesState) → Writes result writes old new → Writes {T = F} (Err y) writes old new
as_err result y writes old new wrote = record { touches = wrote.touches; asks = wrote.asks; reads = tt }

-- Where the bytes are the same, so is what is written.
pub same_bytes_there : (device place : ℕ) (one other : Option (List ℕ)) → one ≡ other → (dev block : ℕ) → on_device device (in_block place one) dev block ≡ on_device device (in_block place other) dev block
same_bytes_there device place one other same dev block = ap (λ bytes. on_device device (in_block place bytes) dev block) same

-- Where there are no bytes, nothing is written.
pub nothing_there : (device place : ℕ) (bytes : Option (List ℕ)) → bytes ≡ None → (dev block : ℕ) → on_device device (in_block place bytes) dev block ≡ None
nothing_there device place bytes none dev block = ap (λ held. on_device device (in_block place held) dev block) none ∙ never (dev == device) (block == place)
  where
    never : (there here : Bool) → cond {A = Option (List ℕ)} there (cond here None None) None ≡ None
    never true true = refl
    never true false = refl
    never false here = refl

-- Of no device, nothing is written.
pub no_device : (writes : ℕ → ℕ → Option (List ℕ)) (dev block : ℕ) → on_first 0 writes dev block ≡ None
no_device writes dev block = rw (le-ltb dev 0 (omega arith)) refl

-- In no block, nothing is written.
pub no_block : (device : ℕ) (writes : ℕ → Option (List ℕ)) (count : ℕ) → ((block : ℕ) → block < count → writes block ≡ None) → (dev block : ℕ) → on_device device (in_first count writes) dev block ≡ None
no_block device writes count none dev block = ⊎_elim
    (λ (within : block < count). inside (dev == device) (nat_lt block count) (none block within))
    (λ (past : count ≤ block). outside (dev == device) (le-ltb block count past))
    (cases_lt block count)
  where
    inside : (there within : Bool) → writes block ≡ None → cond there (cond within (writes block) None) None ≡ None
    inside true true is = is
    inside true false is = refl
    inside false within is = refl

    outside : (there : Bool) → nat_lt block count ≡ false → cond there (cond (nat_lt block count) (writes block) None) None ≡ None
    outside true is = rw is refl
    outside false is = refl

-- What is written into the first blocks alone.
pub all_blocks : (device : ℕ) (writes : ℕ → Option (List ℕ)) (count : ℕ) → ((block : ℕ) → count ≤ block → writes block ≡ None) → (dev block : ℕ) → on_device device (in_first count writes) dev block ≡ on_device device writes dev block
all_blocks device writes count none dev block = ⊎_elim
    (λ (within : block < count). rw (lt-ltb block count within) refl)
    (λ (past : count ≤ block). rw (le-ltb block count past) (ap (λ bytes. cond {A = Option (List ℕ)} (dev == device) bytes None) (sym (none block past))))
    (cases_lt block count)

-- The first blocks are some of all.
pub fewer_blocks : (device count : ℕ) (writes : ℕ → Option (List ℕ)) → IsPart (on_device device (in_first count writes)) (on_device device writes)
fewer_blocks device count writes dev block bytes some = less (dev == device) (nat_lt block count) (writes block) some
  where
    less : (there within : Bool) (held : Option (List ℕ)) → cond there (cond within held None) None ≡ Some bytes → cond there held None ≡ Some bytes
    less true true held is = is
    less true false held is = absurd (none-some bytes is)
    less false within held is = is

-- One block is one of all.
pub one_of_blocks : (device count : ℕ) (writes : ℕ → Option (List ℕ)) → IsPart (on_device device (in_block count (writes count))) (on_device device writes)
one_of_blocks device count writes dev block bytes some = ⊎_elim
    (λ (here : block ≡ count). subst (λ n. on_device device writes dev n ≡ Some bytes) (sym here) (less (dev == device) (block == count) (writes count) some))
    (λ (other : ¬ (block ≡ count)). absurd (nowhere (dev == device) (ne_eqb block count other) some))
    (cases_eq block count)
  where
    less : (there here : Bool) (held : Option (List ℕ)) → cond there (cond here held None) None ≡ Some bytes → cond there held None ≡ Some bytes
    less true true held is = is
    less true false held is = absurd (none-some bytes is)
    less false here held is = absurd (none-some bytes is)

    nowhere : (there : Bool) → (block == count) ≡ false → ¬ (cond there (cond (block == count) (writes count) None) None ≡ Some bytes)
    nowhere true is some = none-some bytes (rw is at some)
    nowhere false is some = none-some bytes some

-- What a call wrote that succeeded.
pub wrote_by_ok : {T E : Type 0} (result : Result T E) (x : T) (writes : ℕ → ℕ → Option (List ℕ)) (old new : DevicesState) → result ≡ Ok x → Writes result writes old new → Wrote writes old new
wrote_by_ok {T} {E} result x writes old new is wrote =
    let ok : Writes {T = T} {E = E} (Ok x) writes old new = subst (λ (r : Result T E). Writes r writes old new) is wrote in
    record { touches = ok.touches; asks = ok.asks; reads = ok.reads }

-- A call that failed may be said to write more.
pub failed_by : {T F E G : Type 0} (out : Result T G) (result : Result F E) (few many : ℕ → ℕ → Option (List ℕ)) (old new : DevicesState) → IsErr out → IsPart few many → Writes result few old new → Writes out many old new
failed_by (Ok x) result few many old new is part writes = absurd (false≢true is)
failed_by (Err e) result few many old new is part writes = record { touches = touches_more few many old new part writes.touches; asks = asks_more few many old new part writes.asks; reads = tt }

-- After a call that succeeded all of it was written.
pub ok_wrote : {T E : Type 0} (x : T) (writes : ℕ → ℕ → Option (List ℕ)) (old new : DevicesState) → Writes {E = E} (Ok x) writes old new → Wrote writes old new
ok_wrote x writes old new wrote = record { touches = wrote.touches; asks = wrote.asks; reads = wrote.reads }
