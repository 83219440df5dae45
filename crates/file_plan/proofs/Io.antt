-- What was read, reserved and written, one thing after another.
use Rattle.std.proofs.Common.{◌≡◌, List, [], ◌∷◌, ◌++◌, refl, sym, ap, ◌∙◌, subst, append_assoc, arith}
use Rattle.std.specs.Prelude.{All, Contains, IfOk, Result, Ok, Err}
use Rattle.std.proofs.lemmas.List.{append-nil, get_or_append_left, length-append}
use Rattle.std.proofs.lemmas.List.Elements.{All-tail, Contains-append_right}
use Rattle.key_meaning.specs.Forest.{Read}
use Rattle.key_view.specs.Seen.{GoesOn as LooksGoOn}
use Rattle.vol_types.specs.declared.queries.Look.{Look}
use Rattle.file_plan.specs.BlockIo.{GoesOn, Holds, IsHeld, OnlyReads, with_read, with_reserved, with_written}
use Rattle.file_plan.specs.declared.block_io.BlockIo.{BlockIo}
use Rattle.file_plan.specs.declared.block_io.KnownBlock.{KnownBlock}
use Rattle.file_plan.specs.declared.block_io.Reservation.{Reservation}

-- Where nothing was done it goes on.
pub io_stays : (old new : BlockIo) → new ≡ old → GoesOn old new
io_stays old new same = record {
  read = [];
  reserved = [];
  written = [];
  read_is = ap (λ (io : BlockIo). io.read) same ∙ sym (append-nil old.read);
  reserved_is = ap (λ (io : BlockIo). io.reserved) same ∙ sym (append-nil old.reserved);
  written_is = ap (λ (io : BlockIo). io.written) same ∙ sym (append-nil old.written);
}

-- One step.
pub io_read : (known : KnownBlock) (old new : BlockIo) → new ≡ with_read known old → OnlyReads old new
io_read known old new is = record {
  read = known ∷ [];
  read_is = ap (λ (io : BlockIo). io.read) is;
  reserved_is = ap (λ (io : BlockIo). io.reserved) is;
  written_is = ap (λ (io : BlockIo). io.written) is;
}

pub ap_read : (known : KnownBlock) (one other : BlockIo) → one ≡ other → with_read known one ≡ with_read known other
ap_read known one other same = ap (with_read known) same

pub nothing_read : (old new : BlockIo) → new ≡ old → OnlyReads old new
nothing_read old new same = record {
  read = [];
  read_is = ap (λ (io : BlockIo). io.read) same ∙ sym (append-nil old.read);
  reserved_is = ap (λ (io : BlockIo). io.reserved) same;
  written_is = ap (λ (io : BlockIo). io.written) same;
}

pub io_reserved : (reservation : Reservation) (old new : BlockIo) → new ≡ with_reserved reservation old → GoesOn old new
io_reserved reservation old new is = record {
  read = [];
  reserved = reservation ∷ [];
  written = [];
  read_is = ap (λ (io : BlockIo). io.read) is ∙ sym (append-nil old.read);
  reserved_is = ap (λ (io : BlockIo). io.reserved) is;
  written_is = ap (λ (io : BlockIo). io.written) is ∙ sym (append-nil old.written);
}

pub io_written : (known : KnownBlock) (old new : BlockIo) → new ≡ with_written known old → GoesOn old new
io_written known old new is = record {
  read = [];
  reserved = [];
  written = known ∷ [];
  read_is = ap (λ (io : BlockIo). io.read) is ∙ sym (append-nil old.read);
  reserved_is = ap (λ (io : BlockIo). io.reserved) is ∙ sym (append-nil old.reserved);
  written_is = ap (λ (io : BlockIo). io.written) is;
}

-- What was reserved last is there.
pub reserved_there : (reservation : Reservation) (old new : BlockIo) → new ≡ with_reserved reservation old → Contains new.reserved reservation
reserved_there reservation old new is = subst (λ (io : BlockIo). Contains io.reserved reservation) (sym is) (Contains-append_right old.reserved (reservation ∷ []) reservation (0, omega arith, refl))

-- What a result is, if it is one, may be said otherwise.
pub carried : {X E : Type 0} (result : Result X E) (P Q : X → Type 0) → ((x : X) → P x → Q x) → IfOk result P → IfOk result Q
carried (Ok x) P Q step holds = step x holds
carried (Err e) P Q step holds = tt

-- Reading goes on.
pub reads_go_on : (old new : BlockIo) → OnlyReads old new → GoesOn old new
reads_go_on old new reads = record {
  read = reads.read;
  reserved = [];
  written = [];
  read_is = reads.read_is;
  reserved_is = reads.reserved_is ∙ sym (append-nil old.reserved);
  written_is = reads.written_is ∙ sym (append-nil old.written);
}

-- One thing after another.
pub io_then : (old middle new : BlockIo) → GoesOn old middle → GoesOn middle new → GoesOn old new
io_then old middle new one two = record {
  read = one.read ++ two.read;
  reserved = one.reserved ++ two.reserved;
  written = one.written ++ two.written;
  read_is = two.read_is ∙ ap (λ xs. xs ++ two.read) one.read_is ∙ append_assoc old.read one.read two.read;
  reserved_is = two.reserved_is ∙ ap (λ xs. xs ++ two.reserved) one.reserved_is ∙ append_assoc old.reserved one.reserved two.reserved;
  written_is = two.written_is ∙ ap (λ xs. xs ++ two.written) one.written_is ∙ append_assoc old.written one.written two.written;
}

pub All-front : {X : Type 0} (P : X → Type 0) (xs ys : List X) → All P (xs ++ ys) → All P xs
All-front P xs ys all = λ k d lt. subst P (get_or_append_left xs ys d k lt) (all k d (let long = length-append xs ys in omega (arith, long, lt)))

pub All-back : {X : Type 0} (P : X → Type 0) (xs ys : List X) → All P (xs ++ ys) → All P ys
All-back P [] ys all = all
All-back P (x ∷ xs) ys all = All-back P xs ys (All-tail P x (xs ++ ys) all)

-- An image that holds what there is now holds what there was before.
pub held_before : (read : Read) (old new : BlockIo) → GoesOn old new → Holds read new → Holds read old
held_before read old new on holds = record {
  read_ones = All-front (IsHeld read) old.read on.read (subst (All (IsHeld read)) on.read_is holds.read_ones);
  written_ones = All-front (IsHeld read) old.written on.written (subst (All (IsHeld read)) on.written_is holds.written_ones);
}

-- Looks go on.
pub looks_stay : (old new : List Look) → new ≡ old → LooksGoOn old new
looks_stay old new same = record { more = []; is = same ∙ sym (append-nil old) }

pub looks_then : (old middle new : List Look) → LooksGoOn old middle → LooksGoOn middle new → LooksGoOn old new
looks_then old middle new one two = record { more = one.more ++ two.more; is = two.is ∙ ap (λ xs. xs ++ two.more) one.is ∙ append_assoc old one.more two.more }
