-- No entry says that a number is used up, where what was found is far from that and left room in the ring, and the session is short; and so it is after a call.
use Rattle.std.proofs.Common.{◌≡◌, ℕ, ◌<◌, ◌^◌, [], ◌∷◌, ◌++◌, length, subst, ⊎_elim, arith}
use Rattle.std.proofs.lemmas.List.{length-append}
use Rattle.std.proofs.lemmas.List.Elements.{All-push}
use Rattle.core_volume.specs.Checkpoints.{IsFreezeRefused, IsPlacingRefused}
use Rattle.core_volume.specs.Sealing.{IsSealRefused}
use Rattle.core_volume.specs.Volumes.{Volume, needs_entry}
use Rattle.core_actors.specs.declared.answer.Refusal.{Refusal}
use Rattle.core_actors.specs.declared.answer.Refusal.TheVariants as refusals
use Rattle.dev_model.specs.Devices.{DevicesState, FaultCounts}
use Rattle.dev_model.specs.Frames.{GoOn}
use Rattle.forest_ops.specs.Classes.{class_of}
use Rattle.forest_ops.specs.History.{History}
use Rattle.forest_ops.specs.declared.operation.Class.TheVariants.{Syncs}
use Rattle.forest_ops.specs.declared.operation.Entry.{Entry}
use Rattle.forest_ops.specs.declared.operation.Op.{Op}
use Rattle.forest_ops.specs.declared.operation.Reply.{Reply}
use Rattle.forest_ops.specs.declared.operation.Reply.TheVariants.{Spent}
use Rattle.image_view.specs.Found.{Found}
use Rattle.vol_core.specs.Room.{HasRoomForNext, LeavesRoom, MayKeepRoom}
use Rattle.vol_core.proofs.Stages.{sealing_is_free}
use Rattle.vol_session.specs.Numbers.{HasNumbersLeft, IsFarFromSpent}
use Rattle.vol_session.specs.Survivors.{BeginsWell}
use Rattle.vol_session.specs.Writeback.{IsForeign, LacksNumber}
use Rattle.volume.specs.Answers.{HasCause, IsCommitSpent, IsNumberSpent, IsOfRing, IsRingSpent}
use Rattle.volume.specs.States.{AreUnspent, BeganWithRoom, BeganWithoutRoom}

-- The works on what is durable lack no number that is left.
not_lacking : (volume : Volume) → HasNumbersLeft volume → LacksNumber volume → ⊥
not_lacking volume left lacks =
    ⊎_elim
    (λ (seal : IsSealRefused volume refusals.Spent). ⊎_elim (λ no_entry. no_entry left.entry) (λ no_blocks. no_blocks left.blocks) seal.1)
    (λ other. ⊎_elim (λ (freeze : IsFreezeRefused lacks.node volume refusals.Spent). freeze.1 left.birth) (λ (place : IsPlacingRefused volume refusals.Spent). place.1 left.placing) other)
    lacks.lacks

-- Where each number is left, a number that is used up is that of an operation that syncs, which has no room in the ring.
only_syncs : (client : ℕ) (op : Op) (volume : Volume) → HasNumbersLeft volume → IsNumberSpent client op volume → class_of op ≡ Syncs
only_syncs client op volume left spent =
    ⊎_elim
    (λ (commit : IsCommitSpent client op volume). absurd (commit.spent (left.commit commit.updates commit.fit)))
    (λ other. ⊎_elim (λ (lacks : LacksNumber volume). absurd (not_lacking volume left lacks)) (λ (ring : IsRingSpent op volume). ring.syncs) other)
    spent

-- The session was as far from the end at an earlier moment.
far_before : (begun : Found) (start old new : DevicesState) → GoOn old new → IsFarFromSpent begun start new → IsFarFromSpent begun start old
far_before begun start old new goes far = record {
  sequence = far.sequence;
  blocks = far.blocks;
  all_commits = far.all_commits;
  session = far.session;
  births = far.births;
  short = let all = far.short in let later = goes.later in omega (arith, all, later);
  counted = let all = far.counted in let later = goes.later in omega (arith, all, later);
}

-- A sync finds room in the ring where the next entry does.
finds_room : (volume : Volume) → HasRoomForNext volume → (refusal : Refusal) → IsOfRing refusal → IsForeign volume refusal → ⊥
finds_room volume room (refusals.RingFull full) of_ring foreign = foreign.3 (room (sealing_is_free volume.writer volume.writer.flight (needs_entry volume) foreign.0.stage_is))
finds_room volume room (refusals.Halted halt) of_ring foreign = of_ring
finds_room volume room (refusals.NeedSplit need) of_ring foreign = of_ring
finds_room volume room refusals.Spent of_ring foreign = of_ring
finds_room volume room (refusals.NoSpace none) of_ring foreign = of_ring

-- Where each number is left and the next entry finds room, none is used up.
none_spent : (client : ℕ) (op : Op) (volume : Volume) → HasNumbersLeft volume → HasRoomForNext volume → IsNumberSpent client op volume → ⊥
none_spent client op volume left room spent =
    ⊎_elim
    (λ (commit : IsCommitSpent client op volume). commit.spent (left.commit commit.updates commit.fit))
    (λ other. ⊎_elim (λ (lacks : LacksNumber volume). not_lacking volume left lacks) (λ (ring : IsRingSpent op volume). finds_room volume room ring.refusal ring.of_ring ring.foreign) other)
    spent

-- What an entry says of its number.
abbrev IsUnspent : Type 0 → Found → DevicesState → Entry → Type 0
IsUnspent tells begun start entry = entry.reply ≡ Spent → (class_of entry.op ≡ Syncs) × BeganWithoutRoom tells begun start

-- After a call that was answered, with its cause, it is so.
pub unspent_served : (tells : Type 0) (begun : Found) (start old new : DevicesState) (trace : History) (client : ℕ) (op : Op) (reply : Reply) (volume : Volume) (before after : FaultCounts) → GoOn old new → HasCause begun client op reply volume before after
    → (IsFarFromSpent begun start new → length (trace ++ record { client = client; op = op; reply = reply } ∷ []) < 2 ^ 31 → HasNumbersLeft volume) → (tells → BeginsWell begun start → LeavesRoom begun → MayKeepRoom begun) → (MayKeepRoom begun → HasRoomForNext volume)
    → AreUnspent tells begun start old trace → AreUnspent tells begun start new (trace ++ record { client = client; op = op; reply = reply } ∷ [])
unspent_served tells begun start old new trace client op reply volume before after goes cause left may room unspent far few =
    let entry : Entry = record { client = client; op = op; reply = reply } in
    let longer = length-append trace (entry ∷ []) in
    All-push (IsUnspent tells begun start) trace entry (unspent (far_before begun start old new goes far) (omega (arith, longer, few)))
    (λ spent.
    let number = (subst (λ (r : Reply). HasCause begun client op r volume before after) spent cause).1 in
    let unkept : ¬ MayKeepRoom begun = λ kept. none_spent client op volume (left far few) (room kept) number in
    (only_syncs client op volume (left far few) number, record { unkept = unkept; without = λ (began : BeganWithRoom tells begun start). unkept (may began.told began.well began.room) }))

-- Where time went on, it is so still.
pub unspent_later : (tells : Type 0) (begun : Found) (start old new : DevicesState) (trace : History) → GoOn old new → AreUnspent tells begun start old trace → AreUnspent tells begun start new trace
unspent_later tells begun start old new trace goes unspent far few = unspent (far_before begun start old new goes far) few
