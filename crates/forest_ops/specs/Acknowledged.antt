-- What a session has acknowledged as durable, and when.
use Rattle.std.specs.Prelude.{◌≡◌, ℕ, ◌≤◌, nat_le, max, if◌then◌else◌, List, [], ◌∷◌, map, Option, Some, None}
use Rattle.std.specs.List.{filter_map}
use Rattle.forest_ops.specs.History.{History}
use Rattle.forest_ops.specs.declared.operation.Reply.{Reply}
use Rattle.forest_ops.specs.declared.operation.Reply.TheVariants.{Synced}
use Rattle.forest_ops.specs.declared.acks.Ack.{Ack}

-- the number of commits that a reply says are durable
abbrev pub synced_count : Reply → Option ℕ
synced_count (Synced count) = Some count
synced_count reply = None

-- the greatest number of commits that was acknowledged up to this moment, or 0
abbrev pub acknowledged : List Ack → ℕ → ℕ
acknowledged [] moment = 0
acknowledged (ack ∷ acks) moment = max (if nat_le ack.moment moment then ack.commits else 0) (acknowledged acks moment)

-- The moments don't fall, begin at the first one or later, and end at the last one or before.
abbrev pub RiseWithin : ℕ → ℕ → List Ack → Type 0
RiseWithin first last [] = first ≤ last
RiseWithin first last (ack ∷ acks) = (first ≤ ack.moment) × RiseWithin ack.moment last acks

-- There is one acknowledgement for each entry that says how many commits are durable, in their order and with that
-- number. Their moments don't fall, and lie between the first and the last one.
pub record AreAcks (first last : ℕ) (history : History) (acks : List Ack) : Type 0 where
  pub counts : map (λ ack. ack.commits) acks ≡ filter_map (λ entry. synced_count entry.reply) history
  pub moments : RiseWithin first last acks
