-- What was acknowledged by a moment is among the commits that are durable, and one more acknowledgement counts from its moment on.
use Rattle.std.proofs.Common.{◌≡◌, ◌≤◌, ◌<◌, ◌+◌, ℕ, Bool, true, false, List, [], ◌∷◌, ◌++◌, max, if◌then◌else◌, refl, ap, arith}
use Rattle.std.proofs.lemmas.Bool.{leb-true}
use Rattle.std.proofs.lemmas.List.Elements.{All-cons, All-head, All-nil, All-tail, All-weaker}
use Rattle.std.specs.Prelude.{All, nat_le}
use Rattle.forest_ops.specs.Acknowledged.{RiseWithin, acknowledged}
use Rattle.forest_ops.specs.declared.acks.Ack.{Ack}

-- No more was acknowledged than is durable, where no acknowledgement says more.
pub acknowledged_durable : (first durable : ℕ) (acks : List Ack) (moment : ℕ) → first ≤ durable → All (λ (ack : Ack). first + ack.commits ≤ durable) acks → first + acknowledged acks moment ≤ durable
acknowledged_durable first durable [] moment from all = omega (arith, from)
acknowledged_durable first durable (ack ∷ acks) moment from all =
    by (nat_le ack.moment moment) (All-head (λ (a : Ack). first + a.commits ≤ durable) ack acks all) (acknowledged_durable first durable acks moment from (All-tail (λ (a : Ack). first + a.commits ≤ durable) ack acks all))
  where
    by : (b : Bool) → first + ack.commits ≤ durable → first + acknowledged acks moment ≤ durable → first + max (if b then ack.commits else 0) (acknowledged acks moment) ≤ durable
    by true here later = omega (arith, here, later)
    by false here later = omega (arith, later)

rise_from : (first last : ℕ) (acks : List Ack) → RiseWithin first last acks → first ≤ last
rise_from first last [] rise = rise
rise_from first last (ack ∷ acks) rise = let here = rise.0 in let later = rise_from ack.moment last acks rise.1 in omega (arith, here, later)

-- No acknowledgement is of a later moment than the last one.
pub none_after : (first last : ℕ) (acks : List Ack) → RiseWithin first last acks → All (λ (ack : Ack). ack.moment ≤ last) acks
none_after first last [] rise = All-nil (λ (ack : Ack). ack.moment ≤ last)
none_after first last (ack ∷ acks) rise = All-cons (λ (a : Ack). a.moment ≤ last) ack acks (rise_from ack.moment last acks rise.1) (none_after ack.moment last acks rise.1)

-- Behind the last one nothing is said of what was made after one.
pub past_all : (count last moment : ℕ) (acks : List Ack) → last < moment → All (λ (ack : Ack). ack.moment ≤ last) acks → All (λ (ack : Ack). moment ≤ ack.moment → count ≤ ack.commits) acks
past_all count last moment acks past all = All-weaker (λ (ack : Ack). ack.moment ≤ last) (λ (ack : Ack). moment ≤ ack.moment → count ≤ ack.commits) (λ ack by_then late. absurd (omega (arith, past, by_then, late))) acks all

-- An acknowledgement doesn't count before its moment.
pub acknowledged_before : (acks : List Ack) (ack : Ack) (moment : ℕ) → moment < ack.moment → acknowledged (acks ++ ack ∷ []) moment ≡ acknowledged acks moment
acknowledged_before [] ack moment before = by (nat_le ack.moment moment) refl
  where
    by : (b : Bool) → nat_le ack.moment moment ≡ b → max (if b then ack.commits else 0) 0 ≡ 0
    by true le = let early = leb-true ack.moment moment le in absurd (omega (arith, early, before))
    by false le = refl
acknowledged_before (one ∷ acks) ack moment before = ap (max (if nat_le one.moment moment then one.commits else 0)) (acknowledged_before acks ack moment before)
