-- One more entry of a history: it is legal and exact, and is acknowledged where it says how many commits are durable.
use Rattle.std.proofs.Common.{◌≡◌, ◌≤◌, ℕ, Bool, true, false, inl, Option, Some, None, List, [], ◌∷◌, ◌++◌, refl, sym, ap, ◌∙◌, arith}
use Rattle.std.proofs.lemmas.Bool.{false≢true}
use Rattle.std.proofs.lemmas.List.{append-nil, map_push}
use Rattle.std.proofs.lemmas.List.Elements.{filter_map-append}
use Rattle.std.proofs.lemmas.Option.{none-some as none_some}
use Rattle.std.specs.List.{cons_option, filter_map}
use Rattle.std.specs.Prelude.{◌&&◌, ◌||◌, IsSome, not}
use Rattle.plain_forest.specs.Forest.{Forest}
use Rattle.forest_ops.specs.Classes.{class_of, is_changing, looks, may_fail, may_have}
use Rattle.forest_ops.specs.History.{History, IsLegalEntry, after_all, commit_count, commits, is_done, is_idle, with_numbers}
use Rattle.forest_ops.specs.HistoryLaws.{commit_count-up_to_own}
use Rattle.forest_ops.specs.Steps.{answer_of}
use Rattle.forest_ops.specs.declared.operation.Class.{Class}
use Rattle.forest_ops.specs.declared.operation.Class.TheVariants.{Changes, Reads, Sweeps, Syncs}
use Rattle.forest_ops.specs.declared.operation.Entry.{Entry}
use Rattle.forest_ops.specs.declared.operation.Op.{Op}
use Rattle.forest_ops.specs.declared.operation.Reply.{Reply}
use Rattle.forest_ops.specs.declared.operation.Reply.TheVariants as replies
use Rattle.forest_ops.specs.Acknowledged.{AreAcks, RiseWithin, synced_count}
use Rattle.forest_ops.specs.declared.acks.Ack.{Ack}
use Rattle.vol_session.specs.Sessions.{IsExact}

-- ---- replies

-- how many blocks a reply says are used
abbrev used_in : Reply → ℕ
used_in (replies.Used blocks) = blocks
used_in other = 0

-- A reply that says of no commits that they are durable is the one with its own numbers.
own_numbers : (count : ℕ) (reply : Reply) → synced_count reply ≡ None → with_numbers count (used_in reply) reply ≡ reply
own_numbers count (replies.Synced commits) unsynced = absurd (none_some commits (sym unsynced))
own_numbers count other unsynced = refl

-- A number of commits is the one that is put in its place.
numbered : (count used : ℕ) (reply : Reply) → IsSome (synced_count reply) → with_numbers count used reply ≡ replies.Synced count
numbered count used (replies.Synced commits) synced = refl
numbered count used other synced = absurd (false≢true synced)

-- What is done acknowledges nothing.
done_is_unsynced : (reply : Reply) → is_done reply ≡ true → synced_count reply ≡ None
done_is_unsynced (replies.Synced commits) done = absurd (false≢true done)
done_is_unsynced other done = refl

-- ---- legal

module _ (opening : Forest) (before : History) where
  -- The forest's own reply is legal,
  pub answer_is_legal : (entry : Entry) → synced_count entry.reply ≡ None → entry.reply ≡ answer_of entry.client entry.op (after_all opening before) → IsLegalEntry opening before entry
  answer_is_legal entry unsynced is =
      let count : ℕ = commit_count opening before in
      inl (record {
        count = count;
        used = used_in entry.reply;
        at_least = commit_count-up_to_own entry.client opening before;
        at_most = omega arith;
        reply = sym (own_numbers count entry.reply unsynced) ∙ ap (with_numbers count (used_in entry.reply)) is;
      })

  -- and so is that of an operation which the forest answers with a number of commits, where it is the number of all.
  pub sync_is_legal : (client count : ℕ) (op : Op) → count ≡ commit_count opening before → IsSome (synced_count (answer_of client op (after_all opening before)))
      → IsLegalEntry opening before (record { client = client; op = op; reply = replies.Synced count })
  sync_is_legal client count op is synced =
      inl (record {
        count = commit_count opening before;
        used = 0;
        at_least = commit_count-up_to_own client opening before;
        at_most = omega arith;
        reply = ap replies.Synced is ∙ sym (numbered (commit_count opening before) 0 (answer_of client op (after_all opening before)) synced);
      })

-- ---- exact

no_failure : (class : Class) (look : Bool) → (may_have class replies.Okay || (look && false)) ≡ false
no_failure Changes true = refl
no_failure Changes false = refl
no_failure Syncs true = refl
no_failure Syncs false = refl
no_failure Sweeps true = refl
no_failure Sweeps false = refl
no_failure Reads true = refl
no_failure Reads false = refl

no_failure_more : (size : ℕ) (class : Class) (look : Bool) → (may_have class (replies.More size) || (look && false)) ≡ false
no_failure_more size Changes true = refl
no_failure_more size Changes false = refl
no_failure_more size Syncs true = refl
no_failure_more size Syncs false = refl
no_failure_more size Sweeps true = refl
no_failure_more size Sweeps false = refl
no_failure_more size Reads true = refl
no_failure_more size Reads false = refl

-- What is done is no failure.
done_is_no_failure : (op : Op) (reply : Reply) → is_done reply ≡ true → may_fail op reply ≡ true → ⊥
done_is_no_failure op replies.Okay done fails = false≢true (sym (no_failure (class_of op) (looks op)) ∙ fails)
done_is_no_failure op (replies.More size) done fails = false≢true (sym (no_failure_more size (class_of op) (looks op)) ∙ fails)
done_is_no_failure op other done fails = false≢true done

second_of : (first second third : Bool) → (first && second && third) ≡ true → second ≡ true
second_of true true third is = refl
second_of true false third is = absurd (false≢true is)
second_of false second third is = absurd (false≢true is)

-- A commit is exact, since it was done.
pub commit_is_exact : (opening forest : Forest) (before : History) (entry : Entry) → commits entry.op entry.reply forest ≡ true → IsExact opening before entry
commit_is_exact opening forest before entry is changes fails =
    absurd (done_is_no_failure entry.op entry.reply (second_of (is_changing (class_of entry.op)) (is_done entry.reply) (not (is_idle entry.op forest)) is) fails)

-- It acknowledges nothing,
pub commit_is_unsynced : (op : Op) (reply : Reply) (forest : Forest) → commits op reply forest ≡ true → synced_count reply ≡ None
commit_is_unsynced op reply forest is = done_is_unsynced reply (second_of (is_changing (class_of op)) (is_done reply) (not (is_idle op forest)) is)

-- An entry whose reply is no failure is exact.
pub answer_is_exact : (opening : Forest) (before : History) (entry : Entry) → may_fail entry.op entry.reply ≡ false → IsExact opening before entry
answer_is_exact opening before entry unfailed changes fails = absurd (false≢true (sym unfailed ∙ fails))

-- So is that of an operation which changes nothing, and it is no commit.
pub sync_is_exact : (opening : Forest) (before : History) (entry : Entry) → class_of entry.op ≡ Syncs → IsExact opening before entry
sync_is_exact opening before entry syncs changes fails = absurd (false≢true (sym (ap is_changing syncs) ∙ changes))

pub sync_is_no_commit : (op : Op) (reply : Reply) (forest : Forest) → class_of op ≡ Syncs → commits op reply forest ≡ false
sync_is_no_commit op reply forest syncs = ap (λ (class : Class). is_changing class && is_done reply && not (is_idle op forest)) syncs

-- ---- acknowledged

syncs_push : (trace : History) (entry : Entry) (found : Option ℕ) → synced_count entry.reply ≡ found → filter_map (λ (e : Entry). synced_count e.reply) (trace ++ entry ∷ []) ≡ filter_map (λ (e : Entry). synced_count e.reply) trace ++ cons_option found []
syncs_push trace entry found is =
    filter_map-append (λ (e : Entry). synced_count e.reply) trace (entry ∷ []) ∙ ap (λ (more : Option ℕ). filter_map (λ (e : Entry). synced_count e.reply) trace ++ cons_option more []) is

-- Acknowledgements are those of a history with one entry more that acknowledges nothing.
pub acks_told : (first last : ℕ) (trace : History) (acks : List Ack) (entry : Entry) → synced_count entry.reply ≡ None → AreAcks first last trace acks → AreAcks first last (trace ++ entry ∷ []) acks
acks_told first last trace acks entry unsynced are = record {
  counts = are.counts ∙ sym (syncs_push trace entry None unsynced ∙ append-nil (filter_map (λ (e : Entry). synced_count e.reply) trace));
  moments = are.moments;
}

-- They end no later at a later moment.
rise_later : (first last later : ℕ) (acks : List Ack) → last ≤ later → RiseWithin first last acks → RiseWithin first later acks
rise_later first last later [] to rise = omega (arith, to, rise)
rise_later first last later (ack ∷ acks) to rise = (rise.0, rise_later ack.moment last later acks to rise.1)

pub acks_later : (first last later : ℕ) (trace : History) (acks : List Ack) → last ≤ later → AreAcks first last trace acks → AreAcks first later trace acks
acks_later first last later trace acks to are = record { counts = are.counts; moments = rise_later first last later acks to are.moments }

rise_pushed : (first last count : ℕ) (acks : List Ack) → RiseWithin first last acks → RiseWithin first last (acks ++ record { moment = last; commits = count } ∷ [])
rise_pushed first last count [] rise = (rise, omega arith)
rise_pushed first last count (ack ∷ acks) rise = (rise.0, rise_pushed ack.moment last count acks rise.1)

-- A sync is acknowledged at the last moment.
pub acks_synced : (first last client count : ℕ) (op : Op) (trace : History) (acks : List Ack) → AreAcks first last trace acks
    → AreAcks first last (trace ++ record { client = client; op = op; reply = replies.Synced count } ∷ []) (acks ++ record { moment = last; commits = count } ∷ [])
acks_synced first last client count op trace acks are =
    let ack : Ack = record { moment = last; commits = count } in
    let entry : Entry = record { client = client; op = op; reply = replies.Synced count } in
    record {
      counts = map_push (λ (a : Ack). a.commits) acks ack ∙ ap (λ (counts : List ℕ). counts ++ count ∷ []) are.counts ∙ sym (syncs_push trace entry (Some count) refl);
      moments = rise_pushed first last count acks are.moments;
    }
