-- A queue after a commit joined, and after an entry was taken out or put back.
use Rattle.std.proofs.Common.{◌≡◌, ◌↔◌, ◌≤◌, ◌<◌, ◌+◌, ◌-◌, ◌^◌, ℕ, Bool, true, false, cond, List, [], ◌∷◌, ◌++◌, length, refl, sym, ap, ◌∙◌, subst, arith}
use Rattle.std.specs.Prelude.{All}
use Rattle.std.proofs.lemmas.Bool.{ltb-false, ltb-true}
use Rattle.std.proofs.lemmas.List.{append-nil, length-append}
use Rattle.std.proofs.lemmas.List.Elements.{All-append, All-cons, All-head, All-nil, All-tail}
use Rattle.std.proofs.lemmas.List.Sums.{sum_by-append}
use Rattle.record_codec.specs.Entries.{update_length_of}
use Rattle.vol_types.specs.Ranges.{IsKeyValue}
use Rattle.vol_types.specs.Standing.{IsUpdate}
use Rattle.vol_types.specs.declared.keys.Update.{Update}
use Rattle.journal_writer.specs.Changes.{changes_then, no_changes}
use Rattle.journal_writer.specs.Queues.{AreChanges, AreFollowed, HasNumbers, IsFollowed, IsQueue, IsTakenOut, Queue, blocks_with, closes, count_of, first_of, follower_of, growth, joined, last_block, last_of, left_by, oldest, readied, with_commit, without_oldest}
use Rattle.journal_writer.specs.declared.changes.KeyChanges.{KeyChanges}
use Rattle.journal_writer.specs.declared.changes.Pending.{Pending}

-- the queue with its open entry closed
abbrev closing : Queue → Queue
closing queue = record { mirrors = queue.mirrors; closed = queue.closed ++ queue.open_entry ∷ []; open_entry = follower_of queue.mirrors queue.open_entry }

-- a queue with a commit in its open entry
abbrev committed : KeyChanges → Bool → Queue → Queue
committed changes counted queue = record { mirrors = queue.mirrors; closed = queue.closed; open_entry = with_commit changes counted queue.open_entry }

pub joined-closing : (changes : KeyChanges) (counted : Bool) (queue : Queue) → closes changes.updates queue ≡ true → joined changes counted queue ≡ committed changes counted (closing queue)
joined-closing changes counted queue is = ap (λ b. committed changes counted (cond b (closing queue) queue)) is

pub joined-open : (changes : KeyChanges) (counted : Bool) (queue : Queue) → closes changes.updates queue ≡ false → joined changes counted queue ≡ committed changes counted queue
joined-open changes counted queue is = ap (λ b. committed changes counted (cond b (closing queue) queue)) is

-- an entry that doesn't close takes at most 64 blocks with the updates
pub open_few : (updates : List Update) (queue : Queue) → closes updates queue ≡ false → blocks_with queue.mirrors (queue.open_entry.changes.updates ++ updates) ≤ 64
open_few updates queue is = ltb-false 64 (blocks_with queue.mirrors (queue.open_entry.changes.updates ++ updates)) is

-- more updates take no fewer blocks
pub blocks_more : (mirrors : ℕ) (first second : List Update) → blocks_with mirrors first ≤ blocks_with mirrors (first ++ second)
blocks_more mirrors first second = omega (arith, sum_by-append update_length_of first second)

-- only updates close an entry
pub closing_some : (updates : List Update) (queue : Queue) → IsQueue queue → closes updates queue ≡ true → 0 < length updates
closing_some [] queue is close =
    let few : blocks_with queue.mirrors queue.open_entry.changes.updates ≤ 64 = is.open_changes.few in
    let same : blocks_with queue.mirrors (queue.open_entry.changes.updates ++ []) ≡ blocks_with queue.mirrors queue.open_entry.changes.updates = ap (blocks_with queue.mirrors) (append-nil queue.open_entry.changes.updates) in
    let many : 64 < blocks_with queue.mirrors (queue.open_entry.changes.updates ++ []) = ltb-true 64 (blocks_with queue.mirrors (queue.open_entry.changes.updates ++ [])) close in
    absurd (omega (arith, few, same, many))
closing_some (update ∷ updates) queue is close = omega arith

-- the last block is as many blocks later as the entries grow by
pub last_block-joined : (changes : KeyChanges) (counted : Bool) (queue : Queue) → last_block (joined changes counted queue) ≡ last_block queue + growth changes.updates queue
last_block-joined changes counted queue = by (closes changes.updates queue)
  where
    by : (close : Bool)
        → last_block (committed changes counted (cond close (closing queue) queue))
        ≡ last_block queue + cond close (blocks_with queue.mirrors changes.updates) (blocks_with queue.mirrors (queue.open_entry.changes.updates ++ changes.updates) - blocks_with queue.mirrors queue.open_entry.changes.updates)
    by true = refl
    by false = let more = blocks_more queue.mirrors queue.open_entry.changes.updates changes.updates in omega (arith, more)

-- joined changes are changes
pub changes_joined : (mirrors : ℕ) (first second : KeyChanges) → AreChanges mirrors first → AreChanges mirrors second → blocks_with mirrors (first.updates ++ second.updates) ≤ 64 → AreChanges mirrors (changes_then first second)
changes_joined mirrors first second one other few = record {
  few = few;
  updates = All-append IsUpdate first.updates second.updates one.updates other.updates;
  pairs = length-append first.before second.before ∙ ap (λ n. n + length second.before) one.pairs ∙ ap (λ n. length first.updates + n) other.pairs ∙ sym (length-append first.updates second.updates);
  before = All-append IsKeyValue first.before second.before one.before other.before;
}

-- the numbers of a commit, one by one
pub numbers_of : (updates : List Update) (counted : Bool) (queue : Queue) → HasNumbers updates counted queue ↔ ((queue.open_entry.after + (1 + count_of (closes updates queue)) < 2 ^ 64) × (last_block queue + (1 + growth updates queue) < 2 ^ 64) × (queue.open_entry.commits + count_of counted < 2 ^ 64))
numbers_of updates counted queue = (
  λ has. (let s = has.sequence in let e = sequence in omega (arith, s, e), let b = has.blocks in omega (arith, b), has.commits),
  λ parts. record { sequence = let s = parts.0 in let e = sequence in omega (arith, s, e); blocks = let b = parts.1 in omega (arith, b); commits = parts.2 },
)
  where
    by : (close : Bool) → (cond close (closing queue) queue).open_entry.after ≡ queue.open_entry.after + count_of close
    by true = refl
    by false = omega arith

    sequence : (readied updates queue).open_entry.after ≡ queue.open_entry.after + count_of (closes updates queue)
    sequence = by (closes updates queue)

-- entries are followed too where the open one grows
pub followed_grown : (mirrors : ℕ) (closed : List Pending) (entry : Pending) (changes : KeyChanges) (counted : Bool) → AreFollowed mirrors closed entry → AreFollowed mirrors closed (with_commit changes counted entry)
followed_grown mirrors [] entry changes counted followed = tt
followed_grown mirrors (first ∷ []) entry changes counted followed = (
  record {
    sequence = followed.0.sequence;
    blocks = followed.0.blocks;
    commits = let c = followed.0.commits in omega (arith, c);
    has_keys = let k = followed.0.has_keys in let l = length-append entry.changes.updates changes.updates in omega (arith, k, l);
  },
  tt,
)
followed_grown mirrors (first ∷ second ∷ later) entry changes counted followed = (followed.0, followed_grown mirrors (second ∷ later) entry changes counted followed.1)

-- and where it is closed and another one follows it
pub followed_more : (mirrors : ℕ) (closed : List Pending) (entry next : Pending) → AreFollowed mirrors closed entry → IsFollowed mirrors entry next → AreFollowed mirrors (closed ++ entry ∷ []) next
followed_more mirrors [] entry next followed one = (one, tt)
followed_more mirrors (first ∷ []) entry next followed one = (followed.0, (one, tt))
followed_more mirrors (first ∷ second ∷ later) entry next followed one = (followed.0, followed_more mirrors (second ∷ later) entry next followed.1 one)

-- the first of the entries comes before the open one, or is that
pub first_before : (mirrors : ℕ) (closed : List Pending) (entry : Pending) → AreFollowed mirrors closed entry → ((first_of closed entry).after ≤ entry.after) × ((first_of closed entry).behind ≤ entry.behind)
first_before mirrors [] entry followed = (omega arith, omega arith)
first_before mirrors (first ∷ later) entry followed =
    let rest = first_before mirrors later entry followed.1 in
    let a = rest.0 in
    let b = rest.1 in
    let s = followed.0.sequence in
    let e = followed.0.blocks in (omega (arith, a, s), omega (arith, b, e))

module _ (changes : KeyChanges) (counted : Bool) (queue : Queue) (is : IsQueue queue) (are : AreChanges queue.mirrors changes) (has : HasNumbers changes.updates counted queue) where
  -- the queue after a commit that its open entry takes
  pub queue-open : closes changes.updates queue ≡ false → IsQueue (committed changes counted queue)
  queue-open fits = record {
    mirrored = is.mirrored;
    mirrors_few = is.mirrors_few;
    open_changes = changes_joined queue.mirrors queue.open_entry.changes changes is.open_changes are (open_few changes.updates queue fits);
    closed_changes = is.closed_changes;
    followed = followed_grown queue.mirrors queue.closed queue.open_entry changes counted is.followed;
    after = is.after;
    sequence = λ some. let s = ((numbers_of changes.updates counted queue).0 has).0 in omega (arith, s);
    last = let l = last_block-joined changes counted queue in let b = has.blocks in let o = ap (λ b. last_block (committed changes counted (cond b (closing queue) queue))) fits in omega (arith, l, b, o);
    commits = has.commits;
  }

  -- and after one before which it is closed
  pub queue-closing : closes changes.updates queue ≡ true → IsQueue (committed changes counted (closing queue))
  queue-closing close = record {
    mirrored = is.mirrored;
    mirrors_few = is.mirrors_few;
    open_changes = are;
    closed_changes = All-append (λ (entry : Pending). AreChanges queue.mirrors entry.changes) queue.closed (queue.open_entry ∷ []) is.closed_changes
        (All-cons (λ (entry : Pending). AreChanges queue.mirrors entry.changes) queue.open_entry [] is.open_changes (All-nil (λ (entry : Pending). AreChanges queue.mirrors entry.changes)));
    followed = followed_more queue.mirrors queue.closed queue.open_entry (with_commit changes counted (follower_of queue.mirrors queue.open_entry)) is.followed
        (record {
          sequence = refl;
          blocks = refl;
          commits = omega arith;
          has_keys = closing_some changes.updates queue is close;
        });
    after = let s = ((numbers_of changes.updates counted queue).0 has).0 in let c = ap count_of close in omega (arith, s, c);
    sequence = λ some. let s = ((numbers_of changes.updates counted queue).0 has).0 in let c = ap count_of close in omega (arith, s, c);
    last = let l = last_block-joined changes counted queue in let b = has.blocks in let o = ap (λ b. last_block (committed changes counted (cond b (closing queue) queue))) close in omega (arith, l, b, o);
    commits = has.commits;
  }

-- so it is a queue as its parts say it, where it is closed before the commit
pub closing_kept : (changes : KeyChanges) (counted : Bool) (queue now : Queue) → queue ≡ now → IsQueue queue → AreChanges now.mirrors changes → HasNumbers changes.updates counted now → closes changes.updates now ≡ true
    → (closed : List Pending) (next : Pending) → closed ≡ queue.closed ++ queue.open_entry ∷ [] → next ≡ with_commit changes counted (follower_of now.mirrors now.open_entry)
    → IsQueue (record { mirrors = queue.mirrors; closed = closed; open_entry = next })
closing_kept changes counted queue now same is are has close closed next closed_is next_is =
    subst (λ (es : List Pending). IsQueue (record { mirrors = queue.mirrors; closed = es; open_entry = next })) (sym closed_is)
    (subst (λ (e : Pending). IsQueue (record { mirrors = queue.mirrors; closed = queue.closed ++ queue.open_entry ∷ []; open_entry = e })) (sym (next_is ∙ ap (λ (q : Queue). with_commit changes counted (follower_of q.mirrors q.open_entry)) (sym same)))
    (queue-closing changes counted queue is (subst (λ (q : Queue). AreChanges q.mirrors changes) (sym same) are) (subst (HasNumbers changes.updates counted) (sym same) has) (ap (closes changes.updates) same ∙ close)))

-- and where it isn't
pub open_kept : (changes : KeyChanges) (counted : Bool) (queue now : Queue) → queue ≡ now → IsQueue queue → AreChanges now.mirrors changes → HasNumbers changes.updates counted now → closes changes.updates now ≡ false
    → (next : Pending) → next ≡ with_commit changes counted queue.open_entry → IsQueue (record { mirrors = queue.mirrors; closed = queue.closed; open_entry = next })
open_kept changes counted queue now same is are has fits next next_is =
    subst (λ (e : Pending). IsQueue (record { mirrors = queue.mirrors; closed = queue.closed; open_entry = e })) (sym next_is)
    (queue-open changes counted queue is (subst (λ (q : Queue). AreChanges q.mirrors changes) (sym same) are) (subst (HasNumbers changes.updates counted) (sym same) has) (ap (closes changes.updates) same ∙ fits))

-- what is known of the entry that is taken out
pub taken_out : (queue : Queue) (room places : ℕ) → IsQueue queue → (queue.closed ≡ [] → HasNumbers [] false queue) → (0 < length queue.closed → 0 < places)
    → IsTakenOut (oldest queue) (record { queue = without_oldest queue; room = room; places = places }) × IsQueue (without_oldest queue) × ((oldest queue).after + 1 < 2 ^ 64) × (last_of queue.mirrors (oldest queue) + 1 < 2 ^ 64)
taken_out queue room places is numbers place = by queue.closed numbers place is.closed_changes is.followed
  where
    by : (closed : List Pending) → (closed ≡ [] → HasNumbers [] false queue) → (0 < length closed → 0 < places) → All (λ entry. AreChanges queue.mirrors entry.changes) closed → AreFollowed queue.mirrors closed queue.open_entry
        → IsTakenOut (first_of closed queue.open_entry) (record { queue = left_by closed queue; room = room; places = places }) × IsQueue (left_by closed queue)
        × ((first_of closed queue.open_entry).after + 1 < 2 ^ 64) × (last_of queue.mirrors (first_of closed queue.open_entry) + 1 < 2 ^ 64)
    by (entry ∷ later) numbers place are followed =
        let one = followed.0 in
        let before = first_before queue.mirrors later queue.open_entry followed.1 in (
          record {
            changes = All-head (λ (e : Pending). AreChanges queue.mirrors e.changes) entry later are;
            sequence = one.sequence;
            blocks = one.blocks;
            commits = one.commits;
            alone = λ none. let k = one.has_keys in absurd (omega (arith, k, none));
            commits_alone = λ none. let k = one.has_keys in absurd (omega (arith, k, none));
            place = λ some. place (omega arith);
          },
          record {
            mirrored = is.mirrored;
            mirrors_few = is.mirrors_few;
            open_changes = is.open_changes;
            closed_changes = All-tail (λ (e : Pending). AreChanges queue.mirrors e.changes) entry later are;
            followed = followed.1;
            after = is.after;
            sequence = is.sequence;
            last = is.last;
            commits = is.commits;
          },
          (let s = one.sequence in let b = before.0 in let a = is.after in omega (arith, s, b, a)),
          (let s = one.blocks in let b = before.1 in let e = is.last in omega (arith, s, b, e)),
        )
    by [] numbers place are followed =
        let has = (numbers_of [] false queue).0 (numbers refl) in
        let after : queue.open_entry.after + 1 < 2 ^ 64 = (let s = has.0 in omega (arith, s)) in
        let last : last_block queue + 1 < 2 ^ 64 = (let b = has.1 in omega (arith, b)) in (
          record {
            changes = is.open_changes;
            sequence = refl;
            blocks = refl;
            commits = omega arith;
            alone = λ none. refl;
            commits_alone = λ none. refl;
            place = λ some. absurd (omega (arith, some));
          },
          record {
            mirrored = is.mirrored;
            mirrors_few = is.mirrors_few;
            open_changes = changes_none;
            closed_changes = All-nil (λ (e : Pending). AreChanges queue.mirrors e.changes);
            followed = tt;
            after = after;
            sequence = λ some. absurd (omega (arith, some));
            last = (let m = is.mirrors_few in omega (arith, m, last));
            commits = is.commits;
          },
          after,
          last,
        )
      where
        changes_none : AreChanges queue.mirrors no_changes
        changes_none = record { few = (let m = is.mirrors_few in omega (arith, m)); updates = All-nil IsUpdate; pairs = refl; before = All-nil IsKeyValue }

-- and what is known of the first of the closed ones
pub first_taken : (queue : Queue) (entry : Pending) (later : List Pending) (room places : ℕ) → IsQueue queue → queue.closed ≡ entry ∷ later → 0 < places
    → IsTakenOut entry (record { queue = record { mirrors = queue.mirrors; closed = later; open_entry = queue.open_entry }; room = room; places = places })
    × IsQueue (record { mirrors = queue.mirrors; closed = later; open_entry = queue.open_entry }) × (entry.after + 1 < 2 ^ 64) × (last_of queue.mirrors entry + 1 < 2 ^ 64)
first_taken queue entry later room places is closed_is place =
    taken_out (record { mirrors = queue.mirrors; closed = entry ∷ later; open_entry = queue.open_entry }) room places
    (subst (λ (es : List Pending). IsQueue (record { mirrors = queue.mirrors; closed = es; open_entry = queue.open_entry })) closed_is is)
    (λ none. let n = ap (λ (es : List Pending). length es) none in absurd (omega (arith, n)))
    (λ some. place)

module _ (changes : KeyChanges) (counted : Bool) (queue : Queue) where
  -- a queue after a commit is one
  pub queue-joined : IsQueue queue → AreChanges queue.mirrors changes → HasNumbers changes.updates counted queue → IsQueue (joined changes counted queue)
  queue-joined is are has = by (closes changes.updates queue) refl
    where
      by : (close : Bool) → closes changes.updates queue ≡ close → IsQueue (joined changes counted queue)
      by true close = subst IsQueue (sym (joined-closing changes counted queue close)) (queue-closing changes counted queue is are has close)
      by false fits = subst IsQueue (sym (joined-open changes counted queue fits)) (queue-open changes counted queue is are has fits)

  -- it has the same metadata devices
  pub mirrors-joined : (joined changes counted queue).mirrors ≡ queue.mirrors
  mirrors-joined = by (closes changes.updates queue)
    where
      by : (close : Bool) → (cond close (closing queue) queue).mirrors ≡ queue.mirrors
      by true = refl
      by false = refl

  -- and counts the commit, if that counts
  pub commits-joined : (joined changes counted queue).open_entry.commits ≡ queue.open_entry.commits + count_of counted
  commits-joined = by (closes changes.updates queue)
    where
      by : (close : Bool) → (cond close (closing queue) queue).open_entry.commits + count_of counted ≡ queue.open_entry.commits + count_of counted
      by true = refl
      by false = refl

  -- the entry that is written next follows the same one
  pub oldest-joined : ((oldest (joined changes counted queue)).after ≡ (oldest queue).after) × ((oldest (joined changes counted queue)).behind ≡ (oldest queue).behind)
  oldest-joined = by (closes changes.updates queue)
    where
      more_by : (closed : List Pending) (next : Pending) → first_of (closed ++ queue.open_entry ∷ []) next ≡ first_of closed queue.open_entry
      more_by [] next = refl
      more_by (entry ∷ later) next = refl

      open_by : (closed : List Pending)
          → ((first_of closed (with_commit changes counted queue.open_entry)).after ≡ (first_of closed queue.open_entry).after) × ((first_of closed (with_commit changes counted queue.open_entry)).behind ≡ (first_of closed queue.open_entry).behind)
      open_by [] = (refl, refl)
      open_by (entry ∷ later) = (refl, refl)

      by : (close : Bool)
          → ((oldest (committed changes counted (cond close (closing queue) queue))).after ≡ (oldest queue).after) × ((oldest (committed changes counted (cond close (closing queue) queue))).behind ≡ (oldest queue).behind)
      by true = let same = more_by queue.closed (with_commit changes counted (follower_of queue.mirrors queue.open_entry)) in (ap (λ (e : Pending). e.after) same, ap (λ (e : Pending). e.behind) same)
      by false = open_by queue.closed

module _ (queue : Queue) where
  -- without its oldest entry a queue has the same metadata devices and counts the same commits
  pub same-taken : ((without_oldest queue).mirrors ≡ queue.mirrors) × ((without_oldest queue).open_entry.commits ≡ queue.open_entry.commits)
  same-taken = by queue.closed
    where
      by : (closed : List Pending) → ((left_by closed queue).mirrors ≡ queue.mirrors) × ((left_by closed queue).open_entry.commits ≡ queue.open_entry.commits)
      by [] = (refl, refl)
      by (entry ∷ later) = (refl, refl)

  -- and its next entry follows the one that was taken out
  pub oldest-taken : IsQueue queue → ((oldest (without_oldest queue)).after ≡ (oldest queue).after + 1) × ((oldest (without_oldest queue)).behind ≡ last_of queue.mirrors (oldest queue)) × (last_of queue.mirrors (oldest queue) ≤ last_block queue)
  oldest-taken is = by queue.closed is.followed
    where
      by : (closed : List Pending) → AreFollowed queue.mirrors closed queue.open_entry
          → ((oldest (left_by closed queue)).after ≡ (first_of closed queue.open_entry).after + 1) × ((oldest (left_by closed queue)).behind ≡ last_of queue.mirrors (first_of closed queue.open_entry)) × (last_of queue.mirrors (first_of closed queue.open_entry) ≤ last_block queue)
      by [] followed = (refl, refl, omega arith)
      by (entry ∷ later) followed = (followed.0.sequence, followed.0.blocks, (let e = followed.0.blocks in let b = (first_before queue.mirrors later queue.open_entry followed.1).1 in omega (arith, e, b)))
