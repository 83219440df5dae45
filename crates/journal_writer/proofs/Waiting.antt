-- What waits leads from the key map that durable entries mean to the one in memory.
use Rattle.std.proofs.Common.{◌≡◌, ◌<◌, ◌-◌, ◌+◌, ℕ, suc, Bool, true, false, cond, Option, List, [], ◌∷◌, ◌++◌, length, refl, sym, ap, ◌∙◌, subst, arith}
use Rattle.std.specs.Prelude.{drop, slice_index_or}
use Rattle.std.proofs.lemmas.List.{map-append}
use Rattle.vol_types.specs.KeyMaps.{IsKeyMap, KeyMap, with_updates}
use Rattle.vol_types.specs.declared.positions.Btree.{Btree}
use Rattle.node_mem.specs.Nodes.{Node}
use Rattle.vol_types.specs.declared.keys.Update.{Update}
use Rattle.vol_types.specs.declared.values.Value.{Value}
use Rattle.journal_writer.specs.Changes.{IsPartOf, LeadTo, all_made, changes_of, changes_then, no_changes, taken_back, undone}
use Rattle.journal_writer.specs.ChangeLaws.{IsKeyMap-taken_back, lead-append, lead-new, lead-parts, lead-then}
use Rattle.journal_writer.specs.Queues.{Queue, closed_changes, closes, empty_queue, first_of, follower_of, joined, left_by, oldest, waiting, with_commit, without_oldest}
use Rattle.journal_writer.specs.declared.changes.KeyChanges.{KeyChanges}
use Rattle.journal_writer.specs.declared.changes.Pending.{Pending}
use Rattle.journal_writer.proofs.Taking.{drop_one}

pub lead-none : (keys : KeyMap) → LeadTo (no_changes ∷ []) keys keys
lead-none keys = record { made = (refl, tt); last = refl }

pub lead-empty : (mirrors after behind commits : ℕ) (keys : KeyMap) → LeadTo (waiting (empty_queue mirrors after behind commits)) keys keys
lead-empty mirrors after behind commits keys = lead-none keys

-- the queue after a commit, by whether the open entry is closed before it
abbrev joined_by : KeyChanges → Bool → Queue → Bool → Queue
joined_by changes counted queue close =
    let ready = cond close (record { mirrors = queue.mirrors; closed = queue.closed ++ queue.open_entry ∷ []; open_entry = follower_of queue.mirrors queue.open_entry }) queue in
    record { mirrors = ready.mirrors; closed = ready.closed; open_entry = with_commit changes counted ready.open_entry }

lead_by : (queue : Queue) (updates : List Update) (counted : Bool) (durable keys : KeyMap) (close : Bool) → LeadTo (waiting queue) durable keys
    → LeadTo (waiting (joined_by (changes_of updates keys) counted queue close)) durable (with_updates updates keys)
lead_by queue updates counted durable keys true lead =
    subst (λ (cs : List KeyChanges). LeadTo (cs ++ changes_of updates keys ∷ []) durable (with_updates updates keys)) (sym (map-append (λ (entry : Pending). entry.changes) queue.closed (queue.open_entry ∷ [])))
    (lead-append (waiting queue) (changes_of updates keys ∷ []) durable keys (with_updates updates keys) lead (lead-new updates keys))
lead_by queue updates counted durable keys false lead =
    let parts = lead-parts (closed_changes queue.closed) (queue.open_entry.changes ∷ []) durable keys lead in
    lead-append (closed_changes queue.closed) (changes_then queue.open_entry.changes (changes_of updates keys) ∷ []) durable (all_made (closed_changes queue.closed) durable) (with_updates updates keys) parts.0
    (lead-then queue.open_entry.changes updates (all_made (closed_changes queue.closed) durable) keys parts.1)

pub lead-joined : (in_flight : List KeyChanges) (queue : Queue) (updates : List Update) (counted : Bool) (durable keys : KeyMap)
    → LeadTo (in_flight ++ waiting queue) durable keys → LeadTo (in_flight ++ waiting (joined (changes_of updates keys) counted queue)) durable (with_updates updates keys)
lead-joined in_flight queue updates counted durable keys lead =
    let parts = lead-parts in_flight (waiting queue) durable keys lead in
    lead-append in_flight (waiting (joined (changes_of updates keys) counted queue)) durable (all_made in_flight durable) (with_updates updates keys) parts.0
    (lead_by queue updates counted (all_made in_flight durable) keys (closes updates queue) parts.1)

lead_taken_by : (closed : List Pending) (queue : Queue) (durable keys : KeyMap) → LeadTo (closed_changes closed ++ queue.open_entry.changes ∷ []) durable keys
    → LeadTo ((first_of closed queue.open_entry).changes ∷ waiting (left_by closed queue)) durable keys
lead_taken_by (entry ∷ later) queue durable keys lead = lead
lead_taken_by [] queue durable keys lead = lead-append (queue.open_entry.changes ∷ []) (no_changes ∷ []) durable keys keys lead (lead-none keys)

pub lead-taken : (queue : Queue) (durable keys : KeyMap) → LeadTo (waiting queue) durable keys → LeadTo ((oldest queue).changes ∷ waiting (without_oldest queue)) durable keys
lead-taken queue durable keys lead = lead_taken_by queue.closed queue durable keys lead

pub lead-settled : (changes : KeyChanges) (later : List KeyChanges) (durable keys : KeyMap) → LeadTo (changes ∷ later) durable keys → LeadTo later (with_updates changes.updates durable) keys
lead-settled changes later durable keys lead = record { made = lead.made.1; last = lead.last }

-- What waits is taken back as the open entry's changes and then the closed ones'.
pub undone-append : (first second : List KeyChanges) (keys : KeyMap) → undone (first ++ second) keys ≡ undone first (undone second keys)
undone-append [] second keys = refl
undone-append (changes ∷ first) second keys = ap (taken_back changes.updates changes.before) (undone-append first second keys)

pub undone-waiting : (queue : Queue) (keys : KeyMap) (updates : List Update) (before : List (Option Value)) → updates ≡ queue.open_entry.changes.updates → before ≡ queue.open_entry.changes.before
    → undone (closed_changes queue.closed) (taken_back updates before keys) ≡ undone (waiting queue) keys
undone-waiting queue keys updates before updates_are before_are =
    ap (λ (us : List Update). undone (closed_changes queue.closed) (taken_back us before keys)) updates_are
    ∙ ap (λ (vs : List (Option Value)). undone (closed_changes queue.closed) (taken_back queue.open_entry.changes.updates vs keys)) before_are
    ∙ sym (undone-append (closed_changes queue.closed) (queue.open_entry.changes ∷ []) keys)

-- The key map stays one when changes are taken back.
pub IsKeyMap-undone : (changes : List KeyChanges) (keys : KeyMap) → IsKeyMap keys → IsKeyMap (undone changes keys)
IsKeyMap-undone [] keys is = is
IsKeyMap-undone (changes ∷ later) keys is = IsKeyMap-taken_back changes.updates changes.before (undone later keys) (IsKeyMap-undone later keys is)

-- One more closed entry is taken back.
pub entry_more : (closed : List Pending) (keys : KeyMap) (btree : Btree) (node taken : Node) (count at done : ℕ) (entry : Pending) → IsKeyMap keys → count ≡ length closed → done < count → at ≡ count - 1 - done
    → entry ≡ slice_index_or closed at entry → IsPartOf (undone (closed_changes (drop (count - done) closed)) keys) btree node
    → ((k : KeyMap) → IsKeyMap k → IsPartOf k btree node → IsPartOf (taken_back entry.changes.updates entry.changes.before k) btree taken)
    → IsPartOf (undone (closed_changes (drop (count - (done + 1)) closed)) keys) btree taken
entry_more closed keys btree node taken count at done entry is count_is lt at_is entry_is part one =
    let here : suc at ≡ count - done = omega (arith, lt, at_is) in
    let next : at ≡ count - (done + 1) = omega (arith, lt, at_is) in
    let so_far : IsPartOf (undone (closed_changes (drop (suc at) closed)) keys) btree node = subst (λ n. IsPartOf (undone (closed_changes (drop n closed)) keys) btree node) (sym here) part in
    let taken_one = one (undone (closed_changes (drop (suc at) closed)) keys) (IsKeyMap-undone (closed_changes (drop (suc at) closed)) keys is) so_far in
    let entries : drop at closed ≡ entry ∷ drop (suc at) closed = drop_one closed at entry (omega (arith, lt, at_is, count_is)) ∙ ap (λ (e : Pending). e ∷ drop (suc at) closed) (sym entry_is) in
    subst (λ n. IsPartOf (undone (closed_changes (drop n closed)) keys) btree taken) next
    (subst (λ (es : List Pending). IsPartOf (undone (closed_changes es) keys) btree taken) (sym entries) taken_one)
