-- Which mark each entry leads to, said by the parts of a volume that it hangs on; and so it stays where an entry is put in flight, becomes durable, or takes a commit more.
use Rattle.std.proofs.Common.{◌≡◌, ◌≤◌, ◌+◌, ℕ, Bool, true, false, cond, Option, Some, None, List, [], ◌∷◌, ◌++◌, length, refl, sym, ap, subst, ◌∙◌, arith}
use Rattle.std.proofs.lemmas.List.{length-append, map-append}
use Rattle.std.specs.Prelude.{⊤, slice_get}
use Rattle.core_volume.specs.Volumes.{changes_in, in_flight}
use Rattle.journal_writer.specs.ChangeLaws.{all_made-append}
use Rattle.journal_writer.specs.Changes.{LeadTo, all_made, changes_of}
use Rattle.journal_writer.specs.Queues.{Queue, closed_changes, closes, first_of, follower_of, joined, left_by, oldest, waiting, waiting_entries, with_commit, without_oldest}
use Rattle.journal_writer.specs.declared.changes.KeyChanges.{KeyChanges}
use Rattle.journal_writer.specs.declared.changes.Pending.{Pending}
use Rattle.journal_writer.specs.Writers.{Writer, settled_by}
use Rattle.journal_writer.specs.declared.writer.Flight.{Flight}
use Rattle.node_writeback.specs.Durable.{undurable}
use Rattle.vol_session.specs.Marks.{AreMarked, IsMarkAt}
use Rattle.vol_types.specs.KeyMapLaws.{IsKeyMap-with_updates, with_updates-append}
use Rattle.vol_types.specs.KeyMaps.{IsKeyMap, KeyMap, with_updates}
use Rattle.vol_types.specs.declared.keys.Update.{Update}
use Rattle.vol_session.proofs.MarkedEntries.{get_pushed, keys_behind, mark_stays, marked_joined, marked_parts, marked_stays}

-- What an entry in flight leads to, if there is one, is a mark.
abbrev pub IsFlightMarked : List KeyMap → ℕ → KeyMap → Option Flight → Type 0
IsFlightMarked marks first durable None = ⊤
IsFlightMarked marks first durable (Some flight) = IsMarkAt marks first flight.entry.commits (with_updates flight.entry.changes.updates durable)

-- What `IsAtMarks` says, by these parts of a volume: the entry in flight, how many commits are durable, the entries that wait, and the keys.
pub record AreAtMarks (marks : List KeyMap) (first : ℕ) (flight : Option Flight) (commits : ℕ) (queue : Queue) (keys : KeyMap) : Type 0 where
  pub durable : KeyMap
  pub are_keys : IsKeyMap durable
  pub at : IsMarkAt marks first commits durable
  pub lead : LeadTo (changes_in flight ++ waiting queue) durable keys
  pub entries : AreMarked marks first durable (undurable (in_flight flight) queue)
  pub count : first + length marks ≡ queue.open_entry.commits + 1

module _ (marks : List KeyMap) (first : ℕ) (durable : KeyMap) where
  -- The entries that wait lead from mark to mark, from the keys behind the one in flight on.
  pub flight_parts : (flight : Option Flight) (queue : Queue) → AreMarked marks first durable (undurable (in_flight flight) queue)
      → IsFlightMarked marks first durable flight × AreMarked marks first (all_made (changes_in flight) durable) (waiting_entries queue)
  flight_parts None queue are = (tt, are)
  flight_parts (Some flight) queue are = (are.0, are.1)

  pub flight_joined : (flight : Option Flight) (queue : Queue) → IsFlightMarked marks first durable flight → AreMarked marks first (all_made (changes_in flight) durable) (waiting_entries queue)
      → AreMarked marks first durable (undurable (in_flight flight) queue)
  flight_joined None queue is are = are
  flight_joined (Some flight) queue is are = (is, are)

  pub flight_stays : (more : List KeyMap) (flight : Option Flight) → IsFlightMarked marks first durable flight → IsFlightMarked (marks ++ more) first durable flight
  flight_stays more None is = tt
  flight_stays more (Some flight) is = mark_stays marks first more flight.entry.commits (with_updates flight.entry.changes.updates durable) is

-- ---- an entry is put in flight

sealed_by : (marks : List KeyMap) (first oldest_needed commits mirrors : ℕ) (closed : List Pending) (open_entry : Pending) (keys : KeyMap) → AreAtMarks marks first None commits (record { mirrors = mirrors; closed = closed; open_entry = open_entry }) keys
    → AreAtMarks marks first (Some (record { entry = first_of closed open_entry; oldest = oldest_needed })) commits (left_by closed (record { mirrors = mirrors; closed = closed; open_entry = open_entry })) keys
sealed_by marks first oldest_needed commits mirrors [] open_entry keys are = record {
  durable = are.durable;
  are_keys = are.are_keys;
  at = are.at;
  lead = record { made = (are.lead.made.0, (refl, tt)); last = are.lead.last };
  entries = (are.entries.0, (are.entries.0, tt));
  count = are.count;
}
sealed_by marks first oldest_needed commits mirrors (entry ∷ later) open_entry keys are = record {
  durable = are.durable;
  are_keys = are.are_keys;
  at = are.at;
  lead = are.lead;
  entries = are.entries;
  count = are.count;
}

-- The oldest entry that waits is in flight.
pub sealed_at : (marks : List KeyMap) (first oldest_needed commits : ℕ) (queue : Queue) (keys : KeyMap) → AreAtMarks marks first None commits queue keys
    → AreAtMarks marks first (Some (record { entry = oldest queue; oldest = oldest_needed })) commits (without_oldest queue) keys
sealed_at marks first oldest_needed commits queue keys are = sealed_by marks first oldest_needed commits queue.mirrors queue.closed queue.open_entry keys are

-- ---- it becomes durable

-- The entry in flight, if there is one, is durable.
pub settled_at : (marks : List KeyMap) (first : ℕ) (flight : Option Flight) (writer : Writer) (queue : Queue) (keys : KeyMap) → writer.flight ≡ flight → AreAtMarks marks first flight writer.durable.commits queue keys
    → AreAtMarks marks first (settled_by flight writer).flight (settled_by flight writer).durable.commits queue keys
settled_at marks first None writer queue keys flies are = subst (λ (f : Option Flight). AreAtMarks marks first f writer.durable.commits queue keys) (sym flies) are
settled_at marks first (Some flight) writer queue keys flies are = record {
  durable = with_updates flight.entry.changes.updates are.durable;
  are_keys = IsKeyMap-with_updates flight.entry.changes.updates are.durable are.are_keys;
  at = are.entries.0;
  lead = record { made = are.lead.made.1; last = are.lead.last };
  entries = are.entries.1;
  count = are.count;
}

-- ---- it takes a commit more

-- a queue whose open entry is closed before changes join, or isn't
abbrev ready_by : Queue → Bool → Queue
ready_by queue close = cond close (record { mirrors = queue.mirrors; closed = queue.closed ++ queue.open_entry ∷ []; open_entry = follower_of queue.mirrors queue.open_entry }) queue

-- the queue with them
abbrev joined_by : KeyChanges → Queue → Bool → Queue
joined_by changes queue close = let ready = ready_by queue close in record { mirrors = ready.mirrors; closed = ready.closed; open_entry = with_commit changes true ready.open_entry }

commits_by : (changes : KeyChanges) (queue : Queue) (close : Bool) → (joined_by changes queue close).open_entry.commits ≡ queue.open_entry.commits + 1
commits_by changes queue true = refl
commits_by changes queue false = refl

-- The open entry has one commit more.
pub joined_commits : (changes : KeyChanges) (queue : Queue) → (joined changes true queue).open_entry.commits ≡ queue.open_entry.commits + 1
joined_commits changes queue = commits_by changes queue (closes changes.updates queue)

first_stays : (closed : List Pending) (open_entry next : Pending) → (first_of closed open_entry).commits ≤ (first_of (closed ++ open_entry ∷ []) next).commits
first_stays [] open_entry next = omega arith
first_stays (entry ∷ later) open_entry next = omega arith

first_grows : (changes : KeyChanges) (closed : List Pending) (open_entry : Pending) → (first_of closed open_entry).commits ≤ (first_of closed (with_commit changes true open_entry)).commits
first_grows changes [] open_entry = omega arith
first_grows changes (entry ∷ later) open_entry = omega arith

oldest_by : (changes : KeyChanges) (queue : Queue) (close : Bool) → (oldest queue).commits ≤ (oldest (joined_by changes queue close)).commits
oldest_by changes queue true = first_stays queue.closed queue.open_entry (with_commit changes true (follower_of queue.mirrors queue.open_entry))
oldest_by changes queue false = first_grows changes queue.closed queue.open_entry

-- The oldest entry has no fewer commits.
pub joined_oldest : (changes : KeyChanges) (queue : Queue) → (oldest queue).commits ≤ (oldest (joined changes true queue)).commits
joined_oldest changes queue = oldest_by changes queue (closes changes.updates queue)

-- ---- what is in memory

module _ (marks : List KeyMap) (first : ℕ) (flight : Option Flight) (commits : ℕ) (queue : Queue) (keys : KeyMap) (are : AreAtMarks marks first flight commits queue keys) where
  -- the keys behind the entry in flight, and those behind the closed entries
  abbrev flown_keys : KeyMap
  flown_keys = all_made (changes_in flight) are.durable

  abbrev closed_keys : KeyMap
  closed_keys = keys_behind queue.closed flown_keys

  flown_marked : IsFlightMarked marks first are.durable flight × AreMarked marks first flown_keys (waiting_entries queue)
  flown_marked = flight_parts marks first are.durable flight queue are.entries

  closed_marked : AreMarked marks first flown_keys queue.closed × AreMarked marks first closed_keys (queue.open_entry ∷ [])
  closed_marked = marked_parts marks first flown_keys queue.closed (queue.open_entry ∷ []) flown_marked.1

  keys_waiting : keys ≡ all_made (waiting queue) flown_keys
  keys_waiting = are.lead.last ∙ all_made-append (changes_in flight) (waiting queue) are.durable

  -- The keys in memory are those behind the open entry,
  keys_are : keys ≡ with_updates queue.open_entry.changes.updates closed_keys
  keys_are = keys_waiting ∙ all_made-append (closed_changes queue.closed) (queue.open_entry.changes ∷ []) flown_keys

  -- and those after all commits.
  pub memory_marked : IsMarkAt marks first queue.open_entry.commits keys
  memory_marked = subst (IsMarkAt marks first queue.open_entry.commits) (sym keys_are) closed_marked.1.0

  -- ---- one commit more

  module _ (updates : List Update) where
    abbrev new_keys : KeyMap
    new_keys = with_updates updates keys

    abbrev new_marks : List KeyMap
    new_marks = marks ++ new_keys ∷ []

    new_mark : IsMarkAt new_marks first (queue.open_entry.commits + 1) new_keys
    new_mark =
        let all = are.count in
        record {
          from = omega (arith, all);
          marked = subst (λ (place : ℕ). slice_get new_marks place ≡ Some new_keys) (omega (arith, all)) (get_pushed marks new_keys);
        }

    -- Where the open entry is closed, its keys are those in memory.
    open_closed : keys_behind (queue.closed ++ queue.open_entry ∷ []) flown_keys ≡ keys
    open_closed = ap (λ (changes : List KeyChanges). all_made changes flown_keys) (map-append (λ (entry : Pending). entry.changes) queue.closed (queue.open_entry ∷ [])) ∙ sym keys_waiting

    -- Where it isn't, the updates join its own.
    open_joined : with_updates (queue.open_entry.changes.updates ++ updates) closed_keys ≡ new_keys
    open_joined = with_updates-append queue.open_entry.changes.updates updates closed_keys ∙ ap (with_updates updates) (sym keys_are)

    waiting_by : (close : Bool) → AreMarked new_marks first flown_keys (waiting_entries (joined_by (changes_of updates keys) queue close))
    waiting_by true =
        marked_joined new_marks first flown_keys (queue.closed ++ queue.open_entry ∷ []) (with_commit (changes_of updates keys) true (follower_of queue.mirrors queue.open_entry) ∷ [])
        (marked_stays marks first (new_keys ∷ []) flown_keys (queue.closed ++ queue.open_entry ∷ []) flown_marked.1)
        (subst (λ (k : KeyMap). IsMarkAt new_marks first (queue.open_entry.commits + 1) (with_updates updates k)) (sym open_closed) new_mark, tt)
    waiting_by false =
        marked_joined new_marks first flown_keys queue.closed (with_commit (changes_of updates keys) true queue.open_entry ∷ [])
        (marked_stays marks first (new_keys ∷ []) flown_keys queue.closed closed_marked.0)
        (subst (IsMarkAt new_marks first (queue.open_entry.commits + 1)) (sym open_joined) new_mark, tt)

    -- What it leads to is one mark more.
    pub joined_at : LeadTo (changes_in flight ++ waiting (joined (changes_of updates keys) true queue)) are.durable new_keys
        → AreAtMarks new_marks first flight commits (joined (changes_of updates keys) true queue) new_keys
    joined_at lead = record {
      durable = are.durable;
      are_keys = are.are_keys;
      at = mark_stays marks first (new_keys ∷ []) commits are.durable are.at;
      lead = lead;
      entries = flight_joined new_marks first are.durable flight (joined (changes_of updates keys) true queue) (flight_stays marks first are.durable (new_keys ∷ []) flight flown_marked.0) (waiting_by (closes updates queue));
      count =
          let one = joined_commits (changes_of updates keys) queue in
          let all = are.count in
          let more = length-append marks (new_keys ∷ []) in
          omega (arith, one, all, more);
    }
