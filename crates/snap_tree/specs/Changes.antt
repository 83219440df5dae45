-- The changes that updates make to the records, each id once, and how the rest is kept in step with them.
use Rattle.std.specs.Prelude.{◌≡◌, ◌<◌, ◌^◌, ◌⊎◌, ◌==◌, ◌&&◌, not, ℕ, Bool, true, false, Option, Some, None, IsSome, is_some, List, ⊤, if◌then◌else◌}
use Rattle.std.specs.Ordering.{nat_cmp}
use Rattle.vol_types.specs.Maps.{IsMap, value_at}
use Rattle.vol_types.specs.declared.keys.Update.{Update}
use Rattle.vol_types.specs.declared.values.Snap.{Snap}
use Rattle.snap_tree.specs.Snaps.{Snaps, is_live, is_joined}
use Rattle.snap_tree.specs.Updates.{is_of_snaps}
use Rattle.snap_tree.specs.Names.{Pairs, has_pair, has_id, names}
use Rattle.snap_tree.specs.Links.{AllLinks}
use Rattle.snap_tree.specs.declared.links.Links.{Links}
use Rattle.snap_tree.specs.declared.change.Change.{Change}

-- the id that an update changes, if it changes one
abbrev pub changed_id : Update → Option ℕ
changed_id update = if is_of_snaps update then Some update.pos.offset else None

-- how many live leaves a record that may be none is
abbrev pub live_of : Option Snap → ℕ
live_of None = 0
live_of (Some snap) = if is_live snap.state then 1 else 0

-- the ids that are changed, in rising order, each with the record that it had and the one that it gets
abbrev pub Changes : Type 0
Changes = List (ℕ × Change)

-- The changes lead from the old records to the new ones: those of changed ids are told, and all others stay.
pub record Leads (old new : Snaps) (changes : Changes) : Type 0 where
  pub was : (id : ℕ) (change : Change) → value_at nat_cmp id changes ≡ Some change → change.old ≡ value_at nat_cmp id old
  pub gets : (id : ℕ) (change : Change) → value_at nat_cmp id changes ≡ Some change → change.new ≡ value_at nat_cmp id new
  pub same : (id : ℕ) → value_at nat_cmp id changes ≡ None → value_at nat_cmp id new ≡ value_at nat_cmp id old

-- Each id is a number of 32 bits.
abbrev pub AreSmall : Snaps → Type 0
AreSmall snaps = (id : ℕ) → IsSome (value_at nat_cmp id snaps) → id < 2 ^ 32

-- All ids whose records name an id are changed.
abbrev pub IsLetGo : Pairs → Changes → ℕ → Type 0
IsLetGo pairs changes id = (namer : ℕ) → namer < 2 ^ 32 → has_pair pairs id namer ≡ true → IsSome (value_at nat_cmp namer changes)

-- The record of an id that isn't changed names an id.
pub record IsHeld (pairs : Pairs) (changes : Changes) (id : ℕ) : Type 0 where
  pub namer : ℕ
  pub named : has_pair pairs id namer ≡ true
  pub stays : value_at nat_cmp namer changes ≡ None

-- The record that an id gets is joined to those that it names; where it gets none, all that name it are changed.
abbrev pub FitsIn : Snaps → Pairs → Changes → ℕ → Option Snap → Type 0
FitsIn new pairs changes id None = IsLetGo pairs changes id
FitsIn new pairs changes id (Some snap) = is_joined new id snap ≡ true

-- A change of an id, if there is one, fits the records that all changes lead to.
abbrev pub ChangeFits : Snaps → Pairs → Changes → ℕ → Option Change → Type 0
ChangeFits new pairs changes id None = ⊤
ChangeFits new pairs changes id (Some change) = FitsIn new pairs changes id change.new

-- whether a record makes an id new, or gives it another parent than the one before does
abbrev pub is_moved_from : Option Snap → Snap → Bool
is_moved_from None new = true
is_moved_from (Some old) new = not (old.parent == new.parent)

-- whether a record that may be none does so
abbrev pub is_moved_to : Option Snap → Option Snap → Bool
is_moved_to old None = false
is_moved_to old (Some new) = is_moved_from old new

-- whether a change does so, if there is one
abbrev pub is_moved : Option Change → Bool
is_moved None = false
is_moved (Some change) = is_moved_to change.old change.new

-- Each id that is new or gets another parent is one of some.
abbrev pub HasMoved : Changes → List ℕ → Type 0
HasMoved changes ids = (id : ℕ) → is_moved (value_at nat_cmp id changes) ≡ true → has_id ids id ≡ true

-- The id is there, and has this parent, which isn't 0.
pub record IsChildOf (snaps : Snaps) (parent id : ℕ) : Type 0 where
  pub snap : Snap
  pub found : value_at nat_cmp id snaps ≡ Some snap
  pub under : snap.parent ≡ parent
  pub some : ¬ (parent ≡ 0)

-- The id has a parent, which is one of some.
pub record IsUnder (snaps : Snaps) (ids : List ℕ) (id : ℕ) : Type 0 where
  pub parent : ℕ
  pub child : IsChildOf snaps parent id
  pub among : has_id ids parent ≡ true

-- If an id is one of some, those whose parent it is are too.
abbrev pub HasChildren : Snaps → List ℕ → ℕ → Type 0
HasChildren snaps ids parent = has_id ids parent ≡ true → (id : ℕ) → IsChildOf snaps parent id → has_id ids id ≡ true

-- The id is new or gets another parent, or its parent is one of some.
abbrev pub IsBelowMoved : Snaps → Changes → List ℕ → ℕ → Type 0
IsBelowMoved snaps changes ids id = (is_moved (value_at nat_cmp id changes) ≡ true) ⊎ IsUnder snaps ids id

-- the record that an id has after its change, or before it
abbrev pub picked : Bool → Change → Option Snap
picked true change = change.new
picked false change = change.old

-- the record that a change gives an id, if there is one and it gives one
abbrev pub given : Option Change → Option Snap
given None = None
given (Some change) = change.new

-- whether a change, if there is one, makes an id new
abbrev pub is_new : Option Change → Bool
is_new None = false
is_new (Some change) = not (is_some change.old)

-- Each change tells what its id has.
abbrev pub Tells : Snaps → Changes → Type 0
Tells snaps changes = (id : ℕ) (change : Change) → value_at nat_cmp id changes ≡ Some change → change.old ≡ value_at nat_cmp id snaps

-- Room for changes is made: ids that they make new may be there, what records name that they give may be noted, and no
-- link is lost; and ids that get no record get no links.
pub record IsEntered (changes : Changes) (old now : Snaps) (was pairs : Pairs) (before links : AllLinks) : Type 0 where
  pub rises : IsMap nat_cmp now
  pub others : (id : ℕ) → is_new (value_at nat_cmp id changes) ≡ false → value_at nat_cmp id now ≡ value_at nat_cmp id old
  pub there : (id : ℕ) → IsSome (value_at nat_cmp id old) → IsSome (value_at nat_cmp id now)
  pub kept : (named namer : ℕ) → has_pair was named namer ≡ true → has_pair pairs named namer ≡ true
  pub only : (named namer : ℕ) → has_pair pairs named namer ≡ true → (has_pair was named namer ≡ true) ⊎ (names named (given (value_at nat_cmp namer changes)) ≡ true)
  pub linked : (id : ℕ) → IsSome (value_at nat_cmp id before) → value_at nat_cmp id links ≡ value_at nat_cmp id before
  pub fewer : (id : ℕ) → IsSome (value_at nat_cmp id links) → IsSome (value_at nat_cmp id before) ⊎ IsSome (given (value_at nat_cmp id changes))

-- There is room for the record that an id gets, for its links and for what it names.
pub record HasRoom (now : Snaps) (pairs : Pairs) (links : AllLinks) (id : ℕ) (gets : Option Snap) : Type 0 where
  pub there : IsSome gets → IsSome (value_at nat_cmp id now)
  pub linked : IsSome gets → IsSome (value_at nat_cmp id links)
  pub named : (named : ℕ) → names named gets ≡ true → has_pair pairs named id ≡ true

-- the links of an id that has this record, or none, which has no links
abbrev pub linked_if : Option Snap → Option Links → Option Links
linked_if None links = None
linked_if (Some snap) links = links

-- An id has the record that its change picks, and what the other one names is dropped, and its links if it has no record;
-- without a change all is as it was.
abbrev pub SettledAt : Bool → Snaps → Snaps → Pairs → Pairs → AllLinks → AllLinks → ℕ → Option Change → Type 0
SettledAt forth old now was pairs before links id None =
    (value_at nat_cmp id now ≡ value_at nat_cmp id old) × ((named : ℕ) → has_pair pairs named id ≡ has_pair was named id) × (value_at nat_cmp id links ≡ value_at nat_cmp id before)
SettledAt forth old now was pairs before links id (Some change) =
    (value_at nat_cmp id now ≡ picked forth change)
    × ((named : ℕ) → has_pair pairs named id ≡ (has_pair was named id && not (names named (picked (not forth) change) && not (names named (picked forth change)))))
    × (value_at nat_cmp id links ≡ linked_if (picked forth change) (value_at nat_cmp id before))

-- An id has room for the record that its change picks.
abbrev pub IsReady : Bool → Snaps → ℕ → Option Change → Type 0
IsReady forth now id None = ⊤
IsReady forth now id (Some change) = IsSome (picked forth change) → IsSome (value_at nat_cmp id now)
