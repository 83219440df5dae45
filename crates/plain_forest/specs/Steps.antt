-- How names lead through a tree, and which new names and numbers there may be.
use Rattle.std.specs.Prelude.{◌≡◌, ℕ, ◌+◌, ◌*◌, ◌^◌, Bool, true, false, nat_le, ◌==◌, List, [], ◌∷◌, count_by, slice_index, is_some, Result, Ok, Err}
use Rattle.std.specs.Option.{ok_or}
use Rattle.std.specs.Ordering.{nat_cmp}
use Rattle.vol_digest.specs.Digests.{slot_of}
use Rattle.plain_forest.specs.Maps.{name_cmp, value_at}
use Rattle.plain_forest.specs.Forest.{Names, Tree, Forest}
use Rattle.plain_forest.specs.declared.operation.Cause.{Cause}
use Rattle.plain_forest.specs.declared.operation.Cause.TheVariants.{NotFound, NotDir, Exists, Crowded}

infixl 10 ◌>>=◌
-- one thing after another, up to the first refusal
abbrev pub ◌>>=◌ : {A B : Type 0} → Result A Cause → (A → Result B Cause) → Result B Cause
(Ok x) >>= f = f x
(Err cause) >>= f = Err cause

-- a refusal where the test holds
abbrev pub refused_if : Bool → Cause → Result (Unit {0}) Cause
refused_if true cause = Err cause
refused_if false cause = Ok tt

-- the names of a directory; a file has none
abbrev pub names_in : Tree → ℕ → Result Names Cause
names_in tree number = ok_or (value_at nat_cmp number tree.directories) NotDir

-- where a name of an inode leads
abbrev pub step : Tree → ℕ → List ℕ → Result ℕ Cause
step tree number name = do
  names ← names_in tree number
  ok_or (value_at name_cmp name names) NotFound

-- where the names lead from an inode
abbrev pub walk : Tree → List (List ℕ) → ℕ → Result ℕ Cause
walk tree [] number = Ok number
walk tree (name ∷ names) number = do
  next ← step tree number name
  walk tree names next

-- how many names of a directory may have one slot
abbrev pub names_per_slot : ℕ
names_per_slot = 8

-- how many names of a directory have this slot
abbrev pub count_in_slot : ℕ → Names → ℕ
count_in_slot slot names = count_by (λ entry. slot_of entry.0 == slot) names

-- how many numbers a client has
abbrev pub numbers_per_client : ℕ
numbers_per_client = 2 ^ 48

-- whether a directory takes a new name: it isn't there, and its slot has room
abbrev pub check_name : List ℕ → Names → Result (Unit {0}) Cause
check_name name names = do
  _ ← refused_if (is_some (value_at name_cmp name names)) Exists
  refused_if (nat_le names_per_slot (count_in_slot (slot_of name) names)) Crowded

-- the number that the next inode of a client gets
abbrev pub next_number : ℕ → Forest → ℕ
next_number client forest = client * numbers_per_client + slice_index forest.next client
